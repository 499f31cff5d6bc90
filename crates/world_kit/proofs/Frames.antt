-- What a deed leaves of what a world stands for, and what it changes.
use Rattle.std.proofs.Common.{◌≡◌, ◌≢◌, ℕ, ◌+◌, ◌<◌, ◌≤◌, inl, inr, List, [], ◌∷◌, ◌++◌, length, length-set, slice_get, slice_index, Some, refl, sym, ap, subst, ◌∙◌, arith}
use Rattle.std.proofs.Math.ListN.{set}
use Rattle.std.proofs.lemmas.Bool.{eq-eqb, ne_eqb}
use Rattle.std.proofs.lemmas.List.{length_push}
use Rattle.std.proofs.lemmas.Option.{slice_get_within}
use Rattle.agg_kit.specs.Entries.{Entry}
use Rattle.gossip_kit.specs.Views.{MessageModel, NodeModel}
use Rattle.point_kit.specs.declared.export.Export.{Export}
use Rattle.schedule_kit.specs.Deeds.{Made, acts_of, made, mails, mail_of}
use Rattle.schedule_kit.specs.Deeds.Holder.{AtGateway}
use Rattle.schedule_kit.specs.Schedule.{Act}
use Rattle.schedule_kit.specs.Taken.{made_of}
use Rattle.world_kit.proofs.Places.{in_set, in_push}
use Rattle.world_kit.specs.declared.setup.Setup.{Setup}
use Rattle.world_kit.specs.Judged.{Deeds}
use Rattle.world_kit.specs.Setups.{writer_at, starts_of}
use Rattle.world_kit.specs.Stands.{WriterStands, WritersStand, NodesStand, ExportsStand, MailStands, MailsStand}
use Rattle.world_kit.specs.States.{IsExportOf, state_at}
use Rattle.writer_kit.specs.Written.{Written}

module _ (s : Setup) (old new : Deeds) where
  -- no writer did anything
  pub writers_same : (ws : List Written) → ((i : ℕ) → acts_of i new ≡ acts_of i old) → WritersStand s old ws → WritersStand s new ws
  writers_same ws same st = record { count = st.count; each = λ i w e. subst (λ (acts : List (Act Entry)). WriterStands (writer_at s i) acts w) (sym (same i)) (st.each i w e) }

  -- one writer did something
  pub writers_set : (ws : List Written) (v : ℕ) (w : Written) → ((i : ℕ) → i ≢ v → acts_of i new ≡ acts_of i old) → WriterStands (writer_at s v) (acts_of v new) w → WritersStand s old ws → WritersStand s new (set ws v w)
  writers_set ws v w others its st = record {
    count = length-set ws v w ∙ st.count;
    each = λ i x e. elim (in_set ws v w i x e) [
      | inl here ↦ subst (λ (j : ℕ). WriterStands (writer_at s j) (acts_of j new) x) here.0 (subst (WriterStands (writer_at s v) (acts_of v new)) (sym here.1) its)
      | inr other ↦ subst (λ (acts : List (Act Entry)). WriterStands (writer_at s i) acts x) (sym (others i other.0)) (st.each i x other.1)
    ];
  }

  -- no gateway took anything
  pub nodes_same : (ns : List NodeModel) → ((g : ℕ) → state_at s new (AtGateway g) ≡ state_at s old (AtGateway g)) → NodesStand s old ns → NodesStand s new ns
  nodes_same ns same st = record { count = st.count; id = st.id; points = λ g n e. st.points g n e ∙ sym (same g) }

  -- one gateway took something
  pub nodes_set : (ns : List NodeModel) (h : ℕ) (was is : NodeModel) → slice_get ns h ≡ Some was → is.gateway.id ≡ was.gateway.id → is.gateway.points ≡ state_at s new (AtGateway h)
      → ((g : ℕ) → g ≢ h → state_at s new (AtGateway g) ≡ state_at s old (AtGateway g)) → NodesStand s old ns → NodesStand s new (set ns h is)
  nodes_set ns h was is there same_id its others st = record {
    count = length-set ns h is ∙ st.count;
    id = λ g n e. elim (in_set ns h is g n e) [
      | inl here ↦ ap (λ (x : NodeModel). x.gateway.id) here.1 ∙ same_id ∙ st.id h was there ∙ ap (slice_index s.gateways) here.0
      | inr other ↦ st.id g n other.1
    ];
    points = λ g n e. elim (in_set ns h is g n e) [
      | inl here ↦ ap (λ (x : NodeModel). x.gateway.points) here.1 ∙ its ∙ ap (λ v. state_at s new (AtGateway v)) here.0
      | inr other ↦ st.points g n other.1 ∙ sym (others g other.0)
    ];
  }

  -- no export was made
  pub exports_same : (es : List Export) → made (starts_of s) new ≡ made (starts_of s) old → ExportsStand s old es → ExportsStand s new es
  exports_same es same st = record {
    count = st.count ∙ ap length (sym same);
    each = λ k e i. let r = st.each k e i in (r.0, ap (λ l. made_of l (k + 1)) same ∙ r.1, r.2);
  }

  mail_same : (n : ℕ) (m : MessageModel) → mail_of new n ≡ mail_of old n → MailStands s old n m → MailStands s new n m
  mail_same n m same_mail st = record {
    mail = st.mail;
    known = same_mail ∙ st.known;
    from = st.from;
    to = st.to;
    there = st.there;
  }

  -- no mail was made
  pub mails_same : (ms : List MessageModel) → mails new ≡ mails old → ((n : ℕ) → n ≤ mails old → mail_of new n ≡ mail_of old n) → MailsStand s old ms → MailsStand s new ms
  mails_same ms count same_mail st = record {
    count = st.count ∙ sym count;
    each = λ k m e. let inside : k < length ms = slice_get_within ms k m e in let c = st.count in
        mail_same (k + 1) m (same_mail (k + 1) (omega arith)) (st.each k m e);
  }

  -- one was made
  pub mails_more : (ms : List MessageModel) (m : MessageModel) → mails new ≡ mails old + 1 → ((n : ℕ) → n ≤ mails old → mail_of new n ≡ mail_of old n)
      → MailStands s new (mails old + 1) m → MailsStand s old ms → MailsStand s new (ms ++ m ∷ [])
  mails_more ms m count same_mail its st = record {
    count = length_push ms m ∙ ap (λ n. n + 1) st.count ∙ sym count;
    each = λ k x e. elim (in_push ms m k x e) [
      | inl last ↦ subst (λ (n : ℕ). MailStands s new n x) (sym (ap (λ n. n + 1) (last.0 ∙ st.count))) (subst (MailStands s new (mails old + 1)) (sym last.1) its)
      | inr known ↦ let inside : k < length ms = slice_get_within ms k x known in let c = st.count in
          mail_same (k + 1) x (same_mail (k + 1) (omega arith)) (st.each k x known)
    ];
  }

  -- one export was made
  pub exports_more : (es : List Export) (e : Export) (m : Made Entry) → made (starts_of s) new ≡ m ∷ made (starts_of s) old → m.number ≡ length (made (starts_of s) old) + 1 → IsExportOf s m e → ExportsStand s old es → ExportsStand s new (es ++ e ∷ [])
  exports_more es e m more number its st = record {
    count = length_push es e ∙ ap (λ n. n + 1) st.count ∙ sym (ap length more ∙ longer);
    each = λ k x i. elim (in_push es e k x i) [
      | inl last ↦
          let at : k + 1 ≡ m.number = ap (λ n. n + 1) (last.0 ∙ st.count) ∙ sym number in
          (m, ap (λ l. made_of l (k + 1)) more ∙ found (made (starts_of s) old) (k + 1) (sym at), subst (IsExportOf s m) (sym last.1) its)
      | inr known ↦
          let r = st.each k x known in
          let inside : k < length es = slice_get_within es k x known in
          let c = st.count in
          (r.0, ap (λ l. made_of l (k + 1)) more ∙ passed (made (starts_of s) old) (k + 1) (omega arith) ∙ r.1, r.2)
    ];
  }
    where
      longer : length (m ∷ made (starts_of s) old) ≡ length (made (starts_of s) old) + 1
      longer = omega arith

      found : (ms : List (Made Entry)) (n : ℕ) → m.number ≡ n → made_of (m ∷ ms) n ≡ Some m
      found ms n h = rw (eq-eqb m.number n h) refl

      passed : (ms : List (Made Entry)) (n : ℕ) → n < m.number → made_of (m ∷ ms) n ≡ made_of ms n
      passed ms n h = rw (ne_eqb m.number n (omega arith)) refl
