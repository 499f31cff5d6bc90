-- One more step leads from what stands to what stands, whatever it is; so does every history.
use Rattle.std.proofs.Common.{◌≡◌, ℕ, ◌+◌, ◌<◌, Bool, true, false, cond, if◌then◌else◌, ◌==◌, ◌⊎◌, inl, inr, List, [], ◌∷◌, ◌++◌, Option, Some, None, refl, sym, ap, subst, ◌∙◌, arith, true≢false}
use Rattle.std.proofs.lemmas.Bool.{eqb-true, eq-eqb, ne_eqb}
use Rattle.std.specs.FinMap.{get, get-empty, empty}
use Rattle.std.specs.List.{filter_map}
use Rattle.std.specs.Option.{option_map}
use Rattle.std.specs.Ordering.{nat_cmp}
use Rattle.archive_kit.proofs.Forgetting.{forgotten}
use Rattle.archive_kit.proofs.Showing.{skipped}
use Rattle.archive_kit.proofs.Tombstones.{names_no_tombstone}
use Rattle.archive_kit.specs.Tombstones.{names_key}
use Rattle.archive_world_kit.proofs.Gossip.{books_after, sent_brings}
use Rattle.archive_world_kit.proofs.Numbers.{delta_is, drops, numbered_held, renumbers}
use Rattle.archive_world_kit.proofs.Shown.{S, below_same, congruent, plain_below}
use Rattle.archive_world_kit.proofs.Standing.{At, Has, Claimed, Joined, MailStands, MailsGo, NodeMoves, Stands, claim_moves, each_node, goes_on, grows_by, id_of, node_stays, shows_by}
use Rattle.archive_kit.specs.Stepping.{Joins}
use Rattle.archive_world_kit.specs.Steps.{Step, Writing, Seen, deeds, rounding, Takes, Hears, Sends, IsBegun, Forgets, AllStay, OthersStay, HaveHappened}
use Rattle.archive_kit.specs.Stepping.{Joins}
use Rattle.archive_world_kit.specs.Steps.Step.{Did, Forgot}
use Rattle.gateway_kit.proofs.Entries.{not_None, same_Some}
use Rattle.gossip_kit.specs.Gossip.{answer_of, numbered_to}
use Rattle.gossip_kit.specs.Views.{MessageModel, NodeModel}
use Rattle.point_kit.proofs.EqualityLaws.{payload_equivalence, payload_exact}
use Rattle.point_kit.proofs.OrderLaws.{key_total, key_exact}
use Rattle.point_kit.proofs.PointLaws.{points_above, points_idempotent}
use Rattle.point_kit.specs.Equality.{payload_eq}
use Rattle.point_kit.specs.Exports.{Points, join_points, state}
use Rattle.point_kit.specs.Join.{IsAtOrBelow, join_cells}
use Rattle.point_kit.specs.Orders.{key_cmp}
use Rattle.point_kit.specs.States.{state_of}
use Rattle.schedule_kit.proofs.Stable.{taken_stable}
use Rattle.schedule_kit.proofs.Steps as steps
use Rattle.schedule_kit.specs.Deeds.{Deed, Holder, Mail, answer_to, is_to, made, mails, mail_of, took, AreLawful}
use Rattle.schedule_kit.specs.Deeds.Deed.{Wrote, Delivered, Merged, Sent, Handed}
use Rattle.schedule_kit.specs.Deeds.Holder.{AtGateway, InMail}
use Rattle.schedule_kit.specs.Rounds as rounds
use Rattle.schedule_kit.specs.Schedule.{Act}
use Rattle.schedule_kit.specs.Schedule.Act.{Measured, Collected, Restarted}
use Rattle.schedule_kit.specs.Taken.{made_of, taken_collections}

-- the mail of a number that was handed, where it was sent to gateway g
its_mail : (g : ℕ) (o : Option Mail) → is_to g o ≡ true → (mail : Mail) × (o ≡ Some mail) × (mail.to ≡ g)
its_mail g None is = absurd (true≢false (sym is))
its_mail g (Some mail) is = (mail, refl, eqb-true mail.to g is)

-- of an answer: what it answers
answered_by : (node : NodeModel) (m answer : MessageModel) → answer_of node m ≡ Some answer
    → (n : ℕ) × (m.delta ≡ Some n) × (answer ≡ record { from = node.gateway.id; to = m.from; points = empty; delta = None; ack = Some n })
answered_by node m answer is = go m.delta refl
  where
    go : (o : Option ℕ) → m.delta ≡ o → (n : ℕ) × (m.delta ≡ Some n) × (answer ≡ record { from = node.gateway.id; to = m.from; points = empty; delta = None; ack = Some n })
    go None e = absurd (not_None (sym (ap (λ (o : Option ℕ). option_map (λ n. record { from = node.gateway.id; to = m.from; points = empty; delta = None; ack = Some n }) o) e) ∙ is))
    go (Some n) e = (n, e, sym (same_Some (sym (ap (λ (o : Option ℕ). option_map (λ n. record { from = node.gateway.id; to = m.from; points = empty; delta = None; ack = Some n }) o) e) ∙ is)))

module _ {N : Type 0} (s : Writing N) (starts : List ℕ) (seen : Seen N) (gateways : ℕ) (fits : ℕ → List N → N → Bool) where
  abbrev Stand : List (Step N) → Type 0
  Stand ss = Stands s starts seen gateways ss

  abbrev A : List (Step N) → Holder → Points
  A ss h = At s starts seen gateways ss h

  abbrev H : List (Step N) → ℕ → Points
  H ss g = Has s starts seen gateways ss g

  -- a node that joined points, with books that say no more
  joins_node : (ss : List (Step N)) (d : Step N) (g : ℕ) (p : Points) → Joins p (seen.node ss g).acked (seen.node ss g) (seen.node (d ∷ ss) g) → NodeMoves s starts seen gateways ss d g
  joins_node ss d g p is = record {
    moves = renumbers (seen.node ss g) (seen.node (d ∷ ss) g) is.numbers;
    id = is.id;
    books = λ h k there has. inl (ap (λ b. get b (id_of s starts seen gateways h)) (sym is.acked) ∙ has);
  }

  module _ (ss : List (Step N)) (st : Stand ss) where
    abbrev ds : List (Deed N)
    ds = deeds ss

    -- a writer's event changes no node
    taken_same : (w : ℕ) (act : Act N) (h : Holder) → AreLawful fits starts gateways ds → taken_collections starts (Wrote w act ∷ ds) h ≡ taken_collections starts ds h
    taken_same w (Measured e) (AtGateway g) l = refl
    taken_same w (Measured e) (InMail n) l = refl
    taken_same w (Restarted start) (AtGateway g) l = refl
    taken_same w (Restarted start) (InMail n) l = refl
    taken_same w (Collected time closing) h l = taken_stable fits starts gateways ds w time closing l h

    wrote : (w : ℕ) (act : Act N) → AreLawful fits starts gateways ds → AllStay s starts seen ss (Did (Wrote w act)) → Stand (Did (Wrote w act) ∷ ss)
    wrote w act l stay =
        let d : Step N = Did (Wrote w act) in
        let same : (h : Holder) → A (d ∷ ss) h ≡ A ss h = λ h. ap (rounds.state (rounding s)) (taken_same w act h l) in
        goes_on s starts seen gateways ss d st (λ g. node_stays s starts seen gateways ss d g (stay g))
        (λ g. ap (λ (n : NodeModel). S n.gateway.points) (stay g) ∙ st.shows g ∙ ap S (sym (same (AtGateway g))))
        (λ g. subst (λ (x : Points). IsAtOrBelow join_points (A ss (AtGateway g)) x) (sym (same (AtGateway g))) (points_idempotent (A ss (AtGateway g))))
        (λ k past. st.unmade k past) (λ k mail is. inl (is, same (InMail k)))

    -- an export came to a node, which took its points or left them out
    delivered : (x g : ℕ) → Takes s starts seen ds x (seen.node ss g) (seen.node (Did (Delivered x g) ∷ ss) g) → OthersStay s starts seen ss (Did (Delivered x g)) g → Stand (Did (Delivered x g) ∷ ss)
    delivered x g is others =
        let d : Step N = Did (Delivered x g) in
        let m = is.0.0 in
        let p : Points = rounds.state (rounding s) (m ∷ []) in
        let same : state (seen.export x ∷ []) ≡ p = ap (λ ps. state_of key_cmp payload_eq (ps ++ [])) is.0.2 in
        let joined : Joined s starts seen gateways ss d g p = λ h. steps.delivered_at key_total key_exact payload_eq payload_equivalence payload_exact (rounds.points (rounding s)) starts ds x g h m is.0.1 in
        let own : NodeMoves s starts seen gateways ss d g = elim is.1 [
          | inl joins ↦ joins_node ss d g (state (seen.export x ∷ [])) joins
          | inr skips ↦ node_stays s starts seen gateways ss d g skips.same
        ] in
        let shows : S (H (d ∷ ss) g) ≡ S (join_points (A ss (AtGateway g)) p) = elim is.1 [
          | inl joins ↦ ap S joins.points ∙ congruent (H ss g) (state (seen.export x ∷ [])) (A ss (AtGateway g)) p (st.shows g) (ap S same)
          | inr skips ↦
              ap (λ (n : NodeModel). S n.gateway.points) skips.same
              ∙ sym (skipped key_total key_exact names_key names_no_tombstone (join_cells payload_eq) (H ss g) (state (seen.export x ∷ [])) skips.hidden)
              ∙ congruent (H ss g) (state (seen.export x ∷ [])) (A ss (AtGateway g)) p (st.shows g) (ap S same)
        ] in
        goes_on s starts seen gateways ss d st (each_node s starts seen gateways ss d g own others) (shows_by s starts seen gateways ss d g p joined shows others st)
        (grows_by s starts seen gateways ss d g p joined) (λ k past. st.unmade k past) (λ k mail is. inl (is, refl))

    -- a node joined what another held
    merged : (into from : ℕ) → Joins (seen.node ss from).gateway.points (seen.node ss into).acked (seen.node ss into) (seen.node (Did (Merged into from) ∷ ss) into)
        → OthersStay s starts seen ss (Did (Merged into from)) into → Stand (Did (Merged into from) ∷ ss)
    merged into from is others =
        let d : Step N = Did (Merged into from) in
        let p : Points = A ss (AtGateway from) in
        let joined : Joined s starts seen gateways ss d into p = λ h. steps.merged_at key_total key_exact payload_eq payload_equivalence payload_exact (rounds.points (rounding s)) starts ds into from h in
        let shows : S (H (d ∷ ss) into) ≡ S (join_points (A ss (AtGateway into)) p) = ap S is.points ∙ congruent (H ss into) (H ss from) (A ss (AtGateway into)) p (st.shows into) (st.shows from) in
        goes_on s starts seen gateways ss d st (each_node s starts seen gateways ss d into (joins_node ss d into (H ss from) is) others) (shows_by s starts seen gateways ss d into p joined shows others st)
        (grows_by s starts seen gateways ss d into p joined) (λ k past. st.unmade k past) (λ k mail is. inl (is, refl))

    -- a node forgot what it hides
    forgets : (g : ℕ) (gone : _) → Forgets s starts seen gone (seen.node ss g) (seen.node (Forgot g gone ∷ ss) g) → OthersStay s starts seen ss (Forgot g gone) g → Stand (Forgot g gone ∷ ss)
    forgets g gone is others =
        let d : Step N = Forgot g gone in
        let own : NodeMoves s starts seen gateways ss d g = record {
          moves = drops gone (seen.node ss g) (seen.node (d ∷ ss) g) is.1;
          id = is.1.id;
          books = λ h k there has. inl (ap (λ b. get b (id_of s starts seen gateways h)) (sym is.1.acked) ∙ has);
        } in
        goes_on s starts seen gateways ss d st (each_node s starts seen gateways ss d g own others)
        (λ h. go h (g == h) refl)
        (λ h. points_idempotent (A ss (AtGateway h))) (λ k past. st.unmade k past) (λ k mail is. inl (is, refl))
      where
        go : (h : ℕ) (b : Bool) → (g == h) ≡ b → S (H (Forgot g gone ∷ ss) h) ≡ S (A ss (AtGateway h))
        go h true e = subst (λ v. S (H (Forgot g gone ∷ ss) v) ≡ S (A ss (AtGateway v))) (eqb-true g h e)
            (ap S is.1.points ∙ forgotten key_total key_exact names_key names_no_tombstone gone (H ss g) is.0 ∙ st.shows g)
        go h false e = ap (λ (n : NodeModel). S n.gateway.points) (others h (λ same. true≢false (sym (eq-eqb g h (sym same)) ∙ e))) ∙ st.shows h

    -- a node made a mail for another
    module _ (from to : ℕ) (there : (from < gateways) × (to < gateways)) (is : Sends (seen.node ss from) (seen.node ss to).gateway.id (seen.mail (mails (deeds ss) + 1)))
        (stay : AllStay s starts seen ss (Did (Sent from to))) where
      abbrev after_sent : List (Step N)
      after_sent = Did (Sent from to) ∷ ss

      abbrev sent_mail : Mail
      sent_mail = record { from = from; to = to; is_sent = true }

      sees : A after_sent (InMail (mails ds + 1)) ≡ A ss (AtGateway from)
      sees = steps.sent_new key_total key_exact payload_eq payload_equivalence payload_exact (rounds.points (rounding s)) starts ds from to

      sent_stands : MailStands s starts seen gateways after_sent (mails ds + 1) sent_mail
      sent_stands =
          let node = seen.node ss from in
          let has = A ss (AtGateway to) in record {
            from_there = there.0;
            to_there = there.1;
            from = is.from ∙ st.ids from;
            brings = sent_brings node (seen.node ss to).gateway.id (seen.mail (mails ds + 1)) has is (λ k known. st.books from to k there.1 (ap (get node.acked) (sym (st.ids to)) ∙ known))
                ∙ congruent has (H ss from) has (A ss (AtGateway from)) refl (st.shows from) ∙ ap (λ p. S (join_points has p)) (sym sees);
            delta = λ n asks.
                let its = delta_is node n (sym is.delta ∙ asks) in
                let claimed : Claimed node (A ss (AtGateway from)) n = record {
                  covers = below_same (numbered_to node n) (H ss from) (numbered_to node n) (A ss (AtGateway from)) refl (st.shows from) (plain_below _ _ (numbered_held node n));
                  past = let e = its.0 in omega (arith, e);
                  small = let e = its.0 in let l = its.1 in omega (arith, e, l);
                } in
                subst (λ (x : NodeModel). Claimed x (A after_sent (InMail (mails ds + 1))) n) (sym (stay from)) (subst (λ (p : Points). Claimed node p n) (sym sees) claimed);
            ack = λ n tells. absurd (not_None (sym is.ack ∙ tells));
          }

      sent_go : (k : ℕ) (mail : Mail) (b : Bool) → (k == mails ds + 1) ≡ b → mail_of (deeds after_sent) k ≡ Some mail
          → ((mail_of ds k ≡ Some mail) × (A after_sent (InMail k) ≡ A ss (InMail k))) ⊎ MailStands s starts seen gateways after_sent k mail
      sent_go k mail true e known =
          let same : sent_mail ≡ mail = same_Some (sym (ap (λ b. if b then Some sent_mail else mail_of ds k) e) ∙ known) in
          inr (subst (λ j. MailStands s starts seen gateways after_sent j mail) (sym (eqb-true k (mails ds + 1) e)) (subst (MailStands s starts seen gateways after_sent (mails ds + 1)) same sent_stands))
      sent_go k mail false e known = inl (
        sym (ap (λ b. if b then Some sent_mail else mail_of ds k) e) ∙ known,
        ap (λ b. rounds.state (rounding s) (filter_map (made_of (made starts ds)) (if b then took ds (AtGateway from) else took ds (InMail k)))) e,
      )

      sent : Stand after_sent
      sent =
          goes_on s starts seen gateways ss (Did (Sent from to)) st (λ g. node_stays s starts seen gateways ss (Did (Sent from to)) g (stay g))
          (λ g. ap (λ (n : NodeModel). S n.gateway.points) (stay g) ∙ st.shows g)
          (λ g. points_idempotent (A ss (AtGateway g)))
          (λ k past. rw (ne_eqb k (mails ds + 1) (omega (arith, past))) (st.unmade k (omega (arith, past))))
          (λ k mail known. sent_go k mail (k == mails ds + 1) refl known)

    -- a mail came to its node
    module _ (apart : (g h : ℕ) → g < gateways → h < gateways → id_of s starts seen gateways g ≡ id_of s starts seen gateways h → g ≡ h)
        (m g : ℕ) (answered : Bool) (there : g < gateways) (to : is_to g (mail_of (deeds ss) m) ≡ true)
        (is : Hears s starts seen (deeds ss) m answered (seen.node ss g) (seen.node (Did (Handed m g answered) ∷ ss) g))
        (others : OthersStay s starts seen ss (Did (Handed m g answered)) g) where
      abbrev after_handed : List (Step N)
      after_handed = Did (Handed m g answered) ∷ ss

      abbrev p : Points
      p = A ss (InMail m)

      abbrev mail : Mail
      mail = (its_mail g (mail_of ds m) to).0

      known : mail_of ds m ≡ Some mail
      known = (its_mail g (mail_of ds m) to).1

      here : mail.to ≡ g
      here = (its_mail g (mail_of ds m) to).2

      its : MailStands s starts seen gateways ss m mail
      its = st.mailed m mail known

      handed_joined : Joined s starts seen gateways ss (Did (Handed m g answered)) g p
      handed_joined h = steps.handed_at key_total key_exact payload_eq payload_equivalence payload_exact (rounds.points (rounding s)) starts ds m g h answered

      handed_shows : S (H after_handed g) ≡ S (join_points (A ss (AtGateway g)) p)
      handed_shows =
          ap S is.0.points ∙ congruent (H ss g) (seen.mail m).points (A ss (AtGateway g)) (seen.mail m).points (st.shows g) refl
          ∙ subst (λ v. S (join_points (A ss (AtGateway v)) (seen.mail m).points) ≡ S (join_points (A ss (AtGateway v)) p)) here its.brings

      handed_node : NodeMoves s starts seen gateways ss (Did (Handed m g answered)) g
      handed_node = record {
        moves = renumbers (seen.node ss g) (seen.node after_handed g) is.0.numbers;
        id = is.0.id;
        books = λ h k h_there has. elim (books_after (seen.node ss g) (seen.node after_handed g) (seen.mail m) (id_of s starts seen gateways h) k is.0.acked has) [
          | inl older ↦ inl older
          | inr ack ↦
              let from : mail.from ≡ h = sym (apart h mail.from h_there its.from_there (ack.0 ∙ its.from)) in
              inr (subst (λ v. Claimed (seen.node ss g) (A ss (AtGateway v)) k) from (subst (λ v. Claimed (seen.node ss v) (A ss (AtGateway mail.from)) k) here (its.ack k ack.1)))
        ];
      }

      handed_each : (h : ℕ) → NodeMoves s starts seen gateways ss (Did (Handed m g answered)) h
      handed_each = each_node s starts seen gateways ss (Did (Handed m g answered)) g handed_node others

      handed_below : IsAtOrBelow join_points p (A after_handed (AtGateway g))
      handed_below =
          let now : A after_handed (AtGateway g) ≡ join_points (A ss (AtGateway g)) p = handed_joined g ∙ ap (λ b. cond b (join_points (A ss (AtGateway g)) p) (A ss (AtGateway g))) (eq-eqb g g refl) in
          subst (λ (x : Points). IsAtOrBelow join_points p x) (sym now) (points_above (A ss (AtGateway g)) p).1

      -- the Ack that answers it
      abbrev answer : Mail
      answer = record { from = g; to = mail.from; is_sent = false }

      answer_stands : answer_of (seen.node ss g) (seen.mail m) ≡ Some (seen.mail (mails ds + 1)) → MailStands s starts seen gateways after_handed (mails ds + 1) answer
      answer_stands made_it =
          let n = (answered_by (seen.node ss g) (seen.mail m) (seen.mail (mails ds + 1)) made_it).0 in
          let asks = (answered_by (seen.node ss g) (seen.mail m) (seen.mail (mails ds + 1)) made_it).1 in
          let same = (answered_by (seen.node ss g) (seen.mail m) (seen.mail (mails ds + 1)) made_it).2 in
          let none : A after_handed (InMail (mails ds + 1)) ≡ empty = ap (λ ks. rounds.state (rounding s) (filter_map (made_of (made starts ds)) ks)) (st.unmade (mails ds + 1) (omega arith)) in record {
            from_there = there;
            to_there = its.from_there;
            from = ap (λ (x : MessageModel). x.from) same ∙ st.ids g;
            brings = ap (λ x. S (join_points (A after_handed (AtGateway mail.from)) x)) (ap (λ (x : MessageModel). x.points) same ∙ sym none);
            delta = λ k delta. absurd (not_None (sym (ap (λ (x : MessageModel). x.delta) same) ∙ delta));
            ack = λ k tells.
                let e : n ≡ k = same_Some (sym (ap (λ (x : MessageModel). x.ack) same) ∙ tells) in
                subst (λ j. Claimed (seen.node after_handed mail.from) (A after_handed (AtGateway g)) j) e
                (claim_moves (seen.node ss mail.from) (seen.node after_handed mail.from) p (A after_handed (AtGateway g)) n (handed_each mail.from).moves (plain_below p (A after_handed (AtGateway g)) handed_below) (its.delta n asks));
          }

      handed_goes : ((k : ℕ) → mails (deeds after_handed) < k → took ds (InMail k) ≡ []) → MailsGo s starts seen gateways ss (Did (Handed m g answered)) → Stand after_handed
      handed_goes unmade mailed =
          let d : Step N = Did (Handed m g answered) in
          goes_on s starts seen gateways ss d st handed_each (shows_by s starts seen gateways ss d g p handed_joined handed_shows others st) (grows_by s starts seen gateways ss d g p handed_joined) unmade mailed

    module _ (apart : (g h : ℕ) → g < gateways → h < gateways → id_of s starts seen gateways g ≡ id_of s starts seen gateways h → g ≡ h) (m g : ℕ) (there : g < gateways) (to : is_to g (mail_of (deeds ss) m) ≡ true) where
      handed : (answered : Bool) → Hears s starts seen (deeds ss) m answered (seen.node ss g) (seen.node (Did (Handed m g answered) ∷ ss) g) → OthersStay s starts seen ss (Did (Handed m g answered)) g → Stand (Did (Handed m g answered) ∷ ss)
      handed false is others = handed_goes apart m g false there to is others (λ k past. st.unmade k past) (λ k mail known. inl (known, refl))
      handed true is others = handed_goes apart m g true there to is others (λ k past. st.unmade k (omega (arith, past))) (λ k x was. go k x (k == mails ds + 1) refl was)
        where
          now : List (Step N)
          now = Did (Handed m g true) ∷ ss

          its_answer : Mail
          its_answer = answer apart m g true there to is others

          go : (k : ℕ) (x : Mail) (b : Bool) → (k == mails ds + 1) ≡ b → mail_of (Handed m g true ∷ ds) k ≡ Some x
              → ((mail_of ds k ≡ Some x) × (A (Did (Handed m g true) ∷ ss) (InMail k) ≡ A ss (InMail k))) ⊎ MailStands s starts seen gateways (Did (Handed m g true) ∷ ss) k x
          go k x true e was =
              let same : answer apart m g true there to is others ≡ x =
              same_Some (sym (ap (λ b. if b then answer_to g (mail_of ds m) else mail_of ds k) e ∙ ap (answer_to g) (known apart m g true there to is others)) ∙ was) in
              inr (subst (λ j. MailStands s starts seen gateways (Did (Handed m g true) ∷ ss) j x) (sym (eqb-true k (mails ds + 1) e))
              (subst (MailStands s starts seen gateways (Did (Handed m g true) ∷ ss) (mails ds + 1)) same (answer_stands apart m g true there to is others is.1)))
          go k x false e was = inl (sym (ap (λ b. if b then answer_to g (mail_of ds m) else mail_of ds k) e) ∙ was, refl)

  -- before any step
  begun : ((g : ℕ) → IsBegun (seen.node [] g)) → Stand []
  begun is = record {
    ids = λ g. refl;
    shows = λ g. ap (λ (n : NodeModel). S n.gateway.points) (is g);
    books = λ g h k there has. absurd (not_None (sym (ap (λ (n : NodeModel). get n.acked (id_of s starts seen gateways h)) (is g) ∙ get-empty nat_cmp (id_of s starts seen gateways h)) ∙ has));
    unmade = λ k past. refl;
    mailed = λ k mail known. absurd (not_None known);
  }

  module _ (apart : (g h : ℕ) → g < gateways → h < gateways → id_of s starts seen gateways g ≡ id_of s starts seen gateways h → g ≡ h) where
    pub stands : (ss : List (Step N)) → AreLawful fits starts gateways (deeds ss) → HaveHappened s starts seen ss → Stand ss
    stands [] l is = begun is
    stands (Did (Wrote w act) ∷ ss) l is = wrote ss (stands ss l.1 is.1) w act l.1 is.0
    stands (Did (Delivered x g) ∷ ss) l is = delivered ss (stands ss l.1 is.1) x g is.0.0 is.0.1
    stands (Did (Merged into from) ∷ ss) l is = merged ss (stands ss l.1 is.1) into from is.0.0 is.0.1
    stands (Did (Sent from to) ∷ ss) l is = sent ss (stands ss l.1 is.1) from to l.0 is.0.0 is.0.1
    stands (Did (Handed m g answered) ∷ ss) l is = handed ss (stands ss l.1 is.1) apart m g l.0.2 l.0.3 answered is.0.0 is.0.1
    stands (Forgot g gone ∷ ss) l is = forgets ss (stands ss l is.1) g gone is.0.0 is.0.1
