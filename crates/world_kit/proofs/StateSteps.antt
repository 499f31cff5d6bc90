-- One more deed, for the states that holders have.
use Rattle.std.proofs.Common.{◌≡◌, ◌≢◌, ℕ, ◌+◌, ◌≤◌, Bool, true, false, cond, ◌==◌, List, [], ◌∷◌, ◌++◌, map, Some, refl, sym, ap, ◌∙◌}
use Rattle.std.specs.List.{flat_map}
use Rattle.std.proofs.lemmas.Bool.{eqb-true, eq-eqb}
use Rattle.agg_kit.specs.Entries.{Entry}
use Rattle.point_kit.proofs.EqualityLaws.{payload_equivalence, payload_exact}
use Rattle.point_kit.proofs.OrderLaws.{key_total, key_exact}
use Rattle.point_kit.specs.declared.export.Export.{Export}
use Rattle.point_kit.specs.declared.export_point.ExportPoint.{ExportPoint}
use Rattle.point_kit.specs.declared.key.Key.{Key}
use Rattle.point_kit.specs.declared.payload.Payload.{Payload}
use Rattle.point_kit.specs.declared.writer_id.WriterId.{WriterId}
use Rattle.point_kit.specs.Equality.{payload_eq}
use Rattle.point_kit.specs.Exports.{join_points, points_of, state}
use Rattle.point_kit.specs.Orders.{key_cmp}
use Rattle.point_kit.specs.States.{state_of}
use Rattle.schedule_kit.specs.Deeds.{Made, Holder, made, mails, AreLawful}
use Rattle.schedule_kit.specs.Deeds.Deed.{Wrote, Delivered, Merged, Sent, Handed}
use Rattle.schedule_kit.specs.Deeds.Holder.{AtGateway, InMail}
use Rattle.schedule_kit.specs.Schedule.Act.{Measured, Collected, Restarted}
use Rattle.schedule_kit.specs.Taken.{made_of}
use Rattle.schedule_kit.proofs.Stable.{taken_stable}
use Rattle.schedule_kit.proofs.Steps as steps
use Rattle.world_kit.specs.declared.setup.Setup.{Setup}
use Rattle.world_kit.specs.Judged.{Deeds}
use Rattle.world_kit.specs.Setups.{writer_at, starts_of, gateways_of}
use Rattle.world_kit.specs.States.{IsExportOf, made_points, state_at}

-- the points of a collection's export
same_points : (s : Setup) (m : Made Entry) (e : Export) → IsExportOf s m e → points_of e ≡ made_points s m
same_points s m e is =
    let under : WriterId → ℕ → ℕ → List ExportPoint → List (Key × (ℕ × Payload)) = λ w t u ps. map (λ p. (record { writer = w; start = t; stream = p.stream; attrs = p.attrs }, (u, p.payload))) ps in
    ap (λ w. under w e.start e.time e.points) is.writer ∙ ap (λ t. under (writer_at s m.writer).id t e.time e.points) is.start
    ∙ ap (λ u. under (writer_at s m.writer).id m.start u e.points) is.time ∙ ap (under (writer_at s m.writer).id m.start m.time) is.points

module _ (s : Setup) (ds : Deeds) where
  -- what an export brings
  pub state_export : (m : Made Entry) (e : Export) → IsExportOf s m e → state (e ∷ []) ≡ state_of key_cmp payload_eq (flat_map (made_points s) (m ∷ []))
  state_export m e is = ap (λ ps. state_of key_cmp payload_eq (ps ++ [])) (same_points s m e is)

  pub state_delivered : (x g : ℕ) (m : Made Entry) (e : Export) → made_of (made (starts_of s) ds) x ≡ Some m → IsExportOf s m e → (h : ℕ)
      → state_at s (Delivered x g ∷ ds) (AtGateway h) ≡ cond (g == h) (join_points (state_at s ds (AtGateway h)) (state (e ∷ []))) (state_at s ds (AtGateway h))
  unfolding state_at
  state_delivered x g m e found is h =
      steps.delivered_at key_total key_exact payload_eq payload_equivalence payload_exact (made_points s) (starts_of s) ds x g h m found
      ∙ ap (λ p. cond (g == h) (join_points (state_at s ds (AtGateway h)) p) (state_at s ds (AtGateway h))) (sym (state_export m e is))

  pub state_merged : (into from h : ℕ) → state_at s (Merged into from ∷ ds) (AtGateway h) ≡ cond (into == h) (join_points (state_at s ds (AtGateway h)) (state_at s ds (AtGateway from))) (state_at s ds (AtGateway h))
  unfolding state_at
  state_merged into from h = steps.merged_at key_total key_exact payload_eq payload_equivalence payload_exact (made_points s) (starts_of s) ds into from h

  pub state_handed : (m g h : ℕ) (answered : Bool) → state_at s (Handed m g answered ∷ ds) (AtGateway h) ≡ cond (g == h) (join_points (state_at s ds (AtGateway h)) (state_at s ds (InMail m))) (state_at s ds (AtGateway h))
  unfolding state_at
  state_handed m g h answered = steps.handed_at key_total key_exact payload_eq payload_equivalence payload_exact (made_points s) (starts_of s) ds m g h answered

  pub state_sent : (from to h : ℕ) → state_at s (Sent from to ∷ ds) (AtGateway h) ≡ state_at s ds (AtGateway h)
  unfolding state_at
  state_sent from to h = refl

  pub state_sent_new : (from to : ℕ) → state_at s (Sent from to ∷ ds) (InMail (mails ds + 1)) ≡ state_at s ds (AtGateway from)
  unfolding state_at
  state_sent_new from to = steps.sent_new key_total key_exact payload_eq payload_equivalence payload_exact (made_points s) (starts_of s) ds from to

  pub state_sent_old : (from to n : ℕ) → n ≤ mails ds → state_at s (Sent from to ∷ ds) (InMail n) ≡ state_at s ds (InMail n)
  unfolding state_at
  state_sent_old from to n h = steps.sent_old key_total key_exact payload_eq payload_equivalence payload_exact (made_points s) (starts_of s) ds from to n h

  pub mail_delivered : (x g n : ℕ) → state_at s (Delivered x g ∷ ds) (InMail n) ≡ state_at s ds (InMail n)
  unfolding state_at
  mail_delivered x g n = refl

  pub mail_merged : (into from n : ℕ) → state_at s (Merged into from ∷ ds) (InMail n) ≡ state_at s ds (InMail n)
  unfolding state_at
  mail_merged into from n = refl

  pub mail_handed : (m g n : ℕ) (answered : Bool) → state_at s (Handed m g answered ∷ ds) (InMail n) ≡ state_at s ds (InMail n)
  unfolding state_at
  mail_handed m g n answered = refl

  pub state_measured : (w : ℕ) (e : Entry) (h : Holder) → state_at s (Wrote w (Measured e) ∷ ds) h ≡ state_at s ds h
  unfolding state_at
  state_measured w e (AtGateway g) = refl
  state_measured w e (InMail n) = refl

  pub state_restarted : (w start : ℕ) (h : Holder) → state_at s (Wrote w (Restarted start) ∷ ds) h ≡ state_at s ds h
  unfolding state_at
  state_restarted w start (AtGateway g) = refl
  state_restarted w start (InMail n) = refl

  pub state_collected : (fits : ℕ → List Entry → Entry → Bool) → AreLawful fits (starts_of s) (gateways_of s) ds → (w time : ℕ) (closing : Bool) (h : Holder) → state_at s (Wrote w (Collected time closing) ∷ ds) h ≡ state_at s ds h
  unfolding state_at
  state_collected fits lawful w time closing h = ap (λ ms. state_of key_cmp payload_eq (flat_map (made_points s) ms)) (taken_stable fits (starts_of s) (gateways_of s) ds w time closing lawful h)

-- a choice at the place itself, and at another
pub chosen : {A : Type 0} (g : ℕ) (a b : A) → cond (g == g) a b ≡ a
chosen g a b = rw (eq-eqb g g refl) refl

pub passed : {A : Type 0} (g h : ℕ) (a b : A) → h ≢ g → cond (g == h) a b ≡ b
passed g h a b other = elim (g == h) as (λ t. (g == h) ≡ t → cond t a b ≡ b) [ true ↦ λ e. absurd (other (sym (eqb-true g h e))) | false ↦ λ e. refl ] refl
