-- One more deed, for what holders took.
use Rattle.std.proofs.Common.{◌≡◌, ℕ, ◌+◌, ◌≤◌, Bool, true, false, cond, ◌==◌, List, [], ◌∷◌, ◌++◌, Option, Some, refl, ap, ◌∙◌, arith}
use Rattle.std.specs.List.{flat_map, filter_map, cons_option}
use Rattle.std.proofs.lemmas.Bool.{ne_eqb, eq-eqb}
use Rattle.std.proofs.lemmas.List.Elements.{filter_map-append}
use Rattle.std.proofs.lemmas.Grind.{flat_map-append}
use Rattle.std.specs.declared.cmp.Ordering.{Ordering}
use Rattle.std.specs.Cmp.{IsTotalOrder, IsEquivalence}
use Rattle.std.specs.FinMap.{FinMap, IsAntisymmetric}
use Rattle.attr_kit.specs.Exact.{IsExact}
use Rattle.point_kit.specs.Join.{join_cells}
use Rattle.point_kit.specs.declared.cell.Cell.{Cell}
use Rattle.point_kit.specs.States.{state_of, join_maps}
use Rattle.point_kit.proofs.StateLaws.{state-append}
use Rattle.schedule_kit.specs.Deeds.{Deed, Made, Holder, made, took, mails}
use Rattle.schedule_kit.specs.Deeds.Deed.{Delivered, Merged, Sent, Handed}
use Rattle.schedule_kit.specs.Deeds.Holder.{AtGateway, InMail}
use Rattle.schedule_kit.specs.Taken.{taken_collections, made_of}

module _ {N K P : Type 0} {R : K → K → Ordering} (o : IsTotalOrder R) (anti : IsAntisymmetric R) (same : P → P → Bool) (laws : IsEquivalence same) (exact : IsExact same) (f : Made N → List (K × (ℕ × P))) where
  -- the state of collections, each of which has these points
  abbrev state : List (Made N) → FinMap R (Cell P)
  state ms = state_of R same (flat_map f ms)

  abbrev J : FinMap R (Cell P) → FinMap R (Cell P) → FinMap R (Cell P)
  J = join_maps (join_cells same)

  pub state_more : (a b : List (Made N)) → state (a ++ b) ≡ J (state a) (state b)
  state_more a b = ap (state_of R same) (flat_map-append f a b) ∙ state-append o anti same laws exact (flat_map f a) (flat_map f b)

  module _ (starts : List ℕ) (ds : List (Deed N)) where
    -- what a holder has
    abbrev at : Holder → FinMap R (Cell P)
    at h = state (taken_collections starts ds h)

    -- after a delivery of the export of collection m
    pub delivered_at : (x g h : ℕ) (m : Made N) → made_of (made starts ds) x ≡ Some m → state (taken_collections starts (Delivered x g ∷ ds) (AtGateway h)) ≡ cond (g == h) (J (at (AtGateway h)) (state (m ∷ []))) (at (AtGateway h))
    delivered_at x g h m e =
        let t = took ds (AtGateway h) in
        elim (g == h) as (λ b. state (filter_map (made_of (made starts ds)) (cond b (t ++ x ∷ []) t)) ≡ cond b (J (at (AtGateway h)) (state (m ∷ []))) (at (AtGateway h))) [
          | true ↦ ap state (filter_map-append (made_of (made starts ds)) t (x ∷ []) ∙ ap (λ (o : Option (Made N)). filter_map (made_of (made starts ds)) t ++ cons_option o []) e)
              ∙ state_more (taken_collections starts ds (AtGateway h)) (m ∷ [])
          | false ↦ refl
        ]

    joined_at : (b : Bool) (a c : Holder) → state (filter_map (made_of (made starts ds)) (cond b (took ds a ++ took ds c) (took ds a))) ≡ cond b (J (at a) (at c)) (at a)
    joined_at true a c = ap state (filter_map-append (made_of (made starts ds)) (took ds a) (took ds c)) ∙ state_more (taken_collections starts ds a) (taken_collections starts ds c)
    joined_at false a c = refl

    -- after a merge
    pub merged_at : (into from h : ℕ) → state (taken_collections starts (Merged into from ∷ ds) (AtGateway h)) ≡ cond (into == h) (J (at (AtGateway h)) (at (AtGateway from))) (at (AtGateway h))
    merged_at into from h = joined_at (into == h) (AtGateway h) (AtGateway from)

    -- after a mail was handed
    pub handed_at : (m g h : ℕ) (answered : Bool) → state (taken_collections starts (Handed m g answered ∷ ds) (AtGateway h)) ≡ cond (g == h) (J (at (AtGateway h)) (at (InMail m))) (at (AtGateway h))
    handed_at m g h answered = joined_at (g == h) (AtGateway h) (InMail m)

    -- a new mail has what its sender has; older ones have what they had
    pub sent_new : (from to : ℕ) → state (taken_collections starts (Sent from to ∷ ds) (InMail (mails ds + 1))) ≡ at (AtGateway from)
    sent_new from to = rw (eq-eqb (mails ds + 1) (mails ds + 1) refl) refl

    pub sent_old : (from to n : ℕ) → n ≤ mails ds → state (taken_collections starts (Sent from to ∷ ds) (InMail n)) ≡ at (InMail n)
    sent_old from to n h = rw (ne_eqb n (mails ds + 1) (omega arith)) refl
