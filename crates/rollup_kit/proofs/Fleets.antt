-- What the gateways of a fleet answer, from the exports that they took.
use Rattle.std.proofs.Common.{◌≡◌, ◌⊎◌, inl, inr, ℕ, ◌<◌, List, [], ◌∷◌, map, length, slice_get, Option, Some, None, refl, sym, ap, subst, ◌∙◌, arith}
use Rattle.agg_kit.proofs.Rounds.{there, within}
use Rattle.agg_kit.specs.Entries.{Entry}
use Rattle.point_kit.specs.declared.export.Export.{Export}
use Rattle.point_kit.specs.declared.export_point.ExportPoint.{ExportPoint}
use Rattle.rollup_kit.specs.Rollups.{rollup_rows}
use Rattle.schedule_kit.specs.Members.{In}
use Rattle.rollup_kit.proofs.Agreeing.{rows_agree}
use Rattle.rollup_kit.proofs.Collected.{answered}
use Rattle.rollup_kit.proofs.Exported.{states_are_held, export_named}
use Rattle.rollup_kit.specs.Fleets.{IsExportOf, Task, entries_of, collection_of, Took, AreExports, AreJobs, AreAt, FleetRows}
use Rattle.rollup_kit.specs.Writers.{ArePlans, Writers, AllMixed}
use Rattle.schedule_kit.specs.Mixed.{AreMixed}
use Rattle.point_kit.specs.Exports as points

none_mapped : {A B : Type 0} (f : A → B) (xs : List A) → map f xs ≡ [] → xs ≡ []
none_mapped f [] e = refl
none_mapped f (x ∷ xs) e = absurd (cc e)

same_some : (a b : Export) → Some a ≡ Some b → a ≡ b
same_some a b e = cc

module _ (s : Writers) (plans : ArePlans s) (end : ℕ) (jobs : List Task) (exports : List Export) (each : AreJobs s end jobs exports) where
  -- what the writer at a place recorded, in its order
  abbrev Recorded : ℕ → Type 0
  Recorded w = (h : List Entry) × ((e : Export) → slice_get exports w ≡ Some e → AreMixed h (entries_of jobs w) × IsExportOf s (collection_of s end (λ _. h) w) e)

  recorded : (w : ℕ) → Recorded w
  recorded w = by (slice_get exports w) refl
    where
      by : (o : Option Export) → slice_get exports w ≡ o → Recorded w
      by None q = ([], λ e p. absurd (none e (sym q ∙ p)))
        where
          none : (e : Export) → None ≡ Some e → ⊥
          none e p = cc p
      by (Some d) q = let r = each w d q in (r.0, λ e p. (r.1, subst (λ (x : Export). IsExportOf s (collection_of s end (λ _. r.0) w) x) (same_some d e (sym q ∙ p)) r.2))

  history : ℕ → List Entry
  history w = (recorded w).0

  its : (w : ℕ) (e : Export) → slice_get exports w ≡ Some e → AreMixed (history w) (entries_of jobs w) × IsExportOf s (collection_of s end history w) e
  unfolding history
  its w e p = (recorded w).1 e p

  are_exports : (took : List ℕ) (taken : List Export) → AreAt exports took taken → AreExports s end history took taken
  are_exports [] [] a = tt
  are_exports [] (e ∷ es) a = absurd a
  are_exports (w ∷ ws) [] a = absurd a
  are_exports (w ∷ ws) (e ∷ es) a = ((its w e a.0).1, are_exports ws es a.1)

  are_writers : (took : List ℕ) (taken : List Export) → AreAt exports took taken → (w : ℕ) → In w took → w < length exports
  are_writers [] taken a w i = absurd i
  are_writers (v ∷ vs) [] a w i = absurd a
  are_writers (v ∷ vs) (e ∷ es) a w (inl same) = subst (λ (n : ℕ). n < length exports) (sym same) (within exports v e a.0)
  are_writers (v ∷ vs) (e ∷ es) a w (inr i) = are_writers vs es a.1 w i

  module _ (count : length exports ≡ length s.starts) where
    all_mixed : AllMixed s history (entries_of jobs)
    all_mixed w l = let x = there exports w (omega (arith, l, count)) in (its w x.0 x.1).0

    took_all : (took : List ℕ) (taken : List Export) → AreAt exports took taken → ((w : ℕ) (e : Export) → slice_get exports w ≡ Some e → In w took ⊎ (e.points ≡ [])) → Took s history took
    took_all took taken a missing = record {
      writers = λ w i. let l = are_writers took taken a w i in omega (arith, l, count);
      missing = λ w l. let x = there exports w (omega (arith, l, count)) in elim (missing w x.0 x.1) [
        | inl i ↦ inl i
        | inr none ↦ inr (none_mapped _ _ (sym (export_named s plans (collection_of s end history w) x.0 (its w x.0 x.1).1) ∙ ap (map (λ (p : ExportPoint). (points.key_of x.0 p, (x.0.time, p.payload)))) none))
      ];
    }

pub fleet_rows : FleetRows
fleet_rows s plans told end jobs exports count each took taken a missing ask adds w =
    let h = history s plans end jobs exports each in
    ap (rollup_rows ask) (states_are_held s plans end h took taken (are_exports s plans end jobs exports each took taken a))
    ∙ answered s plans told end h took (took_all s plans end jobs exports each count took taken a missing) ask adds
    ∙ rows_agree s h (entries_of jobs) (all_mixed s plans end jobs exports each count) ask w
