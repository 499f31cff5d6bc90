-- What entries feed depends on which entries there are, where each stream is within its limit.
use Rattle.std.proofs.Common.{ℕ, ℤ, ◌+◌, ◌≤◌, List, [], ◌∷◌, length, refl, arith}
use Rattle.attr_kit.specs.declared.attr_set.AttrSet.{AttrSet}
use Rattle.agg_kit.specs.Entries.{Entry}
use Rattle.agg_kit.specs.Feeding.{distinct, sets_of, fed}
use Rattle.plan_kit.specs.Plans.{Planned}
use Rattle.point_kit.specs.declared.stream.Stream.{Stream}
use Rattle.rollup_kit.proofs.FedMixed.{fed-mixed, fed-sets-mixed}
use Rattle.rollup_kit.specs.Limits.{AreWithin}
use Rattle.rollup_kit.specs.Naming.{names_from, values_from}
use Rattle.schedule_kit.proofs.Mixed.{mixed-append, mixed-map}
use Rattle.schedule_kit.specs.Mixed.{AreMixed}

module _ (p : Planned) (h k : List Entry) (m : AreMixed h k) (w : AreWithin p h) where
  pub values-mixed : (n : ℕ) (ss : List Stream) → n + length ss ≤ length p.streams → AreMixed (values_from p h n ss) (values_from p k n ss)
  values-mixed n [] l = λ f. refl
  values-mixed n (s ∷ ss) l =
      mixed-append _ _ (values_from p h (n + 1) ss) (values_from p k (n + 1) ss)
      (mixed-map (λ (x : AttrSet × ℤ). ((s, x.0), x.1)) (fed p n h) (fed p n k) (fed-mixed p n h k m (w n (omega arith))))
      (values-mixed (n + 1) ss (omega arith))

  pub names-mixed : (n : ℕ) (ss : List Stream) → n + length ss ≤ length p.streams → AreMixed (names_from p h n ss) (names_from p k n ss)
  names-mixed n [] l = λ f. refl
  names-mixed n (s ∷ ss) l =
      mixed-append _ _ (names_from p h (n + 1) ss) (names_from p k (n + 1) ss)
      (mixed-map (λ (a : AttrSet). (s, a)) (distinct (sets_of (fed p n h))) (distinct (sets_of (fed p n k))) (fed-sets-mixed p n h k m (w n (omega arith))))
      (names-mixed (n + 1) ss (omega arith))
