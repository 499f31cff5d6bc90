use Rattle.std.proofs.Common.{◌≡◌, ◌&&◌, ◌≤◌, ◌+◌, ◌∙◌, ℕ, nat_lt, Bool, true, false, List, [], ◌∷◌, None, length, map, take, get_or, sym, ap, subst, refl, rules}
use Rattle.std.proofs.lemmas.Fn.{always_returns_same}
use Rattle.std.proofs.lemmas.List.{take_all}
use Rattle.std.proofs.lemmas.List.Sorted.{IsPermutation-sym}
use Rattle.std.proofs.lemmas.Map.Keys.{IsDistinct-IsPermutation, IsDistinct-from_sorted, sorted_from_strictly_increasing}
use Rattle.std.proofs.lemmas.Cmp.{eq_by_cmp_equiv}
use Rattle.std.specs.Cmp.{IsEquivalence, nat_cmp_total}
use Rattle.std.specs.Hash.FoldHasher as folding
use Rattle.std.specs.Prelude.{fold}
use Rattle.attr_kit.specs.Exact.{first_holds, second_holds}
use Rattle.attr_kit.specs.Hashing as sets
use Rattle.point_kit.specs.SharedStream as streams
use borrow.Author.Tests.{ltb-true}
use Rattle.std.specs.List.{AllByRecursion, IsAllAdjacentAnswer, IsDistinct}
use Rattle.std.specs.List.Sorted.{IsPermutation, IsStrictlyIncreasing}
use Rattle.std.specs.Ordering.{nat_cmp, eq_by_cmp}
use Rattle.attr_kit.specs.Refusing.{repeat}
use Rattle.attr_kit.specs.contracts.attr_set.AttrSetEq.TheImpl.Laws as set_laws
use Rattle.attr_kit.proofs.Repeats.{distinct_none}
use Rattle.point_kit.specs.declared.export_point.ExportPoint.{ExportPoint}
use Rattle.point_kit.specs.contracts.stream.StreamEq.TheImpl.Laws as stream_laws
use Rattle.point_kit.specs.ExportFaults.{same_key}
use Rattle.point_kit.specs.Hashes.{key_hash}
use Rattle.point_kit.proofs.export.differ_by_hash.Goals as goal

nat_cmp_equiv : IsEquivalence (eq_by_cmp nat_cmp)
nat_cmp_equiv = eq_by_cmp_equiv nat_cmp_total

flips : (p q : ExportPoint) → same_key p q ≡ same_key q p
flips p q = λ i. (stream_laws.laws-law).symm p.stream q.stream i && (set_laws.laws-law).symm p.attrs q.attrs i

-- equal keys have one hash
one_hash : (p q : ExportPoint) → same_key p q ≡ true → key_hash p ≡ key_hash q
unfolding key_hash
one_hash p q e =
    let s = streams.hash_alike p.stream q.stream (first_holds _ _ e) in
    let a = sets.hash_alike p.attrs q.attrs (second_holds _ _ e) in
    λ i. folding.finish (fold folding.write (fold folding.write folding.initial (s i)) (a i))

apart : (p q : ExportPoint) (b : Bool) → same_key p q ≡ b → eq_by_cmp nat_cmp (key_hash p) (key_hash q) ≡ false → b ≡ false
apart p q false e h = refl
apart p q true e h = sym (nat_cmp_equiv.refl (key_hash p)) ∙ ap (eq_by_cmp nat_cmp (key_hash p)) (one_hash p q e) ∙ h

all_apart : (p : ExportPoint) (ps : List ExportPoint) → AllByRecursion (λ y. eq_by_cmp nat_cmp (key_hash p) y ≡ false) (map key_hash ps) → AllByRecursion (λ q. same_key p q ≡ false) ps
all_apart p [] h = tt
all_apart p (q ∷ ps) h = (apart p q (same_key p q) refl h.0, all_apart p ps h.1)

distinct : (ps : List ExportPoint) → IsDistinct (eq_by_cmp nat_cmp) (map key_hash ps) → IsDistinct same_key ps
unfolding IsDistinct
distinct [] h = tt
distinct (p ∷ ps) h = (all_apart p ps h.0, distinct ps h.1)

rising : (xs : List ℕ) → IsAllAdjacentAnswer (λ x y b. b ≡ nat_lt x y) xs true → IsStrictlyIncreasing xs
rising xs h k below = ltb-true (get_or xs k 0) (get_or xs (k + 1) 0) (sym (h k 0 below))

none_twice : (ps : List ExportPoint) (i : ℕ) (hashes ordered : List ℕ) (r : Bool) → length ps ≤ i → hashes ≡ map key_hash (take i ps) → IsPermutation hashes ordered → IsAllAdjacentAnswer (λ x y b. b ≡ nat_lt x y) ordered r → r ≡ true → repeat same_key ps ≡ None
none_twice ps i hashes ordered r all is moved found up =
    let strict = rising ordered (subst (λ b. IsAllAdjacentAnswer (λ x y b. b ≡ nat_lt x y) ordered b) up found) in
    let apart = IsDistinct-from_sorted nat_cmp ordered (sorted_from_strictly_increasing ordered strict) in
    let before = IsDistinct-IsPermutation (eq_by_cmp nat_cmp) nat_cmp_equiv.symm ordered hashes (IsPermutation-sym hashes ordered moved) apart in
    distinct_none same_key flips ps (distinct ps (subst (IsDistinct (eq_by_cmp nat_cmp)) (is ∙ ap (map key_hash) (take_all i ps all)) before))

pub returns : goal.returns
returns c =
    none_twice c.args.points.now c.loop-point.point-index c.loop-point.hashes.items c.sort_unstable.new.self.items c.is_sorted_by.result c.loop-point-test.false c.loop-point.invariant c.sort_unstable.ensures.permutation
    (subst (λ l. IsAllAdjacentAnswer (λ x y b. b ≡ nat_lt x y) l c.is_sorted_by.result) c.as_slice.ensures.value (c.is_sorted_by.ensures.cases nat_lt (always_returns_same _ _ _ (λ a r q k. search rules))))
