use Rattle.std.proofs.Common.{◌≡◌, ◌&&◌, ℕ, not, sym, ap, ◌∙◌, take, Bool, true, false, List, subst, refl}
use Rattle.std.proofs.lemmas.Cmp.{eq_by_cmp_equiv}
use Rattle.std.specs.BTreeSet as tree
use Rattle.std.specs.List.{list_any}
use Rattle.std.specs.Cmp.{IsEquivalence, nat_cmp_total}
use Rattle.std.specs.Ordering.{eq_by_cmp, is_eq, nat_cmp, ordering_then}
use Rattle.std.specs.declared.cmp.Ordering.{Ordering}
use Rattle.std.specs.declared.cmp.Ordering.TheVariants.{Less, Equal, Greater}
use Rattle.attr_kit.specs.declared.attr_value.AttrValue.{AttrValue}
use Rattle.attr_kit.specs.Exact.{exact_lists, exact_pairs, exact_texts, exact_values, first_holds, second_holds}
use Rattle.attr_kit.specs.Orders.{set_cmp}
use Rattle.attr_kit.proofs.Repeats.{repeat_here, repeat_later, seen_more}
use Rattle.attr_kit.specs.contracts.attr_set.AttrSetEq.TheImpl.Laws as set_laws
use Rattle.attr_kit.specs.contracts.attr_set.AttrSetOrd.TheImpl.Laws as set_orders
use Rattle.attr_kit.specs.contracts.attr_set.AttrSetPartialEq.TheImpl as sets
use Rattle.point_kit.specs.declared.export_point.ExportPoint.{ExportPoint}
use Rattle.point_kit.specs.declared.stream.Stream.{Stream}
use Rattle.point_kit.specs.contracts.stream.StreamEq.TheImpl.Laws as stream_laws
use Rattle.point_kit.specs.contracts.stream.StreamOrd.TheImpl as orders
use Rattle.point_kit.specs.contracts.stream.StreamOrd.TheImpl.Laws as stream_orders
use Rattle.point_kit.specs.contracts.stream.StreamPartialEq.TheImpl as streams
use Rattle.point_kit.specs.Exact.{exact_streams}
use Rattle.point_kit.specs.ExportFaults.{same_key}
use Rattle.point_kit.specs.Hashes.{content_hash}
use Rattle.point_kit.proofs.export.first_twice.Goals as goal
use Rattle.point_kit.proofs.export.first_twice.Invariants.{Lent, hashed, order}

nat_cmp_equiv : IsEquivalence (eq_by_cmp nat_cmp)
nat_cmp_equiv = eq_by_cmp_equiv nat_cmp_total

both_equal : (a b : Ordering) → is_eq (ordering_then a b) ≡ (is_eq b && is_eq a)
both_equal Less Less = refl
both_equal Less Equal = refl
both_equal Less Greater = refl
both_equal Equal Less = refl
both_equal Equal Equal = refl
both_equal Equal Greater = refl
both_equal Greater Less = refl
both_equal Greater Equal = refl
both_equal Greater Greater = refl

-- keys that tie are equal, whichever comes first
keys_tie : (s t : Stream) (a b : List (List ℕ × AttrValue)) → is_eq (ordering_then (set_cmp a b) ((orders.ghosts).cmp s t)) ≡ ((streams.ghosts).eq t s && (sets.ghosts).eq b a)
keys_tie s t a b =
    both_equal (set_cmp a b) ((orders.ghosts).cmp s t)
    ∙ (λ i. sym (stream_orders.matches_eq-law s t) i && sym (set_orders.matches_eq-law a b) i)
    ∙ (λ i. (stream_laws.laws-law).symm s t i && (set_laws.laws-law).symm a b i)

-- equal keys have one hash
one_hash : (s t : Stream) (a b : List (List ℕ × AttrValue)) → ((streams.ghosts).eq t s && (sets.ghosts).eq b a) ≡ true → content_hash s a ≡ content_hash t b
one_hash s t a b e =
    let same = sym (exact_streams t s (first_holds _ _ e)) in
    let kept = sym (exact_lists (exact_pairs exact_texts exact_values) b a (second_holds _ _ e)) in
    λ i. content_hash (same i) (kept i)

hash_ties : (s t : Stream) (a b : List (List ℕ × AttrValue)) → ((streams.ghosts).eq t s && (sets.ghosts).eq b a) ≡ true → is_eq (nat_cmp (content_hash s a) (content_hash t b)) ≡ true
hash_ties s t a b e = ap (λ n. is_eq (nat_cmp (content_hash s a) n)) (sym (one_hash s t a b e)) ∙ nat_cmp_equiv.refl (content_hash s a)

-- what holds only where another does holds with it
with_it : (x y : Bool) → (x ≡ true → y ≡ true) → (x && y) ≡ x
with_it true y h = h refl
with_it false y h = refl

-- and so are keys with their hashes before them
ties : (s t : Stream) (a b : List (List ℕ × AttrValue)) → is_eq (ordering_then (nat_cmp (content_hash s a) (content_hash t b)) (ordering_then (set_cmp a b) ((orders.ghosts).cmp s t))) ≡ ((streams.ghosts).eq t s && (sets.ghosts).eq b a)
ties s t a b =
    both_equal (nat_cmp (content_hash s a) (content_hash t b)) (ordering_then (set_cmp a b) ((orders.ghosts).cmp s t))
    ∙ ap (λ k. k && is_eq (nat_cmp (content_hash s a) (content_hash t b))) (keys_tie s t a b)
    ∙ with_it ((streams.ghosts).eq t s && (sets.ghosts).eq b a) (is_eq (nat_cmp (content_hash s a) (content_hash t b))) (hash_ties s t a b)

undone : (stored added b : Bool) → added ≡ not stored → added ≡ b → stored ≡ not b
undone true added b p q = sym (ap not p) ∙ ap not q
undone false added b p q = sym (ap not p) ∙ ap not q

pub returns-then-not-branch : goal.returns-then-not-branch
returns-then-not-branch c =
    let x : ExportPoint = c.index-points-place.result in
    let key : Lent = (record { ref_ptr = c.args.points.ref_ptr; now = x.attrs }, record { ref_ptr = c.args.points.ref_ptr; now = x.stream }) in
    let stored = ap (λ n. tree.contains order c.loop-place.seen (n, key)) (sym c.content_hash.ensures) ∙ undone _ _ false c.in_ok-insert.ensures.added c.if-not-branch.true in
    sym (repeat_here same_key c.args.points.now c.loop-place.place x c.loop-place-test.true c.loop-place.invariant.so (subst (λ y. list_any (same_key y) (take c.loop-place.place c.args.points.now) ≡ true) c.index-points-place.is (sym (c.loop-place.invariant.seen key) ∙ stored)))

pub loop-place-preserved : goal.loop-place-preserved
loop-place-preserved c =
    let x : ExportPoint = c.index-points-place.result in
    let key : Lent = (record { ref_ptr = c.args.points.ref_ptr; now = x.attrs }, record { ref_ptr = c.args.points.ref_ptr; now = x.stream }) in
    let stored = ap (λ n. tree.contains order c.loop-place.seen (n, key)) (sym c.content_hash.ensures) ∙ undone _ _ true c.in_ok-insert.ensures.added c.if-not-branch.false in
    record {
      so = repeat_later same_key c.args.points.now c.loop-place.place x c.loop-place-test.true c.loop-place.invariant.so (subst (λ y. list_any (same_key y) (take c.loop-place.place c.args.points.now) ≡ false) c.index-points-place.is (sym (c.loop-place.invariant.seen key) ∙ stored));
      seen = λ q. seen_more (λ p. (streams.ghosts).eq q.1.now p.stream && (sets.ghosts).eq q.0.now p.attrs) c.args.points.now c.loop-place.place x _ _ _ c.loop-place-test.true (c.loop-place.invariant.seen q) (c.in_ok-insert.ensures.updates.0 (hashed q)) (ap (λ n. is_eq (order (n, key) (hashed q))) c.content_hash.ensures ∙ ties x.stream q.1.now x.attrs q.0.now ∙ ap (λ y. (streams.ghosts).eq q.1.now y.stream && (sets.ghosts).eq q.0.now y.attrs) c.index-points-place.is);
    }
