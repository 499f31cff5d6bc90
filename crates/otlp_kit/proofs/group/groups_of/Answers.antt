use Rattle.std.proofs.Common.{◌≡◌, ◌++◌, ◌∷◌, [], ℕ, List, Some, cond, length, get_or, slice_set, sym, ap, ◌∙◌, arith, rules}
use Rattle.std.specs.BTreeMap as tree
use Rattle.std.specs.Ordering.{is_eq, nat_cmp, ordering_then}
use Rattle.std.specs.Vec.{vec_len}
use Rattle.point_kit.specs.declared.export_point.ExportPoint.{ExportPoint}
use Rattle.otlp_kit.specs.Reading.{group_of, with_member, add_member}
use Rattle.otlp_kit.specs.declared.group.Group.{Group}
use Rattle.otlp_kit.proofs.Grouping.{place_of, none_is, some_is, place_same, place_added, fold_push}
use Rattle.otlp_kit.proofs.group.groups_of.Goals as goal

pub index_mut-requires : goal.index_mut-requires
index_mut-requires c =
    let p = c.in-Some.next in
    let gs = c.loop-next.groups.items in
    let found = sym (c.in-Some-get.ensures.value ∙ c.loop-next.invariant.places (p.start, p.time)) in
    let joined = some_is p gs c.in-Some-get.place.now (group_of p) found in
    let size : vec_len c.loop-next.groups ≡ length gs = search rules in
    omega (arith, joined.0, size)

pub loop-next-preserved-in-Continue-1 : goal.loop-next-preserved-in-Continue-1
loop-next-preserved-in-Continue-1 c =
    let p = c.in-Some.next in
    let gs = c.loop-next.groups.items in
    let at = c.in-Some-get.place.now in
    let old = c.index_mut.result.now in
    let found = sym (c.in-Some-get.ensures.value ∙ c.loop-next.invariant.places (p.start, p.time)) in
    let joined = some_is p gs at old found in
    let is_old : old ≡ get_or gs at old = search rules in
    let change = ap (λ (l : List ExportPoint). slice_set gs at (record { start = old.start; time = old.time; points = l })) c.in_ok-push-in-Some-get.ensures ∙ ap (λ (g : Group). slice_set gs at (with_member g p)) is_old in
    record {
      so = change ∙ sym joined.1 ∙ ap (λ (l : List Group). add_member l p) c.loop-next.invariant.so ∙ sym (fold_push [] c.loop-next.yielded p);
      places = λ w. c.loop-next.invariant.places w ∙ sym (place_same w gs at old p joined.0) ∙ sym (ap (place_of w) change);
    }

pub loop-next-preserved : goal.loop-next-preserved
loop-next-preserved c =
    let p = c.in-Some.next in
    let gs = c.loop-next.groups.items in
    let none = sym (c.in-None-get.ensures.value ∙ c.loop-next.invariant.places (p.start, p.time)) in
    let points = c.from_vec.ensures ∙ c.in_ok-push-in-None-get.ensures.items ∙ ap (λ (l : List ExportPoint). l ++ p.point ∷ []) c.new-points.ensures.items in
    let change = c.in_ok-push-in-None-get-2.ensures.items ∙ ap (λ (l : List ExportPoint). gs ++ record { start = p.start; time = p.time; points = l } ∷ []) points in
    let size : c.len.result ≡ length gs = search rules in
    record {
      so = change ∙ sym (none_is p gs none) ∙ ap (λ (l : List Group). add_member l p) c.loop-next.invariant.so ∙ sym (fold_push [] c.loop-next.yielded p);
      places = λ w.
          place_added w (group_of p) gs _ _ none (c.loop-next.invariant.places w)
          (c.in_ok-insert-in-None-get.ensures.updates.0 w ∙ ap (λ (n : ℕ). cond (is_eq (ordering_then (nat_cmp p.start w.0) (nat_cmp p.time w.1))) (Some n) (tree.get (λ a b. ordering_then (nat_cmp a.0 b.0) (nat_cmp a.1 b.1)) c.loop-next.places w)) size)
          ∙ sym (ap (place_of w) change);
    }
