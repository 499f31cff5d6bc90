use Rattle.std.proofs.Common.{◌≡◌, ℤ, pos, List, [], true, cond, get_or, SFits, w64, to_z, of_z, rules, sym, ap, ◌∙◌}
use Rattle.std.specs.BTreeSet.{insert_key}
use Rattle.std.specs.List.{list_any}
use Rattle.std.specs.Ordering.{eq_by_cmp, int_cmp}
use Rattle.std.proofs.lemmas.List.{take_all}
use Rattle.std.proofs.lemmas.Int.{to_z-of_z}
use Rattle.std.proofs.lemmas.List.Sums.{fold_more}
use Rattle.page_kit.specs.Bounds.{rising}
use Rattle.page_kit.proofs.Held.{has_more}
use Rattle.page_kit.proofs.bounds.set_of.Goals as goal

pub loop-bound-init : goal.loop-bound-init
loop-bound-init c = record {
  keys = c.new-set.ensures.empty;
  has = λ q. ap (list_any (eq_by_cmp int_cmp q)) c.new-set.ensures.empty;
}

pub loop-bound-preserved : goal.loop-bound-preserved
loop-bound-preserved c =
    let i = c.loop-bound.bound-index in
    let bounds = c.args.bounds.now in
    let x = get_or bounds i (pos 0) in
    let fits : SFits w64 x = search rules in
    let same : to_z w64 (of_z w64 x) ≡ x = to_z-of_z w64 x fits in
    let old = c.loop-bound.set.keys in
    record {
      keys = c.in_ok-insert.ensures.keys ∙ ap (λ (y : ℤ). insert_key int_cmp old y) same ∙ ap (λ (ks : List ℤ). insert_key int_cmp ks x) c.loop-bound.invariant.keys ∙ sym (fold_more (insert_key int_cmp) [] bounds i (pos 0) c.loop-bound-test.true);
      has = λ q. has_more bounds old c.insert.new.self.keys i (pos 0) q c.loop-bound-test.true (c.loop-bound.invariant.has q) (c.in_ok-insert.ensures.updates.0 q ∙ ap (λ (y : ℤ). cond (eq_by_cmp int_cmp y q) true (list_any (eq_by_cmp int_cmp q) old)) same);
    }

pub returns-clause-keys : goal.returns-clause-keys
returns-clause-keys c = c.loop-bound.invariant.keys ∙ ap rising (take_all c.loop-bound.bound-index c.args.bounds.now c.loop-bound-test.false)

pub returns-clause-has : goal.returns-clause-has
returns-clause-has c = λ q. c.loop-bound.invariant.has q ∙ ap (list_any (eq_by_cmp int_cmp q)) (take_all c.loop-bound.bound-index c.args.bounds.now c.loop-bound-test.false)
