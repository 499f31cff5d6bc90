use Rattle.std.proofs.Common.{sym, subst, rules}
use lib.Dec.{T}
use Rattle.std.specs.Cmp.Lexicographic.{slice_cmp, nat_list_cmp_total}
use Rattle.std.specs.FinMap.{nat_cmp-IsAntisymmetric, slice_cmp-IsAntisymmetric}
use Rattle.std.specs.Ordering.{nat_cmp}
use Rattle.std.proofs.lemmas.Fn.{always_returns_same}
use Rattle.attr_kit.proofs.Searching.{find_here, searched_none}
use Rattle.attr_kit.proofs.pair_list.value_under.Goals as goal

pub returns-in-Ok : goal.returns-in-Ok
returns-in-Ok c =
    sym (find_here (slice_cmp nat_cmp) nat_list_cmp_total (slice_cmp-IsAntisymmetric nat_cmp-IsAntisymmetric) c.args.key.now c.args.pairs.now c.in-Ok.place c.index-pairs-place.result
    (subst T (sym c.requires.rising) tt) c.in-Ok.ensures.bound (c.in-Ok.ensures.position (λ y. slice_cmp nat_cmp y.0 c.args.key.now) (always_returns_same _ _ _ (λ a r q k. search rules)) c.index-pairs-place.result))

pub returns-in-Err : goal.returns-in-Err
returns-in-Err c =
    sym (searched_none (slice_cmp nat_cmp) nat_list_cmp_total (slice_cmp-IsAntisymmetric nat_cmp-IsAntisymmetric) c.args.key.now c.args.pairs.now c.in-Err.field-0
    (subst T (sym c.requires.rising) tt) (c.in-Err.ensures.position (λ y. slice_cmp nat_cmp y.0 c.args.key.now) (always_returns_same _ _ _ (λ a r q k. search rules))))
