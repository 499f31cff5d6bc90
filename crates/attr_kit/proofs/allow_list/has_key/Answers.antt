use Rattle.std.proofs.Common.{sym, nat_eq, rules}
use Rattle.std.specs.Cmp.Lexicographic.{slice_cmp, pointwise, nat_list_cmp_total, texts_ties}
use Rattle.std.specs.Ordering.{nat_cmp}
use Rattle.std.proofs.lemmas.Fn.{always_returns_same}
use Rattle.attr_kit.proofs.Rising.{listed_here, listed_nowhere}
use Rattle.attr_kit.proofs.allow_list.has_key.Goals as goal

pub returns-in-Ok : goal.returns-in-Ok
returns-in-Ok c =
    sym (listed_here (slice_cmp nat_cmp) nat_list_cmp_total (pointwise nat_eq) texts_ties c.args.key.now c.args.keys.now c.in-Ok.field-0 c.args.key.now
    c.in-Ok.ensures.bound (c.in-Ok.ensures.position (λ y. slice_cmp nat_cmp y c.args.key.now) (always_returns_same _ _ _ (λ a r q k. search rules)) c.args.key.now))

pub returns-in-Err : goal.returns-in-Err
returns-in-Err c =
    sym (listed_nowhere (slice_cmp nat_cmp) nat_list_cmp_total (pointwise nat_eq) texts_ties c.args.key.now c.args.keys.now c.in-Err.field-0
    c.requires (c.in-Err.ensures.position (λ y. slice_cmp nat_cmp y c.args.key.now) (always_returns_same _ _ _ (λ a r q k. search rules))))
