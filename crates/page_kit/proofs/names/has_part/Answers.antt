use Rattle.std.proofs.Common.{◌||◌, ◌+◌, ℕ, nat_eq, Bool, List, drop, sym, ap, ◌∙◌}
use Rattle.std.specs.List.{starts_with}
use Rattle.page_kit.specs.Names.{has_part}
use Rattle.page_kit.proofs.Texts.{part_more, all_behind}
use Rattle.page_kit.proofs.names.has_part.Goals as goal

pub loop-place-preserved : goal.loop-place-preserved
loop-place-preserved c =
    let part = c.args.part.now in
    let bytes = c.args.bytes.now in
    let i = c.loop-place.place in
    sym (part_more part bytes i c.loop-place-test.true ∙ ap (λ (b : Bool). b || has_part part (drop (i + 1) bytes)) (sym (ap (λ (l : List ℕ). starts_with nat_eq l part) (all_behind bytes i)) ∙ sym c.starts_with.ensures.value ∙ c.if-starts_with.false)) ∙ c.loop-place.invariant
