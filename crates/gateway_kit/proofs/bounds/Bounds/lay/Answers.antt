use Rattle.std.proofs.Common.{◌<◌, length, subst, sym, rules}
use Rattle.gateway_kit.specs.Bounding.{Covers}
use Rattle.gateway_kit.specs.declared.part_item.PartItem.{PartItem}
use Rattle.gateway_kit.proofs.Bounded.{laid_more}
use Rattle.gateway_kit.proofs.bounds.Bounds.lay.Goals as goal

pub loop-place-preserved : goal.loop-place-preserved
loop-place-preserved c =
    let within : c.loop-place.place < length c.args.items.now = search rules in
    laid_more c.loop-place.self c.raise.new.self c.args.items.now c.loop-place.place c.index-items-place.result within c.index-items-place.is c.raise.ensures.kept (subst (λ (x : PartItem). Covers c.raise.new.self c.loop-place.place x.number) (sym c.index-items-place.is) c.raise.ensures.here) c.loop-place.invariant
