use Rattle.std.proofs.Common.{◌+◌, ◌<◌, ◌^◌, ℕ, List, max, length, map, take, sym, ap, subst, ◌∙◌, arith}
use Rattle.std.proofs.lemmas.Grind.{common_steps}
use Rattle.std.proofs.lemmas.List.{length-take}
use Rattle.gateway_kit.specs.Changing.{KeyedCell}
use Rattle.gateway_kit.specs.Keys.{keyed_cell_of}
use Rattle.gateway_kit.specs.Tallies.{IsTally, conflict}
use Rattle.gateway_kit.proofs.ExportEntries.{mapped_more}
use Rattle.gateway_kit.proofs.Tallies.{conflicts_few, conflicts_more}
use Rattle.gateway_kit.proofs.Times.{latest_more}
use Rattle.gateway_kit.proofs.items.tally_of.Goals as goal

pub loop-item-preserved : goal.loop-item-preserved
loop-item-preserved c =
    let xs = c.args.items.now in
    let i = c.loop-item.item-index in
    let x = c.item-item.result in
    let within : i < length xs = grind (arith, common_steps) in
    let es = take i (map keyed_cell_of xs) in
    subst (λ (l : List KeyedCell). IsTally l c.and-tally.result) (sym (mapped_more keyed_cell_of xs i x within c.item-item.is))
    (record {
      newest = c.and-tally.ensures.newest ∙ ap (λ (n : ℕ). max n x.cell.time) c.loop-item.invariant.newest ∙ sym (latest_more es (keyed_cell_of x));
      conflicts = c.and-tally.ensures.conflicts ∙ ap (λ (n : ℕ). n + conflict x.cell) c.loop-item.invariant.conflicts ∙ sym (conflicts_more es (keyed_cell_of x));
    })

pub and-tally-requires : goal.and-tally-requires
and-tally-requires c =
    let xs = c.args.items.now in
    let i = c.loop-item.item-index in
    let es = take i (map keyed_cell_of xs) in
    let few = conflicts_few es in
    let within = length-take i (map keyed_cell_of xs) in
    let short : i < 2 ^ 63 = grind (arith, common_steps) in
    let is = c.loop-item.invariant.conflicts in
    omega (arith, few, within, short, is)
