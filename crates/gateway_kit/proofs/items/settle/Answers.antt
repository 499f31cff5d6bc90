use Rattle.std.proofs.Common.{◌≡◌, ◌+◌, ◌<◌, ◌^◌, ℕ, List, max, length, map, take, get_or, sym, ap, subst, ◌∙◌, arith}
use Rattle.std.proofs.lemmas.Grind.{common_steps}
use Rattle.std.proofs.lemmas.List.{length-take}
use Rattle.gateway_kit.specs.Changing.{KeyedCell}
use Rattle.gateway_kit.specs.Keys.{keyed_cell_of}
use Rattle.gateway_kit.specs.Tallies.{IsTally, conflict}
use Rattle.gateway_kit.specs.declared.part_item.PartItem.{PartItem}
use Rattle.gateway_kit.proofs.ExportEntries.{mapped_more}
use Rattle.gateway_kit.proofs.Tallies.{conflicts_few, conflicts_more}
use Rattle.gateway_kit.proofs.Times.{latest_more}
use Rattle.gateway_kit.proofs.items.settle.Goals as goal

pub loop-place-preserved : goal.loop-place-preserved
loop-place-preserved c =
    let xs = c.args.items.now.items in
    let i = c.loop-place.place in
    let x = c.index.result.now in
    let at : c.index.result.now ≡ get_or c.args.items.now.items c.loop-place.place c.index.result.now = c.index.ensures ∙ ap (λ (l : List PartItem). get_or l c.loop-place.place c.index.result.now) c.loop-place.invariant.same in
    let within : c.loop-place.place < length c.args.items.now.items = grind (arith, common_steps) in
    let es = take i (map keyed_cell_of xs) in
    record {
      same = c.follow.ensures ∙ c.loop-place.invariant.same;
      tally =
          subst (λ (l : List KeyedCell). IsTally l c.and-tally.result) (sym (mapped_more keyed_cell_of xs i x within at))
          (record {
            newest = c.and-tally.ensures.newest ∙ ap (λ (n : ℕ). max n x.cell.time) c.loop-place.invariant.tally.newest ∙ sym (latest_more es (keyed_cell_of x));
            conflicts = c.and-tally.ensures.conflicts ∙ ap (λ (n : ℕ). n + conflict x.cell) c.loop-place.invariant.tally.conflicts ∙ sym (conflicts_more es (keyed_cell_of x));
          });
    }

pub and-tally-requires : goal.and-tally-requires
and-tally-requires c =
    let i = c.loop-place.place in
    let es = take i (map keyed_cell_of c.args.items.now.items) in
    let few = conflicts_few es in
    let within = length-take i (map keyed_cell_of c.args.items.now.items) in
    let short : c.loop-place.place < 2 ^ 63 = grind (arith, common_steps) in
    let is = c.loop-place.invariant.tally.conflicts in
    omega (arith, few, within, short, is)
