use Rattle.std.proofs.Common.{◌≡◌, map, take}
use Rattle.gateway_kit.specs.Changing.{Drafts, keyed_cells_of}
use Rattle.gateway_kit.specs.Keys.{keyed_cell_of}
use Rattle.gateway_kit.proofs.trail.draft_changes.Given as goal

-- the points so far are in the draft
abbrev pub invariant-loop-point : goal.invariant-loop-point
invariant-loop-point l = record {
  same : l.items.items ≡ l.fn.items.items;
  drafts : Drafts (map keyed_cell_of l.fn.items.items) (take l.point-index (keyed_cells_of l.export)) l.draft.updates.items l.draft.fresh.items;
}
