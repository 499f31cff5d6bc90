use Rattle.std.proofs.Common.{◌≡◌, Ok}
use Rattle.std.specs.List.{fold}
use Rattle.gateway_kit.specs.Listing.{incarnations_left}
use Rattle.file_kit.specs.Archiving.{adopt_all, next}
use Rattle.file_kit.proofs.archive.adopt_all.Given as goal

abbrev pub invariant-loop-held : goal.invariant-loop-held
invariant-loop-held l =
    (goal.iterator-loop-held).can_next l.held-iterator × (goal.iterator-loop-held).is_finite l.held-iterator
    × (fold (next l.keeper.gateway.points) (Ok l.archive) (incarnations_left l.held-iterator) ≡ adopt_all l.keeper.gateway.points l.fn.archive)
