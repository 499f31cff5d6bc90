use Rattle.std.proofs.Common.{◌≡◌, ◌++◌, map}
use Rattle.std.specs.List.{AllByRecursion}
use Rattle.gateway_kit.specs.Walks.{keyed_cell_of_ref, points_left}
use Rattle.bytes_kit.specs.Format.{varint, forms_behind, past_all}
use Rattle.bytes_kit.specs.KeyForms.{key_before}
use Rattle.bytes_kit.specs.MessageFits.{IsEntry}
use Rattle.bytes_kit.specs.Messages.{entry, past_entry, nothing_earlier, last_key}
use Rattle.bytes_kit.proofs.cells.write_cells.Given as goal

abbrev pub invariant-loop-point : goal.invariant-loop-point
invariant-loop-point l =
    (goal.iterator-loop-point).can_next l.point-iterator × (goal.iterator-loop-point).is_finite l.point-iterator
    × (points_left l.fn.points ≡ map keyed_cell_of_ref l.yielded ++ points_left l.point-iterator)
    × (l.out.items ≡ (l.fn.out.items ++ varint l.count) ++ forms_behind entry past_entry nothing_earlier (map keyed_cell_of_ref l.yielded))
    × (key_before l.before ≡ last_key (map keyed_cell_of_ref l.yielded))
    × ((l.history, key_before l.before) ≡ past_all past_entry nothing_earlier (map keyed_cell_of_ref l.yielded))
    × AllByRecursion IsEntry (map keyed_cell_of_ref l.yielded)
