use Rattle.std.proofs.Common.{◌≡◌, ◌++◌, length, take}
use Rattle.std.specs.List.{flat_map, AllByRecursion}
use Rattle.bytes_kit.specs.Format.{varint}
use Rattle.bytes_kit.proofs.writer.write_list.Given as goal

abbrev pub invariant-loop-item : goal.invariant-loop-item
invariant-loop-item g l = record {
  written : l.out.items ≡ (l.fn.out.items ++ varint (length l.items)) ++ flat_map g.T.Piece.code (take l.item-index l.items);
  value : AllByRecursion g.T.Piece.is_value (take l.item-index l.items);
}
