use Rattle.std.proofs.Common.{◌≡◌, ◌++◌, length}
use Rattle.std.specs.List.{flat_map, AllByRecursion}
use Rattle.bytes_kit.specs.Format.{varint}
use Rattle.bytes_kit.proofs.pieces.SeqPiece.read.Given as goal

abbrev pub invariant-loop : goal.invariant-loop
invariant-loop g l = record {
  count : length l.items.items ≡ l.counter;
  taken : l.fn.reader.rest ≡ varint l.count ++ (flat_map g.T.Piece.code l.items.items ++ l.reader.rest);
  value : AllByRecursion g.T.Piece.is_value l.items.items;
  end : l.reader.end ≡ l.fn.reader.end;
}
