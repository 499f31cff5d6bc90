use Rattle.std.proofs.Common.{◌≡◌, ◌++◌, length}
use Rattle.std.specs.List.{AllByRecursion}
use Rattle.bytes_kit.specs.Format.{varint, forms_behind, past_all}
use Rattle.bytes_kit.proofs.passages.SeqPassage.read_behind.Given as goal

abbrev pub invariant-loop : goal.invariant-loop
invariant-loop g l = record {
  count : length l.items.items ≡ l.counter;
  taken : l.fn.reader.rest ≡ varint l.count ++ (forms_behind g.T.Passage.code g.T.Passage.past l.fn.history l.items.items ++ l.reader.rest);
  history : l.history ≡ past_all g.T.Passage.past l.fn.history l.items.items;
  value : AllByRecursion g.T.Passage.is_value l.items.items;
  end : l.reader.end ≡ l.fn.reader.end;
}
