use Rattle.std.proofs.Common.{◌≡◌, ◌++◌, length}
use Rattle.std.specs.List.{AllByRecursion}
use Rattle.bytes_kit.specs.Format.{varint, forms_behind, past_all}
use Rattle.bytes_kit.specs.MessageFits.{IsEntry}
use Rattle.bytes_kit.specs.Messages.{entry, past_entry, nothing_earlier, last_key}
use Rattle.bytes_kit.proofs.cells.read_listed.Given as goal

abbrev pub invariant-loop : goal.invariant-loop
invariant-loop l = record {
  count : length l.items.items ≡ l.counter;
  taken : l.fn.reader.rest ≡ varint l.count ++ (forms_behind entry past_entry nothing_earlier l.items.items ++ l.reader.rest);
  earlier : (l.history, last_key l.items.items) ≡ past_all past_entry nothing_earlier l.items.items;
  value : AllByRecursion IsEntry l.items.items;
  end : l.reader.end ≡ l.fn.reader.end;
}
