use Rattle.std.proofs.Common.{◌≡◌, ◌++◌, length, take}
use Rattle.std.specs.List.{AllByRecursion}
use Rattle.bytes_kit.specs.Format.{varint, forms_behind, past_all}
use Rattle.bytes_kit.proofs.passages.write_list_behind.Given as goal

abbrev pub invariant-loop-item : goal.invariant-loop-item
invariant-loop-item g l = record {
  written : l.out.items ≡ (l.fn.out.items ++ varint (length l.items)) ++ forms_behind g.T.Passage.code g.T.Passage.past l.fn.history (take l.item-index l.items);
  history : l.history ≡ past_all g.T.Passage.past l.fn.history (take l.item-index l.items);
  value : AllByRecursion g.T.Passage.is_value (take l.item-index l.items);
}
