use Rattle.std.proofs.Common.{◌≡◌, ◌-◌, true, List, length, map, drop, sym, ap, subst, ◌∙◌, arith}
use Rattle.std.proofs.lemmas.List.{length-drop}
use Rattle.std.specs.FinMap.Entries.{is_sorted}
use Rattle.gateway_kit.specs.Weave.{by_key}
use Rattle.gateway_kit.proofs.Ahead.{moved_before, sorted_drop}
use Rattle.gateway_kit.proofs.Entries.{as_T, as_true}
use Rattle.gateway_kit.proofs.weave.weave_one.Goals as goal

pub last-init : goal.last-init
last-init g c =
    let K = g.T.Keyed in
    let xs = c.args.mine.now.items in
    let count = c.front_below-count.result in
    let told = c.move_front.ensures in
    let shorter : length c.move_front.new.mine.items ≡ length c.args.mine.now.items - c.front_below-count.result = ap length c.move_front.ensures.left ∙ length-drop c.front_below-count.result xs in
    record {
      before = moved_before (by_key K.compare K.entry) c.args.value c.args.room.now.items xs c.move_front.new.room.items c.move_front.new.mine.items count c.front_below-count.ensures.before told.moved told.left;
      sorted =
          subst (λ (l : List g.row.T.Denot). is_sorted K.compare (map K.entry l) ≡ true) (sym told.left)
          (as_true (is_sorted K.compare (map K.entry (drop count xs))) (sorted_drop K.compare K.entry count xs (as_T c.requires.sorted)));
      len = omega (arith, shorter, c.front_below-count.ensures.within, told.len);
      capacity = told.capacity;
    }
