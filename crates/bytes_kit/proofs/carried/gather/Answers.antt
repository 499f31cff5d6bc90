use Rattle.std.proofs.Common.{◌≡◌, ◌++◌, ◌∷◌, [], List, append_assoc, sym, ap, ◌∙◌}
use Rattle.std.specs.FinMap.Entries.{is_sorted}
use Rattle.std.specs.Vec.Iter.{into_iter_items}
use Rattle.point_kit.specs.Orders.{key_cmp}
use Rattle.bytes_kit.specs.Messages.{Entry}
use Rattle.bytes_kit.proofs.Gathering.{gather_more}
use Rattle.bytes_kit.proofs.carried.gather.Goals as goal

pub loop-key-preserved : goal.loop-key-preserved
loop-key-preserved c =
    let one : Entry = (c.in-Some.key, c.in-Some.cell) in
    let left = into_iter_items c.next.new.self in
    let steps : into_iter_items c.loop-key.key-iterator ≡ one ∷ left = c.in-Some.ensures.steps.0 in
    let all : c.args.cells.items ≡ c.loop-key.yielded ++ one ∷ left = c.loop-key.invariant.all ∙ ap (λ (l : List Entry). c.loop-key.yielded ++ l) steps in
    record {
      all = all ∙ sym (append_assoc c.loop-key.yielded (one ∷ []) left);
      gathered = c.in_ok-join_cell.ensures.ok ∙ gather_more c.loop-key.gateway.points c.loop-key.yielded c.in-Some.key c.in-Some.cell left c.loop-key.invariant.gathered (ap (is_sorted key_cmp) (sym all) ∙ c.requires);
    }
