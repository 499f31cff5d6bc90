use Rattle.std.proofs.Common.{◌≡◌, ◌+◌, ◌<◌, ◌++◌, ◌∷◌, [], take, List, length, subst, sym, ap, ◌∙◌, arith}
use Rattle.std.specs.List.{AllByRecursion}
use Rattle.std.proofs.lemmas.List.{take_more}
use Rattle.bytes_kit.specs.Format.{varint, forms_behind, past_all}
use Rattle.bytes_kit.specs.Past.{Past}
use Rattle.bytes_kit.proofs.PastRefusing.{written_more, past_more, all_more}
use Rattle.bytes_kit.proofs.passages.write_list_behind.Goals as goal

pub loop-item-preserved : goal.loop-item-preserved
loop-item-preserved g c =
    let code = g.T.Passage.code in
    let past = g.T.Passage.past in
    let p = c.args.history.now in
    let i = c.loop-item.item-index in
    let items = c.args.items.now in
    let xs = take i items in
    let x = c.item-item.result in
    let within : i < length items = omega arith in
    let more : take (i + 1) items ≡ xs ++ x ∷ [] = take_more items i x within ∙ ap (λ y. xs ++ y ∷ []) (sym c.item-item.is) in
    record {
      written = written_more code past p c.loop-item.history (c.args.out.now.items ++ varint (length items)) c.loop-item.out.items c.write_behind.new.out.items xs x c.loop-item.invariant.written c.loop-item.invariant.history c.in_ok-write_behind.ensures.written
          ∙ ap (λ (l : List _). (c.args.out.now.items ++ varint (length items)) ++ forms_behind code past p l) (sym more);
      history = c.in_ok-write_behind.ensures.history ∙ ap (λ (z : Past). past z x) c.loop-item.invariant.history ∙ sym (past_more code past p xs x) ∙ ap (λ (l : List _). past_all past p l) (sym more);
      value = subst (λ (l : List _). AllByRecursion g.T.Passage.is_value l) (sym more) (all_more g.T.Passage.is_value xs x c.loop-item.invariant.value c.in_ok-write_behind.ensures.value);
    }
