use Rattle.std.proofs.Common.{◌≡◌, ◌++◌, ◌∷◌, [], List, length, length-append, subst, sym, ap, ◌∙◌, arith}
use Rattle.std.proofs.lemmas.Result.{err_from_is_err_and}
use Rattle.std.specs.List.{AllByRecursion}
use Rattle.bytes_kit.specs.Format.{varint, forms_behind, past_all}
use Rattle.bytes_kit.specs.Past.{Past}
use Rattle.bytes_kit.proofs.PastRefusing.{all_more, no_few, no_list, taken_more, past_more}
use Rattle.bytes_kit.proofs.passages.SeqPassage.read_behind.Goals as goal

pub returns-in_err-count-2-clause-found : goal.returns-in_err-count-2-clause-found
returns-in_err-count-2-clause-found g c =
    let p = err_from_is_err_and c.from_residual-in_err-count-2.result c.from_residual-in_err-count-2.ensures.1 in
    rw (p.1, p.2) (λ _. no_few g.T.Passage.code g.T.Passage.past g.T.Passage.is_value g.met.T.Passage.has_bytes c.args.history.now c.in_ok-count.count c.args.reader.now.rest c.read.new.reader.rest c.in_ok-count.ensures.found c.in_err-count-2.ensures.err)

pub returns-in_err-item-clause-found : goal.returns-in_err-item-clause-found
returns-in_err-item-clause-found g c =
    let p = err_from_is_err_and c.from_residual-in_err-item.result c.from_residual-in_err-item.ensures.1 in
    rw (p.1, p.2) (λ ne.
    no_list g.T.Passage.code g.T.Passage.past g.T.Passage.is_value g.met.T.Passage.is_code c.args.history.now c.loop.history c.in_ok-count-2.count c.loop.items.items c.args.reader.now.rest c.loop.reader.rest
    c.loop.invariant.taken (omega arith) c.loop.invariant.history (c.in_err-item.ensures.found ne))

pub loop-preserved : goal.loop-preserved
loop-preserved g c =
    let code = g.T.Passage.code in
    let past = g.T.Passage.past in
    let p = c.args.history.now in
    let xs = c.loop.items.items in
    let x = c.in_ok-item.item in
    let last = c.read_behind.new.reader.rest in
    let at = subst (λ (z : Past). c.loop.reader.rest ≡ code z x ++ last) c.loop.invariant.history c.in_ok-item.ensures.found in
    let items : c.push.new.self.items ≡ xs ++ x ∷ [] = c.in_ok-push.ensures.items in
    let long : length c.push.new.self.items ≡ length (xs ++ x ∷ []) = ap length items in
    record {
      count = omega (arith, long, length-append xs (x ∷ []));
      taken = taken_more code past p c.args.reader.now.rest (varint c.in_ok-count-2.count) c.loop.reader.rest last xs x c.loop.invariant.taken at
          ∙ ap (λ (l : List _). varint c.in_ok-count-2.count ++ (forms_behind code past p l ++ last)) (sym items);
      history = c.in_ok-item.ensures.history ∙ ap (λ (z : Past). past z x) c.loop.invariant.history ∙ sym (past_more code past p xs x) ∙ ap (λ (l : List _). past_all past p l) (sym items);
      value = subst (AllByRecursion g.T.Passage.is_value) (sym items) (all_more g.T.Passage.is_value xs x c.loop.invariant.value c.in_ok-item.ensures.value);
      end = c.in_ok-item.ensures.end ∙ c.loop.invariant.end;
    }
