use Rattle.std.proofs.Common.{◌≡◌, ◌++◌, ◌∷◌, [], List, length, length-append, refl, subst, sym, ap, ◌∙◌, arith}
use Rattle.std.proofs.lemmas.Result.{err_from_is_err_and}
use Rattle.std.specs.List.{AllByRecursion}
use Rattle.bytes_kit.specs.Format.{varint, forms_behind, past_all}
use Rattle.bytes_kit.specs.KeyForms.{IsKeyRest}
use Rattle.bytes_kit.specs.MessageFits.{IsEntry}
use Rattle.bytes_kit.specs.MessageLaws.{entry_code, entry_bytes}
use Rattle.bytes_kit.specs.Messages.{Earlier, Entry, common, entry, past_entry, past_key, nothing_earlier, last_key}
use Rattle.bytes_kit.specs.Reading.{NoneAt}
use Rattle.bytes_kit.proofs.Behind.{earlier_more, key_fits}
use Rattle.bytes_kit.proofs.PastRefusing.{all_more, no_few, no_list, taken_more}
use Rattle.bytes_kit.proofs.cells.read_listed.Goals as goal

pub returns-in_err-count-2-clause-found : goal.returns-in_err-count-2-clause-found
returns-in_err-count-2-clause-found c =
    let p = err_from_is_err_and c.from_residual-in_err-count-2.result c.from_residual-in_err-count-2.ensures.1 in
    rw (p.1, p.2) (λ _. no_few entry past_entry IsEntry entry_bytes nothing_earlier c.in_ok-count.count c.args.reader.now.rest c.read.new.reader.rest c.in_ok-count.ensures.found c.in_err-count-2.ensures.err)

pub returns-in_err-item-clause-found : goal.returns-in_err-item-clause-found
returns-in_err-item-clause-found c =
    let p = err_from_is_err_and c.from_residual-in_err-item.result c.from_residual-in_err-item.ensures.1 in
    rw (p.1, p.2) (λ ne.
    no_list entry past_entry IsEntry entry_code nothing_earlier (c.loop.history, last_key c.loop.items.items) c.in_ok-count-2.count c.loop.items.items c.args.reader.now.rest c.loop.reader.rest c.loop.invariant.taken (omega arith) c.loop.invariant.earlier
    (subst (λ (l : List Entry). NoneAt (entry (c.loop.history, last_key l)) IsEntry c.loop.reader.rest) c.as_slice.ensures.value (c.in_err-item.ensures.found ne)))

pub loop-preserved : goal.loop-preserved
loop-preserved c =
    let xs = c.loop.items.items in
    let x = c.in_ok-item.item in
    let z = c.loop.history in
    let last = c.read_entry.new.reader.rest in
    let found = subst (λ (l : List Entry). c.loop.reader.rest ≡ entry (z, last_key l) x ++ last) c.as_slice.ensures.value c.in_ok-item.ensures.found in
    let at = subst (λ (y : Earlier). c.loop.reader.rest ≡ entry y x ++ last) c.loop.invariant.earlier found in
    let after = subst (λ (l : List Entry). c.read_entry.new.history ≡ past_key (z, last_key l) x.0) c.as_slice.ensures.value c.in_ok-item.ensures.history in
    let rest = subst (λ (l : List Entry). IsKeyRest (common (last_key l) x.0) x.0) c.as_slice.ensures.value c.in_ok-item.ensures.key in
    let fits : IsEntry x = (key_fits xs x.0 c.loop.invariant.value rest, c.in_ok-item.ensures.cell) in
    let items : c.push.new.self.items ≡ xs ++ x ∷ [] = c.in_ok-push.ensures.items in
    let long : length c.push.new.self.items ≡ length (xs ++ x ∷ []) = ap length items in
    record {
      count = omega (arith, long, length-append xs (x ∷ []));
      taken = taken_more entry past_entry nothing_earlier c.args.reader.now.rest (varint c.in_ok-count-2.count) c.loop.reader.rest last xs x c.loop.invariant.taken at
          ∙ ap (λ (l : List Entry). varint c.in_ok-count-2.count ++ (forms_behind entry past_entry nothing_earlier l ++ last)) (sym items);
      earlier = subst (λ (l : List Entry). (c.read_entry.new.history, last_key l) ≡ past_all past_entry nothing_earlier l) (sym items) (earlier_more z c.read_entry.new.history (last_key xs) xs x c.loop.invariant.earlier after);
      value = subst (AllByRecursion IsEntry) (sym items) (all_more IsEntry xs x c.loop.invariant.value fits);
      end = c.in_ok-item.ensures.end ∙ c.loop.invariant.end;
    }

pub returns-in_err-push-clause-found : goal.returns-in_err-push-clause-found
returns-in_err-push-clause-found c =
    let p = err_from_is_err_and c.from_residual-in_err-push.result c.from_residual-in_err-push.ensures.1 in
    rw (p.1, p.2) (λ ne. absurd (ne refl))
