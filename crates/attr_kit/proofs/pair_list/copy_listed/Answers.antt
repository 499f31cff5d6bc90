use Rattle.std.proofs.Common.{◌≡◌, ◌≢◌, ◌∙◌, ◌<◌, OnErr, ap, sym, subst, rules, true, length, get_or, List, ℕ, [], filter, Result, Ok, Err}
use Rattle.attr_kit.specs.AllowLists.{is_listed}
use Rattle.attr_kit.specs.declared.attr_value.AttrValue.{AttrValue}
use Rattle.attr_kit.proofs.Keeping.{some_kept}
use Rattle.attr_kit.proofs.pair_list.copy_listed.Goals as goal

any : {A E P : Type 0} (r : Result A E) → P → OnErr r P
any (Ok a) p = tt
any (Err e) p = p

-- one that is listed is kept
one : (keys : List (List ℕ)) (ps items : List (List ℕ × AttrValue)) (i : ℕ) (p : List ℕ × AttrValue) → items ≡ ps → i < length items → p ≡ get_or items i p → is_listed keys p.0 ≡ true → filter (λ p. is_listed keys p.0) ps ≢ []
one keys ps items i p same h is t = subst (λ l. filter (λ p. is_listed keys p.0) l ≢ []) same (some_kept (λ p. is_listed keys p.0) items i p h (ap (λ (q : List ℕ × AttrValue). is_listed keys q.0) (sym is) ∙ t))

pub returns-in_err-try_copy-clause-no_memory : goal.returns-in_err-try_copy-clause-no_memory
returns-in_err-try_copy-clause-no_memory c =
    let t : is_listed c.args.list.now c.pair-item.result.0 ≡ true = search (rules, c.has.ensures, c.as_str.ensures, c.if-has.true) in
    let kept = one c.args.list.now c.args.pairs.now.items c.deref-pair-items.result.now c.loop-pair.pair-index c.pair-item.result c.deref-pair-items.ensures.value c.loop-pair-test.true c.pair-item.is t in
    any c.from_residual.result kept

pub returns-in_err-push-clause-no_memory : goal.returns-in_err-push-clause-no_memory
returns-in_err-push-clause-no_memory c =
    let t : is_listed c.args.list.now c.pair-item.result.0 ≡ true = search (rules, c.has.ensures, c.as_str.ensures, c.if-has.true) in
    let kept = one c.args.list.now c.args.pairs.now.items c.deref-pair-items.result.now c.loop-pair.pair-index c.pair-item.result c.deref-pair-items.ensures.value c.loop-pair-test.true c.pair-item.is t in
    any c.from_residual-in_err-push.result kept
