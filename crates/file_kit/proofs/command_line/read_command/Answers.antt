use Rattle.std.proofs.Common.{inl, inr, map, subst}
use Rattle.std.specs.Prelude.{IfOk}
use Rattle.file_kit.specs.Commands.{Asks, SaysNothing}
use Rattle.file_kit.proofs.Taking.{named_is, not_taken, nothing_wrong, on_ok}
use Rattle.file_kit.proofs.command_line.read_command.Goals as goal

pub returns-in-Ok-try_get_matches_from-clause-ok : goal.returns-in-Ok-try_get_matches_from-clause-ok
returns-in-Ok-try_get_matches_from-clause-ok g c =
    let same = named_is _ (map g.S.AsStr.text c.args.words.now) _ c.in-Ok.ensures.app (λ simple. (c.in-Ok-try_get_matches_from.ensures.matches simple).1) in
    subst (λ found. IfOk c.read.result (Asks found)) same c.read.ensures.ok

pub returns-in-Ok-try_get_matches_from-clause-bad_words : goal.returns-in-Ok-try_get_matches_from-clause-bad_words
returns-in-Ok-try_get_matches_from-clause-bad_words g c = λ text is.
    let same = named_is _ (map g.S.AsStr.text c.args.words.now) _ c.in-Ok.ensures.app (λ simple. (c.in-Ok-try_get_matches_from.ensures.matches simple).1) in
    inr (subst SaysNothing same (c.read.ensures.bad_words text is))

pub returns-in-Err-clause-bad_words : goal.returns-in-Err-clause-bad_words
returns-in-Err-clause-bad_words g c = λ text is.
    inl (not_taken _ (map g.S.AsStr.text c.args.words.now) c.in-Ok.ensures.app (λ taken.
    let none = c.refusal.ensures (c.in-Err.ensures.passes taken) in
    cc))

pub returns-in-Ok-try_get_matches_from-clause-taken : goal.returns-in-Ok-try_get_matches_from-clause-taken
returns-in-Ok-try_get_matches_from-clause-taken g c =
    on_ok c.read.result _ (nothing_wrong _ (map g.S.AsStr.text c.args.words.now) c.in-Ok.ensures.app c.in-Ok-try_get_matches_from.ensures.kinds)
