use Rattle.std.proofs.Common.{◌≡◌, ◌∙◌, ap, map, sym, true}
use Rattle.std.specs.Prelude.{IfSome}
use Rattle.clap.specs.Words.{App, app_of, fault_of, is_simple, is_simple_and_free, subcommand_of, subcommand_rows_of, takes}
use Rattle.otm_kit.specs.Asked.{otm, faults_of, named_by, is_taken, Says}
use Rattle.otm_kit.proofs.AskedLemmas.{ok_from_some, on_ok, otm_is_free, otm_is_simple, not_taken}
use Rattle.otm_kit.proofs.command_line.asked.Goals as goal

pub returns-in-Ok-try_get_matches_from-clause-ok : goal.returns-in-Ok-try_get_matches_from-clause-ok
unfolding named_by
returns-in-Ok-try_get_matches_from-clause-ok g c =
    let app = c.in-Ok.ensures.app in
    let words = map g.S.AsStr.text c.args.words.now in
    let m = c.in-Ok-try_get_matches_from.matches in
    let simple : is_simple (app_of c.in-Ok.command) ≡ true = ap is_simple app ∙ otm_is_simple in
    let same : subcommand_rows_of m ≡ named_by words = (c.in-Ok-try_get_matches_from.ensures.matches simple).1 ∙ ap (λ (a : App). subcommand_of a words) app in
    let asked : IfSome c.read.result (Says (named_by words)) = rw (← same) c.read.ensures.says in
    ok_from_some (Says (named_by words)) c.read.result c.ok_or.result _ c.ok_or.ensures.value asked

pub returns-in-Err-clause-bad_words : goal.returns-in-Err-clause-bad_words
unfolding is_taken
returns-in-Err-clause-bad_words g c = λ text is.
    let app = c.in-Ok.ensures.app in
    let words = map g.S.AsStr.text c.args.words.now in
    not_taken (takes otm words) (λ taken.
    let memory = c.in-Err.ensures.passes (ap (λ (a : App). takes a words) app ∙ taken) in
    let none = c.refusal.ensures memory in
    cc)

pub returns-in-Ok-try_get_matches_from-clause-taken : goal.returns-in-Ok-try_get_matches_from-clause-taken
unfolding faults_of
returns-in-Ok-try_get_matches_from-clause-taken g c =
    let app = c.in-Ok.ensures.app in
    let words = map g.S.AsStr.text c.args.words.now in
    let free : is_simple_and_free (app_of c.in-Ok.command) ≡ true = ap is_simple_and_free app ∙ otm_is_free in
    on_ok c.ok_or.result _ (sym (ap (λ (a : App). fault_of a words) app) ∙ c.in-Ok-try_get_matches_from.ensures.kinds free)
