use Rattle.std.proofs.Common.{List, ℕ, Option, Some, None}
use Rattle.std.specs.Prelude.{IfSome}
use Rattle.std.proofs.lemmas.Result.{err_from_is_err_and}
use Rattle.script_kit.specs.Bytes.{AppendsFront}
use Rattle.otm_kit.specs.Says.{says}
use Rattle.otm_kit.proofs.Telling.{front_none}
use Rattle.otm_kit.proofs.script.run_script_told.Goals as goal

any_front : (old : Option (List ℕ)) (script : Option (List ℕ)) → IfSome script (λ s. AppendsFront old old (says s))
any_front old None = tt
any_front old (Some s) = front_none old (says s)

pub returns-in_err-script-clause-front : goal.returns-in_err-script-clause-front
returns-in_err-script-clause-front g c =
    let p = err_from_is_err_and c.from_residual.result c.from_residual.ensures.1 in
    rw p.1 (any_front _ _)
