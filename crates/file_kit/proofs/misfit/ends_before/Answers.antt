use Rattle.std.proofs.Common.{◌∙◌, ℕ, List, subst, sym, take}
use Rattle.std.specs.Prelude.{IfOk}
use Rattle.file_kit.specs.Contents.{IsOf}
use Rattle.file_kit.proofs.Reading.{ok_has}
use Rattle.file_kit.proofs.misfit.ends_before.Goals as goal

pub returns : goal.returns
returns c = λ ok.
    ok_has (take c.args.place c.args.bytes.now) c.read.result
    (subst (λ (b : List ℕ). IfOk c.read.result (IsOf b)) c.split_at.ensures.front c.read.ensures.ok) (sym c.is_ok.ensures.value ∙ ok)
