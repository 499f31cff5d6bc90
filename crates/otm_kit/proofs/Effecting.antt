-- What a piece does, from what its line does.
use Rattle.std.proofs.Common.{◌≡◌, ◌∙◌, ℕ, List, [], sym, ap, Result, Ok, Err}
use Rattle.std.specs.Prelude.{OnOk, OnErr, IfErr}
use Rattle.script_kit.specs.Lines.{line_of}
use Rattle.script_kit.specs.declared.line.Line.{Line}
use Rattle.script_kit.specs.declared.reason.Reason.{Reason}
use Rattle.otm_kit.specs.Effects.{bad}
use Rattle.otm_kit.specs.Says.{piece_effect, read_effect}
use Rattle.otm_kit.specs.Standing.{Acts, effect}
use Rattle.otm_kit.specs.declared.desk.Desk.{Desk}
use Rattle.otm_kit.specs.declared.desk.Outcome.{Outcome}

pub effect_at : (before : List Line) (piece : List ℕ) (line : Line) (o : Outcome) (desk : Desk) → line_of piece ≡ Ok line → Acts before line o desk → piece_effect before piece ≡ effect o
unfolding piece_effect
effect_at before piece line o desk is a = ap (read_effect before) is ∙ sym a.0

pub effect_bad : (before : List Line) (piece : List ℕ) (why : Reason) → line_of piece ≡ Err why → piece_effect before piece ≡ bad [] why
unfolding piece_effect
effect_bad before piece why is = ap (read_effect before) is

pub on_ok : {A E : Type 0} {P Q : Type 0} (r : Result A E) → (P → Q) → OnOk r P → OnOk r Q
on_ok (Ok x) f p = f p
on_ok (Err e) f p = tt

pub on_err : {A E : Type 0} {P Q : Type 0} (r : Result A E) → (P → Q) → IfErr r (λ _. P) → OnErr r Q
on_err (Ok x) f p = tt
on_err (Err e) f p = f p
