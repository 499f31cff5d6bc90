use Rattle.std.proofs.Common.{◌≡◌, sym, [], ◌∷◌, ◌++◌, string_bytes, subst}
use Rattle.script_kit.specs.declared.line.Line.{Line}
use Rattle.otm_kit.specs.Effects.{done, effect_of}
use Rattle.otm_kit.specs.Standing.{IsAfter}
use Rattle.otm_kit.proofs.Runnings.{stays_at_nothing, nothing_done}
use Rattle.otm_kit.proofs.desk.Desk.act.Goals as goal

pub returns-in-Nothing : goal.returns-in-Nothing
returns-in-Nothing c = λ lines s.
    let P : Line → Type 0 = λ x. (done (string_bytes c.new.result) ≡ effect_of lines x) × IsAfter (lines ++ x ∷ []) c.args.self.now in
    subst P (sym c.in-Nothing.is) (nothing_done lines (string_bytes c.new.result) c.new.ensures.bytes, stays_at_nothing lines c.args.self.now.draft c.args.self.now.running s)
