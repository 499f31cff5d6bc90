use Rattle.std.proofs.Common.{ap, string_bytes, Option, subst}
use Rattle.std.specs.Prelude.{is_some}
use Rattle.otm_kit.specs.Declarations.{declared_by}
use Rattle.otm_kit.specs.Events.{commands}
use Rattle.otm_kit.specs.Standing.{StandsFor, Goes}
use Rattle.otm_kit.specs.declared.running.Running.{Running}
use Rattle.otm_kit.proofs.Runnings.{waits_at, stays_at_query, ask_early, ask_done, ask_bad}
use Rattle.otm_kit.proofs.desk.Desk.answer.Goals as goal

pub returns-in_default : goal.returns-in_default
returns-in_default c = λ lines s.
    let w = waits_at lines c.args.self.now.draft c.args.self.now.running (ap is_some c.in_default.is) s in
    (ask_early lines c.args.query (string_bytes c.new.result) c.new.ensures.bytes w.begun, tt)

pub returns-in-Ok : goal.returns-in-Ok
returns-in-Ok c = λ lines s.
    let x = c.args.query in
    let g : Goes lines c.in-Some.running = subst (λ (o : Option Running). StandsFor lines c.args.self.now.draft o) c.in-Some.is s in
    (ask_done lines x (string_bytes c.in-Ok.printed) g.begun (c.in-Ok.ensures (declared_by lines) (commands lines) g.runs), stays_at_query lines x c.args.self.now.draft c.args.self.now.running s)

pub returns-in-Err-Bad : goal.returns-in-Err-Bad
returns-in-Err-Bad c = λ lines s.
    let g : Goes lines c.in-Some.running = subst (λ (o : Option Running). StandsFor lines c.args.self.now.draft o) c.in-Some.is s in
    let told = rw c.in-Err-Bad.field-0-is at (c.in-Err-Bad.ensures (declared_by lines) (commands lines) g.runs) in
    (ask_bad lines c.args.query (string_bytes c.new-in-Err-Bad.result) c.in-Err-Bad.why g.begun c.new-in-Err-Bad.ensures.bytes told, tt)
