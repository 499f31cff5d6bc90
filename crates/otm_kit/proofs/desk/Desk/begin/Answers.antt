use Rattle.std.proofs.Common.{◌≡◌, ◌∙◌, sym, true, false, string_bytes, subst, rules, ◌≢◌}
use Rattle.std.specs.Prelude.{is_some}
use Rattle.otm_kit.specs.Declarations.{Declared}
use Rattle.otm_kit.specs.Standing.{Waits}
use Rattle.otm_kit.specs.declared.begin.BeginFault.TheVariants as faults
use Rattle.otm_kit.proofs.Runnings.{begun_at, waits_at, begin_late, begin_done, begin_bad, goes_first}
use Rattle.otm_kit.proofs.desk.Desk.begin.Goals as goal

pub returns-then-is_some : goal.returns-then-is_some
returns-then-is_some c = λ lines s.
    let is : is_some c.args.self.now.running ≡ true = sym c.is_some.ensures ∙ c.if-is_some.true in
    (begin_late lines (string_bytes c.new.result) c.new.ensures.bytes (begun_at lines c.args.self.now.draft c.args.self.now.running is s), tt)

pub returns-in-Ok : goal.returns-in-Ok
returns-in-Ok c = λ lines s.
    let is : is_some c.args.self.now.running ≡ false = sym c.is_some.ensures ∙ c.if-is_some.false in
    let w : Waits lines c.replace-draft.result = subst (λ (d : Declared). Waits lines d) (sym c.replace-draft.ensures.value) (waits_at lines c.args.self.now.draft c.args.self.now.running is s) in
    (begin_done lines c.replace-draft.result (string_bytes c.new-in-Ok.result) c.new-in-Ok.ensures.bytes w c.in-Ok.ensures.ok, goes_first lines c.replace-draft.result c.in-Ok.running w c.in-Ok.ensures.value)

pub returns-in_ok-printed-in-Err : goal.returns-in_ok-printed-in-Err
returns-in_ok-printed-in-Err c = λ lines s.
    let is : is_some c.args.self.now.running ≡ false = sym c.is_some.ensures ∙ c.if-is_some.false in
    let w : Waits lines c.replace-draft.result = subst (λ (d : Declared). Waits lines d) (sym c.replace-draft.ensures.value) (waits_at lines c.args.self.now.draft c.args.self.now.running is s) in
    let differs : c.in-Err.fault ≢ faults.NoMemory = search rules in
    (begin_bad lines c.replace-draft.result c.in-Err.fault (string_bytes c.in_ok-printed-in-Err.printed) c.in_ok-printed-in-Err.ensures w (c.in-Err.ensures.err differs), tt)
