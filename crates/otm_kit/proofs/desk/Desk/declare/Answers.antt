use Rattle.std.proofs.Common.{◌≡◌, ◌∙◌, sym, ap, true, false, not, [], ◌∷◌, ◌++◌, ℕ, string_bytes}
use Rattle.std.specs.Prelude.{if◌then◌else◌, is_some}
use Rattle.script_kit.specs.declared.line.Line.TheVariants as line
use Rattle.script_kit.specs.declared.reason.Reason.TheVariants as reason
use Rattle.otm_kit.specs.Effects.{bad}
use Rattle.otm_kit.specs.Declarations.{is_taken, with_declaration}
use Rattle.otm_kit.proofs.Runnings.{begun_at, waits_at, at_wait, declare_late, declare_bad, declare_done, waits_more}
use Rattle.otm_kit.proofs.desk.Desk.declare.Goals as goal

pub returns-then-is_some : goal.returns-then-is_some
returns-then-is_some c = λ lines s.
    let is : is_some c.args.self.now.running ≡ true = sym c.is_some.ensures ∙ c.if-is_some.true in
    (declare_late lines c.args.declaration (string_bytes c.new.result) c.new.ensures.bytes (begun_at lines c.args.self.now.draft c.args.self.now.running is s), tt)

pub returns-then-branch : goal.returns-then-branch
returns-then-branch c = λ lines s.
    let draft = c.args.self.now.draft in
    let x = c.args.declaration in
    let is : is_some c.args.self.now.running ≡ false = sym c.is_some.ensures ∙ c.if-is_some.false in
    let w = waits_at lines draft c.args.self.now.running is s in
    let added : true ≡ not (is_taken draft x) = sym c.if-branch.true ∙ c.in_ok-declare.ensures.added in
    let value : c.declare.new.self ≡ with_declaration draft x = c.in_ok-declare.ensures.value ∙ ap (λ b. if b then with_declaration draft x else draft) c.if-branch.true in
    (declare_done lines x draft (string_bytes c.new-then-branch.result) c.new-then-branch.ensures.bytes w added, at_wait (lines ++ line.Declare x ∷ []) c.declare.new.self c.args.self.now.running is (waits_more lines x draft c.declare.new.self w value))

pub returns-else-branch : goal.returns-else-branch
returns-else-branch c = λ lines s.
    let draft = c.args.self.now.draft in
    let x = c.args.declaration in
    let is : is_some c.args.self.now.running ≡ false = sym c.is_some.ensures ∙ c.if-is_some.false in
    let w = waits_at lines draft c.args.self.now.running is s in
    let added : false ≡ not (is_taken draft x) = sym c.if-branch.false ∙ c.in_ok-declare.ensures.added in
    let bad_is = declare_bad lines x draft (string_bytes c.new-else-branch.result) c.new-else-branch.ensures.bytes w added in
    (ap (λ (i : ℕ). bad (string_bytes c.new-else-branch.result) (reason.Taken i)) c.named_at-place.ensures ∙ bad_is, tt)
