use Rattle.std.proofs.Common.{◌≡◌, ◌∙◌, None, Some, lit<, rules, sym}
use Rattle.clap.specs.Matches.{found_of}
use Rattle.std.specs.Str.Parse.{ParsesUnsigned, ExplainsUnsignedError, HasUnsignedDigitsIfOk}
use Rattle.otm_kit.proofs.OptionLemmas.{none_given, number_given}
use Rattle.otm_kit.proofs.command_line.count_given.Goals as goal
use Rattle.otm_kit.proofs.command_line.count_given.Goals.{else-number-ge1-via-then-number-ge1+else-number-le8, else-number-ge1-via-else-number-ge1}

pub returns-then-number-le8-clause-given : goal.returns-then-number-le8-clause-given
returns-then-number-le8-clause-given c =
    number_given (found_of c.args.options.now) c.args.id.now (λ bs r. ParsesUnsigned 8 10 bs r × ExplainsUnsignedError 10 bs r × HasUnsignedDigitsIfOk bs r) (λ t n gives. gives.0.1) c.get_one.result c.in_ok-number.number (search rules) c.get_one.ensures.none c.get_one.ensures.value

pub returns-in_err-number-clause-none : goal.returns-in_err-number-clause-none
returns-in_err-number-clause-none c none =
    let is : c.get_one.result ≡ None = search rules in
    none_given (found_of c.args.options.now) c.args.id.now 8 1 8 (λ bs r. ParsesUnsigned 8 10 bs r × ExplainsUnsignedError 10 bs r × HasUnsignedDigitsIfOk bs r)
    (λ t r gives. gives.0) (lit< tt) c.get_one.result c.get_one.ensures.value (λ n some least most. let bad : None ≡ Some n = sym is ∙ some in cc)

pub returns-else-number-ge1-clause-none : goal.returns-else-number-ge1-clause-none
returns-else-number-ge1-clause-none c none =
    let is : c.get_one.result ≡ Some c.in_ok-number.number = search rules in
    none_given (found_of c.args.options.now) c.args.id.now 8 1 8 (λ bs r. ParsesUnsigned 8 10 bs r × ExplainsUnsignedError 10 bs r × HasUnsignedDigitsIfOk bs r)
    (λ t r gives. gives.0) (lit< tt) c.get_one.result c.get_one.ensures.value (λ n some least most.
    let same : Some c.in_ok-number.number ≡ Some n = sym is ∙ some in
    elim c.else-number-ge1.branch [
      | else-number-ge1-via-then-number-ge1+else-number-le8 w ↦ search rules
      | else-number-ge1-via-else-number-ge1 w ↦ search rules
    ])
