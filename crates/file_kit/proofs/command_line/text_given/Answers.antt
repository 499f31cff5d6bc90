use Rattle.std.proofs.Common.{◌≡◌, ◌∙◌, List, ℕ, Some, ap}
use Rattle.clap.specs.Matches.{first_value, found_of}
use Rattle.file_kit.proofs.Taking.{first_lent}
use Rattle.file_kit.proofs.command_line.text_given.Goals as goal

pub returns-in_ok-from_str-in-Some : goal.returns-in_ok-from_str-in-Some
returns-in_ok-from_str-in-Some c =
    let lent : Some c.in-Some.text.now ≡ first_value (found_of c.args.options.now) c.args.id.now = c.in-Some.ensures in
    ap (λ (t : List ℕ). Some t) c.in_ok-from_str-in-Some.ensures.ok ∙ lent ∙ first_lent (found_of c.args.options.now) c.args.id.now

pub returns-in-None : goal.returns-in-None
returns-in-None c = c.in-None.ensures ∙ first_lent (found_of c.args.options.now) c.args.id.now
