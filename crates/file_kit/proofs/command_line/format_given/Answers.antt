use Rattle.std.proofs.Common.{◌≡◌, codes, true, false, rules, sym, ◌∙◌}
use Rattle.clap.specs.Matches.{found_of}
use Rattle.file_kit.proofs.Taking.{flag_lent}
use Rattle.file_kit.proofs.command_line.format_given.Goals as goal

pub returns-then-get_flag : goal.returns-then-get_flag
returns-then-get_flag c = (
  λ is. search rules,
  λ is. let off : c.get_flag.result ≡ false = c.get_flag.ensures.other (flag_lent (found_of c.args.options.now) (codes "openmetrics") (codes "false") is) in
      let on : c.get_flag.result ≡ true = c.if-get_flag.true in
      let bad : true ≡ false = sym on ∙ off in cc,
)

pub returns-else-get_flag : goal.returns-else-get_flag
returns-else-get_flag c = (
  λ is. let on : c.get_flag.result ≡ true = c.get_flag.ensures.value (flag_lent (found_of c.args.options.now) (codes "openmetrics") (codes "true") is) in
      let off : c.get_flag.result ≡ false = c.if-get_flag.false in
      let bad : true ≡ false = sym on ∙ off in cc,
  λ is. search rules,
)
