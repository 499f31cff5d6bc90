use Rattle.std.proofs.Common.{sym, ap, ◌∙◌}
use Rattle.std.proofs.lemmas.Bool.{false≢true}
use Rattle.std.specs.FinMap.Entries.{is_sorted}
use Rattle.point_kit.specs.Orders.{key_cmp}
use Rattle.bytes_kit.specs.MessageFits.{IsCells}
use Rattle.bytes_kit.specs.MessageLaws.{cells_code}
use Rattle.bytes_kit.specs.Messages.{cells}
use Rattle.bytes_kit.proofs.Refusing.{none_but}
use Rattle.bytes_kit.proofs.cells.read_cells.Goals as goal

pub returns-then-not-rises-clause-found : goal.returns-then-not-rises-clause-found
returns-then-not-rises-clause-found c =
    λ _. none_but cells IsCells cells_code c.in_ok-cells.cells c.args.reader.now.rest c.read_listed.new.reader.rest c.in_ok-cells.ensures.found
    (λ fit. false≢true (sym c.if-not-rises.true ∙ c.rises.ensures ∙ ap (is_sorted key_cmp) c.as_slice.ensures ∙ fit.1))
