use Rattle.std.proofs.Common.{subst, Option}
use Rattle.std.proofs.lemmas.Result.{err_from_is_err_and}
use Rattle.point_kit.specs.declared.key.Key.{Key}
use Rattle.bytes_kit.specs.KeyForms.{key_before}
use Rattle.bytes_kit.specs.MessageFits.{IsEntry}
use Rattle.bytes_kit.specs.Messages.{entry}
use Rattle.bytes_kit.specs.Reading.{NoneAt}
use Rattle.bytes_kit.proofs.Behind.{no_key, no_cell}
use Rattle.bytes_kit.proofs.cells.read_entry.Goals as goal

pub returns-in_err-key-clause-found : goal.returns-in_err-key-clause-found
returns-in_err-key-clause-found c =
    let p = err_from_is_err_and c.from_residual.result c.from_residual.ensures.1 in
    let z = c.args.history.now in
    rw (p.1, p.2) (λ ne. subst (λ (b : Option Key). NoneAt (entry (z, b)) IsEntry c.args.reader.now.rest) c.last_point.ensures (no_key (z, key_before c.last_point.result) c.args.reader.now.rest (c.in_err-key.ensures.found ne)))

pub returns-in_err-cell-clause-found : goal.returns-in_err-cell-clause-found
returns-in_err-cell-clause-found c =
    let p = err_from_is_err_and c.from_residual-in_err-cell.result c.from_residual-in_err-cell.ensures.1 in
    let z = c.args.history.now in
    rw (p.1, p.2) (λ ne. subst (λ (b : Option Key). NoneAt (entry (z, b)) IsEntry c.args.reader.now.rest) c.last_point.ensures (no_cell (z, key_before c.last_point.result) c.args.reader.now.rest c.read_key.new.reader.rest c.in_ok-key.key c.in_ok-key.ensures.found (c.in_err-cell.ensures.found ne)))
