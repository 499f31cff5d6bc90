use Rattle.std.proofs.Common.{ℕ, ◌-◌, length, take, sym, ap, ◌∙◌}
use Rattle.std.proofs.lemmas.Result.{err_from_is_err_and}
use Rattle.bytes_kit.specs.Fits.{IsFields}
use Rattle.bytes_kit.specs.Format.{head, fields}
use Rattle.bytes_kit.specs.FieldLaws.{fields_code}
use Rattle.bytes_kit.proofs.Sealing.{no_head, no_fields, no_seal, is_sealed, seal_fault}
use Rattle.bytes_kit.proofs.decode.read_fields.Goals as goal

pub returns-in_err-read_head-clause-err : goal.returns-in_err-read_head-clause-err
returns-in_err-read_head-clause-err c =
    let p = err_from_is_err_and c.from_residual.result c.from_residual.ensures.1 in
    rw (p.1, p.2) (λ _ x _. no_head head fields c.args.bytes.now (λ rest e. c.in_err-read_head.ensures.err rest (c.new-reader.ensures.rest ∙ e)) x)

pub returns-in_err-fields-clause-err : goal.returns-in_err-fields-clause-err
returns-in_err-fields-clause-err c =
    let p = err_from_is_err_and c.from_residual-in_err-fields.result c.from_residual-in_err-fields.ensures.1 in
    rw (p.1, p.2) (λ ne. no_fields head fields IsFields c.args.bytes.now c.read_head.new.reader.rest (sym c.new-reader.ensures.rest ∙ c.in_ok-read_head.ensures.ok) (c.in_err-fields.ensures.found ne))

pub returns-in_err-read_seal-clause-err : goal.returns-in_err-read_seal-clause-err
returns-in_err-read_seal-clause-err c =
    let p = err_from_is_err_and c.from_residual-in_err-read_seal.result c.from_residual-in_err-read_seal.ensures.1 in
    let bytes = c.args.bytes.now in
    let taken = c.split_at.ensures.front ∙ ap (λ (n : ℕ). take (length bytes - n) bytes) c.rest_len.ensures in
    rw (p.1, p.2) (λ _ x _. no_seal head fields fields_code bytes c.read_head.new.reader.rest c.read_written.new.reader.rest c.split_at.result.0.now c.in_ok-fields.fields c.checksum.result (sym c.new-reader.ensures.rest ∙ c.in_ok-read_head.ensures.ok) c.in_ok-fields.ensures.found taken c.checksum.ensures c.in_err-read_seal.ensures.err x)

pub returns-in_err-read_seal-clause-fault : goal.returns-in_err-read_seal-clause-fault
returns-in_err-read_seal-clause-fault c =
    let p = err_from_is_err_and c.from_residual-in_err-read_seal.result c.from_residual-in_err-read_seal.ensures.1 in
    let bytes = c.args.bytes.now in
    let taken = c.split_at.ensures.front ∙ ap (λ (n : ℕ). take (length bytes - n) bytes) c.rest_len.ensures in
    let ends = c.in_ok-fields.ensures.end ∙ c.in_ok-read_head.ensures.end ∙ c.new-reader.ensures.end in
    rw (p.1, p.2) (seal_fault head fields bytes c.read_head.new.reader.rest c.read_written.new.reader.rest c.split_at.result.0.now c.in_ok-fields.fields c.checksum.result c.read_written.new.reader.end (sym c.new-reader.ensures.rest ∙ c.in_ok-read_head.ensures.ok) c.in_ok-fields.ensures.found taken c.checksum.ensures ends c.in_err-read_seal.field-0.0 c.in_err-read_seal.ensures.fault)

pub returns-clause-ok : goal.returns-clause-ok
returns-clause-ok c =
    let bytes = c.args.bytes.now in
    let taken = c.split_at.ensures.front ∙ ap (λ (n : ℕ). take (length bytes - n) bytes) c.rest_len.ensures in
    is_sealed head fields bytes c.read_head.new.reader.rest c.read_written.new.reader.rest c.split_at.result.0.now c.in_ok-fields.fields c.checksum.result (sym c.new-reader.ensures.rest ∙ c.in_ok-read_head.ensures.ok) c.in_ok-fields.ensures.found taken c.checksum.ensures c.in_ok-read_seal.ensures.ok
