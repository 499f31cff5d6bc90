use Rattle.std.proofs.Common.{◌≡◌, ◌∙◌, subst, sym}
use Rattle.std.proofs.lemmas.Result.{err_from_is_err_and}
use Rattle.bytes_kit.specs.Fits.{IsFields}
use Rattle.bytes_kit.specs.Format.{Fields, fields_of, head, fields}
use Rattle.bytes_kit.specs.FieldLaws.{fields_code}
use Rattle.bytes_kit.proofs.Sealing.{same_fields, same_export, sound_fields, fault_of, built, explained, no_memory}
use Rattle.bytes_kit.proofs.decode.decode_export.Goals as goal

pub returns-in_err-writer-clause-found : goal.returns-in_err-writer-clause-found
returns-in_err-writer-clause-found c =
    let p = err_from_is_err_and c.from_residual.result c.from_residual.ensures.1 in
    rw (p.1, p.2) (λ e fit is. no_memory c.in_err-writer.field-0.0 (λ ne. c.in_err-writer.ensures.err ne (fields_of e) fit is))

pub returns-in_err-build-clause-found : goal.returns-in_err-build-clause-found
returns-in_err-build-clause-found c =
    let p = err_from_is_err_and c.from_residual-in_err-build.result c.from_residual-in_err-build.ensures.1 in
    let x : Fields = (c.in_ok-writer.writer, (c.in_ok-writer.start, (c.in_ok-writer.time, c.in_ok-writer.points))) in
    rw (p.1, p.2) (λ e fit is. built c.in_err-build.field-0.0 (fault_of x) c.in_err-build.ensures.err (sound_fields x e (same_fields head fields fields_code c.args.bytes.now x (fields_of e) c.in_ok-writer.ensures.ok is)))

pub returns-in_err-build-clause-fault : goal.returns-in_err-build-clause-fault
returns-in_err-build-clause-fault c =
    let p = err_from_is_err_and c.from_residual-in_err-build.result c.from_residual-in_err-build.ensures.1 in
    let x : Fields = (c.in_ok-writer.writer, (c.in_ok-writer.start, (c.in_ok-writer.time, c.in_ok-writer.points))) in
    rw (p.1, p.2) (explained c.in_err-build.field-0.0 c.args.bytes.now x c.in_ok-writer.ensures.ok c.in_err-build.ensures.err)

pub returns-clause-value : goal.returns-clause-value
returns-clause-value c =
    let x : Fields = (c.in_ok-writer.writer, (c.in_ok-writer.start, (c.in_ok-writer.time, c.in_ok-writer.points))) in
    let has_fields : fields_of c.in_ok-build.field-0 ≡ x = λ i. (c.in_ok-build.ensures.writer i, (c.in_ok-build.ensures.start i, (c.in_ok-build.ensures.taken_at i, c.in_ok-build.ensures.points i))) in
    subst IsFields (sym has_fields) c.in_ok-writer.ensures.value

pub returns-clause-found : goal.returns-clause-found
returns-clause-found c =
    let x : Fields = (c.in_ok-writer.writer, (c.in_ok-writer.start, (c.in_ok-writer.time, c.in_ok-writer.points))) in
    let found = c.in_ok-build.field-0 in
    let has_fields : fields_of found ≡ x = λ i. (c.in_ok-build.ensures.writer i, (c.in_ok-build.ensures.start i, (c.in_ok-build.ensures.taken_at i, c.in_ok-build.ensures.points i))) in
    λ e fit is. same_export found e (has_fields ∙ same_fields head fields fields_code c.args.bytes.now x (fields_of e) c.in_ok-writer.ensures.ok is)
