use Rattle.std.proofs.Common.{◌≡◌}
use Rattle.std.proofs.lemmas.Result.{IfOk-weaker}
use Rattle.bytes_kit.specs.Format.{bytes_of}
use Rattle.file_kit.specs.Archiving.{AreExportedAt}
use Rattle.file_kit.proofs.archive.exported.Goals as goal

pub returns-in-Ok : goal.returns-in-Ok
returns-in-Ok c =
    IfOk-weaker c.encode_export.result (λ b. b.items ≡ bytes_of c.in-Ok.export) (λ b. AreExportedAt c.args.time c.args.archive.now b.items)
    (λ b is. (c.in-Ok.export, record { writer = c.in-Ok.ensures.writer; start = c.in-Ok.ensures.start; taken_at = c.in-Ok.ensures.taken_at; points = c.in-Ok.ensures.points }, is))
    c.encode_export.ensures.ok
