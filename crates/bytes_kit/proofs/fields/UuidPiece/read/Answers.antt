use Rattle.bytes_kit.specs.Fits.{IsInstance}
use Rattle.bytes_kit.specs.Format.{text}
use Rattle.bytes_kit.specs.Laws.{text_code}
use Rattle.bytes_kit.proofs.Refusing.{none_but}
use Rattle.bytes_kit.proofs.fields.UuidPiece.read.Goals as goal

pub returns-in-Err-clause-found : goal.returns-in-Err-clause-found
returns-in-Err-clause-found c =
    λ _. none_but text IsInstance text_code c.in_ok-bytes.bytes.now c.args.reader.now.rest c.read_counted.new.reader.rest c.in_ok-bytes.ensures.ok (λ fit. c.in-Err.ensures.1 fit)
