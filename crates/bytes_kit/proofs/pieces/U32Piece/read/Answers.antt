use Rattle.std.proofs.Common.{◌<◌, arith}
use Rattle.bytes_kit.specs.Format.{varint}
use Rattle.bytes_kit.specs.Laws.{varint_code}
use Rattle.bytes_kit.specs.MessageFits.{IsId}
use Rattle.bytes_kit.proofs.Refusing.{none_but}
use Rattle.bytes_kit.proofs.pieces.U32Piece.read.Goals as goal

pub returns-then-number-clause-found : goal.returns-then-number-clause-found
returns-then-number-clause-found c =
    λ _. none_but varint IsId varint_code c.in_ok-number.number c.args.reader.now.rest c.read.new.reader.rest c.in_ok-number.ensures.found (λ fit. let small : c.in_ok-number.number < 4294967296 = fit in absurd (omega arith))
