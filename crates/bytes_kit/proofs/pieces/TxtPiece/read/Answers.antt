use Rattle.bytes_kit.proofs.Refusing.{none_of_bytes}
use Rattle.bytes_kit.proofs.pieces.TxtPiece.read.Goals as goal

pub returns-in-Err-clause-found : goal.returns-in-Err-clause-found
returns-in-Err-clause-found c = λ _. none_of_bytes c.in_ok-bytes.bytes.now c.args.reader.now.rest c.read_counted.new.reader.rest c.in_ok-bytes.ensures.ok c.in-Err.ensures.cases.0
