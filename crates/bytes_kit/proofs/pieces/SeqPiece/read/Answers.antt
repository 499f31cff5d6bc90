use Rattle.std.proofs.Common.{arith}
use Rattle.std.proofs.lemmas.Result.{err_from_is_err_and}
use Rattle.bytes_kit.proofs.Refusing.{none_of_few, none_of_list}
use Rattle.bytes_kit.proofs.pieces.SeqPiece.read.Goals as goal

pub returns-in_err-count-2-clause-found : goal.returns-in_err-count-2-clause-found
returns-in_err-count-2-clause-found g c =
    let p = err_from_is_err_and c.from_residual-in_err-count-2.result c.from_residual-in_err-count-2.ensures.1 in
    rw (p.1, p.2) (λ _. none_of_few g.T.Piece.code g.T.Piece.is_value g.met.T.Piece.has_bytes c.in_ok-count.count c.args.reader.now.rest c.read.new.reader.rest c.in_ok-count.ensures.found c.in_err-count-2.ensures.err)

pub returns-in_err-item-clause-found : goal.returns-in_err-item-clause-found
returns-in_err-item-clause-found g c =
    let p = err_from_is_err_and c.from_residual-in_err-item.result c.from_residual-in_err-item.ensures.1 in
    rw (p.1, p.2) (λ ne. none_of_list g.T.Piece.code g.T.Piece.is_value g.met.T.Piece.is_code c.in_ok-count-2.count c.loop.items.items c.args.reader.now.rest c.loop.reader.rest c.loop.invariant.taken (omega arith) (c.in_err-item.ensures.found ne))
