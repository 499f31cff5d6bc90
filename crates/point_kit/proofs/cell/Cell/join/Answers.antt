use Rattle.point_kit.proofs.BestLaws.{best_append}
use Rattle.point_kit.proofs.cell.Cell.join.Goals as goal

pub returns-in-Less-clause-bests : goal.returns-in-Less-clause-bests
returns-in-Less-clause-bests g c = best_append g.P.PartialEq.eq g.met.P.Eq.laws g.met.P.Exact.exact

pub returns-in-Greater-clause-bests : goal.returns-in-Greater-clause-bests
returns-in-Greater-clause-bests g c = best_append g.P.PartialEq.eq g.met.P.Eq.laws g.met.P.Exact.exact

pub returns-in-Equal-clause-bests : goal.returns-in-Equal-clause-bests
returns-in-Equal-clause-bests g c = best_append g.P.PartialEq.eq g.met.P.Eq.laws g.met.P.Exact.exact
