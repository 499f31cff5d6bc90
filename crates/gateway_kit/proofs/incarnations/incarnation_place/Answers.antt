use Rattle.gateway_kit.specs.Incarnations.{keyed_cells}
use Rattle.gateway_kit.proofs.Entries.{as_T}
use Rattle.gateway_kit.specs.KeyOrders.{incarnation_total, incarnation_exact}
use Rattle.gateway_kit.proofs.Places.{placed}
use Rattle.gateway_kit.proofs.incarnations.incarnation_place.Goals as goal

pub returns : goal.returns
returns c = placed incarnation_total incarnation_exact keyed_cells (c.args.writer.now, c.args.start) c.args.incarnations.now.items (as_T c.requires) c.search.result c.search.ensures.bound c.search.ensures.position
