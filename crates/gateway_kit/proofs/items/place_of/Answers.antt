use Rattle.std.proofs.Common.{rules}
use Rattle.std.proofs.lemmas.Fn.{always_returns_same}
use Rattle.gateway_kit.specs.Keys.{keyed_cell_of, item_cmp}
use Rattle.gateway_kit.proofs.Entries.{as_T}
use Rattle.gateway_kit.specs.KeyOrders.{item_total, item_exact}
use Rattle.gateway_kit.proofs.Places.{placed}
use Rattle.gateway_kit.proofs.items.place_of.Goals as goal

pub returns : goal.returns
returns c = placed item_total item_exact keyed_cell_of (c.args.stream.now, c.args.attrs.now) c.args.items.now (as_T c.requires) c.binary_search_by.result c.binary_search_by.ensures.bound (c.binary_search_by.ensures.position (λ y. item_cmp (keyed_cell_of y).0 (c.args.stream.now, c.args.attrs.now)) (always_returns_same _ _ _ (λ a r q k. search rules)))
