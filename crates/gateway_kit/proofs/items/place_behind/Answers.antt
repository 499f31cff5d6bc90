use Rattle.std.proofs.Common.{◌-◌, length, Err, sym, ◌∙◌, arith}
use Rattle.gateway_kit.specs.Keys.{ItemKey, keyed_cell_of, item_cmp}
use Rattle.gateway_kit.specs.KeyOrders.{item_total, item_exact}
use Rattle.gateway_kit.proofs.Entries.{as_T}
use Rattle.gateway_kit.proofs.Places.{placed}
use Rattle.gateway_kit.proofs.Seeking.{behind_last}
use Rattle.gateway_kit.proofs.items.place_behind.Goals as goal

pub returns-in-Less : goal.returns-in-Less
returns-in-Less c =
    let items = c.args.items.now in
    let key : ItemKey = (c.args.stream.now, c.args.attrs.now) in
    placed item_total item_exact keyed_cell_of key items (as_T c.requires) (Err (length items)) (omega arith)
    (behind_last (λ y. item_cmp (keyed_cell_of y).0 key) items (length items - 1) c.index-items-last.result (omega arith) c.index-items-last.is (sym c.order.ensures ∙ c.in-Less.is))
