-- Where the incarnations of a service begin and end among those that are kept in order.
use Rattle.std.specs.Prelude.{ℕ, List}
use Rattle.std.specs.FinMap.Entries.{by_order}
use Rattle.std.specs.declared.cmp.Ordering.{Ordering}
use Rattle.std.specs.declared.cmp.Ordering.TheVariants.{Less, Greater}
use Rattle.attr_kit.specs.Orders.{text_cmp}
use Rattle.gateway_kit.specs.IncarnationState.{IncarnationState}

-- how an incarnation stands to where those of a service begin: before it, or not
abbrev pub begins : List ℕ → IncarnationState → Ordering
begins service p = by_order (text_cmp p.writer.service service) Less Greater Greater

-- and to where they end
abbrev pub ends : List ℕ → IncarnationState → Ordering
ends service p = by_order (text_cmp p.writer.service service) Less Less Greater
