-- The instruments and views of the callers' plans.
use Rattle.std.specs.Prelude.{[], ◌∷◌, None, codes}
use Rattle.attr_kit.specs.AllowLists.{listed_keys}
use Rattle.attr_kit.specs.declared.keep.Keep.TheVariants as keeps
use Rattle.plan_kit.specs.declared.instrument.Instrument.{Instrument}
use Rattle.plan_kit.specs.declared.instrument.Kind.TheVariants as kinds
use Rattle.plan_kit.specs.declared.view.Aggregation.TheVariants as ways
use Rattle.plan_kit.specs.declared.view.NameRule.TheVariants as rules
use Rattle.plan_kit.specs.declared.view.View.{View}

-- a counter `requests` of the scope `app`
abbrev pub requests : Instrument
requests = record { scope = codes "app"; name = codes "requests"; unit = codes "1"; kind = kinds.Counter }

-- a view that keeps, of the attributes of `requests`, the key `route` alone
abbrev pub by_route : View
by_route = record { name = rules.Exact (codes "requests"); kind = None; scope = None; rename = None; keep = keeps.Only (listed_keys (codes "route" ∷ [])); aggregation = ways.Default }
