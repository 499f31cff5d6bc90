use Rattle.std.proofs.Common.{rules, ◌≡◌, ◌∙◌, [], ◌∷◌, None, ap}
use Rattle.std.specs.Prelude.{codes}
use Rattle.attr_kit.specs.AllowLists.{listed_keys}
use Rattle.attr_kit.specs.declared.keep.Keep.TheVariants as keeps
use Rattle.plan_kit.specs.declared.view.Aggregation.TheVariants as ways
use Rattle.plan_kit.specs.declared.view.NameRule.TheVariants as names
use Rattle.uses.proofs.viewing.by_route.Goals as goal

pub returns : goal.returns
returns c =
    let name : c.in_ok-from_str-2.field-0 ≡ codes "requests" = search rules in
    let items : c.push.new.self.items ≡ codes "route" ∷ [] = search rules in
    let keys : c.in_ok-from_keys.field-0 ≡ listed_keys (codes "route" ∷ []) = c.in_ok-from_keys.ensures ∙ ap listed_keys items in
    λ i. record { name = names.Exact (name i); kind = None; scope = None; rename = None; keep = keeps.Only (keys i); aggregation = ways.Default }
