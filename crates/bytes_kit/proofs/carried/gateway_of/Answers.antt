use Rattle.std.proofs.Common.{◌≡◌, List, true, ap, ◌∙◌, Ok, Err}
use Rattle.std.specs.Prelude.{Result, IfOk}
use Rattle.std.specs.FinMap.{entries, from_entries}
use Rattle.std.specs.FinMap.Entries.{is_sorted}
use Rattle.gateway_kit.specs.GatewayState.{GatewayState}
use Rattle.point_kit.specs.Orders.{key_cmp}
use Rattle.bytes_kit.specs.Messages.{Entry}
use Rattle.bytes_kit.proofs.Gathering.{gathered}
use Rattle.bytes_kit.proofs.carried.gateway_of.Goals as goal

kept : {E : Type 0} (r : Result GatewayState E) (es fs : List Entry) → es ≡ fs → is_sorted key_cmp fs ≡ true → IfOk r (λ g. g.points ≡ from_entries es) → IfOk r (λ g. entries g.points ≡ fs)
kept (Ok g) es fs same h is = ap entries is ∙ gathered es (ap (is_sorted key_cmp) same ∙ h) ∙ same
kept (Err e) es fs same h is = tt

pub returns : goal.returns
returns c = kept c.gather.result c.into_vec.result.items c.args.cells c.into_vec.ensures c.requires c.gather.ensures
