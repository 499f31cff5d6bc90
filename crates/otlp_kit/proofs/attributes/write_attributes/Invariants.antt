use Rattle.std.proofs.Common.{◌≡◌, ◌++◌, take}
use Rattle.std.specs.List.{flat_map}
use Rattle.otlp_kit.specs.Request.{attribute}
use Rattle.otlp_kit.proofs.attributes.write_attributes.Given as goal

abbrev pub invariant-loop-key : goal.invariant-loop-key
invariant-loop-key l = l.out.items ≡ l.fn.out.items ++ flat_map (attribute l.field) (take l.key-index l.pairs)
