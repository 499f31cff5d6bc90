use Rattle.std.proofs.Common.{◌≡◌, Bor, map, take}
use Rattle.std.specs.HashMap.{get_by}
use Rattle.std.specs.List.{position_from}
use Rattle.plan_kit.specs.declared.instrument.Instrument.{Instrument}
use Rattle.plan_kit.specs.Owners.{is_same, owner_of}
use Rattle.plan_kit.proofs.owners.owners.Given as goal

abbrev pub invariant-loop-place : goal.invariant-loop-place
invariant-loop-place l = record {
  owners : l.owners.items ≡ map (owner_of l.instruments) (take l.place l.instruments);
  firsts : (q : Bor Instrument) → get_by (λ k. is_same q.now k.now) l.firsts ≡ position_from (is_same q.now) 0 (take l.place l.instruments);
}
