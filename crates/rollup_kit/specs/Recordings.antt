-- Recorded values and what they add up to.
use Rattle.std.specs.Prelude.{◌≡◌, ℕ, ℤ, Bool, true, List, map, filter}
use Rattle.agg_kit.specs.Payloads.{payload_of}
use Rattle.point_kit.specs.Orders.{key_cmp}
use Rattle.point_kit.specs.declared.key.Key.{Key}
use Rattle.point_kit.specs.declared.payload.Payload.{Payload}
use Rattle.point_kit.specs.declared.shape.Shape.{Shape}
use Rattle.schedule_kit.specs.Members.{In}
use Rattle.schedule_kit.specs.Rounds.{Rounding}
use Rattle.schedule_kit.specs.Totals as totals
use Rattle.rollup_kit.specs.Asks.{asks}
use Rattle.rollup_kit.specs.Parts.{Parts, no_parts, plus_parts, parts_of, parts_of_value}
use Rattle.rollup_kit.specs.Rollups.{AddsUp}
use Rattle.rollup_kit.specs.declared.ask.Ask.{Ask}

-- the parts of values, each by itself, added up
abbrev pub part_sums : Shape → List ℤ → Parts
part_sums shape vs = totals.total no_parts plus_parts (parts_of_value shape) vs

-- a payload has the parts of the values that it is of
abbrev pub PayloadsAddUp : Type 0
PayloadsAddUp = (shape : Shape) (vs : List ℤ) → AddsUp shape → parts_of (payload_of shape vs) ≡ part_sums shape vs

-- each value under a name as its parts
abbrev pub in_parts : {X : Type 0} → Shape → List (X × ℤ) → List (X × Parts)
in_parts shape fed = map (λ p. (p.0, parts_of_value shape p.1)) fed

-- the values under a name
abbrev pub values_under : {X : Type 0} → (X → X → Bool) → X → List (X × ℤ) → List ℤ
values_under same x fed = map (λ p. p.1) (filter (λ p. same x p.0) fed)

module _ {N I X : Type 0} where
  -- of points under keys, in the order of keys
  abbrev pub by_keys : Rounding N Key I X Payload → Rounding N Key I X Payload
  by_keys r = record r { order = key_cmp }

  -- what is fed has a name, and the payload of a name that is asked for is that of the values fed to it
  pub record AreFed (ask : Ask) (r : Rounding N Key I X Payload) (fed : ℕ → List N → List (X × ℤ)) : Type 0 where
    pub named : (w : ℕ) (h : List N) (p : X × ℤ) → In p (fed w h) → In p.0 (r.names w h)
    pub payload : (w : ℕ) (h : List N) (i : I) (s : ℕ) (x : X) → asks ask (r.key i s x) ≡ true → In x (r.names w h) → r.payload w h x ≡ payload_of ask.stream.shape (values_under r.same_name x (fed w h))
