-- Two feeds of one stream.
use Rattle.std.specs.Prelude.{ℕ, ◌==◌, ◌&&◌, nat_lt, List, Bool, Option, position, slice_get}
use Rattle.std.specs.List.{list_any}
use Rattle.std.specs.Option.{option_map, option_map_or}
use Rattle.attr_kit.specs.Refusing.{repeat}
use Rattle.plan_kit.specs.declared.wanted.Wanted.{Wanted}
use Rattle.point_kit.specs.contracts.stream.StreamPartialEq.TheImpl as streams

abbrev pub same : Wanted → Wanted → Bool
same a b = (streams.ghosts).eq a.stream b.stream

-- a feed of an instrument before j that has the stream of a feed of j
abbrev pub meets : List Wanted → ℕ → Wanted → Bool
meets ws j a = nat_lt a.owner j && list_any (λ b. (b.owner == j) && same a b) ws

-- the owner of the feed at a place
abbrev pub owner_at : List Wanted → ℕ → ℕ
owner_at ws p = option_map_or (λ w. w.owner) (slice_get ws p) 0

-- the least instrument that has a stream of j: an earlier one, or j itself
abbrev pub least_with : List Wanted → ℕ → ℕ
least_with ws j = option_map_or (owner_at ws) (position (meets ws j) ws) j

-- the instruments of two feeds that have one stream: the least later one, then the least earlier one
unfoldable pub clash_of : List Wanted → Option (ℕ × ℕ)
clash_of ws = option_map (λ p. (least_with ws (owner_at ws p), owner_at ws p)) (repeat same ws)
