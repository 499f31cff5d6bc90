-- What the entries of a writer feed: streams with attribute sets, each with its payload.
use Rattle.std.specs.Prelude.{ℕ, ℤ, ◌+◌, Bool, ◌&&◌, List, [], ◌∷◌, ◌++◌, map, position, unwrap_or}
use Rattle.attr_kit.specs.declared.attr_set.AttrSet.{AttrSet}
use Rattle.agg_kit.specs.Entries.{Entry}
use Rattle.agg_kit.specs.Feeding.{set_eq, distinct, sets_of, fed}
use Rattle.agg_kit.specs.Payloads.{payload_of}
use Rattle.agg_kit.specs.Rounds.{values_of}
use Rattle.plan_kit.specs.Plans.{Planned}
use Rattle.point_kit.specs.contracts.stream.StreamPartialEq.TheImpl as streams
use Rattle.point_kit.specs.declared.key.Key.{Key}
use Rattle.point_kit.specs.declared.payload.Payload.{Payload}
use Rattle.point_kit.specs.declared.stream.Stream.{Stream}
use Rattle.point_kit.specs.declared.writer_id.WriterId.{WriterId}

abbrev pub stream_eq : Stream → Stream → Bool
stream_eq = (streams.ghosts).eq

-- what a point of an incarnation is of
abbrev pub Name : Type 0
Name = Stream × AttrSet

abbrev pub name_eq : Name → Name → Bool
name_eq x y = stream_eq x.0 y.0 && set_eq x.1 y.1

-- the names that entries feed in these streams, the first of which has number k
abbrev pub names_from : Planned → List Entry → ℕ → List Stream → List Name
names_from p h k [] = []
names_from p h k (s ∷ ss) = map (λ a. (s, a)) (distinct (sets_of (fed p k h))) ++ names_from p h (k + 1) ss

-- the values that entries feed in these streams, the first of which has number k, each under its name
abbrev pub values_from : Planned → List Entry → ℕ → List Stream → List (Name × ℤ)
values_from p h k [] = []
values_from p h k (s ∷ ss) = map (λ x. ((s, x.0), x.1)) (fed p k h) ++ values_from p h (k + 1) ss

-- the number of a stream of a plan
abbrev pub number_of : Planned → Stream → ℕ
number_of p s = unwrap_or (position (λ t. stream_eq s t) p.streams) 0

-- the payload of a name: that of the values that feed it
abbrev pub payload_at : Planned → List Entry → Name → Payload
payload_at p h x = payload_of x.0.shape (values_of (fed p (number_of p x.0) h) x.1)

-- the key of a name of an incarnation
abbrev pub key_at : WriterId → ℕ → Name → Key
key_at w start x = record { writer = w; start = start; stream = x.0; attrs = x.1 }
