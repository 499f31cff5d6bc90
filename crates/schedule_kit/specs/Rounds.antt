-- What collections come to: the points of each, and the state of all that were taken.
use Rattle.std.specs.Prelude.{◌≡◌, ℕ, Bool, List, [], ◌++◌, map, Option, None, Some, if◌then◌else◌}
use Rattle.std.specs.List.{flat_map, list_any}
use Rattle.std.specs.declared.cmp.Ordering.{Ordering}
use Rattle.std.specs.Cmp.{IsTotalOrder, IsEquivalence}
use Rattle.std.specs.FinMap.{FinMap, IsAntisymmetric}
use Rattle.attr_kit.specs.Exact.{IsExact}
use Rattle.point_kit.specs.declared.cell.Held.TheVariants.{One}
use Rattle.point_kit.specs.declared.cell.Cell.{Cell}
use Rattle.point_kit.specs.States.{state_of}
use Rattle.schedule_kit.specs.Deeds.{Made}
use Rattle.schedule_kit.specs.Members.{In, Once}

-- of entries N of writers with identities I: keys K made of an identity, a start and a name X, and payloads P
pub record Rounding (N K I X P : Type 0) : Type 0 where
  -- the order of keys, and the equality of payloads and of names
  pub order : K → K → Ordering
  pub same : P → P → Bool
  pub same_name : X → X → Bool
  pub key : I → ℕ → X → K
  -- the identity of the writer at a place
  pub who : ℕ → I
  -- the names that a list of entries of that writer feeds, and the payload of each
  pub names : ℕ → List N → List X
  pub payload : ℕ → List N → X → P

-- nothing stands there, or one payload
abbrev pub HasNoConflict : {P : Type 0} → Option (Cell P) → Type 0
HasNoConflict None = Unit {0}
HasNoConflict {P} (Some c) = (p : P) × (c.held ≡ One p)

module _ {N K I X P : Type 0} where
  -- orders and equalities are lawful, a key tells what it is made of, a list feeds each name once, none where it is empty, and all that a part of it feeds
  pub record IsSound (r : Rounding N K I X P) : Type 0 where
    pub total : IsTotalOrder r.order
    pub antisymmetric : IsAntisymmetric r.order
    pub equivalence : IsEquivalence r.same
    pub exact : IsExact r.same
    pub names_equivalence : IsEquivalence r.same_name
    pub names_exact : IsExact r.same_name
    pub key_tells : (i j : I) (s t : ℕ) (x y : X) → r.key i s x ≡ r.key j t y → (i ≡ j) × (s ≡ t) × (x ≡ y)
    pub none : (w : ℕ) → r.names w [] ≡ []
    pub once : (w : ℕ) (h : List N) → Once (r.names w h)
    pub grows : (w : ℕ) (h more : List N) (x : X) → In x (r.names w h) → In x (r.names w (h ++ more))

  -- under a name of an incarnation stands the point of its newest collection, where that has one
  abbrev pub part_at : Rounding N K I X P → Option (Made N) → X → Option (Cell P)
  part_at r None x = None
  part_at r (Some m) x = if list_any (r.same_name x) (r.names m.writer m.entries) then Some (record { time = m.time; held = One (r.payload m.writer m.entries x) }) else None

  -- the points of a collection: under each name's key its time and the name's payload
  abbrev pub points : Rounding N K I X P → Made N → List (K × (ℕ × P))
  points r m = map (λ x. (r.key (r.who m.writer) m.start x, (m.time, r.payload m.writer m.entries x))) (r.names m.writer m.entries)

  -- the state of collections
  abbrev pub state : (r : Rounding N K I X P) → List (Made N) → FinMap r.order (Cell P)
  state r ms = state_of r.order r.same (flat_map (points r) ms)
