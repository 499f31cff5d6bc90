-- The history of a shared gateway, and what it brings.
use Rattle.std.specs.Prelude.{◌≡◌, ◌≢◌, ◌↔◌, ℕ, List, [], ◌∷◌, ◌++◌, Option, Some}
use Rattle.std.specs.FinMap.{empty}
use mathlib.Core.Option.{some}
use lib.ListN.{get_elem?}
use Rattle.point_kit.specs.declared.export.Export.{Export}
use Rattle.point_kit.specs.Exports.{Points, join_points, changed_points, state}
use Rattle.turn_kit.specs.declared.seat.Seat.{Seat}
use Rattle.turn_kit.specs.Public.{IsOf, IsSameTurn, Enters, Looks, Exhausts, Refuses, opening, limit_of, seen, number}
use Rattle.gateway_kit.specs.GatewayState.{GatewayState}
use Rattle.gateway_kit.specs.declared.shared.SharedGateway.{SharedGateway}
use Rattle.gateway_kit.specs.declared.shared.change.GatewayChange.{GatewayChange}
use Rattle.gateway_kit.specs.declared.shared.change.GatewayChange.TheVariants.{Taken, Merged}

-- accepted changes, each with the number of the seat that made it, in their order
abbrev pub History : Type 0
History = List (ℕ × GatewayChange)

-- what a change brings: the state of the export that was taken, or the points that were merged in
abbrev pub points_brought_by : GatewayChange → Points
points_brought_by (Taken export) = state (export ∷ [])
points_brought_by (Merged other) = other.points

-- it has points to bring; who brings none takes no memory
abbrev pub HasPoints : GatewayChange → Type 0
HasPoints (Taken export) = export.points ≢ []
HasPoints (Merged other) = other.points ≢ empty

-- a gateway after a change: each is accepted, and is joined in
abbrev pub after_gateway_change : GatewayState → GatewayChange → Option GatewayState
after_gateway_change g c = Some (record g { points = join_points g.points (points_brought_by c) })

-- how many keys it changes
abbrev pub changed_by : GatewayState → GatewayChange → ℕ
changed_by g c = changed_points g.points (join_points g.points (points_brought_by c))

-- the exports that were taken, in the history's order
abbrev pub also_taken : GatewayChange → List Export → List Export
also_taken (Taken export) es = export ∷ es
also_taken (Merged other) es = es

abbrev pub exports_of : History → List Export
exports_of [] = []
exports_of (x ∷ xs) = also_taken x.1 (exports_of xs)

-- the join of the states that were merged in
abbrev pub also_merged : GatewayChange → Points → Points
also_merged (Taken export) points = points
also_merged (Merged other) points = join_points other.points points

abbrev pub merged_of : History → Points
merged_of [] = empty
merged_of (x ∷ xs) = also_merged x.1 (merged_of xs)

-- what a history brings: the state of the exports that were taken, joined with the states merged in
abbrev pub points_brought : History → Points
points_brought h = join_points (state (exports_of h)) (merged_of h)

-- what a history leaves of the opening gateway: its points joined with what was brought, which is all where it was empty
pub record Keeps (first : GatewayState) (h : History) (g : GatewayState) : Type 0 where
  pub same_id : g.id ≡ first.id
  pub joined : g.points ≡ join_points first.points (points_brought h)
  pub of_empty : first.points ≡ empty → g.points ≡ points_brought h

-- the change stands in the history
abbrev pub HasChange : History → GatewayChange → Type 0
HasChange h c = (place : ℕ) × (n : ℕ) × (get_elem? h place ≡ some (n, c))

-- histories with the same changes bring the same
abbrev pub DependsOnChanges : Type 0
DependsOnChanges = (g h : History) → ((c : GatewayChange) → HasChange g c ↔ HasChange h c) → points_brought g ≡ points_brought h

-- the seat is at this shared gateway
abbrev pub IsAt : {G : Type 0} {g : _} → SharedGateway G → Seat GatewayState GatewayChange g → Type 0
IsAt shared s = IsOf shared.turn s

-- the shared gateways are one, however the turn of each is given back: the seats and notes of one are the other's
abbrev pub IsSameShared : {G H : Type 0} → SharedGateway G → SharedGateway H → Type 0
IsSameShared shared other = IsSameTurn shared.turn other.turn

-- the gateway that was shared
abbrev pub first_of : {G : Type 0} → SharedGateway G → GatewayState
first_of shared = opening shared.turn

-- the most changes that are accepted
abbrev pub most_of : {G : Type 0} → SharedGateway G → ℕ
most_of shared = limit_of shared.turn

module _ {G : Type 0} {g : _} (shared : SharedGateway G) where
  -- the seat's change was accepted, and changed so many keys
  abbrev pub Accepts : GatewayChange → ℕ → Seat GatewayState GatewayChange g → Seat GatewayState GatewayChange g → Type 0
  Accepts c n s t = Enters (λ v. v) after_gateway_change (first_of shared) (most_of shared) c (λ v. n ≡ changed_by v c) s t

  -- so the history goes on with it, and what was kept before it and what is kept after it differ at so many keys
  pub record Adds (c : GatewayChange) (n : ℕ) (s t : Seat GatewayState GatewayChange g) : Type 0 where
    pub before : History
    pub ends : seen t ≡ before ++ (number s, c) ∷ []
    pub old : GatewayState
    pub new : GatewayState
    pub kept : Keeps (first_of shared) before old
    pub keeps : Keeps (first_of shared) (seen t) new
    pub value : n ≡ changed_points old.points new.points

  -- the look was taken at what is kept of all that is now seen
  pub record Sees (answered : GatewayState → Type 0) (t : Seat GatewayState GatewayChange g) : Type 0 where
    pub found : GatewayState
    pub keeps : Keeps (first_of shared) (seen t) found
    pub answer : answered found

  abbrev pub LooksAt : (GatewayState → Type 0) → Seat GatewayState GatewayChange g → Seat GatewayState GatewayChange g → Type 0
  LooksAt answered s t = Looks (λ v. v) after_gateway_change (first_of shared) answered s t

  -- the history has as many changes as it may
  abbrev pub IsExhausted : Seat GatewayState GatewayChange g → Seat GatewayState GatewayChange g → Type 0
  IsExhausted s t = Exhausts (λ v. v) after_gateway_change (first_of shared) (most_of shared) s t

  -- there was no memory for the change, though the history had room for it, and it had points to bring
  abbrev pub LacksMemory : GatewayChange → Seat GatewayState GatewayChange g → Seat GatewayState GatewayChange g → Type 0
  LacksMemory c s t = Refuses (λ v. v) after_gateway_change (first_of shared) (most_of shared) (λ v. HasPoints c) s t
