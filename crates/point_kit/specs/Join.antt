-- How two cells of one key are joined, and the laws of a join.
use Rattle.std.specs.Prelude.{◌≡◌, Bool, if◌then◌else◌, nat_lt, Option, Some, None}
use Rattle.point_kit.specs.declared.cell.Held.{Held}
use Rattle.point_kit.specs.declared.cell.Held.TheVariants.{One, Conflict}
use Rattle.point_kit.specs.declared.cell.Cell.{Cell}

-- the payload if both hold equal ones, else a conflict
abbrev pub join_held : {P : Type 0} → (P → P → Bool) → Held P → Held P → Held P
join_held eq (One p) (One q) = if eq p q then One p else Conflict
join_held eq (One p) Conflict = Conflict
join_held eq Conflict h = Conflict

-- the cell of the later time; at one time, what both hold joined
abbrev pub join_cells : {P : Type 0} → (P → P → Bool) → Cell P → Cell P → Cell P
join_cells eq a b =
    if nat_lt a.time b.time then b
    else if nat_lt b.time a.time then a
    else record { time = a.time; held = join_held eq a.held b.held }

-- the one that is there, or both joined
abbrev pub join_options : {V : Type 0} → (V → V → V) → Option V → Option V → Option V
join_options join None b = b
join_options join (Some a) None = Some a
join_options join (Some a) (Some b) = Some (join a b)

-- the order of two does not matter
abbrev pub IsCommutative : {A : Type 0} → (A → A → A) → Type 0
IsCommutative {A} f = (a b : A) → f a b ≡ f b a

-- nor how three are grouped
abbrev pub IsAssociative : {A : Type 0} → (A → A → A) → Type 0
IsAssociative {A} f = (a b c : A) → f (f a b) c ≡ f a (f b c)

-- what comes again changes nothing
abbrev pub IsIdempotent : {A : Type 0} → (A → A → A) → Type 0
IsIdempotent {A} f = (a : A) → f a a ≡ a

-- the first is at or below the second: joined into it, it changes nothing
abbrev pub IsAtOrBelow : {A : Type 0} → (A → A → A) → A → A → Type 0
IsAtOrBelow join a b = join a b ≡ b

-- two are at or below what is joined of them
abbrev pub JoinsAbove : {A : Type 0} → (A → A → A) → Type 0
JoinsAbove {A} join = (a b : A) → (IsAtOrBelow join a (join a b)) × (IsAtOrBelow join b (join a b))

-- and that is at or below all that both are at or below
abbrev pub JoinsLeast : {A : Type 0} → (A → A → A) → Type 0
JoinsLeast {A} join = (a b c : A) → IsAtOrBelow join a c → IsAtOrBelow join b c → IsAtOrBelow join (join a b) c
