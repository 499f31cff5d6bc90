-- What a query answers, of what a gateway holds and of what was recorded.
use Rattle.std.specs.Prelude.{◌≡◌, ℕ, ◌+◌, Bool, true, ◌&&◌, List, map, filter, Some}
use Rattle.std.specs.List.{flat_map}
use Rattle.std.specs.declared.cmp.Ordering.{Ordering}
use Rattle.std.specs.Ordering.{eq_by_cmp}
use Rattle.std.specs.FinMap.{FinMap, entries}
use Rattle.point_kit.specs.declared.cell.Held.{Held}
use Rattle.point_kit.specs.declared.cell.Held.TheVariants.{One, Conflict}
use Rattle.point_kit.specs.declared.cell.Cell.{Cell}
use Rattle.point_kit.specs.States.{tabulate}
use Rattle.schedule_kit.specs.Members.{In}
use Rattle.schedule_kit.specs.Rounds.{Rounding}
use Rattle.schedule_kit.specs.Totals.{IsSum, total_where}

-- a row of a query's answer
pub record Row (V : Type 0) : Type 0 where
  pub total : V
  pub points : ℕ
  pub conflicts : ℕ

-- what a held payload adds to a total: a conflict adds nothing
abbrev pub value_of : {P V : Type 0} → V → (P → V) → Held P → V
value_of zero reads (One p) = reads p
value_of zero reads Conflict = zero

abbrev pub is_one : {P : Type 0} → Held P → ℕ
is_one (One p) = 1
is_one Conflict = 0

abbrev pub is_conflict : {P : Type 0} → Held P → ℕ
is_conflict (One p) = 0
is_conflict Conflict = 1

-- totals V with a zero, and which keys a query asks for and to which row each goes
module _ {K V G : Type 0} (Rg : G → G → Ordering) (zero : V) (plus : V → V → V) (asks : K → Bool) (group : K → G) where
  -- whether a query counts a key to a row
  abbrev pub in_row : G → K → Bool
  in_row g k = asks k && eq_by_cmp Rg g (group k)

  abbrev pub rollup_row : {P : Type 0} → (P → V) → List (K × Cell P) → G → Row V
  rollup_row reads cells g = record {
    total = total_where zero plus (λ e. in_row g e.0) (λ e. value_of zero reads e.1.held) cells;
    points = total_where 0 ◌+◌ (λ e. in_row g e.0) (λ e. is_one e.1.held) cells;
    conflicts = total_where 0 ◌+◌ (λ e. in_row g e.0) (λ e. is_conflict e.1.held) cells;
  }

  -- of the keys asked for, a row for each group, in the groups' order
  abbrev pub rollup : {P : Type 0} {R : K → K → Ordering} → (P → V) → FinMap R (Cell P) → FinMap Rg (Row V)
  rollup reads state = tabulate Rg (map (λ e. group e.0) (filter (λ e. asks e.0) (entries state))) (λ g. Some (rollup_row reads (entries state) g))

  -- the same of recordings: each value under its key added up by itself, and the keys counted
  abbrev pub recorded_row : List (K × V) → List K → G → Row V
  recorded_row values keys g = record {
    total = total_where zero plus (λ p. in_row g p.0) (λ p. p.1) values;
    points = total_where 0 ◌+◌ (in_row g) (λ _. 1) keys;
    conflicts = 0;
  }

  abbrev pub recorded : List (K × V) → List K → FinMap Rg (Row V)
  recorded values keys = tabulate Rg (map group (filter asks keys)) (λ g. Some (recorded_row values keys g))

module _ {N K I X P V : Type 0} (r : Rounding N K I X P) (zero : V) (plus : V → V → V) (reads : P → V) (fed : ℕ → List N → List (X × V)) (asks : K → Bool) where
  -- totals add up, what is fed has a name, and the payload of a name that is asked for reads as the values fed to it, added up
  pub record IsAdded : Type 0 where
    pub sum : IsSum zero plus
    pub named : (w : ℕ) (h : List N) (p : X × V) → In p (fed w h) → In p.0 (r.names w h)
    pub added : (w : ℕ) (h : List N) (i : I) (s : ℕ) (x : X) → asks (r.key i s x) ≡ true → In x (r.names w h) → reads (r.payload w h x) ≡ total_where zero plus (λ p. r.same_name x p.0) (λ p. p.1) (fed w h)

-- of every incarnation, what its entries feed: each value under its key, and each key once
module _ {N K I X P : Type 0} (r : Rounding N K I X P) (entries_of : ℕ × ℕ → List N) (incarnations : List (ℕ × ℕ)) where
  abbrev pub values_fed : {V : Type 0} → (ℕ → List N → List (X × V)) → List (K × V)
  values_fed fed = flat_map (λ i. map (λ p. (r.key (r.who i.0) i.1 p.0, p.1)) (fed i.0 (entries_of i))) incarnations

  abbrev pub keys_fed : List K
  keys_fed = flat_map (λ i. map (r.key (r.who i.0) i.1) (r.names i.0 (entries_of i))) incarnations
