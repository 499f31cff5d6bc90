-- The exports of a fleet's writers.
use Rattle.std.proofs.Common.{◌≡◌, ◌⊎◌, inl, inr, ℕ, zero, suc, ◌<◌, ◌≤◌, List, [], ◌∷◌, map, length, slice_get, slice_index, slice_index_or, Some, refl, sym, ap, subst, ◌∙◌, arith}
use Rattle.std.specs.Prelude.{Result, Ok, IfOk}
use Rattle.std.proofs.lemmas.List.{length-map}
use Rattle.agg_kit.proofs.Rounds.{there}
use Rattle.agg_kit.specs.Rounds.{round}
use Rattle.plan_kit.specs.Plans.{Planned, AreApart}
use Rattle.point_kit.specs.declared.export.Export.{Export}
use Rattle.point_kit.specs.declared.writer_id.WriterId.{WriterId}
use Rattle.rollup_kit.specs.Fleets.{AreJobs}
use Rattle.rollup_kit.specs.Writers.{ArePlans}
use Rattle.round_kit.specs.Rounds.{points_of}
use Rattle.writer_kit.specs.Written.{Written}
use Rattle.fleet_kit.specs.Collected.{IsRoundOfMixed}
use Rattle.fleet_kit.specs.Setups.{AreExportsAt, IsExportAt, no_writer, entries_recorded, tasks_of, writer_at, writers_of}
use Rattle.fleet_kit.specs.declared.setup.FleetSetup.{FleetSetup}

-- what stands at a place, and what it is
pub got : {A : Type 0} (xs : List A) (k : ℕ) (x : A) → slice_get xs k ≡ Some x → (k < length xs) × ((d : A) → slice_index_or xs k d ≡ x)
got [] k x e = cc e
got (y ∷ xs) zero x e = let same : y ≡ x = cc e in (omega arith, λ d. same)
got (y ∷ xs) (suc k) x e = let r = got xs k x e in let l = r.0 in (omega (arith, l), r.1)

-- the same, told by what stands there
pub get_at : {A : Type 0} (xs : List A) (k : ℕ) (x : A) → k < length xs → x ≡ slice_index_or xs k x → slice_get xs k ≡ Some x
get_at [] k x l e = absurd (omega (arith, l))
get_at (y ∷ xs) zero x l e = ap Some (sym e)
get_at (y ∷ xs) (suc k) x l e = get_at xs k x (omega (arith, l)) e

-- a number that stands at a place
pub get_number : (xs : List ℕ) (k x : ℕ) → k < length xs → x ≡ slice_index xs k → slice_get xs k ≡ Some x
get_number [] k x less is = absurd (omega (arith, less))
get_number (y ∷ xs) zero x less is = ap Some (sym is)
get_number (y ∷ xs) (suc k) x less is = get_number xs k x (omega (arith, less)) is

pub index_at : {A : Type 0} (xs : List A) (k : ℕ) (x d : A) → k < length xs → x ≡ slice_index_or xs k x → x ≡ slice_index_or xs k d
index_at xs k x d l e = sym ((got xs k x (get_at xs k x l e)).1 d)

-- what threads answered, place by place
pub answers_each : {T F : Type 0} (P : ℕ → T → Type 0) (rs : List (Result T F)) (ts : List T) (n : ℕ) → map Ok ts ≡ rs → length rs ≡ n → ((i : ℕ) (d : Result T F) → i < n → IfOk (slice_index_or rs i d) (P i))
    → (length ts ≡ n) × ((k : ℕ) (t : T) → slice_get ts k ≡ Some t → P k t)
answers_each {T} {F} P rs ts n are long each = (
  sym (length-map ts Ok) ∙ ap length are ∙ long,
  λ k t at.
      let l = (got ts k t at).0 in
      let count = length-map {B = Result T F} ts Ok in
      let size = ap length are in
      let here : slice_index_or rs k (Ok t) ≡ Ok t = ap (λ (l : List (Result T F)). slice_index_or l k (Ok t)) (sym are) ∙ mapped ts k t at in
      subst (λ (r : Result T F). IfOk r (P k)) here (each k (Ok t) (omega (arith, l, count, size, long))),
)
  where
    mapped : (ts : List T) (k : ℕ) (t : T) → slice_get ts k ≡ Some t → slice_index_or (map {B = Result T F} Ok ts) k (Ok t) ≡ Ok t
    mapped [] k t e = cc e
    mapped (u ∷ ts) zero t e = let same : u ≡ t = cc e in ap Ok same
    mapped (u ∷ ts) (suc k) t e = mapped ts k t e

start_at : (xs : List (WriterId × Planned × ℕ)) (w : ℕ) → slice_index (map (λ x. x.2) xs) w ≡ (slice_index_or xs w no_writer).2
start_at [] w = refl
start_at (x ∷ xs) zero = refl
start_at (x ∷ xs) (suc w) = start_at xs w

-- the round of a writer that was started as the setup says
pub exported : (s : FleetSetup) (w : ℕ) (first : Written) (e : Export) → first.id ≡ (writer_at s w).0 → first.tally.plan ≡ (writer_at s w).1 → first.start ≡ (writer_at s w).2
    → AreApart (writer_at s w).1.streams → IsRoundOfMixed first s.end (entries_recorded s w) e → IsExportAt s w e
exported s w first e id plan start apart is = record {
  history = is.0;
  mixed = is.1;
  export = record {
    writer = is.2.writer ∙ id;
    start = is.2.start ∙ start ∙ sym (start_at s.writers.items w);
    time = is.2.taken_at;
    points = is.2.points ∙ ap (λ (p : Planned). points_of p.streams (round p is.0)) plan;
  };
  apart = apart;
}

pub are_jobs : (s : FleetSetup) (es : List Export) → AreExportsAt s es → AreJobs (writers_of s) s.end (tasks_of s) es
are_jobs s es are w e at = let x = are.each w e at in (x.history, x.mixed, x.export)

-- plans of writers that were collected
pub are_plans : (s : FleetSetup) (es : List Export) → AreExportsAt s es → ArePlans (writers_of s)
are_plans s es are w = by (below w (length s.writers.items))
  where
    below : (m n : ℕ) → (m < n) ⊎ (n ≤ m)
    below zero zero = inr (omega arith)
    below zero (suc n) = inl (omega arith)
    below (suc m) zero = inr (omega arith)
    below (suc m) (suc n) = elim (below m n) [ inl h ↦ inl (omega arith) | inr h ↦ inr (omega arith) ]

    outside : (xs : List (WriterId × Planned × ℕ)) (w : ℕ) → length xs ≤ w → slice_index_or xs w no_writer ≡ no_writer
    outside [] w h = refl
    outside (x ∷ xs) zero h = absurd (omega arith)
    outside (x ∷ xs) (suc w) h = outside xs w (omega arith)

    by : (w < length s.writers.items) ⊎ (length s.writers.items ≤ w) → AreApart (writer_at s w).1.streams
    by (inl h) = let count = are.count in let x = there es w (omega (arith, h, count)) in (are.each w x.0 x.1).apart
    by (inr h) = subst (λ (v : WriterId × Planned × ℕ). AreApart v.1.streams) (sym (outside s.writers.items w h)) (λ i j t a b. cc a)
