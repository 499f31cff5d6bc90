-- How a job ends, whose entries are noted and taken in part by part.
use Rattle.std.proofs.Common.{◌≡◌, ◌∙◌, ℕ, zero, suc, ◌+◌, ◌<◌, ◌≤◌, Bool, true, false, true≢false, arith, List, [], ◌∷◌, ◌++◌, append_assoc, append-nil, length, length-append, map, take, slice_get, slice_index_or, Option, None, Some, refl, sym, ap, subst}
use Rattle.std.specs.Prelude.{ℤ, is_err, is_some, Result, Ok, Err, IfNone, IfSome, OnOk}
use Rattle.std.proofs.lemmas.List.{length-map, length-take-le, take_more}
use Rattle.std.proofs.Math.Seq.{take-append-add, take-length}
use mathlib.Core.List.{map-append}
use mathlib.Core.Logic.{dite}
use native.Mathlib.Decide.{ℕ_discrete}
use Rattle.attr_kit.specs.declared.attr_set.AttrSet.{AttrSet}
use Rattle.agg_kit.specs.Entries.{Entry}
use Rattle.plan_kit.specs.Plans.{Planned}
use Rattle.recorder_kit.specs.Log.{Recording, ByName}
use Rattle.turn_kit.specs.declared.seat.Seat.{Seat}
use Rattle.writer_kit.specs.Shared.{first_of}
use Rattle.writer_kit.specs.Written.{Written}
use Rattle.writer_kit.specs.declared.shared.change.WriterChange.{WriterChange}
use Rattle.writer_kit.specs.declared.shared.writer.SharedWriter.{SharedWriter}
use Rattle.fleet_kit.specs.Ends.{EndsAs, HasRecorded, HasRefused, LetPass}
use Rattle.fleet_kit.specs.Jobs.{as_entry, entries, noted}
use Rattle.fleet_kit.specs.Noting.{recorded_by_seat, IsNoted, StopsNoting, StopsTaking, TellsRoom}
use Rattle.fleet_kit.specs.declared.halt.Halt.{Halt}
use Rattle.fleet_kit.specs.declared.halt.Halt.TheVariants.{GateShut, Refused, NoThread, Missing, NoMemory}
use Rattle.fleet_kit.specs.declared.setup.Job.{Job}
use Rattle.fleet_kit.proofs.Noting.{in_front}

get_behind : {A : Type 0} (xs ys : List A) (k : ℕ) → slice_get (xs ++ ys) (length xs + k) ≡ slice_get ys k
get_behind [] ys k = let same : 0 + k ≡ k = omega arith in ap (slice_get ys) same
get_behind (x ∷ xs) ys k = let same : suc (length xs) + k ≡ suc (length xs + k) = omega arith in ap (slice_get (x ∷ (xs ++ ys))) same ∙ get_behind xs ys k

pub within : {A : Type 0} (xs : List A) (k : ℕ) (x : A) → slice_get xs k ≡ Some x → k < length xs
within [] k x e = cc e
within (y ∷ xs) zero x e = omega arith
within (y ∷ xs) (suc k) x e = let l = within xs k x e in omega (arith, l)

entry_at : (items : List (ℕ × AttrSet × ℤ)) (k : ℕ) (e : ℕ × AttrSet × ℤ) (d : Entry) → k < length items → e ≡ slice_index_or items k e → slice_index_or (map as_entry items) k d ≡ as_entry e
entry_at [] k e d less is = absurd (omega (arith, less))
entry_at (x ∷ items) zero e d less is = ap as_entry (sym is)
entry_at (x ∷ items) (suc k) e d less is = entry_at items k e d (omega (arith, less)) is

module _ (passes : ℕ → ℕ → Bool → Type 0) (n : ℕ) (j : Job) (from : ℕ) where
  -- nothing is noted yet
  pub noted_none : (rs : List Recording) → rs ≡ [] → from < length j.entries.items → IsNoted passes n j from rs
  noted_none rs is less =
      let same : from + 0 ≡ from = omega arith in
      record {
        es = [];
        notes = is;
        next = append-nil (take from (entries j)) ∙ ap (λ (k : ℕ). take k (entries j)) (sym same);
        there = omega (arith, less);
        passed = λ all. subst (LetPass passes n) (sym same) all;
      }

  pub many_noted : (rs : List Recording) → (x : IsNoted passes n j from rs) → length rs ≡ length x.es
  many_noted rs x = ap length x.notes ∙ length-map x.es (λ e. ByName e)

  -- one more entry is noted
  pub noted_more : (rs more : List Recording) (place : ℕ) (e : ℕ × AttrSet × ℤ) → IsNoted passes n j from rs → place ≡ from + length rs → place < length j.entries.items → e ≡ slice_index_or j.entries.items place e
      → passes n place true → more ≡ rs ++ ByName (as_entry e) ∷ [] → IsNoted passes n j from more
  noted_more rs more place e x at less is pass new =
      let many = many_noted rs x in
      let k : ℕ = from + length x.es in
      let here : place ≡ k = omega (arith, at, many) in
      let long : length (x.es ++ as_entry e ∷ []) ≡ length x.es + 1 = length-append x.es (as_entry e ∷ []) in
      let next_place : from + length (x.es ++ as_entry e ∷ []) ≡ k + 1 = omega (arith, long) in
      let count : length (entries j) ≡ length j.entries.items = length-map j.entries.items as_entry in
      let its : slice_index_or (entries j) k (as_entry e) ≡ as_entry e = ap (λ (m : ℕ). slice_index_or (entries j) m (as_entry e)) (sym here) ∙ entry_at j.entries.items place e (as_entry e) less is in
      record {
        es = x.es ++ as_entry e ∷ [];
        notes = new ∙ ap (λ (l : List Recording). l ++ ByName (as_entry e) ∷ []) x.notes ∙ sym (map-append (λ (y : Entry). ByName y) x.es (as_entry e ∷ []));
        next =
            sym (append_assoc (take from (entries j)) x.es (as_entry e ∷ []))
            ∙ ap (λ (l : List Entry). l ++ as_entry e ∷ []) x.next
            ∙ ap (λ (y : Entry). take k (entries j) ++ y ∷ []) (sym its)
            ∙ sym (take_more (entries j) k (as_entry e) (omega (arith, less, here, count)))
            ∙ ap (λ (m : ℕ). take m (entries j)) (sym next_place);
        there = omega (arith, less, here, next_place);
        passed = λ all entry l. dite (ℕ_discrete entry place)
            (λ (same : entry ≡ place). subst (λ (m : ℕ). passes n m true) (sym same) pass)
            (λ other. x.passed all entry (omega (arith, l, next_place, here, other)));
      }

  module _ (low : from ≤ length j.entries.items) where
    front : length (take from (entries j)) ≡ from
    front = let count = length-map j.entries.items as_entry in length-take-le from (entries j) (omega (arith, low, count))

    -- an entry that was noted, among all
    noted_at : (rs : List Recording) (x : IsNoted passes n j from rs) (k : ℕ) (e : Entry) → slice_get x.es k ≡ Some e
        → (slice_get (entries j) (from + k) ≡ Some e) × (take from (entries j) ++ take k x.es ≡ take (from + k) (entries j))
    noted_at rs x k e at =
        let there : slice_get (take (from + length x.es) (entries j)) (from + k) ≡ Some e =
        ap (λ (l : List Entry). slice_get l (from + k)) (sym x.next) ∙ ap (λ (m : ℕ). slice_get (take from (entries j) ++ x.es) (m + k)) (sym front) ∙ get_behind (take from (entries j)) x.es k ∙ at in
        let r = in_front (from + length x.es) (from + k) (entries j) e there in (
          r.0,
          sym (take-append-add (take from (entries j)) x.es k) ∙ ap (λ (m : ℕ). take (m + k) (take from (entries j) ++ x.es)) front ∙ ap (take (from + k)) x.next ∙ r.1,
        )

    -- the job ends as its writer stopped at what was noted
    pub taking_ends : {G : Type 0} {g : _} (shared : SharedWriter G) (s : Seat Written WriterChange g) → recorded_by_seat shared s ≡ take from (entries j) → (rs : List Recording) (x : IsNoted passes n j from rs) → LetPass passes n from
        → (h : Halt) → StopsTaking shared s n from x.es h → EndsAs passes (first_of shared).tally.plan (first_of shared).start n j (Some h)
    taking_ends shared s done rs x all (GateShut job) t = absurd t
    taking_ends shared s done rs x all (Refused job entry) t =
        let place = t.1 in
        let is = t.2 in
        let r = noted_at rs x t.1 t.3 t.4 in
        let less = within x.es t.1 t.3 t.4 in (
          t.0,
          t.3,
          ap (slice_get (entries j)) t.2 ∙ r.0,
          (λ k l. x.passed all k (omega (arith, l, less, is))),
          subst (λ (l : List Entry). HasRefused (first_of shared).tally.plan (first_of shared).start l t.3)
              (ap (λ (l : List Entry). l ++ take t.1 x.es) done ∙ r.1 ∙ ap (λ (m : ℕ). take m (entries j)) (sym t.2)) t.5,
        )
    taking_ends shared s done rs x all NoThread t = tt
    taking_ends shared s done rs x all (Missing gateway writer) t = absurd t
    taking_ends shared s done rs x all NoMemory t = tt

  -- or as noting stopped, once what was noted is recorded
  pub noting_ends : (plan : Planned) (start place : ℕ) → LetPass passes n place → HasRecorded plan start (take place (entries j)) → (h : Halt) → StopsNoting passes n j place h → EndsAs passes plan start n j (Some h)
  noting_ends plan start place all recorded (GateShut job) t = (t.0, place, t.1, all, t.2, recorded)
  noting_ends plan start place all recorded (Refused job entry) t = absurd t
  noting_ends plan start place all recorded NoThread t = absurd t
  noting_ends plan start place all recorded (Missing gateway writer) t = absurd t
  noting_ends plan start place all recorded NoMemory t = tt

-- or all its entries were recorded
pub all_of : (j : Job) (n : ℕ) → n ≤ length j.entries.items → length j.entries.items ≤ n → take n (entries j) ≡ entries j
all_of j n most least = let count = length-map j.entries.items as_entry in let same : n ≡ length (entries j) = omega (arith, most, least, count) in ap (λ (m : ℕ). take m (entries j)) same ∙ take-length (entries j)

pub if_none_of : (o : Option Halt) (P : Type 0) → is_some o ≡ false → IfNone o P → P
if_none_of None P e p = p
if_none_of (Some h) P e p = absurd (true≢false e)

module _ (passes : ℕ → ℕ → Bool → Type 0) (n : ℕ) (j : Job) (from : ℕ) (rs : List Recording) (x : IsNoted passes n j from rs) where
  -- what was noted is recorded too, and passed the gate
  pub part_recorded : (old new : List Entry) → old ≡ take from (entries j) → ((es : List Entry) → rs ≡ noted es → new ≡ old ++ es) → new ≡ take (from + length rs) (entries j)
  part_recorded old new done all =
      all x.es x.notes ∙ ap (λ (l : List Entry). l ++ x.es) done ∙ x.next ∙ ap (λ (m : ℕ). take (from + m) (entries j)) (sym (many_noted passes n j from rs x))

  pub part_passed : LetPass passes n from → LetPass passes n (from + length rs)
  part_passed all = subst (λ (m : ℕ). LetPass passes n (from + m)) (sym (many_noted passes n j from rs x)) (x.passed all)

  pub part_there : from + length rs ≤ length j.entries.items
  part_there = let many = many_noted passes n j from rs x in let there = x.there in omega (arith, many, there)

  -- a job that stopped ends so, as its writer or as noting stopped
  pub taking_ended : {G : Type 0} {g : _} (shared : SharedWriter G) (s : Seat Written WriterChange g) → from ≤ length j.entries.items → recorded_by_seat shared s ≡ take from (entries j) → LetPass passes n from → (o : Option Halt) → is_some o ≡ true
      → IfSome o (λ h. (es : List Entry) → rs ≡ noted es → StopsTaking shared s n from es h) → EndsAs passes (first_of shared).tally.plan (first_of shared).start n j o
  taking_ended shared s low done all None e stops = absurd (true≢false (sym e))
  taking_ended shared s low done all (Some h) e stops = taking_ends passes n j from low shared s done rs x all h (stops x.es x.notes)

  pub noting_ended : (plan : Planned) (start : ℕ) → LetPass passes n from → HasRecorded plan start (take (from + length rs) (entries j)) → (o : Option Halt) → is_some o ≡ true → IfSome o (StopsNoting passes n j (from + length rs)) → EndsAs passes plan start n j o
  noting_ended plan start all recorded None e stops = absurd (true≢false (sym e))
  noting_ended plan start all recorded (Some h) e stops = noting_ends passes n j from plan start (from + length rs) (part_passed all) recorded h stops

-- a writer that was just started recorded nothing
pub new_recorded : (plan : Planned) (start : ℕ) → HasRecorded plan start []
new_recorded plan start = record { acts = []; accepted = tt; others = []; among = λ f. refl }

-- what follows where there is no refusal
pub on_ok : {A E : Type 0} (r : Result A E) (P : Type 0) → is_err r ≡ false → OnOk r P → P
on_ok (Ok a) P e p = p
on_ok (Err f) P e p = absurd (true≢false e)

-- noting does not tell that there is no thread
pub noting_tells : (passes : ℕ → ℕ → Bool → Type 0) (n : ℕ) (j : Job) (place : ℕ) {G : Type 0} {g : _} (shared : SharedWriter G) (s : Seat Written WriterChange g) (o : Option Halt) → IfSome o (StopsNoting passes n j place) → IfSome o (TellsRoom shared s)
noting_tells passes n j place shared s None stops = tt
noting_tells passes n j place shared s (Some NoThread) stops = absurd stops
noting_tells passes n j place shared s (Some (GateShut job)) stops = λ e. cc e
noting_tells passes n j place shared s (Some (Refused job entry)) stops = λ e. cc e
noting_tells passes n j place shared s (Some (Missing gateway writer)) stops = λ e. cc e
noting_tells passes n j place shared s (Some NoMemory) stops = λ e. cc e
