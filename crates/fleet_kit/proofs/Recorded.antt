-- What seats recorded, while a history goes on and when it is closed.
use Rattle.std.proofs.Common.{◌≡◌, ◌∙◌, ℕ, zero, suc, ◌+◌, Bool, true, false, if◌then◌else◌, ◌==◌, eq-eqb, ne_eqb, arith, List, [], ◌∷◌, ◌++◌, append_assoc, append-nil, length, length-append, map, Option, Some, None, refl, sym, ap, subst, inl, inr}
use Rattle.std.specs.Prelude.{IfNone}
use mathlib.Core.Option.{some, some-injective, some-ne-none}
use lib.ListN.{get_elem?}
use Rattle.agg_kit.specs.Entries.{Entry}
use Rattle.agg_kit.specs.Tallies.{Tallied}
use Rattle.schedule_kit.proofs.Totals.{count_sum, total-append}
use Rattle.schedule_kit.specs.Members.{In, Once}
use Rattle.schedule_kit.specs.Mixed.{AreMixed}
use Rattle.schedule_kit.specs.Totals.{total}
use Rattle.turn_kit.specs.History.{by, flat, Apart, IsAmong, StartsWith}
use Rattle.turn_kit.specs.declared.seat.Seat.{Seat}
use Rattle.turn_kit.specs.Public.{joined, mine, number, seen, Joins, Splits}
use Rattle.turn_kit.specs.TableSeats.{ClosedWith}
use Rattle.writer_kit.specs.Shared.{History, after_writer_change, entries_of, recorded_by, tally_after}
use Rattle.writer_kit.specs.Written.{Written}
use Rattle.writer_kit.specs.declared.shared.change.WriterChange.{WriterChange}
use Rattle.fleet_kit.specs.Recorded.{recorded_at, recordings, HasBrought, HaveBrought}

module _ {E : Type 0} where
  pub by-append : (n : ℕ) (xs ys : List (ℕ × E)) → by n (xs ++ ys) ≡ by n xs ++ by n ys
  by-append n [] ys = refl
  by-append n (x ∷ xs) ys = at (x.0 == n) (by-append n xs ys)
    where
      at : (b : Bool) → by n (xs ++ ys) ≡ by n xs ++ by n ys → (if b then x.1 ∷ by n (xs ++ ys) else by n (xs ++ ys)) ≡ (if b then x.1 ∷ by n xs else by n xs) ++ by n ys
      at true rest = ap (λ (l : List E). x.1 ∷ l) rest
      at false rest = rest

  pub by-own : (n : ℕ) (xs : List (ℕ × E)) (e : E) → by n (xs ++ (n, e) ∷ []) ≡ by n xs ++ e ∷ []
  by-own n xs e = by-append n xs ((n, e) ∷ []) ∙ ap (λ (b : Bool). by n xs ++ (if b then e ∷ [] else [])) (eq-eqb n n refl)

  -- what begins a list begins those that it begins
  pub begins-more : (saw now later : List (ℕ × E)) → StartsWith later now → StartsWith now saw → StartsWith later saw
  begins-more saw now later a b = (b.0 ++ a.0, a.1 ∙ ap (λ (l : List (ℕ × E)). l ++ a.0) b.1 ∙ append_assoc saw b.0 a.0)

-- the tally after a history
abbrev pub tally_of : Tallied → History → Tallied
tally_of t [] = t
tally_of t (x ∷ xs) = tally_of (tally_after t x.1) xs

recordings-append : (t : Tallied) (xs ys : History) → recordings t (xs ++ ys) ≡ recordings t xs ++ recordings (tally_of t xs) ys
recordings-append t [] ys = refl
recordings-append t (x ∷ xs) ys = ap (λ (l : List (ℕ × List Entry)). (x.0, recorded_by t x.1) ∷ l) (recordings-append (tally_after t x.1) xs ys)

pub flat-append : {A : Type 0} (xs ys : List (List A)) → flat (xs ++ ys) ≡ flat xs ++ flat ys
flat-append [] ys = refl
flat-append (x ∷ xs) ys = ap (λ l. x ++ l) (flat-append xs ys) ∙ sym (append_assoc x (flat xs) (flat ys))

at-append : (t : Tallied) (xs ys : History) (n : ℕ) → recorded_at t (xs ++ ys) n ≡ recorded_at t xs n ++ recorded_at (tally_of t xs) ys n
at-append t xs ys n =
    ap (λ (l : List (ℕ × List Entry)). flat (by n l)) (recordings-append t xs ys)
    ∙ ap flat (by-append n (recordings t xs) (recordings (tally_of t xs) ys))
    ∙ flat-append (by n (recordings t xs)) (by n (recordings (tally_of t xs) ys))

-- who made no change recorded nothing
none-recorded : (t : Tallied) (h : History) (n : ℕ) → by n h ≡ [] → by n (recordings t h) ≡ []
none-recorded t [] n none = refl
none-recorded t (x ∷ xs) n none = at (x.0 == n) (none-recorded (tally_after t x.1) xs n) none
  where
    at : (b : Bool) → (by n xs ≡ [] → by n (recordings (tally_after t x.1) xs) ≡ []) → (if b then x.1 ∷ by n xs else by n xs) ≡ []
        → (if b then recorded_by t x.1 ∷ by n (recordings (tally_after t x.1) xs) else by n (recordings (tally_after t x.1) xs)) ≡ []
    at true rest none = absurd (let z : suc (length (by n xs)) ≡ 0 = ap length none in omega arith)
    at false rest none = rest none

none_left : {A : Type 0} (xs : List A) → length xs ≡ 0 → xs ≡ []
none_left [] e = refl
none_left (x ∷ xs) e = absurd (omega (arith, e))

-- who made no more changes recorded no more
pub stays : (t : Tallied) (saw now : History) (n : ℕ) → StartsWith now saw → length (by n now) ≡ length (by n saw) → recorded_at t now n ≡ recorded_at t saw n
stays t saw now n s same =
    let whole : by n now ≡ by n saw ++ by n s.0 = ap (by n) s.1 ∙ by-append n saw s.0 in
    let long = ap length whole in
    let sum = length-append (by n saw) (by n s.0) in
    let none : by n s.0 ≡ [] = none_left (by n s.0) (omega (arith, same, long, sum)) in
    ap (λ (h : History). recorded_at t h n) s.1
    ∙ at-append t saw s.0 n
    ∙ ap (λ (l : List (List Entry)). recorded_at t saw n ++ flat l) (none-recorded (tally_of t saw) s.0 n none)
    ∙ append-nil (recorded_at t saw n)

-- one more change
pub one_recorded : (t : Tallied) (before : History) (n : ℕ) (c : WriterChange) → recorded_at t (before ++ (n, c) ∷ []) n ≡ recorded_at t before n ++ recorded_by (tally_of t before) c
one_recorded t before n c =
    at-append t before ((n, c) ∷ []) n
    ∙ ap (λ (b : Bool). recorded_at t before n ++ flat (if b then recorded_by (tally_of t before) c ∷ [] else [])) (eq-eqb n n refl)
    ∙ ap (λ (l : List Entry). recorded_at t before n ++ l) (append-nil (recorded_by (tally_of t before) c))

-- ---- what all recorded

pub all_recorded : (t : Tallied) (h : History) → entries_of t h ≡ flat (map (λ x. x.1) (recordings t h))
all_recorded t [] = refl
all_recorded t (x ∷ xs) = ap (λ (l : List Entry). recorded_by t x.1 ++ l) (all_recorded (tally_after t x.1) xs)

-- what one recorded, and the others
apart : (l : List (ℕ × List Entry)) (n : ℕ) → (others : List Entry) × AreMixed (flat (map (λ x. x.1) l)) (flat (by n l) ++ others)
apart [] n = ([], λ f. refl)
apart (x ∷ xs) n = at (x.0 == n) (apart xs n)
  where
    at : (b : Bool) → ((others : List Entry) × AreMixed (flat (map (λ x. x.1) xs)) (flat (by n xs) ++ others))
        → (others : List Entry) × AreMixed (x.1 ++ flat (map (λ x. x.1) xs)) (flat (if b then x.1 ∷ by n xs else by n xs) ++ others)
    at true r = (
      r.0,
      λ f.
          total-append 0 ◌+◌ count_sum f x.1 (flat (map (λ x. x.1) xs))
          ∙ ap (λ k. total 0 ◌+◌ f x.1 + k) (r.1 f)
          ∙ sym (total-append 0 ◌+◌ count_sum f x.1 (flat (by n xs) ++ r.0))
          ∙ ap (total 0 ◌+◌ f) (sym (append_assoc x.1 (flat (by n xs)) r.0)),
    )
    at false r = (
      x.1 ++ r.0,
      λ f.
          let whole = total-append 0 ◌+◌ count_sum f x.1 (flat (map (λ x. x.1) xs)) in
          let rest = r.1 f in
          let own = total-append 0 ◌+◌ count_sum f (flat (by n xs)) r.0 in
          let other = total-append 0 ◌+◌ count_sum f x.1 r.0 in
          let sum = total-append 0 ◌+◌ count_sum f (flat (by n xs)) (x.1 ++ r.0) in
          omega (arith, whole, rest, own, other, sum),
    )

pub and_others : (t : Tallied) (h : History) (n : ℕ) → (others : List Entry) × AreMixed (entries_of t h) (recorded_at t h n ++ others)
and_others t h n = let r = apart (recordings t h) n in (r.0, λ f. ap (total 0 ◌+◌ f) (all_recorded t h) ∙ r.1 f)

module _ (f : Entry → ℕ) where
  abbrev F : List Entry → ℕ
  F es = total 0 ◌+◌ f es

  -- what seats of these numbers recorded
  abbrev shares : Tallied → History → List ℕ → ℕ
  shares t h ns = total 0 ◌+◌ (λ n. F (recorded_at t h n)) ns

  nothing : (t : Tallied) (ns : List ℕ) → shares t [] ns ≡ 0
  nothing t [] = refl
  nothing t (n ∷ ns) = let h = nothing t ns in let a : 0 + shares t [] ns ≡ 0 = omega (arith, h) in a

  module _ (t : Tallied) (x : ℕ × WriterChange) (xs : History) where
    abbrev then_tally : Tallied
    then_tally = tally_after t x.1

    by-other : (n : ℕ) → (x.0 ≡ n → ⊥) → F (recorded_at t (x ∷ xs) n) ≡ F (recorded_at then_tally xs n)
    by-other n ne = ap (λ (b : Bool). F (flat (if b then recorded_by t x.1 ∷ by n (recordings then_tally xs) else by n (recordings then_tally xs)))) (ne_eqb x.0 n ne)

    by-same : (n : ℕ) → x.0 ≡ n → F (recorded_at t (x ∷ xs) n) ≡ F (recorded_by t x.1) + F (recorded_at then_tally xs n)
    by-same n is =
        ap (λ (b : Bool). F (flat (if b then recorded_by t x.1 ∷ by n (recordings then_tally xs) else by n (recordings then_tally xs)))) (eq-eqb x.0 n is)
        ∙ total-append 0 ◌+◌ count_sum f (recorded_by t x.1) (recorded_at then_tally xs n)

    outside : (ns : List ℕ) → (In x.0 ns → ⊥) → shares t (x ∷ xs) ns ≡ shares then_tally xs ns
    outside [] none = refl
    outside (n ∷ ns) none =
        let one = by-other n (λ is. none (inl is)) in
        let rest = outside ns (λ i. none (inr i)) in
        let a : F (recorded_at t (x ∷ xs) n) + shares t (x ∷ xs) ns ≡ F (recorded_at then_tally xs n) + shares then_tally xs ns = omega (arith, one, rest) in a

    inside : (ns : List ℕ) → Once ns → In x.0 ns → shares t (x ∷ xs) ns ≡ F (recorded_by t x.1) + shares then_tally xs ns
    inside [] once i = absurd i
    inside (n ∷ ns) once (inl is) =
        let one = by-same n is in
        let rest = outside ns (λ i. once.0 (subst (λ (m : ℕ). In m ns) is i)) in
        let a : F (recorded_at t (x ∷ xs) n) + shares t (x ∷ xs) ns ≡ F (recorded_by t x.1) + (F (recorded_at then_tally xs n) + shares then_tally xs ns) = omega (arith, one, rest) in a
    inside (n ∷ ns) once (inr i) =
        let one = by-other n (λ is. once.0 (subst (λ (m : ℕ). In m ns) is i)) in
        let rest = inside ns once.1 i in
        let a : F (recorded_at t (x ∷ xs) n) + shares t (x ∷ xs) ns ≡ F (recorded_by t x.1) + (F (recorded_at then_tally xs n) + shares then_tally xs ns) = omega (arith, one, rest) in a

  -- where each change is of one of these numbers, which are apart, they recorded all
  adds_up : (t : Tallied) (h : History) (ns : List ℕ) → Once ns → ((i k : ℕ) (c : WriterChange) → get_elem? h i ≡ some (k, c) → In k ns) → F (entries_of t h) ≡ shares t h ns
  adds_up t [] ns once all = sym (nothing t ns)
  adds_up t (x ∷ xs) ns once all =
      total-append 0 ◌+◌ count_sum f (recorded_by t x.1) (entries_of (tally_after t x.1) xs)
      ∙ ap (λ k. F (recorded_by t x.1) + k) (adds_up (tally_after t x.1) xs ns once (λ i k c at. all (suc i) k c at))
      ∙ sym (inside t x xs ns once (all 0 x.0 x.1 refl))

  -- what seats that were joined brought is what they recorded
  joined_brought : (t : Tallied) (h now : History) (ss : List (ℕ × List WriterChange)) (ess : List (List Entry)) → StartsWith h now → ((i k : ℕ) (cs : List WriterChange) → get_elem? ss i ≡ some (k, cs) → by k h ≡ cs)
      → HaveBrought t now ss ess → shares t h (map (λ s. s.0) ss) ≡ F (flat ess)
  joined_brought t h now [] [] begins own brought = refl
  joined_brought t h now [] (es ∷ ess) begins own brought = absurd brought
  joined_brought t h now (s ∷ ss) [] begins own brought = absurd brought
  joined_brought t h now (s ∷ ss) (es ∷ ess) begins own brought =
      let b = brought.0 in
      let same : by s.0 h ≡ by s.0 b.saw = own 0 s.0 s.1 refl ∙ sym b.whole in
      let its : recorded_at t h s.0 ≡ es = stays t b.saw h s.0 (begins-more b.saw now h begins b.begins) (ap length same) ∙ b.recorded in
      let one : F (recorded_at t h s.0) ≡ F es = ap F its in
      let rest : shares t h (map (λ s. s.0) ss) ≡ F (flat ess) = joined_brought t h now ss ess begins (λ i k cs at. own (suc i) k cs at) brought.1 in
      let sum : F (es ++ flat ess) ≡ F es + F (flat ess) = total-append 0 ◌+◌ count_sum f es (flat ess) in
      let a : F (recorded_at t h s.0) + shares t h (map (λ s. s.0) ss) ≡ F (es ++ flat ess) = omega (arith, one, rest, sum) in a

-- what seats recorded that made no change
pub fresh_recorded : (t : Tallied) (h : History) (n : ℕ) → by n h ≡ [] → recorded_at t h n ≡ []
fresh_recorded t h n none = ap flat (none-recorded t h n none)

-- the numbers of a family
among_In : (k : ℕ) (ss : List (ℕ × List WriterChange)) (i : ℕ) (cs : List WriterChange) → get_elem? ss i ≡ some (k, cs) → In k (map (λ s. s.0) ss)
among_In k [] i cs e = absurd (some-ne-none (k, cs) (sym e))
among_In k (s ∷ ss) zero cs e = inl (sym (ap (λ (x : ℕ × List WriterChange). x.0) (some-injective s (k, cs) e)))
among_In k (s ∷ ss) (suc i) cs e = inr (among_In k ss i cs e)

In_among : (k : ℕ) (ss : List (ℕ × List WriterChange)) → In k (map (λ s. s.0) ss) → IsAmong k ss
In_among k [] i = absurd i
In_among k (s ∷ ss) (inl is) = (0, s.1, ap (λ (m : ℕ). some (m, s.1)) (sym is))
In_among k (s ∷ ss) (inr i) = let r = In_among k ss i in (suc r.0, r.1, r.2)

once_apart : (ss : List (ℕ × List WriterChange)) → Apart ss → Once (map (λ s. s.0) ss)
once_apart [] apart = tt
once_apart (s ∷ ss) apart = (
  (λ i. let r = In_among s.0 ss i in let z : 0 ≡ suc r.0 = apart 0 (suc r.0) s.0 s.1 r.1 refl r.2 in omega (arith, z)),
  once_apart ss (λ i j k a b p q. let z : suc i ≡ suc j = apart (suc i) (suc j) k a b p q in omega (arith, z)),
)

-- a closed shared writer has recorded what the seats that were joined brought, where the one that closed made no change
pub closed_mixed : (first : Written) (now : History) (n known : ℕ) (cs : List WriterChange) (ss : List (ℕ × List WriterChange)) (w : Written) → (c : ClosedWith (λ w. w) after_writer_change first now ((n, cs) ∷ ss) known w)
    → cs ≡ [] → (ess : List (List Entry)) → HaveBrought first.tally now ss ess → AreMixed (entries_of first.tally c.history) (flat ess)
closed_mixed first now n known cs ss w c idle ess brought = λ f.
    let t : Tallied = first.tally in
    let h : History = c.history in
    let fs : List (ℕ × List WriterChange) = (n, cs) ∷ ss in
    let own : recorded_at t h n ≡ [] = fresh_recorded t h n (c.own 0 n cs refl ∙ idle) in
    let rest : shares f t h (map (λ s. s.0) ss) ≡ total 0 ◌+◌ f (flat ess) = joined_brought f t h now ss ess c.begins (λ i k ds at. c.own (suc i) k ds at) brought in
    adds_up f t h (map (λ s. s.0) fs) (once_apart fs c.apart) (λ i k e there. let u = c.only i k e there in among_In k fs u.0 u.1 u.2)
    ∙ ap (λ (l : List Entry). total 0 ◌+◌ f l + shares f t h (map (λ s. s.0) ss)) own
    ∙ count_sum.zero_left (shares f t h (map (λ s. s.0) ss))
    ∙ rest

-- ---- seats that are split off and joined

brought_later : (t : Tallied) (now later : History) (ss : List (ℕ × List WriterChange)) (ess : List (List Entry)) → StartsWith later now → HaveBrought t now ss ess → HaveBrought t later ss ess
brought_later t now later [] [] begins b = tt
brought_later t now later [] (es ∷ ess) begins b = absurd b
brought_later t now later (s ∷ ss) [] begins b = absurd b
brought_later t now later (s ∷ ss) (es ∷ ess) begins b =
    let one = b.0 in
    (record { saw = one.saw; begins = begins-more one.saw now later begins one.begins; whole = one.whole; recorded = one.recorded }, brought_later t now later ss ess begins b.1)

brought_snoc : (t : Tallied) (now : History) (ss : List (ℕ × List WriterChange)) (ess : List (List Entry)) (s : ℕ × List WriterChange) (es : List Entry) → HaveBrought t now ss ess → HasBrought t now s.0 s.1 es
    → HaveBrought t now (ss ++ s ∷ []) (ess ++ es ∷ [])
brought_snoc t now [] [] s es b one = (one, tt)
brought_snoc t now [] (fs ∷ ess) s es b one = absurd b
brought_snoc t now (r ∷ ss) [] s es b one = absurd b
brought_snoc t now (r ∷ ss) (fs ∷ ess) s es b one = (b.0, brought_snoc t now ss ess s es b.1 one)

-- one more seat is joined, which recorded its job's entries where it has no fault
pub join_more : {g : _} {H : Type 0} (t : Tallied) (s s' u : Seat Written WriterChange g) (old fault told : Option H) (ess : List (List Entry)) (es : List Entry) → IfNone told ((old ≡ None) × (fault ≡ None)) → Joins s s' u → joined u ≡ []
    → by (number u) (seen u) ≡ mine u → IfNone fault (recorded_at t (seen u) (number u) ≡ es) → IfNone old (HaveBrought t (seen s) (joined s) ess) → IfNone told (HaveBrought t (seen s') (joined s') (ess ++ es ∷ []))
join_more t s s' u old fault (Some h) ess es none joins single own did kept = tt
join_more t s s' u (Some h) fault None ess es none joins single own did kept = absurd (some_none h none.0)
  where
    some_none : {A : Type 0} (x : A) → Some x ≡ None → ⊥
    some_none x e = cc e
join_more t s s' u None (Some h) None ess es none joins single own did kept = absurd (some_none h none.1)
  where
    some_none : {A : Type 0} (x : A) → Some x ≡ None → ⊥
    some_none x e = cc e
join_more t s s' u None None None ess es none joins single own did kept =
    subst (λ (l : List (ℕ × List WriterChange)). HaveBrought t (seen s') l (ess ++ es ∷ [])) (sym (joins.gains ∙ ap (λ (l : List (ℕ × List WriterChange)). joined s ++ (number u, mine u) ∷ l) single))
    (brought_snoc t (seen s') (joined s) ess (number u, mine u) es (brought_later t (seen s) (seen s') (joined s) ess joins.begins kept) (record { saw = seen u; begins = joins.brought; whole = own; recorded = did }))

pub fresh_none : {g : _} (s t u : Seat Written WriterChange g) → Splits s t u → by (number u) (seen u) ≡ []
fresh_none s t u h = ap (by (number u)) h.new_seen ∙ h.fresh.2
