-- Bounds by place, and the incarnations that they are of.
use Rattle.std.proofs.Common.{◌≡◌, ◌<◌, ◌≤◌, ◌+◌, inl, inr, ℕ, zero, suc, Bool, true, false, cond, nat_lt, List, [], ◌∷◌, take, length, get_or, None, Result, Ok, Err, refl, sym, ap, subst, ◌∙◌, arith}
use Rattle.std.proofs.lemmas.Bool.{cases_eq}
use Rattle.std.proofs.lemmas.Bool.Decides.{nat_tests}
use Rattle.std.proofs.lemmas.List.{get_or-set_same, get_or-set_other}
use Rattle.std.proofs.lemmas.List.Edits.{get_or-insert_above, get_or-insert_at, get_or-insert_below, get_or-remove_above, get_or-remove_below, length-insert, length-remove}
use Rattle.std.proofs.Math.ListN.{length-set}
use Rattle.std.proofs.Math.Seq.{take-nil}
use Rattle.std.specs.Prelude.{filter, slice_set, OnOk, OnErr, ◌⊎◌}
use Rattle.std.specs.List.{insert, remove}
use Rattle.std.specs.FinMap.{entries}
use Rattle.std.specs.FinMap.Entries.{find}
use Rattle.shelf_kit.specs.Shelving.{AreAtMost}
use Rattle.gateway_kit.specs.Changing.{KeyedCell}
use Rattle.gateway_kit.specs.Covering.{AreCovered, IsUpTo}
use Rattle.gateway_kit.specs.Keys.{ItemKey, item_cmp}
use Rattle.gateway_kit.specs.Numbers.{AllAre, IncarnationMoves, IsNumbered, Moves, number_after, number_in}
use Rattle.gateway_kit.specs.IncarnationState.{IncarnationState}
use Rattle.gateway_kit.specs.Incarnations.{has_cells, has_some}
use Rattle.gateway_kit.specs.Recent.{recent_incarnation, recent_incarnations}
use Rattle.gateway_kit.proofs.Movement.{Held}
use Rattle.gateway_kit.proofs.Recent.{retained}

-- ---- what is passed over

-- an incarnation of which no key has a greater number has nothing that is newer
pub none_newer : (n : ℕ) (p : IncarnationState) → IsUpTo n p → has_cells (recent_incarnation n p) ≡ false
none_newer n p up = ap has_some (retained p.cells (λ q. nat_lt n (number_in item_cmp (entries p.numbers) q)) ∙ filtered (λ q. nat_lt n (number_in item_cmp (entries p.numbers) q)) (λ q. low _ (up q)) (entries p.cells))
  where
    low : (k : ℕ) → k ≤ n → nat_lt n k ≡ false
    low k g = grind (arith, nat_tests)

    filtered : (test : ItemKey → Bool) → ((q : ItemKey) → test q ≡ false) → (es : List KeyedCell) → filter (λ e. test e.0) es ≡ []
    filtered test fails [] = refl
    filtered test fails (e ∷ es) = ap (λ b. cond b (e ∷ filter (λ d. test d.0) es) (filter (λ d. test d.0) es)) (fails e.0) ∙ filtered test fails es

pub recent_passed : (number : ℕ) (xs : List IncarnationState) (i n : ℕ) → i ≤ n → ((j : ℕ) (x : IncarnationState) → i ≤ j → j < n → j < length xs → x ≡ get_or xs j x → IsUpTo number x) → recent_incarnations number (take n xs) ≡ recent_incarnations number (take i xs)
recent_passed number [] i n h few = ap (recent_incarnations number) (take-nil n) ∙ ap (recent_incarnations number) (sym (take-nil i))
recent_passed number (z ∷ xs) zero zero h few = refl
recent_passed number (z ∷ xs) (suc i) zero h few = absurd (omega (arith, h))
recent_passed number (z ∷ xs) zero (suc n) h few =
    ap (λ t. cond t (recent_incarnation number z ∷ recent_incarnations number (take n xs)) (recent_incarnations number (take n xs))) (none_newer number z (few 0 z (omega arith) (omega arith) (omega arith) refl))
    ∙ recent_passed number xs zero n (omega arith) (λ j x g l w is. few (suc j) x (omega arith) (omega (arith, l)) (omega (arith, w)) is)
recent_passed number (z ∷ xs) (suc i) (suc n) h few =
    ap (λ (l : List IncarnationState). cond (has_cells (recent_incarnation number z)) (recent_incarnation number z ∷ l) l) (recent_passed number xs i n (omega (arith, h)) (λ j x g l w is. few (suc j) x (omega (arith, g)) (omega (arith, l)) (omega (arith, w)) is))

-- ---- bounds of incarnations

-- bounds that rise
pub raised_covered : (old new : List ℕ) (ps : List IncarnationState) → AreAtMost old new → AreCovered old ps → AreCovered new ps
raised_covered old new ps rise covered i p less is q =
    let up = rise i in
    let most = covered i p less is q in
    omega (arith, up, most)

-- an incarnation that moves by a change of a number
pub moved_up : (number n : ℕ) (p now : IncarnationState) → number ≤ n → IncarnationMoves number p now → IsUpTo n p → IsUpTo n now
moved_up number n p now here moves was q = go _ _ _ _ (was q) (moves q)
  where
    given : (k : ℕ) → k ≤ n → number_after number k ≤ n
    given k h = elim (nat_lt 0 number) as (λ t. cond t number k ≤ n) [ true ↦ here | false ↦ h ]

    go : (a b : Held) (k m : ℕ) → k ≤ n → Moves number a b k m → m ≤ n
    go a b k m h (inl l) = subst (λ (j : ℕ). j ≤ n) (sym l.1) h
    go a b k m h (inr r) = subst (λ (j : ℕ). j ≤ n) (sym r.1) (given k h)

-- one that comes by it
pub first_up : (number : ℕ) (now : IncarnationState) → ((q : ItemKey) → Moves number None (find item_cmp q (entries now.cells)) 0 (number_in item_cmp (entries now.numbers) q)) → IsUpTo number now
first_up number now moves q = go _ _ (moves q)
  where
    given : number_after number 0 ≤ number
    given = elim (nat_lt 0 number) as (λ t. cond t number 0 ≤ number) [ true ↦ omega arith | false ↦ omega arith ]

    go : (b : Held) (m : ℕ) → Moves number None b 0 m → m ≤ number
    go b m (inl l) = subst (λ (j : ℕ). j ≤ number) (sym l.1) (omega arith)
    go b m (inr r) = subst (λ (j : ℕ). j ≤ number) (sym r.1) given

-- one in place of another
pub set_covered : (b : List ℕ) (ps : List IncarnationState) (place : ℕ) (p now : IncarnationState) → place < length ps → p ≡ get_or ps place p → (IsUpTo (get_or b place 0) p → IsUpTo (get_or b place 0) now) → AreCovered b ps → AreCovered b (slice_set ps place now)
set_covered b ps place p now within lent here covered i x less is q =
    elim (cases_eq i place) [
      | inl same ↦
          let x_is : x ≡ now = is ∙ ap (λ (k : ℕ). get_or (slice_set ps place now) k x) same ∙ get_or-set_same ps place now x within in
          subst (λ (k : ℕ). number_in item_cmp (entries x.numbers) q ≤ get_or b k 0) (sym same)
          (subst (λ (z : IncarnationState). number_in item_cmp (entries z.numbers) q ≤ get_or b place 0) (sym x_is) (here (covered place p within lent) q))
      | inr other ↦ covered i x (subst (λ (l : ℕ). i < l) (length-set ps place now) less) (is ∙ get_or-set_other ps place i now x other) q
    ]

-- of a call that may be refused, which then changes nothing
pub taken_covered : {G E : Type 0} (r : Result G E) (b : List ℕ) (ps : List IncarnationState) (place number : ℕ) (p now : IncarnationState) → place < length ps → p ≡ get_or ps place p → number ≤ get_or b place 0 → OnOk r (IncarnationMoves number p now) → OnErr r (now ≡ p) → AreCovered b ps → AreCovered b (slice_set ps place now)
taken_covered (Ok g) b ps place number p now within lent here moves same = set_covered b ps place p now within lent (moved_up number (get_or b place 0) p now here moves)
taken_covered (Err e) b ps place number p now within lent here moves same = set_covered b ps place p now within lent (λ was. subst (λ (z : IncarnationState). IsUpTo (get_or b place 0) z) (sym same) was)

trichotomy : (i n : ℕ) → (i < n) ⊎ ((i ≡ n) ⊎ (n < i))
trichotomy zero zero = inr (inl refl)
trichotomy zero (suc n) = inl (omega arith)
trichotomy (suc i) zero = inr (inr (omega arith))
trichotomy (suc i) (suc n) = elim (trichotomy i n) [ inl h ↦ inl (omega (arith, h)) | inr r ↦ elim r [ inl e ↦ inr (inl (omega (arith, e))) | inr h ↦ inr (inr (omega (arith, h))) ] ]

before : (i n : ℕ) → n < i → (j : ℕ) × (i ≡ j + 1)
before zero n h = absurd (omega (arith, h))
before (suc j) n h = (j, omega arith)

-- one more
pub insert_covered : (old new : List ℕ) (ps : List IncarnationState) (place number : ℕ) (p : IncarnationState) → AreAtMost (insert old place number) new → length old ≡ length ps → place ≤ length ps → IsUpTo number p → AreCovered old ps → AreCovered new (insert ps place p)
insert_covered old new ps place number p rise long within up covered = raised_covered (insert old place number) new (insert ps place p) rise put
  where
    room : place ≤ length old
    room = omega (arith, long, within)

    put : AreCovered (insert old place number) (insert ps place p)
    put i x less is q = elim (trichotomy i place) [
      | inl h ↦
          let few = covered i x (omega (arith, h, within)) (is ∙ get_or-insert_below ps place p x i h within) q in
          let same = get_or-insert_below old place number 0 i h room in
          omega (arith, few, same)
      | inr r ↦ elim r [
        | inl e ↦
            let one : x ≡ p = is ∙ ap (λ (k : ℕ). get_or (insert ps place p) k x) e ∙ get_or-insert_at ps place p x within in
            let bound : get_or (insert old place number) i 0 ≡ number = ap (λ (k : ℕ). get_or (insert old place number) k 0) e ∙ get_or-insert_at old place number 0 room in
            let few : number_in item_cmp (entries x.numbers) q ≤ number = subst (λ (z : IncarnationState). number_in item_cmp (entries z.numbers) q ≤ number) (sym one) (up q) in
            omega (arith, few, bound)
        | inr h ↦
            let j = (before i place h).0 in
            let e : i ≡ j + 1 = (before i place h).1 in
            let far : place ≤ j = omega (arith, h, e) in
            let same : get_or (insert ps place p) i x ≡ get_or ps j x = ap (λ (k : ℕ). get_or (insert ps place p) k x) e ∙ get_or-insert_above ps place p x j far within in
            let bound : get_or (insert old place number) i 0 ≡ get_or old j 0 = ap (λ (k : ℕ). get_or (insert old place number) k 0) e ∙ get_or-insert_above old place number 0 j far room in
            let longer = length-insert ps place p within in
            let few = covered j x (omega (arith, less, longer, e)) (is ∙ same) q in
            omega (arith, few, bound)
      ]
    ]

pub split : (i n : ℕ) → (i < n) ⊎ (n ≤ i)
split i zero = inr (omega arith)
split zero (suc n) = inl (omega arith)
split (suc i) (suc n) = elim (split i n) [ inl h ↦ inl (omega (arith, h)) | inr h ↦ inr (omega (arith, h)) ]

-- one less
pub remove_covered : (old : List ℕ) (ps : List IncarnationState) (place : ℕ) → length old ≡ length ps → place < length ps → AreCovered old ps → AreCovered (remove old place) (remove ps place)
remove_covered old ps place long within covered i x less is q =
    let shorter = length-remove ps place within in
    elim (split i place) [
      | inl h ↦
          let few = covered i x (omega (arith, h, within)) (is ∙ get_or-remove_below ps place x i h within) q in
          let same = get_or-remove_below old place 0 i h (omega (arith, long, within)) in
          omega (arith, few, same)
      | inr h ↦
          let few = covered (i + 1) x (omega (arith, less, shorter)) (is ∙ get_or-remove_above ps place x i h within) q in
          let same = get_or-remove_above old place 0 i h (omega (arith, long, within)) in
          omega (arith, few, same)
    ]

-- where no key is numbered any bounds are
pub unnumbered_covered : (b : List ℕ) (ps : List IncarnationState) → AllAre (IsNumbered 0) ps → AreCovered b ps
unnumbered_covered b ps none i x less is q = subst (λ (n : ℕ). n ≤ get_or b i 0) (sym (none i x less is q ∙ either 0 _)) (omega arith)
  where
    either : (n : ℕ) (t : Bool) → cond t n n ≡ n
    either n true = refl
    either n false = refl
