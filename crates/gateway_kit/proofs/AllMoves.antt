-- How the numbers of all incarnations move, and those of a gateway.
use Rattle.std.proofs.Common.{◌≡◌, ◌≢◌, ◌<◌, inl, inr, ℕ, suc, true, false, cond, List, [], ◌∷◌, map, get_or, Option, Some, None, Result, Ok, Err, refl, sym, ap, subst, ◌∙◌, arith}
use Rattle.std.specs.Prelude.{T, OnOk, OnErr, slice_set}
use Rattle.std.specs.FinMap.{get, entries, from_sorted, empty, get-from_sorted, entries-from_sorted, same_map}
use Rattle.std.specs.FinMap.Entries.{find, is_sorted}
use Rattle.std.specs.List.{insert}
use Rattle.std.specs.Option.{unwrap_or}
use Rattle.std.specs.Ordering.{eq_by_cmp}
use Rattle.point_kit.specs.declared.key.Key.{Key}
use Rattle.point_kit.specs.Orders.{key_cmp}
use Rattle.point_kit.proofs.OrderLaws.{key_total, key_exact}
use Rattle.gateway_kit.specs.Growth.{cells_at}
use Rattle.gateway_kit.specs.Keys.{IncarnationKey, ItemKey, incarnation_cmp, item_cmp, whole_key}
use Rattle.gateway_kit.specs.Numbers.{Moves, IncarnationMoves, IncarnationsMove, AllAre, IsNumbered, number_after, rank_of, number_in, numbers_at}
use Rattle.gateway_kit.specs.Numbering.{IsNumberedBy, GatewayMoves, number_of}
use Rattle.gateway_kit.specs.IncarnationState.{IncarnationState, Cells, Numbers}
use Rattle.gateway_kit.specs.Incarnations.{all_points, all_numbers, keyed_cells, keyed_numbers, entries_at, flatten}
use Rattle.gateway_kit.specs.GatewayState.{GatewayState}
use Rattle.gateway_kit.specs.Weave.{weave}
use Rattle.gateway_kit.proofs.Entries.{as_T, from_sorted-nil}
use Rattle.gateway_kit.proofs.Joining.{get_points}
use Rattle.gateway_kit.specs.KeyOrders.{incarnation_total, incarnation_exact, compares, split_key}
use Rattle.gateway_kit.proofs.Movement.{Held, stays, then_moves, comes_in, told, told_back, sorted_too, sorted_filter, find_filter, set_related, insert_related, weave_related}
use Rattle.gateway_kit.proofs.Times.{below}
use Rattle.gateway_kit.proofs.Nested.{find-flatten, sorted_flatten}

abbrev pub own_key : IncarnationState → IncarnationKey
own_key p = (p.writer, p.start)

-- what moves in the incarnation under a key
abbrev Inside : ℕ → Option Cells → Option Numbers → Option Cells → Option Numbers → Type 0
Inside number a n b m = (q : ItemKey) → Moves number (find item_cmp q (entries_at a)) (find item_cmp q (entries_at b)) (number_in item_cmp (entries_at n) q) (number_in item_cmp (entries_at m) q)

inside_stays : (number : ℕ) (a : Option Cells) (n : Option Numbers) → Inside number a n a n
inside_stays number a n q = stays number _ _

pub incarnations_stay : (number : ℕ) (incarnations : List IncarnationState) → IncarnationsMove number incarnations incarnations
incarnations_stay number incarnations k q = stays number _ _

pub incarnations_then : (number : ℕ) (a b c : List IncarnationState) → IncarnationsMove number a b → IncarnationsMove number b c → IncarnationsMove number a c
incarnations_then number a b c f g k q = then_moves number _ _ _ _ _ _ (f k q) (g k q)

pub set_moves : (number : ℕ) (olds : List IncarnationState) (place : ℕ) (incarnation new : IncarnationState) → incarnation ≡ get_or olds place incarnation → (keyed_cells new).0 ≡ (keyed_cells incarnation).0 → IncarnationMoves number incarnation new → IncarnationsMove number olds (slice_set olds place new)
set_moves number olds place incarnation new is key moves k =
    set_related incarnation_cmp own_key (λ (p : IncarnationState). p.cells) (λ (p : IncarnationState). p.numbers) (Inside number) (inside_stays number) olds place incarnation new is key moves k

-- the same where a call may be refused
pub held_moves : {G E : Type 0} (number : ℕ) (olds : List IncarnationState) (place : ℕ) (incarnation new : IncarnationState) → incarnation ≡ get_or olds place incarnation → (r : Result G E) → OnOk r ((keyed_cells new).0 ≡ (keyed_cells incarnation).0) → OnOk r (IncarnationMoves number incarnation new) → OnOk r (IncarnationsMove number olds (slice_set olds place new))
held_moves number olds place incarnation new is (Err e) key moves = tt
held_moves number olds place incarnation new is (Ok g) key moves = set_moves number olds place incarnation new is key moves

pub entries_none : {V : Type 0} → entries (empty {X = V} {R = item_cmp}) ≡ []
entries_none {V} = sym (ap entries (from_sorted-nil {V = V} {R = item_cmp})) ∙ entries-from_sorted item_cmp [] tt

-- an incarnation that begins without cells
pub first_moves : (number : ℕ) (start new : IncarnationState) → start.cells ≡ empty → start.numbers ≡ empty → IncarnationMoves number start new → (q : ItemKey) → Moves number None (find item_cmp q (entries new.cells)) 0 (number_in item_cmp (entries new.numbers) q)
first_moves number start new cells numbers moves q =
    let a : find item_cmp q (entries start.cells) ≡ None = ap (λ (m : Cells). find item_cmp q (entries m)) cells ∙ ap (find item_cmp q) entries_none in
    let n : number_in item_cmp (entries start.numbers) q ≡ 0 = ap (λ (m : Numbers). number_in item_cmp (entries m) q) numbers ∙ ap (λ (es : List (ItemKey × ℕ)). number_in item_cmp es q) entries_none in
    subst (λ (x : Held). Moves number x (find item_cmp q (entries new.cells)) 0 (number_in item_cmp (entries new.numbers) q)) a
    (subst (λ (x : ℕ). Moves number (find item_cmp q (entries start.cells)) (find item_cmp q (entries new.cells)) x (number_in item_cmp (entries new.numbers) q)) n (moves q))

pub gap_moves : (number : ℕ) (olds : List IncarnationState) (place : ℕ) (new : IncarnationState) (a : IncarnationKey) → own_key new ≡ a → find incarnation_cmp a (map keyed_cells olds) ≡ None → ((q : ItemKey) → Moves number None (find item_cmp q (entries new.cells)) 0 (number_in item_cmp (entries new.numbers) q)) → IncarnationsMove number olds (insert olds place new)
gap_moves number olds place new a key none moves k =
    insert_related incarnation_cmp own_key (λ (p : IncarnationState). p.cells) (λ (p : IncarnationState). p.numbers) (Inside number) (inside_stays number) incarnation_exact new moves olds place k (ap (λ (x : IncarnationKey). find incarnation_cmp x (map keyed_cells olds)) key ∙ none)

-- ---- incarnations of one number

incarnations_later : (number : ℕ) (z : IncarnationState) (xs : List IncarnationState) → AllAre (IsNumbered number) (z ∷ xs) → AllAre (IsNumbered number) xs
incarnations_later number z xs all i x l is = all (suc i) x (omega (arith, l)) is

all_numbered : (number : ℕ) (ps : List IncarnationState) → AllAre (IsNumbered number) ps → (k : IncarnationKey) → Inside number None None (find incarnation_cmp k (map keyed_cells ps)) (find incarnation_cmp k (map keyed_numbers ps))
all_numbered number [] all k q = stays number _ _
all_numbered number (z ∷ ps) all k q =
    let rest = all_numbered number ps (incarnations_later number z ps all) k q in
    elim (eq_by_cmp incarnation_cmp k (own_key z)) as (λ b. Moves number None (find item_cmp q (entries_at (cond b (Some z.cells) (find incarnation_cmp k (map keyed_cells ps))))) 0 (number_in item_cmp (entries_at (cond b (Some z.numbers) (find incarnation_cmp k (map keyed_numbers ps)))) q)) [
      | true ↦ comes_in number (find item_cmp q (entries z.cells)) (number_in item_cmp (entries z.numbers) q) (all 0 z (omega arith) refl q)
      | false ↦ rest
    ]

pub incarnations_woven : (number : ℕ) (olds fresh : List IncarnationState) → is_sorted incarnation_cmp (map keyed_cells olds) ≡ true → is_sorted incarnation_cmp (map keyed_cells fresh) ≡ true → AllAre (IsNumbered number) fresh → IncarnationsMove number olds (weave (λ x y. incarnation_cmp (keyed_cells x).0 (keyed_cells y).0) olds fresh)
incarnations_woven number olds fresh g h all k =
    weave_related incarnation_cmp own_key (λ (p : IncarnationState). p.cells) (λ (p : IncarnationState). p.numbers) (Inside number) (inside_stays number) incarnation_total olds fresh (as_T g) (as_T h) (all_numbered number fresh all) k

-- ---- a gateway

pub numbers_sorted : (ps : List IncarnationState) → is_sorted incarnation_cmp (map keyed_cells ps) ≡ true → T (is_sorted incarnation_cmp (map keyed_numbers ps))
numbers_sorted ps s = as_T (sym (sorted_too incarnation_cmp own_key (λ (p : IncarnationState). p.cells) (λ (p : IncarnationState). p.numbers) ps) ∙ s)

pub get_numbers : (ps : List IncarnationState) → is_sorted incarnation_cmp (map keyed_cells ps) ≡ true → (c : IncarnationKey) (b : ItemKey) → get (from_sorted {R = key_cmp} (all_numbers ps)) (whole_key c b) ≡ told (number_in item_cmp (numbers_at c ps) b)
get_numbers ps s c b =
    let all : T (is_sorted key_cmp (flatten whole_key (map keyed_numbers ps))) = sorted_flatten ℕ incarnation_cmp item_cmp key_cmp whole_key compares incarnation_total (map keyed_numbers ps) (numbers_sorted ps s) in
    get-from_sorted key_cmp (all_numbers ps) (whole_key c b) (sorted_filter key_total (flatten whole_key (map keyed_numbers ps)) all)
    ∙ find_filter key_total (whole_key c b) (flatten whole_key (map keyed_numbers ps)) all
    ∙ ap (λ (o : Option ℕ). told (unwrap_or o 0)) (find-flatten ℕ incarnation_cmp item_cmp key_cmp whole_key compares incarnation_total c b (map keyed_numbers ps) (numbers_sorted ps s))

abbrev pub viewed : ℕ → List IncarnationState → GatewayState
viewed id ps = record { id = id; points = from_sorted {R = key_cmp} (all_points ps); numbers = from_sorted {R = key_cmp} (all_numbers ps) }

pub gateway_moves : (number m n : ℕ) (olds news : List IncarnationState) (old new : GatewayState) → is_sorted incarnation_cmp (map keyed_cells olds) ≡ true → is_sorted incarnation_cmp (map keyed_cells news) ≡ true → viewed m olds ≡ old → viewed n news ≡ new → IncarnationsMove number olds news → GatewayMoves number old new
gateway_moves number m n olds news old new s t is new_is moves k =
    subst (λ (v : GatewayState). Moves number (get v.points k) (get new.points k) (number_of v k) (number_of new k)) is
    (subst (λ (v : GatewayState). Moves number (get {R = key_cmp} (from_sorted (all_points olds)) k) (get v.points k) (number_of (viewed m olds) k) (number_of v k)) new_is
    (subst (λ (x : Key). Moves number (get {R = key_cmp} (from_sorted (all_points olds)) x) (get {R = key_cmp} (from_sorted (all_points news)) x) (number_of (viewed m olds) x) (number_of (viewed n news) x)) (split_key k).2
    (at (split_key k).0 (split_key k).1)))
  where
    number_at : (id : ℕ) (ps : List IncarnationState) → is_sorted incarnation_cmp (map keyed_cells ps) ≡ true → (c : IncarnationKey) (b : ItemKey) → number_of (viewed id ps) (whole_key c b) ≡ number_in item_cmp (numbers_at c ps) b
    number_at id ps s c b = ap (λ (o : Option ℕ). unwrap_or o 0) (get_numbers ps s c b) ∙ told_back _

    at : (c : IncarnationKey) (b : ItemKey) → Moves number (get {R = key_cmp} (from_sorted (all_points olds)) (whole_key c b)) (get {R = key_cmp} (from_sorted (all_points news)) (whole_key c b)) (number_of (viewed m olds) (whole_key c b)) (number_of (viewed n news) (whole_key c b))
    at c b =
        subst (λ (a : Held). Moves number a (get {R = key_cmp} (from_sorted (all_points news)) (whole_key c b)) (number_of (viewed m olds) (whole_key c b)) (number_of (viewed n news) (whole_key c b))) (sym (get_points olds s c b))
        (subst (λ (a : Held). Moves number (find item_cmp b (cells_at c olds)) a (number_of (viewed m olds) (whole_key c b)) (number_of (viewed n news) (whole_key c b))) (sym (get_points news t c b))
        (subst (λ (a : ℕ). Moves number (find item_cmp b (cells_at c olds)) (find item_cmp b (cells_at c news)) a (number_of (viewed n news) (whole_key c b))) (sym (number_at m olds s c b))
        (subst (λ (a : ℕ). Moves number (find item_cmp b (cells_at c olds)) (find item_cmp b (cells_at c news)) (number_in item_cmp (numbers_at c olds) b) a) (sym (number_at n news t c b)) (moves c b))))

-- what a change of a number above 0 numbers
pub moves_numbered : (number : ℕ) (old new : GatewayState) → 0 < number → GatewayMoves number old new → IsNumberedBy number old new
moves_numbered number old new some moves = record { kept = λ k same. kept k same (moves k); numbered = λ k differs. changed k differs (moves k) }
  where
    kept : (k : Key) → get new.points k ≡ get old.points k → Moves number (get old.points k) (get new.points k) (number_of old k) (number_of new k) → number_of new k ≡ number_of old k
    kept k same (inl p) = p.1
    kept k same (inr p) = absurd (let up : rank_of (get old.points k) < rank_of (get old.points k) = subst (λ (a : Held). rank_of (get old.points k) < rank_of a) same p.0 in omega (arith, up))

    gives : (n m : ℕ) → 0 < n → number_after n m ≡ n
    gives n m h = ap (λ b. cond b n m) (below 0 n h)

    changed : (k : Key) → get new.points k ≢ get old.points k → Moves number (get old.points k) (get new.points k) (number_of old k) (number_of new k) → number_of new k ≡ number
    changed k differs (inl p) = absurd (differs p.0)
    changed k differs (inr p) = p.1 ∙ gives number (number_of old k) some

-- a change of no number leaves all as they are
pub numbers_left : (m n : ℕ) (olds news : List IncarnationState) (old new : GatewayState) → is_sorted incarnation_cmp (map keyed_cells olds) ≡ true → is_sorted incarnation_cmp (map keyed_cells news) ≡ true → viewed m olds ≡ old → viewed n news ≡ new → IncarnationsMove 0 olds news → new.numbers ≡ old.numbers
numbers_left m n olds news old new s t is new_is moves =
    ap (λ (v : GatewayState). v.numbers) (sym new_is) ∙ same_map key_total key_exact _ _ (λ k. subst (λ (x : Key). get {R = key_cmp} (from_sorted (all_numbers news)) x ≡ get {R = key_cmp} (from_sorted (all_numbers olds)) x) (split_key k).2 (at (split_key k).0 (split_key k).1)) ∙ ap (λ (v : GatewayState). v.numbers) is
  where
    same : (a b : Held) (n m : ℕ) → Moves 0 a b n m → m ≡ n
    same a b n m (inl p) = p.1
    same a b n m (inr p) = p.1

    at : (c : IncarnationKey) (b : ItemKey) → get {R = key_cmp} (from_sorted (all_numbers news)) (whole_key c b) ≡ get {R = key_cmp} (from_sorted (all_numbers olds)) (whole_key c b)
    at c b = get_numbers news t c b ∙ ap told (same _ _ _ _ (moves c b)) ∙ sym (get_numbers olds s c b)

-- the same where a call may be refused
pub numbered_ok : {G E : Type 0} (r : Result G E) (number : ℕ) (old new : GatewayState) → 0 < number → OnOk r (GatewayMoves number old new) → OnOk r (IsNumberedBy number old new)
numbered_ok (Err e) number old new some moves = tt
numbered_ok (Ok g) number old new some moves = moves_numbered number old new some moves

pub left_either : {G E : Type 0} (r : Result G E) (old new : GatewayState) → OnOk r (◌≡◌ {A = ℕ} 0 0 → new.numbers ≡ old.numbers) → OnErr r (new ≡ old) → new.numbers ≡ old.numbers
left_either (Err e) old new kept same = ap (λ (v : GatewayState). v.numbers) same
left_either (Ok g) old new kept same = kept refl

pub gateway_stays : (number : ℕ) (g : GatewayState) → GatewayMoves number g g
gateway_stays number g k = stays number _ _
