-- Lists that agree place by place, and the entries of a writer's jobs.
use Rattle.std.proofs.Common.{take, subst, length-append, ◌≡◌, ℕ, suc, ◌+◌, ◌<◌, ◌==◌, Bool, true, false, cond, List, [], ◌∷◌, ◌++◌, append-nil, map, length, slice_get, slice_index_or, Option, Some, None, inl, sym, refl, ap, ◌∙◌, arith}
use Rattle.std.specs.Prelude.{All, IfNone}
use Rattle.std.proofs.lemmas.List.{take_more, get_or_append_left}
use Rattle.std.proofs.lemmas.List.Concat.{flat_map-append}
use Rattle.std.proofs.Math.Seq.{get_or-append_seam}
use mathlib.Core.List.{map-append}
use mathlib.Core.Logic.{dite}
use native.Mathlib.Decide.{ℕ_discrete}
use Rattle.agg_kit.specs.Entries.{Entry}
use Rattle.rollup_kit.specs.Fleets.{Task, entries_of}
use Rattle.turn_kit.specs.History.{flat}
use Rattle.fleet_kit.specs.Jobs.{entries, task_of}
use Rattle.fleet_kit.proofs.Exports.{got}
use Rattle.fleet_kit.proofs.Recorded.{flat-append}
use Rattle.schedule_kit.proofs.Members.{In-left, In-right}
use Rattle.schedule_kit.specs.Members.{In}
use Rattle.fleet_kit.specs.declared.setup.Job.{Job}

pub same_by_place : {A B X : Type 0} (f : A → X) (g : B → X) (xs : List A) (bs : List B) → length xs ≡ length bs → ((i : ℕ) (d : A) (e : B) → i < length bs → f (slice_index_or xs i d) ≡ g (slice_index_or bs i e)) → map f xs ≡ map g bs
same_by_place f g [] [] long each = refl
same_by_place f g [] (b ∷ bs) long each = absurd (omega (arith, long))
same_by_place f g (a ∷ xs) [] long each = absurd (omega (arith, long))
same_by_place f g (a ∷ xs) (b ∷ bs) long each =
    let h = same_by_place f g xs bs (omega (arith, long)) (λ i d e less. each (suc i) d e (omega (arith, less))) in
    λ i. each 0 a b (omega arith) i ∷ h i

-- all but the last
pub all_front : {X : Type 0} (P : X → Type 0) (old new : List X) (x : X) → old ≡ new ++ x ∷ [] → All P old → All P new
all_front P old new x is h k d less =
    let long : length old ≡ length new + 1 = ap length is ∙ length-append new (x ∷ []) in
    subst P (ap (λ (l : List _). slice_index_or l k d) is ∙ get_or_append_left new (x ∷ []) d k less) (h k d (omega (arith, less, long)))

-- the last
pub all_last : {X : Type 0} (P : X → Type 0) (old new : List X) (x : X) → old ≡ new ++ x ∷ [] → All P old → P x
all_last P old new x is h =
    let long : length old ≡ length new + 1 = ap length is ∙ length-append new (x ∷ []) in
    subst P (ap (λ (l : List _). slice_index_or l (length new) x) is ∙ get_or-append_seam new x [] x) (h (length new) x (omega (arith, long)))

-- and one more
pub all_snoc : {X : Type 0} (P : X → Type 0) (xs ys : List X) (x : X) → ys ≡ xs ++ x ∷ [] → All P xs → P x → All P ys
all_snoc P xs ys x is h at k d less = let long : length ys ≡ length xs + 1 = ap length is ∙ length-append xs (x ∷ []) in dite (ℕ_discrete k (length xs))
    (λ (e : k ≡ length xs). subst P (sym (ap (λ (l : List _). slice_index_or l k d) is ∙ (ap (λ (n : ℕ). slice_index_or (xs ++ x ∷ []) n d) e ∙ get_or-append_seam xs x [] d))) at)
    (λ ne. let in_ : k < length xs = omega (arith, less, long, ne) in subst P (sym (ap (λ (l : List _). slice_index_or l k d) is ∙ get_or_append_left xs (x ∷ []) d k in_)) (h k d in_))

-- what follows where there is none
pub none_then : {A : Type 0} (o : Option A) (P Q : Type 0) → (P → Q) → IfNone o P → IfNone o Q
none_then None P Q h p = h p
none_then (Some a) P Q h p = tt

pub if_none : {A : Type 0} (o : Option A) (P : Type 0) → o ≡ None → IfNone o P → P
if_none None P e p = p
if_none (Some a) P e p = cc e

-- one more job, of the writer or of another one
more_of : (place : ℕ) (jobs : List Job) (i : ℕ) (j : Job) → i < length jobs → j ≡ slice_index_or jobs i j
    → entries_of (map task_of (take (i + 1) jobs)) place ≡ entries_of (map task_of (take i jobs)) place ++ (cond (j.writer == place) (entries j) [] ++ [])
more_of place jobs i j less is =
    ap (λ l. entries_of (map task_of l) place) (take_more jobs i j less)
    ∙ ap (λ (x : Job). entries_of (map task_of (take i jobs ++ x ∷ [])) place) (sym is)
    ∙ ap (λ l. entries_of l place) (map-append task_of (take i jobs) (j ∷ []))
    ∙ flat_map-append (λ (t : Task). cond (t.writer == place) t.entries []) (map task_of (take i jobs)) (task_of j ∷ [])

-- the entries of jobs, one job's after the other's
abbrev pub entries_in : {A : Type 0} → (A → Job) → List A → List Entry
entries_in f rs = flat (map (λ x. entries (f x)) rs)

pub seat_more : {A : Type 0} (f : A → Job) (rs : List A) (r : A) (place : ℕ) (jobs : List Job) (i : ℕ) (j : Job) → i < length jobs → j ≡ slice_index_or jobs i j → f r ≡ j → (j.writer == place) ≡ true
    → entries_in f rs ≡ entries_of (map task_of (take i jobs)) place → entries_in f (rs ++ r ∷ []) ≡ entries_of (map task_of (take (i + 1) jobs)) place
seat_more f rs r place jobs i j less is same here kept =
    ap flat (map-append (λ x. entries (f x)) rs (r ∷ []))
    ∙ flat-append (map (λ x. entries (f x)) rs) (entries (f r) ∷ [])
    ∙ ap (λ l. l ++ (entries (f r) ++ [])) kept
    ∙ ap (λ (x : Job). entries_of (map task_of (take i jobs)) place ++ (entries x ++ [])) same
    ∙ ap (λ (b : Bool). entries_of (map task_of (take i jobs)) place ++ (cond b (entries j) [] ++ [])) (sym here)
    ∙ sym (more_of place jobs i j less is)

pub seat_same : {A : Type 0} (f : A → Job) (rs : List A) (place : ℕ) (jobs : List Job) (i : ℕ) (j : Job) → i < length jobs → j ≡ slice_index_or jobs i j → (j.writer == place) ≡ false
    → entries_in f rs ≡ entries_of (map task_of (take i jobs)) place → entries_in f rs ≡ entries_of (map task_of (take (i + 1) jobs)) place
seat_same f rs place jobs i j less is away kept =
    kept
    ∙ sym (append-nil (entries_of (map task_of (take i jobs)) place))
    ∙ ap (λ (b : Bool). entries_of (map task_of (take i jobs)) place ++ (cond b (entries j) [] ++ [])) (sym away)
    ∙ sym (more_of place jobs i j less is)

-- a job's number among those of jobs
pub numbers_more : (place : ℕ) (jobs : List Job) (ns ms : List ℕ) (i : ℕ) (j : Job) → i < length jobs → j ≡ slice_index_or jobs i j → ((n : ℕ) → In n ns → In n ms) → ((j.writer ≡ place) → In i ms)
    → ((n : ℕ) (x : Job) → n < i → slice_get jobs n ≡ Some x → x.writer ≡ place → In n ns) → (n : ℕ) (x : Job) → n < i + 1 → slice_get jobs n ≡ Some x → x.writer ≡ place → In n ms
numbers_more place jobs ns ms i j less is keeps new kept n x l at here = dite (ℕ_discrete n i)
    (λ (same : n ≡ i).
    let its : j ≡ x = is ∙ (got jobs i x (ap (slice_get jobs) (sym same) ∙ at)).1 j in
    subst (λ (m : ℕ). In m ms) (sym same) (new (ap (λ (y : Job). y.writer) its ∙ here)))
    (λ other. keeps n (kept n x (omega (arith, l, other)) at here))

-- one more element's number
pub numbers_snoc : {A : Type 0} (f : A → ℕ) (rs more : List A) (r : A) → more ≡ rs ++ r ∷ [] → ((n : ℕ) → In n (map f rs) → In n (map f more)) × In (f r) (map f more)
numbers_snoc f rs more r is =
    let all : map f more ≡ map f rs ++ f r ∷ [] = ap (map f) is ∙ map-append f rs (r ∷ []) in
    ((λ n i. subst (In n) (sym all) (In-left n (map f rs) (f r ∷ []) i)), subst (In (f r)) (sym all) (In-right (f r) (map f rs) (f r ∷ []) (inl refl)))

-- the entries of the same jobs
pub entries_same : {A B : Type 0} (f : A → Job) (g : B → Job) (ds : List A) (rs : List B) → map f ds ≡ map g rs → entries_in f ds ≡ entries_in g rs
entries_same f g [] [] is = refl
entries_same f g [] (r ∷ rs) is = absurd (cc is)
entries_same f g (d ∷ ds) [] is = absurd (cc is)
entries_same f g (d ∷ ds) (r ∷ rs) is =
    let one : f d ≡ g r = cc is in
    let rest : map f ds ≡ map g rs = cc is in
    ap (λ (j : Job). entries j ++ entries_in f ds) one ∙ ap (λ (l : List Entry). entries (g r) ++ l) (entries_same f g ds rs rest)
