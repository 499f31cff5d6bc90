-- Lines of a log: what they name stays, as more is named.
use Rattle.std.proofs.Common.{◌≡◌, ℕ, ℤ, ◌+◌, ◌<◌, ◌≤◌, ◌∙◌, List, [], ◌∷◌, ◌++◌, Bool, true, false, cond, Some, length, get_or, slice_get, take, drop, not, is_ok, Ok, Err, OnOk, OnErr, if◌then◌else◌, Result, refl, sym, ap, subst, suc, zero, arith, find}
use Rattle.std.proofs.lemmas.List.{length-drop, length-map, length-take, map-append, take_more}
use Rattle.std.specs.List.{list_any}
use Rattle.indexmap.specs.IndexSet.{insert_key}
use Rattle.attr_kit.specs.declared.attr_set.AttrSet.{AttrSet}
use Rattle.attr_kit.specs.Exact.{exact_lists, exact_pairs, exact_texts, exact_values}
use Rattle.agg_kit.specs.Entries.{entry_of}
use Rattle.agg_kit.specs.Feeding.{set_eq}
use Rattle.recorder_kit.specs.Lines.{nothing_named, recording_at, recording_of, recordings_of, AllThere, Grown, IsThere}
use Rattle.recorder_kit.specs.Log.{Logged, Recording, ByName, ByNumber}
use Rattle.recorder_kit.specs.declared.line.Line.{Line}
use Rattle.recorder_kit.specs.declared.line.Named.{Named}
use Rattle.recorder_kit.specs.declared.line.Spot.{Spot}
use Rattle.recorder_kit.specs.declared.line.Spot.TheVariants.{Number, Name}

-- ---- reading lists

pub found : {X : Type 0} (xs : List X) (i : ℕ) (d : X) → i < length xs → slice_get xs i ≡ Some (get_or xs i d)
found [] i d l = absurd (omega arith)
found (x ∷ xs) zero d l = refl
found (x ∷ xs) (suc i) d l = found xs i d (omega arith)

pub got : {X : Type 0} (xs : List X) (i : ℕ) (x d : X) → slice_get xs i ≡ Some x → get_or xs i d ≡ x
got [] i x d h = absurd (cc)
got (y ∷ xs) zero x d h = cc
got (y ∷ xs) (suc i) x d h = got xs i x d h

pub within : {X : Type 0} (xs : List X) (i : ℕ) (x : X) → slice_get xs i ≡ Some x → i < length xs
within [] i x h = absurd (cc)
within (y ∷ xs) zero x h = omega arith
within (y ∷ xs) (suc i) x h = let k = within xs i x h in omega arith

-- one more behind them
pub push-stays : {X : Type 0} (xs ys : List X) (x : X) → ys ≡ xs ++ x ∷ [] → (i : ℕ) (y : X) → slice_get xs i ≡ Some y → slice_get ys i ≡ Some y
push-stays {X = X} xs ys x is i y h = ap (λ (l : List X). slice_get l i) is ∙ by xs i h
  where
    by : (zs : List X) (i : ℕ) → slice_get zs i ≡ Some y → slice_get (zs ++ x ∷ []) i ≡ Some y
    by [] i h = absurd (cc)
    by (z ∷ zs) zero h = h
    by (z ∷ zs) (suc i) h = by zs i h

pub push-last : {X : Type 0} (xs ys : List X) (x : X) (n : ℕ) → ys ≡ xs ++ x ∷ [] → n ≡ length xs → slice_get ys n ≡ Some x
push-last {X = X} xs ys x n is len = ap (λ (l : List X). slice_get l n) is ∙ ap (slice_get (xs ++ x ∷ [])) len ∙ by xs
  where
    by : (zs : List X) → slice_get (zs ++ x ∷ []) (length zs) ≡ Some x
    by [] = refl
    by (z ∷ zs) = by zs

-- equal sets are one
pub same : (a b : AttrSet) → set_eq a b ≡ true → a ≡ b
same = exact_lists (exact_pairs exact_texts exact_values)

pub find-true : {X : Type 0} (p : X → Bool) (xs : List X) (k : X) → find p xs ≡ Some k → p k ≡ true
find-true p [] k h = absurd (cc)
find-true {X = X} p (x ∷ xs) k h = by (find-true p xs k) (p x) refl h
  where
    by : (find p xs ≡ Some k → p k ≡ true) → (b : Bool) → p x ≡ b → cond b (Some x) (find p xs) ≡ Some k → p k ≡ true
    by go true e h = let is : x ≡ k = cc in subst (λ (y : X). p y ≡ true) is e
    by go false e h = go h

-- what was pushed, and what was not
pub pushed : {X U E : Type 0} (xs ys : List X) (x : X) (r : Result U E) (bad : Bool) → ys ≡ (if is_ok r then xs ++ x ∷ [] else xs) → is_ok r ≡ not bad → bad ≡ false → ys ≡ xs ++ x ∷ []
pushed xs ys x r bad is ok fine = is ∙ ap (λ b. if b then xs ++ x ∷ [] else xs) (ok ∙ ap not fine)

pub not-pushed : {X U E : Type 0} (xs ys : List X) (x : X) (r : Result U E) (bad : Bool) → ys ≡ (if is_ok r then xs ++ x ∷ [] else xs) → is_ok r ≡ not bad → bad ≡ true → ys ≡ xs
not-pushed xs ys x r bad is ok fine = is ∙ ap (λ b. if b then xs ++ x ∷ [] else xs) (ok ∙ ap not fine)

-- one key more, or none
pub insert-stays : {X : Type 0} (eq : X → X → Bool) (ks js : List X) (k : X) → js ≡ insert_key eq ks k → (i : ℕ) (a : X) → slice_get ks i ≡ Some a → slice_get js i ≡ Some a
insert-stays {X = X} eq ks js k is i a h = by (list_any (eq k) ks) refl
  where
    by : (b : Bool) → list_any (eq k) ks ≡ b → slice_get js i ≡ Some a
    by true e = ap (λ (l : List X). slice_get l i) (is ∙ ap (λ c. if c then ks else ks ++ k ∷ []) e) ∙ h
    by false e = push-stays ks js k (is ∙ ap (λ c. if c then ks else ks ++ k ∷ []) e) i a h

-- what a recorder shows
abbrev pub logged : List Recording → ℕ → Logged
logged l n = record { log = l; capacity = n }

-- ---- lines

pub there-push : (ns : List Named) (ks : List AttrSet) (ls : List Line) (l : Line) → AllThere ns ks ls → IsThere ns ks l.at → AllThere ns ks (ls ++ l ∷ [])
there-push ns ks [] l all one = (one, tt)
there-push ns ks (x ∷ ls) l all one = (all.0, there-push ns ks ls l all.1 one)

pub there-drop : (ns : List Named) (ks : List AttrSet) (n : ℕ) (ls : List Line) → AllThere ns ks ls → AllThere ns ks (drop n ls)
there-drop ns ks zero ls all = all
there-drop ns ks (suc n) [] all = tt
there-drop ns ks (suc n) (l ∷ ls) all = there-drop ns ks n ls all.1

pub there-take : (ns : List Named) (ks : List AttrSet) (n : ℕ) (ls : List Line) → AllThere ns ks ls → AllThere ns ks (take n ls)
there-take ns ks zero ls all = tt
there-take ns ks (suc n) [] all = tt
there-take ns ks (suc n) (l ∷ ls) all = (all.0, there-take ns ks n ls all.1)

pub there-get : (ns : List Named) (ks : List AttrSet) (ls : List Line) (i : ℕ) (d : Line) → AllThere ns ks ls → i < length ls → IsThere ns ks (get_or ls i d).at
there-get ns ks [] i d all m = absurd (omega arith)
there-get ns ks (x ∷ ls) zero d all m = all.0
there-get ns ks (x ∷ ls) (suc i) d all m = there-get ns ks ls i d all.1 (omega arith)

pub at-get : (ns : List Named) (ks : List AttrSet) (ls : List Line) (i : ℕ) (d : Line) (e : Recording) → i < length ls → get_or (recordings_of ns ks ls) i e ≡ recording_of ns ks (get_or ls i d)
at-get ns ks [] i d e l = absurd (omega arith)
at-get ns ks (x ∷ ls) zero d e l = refl
at-get ns ks (x ∷ ls) (suc i) d e l = at-get ns ks ls i d e (omega arith)

pub drop-lines : (ns : List Named) (ks : List AttrSet) (n : ℕ) (ls : List Line) → recordings_of ns ks (drop n ls) ≡ drop n (recordings_of ns ks ls)
drop-lines ns ks zero ls = refl
drop-lines ns ks (suc n) [] = refl
drop-lines ns ks (suc n) (l ∷ ls) = drop-lines ns ks n ls

pub drop-drop : {X : Type 0} (xs : List X) (m n : ℕ) → drop n (drop m xs) ≡ drop (m + n) xs
drop-drop xs zero n = let e : 0 + n ≡ n = omega arith in ap (λ k. drop k xs) (sym e)
drop-drop [] (suc m) zero = let e : suc m + 0 ≡ suc m = omega arith in ap (λ k. drop k []) (sym e)
drop-drop [] (suc m) (suc n) = let e : suc m + suc n ≡ suc (m + suc n) = omega arith in ap (λ k. drop k []) (sym e)
drop-drop (x ∷ xs) (suc m) n = let e : suc m + n ≡ suc (m + n) = omega arith in drop-drop xs m n ∙ ap (λ k. drop k (x ∷ xs)) (sym e)

pub behind : {X : Type 0} (xs : List X) (g m n : ℕ) → n ≤ length (take m (drop g xs)) → g ≤ length xs → g + n ≤ length xs
behind xs g m n l w = let a = length-take m (drop g xs) in let b = length-drop g xs in omega (arith, l, w, a, b)

-- recordings from the front
pub front-take : (ns : List Named) (ks : List AttrSet) (ls : List Line) (j k : ℕ) → j ≤ length (take k ls) → take j (recordings_of ns ks (take k ls)) ≡ take j (recordings_of ns ks ls)
front-take ns ks ls zero k l = refl
front-take ns ks ls (suc j) zero l = absurd (omega arith)
front-take ns ks [] (suc j) (suc k) l = refl
front-take ns ks (x ∷ ls) (suc j) (suc k) l = ap (λ rs. recording_of ns ks x ∷ rs) (front-take ns ks ls j k (omega arith))

pub front-get : (ns : List Named) (ks : List AttrSet) (ls : List Line) (j k : ℕ) → j < k → slice_get (recordings_of ns ks (take k ls)) j ≡ slice_get (recordings_of ns ks ls) j
front-get ns ks ls j zero l = absurd (omega arith)
front-get ns ks [] j (suc k) l = refl
front-get ns ks (x ∷ ls) zero (suc k) l = refl
front-get ns ks (x ∷ ls) (suc j) (suc k) l = front-get ns ks ls j k (omega arith)

-- what was named is named, and more may be
module _ (ns ms : List Named) (ks js : List AttrSet) (names : (i : ℕ) (m : Named) → slice_get ns i ≡ Some m → slice_get ms i ≡ Some m) (sets : (i : ℕ) (a : AttrSet) → slice_get ks i ≡ Some a → slice_get js i ≡ Some a) where
  name-is : (j : ℕ) → j < length ns → get_or ms j nothing_named ≡ get_or ns j nothing_named
  name-is j l = got ms j (get_or ns j nothing_named) nothing_named (names j (get_or ns j nothing_named) (found ns j nothing_named l))

  set-is : (j : ℕ) → j < length ks → get_or js j [] ≡ get_or ks j []
  set-is j l = got js j (get_or ks j []) [] (sets j (get_or ks j []) (found ks j [] l))

  spot-there : (s : Spot) → IsThere ns ks s → IsThere ms js s
  spot-there (Number n) h = tt
  spot-there (Name j) h =
      let m = get_or ns j nothing_named in (
        within ms j m (names j m (found ns j nothing_named h.0)),
        subst (λ (x : Named). x.set < length js) (sym (name-is j h.0)) (within js m.set (get_or ks m.set []) (sets m.set (get_or ks m.set []) (found ks m.set [] h.1))),
      )

  spot-is : (s : Spot) (v : ℤ) → IsThere ns ks s → recording_at ms js s v ≡ recording_at ns ks s v
  spot-is (Number n) v h = refl
  spot-is (Name j) v h =
      let m = get_or ns j nothing_named in
      ap (λ (x : Named). ByName (entry_of x.instrument (get_or js x.set []) v)) (name-is j h.0)
      ∙ ap (λ (a : AttrSet). ByName (entry_of m.instrument a v)) (set-is m.set h.1)

  pub there-grown : (ls : List Line) → AllThere ns ks ls → AllThere ms js ls
  there-grown [] h = tt
  there-grown (l ∷ ls) h = (spot-there l.at h.0, there-grown ls h.1)

  pub same-grown : (ls : List Line) → AllThere ns ks ls → recordings_of ms js ls ≡ recordings_of ns ks ls
  same-grown [] h = refl
  same-grown (l ∷ ls) h = λ i. spot-is l.at l.value h.0 i ∷ same-grown ls h.1 i

-- one line more of those that are named anew
pub anew-more : (ns ms ns' : List Named) (ks js ks' : List AttrSet) (ls fs : List Line) (i : ℕ) (l d : Line)
    → Grown ms ns' js ks' → AllThere ms js fs → recordings_of ms js fs ≡ take i (recordings_of ns ks ls)
    → IsThere ns' ks' l.at → recording_of ns' ks' l ≡ recording_of ns ks (get_or ls i d) → i < length ls
    → AllThere ns' ks' (fs ++ l ∷ []) × (recordings_of ns' ks' (fs ++ l ∷ []) ≡ take (i + 1) (recordings_of ns ks ls))
anew-more ns ms ns' ks js ks' ls fs i l d grown all so there same less =
    let rs = recordings_of ns ks ls in
    let r : Recording = recording_of ns ks (get_or ls i d) in
    let within : i < length rs = subst (λ (n : ℕ). i < n) (sym (length-map ls (recording_of ns ks))) less in
    let more : take (i + 1) rs ≡ take i rs ++ r ∷ [] = take_more rs i r within ∙ ap (λ (x : Recording). take i rs ++ x ∷ []) (at-get ns ks ls i d r less) in (
      there-push ns' ks' fs l (there-grown ms ns' js ks' grown.names grown.sets fs all) there,
      map-append (recording_of ns' ks') fs (l ∷ [])
          ∙ (λ k. same-grown ms ns' js ks' grown.names grown.sets fs all k ++ same k ∷ [])
          ∙ ap (λ (xs : List Recording). xs ++ r ∷ []) so
          ∙ sym more,
    )

-- the recording of a line that names what is there
pub named-is : (ns : List Named) (ks : List AttrSet) (l : Line) (j : ℕ) (m : Named) (a : AttrSet) → l.at ≡ Name j → slice_get ns j ≡ Some m → slice_get ks m.set ≡ Some a
    → recording_of ns ks l ≡ ByName (entry_of m.instrument a l.value)
named-is ns ks l j m a at name set =
    ap (λ (s : Spot). recording_at ns ks s l.value) at
    ∙ ap (λ (x : Named). ByName (entry_of x.instrument (get_or ks x.set []) l.value)) (got ns j m nothing_named name)
    ∙ ap (λ (b : AttrSet). ByName (entry_of m.instrument b l.value)) (got ks m.set a [] set)

pub ok_so : {T E : Type 0} (P : Type 0) (r : Result T E) → P → OnOk r P
ok_so P (Ok x) p = p
ok_so P (Err e) p = tt

pub err_so : {T E : Type 0} (P : Type 0) (r : Result T E) → P → OnErr r P
err_so P (Ok x) p = tt
err_so P (Err e) p = p
