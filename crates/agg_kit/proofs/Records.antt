-- A recording in the points of one stream, once it is made in the others.
use Rattle.std.proofs.Common.{◌≡◌, ℕ, ℤ, ◌<◌, ◌≢◌, ◌==◌, Bool, true, false, cond, List, [], ◌∷◌, ◌++◌, ◌⊎◌, inl, inr, Option, Some, None, length, slice_get, get_or, set, position, refl, sym, ap, subst, ◌∙◌, suc, zero, arith, Result, Ok, Err, OnErr, OnOk, IfErr, IfSome, is_some, is_none, ◌&&◌, int_lt, pos, true≢false, find, replicate, FitsSigned, w64}
use Rattle.std.specs.Cmp.{unsigned_Decides}
use Rattle.std.specs.Map.{keys_of, lookup}
use Rattle.std.specs.Option.{option_map}
use Rattle.std.proofs.lemmas.List.{map-set, length-map}
use Rattle.attr_kit.specs.declared.attr_set.AttrSet.{AttrSet}
use Rattle.attr_kit.specs.Keeping.{kept}
use Rattle.attr_kit.specs.declared.keep.Keep.{Keep}
use Rattle.attr_kit.specs.declared.keep.Keep.TheVariants.{All}
use Rattle.point_kit.specs.declared.payload.Payload.{Payload}
use Rattle.point_kit.specs.declared.shape.Shape.{Shape}
use Rattle.point_kit.specs.declared.stream.Stream.{Stream}
use Rattle.plan_kit.specs.Plans.{Planned, feeds_of, AreFeeds, AllRise, rises, only_rises}
use Rattle.plan_kit.specs.declared.instrument.Kind.{Kind}
use Rattle.plan_kit.specs.declared.feed.Feed.{Feed}
use Rattle.agg_kit.specs.Feeding.{set_eq}
use Rattle.agg_kit.specs.Feeds.{entries_of, series_at, shape_at, leaves_range, first_out, after_feeds, early_feeds, is_copied}
use Rattle.agg_kit.specs.Held.{whole_feed}
use Rattle.agg_kit.specs.Kept.{AreLone}
use Rattle.agg_kit.specs.Payloads.{is_out_of_range}
use Rattle.agg_kit.specs.Sound.{AreSound, AreOnce, AllSound}
use Rattle.agg_kit.specs.Steps.{Stored, bounds_of, has_point, fed_set, payload_after, payload_with_value, step}
use Rattle.agg_kit.specs.Tallies.{Points}
use Rattle.agg_kit.specs.declared.fault.TallyFault.TheVariants as faults
use Rattle.agg_kit.proofs.Refusals.{Every}
use Rattle.agg_kit.proofs.Rounds.{there, shape-is}
use Rattle.agg_kit.proofs.Sound.{first-fits, sound-step, once-step}
use Rattle.agg_kit.proofs.Steps.{payload-new}

pub set-other : {X : Type 0} (xs : List X) (i m : ℕ) (x : X) → (m ≢ i) → slice_get (set xs i x) m ≡ slice_get xs m
set-other [] i m x n = refl
set-other (y ∷ xs) zero zero x n = absurd (n refl)
set-other (y ∷ xs) zero (suc m) x n = refl
set-other (y ∷ xs) (suc i) zero x n = refl
set-other (y ∷ xs) (suc i) (suc m) x n = set-other xs i m x (λ e. n (ap suc e))

pub set-here : {X : Type 0} (xs : List X) (i : ℕ) (x : X) → i < length xs → slice_get (set xs i x) i ≡ Some x
set-here [] i x h = absurd (omega arith)
set-here (y ∷ xs) zero x h = refl
set-here (y ∷ xs) (suc i) x h = set-here xs i x (omega arith)

-- the element that was read there
pub read : {X : Type 0} (xs : List X) (i : ℕ) (x y : X) → slice_get xs i ≡ Some x → y ≡ get_or xs i y → y ≡ x
read [] i x y h e = absurd (cc)
read (z ∷ xs) zero x y h e = cc
read (z ∷ xs) (suc i) x y h e = read xs i x y h e

pub same_entries : (ss : List Stored) (i : ℕ) (x y : Stored) → y ≡ get_or ss i y → x.entries ≡ y.entries → entries_of (set ss i x) ≡ entries_of ss
same_entries [] i x y e h = refl
same_entries (s ∷ ss) zero x y e h = ap (λ l. l ∷ entries_of ss) (h ∙ ap (λ (s : Stored). s.entries) e)
same_entries (s ∷ ss) (suc i) x y e h = ap (λ l. s.entries ∷ l) (same_entries ss i x y e h)

pub entries-at : (ss : List Stored) (i : ℕ) (q : Stored) → slice_get ss i ≡ Some q → get_or (entries_of ss) i [] ≡ q.entries
entries-at [] i q h = absurd (cc)
entries-at (s ∷ ss) zero q h = let e : s ≡ q = cc in ap (λ (s : Stored). s.entries) e
entries-at (s ∷ ss) (suc i) q h = entries-at ss i q h

-- the points of the stream at a place, as they were read there
pub entries-read : (ss : List Stored) (i : ℕ) (y : Stored) → i < length ss → y ≡ get_or ss i y → series_at (entries_of ss) i ≡ y.entries
entries-read [] i y l e = absurd (omega arith)
entries-read (s ∷ ss) zero y l e = ap (λ (s : Stored). s.entries) (sym e)
entries-read (s ∷ ss) (suc i) y l e = entries-read ss i y (omega arith) e

-- whether a feed's point would be out of range, by the points of its stream as they were read
pub leaves-here : (p : Planned) (f : Feed) (a : AttrSet) (v : ℤ) (ss : List Stored) (old : Stored) → f.stream < length ss → old ≡ get_or ss f.stream old
    → leaves_range p a v (entries_of ss) f ≡ is_out_of_range (payload_after (shape_at p f.stream) old.entries (fed_set p.limit old.entries (kept f.keep a)) v)
leaves-here p f a v ss old l e =
    ap (λ (es : Points). is_out_of_range (payload_after (shape_at p f.stream) es (fed_set p.limit es (kept f.keep a)) v)) (entries-read ss f.stream old l e)

-- there are points for each stream
pub sound-length : (ss : List Stream) (xs : List Points) → AllSound ss xs → length xs ≡ length ss
sound-length [] [] s = refl
sound-length [] (x ∷ xs) s = absurd s
sound-length (t ∷ ss) [] s = absurd s
sound-length (t ∷ ss) (x ∷ xs) s = ap suc (sound-length ss xs s.2)

pub stored-length : (ss : List Stream) (xs : List Stored) → AllSound ss (entries_of xs) → length xs ≡ length ss
stored-length ss xs s = sym (length-map xs (λ (s : Stored). s.entries)) ∙ sound-length ss (entries_of xs) s

pub sound-stream : (ss : List Stream) (xs : List Points) (m : ℕ) (s : Stream) → AllSound ss xs → slice_get ss m ≡ Some s → AreSound s.shape (series_at xs m)
sound-stream [] [] m s a e = absurd (cc)
sound-stream [] (x ∷ xs) m s a e = absurd a
sound-stream (t ∷ ss) [] m s a e = absurd a
sound-stream (t ∷ ss) (x ∷ xs) zero s a e = let same : t ≡ s = cc in subst (λ (u : Stream). AreSound u.shape x) same a.0
sound-stream (t ∷ ss) (x ∷ xs) (suc m) s a e = sound-stream ss xs m s a.2 e

pub once-stream : (ss : List Stream) (xs : List Points) (m : ℕ) → AllSound ss xs → AreOnce (keys_of (series_at xs m))
once-stream [] [] m a = tt
once-stream [] (x ∷ xs) m a = absurd a
once-stream (t ∷ ss) [] m a = absurd a
once-stream (t ∷ ss) (x ∷ xs) zero a = a.1
once-stream (t ∷ ss) (x ∷ xs) (suc m) a = once-stream ss xs m a.2

pub sound-shape : (p : Planned) (xs : List Points) (m : ℕ) → m < length p.streams → AllSound p.streams xs → AreSound (shape_at p m) (series_at xs m)
sound-shape p xs m l a =
    let t = there p.streams m l in
    subst (λ (s : Shape). AreSound s (series_at xs m)) (sym (shape-is p m t.0 t.1)) (sound-stream p.streams xs m t.0 a t.1)

-- the first feed out of range, where this one is, and where it is not
pub first-here : (p : Planned) (a : AttrSet) (v : ℤ) (ss : List Points) (f : Feed) (fs : List Feed) → leaves_range p a v ss f ≡ true → first_out p a v ss (f ∷ fs) ≡ Some (faults.Overflow f.stream)
first-here p a v ss f fs h = ap (λ b. option_map (λ (g : Feed). faults.Overflow g.stream) (cond b (Some f) (find (leaves_range p a v ss) fs))) h

pub first-later : (p : Planned) (a : AttrSet) (v : ℤ) (ss : List Points) (f : Feed) (fs : List Feed) → leaves_range p a v ss f ≡ false → first_out p a v ss (f ∷ fs) ≡ first_out p a v ss fs
first-later p a v ss f fs h = ap (λ b. option_map (λ (g : Feed). faults.Overflow g.stream) (cond b (Some f) (find (leaves_range p a v ss) fs))) h

-- the same of all feeds, where the points that were read are in range
pub first-kept : (p : Planned) (a : AttrSet) (v : ℤ) (ss : List Stored) (old : Stored) (f : Feed) (fs all : List Feed) → all ≡ f ∷ fs → f.stream < length ss → old ≡ get_or ss f.stream old
    → is_out_of_range (payload_after (shape_at p f.stream) old.entries (fed_set p.limit old.entries (kept f.keep a)) v) ≡ false
    → first_out p a v (entries_of ss) all ≡ first_out p a v (entries_of ss) fs
first-kept p a v ss old f fs all is l was ok = ap (first_out p a v (entries_of ss)) is ∙ first-later p a v (entries_of ss) f fs (leaves-here p f a v ss old l was ∙ ok)

pub first-rest : (p : Planned) (a : AttrSet) (v : ℤ) (ss : List Stored) (old q : Stored) (f : Feed) (fs all : List Feed) → all ≡ f ∷ fs → f.stream < length ss → old ≡ get_or ss f.stream old → q.entries ≡ old.entries
    → is_out_of_range (payload_after (shape_at p f.stream) old.entries (fed_set p.limit old.entries (kept f.keep a)) v) ≡ false
    → first_out p a v (entries_of ss) all ≡ first_out p a v (entries_of (set ss f.stream q)) fs
first-rest p a v ss old q f fs all is l was same ok =
    first-kept p a v ss old f fs all is l was ok ∙ ap (λ (es : List Points). first_out p a v es fs) (sym (same_entries ss f.stream q old was same))

-- the same of the feeds before the first that copies what it keeps
pub early-kept : (p : Planned) (a : AttrSet) (v : ℤ) (ss : List Stored) (old : Stored) (f : Feed) (fs all : List Feed) → all ≡ f ∷ fs → f.stream < length ss → old ≡ get_or ss f.stream old
    → is_out_of_range (payload_after (shape_at p f.stream) old.entries (fed_set p.limit old.entries (kept f.keep a)) v) ≡ false
    → first_out p a v (entries_of ss) (early_feeds a fs) ≡ None → first_out p a v (entries_of ss) (early_feeds a all) ≡ None
early-kept p a v ss old f fs all is l was ok h = ap (λ (gs : List Feed). first_out p a v (entries_of ss) (early_feeds a gs)) is ∙ by (is_copied f.keep a)
  where
    by : (b : Bool) → first_out p a v (entries_of ss) (cond b [] (f ∷ early_feeds a fs)) ≡ None
    by true = refl
    by false = first-later p a v (entries_of ss) f (early_feeds a fs) (leaves-here p f a v ss old l was ∙ ok) ∙ h

pub early-rest : (p : Planned) (a : AttrSet) (v : ℤ) (ss : List Stored) (old q : Stored) (f : Feed) (fs all : List Feed) → all ≡ f ∷ fs → f.stream < length ss → old ≡ get_or ss f.stream old → q.entries ≡ old.entries
    → is_out_of_range (payload_after (shape_at p f.stream) old.entries (fed_set p.limit old.entries (kept f.keep a)) v) ≡ false
    → first_out p a v (entries_of (set ss f.stream q)) (early_feeds a fs) ≡ None → first_out p a v (entries_of ss) (early_feeds a all) ≡ None
early-rest p a v ss old q f fs all is l was same ok h =
    early-kept p a v ss old f fs all is l was ok (ap (λ (es : List Points). first_out p a v es (early_feeds a fs)) (sym (same_entries ss f.stream q old was same)) ∙ h)

pub early-copied : (p : Planned) (a : AttrSet) (v : ℤ) (ss : List Points) (f : Feed) (fs all : List Feed) → all ≡ f ∷ fs → is_copied f.keep a ≡ true → first_out p a v ss (early_feeds a all) ≡ None
early-copied p a v ss f fs all is copied =
    ap (λ (gs : List Feed). first_out p a v ss (early_feeds a gs)) is ∙ ap (λ b. first_out p a v ss (cond b [] (f ∷ early_feeds a fs))) copied

-- where the point is that a feed reaches, by the limit and the set that it was looked for under
pub found-at : (p : Planned) (b : AttrSet) (es : Points) (limit : ℕ) (set : AttrSet) (found at : Option ℕ) → limit ≡ p.limit → set ≡ b → found ≡ at
    → found ≡ position (set_eq (fed_set limit es set)) (keys_of es) → position (set_eq (fed_set p.limit es b)) (keys_of es) ≡ at
found-at p b es limit set found at e f is h =
    ap (λ n. position (set_eq (fed_set n es b)) (keys_of es)) (sym e) ∙ ap (λ x. position (set_eq (fed_set limit es x)) (keys_of es)) (sym f) ∙ sym h ∙ is

-- the same of a step
pub step-along : (es xs : Points) (v : ℤ) (s s' : Shape) (n n' : ℕ) (b b' : AttrSet) → s ≡ s' → n ≡ n' → b ≡ b' → xs ≡ step s n es b v → xs ≡ step s' n' es b' v
step-along es xs v s s' n n' b b' e f g h = h ∙ ap (λ x. step x n es b v) e ∙ ap (λ x. step s' x es b v) f ∙ ap (λ x. step s' n' es x v) g

-- a set that has no point is not held, and its first value is in range
pub new-fits : (shape : Shape) (es : Points) (b : AttrSet) (v : ℤ) → FitsSigned w64 v → lookup (set_eq b) es ≡ None → is_out_of_range (payload_after shape es b v) ≡ false
new-fits shape es b v f n = ap (λ (t : Payload). is_out_of_range (payload_with_value (bounds_of shape) t v)) (payload-new shape es b n) ∙ first-fits shape v f

pub new-gone : (es : Points) (b : AttrSet) → lookup (set_eq b) es ≡ None → has_point es b ≡ true → ⊥
new-gone es b n h = true≢false (sym h ∙ ap is_some n)

-- a feed's stream, read once the other feeds have taken their recording
module _ (p : Planned) (f : Feed) (fs : List Feed) (a : AttrSet) (v : ℤ) (ss ns : List Stored) (old q now x : Stored) (done : Points → Points)
    (stays : slice_get ns f.stream ≡ Some q)
    (same : q.entries ≡ old.entries)
    (read-now : now ≡ get_or ns f.stream now) where
  pub unmoved : now ≡ q
  unmoved = read ns f.stream q now stays read-now

  pub recorded-here : entries_of ns ≡ after_feeds p fs a v (entries_of ss)
      → done old.entries ≡ step (shape_at p f.stream) p.limit old.entries (kept f.keep a) v
      → x.entries ≡ done now.entries
      → entries_of (set ns f.stream x) ≡ after_feeds p (f ∷ fs) a v (entries_of ss)
  recorded-here rest steps after =
      let mid : now.entries ≡ old.entries = ap (λ (s : Stored). s.entries) unmoved ∙ same in
      let at : old.entries ≡ series_at (entries_of ns) f.stream = sym (entries-at ns f.stream q stays ∙ same) in
      map-set (λ (s : Stored). s.entries) ns f.stream x
      ∙ ap (set (entries_of ns) f.stream) (after ∙ ap done mid ∙ steps ∙ ap (λ s. step (shape_at p f.stream) p.limit s (kept f.keep a) v) at)
      ∙ ap (λ l. set l f.stream (step (shape_at p f.stream) p.limit (series_at l f.stream) (kept f.keep a) v)) rest

-- an element that was read there
pub read-there : {X : Type 0} (xs : List X) (i : ℕ) (x : X) → i < length xs → x ≡ get_or xs i x → slice_get xs i ≡ Some x
read-there [] i x l e = absurd (omega arith)
read-there (y ∷ xs) zero x l e = ap (λ z. Some z) (sym e)
read-there (y ∷ xs) (suc i) x l e = read-there xs i x (omega arith) e

-- two reads of an element
pub same-read : {X : Type 0} (xs : List X) (i : ℕ) (x y : X) → i < length xs → x ≡ get_or xs i x → y ≡ get_or xs i y → y ≡ x
same-read xs i x y l e h = read xs i x y (read-there xs i x l e) h

-- a list of no feeds
pub no-feeds : (fs : List Feed) → (length fs == 0) ≡ true → fs ≡ []
no-feeds [] h = refl
no-feeds (f ∷ fs) h = let k = (unsigned_Decides (length (f ∷ fs)) 0).0 h in absurd (omega arith)

-- the one feed whose stream is known
pub lone-is : (o : Option ℕ) (m : ℕ) (fs : List Feed) → o ≡ Some m → IfSome o (λ m. fs ≡ whole_feed m ∷ []) → fs ≡ whole_feed m ∷ []
lone-is o m fs e h = subst (λ (o : Option ℕ). IfSome o (λ m. fs ≡ whole_feed m ∷ [])) e h

-- its stream is that of a feed which has no other beside it, and keeps all keys
pub lone-here : (fs rest : List Feed) (f : Feed) → fs ≡ f ∷ rest → (length rest == 0) ≡ true → f.keep ≡ All → fs ≡ whole_feed f.stream ∷ []
lone-here fs rest f is none all = is ∙ ap (λ (l : List Feed). f ∷ l) (no-feeds rest none) ∙ ap (λ (k : Keep). let g : Feed = record { stream = f.stream; keep = k } in g ∷ []) all

pub if_some : {X : Type 0} (P Q : X → Type 0) (o : Option X) → ((x : X) → P x → Q x) → IfSome o P → IfSome o Q
if_some P Q None f h = tt
if_some P Q (Some x) f h = f x h

-- one more instrument's
pub get-push : {X : Type 0} (xs : List X) (x y : X) (i : ℕ) → slice_get (xs ++ x ∷ []) i ≡ Some y → (slice_get xs i ≡ Some y) ⊎ ((i ≡ length xs) × (x ≡ y))
get-push [] x y zero e = let same : x ≡ y = cc in inr (refl, same)
get-push [] x y (suc i) e = absurd (cc)
get-push (z ∷ xs) x y zero e = inl e
get-push (z ∷ xs) x y (suc i) e = elim (get-push xs x y i e) [
  | inl h ↦ inl h
  | inr h ↦ inr (ap suc h.0, h.1)
]

pub lone_none : (p : Planned) (ys : List (Option ℕ)) → ys ≡ [] → AreLone p ys
lone_none p ys is = λ i m at. none i m (sym (ap (λ (l : List (Option ℕ)). slice_get l i) is) ∙ at)
  where
    none : (i m : ℕ) → (let l : List (Option ℕ) = [] in slice_get l i) ≡ Some (Some m) → feeds_of p i ≡ whole_feed m ∷ []
    none i m e = absurd (cc)

pub lone_push : (p : Planned) (xs ys : List (Option ℕ)) (n : ℕ) (o : Option ℕ) → AreLone p xs → length xs ≡ n → IfSome o (λ m. feeds_of p n ≡ whole_feed m ∷ []) → ys ≡ xs ++ o ∷ [] → AreLone p ys
lone_push p xs ys n o l e h is = λ i m at. by i m (get-push xs o (Some m) i (sym (ap (λ (l : List (Option ℕ)). slice_get l i) is) ∙ at))
  where
    by : (i m : ℕ) → (slice_get xs i ≡ Some (Some m)) ⊎ ((i ≡ length xs) × (o ≡ Some m)) → feeds_of p i ≡ whole_feed m ∷ []
    by i m (inl g) = l i m g
    by i m (inr g) = ap (feeds_of p) (g.0 ∙ e) ∙ subst (λ (o : Option ℕ). IfSome o (λ m. feeds_of p n ≡ whole_feed m ∷ [])) g.1 h

pub if_some_self : {X : Type 0} (o x : Option X) → o ≡ x → IfSome o (λ i. x ≡ Some i)
if_some_self None x e = tt
if_some_self (Some i) x e = sym e

pub on_err : {T E : Type 0} (P : Type 0) (r : Result T E) → P → OnErr r P
on_err P (Ok x) p = tt
on_err P (Err e) p = p

pub if_err_so : {T E : Type 0} (P : Type 0) (Q : E → Type 0) (r : Result T E) → P → IfErr r (λ e. Q e → P)
if_err_so P Q (Ok x) p = tt
if_err_so P Q (Err e) p = λ _. p

pub on_err_map : {T E : Type 0} (P Q : Type 0) (r : Result T E) → (P → Q) → OnErr r P → OnErr r Q
on_err_map P Q (Ok x) f p = tt
on_err_map P Q (Err e) f p = f p

pub on_ok : {T E : Type 0} (P Q : Type 0) (r : Result T E) → (P → Q) → OnOk r P → OnOk r Q
on_ok P Q (Ok x) f p = f p
on_ok P Q (Err e) f p = tt

pub if_err : {T E : Type 0} (P Q : E → Type 0) (r : Result T E) → ((e : E) → P e → Q e) → IfErr r P → IfErr r Q
if_err P Q (Ok x) f p = tt
if_err P Q (Err e) f p = f e p

pub sound-either : {T E : Type 0} (r : Result T E) (ss : List Stream) (before after now : List Points) → OnOk r (now ≡ after) → OnErr r (now ≡ before) → AllSound ss before → AllSound ss after → AllSound ss now
sound-either (Ok x) ss before after now ok err s k = subst (AllSound ss) (sym ok) k
sound-either (Err e) ss before after now ok err s k = subst (AllSound ss) (sym err) s

-- points without sets are sound
pub sound-nothing : (ss : List Stream) → AllSound ss (replicate (length ss) [])
sound-nothing [] = tt
sound-nothing (s ∷ ss) = (tt, tt, sound-nothing ss)

-- one more value for a stream keeps the points sound
sound-set : (ss : List Stream) (xs : List Points) (m : ℕ) (s : Stream) (x : Points) → AllSound ss xs → slice_get ss m ≡ Some s → AreSound s.shape x → AreOnce (keys_of x) → AllSound ss (set xs m x)
sound-set [] [] m s x a e k o = absurd (cc)
sound-set [] (y ∷ xs) m s x a e k o = absurd a
sound-set (t ∷ ss) [] m s x a e k o = absurd a
sound-set (t ∷ ss) (y ∷ xs) zero s x a e k o = let same : t ≡ s = cc in (subst (λ (u : Stream). AreSound u.shape x) (sym same) k, o, a.2)
sound-set (t ∷ ss) (y ∷ xs) (suc m) s x a e k o = (a.0, a.1, sound-set ss xs m s x a.2 e k o)

pub sound-applied : (p : Planned) (n : ℕ) (fs : List Feed) (a : AttrSet) (v : ℤ) (xs : List Points) → n ≡ length p.streams → AreFeeds n fs
    → Every (λ f. rises (shape_at p f.stream) ≡ true → int_lt v (pos 0) ≡ false) fs → AllSound p.streams xs → AllSound p.streams (after_feeds p fs a v xs)
sound-applied p n [] a v xs e fit r s = s
sound-applied p n (f ∷ fs) a v xs e fit r s =
    let l : f.stream < length p.streams = subst (λ (k : ℕ). f.stream < k) e fit.0 in
    let t = there p.streams f.stream l in
    let after = after_feeds p fs a v xs in
    let sound = sound-applied p n fs a v xs e fit.2 r.1 s in
    let here = sound-step (shape_at p f.stream) p.limit (series_at after f.stream) (kept f.keep a) v (sound-shape p after f.stream l sound) r.0 in
    sound-set p.streams after f.stream t.0 (step (shape_at p f.stream) p.limit (series_at after f.stream) (kept f.keep a) v) sound t.1
    (subst (λ (s : Shape). AreSound s (step (shape_at p f.stream) p.limit (series_at after f.stream) (kept f.keep a) v)) (shape-is p f.stream t.0 t.1) here)
    (once-step (shape_at p f.stream) p.limit (series_at after f.stream) (kept f.keep a) v (once-stream p.streams after f.stream sound))

-- a value that is not refused as negative is at least 0 where totals only rise
and-no : (a b : Bool) → (a && b) ≡ false → a ≡ true → b ≡ false
and-no true b h e = h
and-no false b h e = absurd (true≢false (sym e))

pub rising-feeds : (p : Planned) (n : ℕ) (k : Kind) (fs : List Feed) (v : ℤ) → n ≡ length p.streams → AreFeeds n fs → AllRise p k fs → (only_rises k && int_lt v (pos 0)) ≡ false
    → Every (λ f. rises (shape_at p f.stream) ≡ true → int_lt v (pos 0) ≡ false) fs
rising-feeds p n k [] v e fit r h = tt
rising-feeds p n k (f ∷ fs) v e fit r h =
    let t = there p.streams f.stream (subst (λ (k : ℕ). f.stream < k) e fit.0) in (
      (λ up. and-no (only_rises k) (int_lt v (pos 0)) h (r.0 t.0 t.1 (sym (ap rises (shape-is p f.stream t.0 t.1)) ∙ up))),
      rising-feeds p n k fs v e fit.2 r.1 h,
    )

pub some-kind : {X : Type 0} (o : Option X) → is_none o ≡ false → (x : X) × (o ≡ Some x)
some-kind None h = absurd (true≢false h)
some-kind (Some x) h = (x, refl)

-- a stream that is not there has no points
pub series-none : (ss : List Points) (m : ℕ) → slice_get ss m ≡ None → series_at ss m ≡ []
series-none [] m none = refl
series-none (es ∷ ss) zero none = absurd (cc)
series-none (es ∷ ss) (suc m) none = series-none ss m none
