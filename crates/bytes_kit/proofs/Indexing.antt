-- A text that is noted is found, and the others stay found.
use Rattle.std.proofs.Common.{◌≡◌, ◌≢◌, ℕ, zero, suc, ◌+◌, ◌-◌, ◌%◌, ◌<◌, ◌≤◌, nat_lt, if◌then◌else◌, Bool, true, false, cond, List, [], ◌∷◌, ◌++◌, length, get_or, replicate, Option, Some, None, is_some, refl, sym, ap, subst, ◌∙◌, arith, length-append, inl, inr, ◌⊎◌}
use Rattle.std.proofs.Math.ListN.{get_or-append}
use Rattle.std.proofs.Math.Seq.{get_or-append_seam}
use Rattle.std.proofs.lemmas.Bool.{false≢true, cases_eq, ltb-true}
use Rattle.std.proofs.lemmas.List.{get_or-set_same, get_or-set_other, length-replicate, length-set}
use Rattle.std.proofs.lemmas.List.Folds.{list_any_at}
use Rattle.std.specs.BTreeMap as tree
use Rattle.std.specs.List.{list_any, position_from}
use Rattle.std.specs.Option.{option_or}
use Rattle.std.specs.Ordering.{is_eq}
use Rattle.std.specs.declared.cmp.Ordering.{Ordering}
use Rattle.std.specs.declared.cmp.Ordering.TheVariants.{Less, Equal, Greater}
use Rattle.std.specs.Prelude.{slice_index, slice_set}
use Rattle.attr_kit.specs.Exact.{exact_texts}
use Rattle.attr_kit.specs.OrderLaws.{text_apart, text_total, same_ties}
use Rattle.attr_kit.specs.Orders.{text_cmp}
use Rattle.bytes_kit.specs.Past.{place_of}
use Rattle.bytes_kit.specs.Index.{seek, seek_from, seek_here, next_slot, placed_at, text_hash, IsIndexOf}
use Rattle.bytes_kit.specs.declared.index.Index.{Index}
use Rattle.bytes_kit.specs.declared.index.Seek.{Seek}
use Rattle.bytes_kit.specs.declared.index.Seek.TheVariants as seeks
use Rattle.bytes_kit.proofs.Places.{same, itself, place_is, none_same}

-- ---- the places of texts and one more

from_more : (texts : List (List ℕ)) (from : ℕ) (t u : List ℕ) → position_from (same t) from (texts ++ u ∷ []) ≡ option_or (position_from (same t) from texts) (cond (same t u) (Some (from + length texts)) None)
from_more [] from t u = ap (λ (n : ℕ). cond (same t u) (Some n) None) (omega arith)
from_more (x ∷ xs) from t u =
    elim (same t x) as (λ b. cond b (Some from) (position_from (same t) (from + 1) (xs ++ u ∷ [])) ≡ option_or (cond b (Some from) (position_from (same t) (from + 1) xs)) (cond (same t u) (Some (from + length (x ∷ xs))) None)) [
      | true ↦ refl
      | false ↦ from_more xs (from + 1) t u ∙ ap (λ (n : ℕ). option_or (position_from (same t) (from + 1) xs) (cond (same t u) (Some n) None)) (omega arith)
    ]

place_more : (texts : List (List ℕ)) (t u : List ℕ) → place_of (texts ++ u ∷ []) t ≡ option_or (place_of texts t) (cond (same t u) (Some (length texts)) None)
place_more texts t u =
    place_is (texts ++ u ∷ []) t ∙ from_more texts 0 t u
    ∙ ap (λ (n : ℕ). option_or (position_from (same t) 0 texts) (cond (same t u) (Some n) None)) (omega arith)
    ∙ (λ i. option_or (sym (place_is texts t) i) (cond (same t u) (Some (length texts)) None))

place_stays : (texts : List (List ℕ)) (t u : List ℕ) (p : ℕ) → place_of texts t ≡ Some p → place_of (texts ++ u ∷ []) t ≡ Some p
place_stays texts t u p e = place_more texts t u ∙ ap (λ (o : Option ℕ). option_or o (cond (same t u) (Some (length texts)) None)) e

place_of_last : (texts : List (List ℕ)) (t : List ℕ) → place_of texts t ≡ None → place_of (texts ++ t ∷ []) t ≡ Some (length texts)
place_of_last texts t e =
    place_more texts t t ∙ ap (λ (o : Option ℕ). option_or o (cond (same t t) (Some (length texts)) None)) e
    ∙ ap (λ (b : Bool). cond b (Some (length texts)) None) (itself t)

no_place_still : (texts : List (List ℕ)) (t u : List ℕ) → place_of texts t ≡ None → same t u ≡ false → place_of (texts ++ u ∷ []) t ≡ None
no_place_still texts t u e apart =
    place_more texts t u ∙ ap (λ (o : Option ℕ). option_or o (cond (same t u) (Some (length texts)) None)) e
    ∙ ap (λ (b : Bool). cond b (Some (length texts)) None) apart

differs_by : (texts : List (List ℕ)) (t : List ℕ) (p : ℕ) (b : Bool) → list_any (same t) texts ≡ false → p < length texts → same t (get_or texts p []) ≡ b → b ≡ false
differs_by texts t p true none h e = absurd (false≢true (sym none ∙ list_any_at (same t) texts p [] h e))
differs_by texts t p false none h e = refl

-- a text without a place is none of them
differs : (texts : List (List ℕ)) (t : List ℕ) (p : ℕ) → place_of texts t ≡ None → p < length texts → same t (get_or texts p []) ≡ false
differs texts t p none h = differs_by texts t p (same t (get_or texts p [])) (none_same texts t none) h refl

-- ---- slots

pub next_within : (count slot : ℕ) → 0 < count → next_slot count slot < count
next_within count slot h = by (nat_lt (slot + 1) count) refl
  where
    by : (b : Bool) → nat_lt (slot + 1) count ≡ b → (if b then slot + 1 else 0) < count
    by true e = ltb-true (slot + 1) count e
    by false e = h

-- no place is noted that is not there
abbrev Within : List (List ℕ) → List ℕ → Type 0
Within texts slots = (slot : ℕ) → slice_index slots slot ≤ length texts

-- where no place is noted, the slot is free
free_here : (texts : List (List ℕ)) (t : List ℕ) (slot head f : ℕ) (behind : Seek) → seek_here texts t slot head behind ≡ seeks.Free f → ((head ≡ 0) × (slot ≡ f)) ⊎ (behind ≡ seeks.Free f)
free_here texts t slot zero f behind e = inl (refl, cc)
free_here texts t slot (suc p) f behind e = by (same t (get_or texts p [])) e
  where
    by : (b : Bool) → cond b (seeks.At p) behind ≡ seeks.Free f → ((suc p ≡ 0) × (slot ≡ f)) ⊎ (behind ≡ seeks.Free f)
    by true g = absurd cc
    by false g = inr g

free_from : (texts : List (List ℕ)) (slots t : List ℕ) (slot more f : ℕ) → slot < length slots → seek_from texts slots t slot more ≡ seeks.Free f → (slice_index slots f ≡ 0) × (f < length slots)
free_from texts slots t slot zero f h e = absurd cc
free_from texts slots t slot (suc more) f h e =
    elim (free_here texts t slot (slice_index slots slot) f (seek_from texts slots t (next_slot (length slots) slot) more) e) [
      | inl here ↦ (ap (slice_index slots) (sym here.1) ∙ here.0, subst (λ (n : ℕ). n < length slots) here.1 h)
      | inr later ↦ free_from texts slots t (next_slot (length slots) slot) more f (next_within (length slots) slot (omega arith)) later
    ]

-- a text without a place is found at no slot
none_here : (texts : List (List ℕ)) (t : List ℕ) (slot head : ℕ) (behind : Seek) → head ≤ length texts → place_of texts t ≡ None → placed_at behind None ≡ None → placed_at (seek_here texts t slot head behind) None ≡ None
none_here texts t slot zero behind h none so = refl
none_here texts t slot (suc p) behind h none so = ap (λ (b : Bool). placed_at (cond b (seeks.At p) behind) None) (differs texts t p none (omega arith)) ∙ so

none_from : (texts : List (List ℕ)) (slots t : List ℕ) (slot more : ℕ) → Within texts slots → place_of texts t ≡ None → placed_at (seek_from texts slots t slot more) None ≡ None
none_from texts slots t slot zero within none = refl
none_from texts slots t slot (suc more) within none =
    none_here texts t slot (slice_index slots slot) (seek_from texts slots t (next_slot (length slots) slot) more) (within slot) none (none_from texts slots t (next_slot (length slots) slot) more within none)

-- one more text behind the others leads no look astray
more_here : (texts : List (List ℕ)) (t u : List ℕ) (slot head : ℕ) (behind now : Seek) → head ≤ length texts → now ≡ behind → seek_here (texts ++ u ∷ []) t slot head now ≡ seek_here texts t slot head behind
more_here texts t u slot zero behind now h so = refl
more_here texts t u slot (suc p) behind now h so =
    (λ i. cond (same t (get_or-append texts (u ∷ []) [] p (omega arith) i)) (seeks.At p) (so i))

more_from : (texts : List (List ℕ)) (slots t u : List ℕ) (slot more : ℕ) → Within texts slots → seek_from (texts ++ u ∷ []) slots t slot more ≡ seek_from texts slots t slot more
more_from texts slots t u slot zero within = refl
more_from texts slots t u slot (suc more) within =
    more_here texts t u slot (slice_index slots slot) (seek_from texts slots t (next_slot (length slots) slot) more) (seek_from (texts ++ u ∷ []) slots t (next_slot (length slots) slot) more) (within slot) (more_from texts slots t u (next_slot (length slots) slot) more within)

-- what was found without a free slot is found when one is taken
abbrev NotFree : Seek → Type 0
NotFree s = (f : ℕ) → s ≢ seeks.Free f

kept_here : (texts : List (List ℕ)) (t u : List ℕ) (slot head : ℕ) (behind now : Seek) → head ≤ length texts → NotFree (seek_here texts t slot head behind) → (NotFree behind → now ≡ behind) → seek_here (texts ++ u ∷ []) t slot head now ≡ seek_here texts t slot head behind
kept_here texts t u slot zero behind now h never so = absurd (never slot refl)
kept_here texts t u slot (suc p) behind now h never so =
    (λ i. cond (same t (get_or-append texts (u ∷ []) [] p (omega arith) i)) (seeks.At p) now) ∙ by (same t (get_or texts p [])) never
  where
    by : (b : Bool) → ((f : ℕ) → cond b (seeks.At p) behind ≢ seeks.Free f) → cond b (seeks.At p) now ≡ cond b (seeks.At p) behind
    by true g = refl
    by false g = so g

kept_from : (texts : List (List ℕ)) (slots t u : List ℕ) (f v slot more : ℕ) → Within texts slots → slice_index slots f ≡ 0 → NotFree (seek_from texts slots t slot more) → seek_from (texts ++ u ∷ []) (slice_set slots f v) t slot more ≡ seek_from texts slots t slot more
kept_from texts slots t u f v slot zero within free never = refl
kept_from texts slots t u f v slot (suc more) within free never =
    let now : Seek = seek_from (texts ++ u ∷ []) (slice_set slots f v) t (next_slot (length slots) slot) more in
    let behind : Seek = seek_from texts slots t (next_slot (length slots) slot) more in
    let other : slot ≢ f = λ e. never slot (ap (λ (n : ℕ). seek_here texts t slot n behind) (ap (slice_index slots) e ∙ free)) in
    (λ i. seek_here (texts ++ u ∷ []) t slot (get_or-set_other slots f slot v 0 other i) (seek_from (texts ++ u ∷ []) (slice_set slots f v) t (next_slot (length-set slots f v i) slot) more))
    ∙ kept_here texts t u slot (slice_index slots slot) behind now (within slot) never (λ g. kept_from texts slots t u f v (next_slot (length slots) slot) more within free g)

one_slot : (slot f : ℕ) → seeks.Free slot ≡ seeks.Free f → slot ≡ f
one_slot slot f e = cc

-- a text at a free slot is found there
there_here : (texts : List (List ℕ)) (u : List ℕ) (slot : ℕ) (behind : Seek) → seek_here (texts ++ u ∷ []) u slot (suc (length texts)) behind ≡ seeks.At (length texts)
there_here texts u slot behind =
    (λ i. cond (same u (get_or-append_seam texts u [] [] i)) (seeks.At (length texts)) behind)
    ∙ ap (λ (b : Bool). cond b (seeks.At (length texts)) behind) (itself u)

there_behind : (texts : List (List ℕ)) (u : List ℕ) (slot head f : ℕ) (behind now : Seek) → head ≤ length texts → (head ≡ 0 → ⊥) → seek_here texts u slot head behind ≡ seeks.Free f → (behind ≡ seeks.Free f → now ≡ seeks.At (length texts)) → seek_here (texts ++ u ∷ []) u slot head now ≡ seeks.At (length texts)
there_behind texts u slot zero f behind now h some e so = absurd (some refl)
there_behind texts u slot (suc p) f behind now h some e so =
    (λ i. cond (same u (get_or-append texts (u ∷ []) [] p (omega arith) i)) (seeks.At p) now) ∙ by (same u (get_or texts p [])) e
  where
    by : (b : Bool) → cond b (seeks.At p) behind ≡ seeks.Free f → cond b (seeks.At p) now ≡ seeks.At (length texts)
    by true g = absurd cc
    by false g = so g

there_from : (texts : List (List ℕ)) (slots u : List ℕ) (f slot more : ℕ) → Within texts slots → slot < length slots → seek_from texts slots u slot more ≡ seeks.Free f → seek_from (texts ++ u ∷ []) (slice_set slots f (length texts + 1)) u slot more ≡ seeks.At (length texts)
there_from texts slots u f slot zero within h e = absurd cc
there_from texts slots u f slot (suc more) within h e =
    let v : ℕ = length texts + 1 in
    let slots2 : List ℕ = slice_set slots f v in
    let now : Seek = seek_from (texts ++ u ∷ []) slots2 u (next_slot (length slots) slot) more in
    let behind : Seek = seek_from texts slots u (next_slot (length slots) slot) more in
    let in_range : f < length slots = (free_from texts slots u slot (suc more) f h e).1 in
    let begin : seek_from (texts ++ u ∷ []) slots2 u slot (suc more) ≡ seek_here (texts ++ u ∷ []) u slot (slice_index slots2 slot) now = (λ i. seek_here (texts ++ u ∷ []) u slot (slice_index slots2 slot) (seek_from (texts ++ u ∷ []) slots2 u (next_slot (length-set slots f v i) slot) more)) in
    begin ∙ elim (cases_eq slot f) [
      | inl one ↦
          let taken : slice_index slots2 slot ≡ suc (length texts) = ap (slice_index slots2) one ∙ get_or-set_same slots f v 0 in_range ∙ omega arith in
          ap (λ (n : ℕ). seek_here (texts ++ u ∷ []) u slot n now) taken ∙ there_here texts u slot now
      | inr other ↦
          let some : slice_index slots slot ≡ 0 → ⊥ = λ z. other (one_slot slot f (sym (ap (λ (n : ℕ). seek_here texts u slot n behind) z) ∙ e)) in
          ap (λ (n : ℕ). seek_here (texts ++ u ∷ []) u slot n now) (get_or-set_other slots f slot v 0 other)
          ∙ there_behind texts u slot (slice_index slots slot) f behind now (within slot) some e (λ g. there_from texts slots u f (next_slot (length slots) slot) more within (next_within (length slots) slot (omega arith)) g)
    ]

-- ---- the places of all texts

module _ (texts : List (List ℕ)) (slots : List ℕ) (u : List ℕ) where
  seek_kept : (f v : ℕ) (t : List ℕ) → Within texts slots → slice_index slots f ≡ 0 → NotFree (seek texts slots t) → seek (texts ++ u ∷ []) (slice_set slots f v) t ≡ seek texts slots t
  unfolding seek
  seek_kept f v t within free never =
      (λ i. seek_from (texts ++ u ∷ []) (slice_set slots f v) t (text_hash t % length-set slots f v i) 8)
      ∙ kept_from texts slots t u f v (text_hash t % length slots) 8 within free never

  pub seek_free : (f : ℕ) (t : List ℕ) → 0 < length slots → seek texts slots t ≡ seeks.Free f → (slice_index slots f ≡ 0) × (f < length slots)
  unfolding seek
  seek_free f t h e = free_from texts slots t (text_hash t % length slots) 8 f (omega arith) e

  seek_there : (f : ℕ) → Within texts slots → 0 < length slots → seek texts slots u ≡ seeks.Free f → seek (texts ++ u ∷ []) (slice_set slots f (length texts + 1)) u ≡ seeks.At (length texts)
  unfolding seek
  seek_there f within h e =
      (λ i. seek_from (texts ++ u ∷ []) (slice_set slots f (length texts + 1)) u (text_hash u % length-set slots f (length texts + 1) i) 8)
      ∙ there_from texts slots u f (text_hash u % length slots) 8 within (omega arith) e

  seek_more : (t : List ℕ) → Within texts slots → seek (texts ++ u ∷ []) slots t ≡ seek texts slots t
  unfolding seek
  seek_more t within = more_from texts slots t u (text_hash t % length slots) 8 within

seek_none : (texts : List (List ℕ)) (slots t : List ℕ) → Within texts slots → place_of texts t ≡ None → placed_at (seek texts slots t) None ≡ None
unfolding seek
seek_none texts slots t within none = none_from texts slots t (text_hash t % length slots) 8 within none

one_of : (o : Ordering) → is_eq o ≡ true → o ≡ Equal
one_of Less e = absurd (false≢true e)
one_of Equal e = refl
one_of Greater e = absurd (false≢true e)

-- the map has of a text what it had, once another is put in
other_still : (u t : List ℕ) (v : ℕ) (was : Option ℕ) → same t u ≡ false → cond (is_eq (text_cmp u t)) (Some v) was ≡ was
other_still u t v was apart = by (is_eq (text_cmp u t)) refl
  where
    by : (b : Bool) → is_eq (text_cmp u t) ≡ b → cond b (Some v) was ≡ was
    by true e = absurd (false≢true (sym apart ∙ subst (λ (z : List ℕ). same t z ≡ true) (sym (text_apart u t (one_of (text_cmp u t) e))) (itself t)))
    by false e = refl

itself_still : (u : List ℕ) (v : ℕ) (was : Option ℕ) → cond (is_eq (text_cmp u u)) (Some v) was ≡ Some v
itself_still u v was = ap (λ (o : Ordering). cond (is_eq o) (Some v) was) (same_ties text_total u u refl)

clash : (o : Option ℕ) (place : ℕ) → o ≡ None → o ≡ Some place → ⊥
clash o place a b = cc

-- a text without a place is not in the map
not_other : (texts : List (List ℕ)) (t : List ℕ) (o : Option ℕ) → ((place : ℕ) → o ≡ Some place → place_of texts t ≡ Some place) → place_of texts t ≡ None → o ≡ None
not_other texts t None so none = refl
not_other texts t (Some place) so none = absurd (clash (place_of texts t) place none (so place refl))

found_so : (s : Seek) (o : Option ℕ) (place : ℕ) → placed_at s o ≡ Some place → NotFree s
found_so s o place e f is = cc

-- a text that is one of two is the last, or is not
by_last : (t u : List ℕ) (P : List ℕ → Type 0) → P u → (same t u ≡ false → P t) → P t
by_last t u P last other = by (same t u) refl
  where
    by : (b : Bool) → same t u ≡ b → P t
    by true e = subst P (sym (exact_texts t u e)) last
    by false e = other e

module _ (texts : List (List ℕ)) (p q : Index) (u : List ℕ) (is : IsIndexOf texts p) (none : place_of texts u ≡ None) where
  module _ (f : ℕ) (free : seek texts p.slots.items u ≡ seeks.Free f) (slots : q.slots.items ≡ slice_set p.slots.items f (length texts + 1)) (others : q.others ≡ p.others) where
    at : (slice_index p.slots.items f ≡ 0) × (f < length p.slots.items)
    at = seek_free texts p.slots.items u f u is.some free

    free_within : Within (texts ++ u ∷ []) q.slots.items
    free_within slot =
        let longer : length (texts ++ u ∷ []) ≡ length texts + 1 = length-append texts (u ∷ []) in
        let here : slice_index q.slots.items slot ≡ slice_index (slice_set p.slots.items f (length texts + 1)) slot = ap (λ (l : List ℕ). slice_index l slot) slots in
        elim (cases_eq slot f) [
          | inl one ↦ let set = ap (slice_index (slice_set p.slots.items f (length texts + 1))) one ∙ get_or-set_same p.slots.items f (length texts + 1) 0 at.1 in omega (arith, here, set, longer)
          | inr other ↦ let kept = get_or-set_other p.slots.items f slot (length texts + 1) 0 other in omega (arith, here, kept, longer, is.within slot)
        ]

    Found : List ℕ → Type 0
    Found t = place_of (texts ++ u ∷ []) t ≡ placed_at (seek (texts ++ u ∷ []) q.slots.items t) (tree.get text_cmp q.others t)

    found_last : Found u
    unfolding Found
    found_last =
        place_of_last texts u none
        ∙ sym (ap (λ (l : List ℕ). placed_at (seek (texts ++ u ∷ []) l u) (tree.get text_cmp q.others u)) slots ∙ ap (λ (s : Seek). placed_at s (tree.get text_cmp q.others u)) (seek_there texts p.slots.items u f is.within is.some free))

    found_each : (t : List ℕ) (o : Option ℕ) → place_of texts t ≡ o → Found t
    unfolding Found
    found_each t (Some place) e =
        let never : NotFree (seek texts p.slots.items t) = found_so (seek texts p.slots.items t) (tree.get text_cmp p.others t) place (sym (is.found t) ∙ e) in
        place_stays texts t u place e ∙ sym e ∙ is.found t
        ∙ (λ i. placed_at (sym (seek_kept texts p.slots.items u f (length texts + 1) t is.within at.0 never) i) (tree.get text_cmp (sym others i) t))
        ∙ ap (λ (l : List ℕ). placed_at (seek (texts ++ u ∷ []) l t) (tree.get text_cmp q.others t)) (sym slots)
    found_each t None e =
        by_last t u Found found_last (λ apart.
        let still = no_place_still texts t u e apart in
        let out : tree.get text_cmp q.others t ≡ None = ap (λ m. tree.get text_cmp m t) others ∙ not_other texts t (tree.get text_cmp p.others t) (is.others t) e in
        still ∙ sym (ap (placed_at (seek (texts ++ u ∷ []) q.slots.items t)) out ∙ seek_none (texts ++ u ∷ []) q.slots.items t free_within still))

    pub at_free : IsIndexOf (texts ++ u ∷ []) q
    unfolding Found
    at_free = record {
      some = omega (arith, ap (λ (l : List ℕ). length l) slots, length-set p.slots.items f (length texts + 1), is.some);
      within = free_within;
      others = λ t place e. place_stays texts t u place (is.others t place (sym (ap (λ m. tree.get text_cmp m t) others) ∙ e));
      found = λ t. found_each t (place_of texts t) refl;
    }

  module _ (out : seek texts p.slots.items u ≡ seeks.Nowhere) (slots : q.slots.items ≡ p.slots.items) (puts : (t : List ℕ) → tree.get text_cmp q.others t ≡ cond (is_eq (text_cmp u t)) (Some (length texts)) (tree.get text_cmp p.others t)) where
    Placed : List ℕ → Type 0
    Placed t = place_of (texts ++ u ∷ []) t ≡ placed_at (seek (texts ++ u ∷ []) q.slots.items t) (tree.get text_cmp q.others t)

    seek_still : (t : List ℕ) → seek (texts ++ u ∷ []) q.slots.items t ≡ seek texts p.slots.items t
    seek_still t = ap (λ (l : List ℕ). seek (texts ++ u ∷ []) l t) slots ∙ seek_more texts p.slots.items u t is.within

    placed_last : Placed u
    unfolding Placed
    placed_last =
        place_of_last texts u none
        ∙ sym (ap (λ (s : Seek). placed_at s (tree.get text_cmp q.others u)) (seek_still u ∙ out) ∙ puts u ∙ itself_still u (length texts) (tree.get text_cmp p.others u))

    stays_other : (t : List ℕ) → same t u ≡ false → tree.get text_cmp q.others t ≡ tree.get text_cmp p.others t
    stays_other t apart = puts t ∙ other_still u t (length texts) (tree.get text_cmp p.others t) apart

    placed_apart : (t : List ℕ) → same t u ≡ false → place_of (texts ++ u ∷ []) t ≡ place_of texts t → Placed t
    unfolding Placed
    placed_apart t apart same_place = same_place ∙ is.found t ∙ (λ i. placed_at (sym (seek_still t) i) (sym (stays_other t apart) i))

    placed_each : (t : List ℕ) (o : Option ℕ) → place_of texts t ≡ o → same t u ≡ false → place_of (texts ++ u ∷ []) t ≡ place_of texts t
    placed_each t (Some place) e apart = place_stays texts t u place e ∙ sym e
    placed_each t None e apart = no_place_still texts t u e apart ∙ sym e

    HasPlace : List ℕ → Type 0
    HasPlace t = (place : ℕ) → tree.get text_cmp q.others t ≡ Some place → place_of (texts ++ u ∷ []) t ≡ Some place

    place_last : HasPlace u
    unfolding HasPlace
    place_last place e = place_of_last texts u none ∙ sym (puts u ∙ itself_still u (length texts) (tree.get text_cmp p.others u)) ∙ e

    place_apart : (t : List ℕ) → same t u ≡ false → HasPlace t
    unfolding HasPlace
    place_apart t apart place e = place_stays texts t u place (is.others t place (sym (stays_other t apart) ∙ e))

    pub at_others : IsIndexOf (texts ++ u ∷ []) q
    unfolding Placed HasPlace
    at_others = record {
      some = omega (arith, ap (λ (l : List ℕ). length l) slots, is.some);
      within = λ slot. omega (arith, ap (λ (l : List ℕ). slice_index l slot) slots, is.within slot, length-append texts (u ∷ []));
      others = λ t. by_last t u HasPlace place_last (place_apart t);
      found = λ t. by_last t u Placed placed_last (λ apart. placed_apart t apart (placed_each t (place_of texts t) refl apart));
    }

-- a text that has a place comes again: nothing is noted
module _ (texts : List (List ℕ)) (p : Index) (u : List ℕ) (place : ℕ) (is : IsIndexOf texts p) (has : place_of texts u ≡ Some place) where
  place_again : (t : List ℕ) (o : Option ℕ) → place_of texts t ≡ o → place_of (texts ++ u ∷ []) t ≡ place_of texts t
  place_again t (Some n) e = place_stays texts t u n e ∙ sym e
  place_again t None e = no_place_still texts t u e (apart (same t u) refl) ∙ sym e
    where
      apart : (b : Bool) → same t u ≡ b → b ≡ false
      apart true h = absurd (clash (place_of texts t) place e (ap (place_of texts) (exact_texts t u h) ∙ has))
      apart false h = refl

  pub again : IsIndexOf (texts ++ u ∷ []) p
  again = record {
    some = is.some;
    within = λ slot. omega (arith, is.within slot, length-append texts (u ∷ []));
    others = λ t n e. place_stays texts t u n (is.others t n e);
    found = λ t. place_again t (place_of texts t) refl ∙ is.found t ∙ ap (λ (s : Seek). placed_at s (tree.get text_cmp p.others t)) (sym (seek_more texts p.slots.items u t is.within));
  }

zeros : (n i : ℕ) → get_or {A = ℕ} (replicate n 0) i 0 ≡ 0
zeros zero i = refl
zeros (suc n) zero = refl
zeros (suc n) (suc i) = zeros n i

-- the index of no texts
pub no_texts : (p : Index) (count : ℕ) → 0 < count → p.slots.items ≡ replicate count 0 → ((t : List ℕ) → tree.get text_cmp p.others t ≡ None) → IsIndexOf [] p
no_texts p count some is out = record {
  some = omega (arith, ap (λ (l : List ℕ). length l) is, length-replicate {A = ℕ} count 0, some);
  within = λ slot. omega (arith, free slot);
  others = λ t n e. absurd (clash (tree.get text_cmp p.others t) n (out t) e);
  found = λ t. none_of t ∙ sym (ap (placed_at (seek [] p.slots.items t)) (out t) ∙ seek_none [] p.slots.items t (λ slot. omega (arith, free slot)) (none_of t));
}
  where
    free : (slot : ℕ) → slice_index p.slots.items slot ≡ 0
    free slot = ap (λ (l : List ℕ). slice_index l slot) is ∙ zeros count slot

    none_of : (t : List ℕ) → place_of [] t ≡ None
    none_of t = place_is [] t

-- a text without a place is at no slot
pub never_at : (texts : List (List ℕ)) (p : Index) (u : List ℕ) (place : ℕ) → IsIndexOf texts p → place_of texts u ≡ None → seek texts p.slots.items u ≡ seeks.At place → ⊥
never_at texts p u place is none e = clash (place_of texts u) place none (is.found u ∙ ap (λ (s : Seek). placed_at s (tree.get text_cmp p.others u)) e)

-- ---- what is found, slot by slot

pub seek_step : (texts : List (List ℕ)) (slots t : List ℕ) (slot more : ℕ) → more ≢ 0 → seek_from texts slots t slot more ≡ seek_here texts t slot (slice_index slots slot) (seek_from texts slots t (next_slot (length slots) slot) (more - 1))
seek_step texts slots t slot zero h = absurd (h refl)
seek_step texts slots t slot (suc m) h = ap (λ (n : ℕ). seek_here texts t slot (slice_index slots slot) (seek_from texts slots t (next_slot (length slots) slot) n)) (omega arith)

pub step_at : (texts : List (List ℕ)) (t : List ℕ) (slot head : ℕ) (behind : Seek) (b : Bool) → head ≢ 0 → same t (get_or texts (head - 1) []) ≡ b → seek_here texts t slot head behind ≡ cond b (seeks.At (head - 1)) behind
step_at texts t slot zero behind b h e = absurd (h refl)
step_at texts t slot (suc p) behind b h e =
    let at : p ≡ suc p - 1 = omega arith in
    (λ i. cond (same t (get_or texts (at i) [])) (seeks.At (at i)) behind) ∙ ap (λ (c : Bool). cond c (seeks.At (suc p - 1)) behind) e

pub again_some : (texts : List (List ℕ)) (p : Index) (u : List ℕ) (o : Option ℕ) → IsIndexOf texts p → o ≡ place_of texts u → is_some o ≡ true → IsIndexOf (texts ++ u ∷ []) p
again_some texts p u None is e some = absurd (false≢true some)
again_some texts p u (Some place) is e some = again texts p u place is (sym e)
