-- The place of the group of a window.
use Rattle.std.proofs.Common.{◌≡◌, ℕ, zero, suc, ◌<◌, Bool, true, false, cond, List, [], ◌∷◌, ◌++◌, length, fold, get_or, slice_set, Option, Some, None, refl, sym, ap, ◌∙◌, arith}
use Rattle.std.specs.Prelude.{◌==◌, ◌&&◌}
use Rattle.std.specs.Option.{option_map, option_or}
use Rattle.std.proofs.lemmas.Bool.Decides.{nat_tests}
use Rattle.std.proofs.lemmas.Cmp.{eq_by_cmp_equiv}
use Rattle.std.specs.Cmp.{nat_cmp_total, tied_then, unsigned_tied}
use Rattle.std.specs.Ordering.{is_eq, nat_cmp, ordering_then}
use Rattle.attr_kit.specs.Exact.{first_holds, second_holds}
use Rattle.otlp_kit.specs.Reading.{is_of, group_of, with_member, add_member}
use Rattle.otlp_kit.specs.declared.group.Group.{Group}
use Rattle.otlp_kit.specs.declared.placed.Placed.{Placed}

abbrev pub has_window : ℕ × ℕ → Group → Bool
has_window w g = (w.0 == g.start) && (w.1 == g.time)

abbrev pub place_of : ℕ × ℕ → List Group → Option ℕ
place_of w [] = None
place_of w (g ∷ gs) = cond (has_window w g) (Some 0) (option_map (λ n. suc n) (place_of w gs))

-- a new group comes last
pub none_is : (p : Placed) (gs : List Group) → place_of (p.start, p.time) gs ≡ None → add_member gs p ≡ gs ++ group_of p ∷ []
none_is p [] e = refl
none_is p (g ∷ gs) e =
    elim (is_of p g) as (λ (b : Bool). cond b (Some 0) (option_map (λ n. suc n) (place_of (p.start, p.time) gs)) ≡ None → cond b (with_member g p ∷ gs) (g ∷ add_member gs p) ≡ g ∷ gs ++ group_of p ∷ []) [
      | true ↦ λ h. cc
      | false ↦ λ h. ap (λ (l : List Group). g ∷ l) (none_is p gs (no_more (place_of (p.start, p.time) gs) h))
    ] e
  where
    no_more : (o : Option ℕ) → option_map (λ n. suc n) o ≡ None → o ≡ None
    no_more None h = refl
    no_more (Some n) h = cc

abbrev pub Joined : Placed → List Group → ℕ → Group → List Group → Type 0
Joined p gs i d made = (i < length gs) × (made ≡ slice_set gs i (with_member (get_or gs i d) p))

later : (p : Placed) (g : Group) (gs : List Group) (d : Group) (o : Option ℕ) (i : ℕ) → ((j : ℕ) → o ≡ Some j → Joined p gs j d (add_member gs p)) → option_map (λ n. suc n) o ≡ Some i → Joined p (g ∷ gs) i d (g ∷ add_member gs p)
later p g gs d None i h e = cc
later p g gs d (Some n) zero h e = absurd (omega (arith, some_of (suc n) zero e))
  where
    some_of : (a b : ℕ) → Some a ≡ Some b → a ≡ b
    some_of a b e = cc
later p g gs d (Some n) (suc j) h e =
    let at : n ≡ j = cc in
    let joins = h j (ap (λ (k : ℕ). Some k) at) in
    (omega (arith, joins.0), ap (λ (l : List Group). g ∷ l) joins.1)

-- an earlier one of the window takes the point
pub some_is : (p : Placed) (gs : List Group) (i : ℕ) (d : Group) → place_of (p.start, p.time) gs ≡ Some i → Joined p gs i d (add_member gs p)
some_is p [] i d e = cc
some_is p (g ∷ gs) i d e =
    elim (is_of p g) as (λ (b : Bool). cond b (Some 0) (option_map (λ n. suc n) (place_of (p.start, p.time) gs)) ≡ Some i → Joined p (g ∷ gs) i d (cond b (with_member g p ∷ gs) (g ∷ add_member gs p))) [
      | true ↦ λ h. here i h
      | false ↦ λ h. later p g gs d (place_of (p.start, p.time) gs) i (λ j at. some_is p gs j d at) h
    ] e
  where
    here : (i : ℕ) → Some 0 ≡ Some i → Joined p (g ∷ gs) i d (with_member g p ∷ gs)
    here zero h = (omega arith, refl)
    here (suc i) h = cc

module _ (w : ℕ × ℕ) where
  -- the place of a window among groups and one more
  pub place_more : (gs : List Group) (g : Group) → place_of w (gs ++ g ∷ []) ≡ option_or (place_of w gs) (cond (has_window w g) (Some (length gs)) None)
  place_more [] g = refl
  place_more (h ∷ gs) g =
      elim (has_window w h) as (λ (b : Bool). cond b (Some 0) (option_map (λ n. suc n) (place_of w (gs ++ g ∷ []))) ≡ option_or (cond b (Some 0) (option_map (λ n. suc n) (place_of w gs))) (cond (has_window w g) (Some (suc (length gs))) None)) [
        | true ↦ refl
        | false ↦ ap (λ (o : Option ℕ). option_map (λ n. suc n) o) (place_more gs g) ∙ over (place_of w gs) (has_window w g)
      ]
    where
      over : (o : Option ℕ) (b : Bool) → option_map (λ n. suc n) (option_or o (cond b (Some (length gs)) None)) ≡ option_or (option_map (λ n. suc n) o) (cond b (Some (suc (length gs))) None)
      over (Some n) b = refl
      over None true = refl
      over None false = refl

  -- a group that takes a point keeps its window
  pub place_same : (gs : List Group) (i : ℕ) (d : Group) (p : Placed) → i < length gs → place_of w (slice_set gs i (with_member (get_or gs i d) p)) ≡ place_of w gs
  place_same [] i d p h = absurd (omega arith)
  place_same (g ∷ gs) zero d p h = refl
  place_same (g ∷ gs) (suc i) d p h = ap (λ (o : Option ℕ). cond (has_window w g) (Some 0) (option_map (λ n. suc n) o)) (place_same gs i d p (omega arith))

flip : (a b : ℕ) → is_eq (nat_cmp a b) ≡ (b == a)
flip a b = (eq_by_cmp_equiv nat_cmp_total).symm a b ∙ unsigned_tied b a

-- windows that tie are equal
tied : (s t : ℕ) (w : ℕ × ℕ) → is_eq (ordering_then (nat_cmp s w.0) (nat_cmp t w.1)) ≡ ((w.0 == s) && (w.1 == t))
tied s t w = sym (tied_then (nat_cmp s w.0) (nat_cmp t w.1)) ∙ (λ i. flip s w.0 i && flip t w.1 i)

equal : (a b : ℕ) → (a == b) ≡ true → a ≡ b
equal a b e = grind (arith, nat_tests)

chosen : (b : Bool) (o : Option ℕ) (n : ℕ) → (b ≡ true → o ≡ None) → cond b (Some n) o ≡ option_or o (cond b (Some n) None)
chosen true o n h = sym (ap (λ (p : Option ℕ). option_or p (Some n)) (h refl))
chosen false None n h = refl
chosen false (Some m) n h = refl

-- a new window has the last place
pub place_added : (w : ℕ × ℕ) (g : Group) (gs : List Group) (was now : Option ℕ) → place_of (g.start, g.time) gs ≡ None → was ≡ place_of w gs → now ≡ cond (is_eq (ordering_then (nat_cmp g.start w.0) (nat_cmp g.time w.1))) (Some (length gs)) was → now ≡ place_of w (gs ++ g ∷ [])
place_added w g gs was now none w_is n_is =
    n_is ∙ (λ i. cond (tied g.start g.time w i) (Some (length gs)) (w_is i))
    ∙ chosen (has_window w g) (place_of w gs) (length gs) (λ h. (λ i. place_of (equal w.0 g.start (first_holds _ _ h) i, equal w.1 g.time (second_holds _ _ h) i) gs) ∙ none)
    ∙ sym (place_more w gs g)

-- one point more
pub fold_push : (gs : List Group) (ps : List Placed) (p : Placed) → fold add_member gs (ps ++ p ∷ []) ≡ add_member (fold add_member gs ps) p
fold_push gs [] p = refl
fold_push gs (q ∷ ps) p = fold_push (add_member gs q) ps p
