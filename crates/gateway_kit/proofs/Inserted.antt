-- Values put in at places, one after the other: what they make, and what stands where.
use Rattle.std.proofs.Common.{◌≡◌, ◌<◌, ◌≤◌, ◌+◌, ◌-◌, ◌^◌, min, ℕ, zero, suc, List, [], ◌∷◌, ◌++◌, map, length, get_or, inl, inr, refl, sym, ap, subst, ◌∙◌, arith}
use Rattle.std.proofs.lemmas.List.{get_or-map, length-append, length-map}
use Rattle.std.proofs.Math.ListN.{get_or-append}
use Rattle.std.proofs.Math.Seq.{get_or-append_seam}
use mathlib.Core.List.{map-map}
use Rattle.std.specs.Prelude.{T, ⊤}
use Rattle.std.specs.List.{insert, remove, sum_by}
use Rattle.std.proofs.lemmas.List.Sums.{sum_by-append, sum_by-insert}
use Rattle.std.specs.Cmp.{IsTotalOrder}
use Rattle.std.specs.FinMap.Entries.{by_order, is_sorted, below_all}
use Rattle.std.specs.declared.cmp.Ordering.{Ordering}
use Rattle.std.specs.declared.cmp.Ordering.TheVariants.{Less, Equal, Greater}
use Rattle.gateway_kit.specs.Amending.{with_change, with_changes}
use Rattle.gateway_kit.specs.Inserting.{AllPart, AreSpread, Parts, inserted, moved_by, moved_to, moving, taken_out}
use Rattle.gateway_kit.specs.Weave.{weave}
use Rattle.gateway_kit.proofs.Ahead.{weave-nil}
use Rattle.gateway_kit.proofs.Covered.{split}
use Rattle.gateway_kit.proofs.Entries.{first, less, second}
use Rattle.gateway_kit.proofs.Growing.{map-insert}

-- ---- lists

remove_insert : {A : Type 0} (xs : List A) (i : ℕ) (x : A) → i ≤ length xs → remove (insert xs i x) i ≡ xs
remove_insert [] zero x h = refl
remove_insert [] (suc i) x h = absurd (omega (arith, h))
remove_insert (y ∷ xs) zero x h = refl
remove_insert (y ∷ xs) (suc i) x h = ap (λ l. y ∷ l) (remove_insert xs i x (omega (arith, h)))

pub remove_past : {A : Type 0} (xs : List A) (i : ℕ) → length xs ≤ i → remove xs i ≡ xs
remove_past [] zero h = refl
remove_past [] (suc i) h = refl
remove_past (y ∷ xs) zero h = absurd (omega (arith, h))
remove_past (y ∷ xs) (suc i) h = ap (λ l. y ∷ l) (remove_past xs i (omega (arith, h)))

pub taken_push : {A : Type 0} (xs : List A) (ps : List ℕ) (p : ℕ) → taken_out xs (ps ++ p ∷ []) ≡ taken_out (remove xs p) ps
taken_push xs [] p = refl
taken_push xs (q ∷ ps) p = ap (λ l. remove l q) (taken_push xs ps p)

pub inserted_push : {A : Type 0} (xs : List A) (ps : List ℕ) (ys : List A) (p : ℕ) (y : A) → length ps ≡ length ys → inserted xs (ps ++ p ∷ []) (ys ++ y ∷ []) ≡ insert (inserted xs ps ys) p y
inserted_push xs [] [] p y h = refl
inserted_push xs [] (z ∷ ys) p y h = absurd (omega (arith, h))
inserted_push xs (q ∷ ps) [] p y h = absurd (omega (arith, h))
inserted_push xs (q ∷ ps) (z ∷ ys) p y h = inserted_push (insert xs q z) ps ys p y (omega (arith, h))

pub map_inserted : {A B : Type 0} (f : A → B) (xs : List A) (ps : List ℕ) (ys : List A) → map f (inserted xs ps ys) ≡ inserted (map f xs) ps (map f ys)
map_inserted f xs [] ys = refl
map_inserted f xs (p ∷ ps) [] = refl
map_inserted f xs (p ∷ ps) (y ∷ ys) = map_inserted f (insert xs p y) ps ys ∙ ap (λ l. inserted l ps (map f ys)) (map-insert f xs p y)

pub sum_inserted : {A : Type 0} (f : A → ℕ) (xs : List A) (ps : List ℕ) (ys : List A) → length ps ≡ length ys → sum_by f (inserted xs ps ys) ≡ sum_by f xs + sum_by f ys
sum_inserted f xs [] [] h = omega arith
sum_inserted f xs [] (z ∷ ys) h = absurd (omega (arith, h))
sum_inserted f xs (q ∷ ps) [] h = absurd (omega (arith, h))
sum_inserted f xs (q ∷ ps) (z ∷ ys) h =
    let rest = sum_inserted f (insert xs q z) ps ys (omega (arith, h)) in
    let one = sum_by-insert f xs q z in
    let both : sum_by f (z ∷ ys) ≡ sum_by f (z ∷ []) + sum_by f ys = sum_by-append f (z ∷ []) ys in
    let first : sum_by f (z ∷ []) ≡ 0 + f z = refl in
    omega (arith, rest, one, both, first)

-- ---- places that part keys

module _ {K : Type 0} (R : K → K → Ordering) where
  parts_behind : (k : K) (ks : List K) (i : ℕ) (q : K) → Parts R (k ∷ ks) (suc i) q → Parts R ks i q
  parts_behind k ks i q h = record {
    within = let w = h.within in omega (arith, w);
    below = λ j d less. h.below (suc j) d (omega (arith, less));
    above = λ j d from less. h.above (suc j) d (omega (arith, from)) (omega (arith, less));
  }

  -- as a search tells
  pub parts_told : {A : Type 0} (key : A → K) (xs : List A) (i : ℕ) (q : K) (e : A) → i ≤ length xs → ((k : ℕ) → k < i → R (key (get_or xs k e)) q ≡ Less) → ((k : ℕ) → i ≤ k → k < length xs → R (key (get_or xs k e)) q ≡ Greater) → Parts R (map key xs) i q
  parts_told key xs i q e within below above =
      let long = length-map xs key in
      record {
        within = omega (arith, within, long);
        below = λ k d less. ap (λ x. R x q) (get_or-map key xs k e d (omega (arith, less, within))) ∙ below k less;
        above = λ k d from less. ap (λ x. R x q) (get_or-map key xs k e d (omega (arith, less, long))) ∙ above k from (omega (arith, less, long));
      }

  pub parts_push : (ks : List K) (ps : List ℕ) (qs : List K) (p : ℕ) (q : K) → AllPart R ks ps qs → Parts R (inserted ks ps qs) p q → AllPart R ks (ps ++ p ∷ []) (qs ++ q ∷ [])
  parts_push ks [] [] p q all h = (h, tt)
  parts_push ks [] (r ∷ qs) p q all h = absurd all
  parts_push ks (o ∷ ps) [] p q all h = absurd all
  parts_push ks (o ∷ ps) (r ∷ qs) p q all h = (all.0, parts_push (insert ks o r) ps qs p q all.1 h)

  pub parts_long : (ks : List K) (ps : List ℕ) (qs : List K) → AllPart R ks ps qs → length ps ≡ length qs
  parts_long ks [] [] all = refl
  parts_long ks [] (r ∷ qs) all = absurd all
  parts_long ks (o ∷ ps) [] all = absurd all
  parts_long ks (o ∷ ps) (r ∷ qs) all = let rest = parts_long (insert ks o r) ps qs all.1 in omega (arith, rest)

  -- ---- they are woven in

  module _ (total : IsTotalOrder R) {A V : Type 0} (f : A → K × V) where
    abbrev key : A → K
    key x = (f x).0

    abbrev S : A → A → Ordering
    S x y = R (key x) (key y)

    -- the first of a list is above a value
    abbrev IsAbove : A → List A → Type 0
    IsAbove y [] = ⊤
    IsAbove y (g ∷ gs) = R (key y) (key g) ≡ Less

    one_woven : (xs : List A) (i : ℕ) (y : A) → Parts R (map key xs) i (key y) → insert xs i y ≡ weave S xs (y ∷ [])
    one_woven [] zero y h = refl
    one_woven [] (suc i) y h = absurd (let w = h.within in omega (arith, w))
    one_woven (x ∷ xs) zero y h = ap (λ r. by_order r (x ∷ weave S xs (y ∷ [])) (x ∷ weave S xs []) (y ∷ x ∷ xs)) (sym (h.above 0 (key x) (omega arith) (omega arith)))
    one_woven (x ∷ xs) (suc i) y h =
        ap (λ l. x ∷ l) (one_woven xs i y (parts_behind (key x) (map key xs) i (key y) h))
        ∙ ap (λ r. by_order r (x ∷ weave S xs (y ∷ [])) (x ∷ weave S xs []) (y ∷ x ∷ xs)) (sym (h.below 0 (key x) (omega arith)))

    then_woven : (xs : List A) (y : A) (ys : List A) → IsAbove y ys → weave S (weave S xs (y ∷ [])) ys ≡ weave S xs (y ∷ ys)
    then_woven xs y [] h = weave-nil S (weave S xs (y ∷ []))
    then_woven [] y (g ∷ gs) h = ap (λ r. by_order r (y ∷ weave S [] (g ∷ gs)) (y ∷ weave S [] gs) (g ∷ weave S (y ∷ []) gs)) h
    then_woven (x ∷ xs) y (g ∷ gs) h = elim (R (key x) (key y)) as (λ r. R (key x) (key y) ≡ r → weave S (by_order r (x ∷ weave S xs (y ∷ [])) (x ∷ weave S xs []) (y ∷ x ∷ xs)) (g ∷ gs) ≡ by_order r (x ∷ weave S xs (y ∷ g ∷ gs)) (x ∷ weave S xs (g ∷ gs)) (y ∷ weave S (x ∷ xs) (g ∷ gs))) [
      | Less ↦ λ e.
          ap (λ r. by_order r (x ∷ weave S (weave S xs (y ∷ [])) (g ∷ gs)) (x ∷ weave S (weave S xs (y ∷ [])) gs) (g ∷ weave S (x ∷ weave S xs (y ∷ [])) gs)) (total.trans (key x) (key y) (key g) e h)
          ∙ ap (λ l. x ∷ l) (then_woven xs y (g ∷ gs) h)
      | Equal ↦ λ e.
          ap (λ (l : List A). weave S (x ∷ l) (g ∷ gs)) (weave-nil S xs)
          ∙ ap (λ r. by_order r (x ∷ weave S xs (g ∷ gs)) (x ∷ weave S xs gs) (g ∷ weave S (x ∷ xs) gs)) (total.congr (key x) (key y) (key g) e ∙ h)
      | Greater ↦ λ e. ap (λ r. by_order r (y ∷ weave S (x ∷ xs) (g ∷ gs)) (y ∷ weave S (x ∷ xs) gs) (g ∷ weave S (y ∷ x ∷ xs) gs)) h
    ] refl

    above_first : (y : A) (ys : List A) → T (below_all R (f y).0 (map f ys)) → IsAbove y ys
    above_first y [] h = tt
    above_first y (g ∷ gs) h = less _ (first _ _ h)

    pub all_woven : (xs : List A) (ps : List ℕ) (ys : List A) → T (is_sorted R (map f ys)) → AllPart R (map (λ x. (f x).0) xs) ps (map (λ x. (f x).0) ys) → inserted xs ps ys ≡ weave (λ x y. R (f x).0 (f y).0) xs ys
    all_woven xs [] [] s all = sym (weave-nil S xs)
    all_woven xs [] (y ∷ ys) s all = absurd all
    all_woven xs (p ∷ ps) [] s all = absurd all
    all_woven xs (p ∷ ps) (y ∷ ys) s all =
        all_woven (insert xs p y) ps ys (second _ _ s) (subst (λ (ks : List K). AllPart R ks ps (map (λ x. (f x).0) ys)) (sym (map-insert (λ x. (f x).0) xs p y)) all.1)
        ∙ ap (λ (l : List A). weave S l ys) (one_woven xs p y all.0)
        ∙ then_woven xs y ys (above_first y ys (first _ _ s))

-- ---- taken out again, they leave what was there

pub taken_inserted : {A K : Type 0} (R : K → K → Ordering) (key : A → K) (xs : List A) (ps : List ℕ) (ys : List A) → AllPart R (map key xs) ps (map key ys) → taken_out (inserted xs ps ys) ps ≡ xs
taken_inserted R key xs [] ys all = refl
taken_inserted R key xs (p ∷ ps) [] all = absurd all
taken_inserted R key xs (p ∷ ps) (y ∷ ys) all =
    let long = length-map xs key in
    let within = all.0.within in
    ap (λ l. remove l p) (taken_inserted R key (insert xs p y) ps ys (subst (λ (ks : List _). AllPart R ks ps (map key ys)) (sym (map-insert key xs p y)) all.1))
    ∙ remove_insert xs p y (omega (arith, long, within))

-- ---- changes at places

module _ {K V C : Type 0} (made : V → C → V) where
  length_change : (es : List (K × V)) (i : ℕ) (c : C) → length (with_change made es i c) ≡ length es
  length_change [] i c = refl
  length_change (e ∷ es) zero c = refl
  length_change (e ∷ es) (suc i) c = ap suc (length_change es i c)

  change_moved : (es : List (K × V)) (p : ℕ) (e : K × V) (i : ℕ) (c : C) → p ≤ length es → with_change made (insert es p e) (moved_by p i) c ≡ insert (with_change made es i c) p e
  change_moved [] zero e i c h = refl
  change_moved [] (suc p) e i c h = absurd (omega (arith, h))
  change_moved (x ∷ es) zero e zero c h = refl
  change_moved (x ∷ es) zero e (suc i) c h = refl
  change_moved (x ∷ es) (suc p) e zero c h = refl
  change_moved (x ∷ es) (suc p) e (suc i) c h = ap (λ l. x ∷ l) (change_moved es p e i c (omega (arith, h)))

  -- a place that 64 bits hold does as well as one that they do not
  pub change_capped : (es : List (K × V)) (i : ℕ) (c : C) → length es < 2 ^ 64 → with_change made es (min i (2 ^ 64 - 1)) c ≡ with_change made es i c
  change_capped es i c h = elim (split i (2 ^ 64)) [
    | inl less ↦ let same : min i (2 ^ 64 - 1) ≡ i = omega (arith, less) in ap (λ (k : ℕ). with_change made es k c) same
    | inr far ↦ sym (past es (min i (2 ^ 64 - 1)) c (omega (arith, h, far))) ∙ past es i c (omega (arith, h, far))
  ]
    where
      past : (es : List (K × V)) (i : ℕ) (c : C) → length es ≤ i → es ≡ with_change made es i c
      past [] i c h = refl
      past (e ∷ es) zero c h = absurd (omega (arith, h))
      past (e ∷ es) (suc i) c h = ap (λ l. e ∷ l) (past es i c (omega (arith, h)))

  changes_moved : (es : List (K × V)) (p : ℕ) (e : K × V) (us : List (ℕ × C)) → p ≤ length es → with_changes made (insert es p e) (map (moving (moved_by p)) us) ≡ insert (with_changes made es us) p e
  changes_moved es p e [] h = refl
  changes_moved es p e (u ∷ us) h =
      let same = length_change es u.0 u.1 in
      ap (λ l. with_changes made l (map (moving (moved_by p)) us)) (change_moved es p e u.0 u.1 h)
      ∙ changes_moved (with_change made es u.0 u.1) p e us (omega (arith, h, same))

  pub all_changes_moved : (R : K → K → Ordering) (es : List (K × V)) (ps : List ℕ) (fs : List (K × V)) (us : List (ℕ × C)) → AllPart R (map (λ e. e.0) es) ps (map (λ e. e.0) fs) → with_changes made (inserted es ps fs) (map (moving (moved_to ps)) us) ≡ inserted (with_changes made es us) ps fs
  all_changes_moved R es [] [] us all = ap (with_changes made es) (same_changes us)
    where
      same_changes : (us : List (ℕ × C)) → map (moving (moved_to [])) us ≡ us
      same_changes [] = refl
      same_changes (u ∷ us) = ap (λ l. u ∷ l) (same_changes us)
  all_changes_moved R es [] (f ∷ fs) us all = absurd all
  all_changes_moved R es (p ∷ ps) [] us all = absurd all
  all_changes_moved R es (p ∷ ps) (f ∷ fs) us all =
      let long = length-map es (λ e. e.0) in
      let within = all.0.within in
      ap (with_changes made (inserted (insert es p f) ps fs)) (sym (map-map (moving (moved_to ps)) (moving (moved_by p)) us))
      ∙ all_changes_moved R (insert es p f) ps fs (map (moving (moved_by p)) us) (subst (λ (ks : List K). AllPart R ks ps (map (λ e. e.0) fs)) (sym (map-insert (λ e. e.0) es p f)) all.1)
      ∙ ap (λ l. inserted l ps fs) (changes_moved es p f us (omega (arith, long, within)))

-- ---- where a place is then

moved_up : (p i : ℕ) → p ≤ i → moved_by p i ≡ i + 1
moved_up zero i h = omega arith
moved_up (suc p) zero h = absurd (omega (arith, h))
moved_up (suc p) (suc i) h = let rest = moved_up p i (omega (arith, h)) in omega (arith, rest)

not_moved : (p i : ℕ) → i < p → moved_by p i ≡ i
not_moved zero i h = absurd (omega (arith, h))
not_moved (suc p) zero h = refl
not_moved (suc p) (suc i) h = ap suc (not_moved p i (omega (arith, h)))

-- by how many come before it
pub moved_count : (ps : List ℕ) (place n : ℕ) → n ≤ length ps → ((k : ℕ) → k < n → get_or ps k 0 ≤ place + k) → ((k : ℕ) → n ≤ k → k < length ps → place + n < get_or ps k 0) → moved_to ps place ≡ place + n
moved_count [] place zero h low high = omega arith
moved_count [] place (suc n) h low high = absurd (omega (arith, h))
moved_count (p ∷ ps) place zero h low high =
    let far = high 0 (omega arith) (omega arith) in
    ap (moved_to ps) (not_moved p place (omega (arith, far)))
    ∙ moved_count ps place 0 (omega arith) (λ k less. absurd (omega (arith, less))) (λ k from less. high (suc k) (omega arith) (omega (arith, less)))
moved_count (p ∷ ps) place (suc n) h low high =
    let near = low 0 (omega arith) in
    let more : place + 1 + n ≡ place + suc n = omega arith in
    ap (moved_to ps) (moved_up p place (omega (arith, near)))
    ∙ moved_count ps (place + 1) n (omega (arith, h)) (λ k less. let one = low (suc k) (omega (arith, less)) in omega (arith, one)) (λ k from less. let one = high (suc k) (omega (arith, from)) (omega (arith, less)) in omega (arith, one))
    ∙ more

-- a place behind another
pub spread_at : (ps : List ℕ) (j k : ℕ) → AreSpread ps → j ≤ k → k < length ps → get_or ps j 0 + (k - j) ≤ get_or ps k 0
spread_at ps j k spread h within =
    let e : j + (k - j) ≡ k = omega (arith, h) in
    subst (λ (i : ℕ). get_or ps j 0 + (k - j) ≤ get_or ps i 0) e (spread j (k - j) (omega (arith, h, within)))

-- one place more, behind the last
pub spread_push : (ps : List ℕ) (p : ℕ) → AreSpread ps → ((i : ℕ) → suc i ≡ length ps → get_or ps i 0 < p) → AreSpread (ps ++ p ∷ [])
spread_push ps p spread far j zero h =
    let same : j + 0 ≡ j = omega arith in
    let one = ap (λ k. get_or (ps ++ p ∷ []) k 0) same in
    omega (arith, one)
spread_push ps p spread far j (suc n) h =
    let long = length-append ps (p ∷ []) in
    let here = get_or-append ps (p ∷ []) 0 j (omega (arith, h, long)) in
    elim (split (j + suc n) (length ps)) [
      | inl inside ↦
          let there = get_or-append ps (p ∷ []) 0 (j + suc n) inside in
          let apart = spread j (suc n) inside in
          omega (arith, here, there, apart)
      | inr end ↦
          let e : j + suc n ≡ length ps = omega (arith, end, h, long) in
          let there : get_or (ps ++ p ∷ []) (j + suc n) 0 ≡ p = ap (λ k. get_or (ps ++ p ∷ []) k 0) e ∙ get_or-append_seam ps p [] 0 in
          let apart = spread j n (omega (arith, e)) in
          let last = far (j + n) (omega (arith, e)) in
          omega (arith, here, there, apart, last)
    ]
