-- Values turned in among others, the last one first: what is left to turn in, woven with those in front, and what stands behind stay as a whole.
use Rattle.std.proofs.Common.{◌≡◌, ℕ, zero, suc, ◌+◌, ◌-◌, ◌<◌, ◌≤◌, List, [], ◌∷◌, ◌++◌, length, map, take, drop, get_or, refl, sym, ap, subst, ◌∙◌, append_assoc, length-append, arith}
use Rattle.std.proofs.lemmas.List.{append-nil, drop-drop, drop_at, drop_more, get_or-drop, get_or-take, length-drop, length-take-le, take-append-drop, take-take, take_at}
use Rattle.std.proofs.lemmas.List.Edits.{remove-append_right}
use Rattle.std.proofs.Math.Seq.{get_or-append_seam, take-length}
use Rattle.std.specs.Prelude.{T, ⊤}
use Rattle.std.specs.Cmp.{IsTotalOrder}
use Rattle.std.specs.List.{remove}
use Rattle.std.specs.FinMap.{IsAntisymmetric}
use Rattle.std.specs.FinMap.Entries.{below_all, by_order, is_sorted}
use Rattle.std.specs.declared.cmp.Ordering.{Ordering}
use Rattle.std.specs.declared.cmp.Ordering.TheVariants.{Less, Equal, Greater}
use Rattle.gateway_kit.specs.Turning.{AllBelow, IsTurnedIn}
use Rattle.gateway_kit.specs.Weave.{by_key, weave}
use Rattle.gateway_kit.proofs.Ahead.{weave-nil}
use Rattle.gateway_kit.proofs.Entries.{both, first, second, turned_greater, turned_less}
use Rattle.gateway_kit.proofs.Places.{below_at}

-- ---- lists in parts

module _ {A : Type 0} where
  pub front_is : (l p r : List A) (n : ℕ) → l ≡ p ++ r → length p ≡ n → take n l ≡ p
  front_is l p r n is len = ap (take n) is ∙ take_at p r n len

  pub rest_is : (l p r : List A) (n : ℕ) → l ≡ p ++ r → length p ≡ n → drop n l ≡ r
  rest_is l p r n is len = ap (drop n) is ∙ drop_at p r n len

  -- parts of a list that change places
  pub turned_parts : (us ws ys zs l new : List A) (from to count : ℕ) → l ≡ us ++ (ws ++ (ys ++ zs)) → length us ≡ from → from + length ws + count ≡ to → length ys ≡ count
      → new ≡ drop (length (take (to - from) (drop from l)) - count) (take (to - from) (drop from l)) ++ take (length (take (to - from) (drop from l)) - count) (take (to - from) (drop from l))
      → take from l ++ (new ++ drop (to - from) (drop from l)) ≡ us ++ (ys ++ (ws ++ zs))
  turned_parts us ws ys zs l new from to count is front long few turned =
      let both : length (ws ++ ys) ≡ to - from = (let n = length-append ws ys in omega (arith, n, front, long, few)) in
      let behind : drop from l ≡ (ws ++ ys) ++ zs = rest_is l us (ws ++ (ys ++ zs)) from is front ∙ sym (append_assoc ws ys zs) in
      let mid : take (to - from) (drop from l) ≡ ws ++ ys = front_is (drop from l) (ws ++ ys) zs (to - from) behind both in
      let count_is : length (take (to - from) (drop from l)) - count ≡ length ws = (let n = length-append ws ys in let m = ap length mid in omega (arith, n, m, few)) in
      let new_is : new ≡ ys ++ ws = turned ∙ (λ i. drop (count_is i) (mid i) ++ take (count_is i) (mid i)) ∙ (λ i. drop_at ws ys (length ws) refl i ++ take_at ws ys (length ws) refl i) in
      (λ i. front_is l us (ws ++ (ys ++ zs)) from is front i ++ (new_is i ++ rest_is (drop from l) (ws ++ ys) zs (to - from) behind both i))
      ∙ ap (λ (r : List A). us ++ r) (append_assoc ys ws zs)

  -- a list by what stands before a place, and before a later one, then by so many, the next one, and the rest
  pub in_parts : (xs : List A) (a j g : ℕ) (d : A) → a + j < length xs → g ≤ a → xs ≡ take g xs ++ (drop g (take a xs) ++ ((take j (drop a xs) ++ get_or xs (a + j) d ∷ []) ++ drop (a + j + 1) xs))
  in_parts xs a j g d less on =
      let tail : drop j (drop a xs) ≡ get_or xs (a + j) d ∷ drop (a + j + 1) xs = drop-drop j a xs ∙ drop_more xs (a + j) d less in
      sym (take-append-drop a xs)
      ∙ (λ i. sym (take-append-drop g (take a xs)) i ++ (sym (take-append-drop j (drop a xs)) ∙ ap (λ (r : List A). take j (drop a xs) ++ r) tail ∙ sym (append_assoc (take j (drop a xs)) (get_or xs (a + j) d ∷ []) (drop (a + j + 1) xs))) i)
      ∙ append_assoc (take g (take a xs)) (drop g (take a xs)) ((take j (drop a xs) ++ get_or xs (a + j) d ∷ []) ++ drop (a + j + 1) xs)
      ∙ ap (λ (l : List A). l ++ (drop g (take a xs) ++ ((take j (drop a xs) ++ get_or xs (a + j) d ∷ []) ++ drop (a + j + 1) xs))) (take-take g a xs on)

-- ---- the last of a list in order, woven in

module _ {A K V : Type 0} {R : K → K → Ordering} (o : IsTotalOrder R) (anti : IsAntisymmetric R) (f : A → K × V) where
  abbrev S : A → A → Ordering
  S = by_key R f

  abbrev AllAbove : A → List A → Type 0
  AllAbove y [] = ⊤
  AllAbove y (x ∷ xs) = (S x y ≡ Greater) × AllAbove y xs

  above_both : (w y q : A) → S w y ≡ Greater → S q y ≡ Less → S w q ≡ Greater
  above_both w y q g l = turned_greater o (f q).0 (f w).0 (o.trans (f q).0 (f y).0 (f w).0 l (turned_less o (f w).0 (f y).0 g))

  -- it stands before all that are above it, and the others of its list before it
  pub last_first : (us ws qs : List A) (y : A) → AllBelow S y us → AllAbove y ws → AllBelow S y qs → weave S (us ++ ws) (qs ++ y ∷ []) ≡ weave S us qs ++ y ∷ ws
  last_first [] [] qs y b a c = refl
  last_first [] (w ∷ ws) [] y b a c = ap (λ r. by_order r (w ∷ weave S ws (y ∷ [])) (w ∷ weave S ws []) (y ∷ weave S (w ∷ ws) [])) a.0
  last_first [] (w ∷ ws) (q ∷ qs) y b a c =
      ap (λ r. by_order r (w ∷ weave S ws ((q ∷ qs) ++ y ∷ [])) (w ∷ weave S ws (qs ++ y ∷ [])) (q ∷ weave S (w ∷ ws) (qs ++ y ∷ []))) (above_both w y q a.0 c.0)
      ∙ ap (λ l. q ∷ l) (last_first [] (w ∷ ws) qs y b a c.1)
  last_first (u ∷ us) ws [] y b a c =
      ap (λ r. by_order r (u ∷ weave S (us ++ ws) (y ∷ [])) (u ∷ weave S (us ++ ws) []) (y ∷ weave S ((u ∷ us) ++ ws) [])) b.0
      ∙ ap (λ l. u ∷ l) (last_first us ws [] y b.1 a c ∙ ap (λ l. l ++ y ∷ ws) (weave-nil S us))
  last_first (u ∷ us) ws (q ∷ qs) y b a c =
      elim (S u q) as (λ r. by_order r (u ∷ weave S (us ++ ws) ((q ∷ qs) ++ y ∷ [])) (u ∷ weave S (us ++ ws) (qs ++ y ∷ [])) (q ∷ weave S ((u ∷ us) ++ ws) (qs ++ y ∷ [])) ≡ by_order r (u ∷ weave S us (q ∷ qs)) (u ∷ weave S us qs) (q ∷ weave S (u ∷ us) qs) ++ y ∷ ws) [
        | Less ↦ ap (λ l. u ∷ l) (last_first us ws (q ∷ qs) y b.1 a c)
        | Equal ↦ ap (λ l. u ∷ l) (last_first us ws qs y b.1 a c.1)
        | Greater ↦ ap (λ l. q ∷ l) (last_first (u ∷ us) ws qs y b a c.1)
      ]

  -- and where it ties with one there, it adds nothing
  pub tied_goes : (us : List A) (w : A) (ws qs : List A) (y : A) → AllBelow S y us → S w y ≡ Equal → AllBelow S y qs → weave S (us ++ w ∷ ws) (qs ++ y ∷ []) ≡ weave S (us ++ w ∷ ws) qs
  tied_goes [] w ws [] y b e c = ap (λ r. by_order r (w ∷ weave S ws (y ∷ [])) (w ∷ weave S ws []) (y ∷ weave S (w ∷ ws) [])) e ∙ ap (λ l. w ∷ l) (weave-nil S ws)
  tied_goes [] w ws (q ∷ qs) y b e c =
      let g : S w q ≡ Greater = o.congr (f w).0 (f y).0 (f q).0 e ∙ turned_greater o (f q).0 (f y).0 c.0 in
      ap (λ r. by_order r (w ∷ weave S ws ((q ∷ qs) ++ y ∷ [])) (w ∷ weave S ws (qs ++ y ∷ [])) (q ∷ weave S (w ∷ ws) (qs ++ y ∷ []))) g
      ∙ ap (λ l. q ∷ l) (tied_goes [] w ws qs y b e c.1)
      ∙ ap (λ r. by_order r (w ∷ weave S ws (q ∷ qs)) (w ∷ weave S ws qs) (q ∷ weave S (w ∷ ws) qs)) (sym g)
  tied_goes (u ∷ us) w ws [] y b e c =
      ap (λ r. by_order r (u ∷ weave S (us ++ w ∷ ws) (y ∷ [])) (u ∷ weave S (us ++ w ∷ ws) []) (y ∷ weave S ((u ∷ us) ++ w ∷ ws) [])) b.0
      ∙ ap (λ l. u ∷ l) (tied_goes us w ws [] y b.1 e c ∙ weave-nil S (us ++ w ∷ ws))
  tied_goes (u ∷ us) w ws (q ∷ qs) y b e c =
      elim (S u q) as (λ r. by_order r (u ∷ weave S (us ++ w ∷ ws) ((q ∷ qs) ++ y ∷ [])) (u ∷ weave S (us ++ w ∷ ws) (qs ++ y ∷ [])) (q ∷ weave S ((u ∷ us) ++ w ∷ ws) (qs ++ y ∷ [])) ≡ by_order r (u ∷ weave S (us ++ w ∷ ws) (q ∷ qs)) (u ∷ weave S (us ++ w ∷ ws) qs) (q ∷ weave S ((u ∷ us) ++ w ∷ ws) qs)) [
        | Less ↦ ap (λ l. u ∷ l) (tied_goes us w ws (q ∷ qs) y b.1 e c)
        | Equal ↦ ap (λ l. u ∷ l) (tied_goes us w ws qs y b.1 e c.1)
        | Greater ↦ ap (λ l. q ∷ l) (tied_goes (u ∷ us) w ws qs y b e c.1)
      ]

  -- ---- what a search tells of those in front, and their order of those that come

  pub below_cut : (xs : List A) (i : ℕ) (y d : A) → i ≤ length xs → ((k : ℕ) → k < i → S (get_or xs k d) y ≡ Less) → AllBelow S y (take i xs)
  below_cut xs zero y d on below = tt
  below_cut [] (suc i) y d on below = absurd (omega (arith, on))
  below_cut (x ∷ xs) (suc i) y d on below = (below 0 (omega arith), below_cut xs i y d (omega (arith, on)) (λ k l. below (suc k) (omega (arith, l))))

  pub above_cut : (xs : List A) (i : ℕ) (y d : A) → ((k : ℕ) → i ≤ k → k < length xs → S (get_or xs k d) y ≡ Greater) → AllAbove y (drop i xs)
  above_cut [] zero y d above = tt
  above_cut [] (suc i) y d above = tt
  above_cut (x ∷ xs) zero y d above = (above 0 (omega arith) (omega arith), above_cut xs 0 y d (λ k l m. above (suc k) (omega arith) (omega (arith, m))))
  above_cut (x ∷ xs) (suc i) y d above = above_cut xs i y d (λ k l m. above (suc k) (omega (arith, l)) (omega (arith, m)))

  pub come_in_order : (ys : List A) (j : ℕ) (d : A) → T (is_sorted R (map f ys)) → j < length ys → AllBelow S (get_or ys j d) (take j ys)
  come_in_order ys zero d s h = tt
  come_in_order [] (suc j) d s h = absurd (omega (arith, h))
  come_in_order (y ∷ ys) (suc j) d s h = (below_at o anti f (f y).0 ys j d (first _ _ s) (omega (arith, h)), come_in_order ys j d (second _ _ s) (omega (arith, h)))

  -- ---- one is turned in

  pub turned_before : (us ws qs zs : List A) (y : A) (old new : List A) (above left gap : ℕ) → old ≡ us ++ (ws ++ ((qs ++ y ∷ []) ++ zs)) → new ≡ us ++ ((qs ++ y ∷ []) ++ (ws ++ zs)) → length us ≡ gap → gap + length ws ≡ above → length qs ≡ left → AllBelow S y us → AllAbove y ws → IsTurnedIn S above left old gap new
  turned_before us ws qs zs y old new above left gap was is front on few below over =
      let long : length (us ++ ws) ≡ above = (let n = length-append us ws in omega (arith, n, front, on)) in
      let more : length (qs ++ y ∷ []) ≡ left + 1 = (let n = length-append qs (y ∷ []) in omega (arith, n, few)) in
      let whole : old ≡ (us ++ ws) ++ ((qs ++ y ∷ []) ++ zs) = was ∙ sym (append_assoc us ws ((qs ++ y ∷ []) ++ zs)) in
      let fresh : drop above old ≡ (qs ++ y ∷ []) ++ zs = rest_is old (us ++ ws) ((qs ++ y ∷ []) ++ zs) above whole long in
      let split : (qs ++ y ∷ []) ++ zs ≡ qs ++ (y ∷ zs) = append_assoc qs (y ∷ []) zs in
      let second_old : take left (drop above old) ≡ qs = front_is (drop above old) qs (y ∷ zs) left (fresh ∙ split) few in
      let behind : drop (above + left + 1) old ≡ zs = (let e : above + left + 1 ≡ above + (left + 1) = omega arith in ap (λ (n : ℕ). drop n old) e ∙ sym (drop-drop (left + 1) above old) ∙ rest_is (drop above old) (qs ++ y ∷ []) zs (left + 1) fresh more) in
      let here : (d : A) → get_or old (above + left) d ≡ y = λ d.
      (let at : old ≡ ((us ++ ws) ++ qs) ++ y ∷ zs = whole ∙ ap (λ (l : List A). (us ++ ws) ++ l) split ∙ sym (append_assoc (us ++ ws) qs (y ∷ zs)) in
      let n : length ((us ++ ws) ++ qs) ≡ above + left = (let m = length-append (us ++ ws) qs in omega (arith, m, long, few)) in
      (λ i. get_or (at i) (sym n i) d) ∙ get_or-append_seam ((us ++ ws) ++ qs) y zs d) in
      let now : drop gap new ≡ (qs ++ y ∷ []) ++ (ws ++ zs) = rest_is new us ((qs ++ y ∷ []) ++ (ws ++ zs)) gap is front in
      let moved : drop (gap + left) new ≡ y ∷ (ws ++ zs) = sym (drop-drop left gap new) ∙ rest_is (drop gap new) qs (y ∷ (ws ++ zs)) left (now ∙ append_assoc qs (y ∷ []) (ws ++ zs)) few in
      record {
        first = front_is new us _ gap is front ∙ sym (front_is old us _ gap was front);
        second = front_is (drop gap new) qs (y ∷ (ws ++ zs)) left (now ∙ append_assoc qs (y ∷ []) (ws ++ zs)) few ∙ sym second_old;
        long = (let a = ap length is in let b = length-append us ((qs ++ y ∷ []) ++ (ws ++ zs)) in let e = length-append (qs ++ y ∷ []) (ws ++ zs) in omega (arith, a, b, e, more, front));
        woven = λ d all.
            (λ i. weave S (front_is old (us ++ ws) ((qs ++ y ∷ []) ++ zs) above whole long i) (front_is (drop above old) (qs ++ y ∷ []) zs (left + 1) fresh more i) ++ behind i)
            ∙ ap (λ (l : List A). l ++ zs) (last_first us ws qs y below over (subst (λ (q : List A). AllBelow S y q) second_old (subst (λ (x : A). AllBelow S x (take left (drop above old))) (here d) all)))
            ∙ append_assoc (weave S us qs) (y ∷ ws) zs
            ∙ sym (λ i. weave S (front_is old us _ gap was front i) (second_old i) ++ moved i);
      }

  pub turned_out : (us : List A) (w : A) (ws qs zs : List A) (y : A) (old new : List A) (above left : ℕ) → old ≡ (us ++ w ∷ ws) ++ ((qs ++ y ∷ []) ++ zs) → new ≡ (us ++ w ∷ ws) ++ (qs ++ zs) → length (us ++ w ∷ ws) ≡ above → length qs ≡ left → AllBelow S y us → S w y ≡ Equal → IsTurnedIn S above left old above new
  turned_out us w ws qs zs y old new above left whole is long few below tied =
      let ps = us ++ w ∷ ws in
      let more : length (qs ++ y ∷ []) ≡ left + 1 = (let n = length-append qs (y ∷ []) in omega (arith, n, few)) in
      let fresh : drop above old ≡ (qs ++ y ∷ []) ++ zs = rest_is old (us ++ w ∷ ws) ((qs ++ y ∷ []) ++ zs) above whole long in
      let split : (qs ++ y ∷ []) ++ zs ≡ qs ++ (y ∷ zs) = append_assoc qs (y ∷ []) zs in
      let second_old : take left (drop above old) ≡ qs = front_is (drop above old) qs (y ∷ zs) left (fresh ∙ split) few in
      let behind : drop (above + left + 1) old ≡ zs = (let e : above + left + 1 ≡ above + (left + 1) = omega arith in ap (λ (n : ℕ). drop n old) e ∙ sym (drop-drop (left + 1) above old) ∙ rest_is (drop above old) (qs ++ y ∷ []) zs (left + 1) fresh more) in
      let here : (d : A) → get_or old (above + left) d ≡ y = λ d.
      (let at : old ≡ ((us ++ w ∷ ws) ++ qs) ++ y ∷ zs = whole ∙ ap (λ (l : List A). (us ++ w ∷ ws) ++ l) split ∙ sym (append_assoc (us ++ w ∷ ws) qs (y ∷ zs)) in
      let n : length ((us ++ w ∷ ws) ++ qs) ≡ above + left = (let m = length-append (us ++ w ∷ ws) qs in omega (arith, m, long, few)) in
      (λ i. get_or (at i) (sym n i) d) ∙ get_or-append_seam ((us ++ w ∷ ws) ++ qs) y zs d) in
      let now : drop above new ≡ qs ++ zs = rest_is new (us ++ w ∷ ws) (qs ++ zs) above is long in
      let moved : drop (above + left) new ≡ zs = sym (drop-drop left above new) ∙ rest_is (drop above new) qs zs left now few in
      record {
        first = front_is new (us ++ w ∷ ws) _ above is long ∙ sym (front_is old (us ++ w ∷ ws) _ above whole long);
        second = front_is (drop above new) qs zs left now few ∙ sym second_old;
        long = (let a = ap length is in let b = length-append (us ++ w ∷ ws) (qs ++ zs) in let e = length-append qs zs in omega (arith, a, b, e, few, long));
        woven = λ d all.
            (λ i. weave S (front_is old (us ++ w ∷ ws) ((qs ++ y ∷ []) ++ zs) above whole long i) (front_is (drop above old) (qs ++ y ∷ []) zs (left + 1) fresh more i) ++ behind i)
            ∙ ap (λ (l : List A). l ++ zs) (tied_goes us w ws qs y below tied (subst (λ (q : List A). AllBelow S y q) second_old (subst (λ (x : A). AllBelow S x (take left (drop above old))) (here d) all)))
            ∙ sym (λ i. weave S (front_is old (us ++ w ∷ ws) _ above whole long i) (second_old i) ++ moved i);
      }

  below_key : (us : List A) (w y : A) → (f w).0 ≡ (f y).0 → AllBelow S w us → AllBelow S y us
  below_key [] w y e b = tt
  below_key (u ∷ us) w y e b = (ap (R (f u).0) (sym e) ∙ b.0, below_key us w y e b.1)

  -- where a search among those in front found a place for it, or one that it ties with
  pub at_gap : (xs : List A) (above left gap : ℕ) (d : A) (new : List A) → above + left < length xs → gap ≤ above → ((k : ℕ) → k < gap → S (get_or (take above xs) k d) (get_or xs (above + left) d) ≡ Less) → ((k : ℕ) → gap ≤ k → k < above → S (get_or (take above xs) k d) (get_or xs (above + left) d) ≡ Greater)
      → ((us ws ys zs : List A) → xs ≡ us ++ (ws ++ (ys ++ zs)) → length us ≡ gap → gap + length ws + (left + 1) ≡ above + left + 1 → length ys ≡ left + 1 → new ≡ us ++ (ys ++ (ws ++ zs)))
      → IsTurnedIn S above left xs gap new
  at_gap xs above left gap d new less on below over turned =
      let y = get_or xs (above + left) d in
      let us = take gap xs in
      let ws = drop gap (take above xs) in
      let qs = take left (drop above xs) in
      let zs = drop (above + left + 1) xs in
      let whole : xs ≡ us ++ (ws ++ ((qs ++ y ∷ []) ++ zs)) = in_parts xs above left gap d less on in
      let front : length us ≡ gap = length-take-le gap xs (omega (arith, less, on)) in
      let upto : length (take above xs) ≡ above = length-take-le above xs (omega (arith, less)) in
      let two : length ws ≡ above - gap = length-drop gap (take above xs) ∙ ap (λ (n : ℕ). n - gap) upto in
      let few : length qs ≡ left = length-take-le left (drop above xs) (let n = length-drop above xs in omega (arith, n, less)) in
      let more : length (qs ++ y ∷ []) ≡ left + 1 = (let n = length-append qs (y ∷ []) in omega (arith, n, few)) in
      turned_before us ws qs zs y xs new above left gap whole (turned us ws (qs ++ y ∷ []) zs whole front (omega (arith, two, on)) more) front (omega (arith, two, on)) few
      (subst (λ (l : List A). AllBelow S y l) (take-take gap above xs on) (below_cut (take above xs) gap y d (omega (arith, upto, on)) below))
      (above_cut (take above xs) gap y d (λ k l m. over k l (omega (arith, m, upto))))

  none : (n : ℕ) → n - n ≡ 0
  none n = omega arith

  pub at_tie : (xs : List A) (above left i : ℕ) (d : A) (new : List A) → above + left < length xs → i < above → T (is_sorted R (map f (take above xs))) → S (get_or (take above xs) i d) (get_or xs (above + left) d) ≡ Equal → new ≡ remove xs (above + left) → IsTurnedIn S above left xs above new
  at_tie xs above left i d new less on sorted tied gone =
      let y = get_or xs (above + left) d in
      let front = take above xs in
      let w = get_or front i d in
      let us = take i front in
      let ws = drop (i + 1) front in
      let qs = take left (drop above xs) in
      let zs = drop (above + left + 1) xs in
      let upto : length front ≡ above = length-take-le above xs (omega (arith, less)) in
      let cut : front ≡ us ++ w ∷ ws = sym (take-append-drop i front) ∙ ap (λ (l : List A). us ++ l) (drop_more front i d (omega (arith, upto, on))) in
      let few : length qs ≡ left = length-take-le left (drop above xs) (let n = length-drop above xs in omega (arith, n, less)) in
      let tail : drop left (drop above xs) ≡ y ∷ zs = drop-drop left above xs ∙ drop_more xs (above + left) d less in
      let split : xs ≡ front ++ (qs ++ (y ∷ zs)) = sym (take-append-drop above xs) ∙ ap (λ (l : List A). front ++ l) (sym (take-append-drop left (drop above xs)) ∙ ap (λ (l : List A). qs ++ l) tail) in
      let whole : xs ≡ (us ++ w ∷ ws) ++ ((qs ++ y ∷ []) ++ zs) = split ∙ (λ i. cut i ++ sym (append_assoc qs (y ∷ []) zs) i) in
      let len : length (front ++ qs) ≡ above + left = (let n = length-append front qs in omega (arith, n, upto, few)) in
      let out : remove xs (above + left) ≡ front ++ (qs ++ zs) =
      ap (λ (l : List A). remove l (above + left)) (split ∙ sym (append_assoc front qs (y ∷ zs)))
      ∙ remove-append_right (front ++ qs) (y ∷ zs) (above + left) (above + left) len (omega arith)
      ∙ ap (λ (n : ℕ). (front ++ qs) ++ remove (y ∷ zs) n) (none (above + left))
      ∙ append_assoc front qs zs in
      let below : AllBelow S y us = below_key us w y (anti (f w).0 (f y).0 tied) (come_in_order front i d sorted (omega (arith, upto, on))) in
      turned_out us w ws qs zs y xs new above left whole (gone ∙ out ∙ ap (λ (l : List A). l ++ (qs ++ zs)) cut) (ap length (sym cut) ∙ upto) few below tied

  below_take : (k : K) (i : ℕ) (xs : List A) → T (below_all R k (map f xs)) → T (below_all R k (map f (take i xs)))
  below_take k zero xs b = tt
  below_take k (suc i) [] b = tt
  below_take k (suc i) (x ∷ xs) b = both _ _ (first _ _ b) (below_take k i xs (second _ _ b))

  pub sorted_take : (i : ℕ) (xs : List A) → T (is_sorted R (map f xs)) → T (is_sorted R (map f (take i xs)))
  sorted_take zero xs s = tt
  sorted_take (suc i) [] s = tt
  sorted_take (suc i) (x ∷ xs) s = both _ _ (below_take (f x).0 i xs (first _ _ s)) (sorted_take i xs (second _ _ s))

  -- what holds while values of one list are turned in among those of another
  pub record AreTurning (ms fs now : List A) (above left : ℕ) : Type 0 where
    pub first : take above now ≡ take above ms
    pub second : take left (drop above now) ≡ take left fs
    pub within : above ≤ length ms
    pub few : left ≤ length fs
    pub long : above + left ≤ length now
    pub woven : weave S (take above now) (take left fs) ++ drop (above + left) now ≡ weave S ms fs

  pub turning_begins : (ms fs now : List A) → now ≡ ms ++ fs → AreTurning ms fs now (length ms) (length fs)
  turning_begins ms fs now is = record {
    first = front_is now ms fs (length ms) is refl ∙ sym (take-length ms);
    second = ap (take (length fs)) (rest_is now ms fs (length ms) is refl);
    within = omega arith;
    few = omega arith;
    long = (let n = ap length is in let m = length-append ms fs in omega (arith, n, m));
    woven =
        (let n : length (ms ++ fs) ≡ length ms + length fs = length-append ms fs in
        let none : drop (length ms + length fs) now ≡ [] = rest_is now (ms ++ fs) [] (length ms + length fs) (is ∙ sym (append-nil (ms ++ fs))) n in
        (λ i. weave S (front_is now ms fs (length ms) is refl i) (take-length fs i) ++ none i) ∙ append-nil (weave S ms fs));
  }

  pub turning_goes_on : (ms fs now new : List A) (above left n result : ℕ) → left + 1 ≡ n → T (is_sorted R (map f fs)) → result ≤ above → IsTurnedIn S above left now result new → AreTurning ms fs now above n → AreTurning ms fs new result left
  turning_goes_on ms [] now new above left n result e sorted less turned so_far = absurd (let h = so_far.few in omega (arith, e, h))
  turning_goes_on ms (q ∷ qs) now new above left n result e sorted less turned so_far =
      let fs = q ∷ qs in
      let fewer : left ≤ n = omega (arith, e) in
      let more : n ≤ length (q ∷ qs) = so_far.few in
      let under : left < n = omega (arith, e) in
      let shorter : left < length (q ∷ qs) = omega (arith, e, more) in
      let one : take left (drop above now) ≡ take left (q ∷ qs) = sym (take-take left n (drop above now) fewer) ∙ ap (take left) so_far.second ∙ take-take left n (q ∷ qs) fewer in
      let first_is : take result new ≡ take result now = turned.first in
      let here : get_or now (above + left) q ≡ get_or (q ∷ qs) left q =
      sym (get_or-drop above now left q) ∙ sym (get_or-take n (drop above now) left q under) ∙ ap (λ (l : List A). get_or l left q) so_far.second ∙ get_or-take n (q ∷ qs) left q under in
      let below : AllBelow S (get_or now (above + left) q) (take left (drop above now)) =
      subst (λ (l : List A). AllBelow S (get_or now (above + left) q) l) (sym one) (subst (λ (x : A). AllBelow S x (take left (q ∷ qs))) (sym here) (come_in_order (q ∷ qs) left q sorted shorter)) in
      let all : above + n ≡ above + left + 1 = omega (arith, e) in
      record {
        first = first_is ∙ sym (take-take result above now less) ∙ ap (take result) so_far.first ∙ take-take result above ms less;
        second = turned.second ∙ one;
        within = (let w = so_far.within in omega (arith, w, less));
        few = omega (arith, shorter);
        long = turned.long;
        woven =
            (λ i. weave S (first_is i) (sym one i) ++ drop (result + left) new)
            ∙ sym (turned.woven q below)
            ∙ (λ i. weave S (take above now) (take (e i) (drop above now)) ++ drop (sym all i) now)
            ∙ ap (λ (l : List A). weave S (take above now) l ++ drop (above + n) now) so_far.second
            ∙ so_far.woven;
      }

  pub turning_ends : (ms fs now : List A) (above : ℕ) → AreTurning ms fs now above 0 → now ≡ weave S ms fs
  turning_ends ms fs now above so_far =
      sym (take-append-drop above now)
      ∙ (λ i. sym (weave-nil S (take above now)) i ++ drop (sym (none above) i) now)
      ∙ so_far.woven
    where
      none : (n : ℕ) → n + 0 ≡ n
      none n = omega arith
