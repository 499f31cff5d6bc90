-- The rows that leave out all attributes depend on which entries there are, however many sets are fed.
use Rattle.std.proofs.Common.{◌≡◌, inl, inr, ℕ, ℤ, ◌+◌, false, cond, ◌&&◌, ◌||◌, List, [], ◌∷◌, ◌++◌, map, length, refl, sym, ap, ◌∙◌, arith}
use Rattle.std.specs.List.{flat_map}
use Rattle.std.specs.Ordering.{eq_by_cmp}
use Rattle.attr_kit.specs.Keeping.{kept}
use Rattle.attr_kit.specs.declared.attr_set.AttrSet.{AttrSet}
use Rattle.attr_kit.specs.declared.keep.Keep.TheVariants.{Only}
use Rattle.agg_kit.specs.Entries.{Entry}
use Rattle.agg_kit.specs.Feeding.{distinct, sets_of, fed}
use Rattle.plan_kit.specs.Plans.{Planned}
use Rattle.point_kit.specs.contracts.stream.StreamPartialEq.TheImpl as streams
use Rattle.point_kit.specs.declared.key.Key.{Key}
use Rattle.point_kit.specs.declared.stream.Stream.{Stream}
use Rattle.point_kit.specs.declared.writer_id.WriterId.{WriterId}
use Rattle.schedule_kit.specs.Members.{In}
use Rattle.schedule_kit.specs.Totals.{total}
use Rattle.rollup_kit.specs.Asks.{Attributes, attributes_cmp, asks, group, is_of_service, has_pairs}
use Rattle.rollup_kit.specs.Parts.{Parts, no_parts, plus_parts, parts_of_value}
use Rattle.rollup_kit.specs.Rollups.{recorded_rows}
use Rattle.rollup_kit.specs.declared.ask.Ask.{Ask}
use Rattle.rollup_kit.proofs.PartLaws.{parts_add_up}
use Rattle.rollup_kit.proofs.FedPast.{fed-number, fed-values}
use Rattle.rollup_kit.proofs.RowsMixed.{rows_mixed, rows_same, in_row, has_row, row_at}
use Rattle.rollup_kit.specs.Naming.{Name, key_at, names_from, values_from}
use Rattle.schedule_kit.proofs.Totals.{any_sum, any-total, count_sum, total-append, total-map, total_same}
use Rattle.schedule_kit.specs.Mixed.{AreMixed}

-- lists whose elements look the same in b, each as often
abbrev pub AreAlike : {A B : Type 0} → (A → B) → List A → List A → Type 0
AreAlike {B = B} b xs ys = (f : B → ℕ) → total 0 ◌+◌ (λ x. f (b x)) xs ≡ total 0 ◌+◌ (λ x. f (b x)) ys

module _ {A B : Type 0} (b : A → B) where
  alike-map : (xs ys : List A) → AreAlike b xs ys → AreMixed (map b xs) (map b ys)
  alike-map xs ys m = λ f. total-map 0 ◌+◌ count_sum f b xs ∙ m f ∙ sym (total-map 0 ◌+◌ count_sum f b ys)

  alike-append : (xs ys zs ws : List A) → AreAlike b xs ys → AreAlike b zs ws → AreAlike b (xs ++ zs) (ys ++ ws)
  alike-append xs ys zs ws m n = λ f.
      total-append 0 ◌+◌ count_sum (λ x. f (b x)) xs zs ∙ ap (λ k. k + total 0 ◌+◌ (λ x. f (b x)) zs) (m f) ∙ ap (λ k. total 0 ◌+◌ (λ x. f (b x)) ys + k) (n f)
      ∙ sym (total-append 0 ◌+◌ count_sum (λ x. f (b x)) ys ws)

  pub alike-each : {W : Type 0} (g k : W → List A) (ws : List W) → ((w : W) → In w ws → AreAlike b (g w) (k w)) → AreAlike b (flat_map g ws) (flat_map k ws)
  alike-each g k [] h = λ f. refl
  alike-each g k (w ∷ ws) h = alike-append (g w) (k w) (flat_map g ws) (flat_map k ws) (h w (inl refl)) (alike-each g k ws (λ x i. h x (inr i)))

  pub alike-mapped : {C : Type 0} (g : C → A) (xs ys : List C) → AreAlike (λ x. b (g x)) xs ys → AreAlike b (map g xs) (map g ys)
  alike-mapped g xs ys m = λ f. total-map 0 ◌+◌ count_sum (λ x. f (b x)) g xs ∙ m f ∙ sym (total-map 0 ◌+◌ count_sum (λ x. f (b x)) g ys)

total-constant : {A : Type 0} (n : ℕ) (xs ys : List A) → length xs ≡ length ys → total 0 ◌+◌ (λ _. n) xs ≡ total 0 ◌+◌ (λ _. n) ys
total-constant n [] [] e = refl
total-constant n [] (y ∷ ys) e = absurd (omega arith)
total-constant n (x ∷ xs) [] e = absurd (omega arith)
total-constant n (x ∷ xs) (y ∷ ys) e = ap (λ k. n + k) (total-constant n xs ys (omega arith))

-- a key without its attributes
abbrev pub blank : Key → Key
blank k = record k { attrs = [] }

abbrev pub blanked : Key × ℤ → Key × ℤ
blanked v = (blank v.0, v.1)

nothing-kept : (a : AttrSet) → kept (Only []) a ≡ []
nothing-kept [] = refl
nothing-kept (p ∷ ps) = nothing-kept ps

module _ (ask : Ask) (keep : ask.keep ≡ Only []) (only : ask.only ≡ []) where
  asks-blank : (k : Key) → asks ask (blank k) ≡ asks ask k
  asks-blank k =
      ap (λ o. (streams.ghosts).eq ask.stream k.stream && (is_of_service ask.service k.writer && has_pairs o [])) only
      ∙ sym (ap (λ o. (streams.ghosts).eq ask.stream k.stream && (is_of_service ask.service k.writer && has_pairs o k.attrs)) only)

  group-blank : (k : Key) → group ask (blank k) ≡ group ask k
  group-blank k = ap (λ l. kept l []) keep ∙ sym (ap (λ l. kept l k.attrs) keep ∙ nothing-kept k.attrs)

  row-blank : (g : Attributes) (k : Key) → in_row ask g k ≡ in_row ask g (blank k)
  row-blank g k = λ i. (sym (asks-blank k) i) && eq_by_cmp attributes_cmp g (sym (group-blank k) i)

  abbrev part : Attributes → Key × Parts → Parts
  part g p = cond (in_row ask g p.0) p.1 no_parts

  abbrev own : Key × ℤ → Key × Parts
  own v = (v.0, parts_of_value ask.stream.shape v.1)

  -- the rows do not see the attributes
  rows_blank : (vs : List (Key × ℤ)) (ks : List Key) → recorded_rows ask vs ks ≡ recorded_rows ask (map blanked vs) (map blank ks)
  rows_blank vs ks = rows_same ask vs (map blanked vs) ks (map blank ks) (λ g. (has g, λ i. record { total = sums g i; points = counts g i; conflicts = 0 }))
    where
      has : (g : Attributes) → has_row ask ks g ≡ has_row ask (map blank ks) g
      has g =
          any-total (eq_by_cmp attributes_cmp g) (asks ask) (group ask) ks
          ∙ total_same false ◌||◌ any_sum (in_row ask g) (λ k. in_row ask g (blank k)) ks (λ k _. row-blank g k)
          ∙ sym (total-map false ◌||◌ any_sum (in_row ask g) blank ks)
          ∙ sym (any-total (eq_by_cmp attributes_cmp g) (asks ask) (group ask) (map blank ks))

      counts : (g : Attributes) → (row_at ask vs ks g).points ≡ (row_at ask (map blanked vs) (map blank ks) g).points
      counts g =
          total_same 0 ◌+◌ count_sum (λ k. cond (in_row ask g k) 1 0) (λ k. cond (in_row ask g (blank k)) 1 0) ks (λ k _. ap (λ b. cond b 1 0) (row-blank g k))
          ∙ sym (total-map 0 ◌+◌ count_sum (λ k. cond (in_row ask g k) 1 0) blank ks)

      sums : (g : Attributes) → (row_at ask vs ks g).total ≡ (row_at ask (map blanked vs) (map blank ks) g).total
      sums g =
          total-map no_parts plus_parts parts_add_up (part g) own vs
          ∙ total_same no_parts plus_parts parts_add_up (λ v. part g (own v)) (λ v. part g (own (blanked v))) vs (λ v _. ap (λ b. cond b (parts_of_value ask.stream.shape v.1) no_parts) (row-blank g v.0))
          ∙ sym (total-map no_parts plus_parts parts_add_up (λ v. part g (own v)) blanked vs)
          ∙ sym (total-map no_parts plus_parts parts_add_up (part g) own (map blanked vs))

  -- values and keys that differ in their attributes alone come to the same rows
  pub rows_alike : (vs us : List (Key × ℤ)) (ks ls : List Key) → AreAlike blanked vs us → AreAlike blank ks ls → recorded_rows ask vs ks ≡ recorded_rows ask us ls
  rows_alike vs us ks ls m n =
      rows_blank vs ks
      ∙ rows_mixed ask (map blanked vs) (map blanked us) (map blank ks) (map blank ls) (alike-map blanked vs us m) (alike-map blank ks ls n)
      ∙ sym (rows_blank us ls)

module _ (p : Planned) (h k : List Entry) (m : AreMixed h k) (id : WriterId) (start : ℕ) where
  pub values-alike : (n : ℕ) (ss : List Stream) → AreAlike (λ v. blanked (key_at id start v.0, v.1)) (values_from p h n ss) (values_from p k n ss)
  values-alike n [] = λ f. refl
  values-alike n (s ∷ ss) =
      alike-append (λ (v : Name × ℤ). blanked (key_at id start v.0, v.1)) _ _ (values_from p h (n + 1) ss) (values_from p k (n + 1) ss)
      (alike-mapped (λ (v : Name × ℤ). blanked (key_at id start v.0, v.1)) (λ (x : AttrSet × ℤ). ((s, x.0), x.1)) (fed p n h) (fed p n k)
      (λ f. fed-values p n h k m (λ v. f (blank (key_at id start (s, [])), v))))
      (values-alike (n + 1) ss)

  pub names-alike : (n : ℕ) (ss : List Stream) → AreAlike (λ x. blank (key_at id start x)) (names_from p h n ss) (names_from p k n ss)
  names-alike n [] = λ f. refl
  names-alike n (s ∷ ss) =
      alike-append (λ (x : Name). blank (key_at id start x)) _ _ (names_from p h (n + 1) ss) (names_from p k (n + 1) ss)
      (alike-mapped (λ (x : Name). blank (key_at id start x)) (λ (a : AttrSet). (s, a)) (distinct (sets_of (fed p n h))) (distinct (sets_of (fed p n k)))
      (λ f. total-constant (f (blank (key_at id start (s, [])))) (distinct (sets_of (fed p n h))) (distinct (sets_of (fed p n k))) (fed-number p n h k m)))
      (names-alike (n + 1) ss)
