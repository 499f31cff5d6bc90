-- The best of points of which one is the latest.
use Rattle.std.proofs.Common.{◌≡◌, ℕ, ◌<◌, Bool, ◌⊎◌, inl, inr, List, [], ◌∷◌, Option, Some, None, refl, sym, ap, subst, ◌∙◌, arith}
use Rattle.std.proofs.lemmas.Bool.{lt-ltb, le-ltb, cases_lt}
use Rattle.std.specs.Cmp.{IsEquivalence}
use Rattle.attr_kit.specs.Exact.{IsExact}
use Rattle.point_kit.specs.declared.cell.Held.TheVariants.{One}
use Rattle.point_kit.specs.declared.cell.Cell.{Cell}
use Rattle.point_kit.specs.Join.{join_cells, join_options}
use Rattle.point_kit.specs.Best.{best}
use Rattle.point_kit.proofs.BestLaws.{cell_of, best_more}
use Rattle.schedule_kit.specs.Members.{In}

module _ {P : Type 0} (eq : P → P → Bool) (laws : IsEquivalence eq) (exact : IsExact eq) (T : ℕ) (p : P) where
  abbrev top : Cell P
  top = record { time = T; held = One p }

  -- a cell from before, or the top itself
  abbrev Low : Cell P → Type 0
  Low c = (c.time < T) ⊎ (c ≡ top)

  abbrev LowOption : Option (Cell P) → Type 0
  LowOption None = Unit {0}
  LowOption (Some c) = Low c

  low_pair : (a b : Cell P) → a.time < T → b.time < T → (join_cells eq a b).time < T
  low_pair a b h k = elim (cases_lt a.time b.time) [
    | inl below ↦ rw (lt-ltb a.time b.time below) k
    | inr above ↦ elim (cases_lt b.time a.time) [
      | inl later ↦ rw (le-ltb a.time b.time above, lt-ltb b.time a.time later) h
      | inr not_later ↦ rw (le-ltb a.time b.time above, le-ltb b.time a.time not_later) h
    ]
  ]

  top_low : (c : Cell P) → c.time < T → join_cells eq top c ≡ top
  top_low c h = rw (le-ltb T c.time (omega arith), lt-ltb c.time T h) refl

  low_top : (c : Cell P) → c.time < T → join_cells eq c top ≡ top
  low_top c h = rw (lt-ltb c.time T h) refl

  top_top : join_cells eq top top ≡ top
  top_top = rw (le-ltb T T (omega arith), laws.refl p) refl

  low_join : (a b : Cell P) → Low a → Low b → Low (join_cells eq a b)
  low_join a b (inl h) (inl k) = inl (low_pair a b h k)
  low_join a b (inl h) (inr e) = inr (ap (join_cells eq a) e ∙ low_top a h)
  low_join a b (inr e) (inl k) = inr (ap (λ x. join_cells eq x b) e ∙ top_low b k)
  low_join a b (inr e) (inr f) = inr (ap (λ x. join_cells eq x b) e ∙ ap (join_cells eq top) f ∙ top_top)

  top_join : (b : Cell P) → Low b → join_cells eq top b ≡ top
  top_join b (inl k) = top_low b k
  top_join b (inr f) = ap (join_cells eq top) f ∙ top_top

  join_top : (a : Cell P) → Low a → join_cells eq a top ≡ top
  join_top a (inl k) = low_top a k
  join_top a (inr f) = ap (λ x. join_cells eq x top) f ∙ top_top

  abbrev pub AllLow : List (ℕ × P) → Type 0
  AllLow ps = (x : ℕ × P) → In x ps → (x.0 < T) ⊎ (x ≡ (T, p))

  low_cell : (x : ℕ × P) → (x.0 < T) ⊎ (x ≡ (T, p)) → Low (cell_of x)
  low_cell x (inl h) = inl h
  low_cell x (inr e) = inr (ap cell_of e)

  low_more : (x : Cell P) (o : Option (Cell P)) → Low x → LowOption o → LowOption (join_options (join_cells eq) (Some x) o)
  low_more x None h k = h
  low_more x (Some c) h k = low_join x c h k

  low_best : (ps : List (ℕ × P)) → AllLow ps → LowOption (best eq ps)
  low_best [] all = tt
  low_best (x ∷ ps) all = subst LowOption (sym (best_more eq laws exact x ps)) (low_more (cell_of x) (best eq ps) (low_cell x (all x (inl refl))) (low_best ps (λ y i. all y (inr i))))

  top_option : (o : Option (Cell P)) → LowOption o → join_options (join_cells eq) (Some top) o ≡ Some top
  top_option None h = refl
  top_option (Some c) h = ap Some (top_join c h)

  -- the latest point, where no other of its time differs from it
  pub best_is : (ps : List (ℕ × P)) → AllLow ps → In (T, p) ps → best eq ps ≡ Some (record { time = T; held = One p })
  best_is [] all i = absurd i
  best_is (x ∷ ps) all (inl e) =
      best_more eq laws exact x ps ∙ ap (λ (y : ℕ × P). join_options (join_cells eq) (Some (cell_of y)) (best eq ps)) (sym e) ∙ top_option (best eq ps) (low_best ps (λ y i. all y (inr i)))
  best_is (x ∷ ps) all (inr i) =
      best_more eq laws exact x ps ∙ ap (join_options (join_cells eq) (Some (cell_of x))) (best_is ps (λ y j. all y (inr j)) i) ∙ ap Some (join_top (cell_of x) (low_cell x (all x (inl refl))))
