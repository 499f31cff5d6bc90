-- Texts of a list's elements, one more at a time.
use Rattle.std.proofs.Common.{◌≡◌, ◌++◌, ◌∷◌, [], ◌+◌, ◌∙◌, ℕ, List, None, Some, take, drop, map, slice_get, ap, sym, refl}
use Rattle.std.specs.List.{flat_map}
use Rattle.std.proofs.lemmas.Grind.{flat_map-append}
use Rattle.std.proofs.lemmas.List.{append_assoc, flat_map_more, take_more}
use Rattle.std.proofs.lemmas.Option.{slice_get_within, get_or_from_slice_get}
use Rattle.file_kit.specs.AskWords.{script_words, spoken}
use Rattle.script_kit.specs.Shapes.{script_shape}

-- the elements before a place, and the one there
one_more : {X : Type 0} (xs : List X) (i : ℕ) (x : X) → slice_get xs i ≡ Some x → take (i + 1) xs ≡ take i xs ++ x ∷ []
one_more xs i x e = take_more xs i x (slice_get_within xs i x e) ∙ ap (λ y. take i xs ++ y ∷ []) (get_or_from_slice_get xs i x x e)

module _ {X : Type 0} (f : X → List ℕ) where
  -- one behind the other
  pub mapped_step : (bs : List ℕ) (xs : List X) (i : ℕ) (x : X) → slice_get xs i ≡ Some x
      → (bs ++ flat_map f (take i xs)) ++ f x ≡ bs ++ flat_map f (take (i + 1) xs)
  mapped_step bs xs i x e = flat_map_more f bs (take i xs) x ∙ ap (λ (l : List X). bs ++ flat_map f l) (sym (one_more xs i x e))

-- three words, a fourth, and others behind
words_behind : (first scope name unit shape : List ℕ) (rest : List (List ℕ))
    → spoken (spoken first (scope ∷ name ∷ unit ∷ []) ++ (32 ∷ shape)) rest ≡ spoken first (scope ∷ name ∷ unit ∷ shape ∷ rest)
unfolding spoken
words_behind first scope name unit shape rest =
    ap (λ l. l ++ flat_map word rest) (flat_map_more word first (scope ∷ name ∷ unit ∷ []) shape)
    ∙ append_assoc first (flat_map word (scope ∷ name ∷ unit ∷ shape ∷ [])) (flat_map word rest)
    ∙ ap (λ l. first ++ l) (sym (flat_map-append word (scope ∷ name ∷ unit ∷ shape ∷ []) rest))
  where
    word : List ℕ → List ℕ
    word w = 32 ∷ w

module _ {X : Type 0} (now : X → List ℕ) where
  -- words with a shape as the fourth
  pub shape_in_words : (first : List ℕ) (ws : List X) (s : X) → slice_get ws 3 ≡ Some s
      → spoken (spoken first (map now (take 3 ws)) ++ (32 ∷ script_shape (now s))) (map now (drop 4 ws)) ≡ spoken first (script_words (map now ws))
  shape_in_words first [] s e = cc
  shape_in_words first (a ∷ []) s e = cc
  shape_in_words first (a ∷ b ∷ []) s e = cc
  shape_in_words first (a ∷ b ∷ c ∷ []) s e = cc
  shape_in_words first (a ∷ b ∷ c ∷ d ∷ rest) s e =
      let same : s ≡ d = cc in
      words_behind first (now a) (now b) (now c) (script_shape (now s)) (map now rest)
      ∙ ap (λ x. spoken first (now a ∷ now b ∷ now c ∷ script_shape (now x) ∷ map now rest)) same

  -- words without one
  pub few_words : (ws : List X) → slice_get ws 3 ≡ None → script_words (map now ws) ≡ map now ws
  few_words [] e = refl
  few_words (a ∷ []) e = refl
  few_words (a ∷ b ∷ []) e = refl
  few_words (a ∷ b ∷ c ∷ []) e = refl
  few_words (a ∷ b ∷ c ∷ d ∷ rest) e = cc
