-- Attributes as a list of pairs of a key and a value.
use Rattle.std.specs.Prelude.{ℕ, List, [], ◌∷◌, Bool, true, false, IsTrue}
use Rattle.std.specs.Cmp.Lexicographic.{slice_cmp}
use Rattle.std.specs.Ordering.{nat_cmp}
use Rattle.std.specs.List.{list_all}
use Rattle.std.specs.FinMap.Entries.{is_sorted}
use Rattle.attr_kit.specs.declared.attr_value.AttrValue.{AttrValue}

-- whether a text has a byte
abbrev pub has_text : List ℕ → Bool
has_text [] = false
has_text (b ∷ bs) = true

abbrev pub keys_have_text : List (List ℕ × AttrValue) → Bool
keys_have_text ps = list_all (λ p. has_text p.0) ps

-- the keys strictly rise by their bytes, and none is empty
pub record AreAttributes (ps : List (List ℕ × AttrValue)) : Type 0 where
  pub rising : IsTrue (is_sorted (slice_cmp nat_cmp) ps)
  pub named : IsTrue (keys_have_text ps)
