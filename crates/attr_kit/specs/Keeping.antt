-- Which pairs of a set are kept.
use Rattle.std.specs.Prelude.{ℕ, List, Bool, true, filter}
use Rattle.attr_kit.specs.AllowLists.{is_listed}
use Rattle.attr_kit.specs.declared.attr_value.AttrValue.{AttrValue}
use Rattle.attr_kit.specs.declared.keep.Keep.{Keep}
use Rattle.attr_kit.specs.declared.keep.Keep.TheVariants.{All, Only}

-- whether pairs with this key are kept
abbrev pub keeps : Keep → List ℕ → Bool
keeps All key = true
keeps (Only keys) key = is_listed keys key

-- the restriction of a set to the keys that are kept
abbrev pub kept : Keep → List (List ℕ × AttrValue) → List (List ℕ × AttrValue)
kept All ps = ps
kept (Only keys) ps = filter (λ p. is_listed keys p.0) ps
