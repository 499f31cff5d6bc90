-- Which attributes pairs give.
use Rattle.std.specs.Prelude.{ℕ, List, [], ◌∷◌, cond, not, nat_eq, fold, Option, Some, None}
use Rattle.std.specs.Cmp.Lexicographic.{slice_cmp, pointwise}
use Rattle.std.specs.Option.{option_or}
use Rattle.std.specs.Ordering.{nat_cmp}
use Rattle.std.specs.FinMap.Entries.{put, find}
use Rattle.attr_kit.specs.Attributes.{has_text}
use Rattle.attr_kit.specs.Refusing.{first, wherever}
use Rattle.attr_kit.specs.declared.attr_value.AttrValue.{AttrValue}
use Rattle.attr_kit.specs.declared.error.AttrFault.{AttrFault}
use Rattle.attr_kit.specs.declared.error.AttrFault.TheVariants as faults

-- the pairs put in one after the other: of a key given twice the later value stays
unfoldable pub attributes_of : List (List ℕ × AttrValue) → List (List ℕ × AttrValue)
attributes_of ps = fold (λ s p. put (slice_cmp nat_cmp) p.0 p.1 s) [] ps

-- the value of the last pair with the key
abbrev pub latest : List ℕ → List (List ℕ × AttrValue) → Option AttrValue
latest key [] = None
latest key (p ∷ ps) = option_or (latest key ps) (cond (pointwise nat_eq key p.0) (Some p.1) None)

-- the value under a key
abbrev pub value_of : List ℕ → List (List ℕ × AttrValue) → Option AttrValue
value_of key ps = find (slice_cmp nat_cmp) key ps

-- the first refusal that fits
unfoldable pub pairs_fault : List (List ℕ × AttrValue) → Option AttrFault
pairs_fault ps = first (wherever (λ i. faults.EmptyKey i) (λ p. not (has_text p.0)) ps ∷ [])
