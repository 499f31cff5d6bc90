-- Lists that are gone through until something is refused.
use Rattle.std.specs.Prelude.{ℕ, ◌+◌, List, [], ◌∷◌, Result, Ok}
use Rattle.std.specs.Option.{unwrap_or}
use Rattle.std.specs.List.{position_from}
use Rattle.std.specs.Ordering.{is_eq}
use Rattle.attr_kit.specs.Orders.{text_cmp}
use Rattle.otlp_kit.specs.Fields.{and_then}
use Rattle.otlp_kit.specs.declared.request_fault.RequestFault.{RequestFault}

module _ {S A : Type 0} (step : ℕ → S → A → Result S RequestFault) where
  -- each element changes what is held, the first of them standing at a place
  abbrev pub walk_from : ℕ → S → List A → Result S RequestFault
  walk_from i s [] = Ok s
  walk_from i s (x ∷ xs) = and_then (step i s x) (λ t. walk_from (i + 1) t xs)

  unfoldable pub walk : S → List A → Result S RequestFault
  walk s xs = walk_from 0 s xs

-- the least place at which a text stands in a list that has it
abbrev pub first_place : List (List ℕ) → List ℕ → ℕ
first_place texts t = unwrap_or (position_from (λ u. is_eq (text_cmp t u)) 0 texts) 0
