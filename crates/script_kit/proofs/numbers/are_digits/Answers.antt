use Rattle.std.proofs.Common.{◌≡◌, rules, tests, ◌∙◌, List, ℕ, [], ◌∷◌, ap, refl, ◌&&◌}
use Rattle.std.proofs.lemmas.Iterator.Adapters.{YieldsList-from_bytes}
use Rattle.std.proofs.lemmas.Iterator.Search.{all_from_yields_List}
use Rattle.std.specs.List.{list_all}
use Rattle.std.specs.Str.{all_ascii_digits}
use Rattle.std.specs.Char.{is_ascii_digit}
use Rattle.script_kit.proofs.numbers.are_digits.Goals as goal

same : (bs : List ℕ) → list_all is_ascii_digit bs ≡ all_ascii_digits bs
same [] = refl
same (b ∷ bs) = ap (λ r. is_ascii_digit b && r) (same bs)

pub returns : goal.returns
returns c =
    all_from_yields_List is_ascii_digit _ _ _ c.all.ensures.ran (YieldsList-from_bytes c.args.word.now cc) (λ x b q k. search (rules, tests))
    ∙ same c.args.word.now
