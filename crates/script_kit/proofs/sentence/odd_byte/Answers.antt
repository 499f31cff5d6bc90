use Rattle.std.proofs.Common.{rules, tests, ◌≡◌, ◌∙◌, ℕ, Option, Some, None, refl}
use Rattle.std.specs.Prelude.{not, option_map}
use Rattle.std.proofs.lemmas.Iterator.{YieldsList-from_slice}
use Rattle.std.proofs.lemmas.Iterator.Adapters.{YieldsList-from_bytes}
use Rattle.std.proofs.lemmas.Iterator.Consumers.{YieldsList-from_copied}
use Rattle.std.proofs.lemmas.Iterator.Search.{find_from_yields_List}
use Rattle.script_kit.specs.Forms.{is_label_byte}
use Rattle.script_kit.specs.Words.{is_line_byte}
use Rattle.script_kit.proofs.sentence.odd_byte.Goals as goal

as_it_is : (r : Option ℕ) → r ≡ option_map (λ x. x) r
as_it_is None = refl
as_it_is (Some x) = refl

pub returns-in-Bytes : goal.returns-in-Bytes
returns-in-Bytes c =
    rw c.in-Bytes.is (as_it_is c.find.result
    ∙ find_from_yields_List (λ byte. not (is_line_byte byte)) _ _ c.find.result c.find.ensures.ran (YieldsList-from_copied (YieldsList-from_slice c.args.line.now cc)) (λ x b q k. search (rules, tests)))

pub returns-in-Label : goal.returns-in-Label
returns-in-Label c =
    rw c.in-Label.is (as_it_is c.find-in-Label.result
    ∙ find_from_yields_List (λ byte. not (is_label_byte byte)) _ _ c.find-in-Label.result c.find-in-Label.ensures.ran (YieldsList-from_bytes c.args.label.now cc) (λ x b q k. search (rules, tests)))
