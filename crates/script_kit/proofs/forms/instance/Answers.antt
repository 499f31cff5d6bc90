use Rattle.std.proofs.Common.{◌≡◌, ◌∙◌, ℕ, List, Option, Some, None, Result, Ok, Err, refl, true}
use Rattle.std.specs.Prelude.{◌↔◌, IsOk, IfOk}
use Rattle.std.specs.Result.{result_ok, is_ok}
use Rattle.script_kit.specs.Forms.{uuid_of}
use Rattle.script_kit.proofs.forms.instance.Goals as goal

-- a result that is Ok exactly where there is a value, and then is that value
ok_is : {E : Type 0} (r : Result (List ℕ) E) (p : Option (List ℕ)) → (IsOk r ↔ ((u : List ℕ) × (p ≡ Some u))) → IfOk r (λ u. Some u ≡ p) → result_ok r ≡ p
ok_is (Ok u) p both is = is
ok_is (Err y) None both is = refl
ok_is {E} (Err y) (Some u) both is = let bad : is_ok {T = List ℕ} {E = E} (Err y) ≡ true = both.1 (u, refl) in cc

pub returns : goal.returns
unfolding uuid_of
returns c = c.ok.ensures.value ∙ ok_is c.parse_str.result _ c.parse_str.ensures.ok c.parse_str.ensures.bytes
