-- The program's command, and an answer that is there.
use Rattle.std.proofs.Common.{◌≡◌, Option, Some, None, Result, Ok, Err, refl, true, false, Bool}
use Rattle.std.specs.Prelude.{IfSome, IfOk, OnOk, ok_or}
use Rattle.clap.specs.Words.{is_simple, is_simple_and_free}
use Rattle.clap.proofs.OnLiterals.{clap_on_literals}
use Rattle.otm_kit.specs.Asked.{otm}

pub ok_from_some : {A E : Type 0} (P : A → Type 0) (o : Option A) (r : Result A E) (e : E) → r ≡ ok_or o e → IfSome o P → IfOk r P
ok_from_some P None r e is h = rw is tt
ok_from_some P (Some a) r e is h = rw is h

pub otm_is_simple : is_simple otm ≡ true
unfolding otm clap_on_literals
otm_is_simple = refl

pub otm_is_free : is_simple_and_free otm ≡ true
unfolding otm clap_on_literals
otm_is_free = refl

pub on_ok : {A E : Type 0} (r : Result A E) (P : Type 0) → P → OnOk r P
on_ok (Ok a) P p = p
on_ok (Err e) P p = tt

-- words of which it is wrong that they are taken
pub not_taken : (b : Bool) → (b ≡ true → ⊥) → b ≡ false
not_taken true wrong = absurd (wrong refl)
not_taken false wrong = refl
