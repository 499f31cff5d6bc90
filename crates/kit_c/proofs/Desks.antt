-- How calls of seats are refused, from what the calls of places say.
use Rattle.std.proofs.Common.{◌≡◌, ℕ, Option, Some}
use Rattle.std.specs.Prelude.{ℤ}
use Rattle.std.specs.Option.{unwrap_or}
use Rattle.kit_c.specs.Codes.{code_of}
use Rattle.kit_c.specs.Desks.{OneRefused, PlainRefused, PlainTwoRefused, TwoRefused}
use Rattle.kit_c.specs.Places.{place_of}
use Rattle.kit_c.specs.declared.desk.Desk.{Desk}
use Rattle.kit_c.specs.declared.fault.Fault.{Fault}

pub one_refused : (why : Desk → Desk → Fault → Type 0) (m n : Option Desk) (d e : Desk) (before told : ℕ) (code : ℤ) (f : Fault)
    → m ≡ Some d → n ≡ Some e → code ≡ code_of f → told ≡ unwrap_or (place_of f) before → why d e f → OneRefused why m n before told code
one_refused why m n d e before told code f em en c t w = rw (em, en) (f, c, t, w)

pub plain_refused : (why : Desk → Desk → Fault → Type 0) (m n : Option Desk) (d e : Desk) (code : ℤ) (f : Fault)
    → m ≡ Some d → n ≡ Some e → code ≡ code_of f → why d e f → PlainRefused why m n code
plain_refused why m n d e code f em en c w = rw (em, en) (f, c, w)

pub two_refused : {X : Type 0} (why : Desk → X → Desk → Fault → Type 0) (m n : Option Desk) (o : Option X) (d e : Desk) (x : X) (before told : ℕ) (code : ℤ)
    (f : Fault) → m ≡ Some d → o ≡ Some x → n ≡ Some e → code ≡ code_of f → told ≡ unwrap_or (place_of f) before → why d x e f
    → TwoRefused why m o n before told code
two_refused why m n o d e x before told code f em eo en c t w = rw (em, eo, en) (f, c, t, w)

pub plain_two_refused : {X : Type 0} (why : Desk → X → Desk → Fault → Type 0) (m n : Option Desk) (o : Option X) (d e : Desk) (x : X) (code : ℤ) (f : Fault)
    → m ≡ Some d → o ≡ Some x → n ≡ Some e → code ≡ code_of f → why d x e f → PlainTwoRefused why m o n code
plain_two_refused why m n o d e x code f em eo en c w = rw (em, eo, en) (f, c, w)
