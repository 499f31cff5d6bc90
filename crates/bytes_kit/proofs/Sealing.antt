-- The bytes of fields: what they begin with, and what they are the bytes of.
use Rattle.std.proofs.Common.{◌≡◌, ◌≢◌, ℕ, ◌+◌, ◌-◌, List, ◌++◌, length, take, refl, sym, ap, subst, ◌∙◌, append_assoc, arith, length-append, Option, Some, None}
use Rattle.std.proofs.Props.{props}
use Rattle.std.specs.Int.{w32, to_be_bytes}
use Rattle.std.proofs.lemmas.List.{append_cancel_left, take_at}
use Rattle.point_kit.specs.ExportFaults.{export_fault}
use Rattle.point_kit.specs.declared.export.Export.{Export}
use Rattle.point_kit.specs.declared.export_fault.ExportFault.{ExportFault}
use Rattle.point_kit.specs.declared.export_fault.ExportFault.TheVariants as builds
use Rattle.bytes_kit.specs.Checksum.{checksum}
use Rattle.bytes_kit.specs.Explaining.{IsSealFault, IsFieldsFault, Explains}
use Rattle.bytes_kit.specs.Faults.{decode_fault}
use Rattle.bytes_kit.specs.Format.{Fields, fields_of, with_checksum, bytes_of_fields}
use Rattle.bytes_kit.specs.Codes.{IsCode}
use Rattle.bytes_kit.specs.Reading.{NoneAt}
use Rattle.bytes_kit.specs.declared.fault.DecodeFault.{DecodeFault}
use Rattle.bytes_kit.specs.declared.fault.DecodeFault.TheVariants as faults

-- the checksum of bytes, as bytes
abbrev seal : List ℕ → List ℕ
seal front = to_be_bytes w32 (checksum front)

front_of : (body rest : List ℕ) → take (length (body ++ rest) - length rest) (body ++ rest) ≡ body
front_of body rest = take_at body rest (length (body ++ rest) - length rest) (omega (arith, length-append body rest))

-- why the checksum is not read says why no fields are
end_place : (i end all front rest : ℕ) → i ≡ end - rest → end ≡ all → all ≡ front + rest → i ≡ front
end_place i end all front rest p q r = omega arith

-- bytes that begin with a head, fields of some kind behind it, and their checksum at the end
module _ {A : Type 0} (head : List ℕ) (fields : A → List ℕ) where
  opened : (p : A) → with_checksum (head ++ fields p) ≡ head ++ (fields p ++ seal (head ++ fields p))
  unfolding with_checksum
  opened p = append_assoc head (fields p) (seal (head ++ fields p))

  behind_head : (bytes mid : List ℕ) (p : A) → bytes ≡ head ++ mid → bytes ≡ with_checksum (head ++ fields p) → mid ≡ fields p ++ seal (head ++ fields p)
  behind_head bytes mid p is e = append_cancel_left head mid (fields p ++ seal (head ++ fields p)) (sym is ∙ e ∙ opened p)

  pub no_head : (bytes : List ℕ) → ((rest : List ℕ) → bytes ≢ head ++ rest) → (p : A) → bytes ≢ with_checksum (head ++ fields p)
  no_head bytes none p e = none (fields p ++ seal (head ++ fields p)) (e ∙ opened p)

  pub no_fields : (fits : A → Type 0) (bytes mid : List ℕ) → bytes ≡ head ++ mid → NoneAt fields fits mid → (p : A) → fits p → bytes ≢ with_checksum (head ++ fields p)
  no_fields fits bytes mid is none p fit e = none p (seal (head ++ fields p)) fit (behind_head bytes mid p is e)

  -- what the checksum is of
  body_is : (bytes mid rest : List ℕ) (x : A) → bytes ≡ head ++ mid → mid ≡ fields x ++ rest → take (length bytes - length rest) bytes ≡ head ++ fields x
  body_is bytes mid rest x is at =
      let whole : bytes ≡ (head ++ fields x) ++ rest = is ∙ ap (λ (l : List ℕ). head ++ l) at ∙ sym (append_assoc head (fields x) rest) in
      subst (λ (l : List ℕ). take (length l - length rest) l ≡ head ++ fields x) (sym whole) (front_of (head ++ fields x) rest)

  sum_is : (bytes mid rest body : List ℕ) (x : A) (sum : ℕ) → bytes ≡ head ++ mid → mid ≡ fields x ++ rest → body ≡ take (length bytes - length rest) bytes → sum ≡ checksum body → to_be_bytes w32 sum ≡ seal (head ++ fields x)
  sum_is bytes mid rest body x sum is at taken summed =
      ap (λ (n : ℕ). to_be_bytes w32 n) (summed ∙ ap (λ (l : List ℕ). checksum l) (taken ∙ body_is bytes mid rest x is at))

  pub no_seal : IsCode fields → (bytes mid rest body : List ℕ) (x : A) (sum : ℕ) → bytes ≡ head ++ mid → mid ≡ fields x ++ rest → body ≡ take (length bytes - length rest) bytes → sum ≡ checksum body → rest ≢ to_be_bytes w32 sum → (p : A) → bytes ≢ with_checksum (head ++ fields p)
  no_seal is_code bytes mid rest body x sum is at taken summed no_sum p e =
      let both = is_code x p rest (seal (head ++ fields p)) (sym at ∙ behind_head bytes mid p is e) in
      no_sum (both.1 ∙ ap (λ (a : A). seal (head ++ fields a)) (sym both.0) ∙ sym (sum_is bytes mid rest body x sum is at taken summed))

  pub is_sealed : (bytes mid rest body : List ℕ) (x : A) (sum : ℕ) → bytes ≡ head ++ mid → mid ≡ fields x ++ rest → body ≡ take (length bytes - length rest) bytes → sum ≡ checksum body → rest ≡ to_be_bytes w32 sum → bytes ≡ with_checksum (head ++ fields x)
  is_sealed bytes mid rest body x sum is at taken summed last =
      is ∙ ap (λ (l : List ℕ). head ++ l) (at ∙ ap (λ (l : List ℕ). fields x ++ l) (last ∙ sum_is bytes mid rest body x sum is at taken summed)) ∙ sym (opened x)

  pub seal_fault : (bytes mid rest body : List ℕ) (x : A) (sum end : ℕ) → bytes ≡ head ++ mid → mid ≡ fields x ++ rest → body ≡ take (length bytes - length rest) bytes → sum ≡ checksum body → end ≡ length bytes
      → (f : DecodeFault) → IsSealFault end rest sum f → IsFieldsFault head fields bytes f
  seal_fault bytes mid rest body x sum end is at taken summed ends (faults.Truncated i) h = h ∙ ends
  seal_fault bytes mid rest body x sum end is at taken summed ends (faults.BadMagic i) h = absurd h
  seal_fault bytes mid rest body x sum end is at taken summed ends (faults.BadVersion i) h = absurd h
  seal_fault bytes mid rest body x sum end is at taken summed ends (faults.NotCanonical i) h = omega arith
  seal_fault bytes mid rest body x sum end is at taken summed ends (faults.NotText i) h = absurd h
  seal_fault bytes mid rest body x sum end is at taken summed ends (faults.BadChecksum i) h =
      let whole : bytes ≡ (head ++ fields x) ++ rest = is ∙ ap (λ (l : List ℕ). head ++ l) at ∙ sym (append_assoc head (fields x) rest) in
      let long : length bytes ≡ length ((head ++ fields x) ++ rest) = ap length whole in
      let both : length ((head ++ fields x) ++ rest) ≡ length (head ++ fields x) + length rest = length-append (head ++ fields x) rest in
      let place : i ≡ end - length rest = h.0 in
      (x, rest, whole, end_place i end (length bytes) (length (head ++ fields x)) (length rest) place ends (long ∙ both), λ e. h.1 (e ∙ sym (sum_is bytes mid rest body x sum is at taken summed)))
  seal_fault bytes mid rest body x sum end is at taken summed ends (faults.BadExport f) h = absurd h
  seal_fault bytes mid rest body x sum end is at taken summed ends faults.NoMemory h = tt

  -- no two fields have the same bytes
  pub same_fields : IsCode fields → (bytes : List ℕ) (x y : A) → bytes ≡ with_checksum (head ++ fields x) → bytes ≡ with_checksum (head ++ fields y) → x ≡ y
  same_fields is_code bytes x y p q =
      let both = is_code x y (seal (head ++ fields x)) (seal (head ++ fields y)) (append_cancel_left head (fields x ++ seal (head ++ fields x)) (fields y ++ seal (head ++ fields y)) (sym (opened x) ∙ sym p ∙ q ∙ opened y)) in
      both.0

-- ---- exports

-- why fields make no export
abbrev pub fault_of : Fields → Option ExportFault
fault_of p = export_fault p.1.0 p.1.1.0 p.1.1.1

export_of : (x : Fields) → fault_of x ≡ None → Export
export_of x sound = record { writer = x.0; start = x.1.0; time = x.1.1.0; points = x.1.1.1; sound = sound }

same_export_of : (x y : Fields) → x ≡ y → (s : fault_of x ≡ None) (t : fault_of y ≡ None) → export_of x s ≡ export_of y t
same_export_of x y h s t =
    let one : IsProp (fault_of x ≡ None) = hlevel props in
    subst (λ (z : Fields). (u : fault_of z ≡ None) → export_of x s ≡ export_of z u) h (λ u. ap (λ q. export_of x q) (one s u)) t

-- exports of the same fields are one
pub same_export : (a b : Export) → fields_of a ≡ fields_of b → a ≡ b
unfolding export_of
same_export a b h = same_export_of (fields_of a) (fields_of b) h a.sound b.sound

-- the fault of fields that make an export
pub sound_fields : (x : Fields) (e : Export) → x ≡ fields_of e → fault_of x ≡ None
sound_fields x e h = ap fault_of h ∙ e.sound

pub built : (f : ExportFault) (fault : Option ExportFault) → (f ≢ builds.NoMemory → fault ≡ Some f) → fault ≡ None → decode_fault f ≡ faults.NoMemory
built builds.NoMemory fault why none = refl
built builds.TimeNotAfterStart fault why none = let e = why (λ h. absurd cc) in absurd cc
built (builds.KeyTwice i) fault why none = let e = why (λ h. absurd cc) in absurd cc
built (builds.WrongShape i) fault why none = let e = why (λ h. absurd cc) in absurd cc
built (builds.BucketCount i) fault why none = let e = why (λ h. absurd cc) in absurd cc
built (builds.CountMismatch i) fault why none = let e = why (λ h. absurd cc) in absurd cc
built (builds.NegativeTotal i) fault why none = let e = why (λ h. absurd cc) in absurd cc
built (builds.BadRange i) fault why none = let e = why (λ h. absurd cc) in absurd cc

-- why no export is built says what the bytes are
pub explained : (f : ExportFault) (bytes : List ℕ) (x : Fields) → bytes ≡ bytes_of_fields x → (f ≢ builds.NoMemory → fault_of x ≡ Some f) → Explains bytes (decode_fault f)
explained builds.NoMemory bytes x is why = tt
explained builds.TimeNotAfterStart bytes x is why = (x, is, why (λ h. absurd cc))
explained (builds.KeyTwice i) bytes x is why = (x, is, why (λ h. absurd cc))
explained (builds.WrongShape i) bytes x is why = (x, is, why (λ h. absurd cc))
explained (builds.BucketCount i) bytes x is why = (x, is, why (λ h. absurd cc))
explained (builds.CountMismatch i) bytes x is why = (x, is, why (λ h. absurd cc))
explained (builds.NegativeTotal i) bytes x is why = (x, is, why (λ h. absurd cc))
explained (builds.BadRange i) bytes x is why = (x, is, why (λ h. absurd cc))

-- a fault that cannot be another is want of memory
pub no_memory : (f : DecodeFault) → (f ≢ faults.NoMemory → ⊥) → f ≡ faults.NoMemory
no_memory faults.NoMemory other = refl
no_memory (faults.Truncated i) other = absurd (other (λ h. absurd cc))
no_memory (faults.BadMagic i) other = absurd (other (λ h. absurd cc))
no_memory (faults.BadVersion i) other = absurd (other (λ h. absurd cc))
no_memory (faults.NotCanonical i) other = absurd (other (λ h. absurd cc))
no_memory (faults.NotText i) other = absurd (other (λ h. absurd cc))
no_memory (faults.BadChecksum i) other = absurd (other (λ h. absurd cc))
no_memory (faults.BadExport f) other = absurd (other (λ h. absurd cc))
