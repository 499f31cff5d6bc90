-- Exports that are built, one after another.
use Rattle.std.proofs.Common.{◌≡◌, ℕ, true, ◌+◌, List, [], ◌∷◌, ◌++◌, length, map, Option, Some, None, Result, Ok, Err, refl, sym, ap, ◌∙◌, arith}
use Rattle.std.specs.Prelude.{◌==◌}
use Rattle.std.proofs.lemmas.Bool.Decides.{nat_tests}
use Rattle.std.proofs.lemmas.List.{map-append, length-map}
use Rattle.point_kit.specs.ExportFaults.{export_fault}
use Rattle.point_kit.specs.declared.export.Export.{Export}
use Rattle.point_kit.specs.declared.export_fault.ExportFault.{ExportFault}
use Rattle.point_kit.specs.declared.writer_id.WriterId.{WriterId}
use Rattle.otlp_kit.specs.Fields.{and_then, refused}
use Rattle.otlp_kit.specs.Reading.{Said, said_of, built, add_export}
use Rattle.otlp_kit.specs.Walks.{walk_from}
use Rattle.otlp_kit.specs.declared.group.Group.{Group}
use Rattle.otlp_kit.specs.declared.request_fault.RequestFault.{RequestFault}
use Rattle.otlp_kit.specs.declared.request_fault.RequestReason.TheVariants as reasons

abbrev pub said_by : WriterId → Group → Said
said_by w g = record { writer = w; start = g.start; time = g.time; points = g.points }

-- an export of a group says what the group does
pub says : (w : WriterId) (g : Group) (e : Export) → e.writer ≡ w → e.start ≡ g.start → e.time ≡ g.time → e.points ≡ g.points → said_of e ≡ said_by w g
says w g e a b c d = λ i. record { writer = a i; start = b i; time = c i; points = d i }

-- a group is built, and the rest is left
pub built_on : (w : WriterId) (whole : Result (List Said) RequestFault) (i : ℕ) (es new : List Export) (e : Export) (g : Group) (gs rest : List Group) → gs ≡ g ∷ rest → walk_from (add_export w) i (map said_of es) gs ≡ whole → export_fault g.start g.time g.points ≡ None → said_of e ≡ said_by w g → new ≡ es ++ e ∷ [] → walk_from (add_export w) (i + 1) (map said_of new) rest ≡ whole
built_on w whole i es new e g gs rest first inv none said pushed =
    ap (λ (l : List Export). walk_from (add_export w) (i + 1) (map said_of l) rest) pushed
    ∙ ap (λ (l : List Said). walk_from (add_export w) (i + 1) l rest) (map-append said_of es (e ∷ []))
    ∙ ap (λ (s : Said). walk_from (add_export w) (i + 1) (map said_of es ++ s ∷ []) rest) said
    ∙ sym (ap (λ (o : Option ExportFault). and_then (and_then (built (length (map said_of es)) (said_by w g) o) (λ s. Ok (map said_of es ++ s ∷ []))) (λ t. walk_from (add_export w) (i + 1) t rest)) none)
    ∙ sym (ap (walk_from (add_export w) i (map said_of es)) first)
    ∙ inv

-- a group that makes no export is refused
pub built_refused : (w : WriterId) (whole : Result (List Said) RequestFault) (i k : ℕ) (es : List Export) (g : Group) (f : ExportFault) (gs rest : List Group) → gs ≡ g ∷ rest → walk_from (add_export w) i (map said_of es) gs ≡ whole → k ≡ length es → export_fault g.start g.time g.points ≡ Some f → whole ≡ Err (refused (reasons.BadExport f) k)
built_refused w whole i k es g f gs rest first inv at bad =
    sym inv ∙ ap (walk_from (add_export w) i (map said_of es)) first
    ∙ ap (λ (o : Option ExportFault). and_then (and_then (built (length (map said_of es)) (said_by w g) o) (λ s. Ok (map said_of es ++ s ∷ []))) (λ t. walk_from (add_export w) (i + 1) t rest)) bad
    ∙ ap (λ (n : ℕ). Err (refused (reasons.BadExport f) n)) (length-map es said_of ∙ sym at)

pub nothing_left : {A : Type 0} (xs : List A) → length xs ≡ 0 → xs ≡ []
nothing_left [] e = refl
nothing_left (x ∷ xs) e = absurd (omega arith)

pub no_length : (n : ℕ) → true ≡ (n == 0) → n ≡ 0
no_length n e = grind (arith, nat_tests)
