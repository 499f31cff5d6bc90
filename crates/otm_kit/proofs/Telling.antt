-- What is said so far, and one line more.
use Rattle.std.proofs.Common.{◌≡◌, ◌+◌, ℕ, List, [], ◌∷◌, ◌++◌, ◌∙◌, ap, sym, append_assoc, append-nil, length-append, refl, length, Option, Some, None, Ok, Bool, true, false, arith, cond, ◌==◌, subst}
use Rattle.std.specs.Prelude.{if◌then◌else◌, IfSome, String, string_bytes}
use Rattle.std.specs.Option.{option_map}
use Rattle.std.specs.List.{slice_split, onto_first}
use Rattle.std.proofs.lemmas.List.Elements.{filter_map-append}
use Rattle.std.specs.Io.KnownBytes.{Appends}
use Rattle.std.proofs.KnownBytes.{Appends-trans, Appends-nil}
use Rattle.script_kit.specs.Bytes.{AppendsFront}
use Rattle.script_kit.specs.Lines.{line_of}
use Rattle.script_kit.specs.Reasons.{sentence_of}
use Rattle.script_kit.specs.Words.{pieces_of, is_filled}
use Rattle.script_kit.specs.declared.fault.ScriptFault.TheVariants as faults
use Rattle.script_kit.specs.declared.line.Line.{Line}
use Rattle.otm_kit.specs.Effects.{Effect, done, bad}
use Rattle.otm_kit.specs.Says.{Output, Wrong, output_of, says, wrong_of, bad_line_of, sentence_for, behind, then_says, piece_effect, lines_of, effect_text}
use Rattle.otm_kit.specs.Standing.{Does, Fails, FailsNext, IsAfter, Tells, TellsOf}
use Rattle.otm_kit.specs.declared.desk.Desk.{Desk}
use Rattle.otm_kit.specs.declared.ended.Ended.{Ended}
use Rattle.script_kit.specs.declared.reason.Reason.TheVariants as reason

-- The desk, the bytes and the number where the lines before are done, and this is left of the script.
pub record Told (script : List ℕ) (old now : Option (List ℕ)) (desk : Desk) (number : ℕ) (rest : List ℕ) : Type 0 where
  pub before : List (List ℕ)
  pub written : List ℕ
  pub stands : IsAfter (lines_of before) desk
  pub numbered : number ≡ length before + 1
  pub appends : Appends old now written
  pub to_say : output_of (pieces_of script) [] ≡ behind written (output_of (pieces_of rest) before)

pub told_none : (script : List ℕ) (old : Option (List ℕ)) (desk : Desk) → IsAfter [] desk → Told script old old desk 1 script
told_none script old desk e = record { before = []; written = []; stands = e; numbered = omega arith; appends = Appends-nil old; to_say = refl }

split_some : (p : ℕ → Bool) (xs : List ℕ) → (q : List ℕ) × ((qs : List (List ℕ)) × (slice_split p xs ≡ q ∷ qs))
split_some p [] = ([], ([], refl))
split_some p (x ∷ xs) =
    elim (p x) as (λ b. (q : List ℕ) × ((qs : List (List ℕ)) × (cond b ([] ∷ slice_split p xs) (onto_first x (slice_split p xs)) ≡ q ∷ qs))) [
      | true ↦ ([], (slice_split p xs, refl))
      | false ↦ let r = split_some p xs in (x ∷ r.0, (r.1.0, rw r.1.1 refl))
    ]

some_piece : (script : List ℕ) → (p : List ℕ) × ((ps : List (List ℕ)) × (pieces_of script ≡ p ∷ ps))
some_piece script = split_some (λ b. b == 10) script

output_more : (piece after : List ℕ) (before : List (List ℕ)) → output_of (piece ∷ pieces_of after) before
    ≡ then_says (length before + 1) piece (piece_effect (lines_of before) piece) (output_of (pieces_of after) (before ++ piece ∷ []))
unfolding output_of
output_more piece after before = let p = some_piece after in rw p.1.1 refl

pub front_none : (old : Option (List ℕ)) (text : List ℕ) → AppendsFront old old text
front_none old text = (text, ([], refl, Appends-nil old))

front_after : (old mid new : Option (List ℕ)) (written text rest : List ℕ) → Appends old mid written → AppendsFront mid new text → AppendsFront old new (written ++ (text ++ rest))
front_after old mid new written text rest p q = (
  q.0 ++ rest,
  (
    written ++ q.1.0,
    ap (λ t. written ++ (t ++ rest)) q.1.1 ∙ ap (λ t. written ++ t) (append_assoc q.1.0 q.0 rest) ∙ sym (append_assoc written q.1.0 (q.0 ++ rest)),
    Appends-trans old mid new written q.1.0 p q.1.2,
  ),
)

behind_behind : (a b : List ℕ) (s : Output) → behind a (behind b s) ≡ behind (a ++ b) s
behind_behind a b s = rw append_assoc refl

lines_push : (pieces : List (List ℕ)) (piece : List ℕ) (line : Line) → line_of piece ≡ Ok line → lines_of (pieces ++ piece ∷ []) ≡ lines_of pieces ++ line ∷ []
lines_push pieces piece line e = rw (filter_map-append, e) refl

-- what there is to say, at the next line
opened : (script : List ℕ) (old now : Option (List ℕ)) (desk : Desk) (number : ℕ) (rest piece after : List ℕ)
    → (t : Told script old now desk number rest) → pieces_of rest ≡ piece ∷ pieces_of after
    → output_of (pieces_of script) [] ≡ behind t.written (then_says number piece (piece_effect (lines_of t.before) piece) (output_of (pieces_of after) (t.before ++ piece ∷ [])))
opened script old now desk number rest piece after t cut =
    let here : output_of (pieces_of rest) t.before ≡ then_says number piece (piece_effect (lines_of t.before) piece) (output_of (pieces_of after) (t.before ++ piece ∷ [])) =
    ap (λ ps. output_of ps t.before) cut ∙ rw t.numbered (output_more piece after t.before) in
    t.to_say ∙ ap (behind t.written) here

pub told_more : (script : List ℕ) (old mid new : Option (List ℕ)) (desk desk' : Desk) (number : ℕ) (rest piece after : List ℕ)
    → (t : Told script old mid desk number rest) → pieces_of rest ≡ piece ∷ pieces_of after → Does (lines_of t.before) piece mid new desk' → Told script old new desk' (number + 1) after
told_more script old mid new desk desk' number rest piece after t cut d =
    let last : Output = output_of (pieces_of after) (t.before ++ piece ∷ []) in
    record {
      before = t.before ++ piece ∷ [];
      written = t.written ++ d.printed;
      stands = subst (λ (ls : List Line). IsAfter ls desk') (sym (lines_push t.before piece d.line d.is)) d.after;
      numbered = omega (arith, length-append t.before (piece ∷ []), t.numbered);
      appends = Appends-trans old mid new t.written d.printed t.appends d.appends;
      to_say = opened script old mid desk number rest piece after t cut ∙ ap (λ f. behind t.written (then_says number piece f last)) d.effect ∙ behind_behind t.written d.printed last;
    }

pub told_bad : (script : List ℕ) (old mid new : Option (List ℕ)) (desk : Desk) (number : ℕ) (rest piece after : List ℕ)
    → (t : Told script old mid desk number rest) → pieces_of rest ≡ piece ∷ pieces_of after → (end : Ended) → (f : Fails (lines_of t.before) piece mid new end)
    → Appends old new (says script) × (wrong_of script ≡ Some (record { number = number; line = piece; reason = f.why }))
unfolding says wrong_of
told_bad script old mid new desk number rest piece after t cut end d =
    let last : Output = output_of (pieces_of after) (t.before ++ piece ∷ []) in
    let whole : output_of (pieces_of script) [] ≡ record { text = t.written ++ d.printed; wrong = Some (record { number = number; line = piece; reason = d.why }) } =
    opened script old mid desk number rest piece after t cut ∙ ap (λ f. behind t.written (then_says number piece f last)) d.effect in
    let P : Output → Type 0 = λ s. Appends old new s.text in
    (subst P (sym whole) (Appends-trans old mid new t.written d.printed t.appends d.appends), ap (λ (s : Output). s.wrong) whole)

pub told_front : (script : List ℕ) (old mid new : Option (List ℕ)) (desk : Desk) (number : ℕ) (rest piece after : List ℕ)
    → (t : Told script old mid desk number rest) → pieces_of rest ≡ piece ∷ pieces_of after → AppendsFront mid new (effect_text (piece_effect (lines_of t.before) piece))
    → AppendsFront old new (says script)
unfolding says
told_front script old mid new desk number rest piece after t cut p =
    let last : Output = output_of (pieces_of after) (t.before ++ piece ∷ []) in
    let whole = opened script old mid desk number rest piece after t cut in
    let text : (f : Effect) → AppendsFront mid new (effect_text f) → AppendsFront old new ((behind t.written (then_says number piece f last)).text) =
    elim [
      | (done text) ↦ λ q. front_after old mid new t.written text last.text t.appends q
      | (bad text why) ↦ λ q. let P : List ℕ → Type 0 = λ x. AppendsFront old new (t.written ++ x) in
          subst P (append-nil text) (front_after old mid new t.written text [] t.appends q)
    ] in
    let P : Output → Type 0 = λ s. AppendsFront old new s.text in
    subst P (sym whole) (text (piece_effect (lines_of t.before) piece) p)

abbrev pub cut_at : ℕ → List ℕ → Wrong
cut_at number rest = record { number = number; line = rest; reason = reason.Cut }

-- what there is to say where no line feed is left
at_last : (script : List ℕ) (old now : Option (List ℕ)) (desk : Desk) (number : ℕ) (rest : List ℕ)
    → (t : Told script old now desk number rest) → pieces_of rest ≡ rest ∷ []
    → output_of (pieces_of script) [] ≡ record { text = t.written; wrong = if is_filled rest then Some (cut_at number rest) else None }
unfolding output_of
at_last script old now desk number rest t cut =
    let b : Option Wrong = if is_filled rest then Some (cut_at (length t.before + 1) rest) else None in
    let last : output_of (pieces_of rest) t.before ≡ record { text = []; wrong = b } = ap (λ ps. output_of ps t.before) cut in
    let near : behind t.written (record { text = []; wrong = b }) ≡ record { text = t.written; wrong = b } = rw append-nil refl in
    let P : ℕ → Type 0 = λ n. output_of (pieces_of script) [] ≡ record { text = t.written; wrong = if is_filled rest then Some (cut_at n rest) else None } in
    subst P (sym t.numbered) (t.to_say ∙ ap (behind t.written) last ∙ near)

pub told_end : (script : List ℕ) (old now : Option (List ℕ)) (desk : Desk) (number : ℕ) (rest : List ℕ)
    → Told script old now desk number rest → pieces_of rest ≡ rest ∷ [] → is_filled rest ≡ false
    → Appends old now (says script) × (wrong_of script ≡ None)
unfolding says wrong_of
told_end script old now desk number rest t cut e =
    let whole = at_last script old now desk number rest t cut in
    let P : Output → Type 0 = λ s. Appends old now s.text in
    (subst P (sym whole) t.appends, ap (λ (s : Output). s.wrong) whole ∙ ap (λ b. if b then Some (cut_at number rest) else None) e)

pub told_cut : (script : List ℕ) (old now : Option (List ℕ)) (desk : Desk) (number : ℕ) (rest : List ℕ)
    → Told script old now desk number rest → pieces_of rest ≡ rest ∷ [] → is_filled rest ≡ true
    → Appends old now (says script) × (wrong_of script ≡ Some (cut_at number rest))
unfolding says wrong_of
told_cut script old now desk number rest t cut e =
    let whole = at_last script old now desk number rest t cut in
    let P : Output → Type 0 = λ s. Appends old now s.text in
    (subst P (sym whole) t.appends, ap (λ (s : Output). s.wrong) whole ∙ ap (λ b. if b then Some (cut_at number rest) else None) e)

sentence_is : {Z : Type 0} (script : List ℕ) (w : Wrong) (o : Option (String Z)) → wrong_of script ≡ Some w → IfSome o (λ text. string_bytes text ≡ sentence_of w.line w.reason)
    → IfSome o (λ text. sentence_for script ≡ Some (string_bytes text))
sentence_is script w None is h = h
sentence_is script w (Some text) is h = ap (option_map (λ (v : Wrong). sentence_of v.line v.reason)) is ∙ ap (λ (t : List ℕ). Some t) (sym h)

-- what an end tells of a bad line it tells of the script
pub tells_of : (script : List ℕ) (end : Ended) (w : Wrong) → wrong_of script ≡ Some w → Tells end w.line w.reason → TellsOf end script
tells_of script end w is t = (t.reason ∙ sym (ap (option_map (λ (v : Wrong). v.reason)) is), sentence_is script w end.sentence is t.sentence)

-- what a run wrote that ended at a bad line, which line it is, and what its end tells
pub record EndsBad (script : List ℕ) (old new : Option (List ℕ)) (end : Ended) (n : ℕ) : Type 0 where
  pub wrote : Appends old new (says script)
  pub at : bad_line_of script ≡ Some n
  pub tells : TellsOf end script

-- the next line ends the run
pub ends_bad : (script : List ℕ) (old mid new : Option (List ℕ)) (desk : Desk) (number : ℕ) (rest piece after : List ℕ) (last end : Ended) (n : ℕ)
    → (t : Told script old mid desk number rest) → pieces_of rest ≡ piece ∷ pieces_of after → last ≡ end
    → ((k : ℕ) → last.fault ≡ faults.BadLine k → k ≡ number) → ((k : ℕ) → last.fault ≡ faults.BadLine k → FailsNext desk piece mid new last)
    → end.fault ≡ faults.BadLine n → EndsBad script old new end n
ends_bad script old mid new desk number rest piece after last end n t cut same numbered failing is =
    let fault : last.fault ≡ faults.BadLine n = ap (λ (e : Ended). e.fault) same ∙ is in
    let fails = failing n fault (lines_of t.before) t.stands in
    let wrong = told_bad script old mid new desk number rest piece after t cut last fails in
    record {
      wrote = wrong.0;
      at = ap (option_map (λ (w : Wrong). w.number)) wrong.1 ∙ ap (λ (k : ℕ). Some k) (sym (numbered n fault));
      tells = subst (λ (e : Ended). TellsOf e script) same (tells_of script last _ wrong.1 fails.tells);
    }
