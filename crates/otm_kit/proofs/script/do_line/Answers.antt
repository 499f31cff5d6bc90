use Rattle.std.proofs.Common.{◌≡◌, ◌∙◌, sym, ap, [], ◌∷◌, ◌++◌, List, ℕ, subst, append-nil, string_bytes}
use Rattle.std.specs.Io.KnownBytes.{Appends}
use Rattle.std.proofs.KnownBytes.{Appends-nil}
use Rattle.script_kit.specs.Bytes.{AppendsFront}
use Rattle.otm_kit.specs.Effects.{done, bad}
use Rattle.otm_kit.specs.Says.{effect_text, piece_effect}
use Rattle.otm_kit.specs.Standing.{effect, IfDone, IsAfter}
use Rattle.otm_kit.specs.declared.desk.Outcome.{Outcome}
use Rattle.otm_kit.proofs.Effecting.{effect_at, effect_bad}
use Rattle.otm_kit.proofs.Telling.{front_none}
use Rattle.otm_kit.proofs.script.do_line.Goals as goal

pub returns-in-Err-NoMemory-clause-front : goal.returns-in-Err-NoMemory-clause-front
returns-in-Err-NoMemory-clause-front g c = λ before s. front_none _ _

pub returns-in-Err-Bad-clause-front : goal.returns-in-Err-Bad-clause-front
returns-in-Err-Bad-clause-front g c = λ before s. front_none _ _

pub returns-in-Err-clause-front : goal.returns-in-Err-clause-front
returns-in-Err-clause-front g c = λ before s. front_none _ _

pub returns-in-Err-Bad-clause-bad : goal.returns-in-Err-Bad-clause-bad
returns-in-Err-Bad-clause-bad g c = λ n is before s.
    let told = rw c.in-Err-Bad.field-0-is at c.in-Err-Bad.ensures.value in
    record {
      printed = [];
      why = c.in-Err-Bad.why;
      tells = c.bad_line.ensures.tells;
      effect = effect_bad before c.args.text.now c.in-Err-Bad.why told;
      appends = Appends-nil _;
    }

pub returns-in-Err-write_text-clause-front : goal.returns-in-Err-write_text-clause-front
returns-in-Err-write_text-clause-front g c = λ before s.
    let eff : piece_effect before c.args.text.now ≡ bad (string_bytes c.in-Ok-Bad.printed) c.in-Ok-Bad.why = effect_at before c.args.text.now c.in-Ok.line c.in-Ok-Bad.field-0 c.act.new.self c.in-Ok.ensures.value (c.in-Ok-Bad.ensures before s) ∙ ap effect c.in-Ok-Bad.field-0-is in
    let P : List ℕ → Type 0 = λ t. AppendsFront (g.W.Write.contents c.args.writer.now) (g.W.Write.contents c.write_text.new.writer) t in
    subst P (c.as_bytes.ensures.value ∙ sym (ap effect_text eff)) c.in-Err-write_text.ensures.front

pub returns-in-Ok-Bad-clause-bad : goal.returns-in-Ok-Bad-clause-bad
returns-in-Ok-Bad-clause-bad g c = λ n is before s.
    let eff : piece_effect before c.args.text.now ≡ bad (string_bytes c.in-Ok-Bad.printed) c.in-Ok-Bad.why = effect_at before c.args.text.now c.in-Ok.line c.in-Ok-Bad.field-0 c.act.new.self c.in-Ok.ensures.value (c.in-Ok-Bad.ensures before s) ∙ ap effect c.in-Ok-Bad.field-0-is in
    let P : List ℕ → Type 0 = λ t. Appends (g.W.Write.contents c.args.writer.now) (g.W.Write.contents c.write_text.new.writer) t in
    record {
      printed = string_bytes c.in-Ok-Bad.printed;
      why = c.in-Ok-Bad.why;
      tells = c.bad_line-in-Ok-write_text.ensures.tells;
      effect = eff;
      appends = subst P c.as_bytes.ensures.value c.in-Ok-write_text.ensures.ok;
    }

pub returns-in-Ok-Bad-clause-front : goal.returns-in-Ok-Bad-clause-front
returns-in-Ok-Bad-clause-front g c = λ before s.
    let eff : piece_effect before c.args.text.now ≡ bad (string_bytes c.in-Ok-Bad.printed) c.in-Ok-Bad.why = effect_at before c.args.text.now c.in-Ok.line c.in-Ok-Bad.field-0 c.act.new.self c.in-Ok.ensures.value (c.in-Ok-Bad.ensures before s) ∙ ap effect c.in-Ok-Bad.field-0-is in
    let P : List ℕ → Type 0 = λ t. Appends (g.W.Write.contents c.args.writer.now) (g.W.Write.contents c.write_text.new.writer) t in
    ([], (string_bytes c.in-Ok-Bad.printed, ap effect_text eff ∙ sym (append-nil _), subst P c.as_bytes.ensures.value c.in-Ok-write_text.ensures.ok))

pub returns-in-Err-write_text-2-clause-front : goal.returns-in-Err-write_text-2-clause-front
returns-in-Err-write_text-2-clause-front g c = λ before s.
    let eff : piece_effect before c.args.text.now ≡ done (string_bytes c.in-Ok-Done.printed) = effect_at before c.args.text.now c.in-Ok.line c.in-Ok-Done.field-0 c.act.new.self c.in-Ok.ensures.value (c.in-Ok-Done.ensures before s) ∙ ap effect c.in-Ok-Done.field-0-is in
    let P : List ℕ → Type 0 = λ t. AppendsFront (g.W.Write.contents c.args.writer.now) (g.W.Write.contents c.write_text-in-Ok-Done.new.writer) t in
    subst P (c.as_bytes-in-Ok-Done.ensures.value ∙ sym (ap effect_text eff)) c.in-Err-write_text-2.ensures.front

pub returns-clause-ok : goal.returns-clause-ok
returns-clause-ok g c = λ before s.
    let eff : piece_effect before c.args.text.now ≡ done (string_bytes c.in-Ok-Done.printed) = effect_at before c.args.text.now c.in-Ok.line c.in-Ok-Done.field-0 c.act.new.self c.in-Ok.ensures.value (c.in-Ok-Done.ensures before s) ∙ ap effect c.in-Ok-Done.field-0-is in
    let P : List ℕ → Type 0 = λ t. Appends (g.W.Write.contents c.args.writer.now) (g.W.Write.contents c.write_text-in-Ok-Done.new.writer) t in
    record {
      printed = string_bytes c.in-Ok-Done.printed;
      effect = eff;
      appends = subst P c.as_bytes-in-Ok-Done.ensures.value c.in-Ok-write_text-2.ensures.ok;
      line = c.in-Ok.line;
      is = c.in-Ok.ensures.value;
      after = subst (λ (o : Outcome). IfDone o (IsAfter (before ++ c.in-Ok.line ∷ []) c.act.new.self)) c.in-Ok-Done.field-0-is (c.in-Ok-Done.ensures before s).1;
    }
