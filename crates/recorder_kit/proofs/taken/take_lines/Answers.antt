use Rattle.std.proofs.Common.{◌≡◌, ◌∙◌, ◌+◌, ◌∷◌, [], ◌++◌, ◌<◌, length, get_or, take, pos, sym, ap, subst, ℕ}
use Rattle.std.proofs.lemmas.List.{take_more, length-map}
use Rattle.std.proofs.lemmas.List.Sums.{fold-append}
use Rattle.recorder_kit.specs.Lines.{recording_of, recordings_of}
use Rattle.recorder_kit.specs.Log.{Outcome, Recording, nothing_taken, taken_in, taken_one}
use Rattle.recorder_kit.specs.declared.line.Line.{Line}
use Rattle.recorder_kit.specs.declared.line.Spot.TheVariants.{Number}
use Rattle.recorder_kit.proofs.Logs.{there-get, at-get}
use Rattle.recorder_kit.proofs.Outcomes.{noted-more}
use Rattle.recorder_kit.proofs.taken.take_lines.Goals as goal

pub record_line-told-requires-clause-there : goal.record_line-told-requires-clause-there
record_line-told-requires-clause-there c = there-get c.args.names.now.named.keys c.args.names.now.sets.keys c.args.lines.now c.loop-line.line-index (record { at = Number 0; value = pos 0 }) c.requires c.loop-line-test.true

pub loop-line-preserved : goal.loop-line-preserved
loop-line-preserved c =
    let ns = c.args.names.now.named.keys in
    let ks = c.args.names.now.sets.keys in
    let ls = c.args.lines.now in
    let i = c.loop-line.line-index in
    let d : Line = record { at = Number 0; value = pos 0 } in
    let r : Recording = recording_of ns ks (get_or ls i d) in
    let rs = recordings_of ns ks ls in
    let t = c.args.tally.now in
    let told = c.record_line-told.ensures in
    let noted = noted-more c.loop-line.tally c.record_line-told.new.tally c.loop-line.taken c.note.new.self r c.note.result c.record_line-told.result
    told.answered c.note.ensures.ok c.note.ensures.err c.note.ensures.no_memory c.if-not-note.false in
    let l : i < length rs = subst (λ (n : ℕ). i < n) (sym (length-map ls (recording_of ns ks))) c.loop-line-test.true in
    let taken : take (i + 1) rs ≡ take i rs ++ r ∷ [] = take_more rs i r l ∙ ap (λ (x : Recording). take i rs ++ x ∷ []) (at-get ns ks ls i d r c.loop-line-test.true) in (
      noted.1 ∙ ap (λ n. n + 1) c.loop-line.invariant.0,
      noted.0 ∙ ap (λ (o : Outcome). taken_one o r) c.loop-line.invariant.1 ∙ sym (fold-append taken_one (nothing_taken t) (take i rs) (r ∷ [])) ∙ ap (taken_in t) (sym taken),
      told.known,
    )
