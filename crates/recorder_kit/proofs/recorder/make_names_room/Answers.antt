use Rattle.std.proofs.Common.{◌≡◌, ◌-◌, List, ap, arith, length}
use Rattle.std.proofs.lemmas.List.{length-drop, length-map}
use Rattle.recorder_kit.specs.Lines.{recording_of}
use Rattle.recorder_kit.specs.Log.{Recording}
use Rattle.recorder_kit.specs.declared.line.Line.{Line}
use Rattle.recorder_kit.proofs.recorder.make_names_room.Goals as goal

pub returns-clause-left : goal.returns-clause-left
returns-clause-left c =
    let ls = c.in_ok-lines.lines.items in
    let left = c.remaining.result.now in
    let same = ap (λ (rs : List Recording). length rs) c.in_ok-lines.ensures.same in
    let now = length-map ls (recording_of c.in_ok-lines.fresh.named.keys c.in_ok-lines.fresh.sets.keys) in
    let then = length-map left (recording_of c.args.names.now.named.keys c.args.names.now.sets.keys) in
    let was = ap (λ (xs : List Line). length xs) c.remaining.ensures in
    let dropped = length-drop c.args.given.now c.args.log.now.items in
    let put = ap (λ (xs : List Line). length xs) c.put_lines.ensures.items in
    let deref = ap (λ (xs : List Line). length xs) c.deref.ensures.value in
    omega (arith, same, now, then, was, dropped, put, deref)
