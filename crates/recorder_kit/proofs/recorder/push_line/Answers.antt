use Rattle.std.proofs.Common.{◌∙◌, ◌∷◌, [], ◌++◌, List, drop, length, arith, ap}
use Rattle.std.proofs.lemmas.List.{drop-append-le, length-append}
use Rattle.recorder_kit.specs.declared.line.Line.{Line}
use Rattle.recorder_kit.proofs.recorder.push_line.Goals as goal

pub returns-clause-lines : goal.returns-clause-lines
returns-clause-lines c =
    let line : Line = c.args.line in
    ap (λ (ls : List Line). drop c.make_room.new.given ls) c.push_reserved.ensures.items
    ∙ drop-append-le c.make_room.new.given c.make_room.new.log.items (line ∷ []) c.make_room.ensures.within
    ∙ ap (λ (ls : List Line). ls ++ line ∷ []) c.make_room.ensures.lines

pub returns-clause-within : goal.returns-clause-within
returns-clause-within c =
    let line : Line = c.args.line in
    let long = ap (λ (ls : List Line). length ls) c.push_reserved.ensures.items ∙ length-append c.make_room.new.log.items (line ∷ []) in
    omega (arith, long, c.make_room.ensures.within)
