use Rattle.std.proofs.Common.{◌≡◌, ◌+◌, ◌∙◌, map, length, Err, sym, ap, rules, arith}
use Rattle.std.proofs.lemmas.Result.{err_from_is_err_and}
use Rattle.std.specs.Vec.{vec_len}
use Rattle.std.specs.Vec.Iter.{into_iter_items, into_iter_len}
use Rattle.otlp_kit.specs.Reading.{add_export, said_of}
use Rattle.otlp_kit.specs.Walks.{walk, walk_from}
use Rattle.otlp_kit.proofs.Building.{says, built_on, built_refused, nothing_left}
use Rattle.otlp_kit.proofs.decode.add_exports.Goals as goal

pub loop-group-init : goal.loop-group-init
unfolding walk
loop-group-init c =
    let size : vec_len c.args.groups ≡ length c.args.groups.items = search rules in
    (0, (ap (walk_from (add_export c.args.writer.now) 0 (map said_of c.args.exports.now.items)) c.into_iter-rest.ensures.rest, c.into_iter-rest.ensures.len ∙ size ∙ sym (ap length c.into_iter-rest.ensures.rest)))

pub loop-group-preserved : goal.loop-group-preserved
loop-group-preserved c =
    let w = c.args.writer.now in
    let g = c.in-Some.group in
    let e = c.in_ok-export.export in
    let said = says w g e (c.in_ok-export.ensures.writer ∙ c.in_ok-try_copy.ensures.value) c.in_ok-export.ensures.start c.in_ok-export.ensures.taken_at c.in_ok-export.ensures.points in
    let one : into_iter_len c.next.new.self + 1 ≡ into_iter_len c.loop-group.rest = search rules in
    let size : into_iter_len c.next.new.self ≡ length (into_iter_items c.next.new.self) = omega (arith, one, c.loop-group.invariant.1.1, ap length c.in-Some.ensures.items) in
    (c.loop-group.invariant.0 + 1, (built_on w _ c.loop-group.invariant.0 c.loop-group.exports.items c.push_export.new.exports.items e g (into_iter_items c.loop-group.rest) (into_iter_items c.next.new.self) c.in-Some.ensures.items c.loop-group.invariant.1.0 c.in_ok-export.ensures.ok said c.in_ok-push_export.ensures, size))

pub returns-in_err-export-clause-err : goal.returns-in_err-export-clause-err
returns-in_err-export-clause-err c =
    let p = err_from_is_err_and c.from_residual-in_err-export.result c.from_residual-in_err-export.ensures.1 in
    let size : c.len.result ≡ length c.loop-group.exports.items = search rules in
    rw (p.1, p.2) (λ ne.
    let bad = c.in_err-export.ensures.err ne in
    built_refused c.args.writer.now _ c.loop-group.invariant.0 c.len.result c.loop-group.exports.items c.in-Some.group bad.0 (into_iter_items c.loop-group.rest) (into_iter_items c.next.new.self) c.in-Some.ensures.items c.loop-group.invariant.1.0 size bad.1
    ∙ ap (λ f. Err f) (sym bad.2))

pub returns-clause-ok : goal.returns-clause-ok
returns-clause-ok c =
    let empty : into_iter_len c.loop-group.rest ≡ 0 = search rules in
    let none = nothing_left (into_iter_items c.loop-group.rest) (sym c.loop-group.invariant.1.1 ∙ empty) in
    sym c.loop-group.invariant.1.0 ∙ ap (walk_from (add_export c.args.writer.now) c.loop-group.invariant.0 (map said_of c.loop-group.exports.items)) none
