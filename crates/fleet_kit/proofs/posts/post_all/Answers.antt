use Rattle.std.proofs.Common.{rules, arith, ◌≡◌, length, sym, subst, ◌∙◌}
use Rattle.crossbeam_channel.specs.Claims.{view}
use Rattle.std.proofs.lemmas.Bool.{MatchBool-at_false, MatchBool-at_true}
use Rattle.fleet_kit.proofs.Exports.{get_at}
use Rattle.fleet_kit.proofs.Posting.{looked_empty, looked_lost, looked_sent, none_long, some_long, unsent_all, UnsentBelow}
use Rattle.fleet_kit.proofs.posts.post_all.Goals as goal
use Rattle.fleet_kit.proofs.posts.post_all.Goals.{then-not-sent+then-not-is_empty, else-not-sent, else-not-sent-via-then-not-sent+else-not-is_empty, else-not-sent-via-else-not-sent}

pub loop-place-preserved : goal.loop-place-preserved
loop-place-preserved g c =
    let n = c.loop-place.place in
    let exports = c.args.exports.now in
    let e = c.index-exports-place.result in
    let at = get_at exports n e c.loop-place-test.true c.index-exports-place.is in
    let v = view c.loop-place.pass in
    let w' = view c.is_sent-sent.new.pass in
    let o = c.loop-place.unsent in
    let p = c.if-not-sent.unsent in
    let kept = c.loop-place.invariant in
    let told = c.is_sent-sent.ensures.told in
    elim c.if-not-sent.branch [
      | then-not-sent+then-not-is_empty w ↦
          let r = looked_lost n exports v w' o p e at (λ none. some_long w.points.result.now (sym w.is_empty.ensures ∙ w.if-not-is_empty.true) (w.points.ensures.value ∙ none)) (MatchBool-at_false _ _ w.if-not-sent.true told)
          (w.unsent-is ∙ w.or-unsent.ensures) (kept.1, kept.2, kept.3) in (search rules, r.0, r.1, r.2)
      | else-not-sent w ↦ elim w.else-not-sent.branch [
        | else-not-sent-via-then-not-sent+else-not-is_empty u ↦
            let r = looked_empty n exports v w' o p e at (sym u.points.ensures.value ∙ none_long u.points.result.now (sym u.is_empty.ensures ∙ u.if-not-is_empty.false)) (MatchBool-at_false _ _ u.if-not-sent.true told) w.unsent-is
            (kept.1, kept.2, kept.3) in (search rules, r.0, r.1, r.2)
        | else-not-sent-via-else-not-sent u ↦ let r = looked_sent n exports v w' o p e at (MatchBool-at_true _ _ u.if-not-sent.false told) w.unsent-is (kept.1, kept.2, kept.3) in (search rules, r.0, r.1, r.2)
      ]
    ]

pub returns-clause-told : goal.returns-clause-told
returns-clause-told g c =
    let a = c.loop-place-test.false in
    let b = c.loop-place.auto.place-end in
    let end : c.loop-place.place ≡ length c.args.exports.now = omega (arith, a, b) in
    let sent = (view c.loop-place.pass).sent in
    (c.loop-place.invariant.1, unsent_all c.args.exports.now sent c.loop-place.unsent (subst (λ n. UnsentBelow n c.args.exports.now sent c.loop-place.unsent) end c.loop-place.invariant.3))
