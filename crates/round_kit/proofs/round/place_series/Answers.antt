use Rattle.std.proofs.Common.{◌≡◌, ◌∙◌, ◌<◌, ◌≤◌, ◌++◌, ℕ, Some, None, ap, sym, subst, map, take, length, slice_get, append-nil}
use Rattle.std.proofs.lemmas.List.{map-append, take_all}
use Rattle.std.proofs.lemmas.Option.{same_Some}
use Rattle.std.specs.Option.{unwrap_or}
use Rattle.std.specs.Map.{keys_of}
use Rattle.attr_kit.specs.declared.attr_set.AttrSet.{AttrSet}
use Rattle.point_kit.specs.declared.payload.Payload.{Payload}
use Rattle.agg_kit.specs.Feeds.{series_at}
use Rattle.agg_kit.specs.Tallies.{Points}
use Rattle.plan_kit.specs.Plans.{Planned, stream_of as stream_at}
use Rattle.round_kit.specs.Placed.{stream_of}
use Rattle.round_kit.specs.Rounds.{point_of, points_at}
use Rattle.round_kit.proofs.Steps.{no_points, none_there, placed_more, points_len, series_there}
use Rattle.round_kit.proofs.round.place_series.Goals as goal
use Rattle.round_kit.proofs.round.place_series.Goals.{in-Some-entry-2+in_ok-keys-2+in_ok-place-2+in_ok-place-3+in_ok-push, in_default-entry-2}

pub loop-k-init : goal.loop-k-init
loop-k-init c = record {
  placed = sym (append-nil _);
  keys = λ _ first at.
      let same = same_Some (c.in-Some-entry.first.now, c.in-Some-entry.field-0-1.now) first (c.in-Some-entry.ensures.value ∙ at) in
      c.in_ok-keys.ensures ∙ ap (λ (e : AttrSet × Payload). keys_of e.0) same;
}

-- a stream that shares keys has those of its first point everywhere
pub keys_for-requires-in-Some-entry-2 : goal.keys_for-requires-in-Some-entry-2
keys_for-requires-in-Some-entry-2 c = λ yes.
    let first : AttrSet × Payload = (c.in-Some-entry.first.now, c.in-Some-entry.field-0-1.now) in
    let at = sym c.in-Some-entry.ensures.value in
    let here : AttrSet × Payload = (c.in-Some-entry-2.attrs.now, c.in-Some-entry-2.payload.now) in
    c.loop-k.invariant.keys yes first at ∙ sym (c.shares_keys-shared.ensures.0 yes c.loop-k.k first here at (sym c.in-Some-entry-2.ensures.value))

pub returns-in_default-entry-clause-points : goal.returns-in_default-entry-clause-points
returns-in_default-entry-clause-points c = λ s es _ at_series.
    let none : slice_get es 0 ≡ None =
    ap (λ (ps : Points). slice_get ps 0) (sym (series_there c.args.tally.now.series c.args.number es at_series)) ∙ sym c.in_default-entry.ensures.value in
    sym (append-nil _) ∙ ap (λ l. map point_of c.args.points.now.items ++ l) (sym (no_points s es none))

pub loop-k-preserved : goal.loop-k-preserved
loop-k-preserved c =
    let entries = series_at c.args.tally.now.series c.args.number in
    elim c.match-entry-2.branch [
      | in-Some-entry-2+in_ok-keys-2+in_ok-place-2+in_ok-place-3+in_ok-push w ↦
          let here : AttrSet × Payload = (w.in-Some-entry-2.attrs.now, w.in-Some-entry-2.payload.now) in
          let at = sym w.in-Some-entry-2.ensures.value in
          record {
            placed =
                rw (w.points-is, w.in_ok-push.ensures.items, map-append)
                (placed_more _ _ _ _ _ _ _ _ _ at w.in_ok-place-2.ensures w.in_ok-place-3.ensures c.loop-k.invariant.placed);
            keys = λ yes first begin. rw w.keys-is (w.in_ok-keys-2.ensures ∙ c.shares_keys-shared.ensures.0 yes c.loop-k.k first here begin at);
          }
      | in_default-entry-2 w ↦
          let end : c.unwrap_or-k-end.result ≡ length entries =
          c.unwrap_or-k-end.ensures ∙ ap (λ o. unwrap_or o 0) c.series_len.ensures.value ∙ points_len c.args.tally.now.series c.args.number in
          absurd (none_there entries c.loop-k.k (sym w.in_default-entry-2.ensures.value) (subst (λ (n : ℕ). c.loop-k.k < n) end c.loop-k-test.true))
    ]

pub returns-clause-points : goal.returns-clause-points
returns-clause-points c s es at_stream at_series =
    let entries = series_at c.args.tally.now.series c.args.number in
    let end : c.unwrap_or-k-end.result ≡ length entries =
    c.unwrap_or-k-end.ensures ∙ ap (λ o. unwrap_or o 0) c.series_len.ensures.value ∙ points_len c.args.tally.now.series c.args.number in
    let all : take c.loop-k.k entries ≡ entries = take_all c.loop-k.k entries (subst (λ (n : ℕ). n ≤ c.loop-k.k) end c.loop-k-test.false) in
    let there : Some c.in-Some.stream.now ≡ Some s = c.in-Some.ensures.value ∙ ap (λ (p : Planned). stream_at p c.args.number) c.plan.ensures.value ∙ at_stream in
    let stream : stream_of c.in_ok-placed.field-0.now ≡ s = ap stream_of c.in_ok-placed.ensures ∙ c.in_ok-place.ensures ∙ same_Some c.in-Some.stream.now s there in
    let points = all ∙ series_there c.args.tally.now.series c.args.number es at_series in
    c.loop-k.invariant.placed ∙ (λ i. map point_of c.args.points.now.items ++ points_at (stream i) (points i))
