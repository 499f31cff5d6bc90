use Rattle.std.proofs.Common.{◌≡◌, ◌∙◌, ◌∷◌, ◌<◌, ℕ, List, length, rules, sym, subst, ap, refl, false, not}
use Rattle.std.proofs.lemmas.Int.{to_z-of_z}
use Rattle.point_kit.specs.declared.shape.Shape.{Shape}
use Rattle.plan_kit.specs.Plans.{lacks, AreFeeds}
use Rattle.plan_kit.specs.declared.feed.Feed.{Feed}
use Rattle.agg_kit.specs.Feeds.{entries_of, shape_at, after_feeds}
use Rattle.agg_kit.specs.FreshPoints.{add_at, payload_with}
use Rattle.agg_kit.specs.Payloads.{is_out_of_range}
use Rattle.agg_kit.specs.Sound.{AreSound}
use Rattle.agg_kit.specs.Steps.{Stored}
use Rattle.agg_kit.specs.Tallies.{Points}
use Rattle.agg_kit.proofs.HeldPoints.{here-within, here-added, here-out, here-first, still-there}
use Rattle.agg_kit.proofs.Records.{set-other, entries-read, read-there, stored-length, sound-shape, recorded-here}
use Rattle.agg_kit.proofs.recording.+record_at.Goals as goal

pub shape_of-shape-requires : goal.shape_of-shape-requires
shape_of-shape-requires t c =
    let fits : AreFeeds (length c.args.series.now.items) (c.in-Some.feed.now ∷ c.in-Some.rest.now) = subst (AreFeeds (length c.args.series.now.items)) c.in-Some.ensures.cases.0 c.requires.feeds in
    subst (λ (n : ℕ). c.in-Some.feed.now.stream < n) (stored-length c.args.plan.now.streams c.args.series.now.items c.requires.sound) fits.0

pub returns-then-not-takes-clause-err : goal.returns-then-not-takes-clause-err
returns-then-not-takes-clause-err t c =
    let begins = rw c.unwrap.ensures at c.split_first-2.ensures.cases in
    let told = simp (to_z-of_z, c.ranges.value) at c.takes.ensures in
    here-out c.args.plan.now c.args.attrs.now c.args.value c.args.series.now.items c.in-Some.feed.now c.in-Some.rest.now c.args.feeds.now c.in-Some.ensures.cases.0 c.requires.feeds
    c.index-points.result.now c.index-points.ensures c.unwrap.result.0.now c.unwrap.result.1.now c.args.places.now begins.0 c.requires.at
    (told (shape_at c.args.plan.now c.in-Some.feed.now.stream) ∙ ap not c.if-not-takes.true)

pub returns-in_err-record_at-clause-err : goal.returns-in_err-record_at-clause-err
returns-in_err-record_at-clause-err t c =
    let begins = rw c.unwrap.ensures at c.split_first-2.ensures.cases in
    let told = simp (to_z-of_z, c.ranges.value) at c.takes.ensures in
    let first = here-first c.args.plan.now c.args.attrs.now c.args.value c.args.series.now.items c.in-Some.feed.now c.in-Some.rest.now c.args.feeds.now c.in-Some.ensures.cases.0 c.requires.feeds
    c.index-points.result.now c.index-points.ensures c.unwrap.result.0.now c.unwrap.result.1.now c.args.places.now begins.0 c.requires.at
    (told (shape_at c.args.plan.now c.in-Some.feed.now.stream) ∙ ap not c.if-not-takes.false) in
    let rest = simp (to_z-of_z, c.ranges.value) at c.in_err-record_at.ensures.err in
    let so = first ∙ rest in
    search (rules, so, c.from_residual.ensures)

pub add-requires-clause-within : goal.add-requires-clause-within
add-requires-clause-within t c =
    let begins = rw c.unwrap.ensures at c.split_first-2.ensures.cases in
    let fits : AreFeeds (length c.args.series.now.items) (c.in-Some.feed.now ∷ c.in-Some.rest.now) = subst (AreFeeds (length c.args.series.now.items)) c.in-Some.ensures.cases.0 c.requires.feeds in
    let here = still-there c.args.series.now.items c.record_at.new.series.items c.in-Some.feed.now.stream c.index-points.result.now c.index_mut.result.now fits.0 c.index-points.ensures
    (c.record_at.ensures.others c.in-Some.feed.now.stream fits.1) c.index_mut.ensures.value in
    subst (λ (s : Stored). c.unwrap.result.0.now < length s.entries) (sym here)
    (here-within c.args.plan.now c.args.attrs.now c.args.value c.args.series.now.items c.in-Some.feed.now c.in-Some.rest.now c.args.feeds.now c.in-Some.ensures.cases.0 c.requires.feeds
    c.index-points.result.now c.index-points.ensures c.unwrap.result.0.now c.unwrap.result.1.now c.args.places.now begins.0 c.requires.at)

pub add-requires-clause-sound : goal.add-requires-clause-sound
add-requires-clause-sound t c =
    let fits : AreFeeds (length c.args.series.now.items) (c.in-Some.feed.now ∷ c.in-Some.rest.now) = subst (AreFeeds (length c.args.series.now.items)) c.in-Some.ensures.cases.0 c.requires.feeds in
    let here = still-there c.args.series.now.items c.record_at.new.series.items c.in-Some.feed.now.stream c.index-points.result.now c.index_mut.result.now fits.0 c.index-points.ensures
    (c.record_at.ensures.others c.in-Some.feed.now.stream fits.1) c.index_mut.ensures.value in
    let l = subst (λ (n : ℕ). c.in-Some.feed.now.stream < n) (stored-length c.args.plan.now.streams c.args.series.now.items c.requires.sound) fits.0 in
    let sound = sound-shape c.args.plan.now (entries_of c.args.series.now.items) c.in-Some.feed.now.stream l c.requires.sound in
    let same = entries-read c.args.series.now.items c.in-Some.feed.now.stream c.index-points.result.now fits.0 c.index-points.ensures in
    subst (λ (s : Shape). AreSound s c.index_mut.result.now.entries) (sym c.shape_of-shape.ensures.value)
    (subst (λ (es : Points). AreSound (shape_at c.args.plan.now c.in-Some.feed.now.stream) es) (same ∙ sym (ap (λ (s : Stored). s.entries) here)) sound)

pub add-requires-clause-in_range : goal.add-requires-clause-in_range
add-requires-clause-in_range t c =
    let fits : AreFeeds (length c.args.series.now.items) (c.in-Some.feed.now ∷ c.in-Some.rest.now) = subst (AreFeeds (length c.args.series.now.items)) c.in-Some.ensures.cases.0 c.requires.feeds in
    let here = still-there c.args.series.now.items c.record_at.new.series.items c.in-Some.feed.now.stream c.index-points.result.now c.index_mut.result.now fits.0 c.index-points.ensures
    (c.record_at.ensures.others c.in-Some.feed.now.stream fits.1) c.index_mut.ensures.value in
    let told = simp (to_z-of_z, c.ranges.value) at c.takes.ensures in
    simp (to_z-of_z, c.ranges.value)
    (subst (λ (s : Stored). is_out_of_range (payload_with c.shape_of-shape.result.now s.entries c.unwrap.result.0.now c.args.value) ≡ false) (sym here)
    (told c.shape_of-shape.result.now ∙ ap not c.if-not-takes.false))

pub returns-clause-value : goal.returns-clause-value
returns-clause-value t c =
    let begins = rw c.unwrap.ensures at c.split_first-2.ensures.cases in
    let fits : AreFeeds (length c.args.series.now.items) (c.in-Some.feed.now ∷ c.in-Some.rest.now) = subst (AreFeeds (length c.args.series.now.items)) c.in-Some.ensures.cases.0 c.requires.feeds in
    let there = c.record_at.ensures.others c.in-Some.feed.now.stream fits.1 ∙ read-there c.args.series.now.items c.in-Some.feed.now.stream c.index-points.result.now fits.0 c.index-points.ensures in
    let now = c.index_mut.result.now in
    let added = here-added c.args.plan.now c.args.attrs.now c.args.value c.args.series.now.items c.in-Some.feed.now c.in-Some.rest.now c.args.feeds.now c.in-Some.ensures.cases.0 c.requires.feeds
    c.index-points.result.now c.index-points.ensures c.unwrap.result.0.now c.unwrap.result.1.now c.args.places.now begins.0 c.requires.at in
    recorded-here c.args.plan.now c.in-Some.feed.now c.in-Some.rest.now c.args.attrs.now c.args.value c.args.series.now.items c.record_at.new.series.items c.index-points.result.now c.index-points.result.now now c.add.new.self
    (λ es. add_at (shape_at c.args.plan.now c.in-Some.feed.now.stream) es c.unwrap.result.0.now c.args.value) there refl c.index_mut.ensures.value
    (simp (to_z-of_z, c.ranges.value) at c.in_ok-record_at.ensures.value)
    added
    ((simp (to_z-of_z, c.ranges.value) at c.add.ensures) ∙ ap (λ (s : Shape). add_at s now.entries c.unwrap.result.0.now c.args.value) c.shape_of-shape.ensures.value)
    ∙ ap (λ (fs : List Feed). after_feeds c.args.plan.now fs c.args.attrs.now c.args.value (entries_of c.args.series.now.items)) (sym c.in-Some.ensures.cases.0)

pub returns-clause-ok : goal.returns-clause-ok
returns-clause-ok t c =
    let begins = rw c.unwrap.ensures at c.split_first-2.ensures.cases in
    let told = simp (to_z-of_z, c.ranges.value) at c.takes.ensures in
    here-first c.args.plan.now c.args.attrs.now c.args.value c.args.series.now.items c.in-Some.feed.now c.in-Some.rest.now c.args.feeds.now c.in-Some.ensures.cases.0 c.requires.feeds
    c.index-points.result.now c.index-points.ensures c.unwrap.result.0.now c.unwrap.result.1.now c.args.places.now begins.0 c.requires.at
    (told (shape_at c.args.plan.now c.in-Some.feed.now.stream) ∙ ap not c.if-not-takes.false)
    ∙ (simp (to_z-of_z, c.ranges.value) at c.in_ok-record_at.ensures.ok)

pub returns-clause-others : goal.returns-clause-others
returns-clause-others t c = λ m l.
    let l' : lacks m (c.in-Some.feed.now ∷ c.in-Some.rest.now) = subst (lacks m) c.in-Some.ensures.cases.0 l in
    set-other c.record_at.new.series.items c.in-Some.feed.now.stream m c.add.new.self l'.0 ∙ c.record_at.ensures.others m l'.1
