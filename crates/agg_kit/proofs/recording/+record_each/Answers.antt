use Rattle.std.proofs.Common.{◌≡◌, ◌≢◌, ◌∙◌, ◌∷◌, ◌<◌, ℕ, List, length, rules, sym, subst, ap, refl, false, not}
use Rattle.std.proofs.lemmas.Int.{to_z-of_z}
use Rattle.point_kit.specs.declared.shape.Shape.{Shape}
use Rattle.plan_kit.specs.Plans.{lacks, AreFeeds}
use Rattle.plan_kit.specs.declared.feed.Feed.{Feed}
use Rattle.agg_kit.specs.Feeds.{entries_of, shape_at, after_feeds}
use Rattle.agg_kit.specs.FreshPoints.{add_at, with_fresh, payload_with, CanInsert}
use Rattle.agg_kit.specs.Payloads.{is_out_of_range}
use Rattle.agg_kit.specs.Sound.{AreSound}
use Rattle.agg_kit.specs.Steps.{Stored, fed_set}
use Rattle.agg_kit.specs.Tallies.{Points}
use Rattle.agg_kit.specs.declared.fault.TallyFault.TheVariants as faults
use Rattle.agg_kit.proofs.OneFeed.{fits, rest-ready, absent-first, absent-early, absent-held, there-within, there-added, there-out, there-first, there-early, stays, still}
use Rattle.agg_kit.proofs.Records.{set-other, same_entries, entries-read, stored-length, sound-shape, recorded-here, early-copied, if_err_so, on_err, on_err_map, step-along, if_err}
use Rattle.agg_kit.proofs.Steps.{absent}
use Rattle.agg_kit.proofs.recording.+record_each.Goals as goal

pub shape_of-shape-requires : goal.shape_of-shape-requires
shape_of-shape-requires t c =
    let fits : AreFeeds (length c.args.series.now.items) (c.in-Some.feed.now ∷ c.in-Some.rest.now) = subst (AreFeeds (length c.args.series.now.items)) c.in-Some.ensures.cases.0 c.requires.feeds in
    subst (λ (n : ℕ). c.in-Some.feed.now.stream < n) (stored-length c.args.plan.now.streams c.args.series.now.items c.requires.sound) fits.0

pub fresh-requires-clause-absent : goal.fresh-requires-clause-absent
fresh-requires-clause-absent t c =
    absent c.index_mut-points.result.now.entries (fed_set c.limit-limit.result c.index_mut-points.result.now.entries c.set_or-set.result.now) (sym c.find.ensures ∙ c.in_default-find.is)

pub record_each-requires : goal.record_each-requires
record_each-requires t c = (
  search rules,
  (
    c.requires.overflow,
    rest-ready c.args.plan.now c.args.attrs.now c.args.value c.args.series.now.items c.in-Some.feed.now c.in-Some.rest.now c.args.feeds.now c.in-Some.ensures.cases.0 c.requires.feeds
        c.index_mut-points.result.now c.index_mut-points.ensures.value c.fresh.new.self c.fresh.ensures.entries c.requires.sound,
  ),
)

pub record_each-requires-in_default-find : goal.record_each-requires-in_default-find
record_each-requires-in_default-find t c = (
  search rules,
  (
    c.requires.overflow,
    rest-ready c.args.plan.now c.args.attrs.now c.args.value c.args.series.now.items c.in-Some.feed.now c.in-Some.rest.now c.args.feeds.now c.in-Some.ensures.cases.0 c.requires.feeds
        c.index_mut-points.result.now c.index_mut-points.ensures.value c.fresh.new.self c.fresh.ensures.entries c.requires.sound,
  ),
)

pub returns-in_default-fresh-clause-unchanged : goal.returns-in_default-fresh-clause-unchanged
returns-in_default-fresh-clause-unchanged t c =
    on_err_map _ _ c.record_each.result (λ u. u ∙ same_entries c.args.series.now.items c.in-Some.feed.now.stream c.fresh.new.self c.index_mut-points.result.now c.index_mut-points.ensures.value c.fresh.ensures.entries) c.record_each.ensures.unchanged

pub returns-in_default-fresh-clause-err : goal.returns-in_default-fresh-clause-err
returns-in_default-fresh-clause-err t c =
    let first = absent-first c.args.plan.now c.args.attrs.now c.args.value c.args.series.now.items c.in-Some.feed.now c.in-Some.rest.now c.args.feeds.now c.in-Some.ensures.cases.0 c.requires.feeds
    c.index_mut-points.result.now c.index_mut-points.ensures.value
    c.limit-limit.result c.set_or-set.result.now c.find.result c.limit-limit.ensures.value (c.set_or-set.ensures ∙ c.in_ok-only.ensures.value) c.find.ensures
    c.in_default-find.is c.ranges.value c.fresh.new.self c.fresh.ensures.entries in
    if_err _ _ c.record_each.result (λ f told n. first ∙ told n) (simp (to_z-of_z, c.ranges.value) at c.record_each.ensures.err)

pub returns-in_default-fresh-clause-no_memory : goal.returns-in_default-fresh-clause-no_memory
returns-in_default-fresh-clause-no_memory t c =
    let before = absent-early c.args.plan.now c.args.attrs.now c.args.value c.args.series.now.items c.in-Some.feed.now c.in-Some.rest.now c.args.feeds.now c.in-Some.ensures.cases.0 c.requires.feeds
    c.index_mut-points.result.now c.index_mut-points.ensures.value
    c.limit-limit.result c.set_or-set.result.now c.find.result c.limit-limit.ensures.value (c.set_or-set.ensures ∙ c.in_ok-only.ensures.value) c.find.ensures
    c.in_default-find.is c.ranges.value c.fresh.new.self c.fresh.ensures.entries in
    if_err _ _ c.record_each.result (λ f told n. before (told n)) (simp (to_z-of_z, c.ranges.value) at c.record_each.ensures.no_memory)

pub returns-in_default-fresh-clause-held : goal.returns-in_default-fresh-clause-held
returns-in_default-fresh-clause-held t c = λ had all.
    absurd (absent-held c.args.plan.now c.args.attrs.now c.args.value c.args.series.now.items c.in-Some.feed.now c.in-Some.rest.now c.args.feeds.now c.in-Some.ensures.cases.0 c.requires.feeds
    c.index_mut-points.result.now c.index_mut-points.ensures.value
    c.limit-limit.result c.set_or-set.result.now c.find.result c.limit-limit.ensures.value (c.set_or-set.ensures ∙ c.in_ok-only.ensures.value) c.find.ensures
    c.in_default-find.is all)

pub returns-in_default-fresh-clause-others : goal.returns-in_default-fresh-clause-others
returns-in_default-fresh-clause-others t c = λ m l.
    let l' : lacks m (c.in-Some.feed.now ∷ c.in-Some.rest.now) = subst (lacks m) c.in-Some.ensures.cases.0 l in
    c.record_each.ensures.others m l'.1 ∙ set-other c.args.series.now.items c.in-Some.feed.now.stream m c.fresh.new.self l'.0

pub returns-in_err-record_each-clause-unchanged : goal.returns-in_err-record_each-clause-unchanged
returns-in_err-record_each-clause-unchanged t c =
    on_err _ c.from_residual-in_err-record_each.result (c.in_err-record_each.ensures.unchanged ∙ same_entries c.args.series.now.items c.in-Some.feed.now.stream c.fresh.new.self c.index_mut-points.result.now c.index_mut-points.ensures.value c.fresh.ensures.entries)

pub returns-in_err-record_each-clause-err : goal.returns-in_err-record_each-clause-err
returns-in_err-record_each-clause-err t c =
    let first = absent-first c.args.plan.now c.args.attrs.now c.args.value c.args.series.now.items c.in-Some.feed.now c.in-Some.rest.now c.args.feeds.now c.in-Some.ensures.cases.0 c.requires.feeds
    c.index_mut-points.result.now c.index_mut-points.ensures.value
    c.limit-limit.result c.set_or-set.result.now c.find.result c.limit-limit.ensures.value (c.set_or-set.ensures ∙ c.in_ok-only.ensures.value) c.find.ensures
    c.in_default-find.is c.ranges.value c.fresh.new.self c.fresh.ensures.entries in
    let rest-told = simp (to_z-of_z, c.ranges.value) at c.in_err-record_each.ensures.err in
    let told = λ (n : c.in_err-record_each.field-0.0 ≢ faults.NoMemory). first ∙ rest-told n in
    search (rules, told, c.from_residual-in_err-record_each.ensures)

pub returns-in_err-record_each-clause-no_memory : goal.returns-in_err-record_each-clause-no_memory
returns-in_err-record_each-clause-no_memory t c =
    let before = absent-early c.args.plan.now c.args.attrs.now c.args.value c.args.series.now.items c.in-Some.feed.now c.in-Some.rest.now c.args.feeds.now c.in-Some.ensures.cases.0 c.requires.feeds
    c.index_mut-points.result.now c.index_mut-points.ensures.value
    c.limit-limit.result c.set_or-set.result.now c.find.result c.limit-limit.ensures.value (c.set_or-set.ensures ∙ c.in_ok-only.ensures.value) c.find.ensures
    c.in_default-find.is c.ranges.value c.fresh.new.self c.fresh.ensures.entries in
    let rest-told = simp (to_z-of_z, c.ranges.value) at c.in_err-record_each.ensures.no_memory in
    let told = λ (n : c.in_err-record_each.field-0.0 ≡ faults.NoMemory). before (rest-told n) in
    search (rules, told, c.from_residual-in_err-record_each.ensures)

pub returns-in_err-record_each-clause-held : goal.returns-in_err-record_each-clause-held
returns-in_err-record_each-clause-held t c = λ had all.
    absurd (absent-held c.args.plan.now c.args.attrs.now c.args.value c.args.series.now.items c.in-Some.feed.now c.in-Some.rest.now c.args.feeds.now c.in-Some.ensures.cases.0 c.requires.feeds
    c.index_mut-points.result.now c.index_mut-points.ensures.value
    c.limit-limit.result c.set_or-set.result.now c.find.result c.limit-limit.ensures.value (c.set_or-set.ensures ∙ c.in_ok-only.ensures.value) c.find.ensures
    c.in_default-find.is all)

pub returns-in_err-record_each-clause-others : goal.returns-in_err-record_each-clause-others
returns-in_err-record_each-clause-others t c = λ m l.
    let l' : lacks m (c.in-Some.feed.now ∷ c.in-Some.rest.now) = subst (lacks m) c.in-Some.ensures.cases.0 l in
    c.record_each-in_default-find.ensures.others m l'.1 ∙ set-other c.args.series.now.items c.in-Some.feed.now.stream m c.fresh.new.self l'.0

pub insert-requires : goal.insert-requires
insert-requires t c =
    let fits = fits c.args.plan.now c.args.attrs.now c.args.value c.args.series.now.items c.in-Some.feed.now c.in-Some.rest.now c.args.feeds.now c.in-Some.ensures.cases.0 c.requires.feeds
    c.index_mut-points.result.now c.index_mut-points.ensures.value in
    let here = still c.args.plan.now c.args.attrs.now c.args.value c.args.series.now.items c.record_each-in_default-find.new.series.items c.in-Some.feed.now c.in-Some.rest.now fits c.fresh.new.self c.index_mut.result.now
    (c.record_each-in_default-find.ensures.others c.in-Some.feed.now.stream fits.1) c.index_mut.ensures.value in
    record { ready = subst (λ (s : Stored). CanInsert c.in-Ok.fresh s) (sym here) c.in-Ok.ensures.ready }

pub returns-in_default-find-clause-value : goal.returns-in_default-find-clause-value
returns-in_default-find-clause-value t c =
    let fits = fits c.args.plan.now c.args.attrs.now c.args.value c.args.series.now.items c.in-Some.feed.now c.in-Some.rest.now c.args.feeds.now c.in-Some.ensures.cases.0 c.requires.feeds
    c.index_mut-points.result.now c.index_mut-points.ensures.value in
    let there = stays c.args.plan.now c.args.attrs.now c.args.value c.args.series.now.items c.record_each-in_default-find.new.series.items c.in-Some.feed.now c.in-Some.rest.now fits c.fresh.new.self c.index_mut.result.now
    (c.record_each-in_default-find.ensures.others c.in-Some.feed.now.stream fits.1) c.index_mut.ensures.value in
    let old = c.index_mut-points.result.now in
    let point = simp (to_z-of_z, c.ranges.value) at c.in-Ok.ensures.point in
    let steps = step-along old.entries (with_fresh c.in-Ok.fresh old.entries) c.args.value _ _ _ _ _ _ c.shape_of-shape.ensures.value c.limit-limit.ensures.value (c.set_or-set.ensures ∙ c.in_ok-only.ensures.value) point in
    recorded-here c.args.plan.now c.in-Some.feed.now c.in-Some.rest.now c.args.attrs.now c.args.value c.args.series.now.items c.record_each-in_default-find.new.series.items old c.fresh.new.self c.index_mut.result.now
    c.insert.new.self (with_fresh c.in-Ok.fresh) there c.fresh.ensures.entries c.index_mut.ensures.value
    ((simp (to_z-of_z, c.ranges.value) at c.in_ok-record_each.ensures.value) ∙ ap (after_feeds c.args.plan.now c.in-Some.rest.now c.args.attrs.now c.args.value)
    (same_entries c.args.series.now.items c.in-Some.feed.now.stream c.fresh.new.self c.index_mut-points.result.now c.index_mut-points.ensures.value c.fresh.ensures.entries))
    steps c.insert.ensures
    ∙ ap (λ (fs : List Feed). after_feeds c.args.plan.now fs c.args.attrs.now c.args.value (entries_of c.args.series.now.items)) (sym c.in-Some.ensures.cases.0)

pub returns-in_default-find-clause-ok : goal.returns-in_default-find-clause-ok
returns-in_default-find-clause-ok t c =
    absent-first c.args.plan.now c.args.attrs.now c.args.value c.args.series.now.items c.in-Some.feed.now c.in-Some.rest.now c.args.feeds.now c.in-Some.ensures.cases.0 c.requires.feeds
    c.index_mut-points.result.now c.index_mut-points.ensures.value
    c.limit-limit.result c.set_or-set.result.now c.find.result c.limit-limit.ensures.value (c.set_or-set.ensures ∙ c.in_ok-only.ensures.value) c.find.ensures
    c.in_default-find.is c.ranges.value c.fresh.new.self c.fresh.ensures.entries
    ∙ (simp (to_z-of_z, c.ranges.value) at c.in_ok-record_each.ensures.ok)

pub returns-in_default-find-clause-others : goal.returns-in_default-find-clause-others
returns-in_default-find-clause-others t c = λ m l.
    let l' : lacks m (c.in-Some.feed.now ∷ c.in-Some.rest.now) = subst (lacks m) c.in-Some.ensures.cases.0 l in
    set-other c.record_each-in_default-find.new.series.items c.in-Some.feed.now.stream m c.insert.new.self l'.0 ∙ c.record_each-in_default-find.ensures.others m l'.1
    ∙ set-other c.args.series.now.items c.in-Some.feed.now.stream m c.fresh.new.self l'.0

pub returns-then-not-takes-clause-err : goal.returns-then-not-takes-clause-err
returns-then-not-takes-clause-err t c = λ _.
    let told = simp (to_z-of_z, c.ranges.value) at c.takes.ensures in
    there-out c.args.plan.now c.args.attrs.now c.args.value c.args.series.now.items c.in-Some.feed.now c.in-Some.rest.now c.args.feeds.now c.in-Some.ensures.cases.0 c.requires.feeds
    c.index_mut-points.result.now c.index_mut-points.ensures.value
    c.limit-limit.result c.set_or-set.result.now c.find.result c.limit-limit.ensures.value (c.set_or-set.ensures ∙ c.in_ok-only.ensures.value) c.find.ensures
    c.in-Some-find.place c.in-Some-find.is (told (shape_at c.args.plan.now c.in-Some.feed.now.stream) ∙ ap not c.if-not-takes.true)

pub returns-in_err-record_each-2-clause-err : goal.returns-in_err-record_each-2-clause-err
returns-in_err-record_each-2-clause-err t c =
    let told = simp (to_z-of_z, c.ranges.value) at c.takes.ensures in
    let first = there-first c.args.plan.now c.args.attrs.now c.args.value c.args.series.now.items c.in-Some.feed.now c.in-Some.rest.now c.args.feeds.now c.in-Some.ensures.cases.0 c.requires.feeds
    c.index_mut-points.result.now c.index_mut-points.ensures.value
    c.limit-limit.result c.set_or-set.result.now c.find.result c.limit-limit.ensures.value (c.set_or-set.ensures ∙ c.in_ok-only.ensures.value) c.find.ensures
    c.in-Some-find.place c.in-Some-find.is (told (shape_at c.args.plan.now c.in-Some.feed.now.stream) ∙ ap not c.if-not-takes.false) in
    let rest-told = simp (to_z-of_z, c.ranges.value) at c.in_err-record_each-2.ensures.err in
    let so = λ (n : c.in_err-record_each-2.field-0.0 ≢ faults.NoMemory). first ∙ rest-told n in
    search (rules, so, c.from_residual-in_err-record_each-2.ensures)

pub returns-in_err-record_each-2-clause-no_memory : goal.returns-in_err-record_each-2-clause-no_memory
returns-in_err-record_each-2-clause-no_memory t c =
    let told = simp (to_z-of_z, c.ranges.value) at c.takes.ensures in
    let before = there-early c.args.plan.now c.args.attrs.now c.args.value c.args.series.now.items c.in-Some.feed.now c.in-Some.rest.now c.args.feeds.now c.in-Some.ensures.cases.0 c.requires.feeds
    c.index_mut-points.result.now c.index_mut-points.ensures.value
    c.limit-limit.result c.set_or-set.result.now c.find.result c.limit-limit.ensures.value (c.set_or-set.ensures ∙ c.in_ok-only.ensures.value) c.find.ensures
    c.in-Some-find.place c.in-Some-find.is (told (shape_at c.args.plan.now c.in-Some.feed.now.stream) ∙ ap not c.if-not-takes.false) in
    let rest-told = simp (to_z-of_z, c.ranges.value) at c.in_err-record_each-2.ensures.no_memory in
    let so = λ (n : c.in_err-record_each-2.field-0.0 ≡ faults.NoMemory). before (rest-told n) in
    search (rules, so, c.from_residual-in_err-record_each-2.ensures)

pub returns-in_err-only-clause-no_memory : goal.returns-in_err-only-clause-no_memory
returns-in_err-only-clause-no_memory t c =
    let none = early-copied c.args.plan.now c.args.attrs.now c.args.value (entries_of c.args.series.now.items) c.in-Some.feed.now c.in-Some.rest.now c.args.feeds.now c.in-Some.ensures.cases.0 c.in_err-only.ensures.no_memory in
    if_err_so _ _ c.from_residual.result none

pub add-requires-clause-within : goal.add-requires-clause-within
add-requires-clause-within t c =
    let fits = fits c.args.plan.now c.args.attrs.now c.args.value c.args.series.now.items c.in-Some.feed.now c.in-Some.rest.now c.args.feeds.now c.in-Some.ensures.cases.0 c.requires.feeds
    c.index_mut-points.result.now c.index_mut-points.ensures.value in
    let here = still c.args.plan.now c.args.attrs.now c.args.value c.args.series.now.items c.record_each-2.new.series.items c.in-Some.feed.now c.in-Some.rest.now fits c.index_mut-points.result.now c.index_mut-2.result.now
    (c.record_each-2.ensures.others c.in-Some.feed.now.stream fits.1) c.index_mut-2.ensures.value in
    subst (λ (s : Stored). c.in-Some-find.place < length s.entries) (sym here)
    (there-within c.args.plan.now c.args.attrs.now c.args.value c.args.series.now.items c.in-Some.feed.now c.in-Some.rest.now c.args.feeds.now c.in-Some.ensures.cases.0 c.requires.feeds
    c.index_mut-points.result.now c.index_mut-points.ensures.value
    c.limit-limit.result c.set_or-set.result.now c.find.result c.limit-limit.ensures.value (c.set_or-set.ensures ∙ c.in_ok-only.ensures.value) c.find.ensures
    c.in-Some-find.place c.in-Some-find.is)

pub add-requires-clause-sound : goal.add-requires-clause-sound
add-requires-clause-sound t c =
    let fits = fits c.args.plan.now c.args.attrs.now c.args.value c.args.series.now.items c.in-Some.feed.now c.in-Some.rest.now c.args.feeds.now c.in-Some.ensures.cases.0 c.requires.feeds
    c.index_mut-points.result.now c.index_mut-points.ensures.value in
    let here = still c.args.plan.now c.args.attrs.now c.args.value c.args.series.now.items c.record_each-2.new.series.items c.in-Some.feed.now c.in-Some.rest.now fits c.index_mut-points.result.now c.index_mut-2.result.now
    (c.record_each-2.ensures.others c.in-Some.feed.now.stream fits.1) c.index_mut-2.ensures.value in
    let l = subst (λ (n : ℕ). c.in-Some.feed.now.stream < n) (stored-length c.args.plan.now.streams c.args.series.now.items c.requires.sound) fits.0 in
    let sound = sound-shape c.args.plan.now (entries_of c.args.series.now.items) c.in-Some.feed.now.stream l c.requires.sound in
    let same = entries-read c.args.series.now.items c.in-Some.feed.now.stream c.index_mut-points.result.now fits.0 c.index_mut-points.ensures.value in
    subst (λ (s : Shape). AreSound s c.index_mut-2.result.now.entries) (sym c.shape_of-shape.ensures.value)
    (subst (λ (es : Points). AreSound (shape_at c.args.plan.now c.in-Some.feed.now.stream) es) (same ∙ sym (ap (λ (s : Stored). s.entries) here)) sound)

pub add-requires-clause-in_range : goal.add-requires-clause-in_range
add-requires-clause-in_range t c =
    let fits = fits c.args.plan.now c.args.attrs.now c.args.value c.args.series.now.items c.in-Some.feed.now c.in-Some.rest.now c.args.feeds.now c.in-Some.ensures.cases.0 c.requires.feeds
    c.index_mut-points.result.now c.index_mut-points.ensures.value in
    let here = still c.args.plan.now c.args.attrs.now c.args.value c.args.series.now.items c.record_each-2.new.series.items c.in-Some.feed.now c.in-Some.rest.now fits c.index_mut-points.result.now c.index_mut-2.result.now
    (c.record_each-2.ensures.others c.in-Some.feed.now.stream fits.1) c.index_mut-2.ensures.value in
    let told = simp (to_z-of_z, c.ranges.value) at c.takes.ensures in
    simp (to_z-of_z, c.ranges.value)
    (subst (λ (s : Stored). is_out_of_range (payload_with c.shape_of-shape.result.now s.entries c.in-Some-find.place c.args.value) ≡ false) (sym here)
    (told c.shape_of-shape.result.now ∙ ap not c.if-not-takes.false))

pub returns-clause-value : goal.returns-clause-value
returns-clause-value t c =
    let fits = fits c.args.plan.now c.args.attrs.now c.args.value c.args.series.now.items c.in-Some.feed.now c.in-Some.rest.now c.args.feeds.now c.in-Some.ensures.cases.0 c.requires.feeds
    c.index_mut-points.result.now c.index_mut-points.ensures.value in
    let there = stays c.args.plan.now c.args.attrs.now c.args.value c.args.series.now.items c.record_each-2.new.series.items c.in-Some.feed.now c.in-Some.rest.now fits c.index_mut-points.result.now c.index_mut-2.result.now
    (c.record_each-2.ensures.others c.in-Some.feed.now.stream fits.1) c.index_mut-2.ensures.value in
    let old = c.index_mut-points.result.now in
    let now = c.index_mut-2.result.now in
    let i = c.in-Some-find.place in
    let added = there-added c.args.plan.now c.args.attrs.now c.args.value c.args.series.now.items c.in-Some.feed.now c.in-Some.rest.now c.args.feeds.now c.in-Some.ensures.cases.0 c.requires.feeds
    c.index_mut-points.result.now c.index_mut-points.ensures.value
    c.limit-limit.result c.set_or-set.result.now c.find.result c.limit-limit.ensures.value (c.set_or-set.ensures ∙ c.in_ok-only.ensures.value) c.find.ensures
    c.in-Some-find.place c.in-Some-find.is in
    recorded-here c.args.plan.now c.in-Some.feed.now c.in-Some.rest.now c.args.attrs.now c.args.value c.args.series.now.items c.record_each-2.new.series.items old old now c.add.new.self
    (λ es. add_at (shape_at c.args.plan.now c.in-Some.feed.now.stream) es i c.args.value) there refl c.index_mut-2.ensures.value
    ((simp (to_z-of_z, c.ranges.value) at c.in_ok-record_each-2.ensures.value) ∙ ap (after_feeds c.args.plan.now c.in-Some.rest.now c.args.attrs.now c.args.value)
    (same_entries c.args.series.now.items c.in-Some.feed.now.stream old old c.index_mut-points.ensures.value refl))
    added
    ((simp (to_z-of_z, c.ranges.value) at c.add.ensures) ∙ ap (λ (s : Shape). add_at s now.entries i c.args.value) c.shape_of-shape.ensures.value)
    ∙ ap (λ (fs : List Feed). after_feeds c.args.plan.now fs c.args.attrs.now c.args.value (entries_of c.args.series.now.items)) (sym c.in-Some.ensures.cases.0)

pub returns-clause-ok : goal.returns-clause-ok
returns-clause-ok t c =
    let told = simp (to_z-of_z, c.ranges.value) at c.takes.ensures in
    there-first c.args.plan.now c.args.attrs.now c.args.value c.args.series.now.items c.in-Some.feed.now c.in-Some.rest.now c.args.feeds.now c.in-Some.ensures.cases.0 c.requires.feeds
    c.index_mut-points.result.now c.index_mut-points.ensures.value
    c.limit-limit.result c.set_or-set.result.now c.find.result c.limit-limit.ensures.value (c.set_or-set.ensures ∙ c.in_ok-only.ensures.value) c.find.ensures
    c.in-Some-find.place c.in-Some-find.is (told (shape_at c.args.plan.now c.in-Some.feed.now.stream) ∙ ap not c.if-not-takes.false)
    ∙ (simp (to_z-of_z, c.ranges.value) at c.in_ok-record_each-2.ensures.ok)

pub returns-clause-others : goal.returns-clause-others
returns-clause-others t c = λ m l.
    let l' : lacks m (c.in-Some.feed.now ∷ c.in-Some.rest.now) = subst (lacks m) c.in-Some.ensures.cases.0 l in
    set-other c.record_each-2.new.series.items c.in-Some.feed.now.stream m c.add.new.self l'.0 ∙ c.record_each-2.ensures.others m l'.1
    ∙ set-other c.args.series.now.items c.in-Some.feed.now.stream m c.index_mut-points.result.now l'.0
