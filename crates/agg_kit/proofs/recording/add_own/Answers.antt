use Rattle.std.proofs.Common.{◌∙◌, ◌∷◌, [], ◌<◌, ℕ, sym, subst, ap, refl, true, false, not, FitsSigned, w64}
use Rattle.std.proofs.lemmas.Int.{to_z-of_z}
use Rattle.indexmap.specs.IndexMap.{set_value_at}
use Rattle.point_kit.specs.declared.shape.Shape.{Shape}
use Rattle.agg_kit.specs.Feeds.{entries_of, shape_at}
use Rattle.agg_kit.specs.FreshPoints.{payload_in}
use Rattle.agg_kit.specs.Held.{whole_feed}
use Rattle.agg_kit.specs.Sound.{AreSound}
use Rattle.agg_kit.specs.Steps.{fed_set, bounds_of, payload_with_value}
use Rattle.agg_kit.specs.Tallies.{Points}
use Rattle.agg_kit.proofs.OwnPoint.{placed, told_there}
use Rattle.agg_kit.proofs.Records.{entries-read, stored-length, sound-shape, leaves-here, first-here, first-kept, read-there, recorded-here, same_entries}
use Rattle.agg_kit.proofs.Steps.{add_under-has_point, within-has_point}
use Rattle.agg_kit.proofs.recording.add_own.Goals as goal

pub shape_of-shape-requires : goal.shape_of-shape-requires
shape_of-shape-requires c = subst (λ (n : ℕ). c.args.stream < n) (stored-length c.args.plan.now.streams c.args.series.now.items c.requires.sound) c.requires.stream

pub try_add-requires-clause-sound : goal.try_add-requires-clause-sound
try_add-requires-clause-sound c =
    let p = c.args.plan.now in
    let stream = c.args.stream in
    let ss = c.args.series.now.items in
    let points = c.index_mut-points.result.now in
    let l = subst (λ (n : ℕ). stream < n) (stored-length p.streams ss c.requires.sound) c.requires.stream in
    let sound = sound-shape p (entries_of ss) stream l c.requires.sound in
    subst (λ (s : Shape). AreSound s points.entries) (sym c.shape_of-shape.ensures.value)
    (subst (λ (es : Points). AreSound (shape_at p stream) es) (entries-read ss stream points c.requires.stream c.index_mut-points.ensures.value) sound)

pub try_add-requires-clause-within : goal.try_add-requires-clause-within
try_add-requires-clause-within c =
    let points = c.index_mut-points.result.now in
    within-has_point points.entries (fed_set c.args.plan.now.limit points.entries c.args.attrs.now) c.args.place
    (placed c.args.plan.now c.args.attrs.now c.args.series.now.items points c.args.stream c.args.place c.requires.stream c.index_mut-points.ensures.value c.requires.at)

pub returns-then-not-try_add-clause-err : goal.returns-then-not-try_add-clause-err
returns-then-not-try_add-clause-err c =
    let p = c.args.plan.now in
    let a = c.args.attrs.now in
    let ss = c.args.series.now.items in
    let fit : FitsSigned w64 c.args.value = c.ranges.value in
    let points = c.index_mut-points.result.now in
    let was = c.index_mut-points.ensures.value in
    let at = placed p a ss points c.args.stream c.args.place c.requires.stream was c.requires.at in
    let out = told_there p a c.args.value points c.args.stream c.args.place c.shape_of-shape.result.now true at c.shape_of-shape.ensures.value
    ((simp to_z-of_z at c.try_add.ensures.fits) ∙ ap not c.if-not-try_add.true) in
    first-here p a c.args.value (entries_of ss) (whole_feed c.args.stream) [] (leaves-here p (whole_feed c.args.stream) a c.args.value ss points c.requires.stream was ∙ out)

pub returns-then-not-try_add-clause-unchanged : goal.returns-then-not-try_add-clause-unchanged
returns-then-not-try_add-clause-unchanged c =
    same_entries c.args.series.now.items c.args.stream c.try_add.new.self c.index_mut-points.result.now c.index_mut-points.ensures.value (c.try_add.ensures.kept c.if-not-try_add.true)

pub returns-clause-value : goal.returns-clause-value
returns-clause-value c =
    let p = c.args.plan.now in
    let feed = whole_feed c.args.stream in
    let fit : FitsSigned w64 c.args.value = c.ranges.value in
    let points = c.index_mut-points.result.now in
    let was = c.index_mut-points.ensures.value in
    let shape = shape_at p feed.stream in
    let value : Shape → Points → Points = λ s es. set_value_at es c.args.place (payload_with_value (bounds_of s) (payload_in s points.entries c.args.place) c.args.value) in
    let done : Points → Points = λ es. set_value_at es c.args.place (payload_with_value (bounds_of shape) (payload_in shape es c.args.place) c.args.value) in
    let at = placed p c.args.attrs.now c.args.series.now.items points c.args.stream c.args.place c.requires.stream was c.requires.at in
    recorded-here p feed [] c.args.attrs.now c.args.value c.args.series.now.items c.args.series.now.items points points points c.try_add.new.self done
    (read-there c.args.series.now.items feed.stream points c.requires.stream was) refl was refl
    (add_under-has_point shape points.entries (fed_set p.limit points.entries c.args.attrs.now) c.args.value c.args.place at)
    ((simp to_z-of_z at c.try_add.ensures.added) c.if-not-try_add.false ∙ ap (λ (s : Shape). value s points.entries) c.shape_of-shape.ensures.value)

pub returns-clause-ok : goal.returns-clause-ok
returns-clause-ok c =
    let fit : FitsSigned w64 c.args.value = c.ranges.value in
    let points = c.index_mut-points.result.now in
    let at = placed c.args.plan.now c.args.attrs.now c.args.series.now.items points c.args.stream c.args.place c.requires.stream c.index_mut-points.ensures.value c.requires.at in
    let ok = told_there c.args.plan.now c.args.attrs.now c.args.value points c.args.stream c.args.place c.shape_of-shape.result.now false at
    c.shape_of-shape.ensures.value ((simp to_z-of_z at c.try_add.ensures.fits) ∙ ap not c.if-not-try_add.false) in
    first-kept c.args.plan.now c.args.attrs.now c.args.value c.args.series.now.items points (whole_feed c.args.stream) [] (whole_feed c.args.stream ∷ []) refl
    c.requires.stream c.index_mut-points.ensures.value ok
