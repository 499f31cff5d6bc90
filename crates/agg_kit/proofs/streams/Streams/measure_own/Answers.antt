use Rattle.std.proofs.Common.{◌≡◌, ◌∙◌, ◌<◌, ◌∷◌, [], List, ℕ, false, length, sym, subst, FitsSigned, w64}
use Rattle.std.proofs.lemmas.Int.{to_z-of_z}
use Rattle.plan_kit.specs.Plans.{feeds_of, kind_of, AllRise, AreFeeds}
use Rattle.plan_kit.specs.declared.feed.Feed.{Feed}
use Rattle.agg_kit.specs.Entries.{Entry, entry_of}
use Rattle.agg_kit.specs.Feeds.{entries_of}
use Rattle.agg_kit.specs.Held.{whole_feed, IsFed, IsOwnPlace}
use Rattle.agg_kit.specs.Refusals.{is_negative_for}
use Rattle.agg_kit.specs.Tallies.{Tallied}
use Rattle.agg_kit.proofs.HeldPoints.{lone-there}
use Rattle.agg_kit.proofs.Measured.{fed-measured, fed-sound, refused-negative, seen-as}
use Rattle.agg_kit.proofs.Records.{if_err, stored-length}
use Rattle.agg_kit.proofs.streams.Streams.measure_own.Goals as goal

pub returns-then-is_below : goal.returns-then-is_below
returns-then-is_below c =
    let e : Entry = entry_of c.args.instrument c.args.attrs.now c.args.value in
    let fit : FitsSigned w64 c.args.value = c.ranges.value in
    let below = simp to_z-of_z at c.if-is_below.ensures in
    let there = lone-there c.args.self.now.plan c.args.instrument c.args.own.stream c.requires.own.lone in
    record { measured = refused-negative c.args.self.now e there (c.requires.own.rises c.args.value ∙ sym below) }

pub add_own-requires-clause-stream : goal.add_own-requires-clause-stream
add_own-requires-clause-stream c =
    let t : Tallied = record { plan = c.self.inside.plan; series = entries_of c.self.inside.series.items; held = [] } in
    let own = subst (λ (x : Tallied). IsOwnPlace x.plan x.series c.args.instrument c.args.attrs.now c.args.own) (sym c.self.view_is) c.requires.own in
    let fed = subst (λ (x : Tallied). IsFed x.plan c.args.instrument) (sym c.self.view_is) c.requires.fed in
    let feeds : AreFeeds (length t.plan.streams) (whole_feed c.args.own.stream ∷ []) = subst (AreFeeds (length t.plan.streams)) own.lone fed.feeds in
    subst (λ (n : ℕ). c.args.own.stream < n) (sym (stored-length t.plan.streams c.self.inside.series.items c.self.invariant.sound)) feeds.0

pub add_own-requires-clause-at : goal.add_own-requires-clause-at
add_own-requires-clause-at c = (subst (λ (x : Tallied). IsOwnPlace x.plan x.series c.args.instrument c.args.attrs.now c.args.own) (sym c.self.view_is) c.requires.own).at

pub invariant_of-self : goal.invariant_of-self
invariant_of-self c =
    let t : Tallied = record { plan = c.self.inside.plan; series = entries_of c.self.inside.series.items; held = [] } in
    let e : Entry = entry_of c.args.instrument c.args.attrs.now c.args.value in
    let fit : FitsSigned w64 c.args.value = c.ranges.value in
    let below = simp to_z-of_z at c.if-is_below.ensures in
    let own = subst (λ (x : Tallied). IsOwnPlace x.plan x.series c.args.instrument c.args.attrs.now c.args.own) (sym c.self.view_is) c.requires.own in
    let fed = subst (λ (x : Tallied). IsFed x.plan c.args.instrument) (sym c.self.view_is) c.requires.fed in
    let there = lone-there t.plan c.args.instrument c.args.own.stream own.lone in
    let fs : List Feed = whole_feed c.args.own.stream ∷ [] in
    let is : fs ≡ feeds_of t.plan c.args.instrument = sym own.lone in
    let feeds : AreFeeds (length t.plan.streams) fs = subst (AreFeeds (length t.plan.streams)) (sym is) fed.feeds in
    let fine : is_negative_for (kind_of t.plan c.args.instrument) c.args.value ≡ false = own.rises c.args.value ∙ sym below in
    let now = entries_of c.add_own.new.series.items in
    record {
      overflow_is = c.self.invariant.overflow_is;
      sound = fed-sound t e fs is feeds c.self.invariant.sound there fine c.add_own.result now (simp to_z-of_z at c.add_own.ensures.value) c.add_own.ensures.unchanged
          (λ k at. subst (AllRise t.plan k) (sym is) (fed.rising k at));
      lone_is = c.self.invariant.lone_is;
    }

pub returns : goal.returns
returns c =
    let t : Tallied = record { plan = c.self.inside.plan; series = entries_of c.self.inside.series.items; held = [] } in
    let e : Entry = entry_of c.args.instrument c.args.attrs.now c.args.value in
    let fit : FitsSigned w64 c.args.value = c.ranges.value in
    let below = simp to_z-of_z at c.if-is_below.ensures in
    let own = subst (λ (x : Tallied). IsOwnPlace x.plan x.series c.args.instrument c.args.attrs.now c.args.own) (sym c.self.view_is) c.requires.own in
    let fed = subst (λ (x : Tallied). IsFed x.plan c.args.instrument) (sym c.self.view_is) c.requires.fed in
    let there = lone-there t.plan c.args.instrument c.args.own.stream own.lone in
    let fs : List Feed = whole_feed c.args.own.stream ∷ [] in
    let is : fs ≡ feeds_of t.plan c.args.instrument = sym own.lone in
    let feeds : AreFeeds (length t.plan.streams) fs = subst (AreFeeds (length t.plan.streams)) (sym is) fed.feeds in
    let fine : is_negative_for (kind_of t.plan c.args.instrument) c.args.value ≡ false = own.rises c.args.value ∙ sym below in
    let now = entries_of c.add_own.new.series.items in
    record {
      measured = seen-as t c.args.self.now (record t { series = now }) e c.add_own.result c.self.view_is
          (fed-measured t e fs is feeds c.self.invariant.sound there fine c.add_own.result now (simp to_z-of_z at c.add_own.ensures.value) c.add_own.ensures.unchanged
          (simp to_z-of_z at c.add_own.ensures.ok) (if_err _ _ c.add_own.result (λ f some n. some) (simp to_z-of_z at c.add_own.ensures.err))
          (if_err _ _ c.add_own.result (λ f no is. absurd (no is)) c.add_own.ensures.memory) (λ all. c.add_own.ensures.memory));
    }
