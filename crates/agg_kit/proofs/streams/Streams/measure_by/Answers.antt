use Rattle.std.proofs.Common.{◌≡◌, ◌∙◌, ◌∷◌, [], List, ℕ, Option, Some, false, true≢false, length, slice_get, refl, ap, sym, subst, FitsSigned, w64}
use Rattle.std.proofs.lemmas.Int.{to_z-of_z}
use Rattle.plan_kit.specs.Plans.{feeds_of, kind_of, AllRise, AreFeeds}
use Rattle.plan_kit.specs.declared.feed.Feed.{Feed}
use Rattle.plan_kit.specs.declared.instrument.Kind.{Kind}
use Rattle.agg_kit.specs.Entries.{Entry, entry_of}
use Rattle.agg_kit.specs.Feeds.{entries_of}
use Rattle.agg_kit.specs.Held.{whole_feed, AreKnown}
use Rattle.agg_kit.specs.Refusals.{is_negative_for}
use Rattle.agg_kit.specs.Tallies.{Tallied}
use Rattle.agg_kit.proofs.Measured.{fed-measured, fed-sound, refused-gone, refused-negative, seen-as, seen-same}
use Rattle.agg_kit.proofs.Records.{if_some, stored-length}
use Rattle.agg_kit.proofs.Refusals.{kind-there, kind-gone}
use Rattle.agg_kit.proofs.streams.Streams.measure_by.Goals as goal

pub returns-in_default : goal.returns-in_default
returns-in_default c =
    let t : Tallied = record { plan = c.self.inside.plan; series = entries_of c.self.inside.series.items; held = [] } in
    let e : Entry = entry_of c.args.instrument c.args.attrs.now c.args.value in
    record { measured = seen-same t c.args.self.now e _ c.self.view_is (refused-gone t e (kind-gone t.plan c.args.instrument (λ l. absurd (true≢false (sym (c.in_default.ensures.variant.1 l)))))) }

pub returns-then-is_below : goal.returns-then-is_below
returns-then-is_below c =
    let t : Tallied = record { plan = c.self.inside.plan; series = entries_of c.self.inside.series.items; held = [] } in
    let e : Entry = entry_of c.args.instrument c.args.attrs.now c.args.value in
    let fit : FitsSigned w64 c.args.value = c.ranges.value in
    let negative = (simp to_z-of_z at c.if-is_below.ensures) ∙ sym (c.only_rises.ensures c.args.value) in
    let below = sym (negative ∙ ap (λ (k : Option Kind). is_negative_for k c.args.value) c.kind.ensures.value) in
    record { measured = seen-same t c.args.self.now e _ c.self.view_is (refused-negative t e (kind-there t.plan c.args.instrument (c.in-Some.ensures.variant.0 refl)) below) }

pub record-requires-clause-feeds : goal.record-requires-clause-feeds
record-requires-clause-feeds c =
    subst (λ (n : ℕ). AreFeeds n c.in-Some.feeds.now) (sym (stored-length c.self.inside.plan.streams c.self.inside.series.items c.self.invariant.sound))
    (subst (AreFeeds (length c.self.inside.plan.streams)) (sym c.in-Some.ensures.value) c.in-Some.ensures.feeds)

pub record-requires-clause-lone : goal.record-requires-clause-lone
record-requires-clause-lone c =
    if_some (λ (m : ℕ). slice_get c.self.inside.lone.items c.args.instrument ≡ Some (Some m)) (λ (m : ℕ). c.in-Some.feeds.now ≡ whole_feed m ∷ []) c.lone_at.result
    (λ m at. c.in-Some.ensures.value ∙ c.self.invariant.lone_is c.args.instrument m at) c.lone_at.ensures

pub record-requires-clause-known : goal.record-requires-clause-known
record-requires-clause-known c =
    let p = c.self.inside.plan in
    let ss = entries_of c.self.inside.series.items in
    let known = subst (λ (x : Tallied). AreKnown x.plan (feeds_of x.plan c.args.instrument) c.args.places.now c.args.attrs.now x.series) (sym c.self.view_is) c.requires in
    subst (λ (fs : List Feed). AreKnown p fs c.args.places.now c.args.attrs.now ss) (sym c.in-Some.ensures.value) known

pub invariant_of-self : goal.invariant_of-self
invariant_of-self c =
    let t : Tallied = record { plan = c.self.inside.plan; series = entries_of c.self.inside.series.items; held = [] } in
    let e : Entry = entry_of c.args.instrument c.args.attrs.now c.args.value in
    let fit : FitsSigned w64 c.args.value = c.ranges.value in
    let there = kind-there t.plan c.args.instrument (c.in-Some.ensures.variant.0 refl) in
    let negative = (simp to_z-of_z at c.if-is_below.ensures) ∙ sym (c.only_rises.ensures c.args.value) in
    let fine : is_negative_for (kind_of t.plan c.args.instrument) c.args.value ≡ false = sym (negative ∙ ap (λ (k : Option Kind). is_negative_for k c.args.value) c.kind.ensures.value) in
    let fed : AreFeeds (length t.plan.streams) c.in-Some.feeds.now = subst (AreFeeds (length t.plan.streams)) (sym c.in-Some.ensures.value) c.in-Some.ensures.feeds in
    record {
      overflow_is = c.self.invariant.overflow_is;
      sound = fed-sound t e c.in-Some.feeds.now c.in-Some.ensures.value fed c.self.invariant.sound there fine c.record.result (entries_of c.record.new.series.items) (simp to_z-of_z at c.record.ensures.value) c.record.ensures.unchanged
          (λ k is. subst (AllRise t.plan k) (sym c.in-Some.ensures.value) (c.in-Some.ensures.rising k is));
      lone_is = c.self.invariant.lone_is;
    }

pub returns : goal.returns
returns c =
    let t : Tallied = record { plan = c.self.inside.plan; series = entries_of c.self.inside.series.items; held = [] } in
    let e : Entry = entry_of c.args.instrument c.args.attrs.now c.args.value in
    let fit : FitsSigned w64 c.args.value = c.ranges.value in
    let there = kind-there t.plan c.args.instrument (c.in-Some.ensures.variant.0 refl) in
    let negative = (simp to_z-of_z at c.if-is_below.ensures) ∙ sym (c.only_rises.ensures c.args.value) in
    let fine : is_negative_for (kind_of t.plan c.args.instrument) c.args.value ≡ false = sym (negative ∙ ap (λ (k : Option Kind). is_negative_for k c.args.value) c.kind.ensures.value) in
    let fed : AreFeeds (length t.plan.streams) c.in-Some.feeds.now = subst (AreFeeds (length t.plan.streams)) (sym c.in-Some.ensures.value) c.in-Some.ensures.feeds in
    let now = entries_of c.record.new.series.items in
    record {
      measured = seen-as t c.args.self.now (record t { series = now }) e c.record.result c.self.view_is
          (fed-measured t e c.in-Some.feeds.now c.in-Some.ensures.value fed c.self.invariant.sound there fine c.record.result now (simp to_z-of_z at c.record.ensures.value) c.record.ensures.unchanged
          (simp to_z-of_z at c.record.ensures.ok) (simp to_z-of_z at c.record.ensures.err) (simp to_z-of_z at c.record.ensures.no_memory) c.record.ensures.held);
    }
