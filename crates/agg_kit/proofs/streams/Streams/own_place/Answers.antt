use Rattle.std.proofs.Common.{◌≡◌, ◌∙◌, ◌<◌, ℕ, Option, length, sym, ap, subst, arith}
use Rattle.plan_kit.specs.Plans.{feeds_of, AreFeeds}
use Rattle.plan_kit.specs.declared.instrument.Kind.{Kind}
use Rattle.agg_kit.specs.Held.{lone_feed, place_of, IsOwnPlace}
use Rattle.agg_kit.specs.declared.held.OwnPlace.{OwnPlace}
use Rattle.agg_kit.specs.Refusals.{is_negative_for}
use Rattle.agg_kit.specs.Tallies.{Points, Tallied}
use Rattle.agg_kit.proofs.Records.{entries-read, stored-length}
use Rattle.agg_kit.proofs.streams.Streams.own_place.Goals as goal

pub index-points-requires : goal.index-points-requires
index-points-requires c =
    let p = c.self.inside.plan in
    let lone = subst (λ (t : Tallied). feeds_of t.plan c.args.instrument ≡ lone_feed c.args.stream) (sym c.self.view_is) c.requires.lone in
    let feeds = subst (λ (t : Tallied). AreFeeds (length t.plan.streams) (feeds_of t.plan c.args.instrument)) (sym c.self.view_is) c.requires.feeds in
    let fits : AreFeeds (length p.streams) (lone_feed c.args.stream) = subst (AreFeeds (length p.streams)) lone feeds in
    let l : c.args.stream < length p.streams = fits.0 in
    omega (arith, l, stored-length p.streams c.self.inside.series.items c.self.invariant.sound, c.self.inside.series.ok)

pub returns : goal.returns
returns c =
    let p = c.self.inside.plan in
    let ss = c.self.inside.series.items in
    let a = c.args.attrs.now in
    let points = c.index-points.result.now in
    let lone = subst (λ (t : Tallied). feeds_of t.plan c.args.instrument ≡ lone_feed c.args.stream) (sym c.self.view_is) c.requires.lone in
    let feeds = subst (λ (t : Tallied). AreFeeds (length t.plan.streams) (feeds_of t.plan c.args.instrument)) (sym c.self.view_is) c.requires.feeds in
    let fits : AreFeeds (length p.streams) (lone_feed c.args.stream) = subst (AreFeeds (length p.streams)) lone feeds in
    let l : c.args.stream < length ss = subst (λ (n : ℕ). c.args.stream < n) (sym (stored-length p.streams ss c.self.invariant.sound)) fits.0 in
    let own : OwnPlace = record { stream = c.args.stream; place = c.in-Some.place; rises = c.only_rises.result } in
    let kind = sym c.kind.ensures.value in
    subst (λ (t : Tallied). IsOwnPlace t.plan t.series c.args.instrument a own) c.self.view_is (record {
      lone = lone;
      at = ap (λ (es : Points). place_of p.limit es a) (entries-read ss c.args.stream points l c.index-points.ensures)
          ∙ ap (λ (n : ℕ). place_of n points.entries a) (sym c.limit.ensures.value) ∙ sym c.find.ensures ∙ c.in-Some.is;
      rises = λ v. ap (λ (k : Option Kind). is_negative_for k v) kind ∙ c.only_rises.ensures v;
    })
