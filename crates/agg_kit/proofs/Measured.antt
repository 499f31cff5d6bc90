-- What a tally answers to a recording, by what became of its points.
use Rattle.std.proofs.Common.{◌≡◌, ◌≢◌, ◌∙◌, ℕ, List, Option, Result, Err, Some, None, OnOk, OnErr, IfErr, false, true, is_none, length, refl, sym, ap, subst}
use Rattle.attr_kit.specs.declared.attr_set.AttrSet.{AttrSet}
use Rattle.plan_kit.specs.Plans.{AllRise, AreFeeds, feeds_of, kind_of}
use Rattle.plan_kit.specs.declared.feed.Feed.{Feed}
use Rattle.plan_kit.specs.declared.instrument.Kind.{Kind}
use Rattle.agg_kit.specs.Entries.{Entry}
use Rattle.agg_kit.specs.Feeds.{AllHeld, after_feeds, early_feeds, first_out}
use Rattle.agg_kit.specs.Measuring.{early_fault_of, fault_of, series_after, IsMeasured}
use Rattle.agg_kit.specs.Refusals.{is_negative_for}
use Rattle.agg_kit.specs.Sound.{AllSound}
use Rattle.agg_kit.specs.Tallies.{Points, Tallied}
use Rattle.agg_kit.specs.declared.fault.TallyFault.{TallyFault}
use Rattle.agg_kit.specs.declared.fault.TallyFault.TheVariants.{NoInstrument, Negative, NoMemory}
use Rattle.agg_kit.proofs.Records.{sound-length, sound-applied, sound-either, rising-feeds, some-kind, on_ok, on_err_map, if_err}
use Rattle.agg_kit.proofs.Refusals.{all-part, early-part, into-gone, into-negative, into-points}
use Rattle.agg_kit.proofs.Rounds.{applied-is}

-- it is refused before its points are looked at
refused-with : {U : Type 0} (t : Tallied) (e : Entry) (f : TallyFault) → f ≢ NoMemory → fault_of t e ≡ Some f → IsMeasured t t e (let r : Result U TallyFault = Err f in r)
refused-with t e f n is = record { ok = tt; value = tt; err = λ _. is; no_memory = λ m. absurd (n m); held = λ _. n; unchanged = refl }

pub refused-gone : {U : Type 0} (t : Tallied) (e : Entry) → is_none (kind_of t.plan e.instrument) ≡ true → IsMeasured t t e (let r : Result U TallyFault = Err NoInstrument in r)
unfolding fault_of
refused-gone t e gone = refused-with t e NoInstrument (λ m. (cc)) (into-gone t e (feeds_of t.plan e.instrument) gone)

pub refused-negative : {U : Type 0} (t : Tallied) (e : Entry) → is_none (kind_of t.plan e.instrument) ≡ false → is_negative_for (kind_of t.plan e.instrument) e.value ≡ true
    → IsMeasured t t e (let r : Result U TallyFault = Err Negative in r)
unfolding fault_of
refused-negative t e there below = refused-with t e Negative (λ m. (cc)) (into-negative t e (feeds_of t.plan e.instrument) there below)

-- its feeds take it, or one of them does not
module _ {U : Type 0} (t : Tallied) (e : Entry) (fs : List Feed) (is : fs ≡ feeds_of t.plan e.instrument) (fed : AreFeeds (length t.plan.streams) fs) (sound : AllSound t.plan.streams t.series)
    (there : is_none (kind_of t.plan e.instrument) ≡ false) (fine : is_negative_for (kind_of t.plan e.instrument) e.value ≡ false) (told : Result U TallyFault) (now : List Points)
    (value : OnOk told (now ≡ after_feeds t.plan fs e.attrs e.value t.series)) (unchanged : OnErr told (now ≡ t.series)) where
  pub fed-measured : OnOk told (first_out t.plan e.attrs e.value t.series fs ≡ None) → IfErr told (λ f. f ≢ NoMemory → first_out t.plan e.attrs e.value t.series fs ≡ Some f)
      → IfErr told (λ f. f ≡ NoMemory → first_out t.plan e.attrs e.value t.series (early_feeds e.attrs fs) ≡ None) → (AllHeld t.plan fs e.attrs t.series → IfErr told (λ f. f ≢ NoMemory))
      → IsMeasured t (record t { series = now }) e told
  unfolding fault_of early_fault_of
  fed-measured ok err early held =
      let first = into-points t t e (λ gs. gs) fs refl is (all-part fs) fed there fine in
      let before = into-points t t e (early_feeds e.attrs) fs refl is (early-part e.attrs fs) fed there fine in
      let long = sound-length t.plan.streams t.series sound in
      record {
        ok = on_ok _ _ told (λ none. first ∙ none) ok;
        value = on_ok _ _ told (λ so. (λ i. record t { series = (so ∙ applied-is t e fs is fed long) i })) value;
        err = if_err _ _ told (λ f some n. first ∙ some n) err;
        no_memory = if_err _ _ told (λ f none n. before ∙ none n) early;
        held = λ all. held (subst (λ (gs : List Feed). AllHeld t.plan gs e.attrs t.series) (sym is) all);
        unchanged = on_err_map _ _ told (λ so. (λ i. record t { series = so i })) unchanged;
      }

  pub fed-sound : ((k : Kind) → kind_of t.plan e.instrument ≡ Some k → AllRise t.plan k fs) → AllSound t.plan.streams now
  fed-sound rising =
      let p = t.plan in
      let kind = some-kind (kind_of p e.instrument) there in
      let up : is_negative_for (Some kind.0) e.value ≡ false = sym (ap (λ (k : Option Kind). is_negative_for k e.value) kind.1) ∙ fine in
      let rise = rising-feeds p (length p.streams) kind.0 fs e.value refl fed (rising kind.0 kind.1) up in
      sound-either told p.streams t.series (after_feeds p fs e.attrs e.value t.series) now value unchanged sound (sound-applied p (length p.streams) fs e.attrs e.value t.series refl fed rise sound)

-- the same of what a tally is seen as
pub seen-as : {U : Type 0} (t x s : Tallied) (e : Entry) (told : Result U TallyFault) → t ≡ x → IsMeasured t s e told → IsMeasured x s e told
seen-as t x s e told same m = subst (λ (y : Tallied). IsMeasured y s e told) same m

pub seen-same : {U : Type 0} (t x : Tallied) (e : Entry) (told : Result U TallyFault) → t ≡ x → IsMeasured t t e told → IsMeasured x x e told
seen-same t x e told same m = subst (λ (y : Tallied). IsMeasured y y e told) same m

-- and of what is held beside
with-held : {U : Type 0} (t s : Tallied) (e : Entry) (told : Result U TallyFault) (hs : List (ℕ × AttrSet)) → IsMeasured t s e told → IsMeasured (record t { held = hs }) (record s { held = hs }) e told
unfolding fault_of early_fault_of series_after
with-held t s e told hs m = record {
  ok = m.ok;
  value = on_ok _ _ told (λ so. (λ i. record (so i) { held = hs })) m.value;
  err = m.err;
  no_memory = m.no_memory;
  held = m.held;
  unchanged = on_err_map _ _ told (λ so. (λ i. record (so i) { held = hs })) m.unchanged;
}

pub seen-with : {U : Type 0} (t s x : Tallied) (e : Entry) (told : Result U TallyFault) (hs : List (ℕ × AttrSet)) → (let y : Tallied = record t { held = hs } in y) ≡ x → IsMeasured t s e told
    → IsMeasured x (record s { held = hs }) e told
seen-with t s x e told hs same m = seen-as (record t { held = hs }) x (record s { held = hs }) e told same (with-held t s e told hs m)
