-- A recording at one feed and at those that follow it.
use Rattle.std.proofs.Common.{◌≡◌, ℕ, ℤ, ◌<◌, ◌∙◌, ◌∷◌, true, false, List, Option, Some, None, length, get_or, set, slice_get, position, refl, sym, ap, subst, FitsSigned, w64}
use Rattle.std.proofs.lemmas.List.{length-set}
use Rattle.std.specs.Map.{keys_of, lookup}
use Rattle.attr_kit.specs.declared.attr_set.AttrSet.{AttrSet}
use Rattle.attr_kit.specs.Keeping.{kept}
use Rattle.plan_kit.specs.Plans.{Planned, AreFeeds}
use Rattle.plan_kit.specs.declared.feed.Feed.{Feed}
use Rattle.agg_kit.specs.Feeding.{set_eq}
use Rattle.agg_kit.specs.Feeds.{entries_of, shape_at, early_feeds, first_out, AllHeld}
use Rattle.agg_kit.specs.FreshPoints.{payload_with, add_at}
use Rattle.agg_kit.specs.Payloads.{is_out_of_range}
use Rattle.agg_kit.specs.Sound.{AllSound}
use Rattle.agg_kit.specs.Steps.{Stored, has_point, fed_set, step}
use Rattle.agg_kit.specs.Tallies.{Points}
use Rattle.agg_kit.specs.declared.fault.TallyFault.TheVariants as faults
use Rattle.agg_kit.proofs.Records.{entries-read, first-here, first-rest, found-at, leaves-here, new-fits, new-gone, same_entries, set-here, unmoved, early-rest}
use Rattle.agg_kit.proofs.Steps.{absent, add_under-has_point, range-there, within-has_point}

-- the first feed of all, whose stream is read as `old`
module _ (p : Planned) (a : AttrSet) (v : ℤ) (ss : List Stored) (feed : Feed) (rest all : List Feed) (is : all ≡ feed ∷ rest) (feeds : AreFeeds (length ss) all)
    (old : Stored) (was : old ≡ get_or ss feed.stream old) where
  pub fits : AreFeeds (length ss) (feed ∷ rest)
  fits = subst (AreFeeds (length ss)) is feeds

  -- what stands there in its place is followed by the other feeds
  rest-fits : (q : Stored) → AreFeeds (length (set ss feed.stream q)) rest
  rest-fits q = subst (λ (n : ℕ). AreFeeds n rest) (sym (length-set ss feed.stream q)) fits.2

  rest-sound : (q : Stored) → q.entries ≡ old.entries → AllSound p.streams (entries_of ss) → AllSound p.streams (entries_of (set ss feed.stream q))
  rest-sound q same sound = subst (AllSound p.streams) (sym (same_entries ss feed.stream q old was same)) sound

  pub rest-ready : (q : Stored) → q.entries ≡ old.entries → AllSound p.streams (entries_of ss)
      → AreFeeds (length (set ss feed.stream q)) rest × AllSound p.streams (entries_of (set ss feed.stream q))
  rest-ready q same sound = (rest-fits q, rest-sound q same sound)

  module _ (limit : ℕ) (b : AttrSet) (found : Option ℕ) (is-limit : limit ≡ p.limit) (is-set : b ≡ kept feed.keep a)
      (finds : found ≡ position (set_eq (fed_set limit old.entries b)) (keys_of old.entries)) where
    abbrev reached : AttrSet
    reached = fed_set p.limit old.entries (kept feed.keep a)

    found-in : (at : Option ℕ) → found ≡ at → position (set_eq reached) (keys_of old.entries) ≡ at
    found-in at e = found-at p (kept feed.keep a) old.entries limit b found at is-limit is-set e finds

    -- there is no point of the set yet
    module _ (none : found ≡ None) where
      gone : lookup (set_eq reached) old.entries ≡ None
      gone = absent old.entries reached (found-in None none)

      -- so the feeds that follow say what is out of range
      pub absent-first : FitsSigned w64 v → (q : Stored) → q.entries ≡ old.entries → first_out p a v (entries_of ss) all ≡ first_out p a v (entries_of (set ss feed.stream q)) rest
      absent-first fit q same = first-rest p a v ss old q feed rest all is fits.0 was same (new-fits (shape_at p feed.stream) old.entries reached v fit gone)

      pub absent-early : FitsSigned w64 v → (q : Stored) → q.entries ≡ old.entries → first_out p a v (entries_of (set ss feed.stream q)) (early_feeds a rest) ≡ None
          → first_out p a v (entries_of ss) (early_feeds a all) ≡ None
      absent-early fit q same = early-rest p a v ss old q feed rest all is fits.0 was same (new-fits (shape_at p feed.stream) old.entries reached v fit gone)

      -- and not all points are there
      pub absent-held : AllHeld p all a (entries_of ss) → ⊥
      absent-held all-held =
          let all' : AllHeld p (feed ∷ rest) a (entries_of ss) = subst (λ (fs : List Feed). AllHeld p fs a (entries_of ss)) is all-held in
          let here : has_point old.entries reached ≡ true = subst (λ (es : Points). has_point es (fed_set p.limit es (kept feed.keep a)) ≡ true) (entries-read ss feed.stream old fits.0 was) all'.1 in
          new-gone old.entries reached gone here

    -- the point of the set is there
    module _ (i : ℕ) (there : found ≡ Some i) where
      at : position (set_eq reached) (keys_of old.entries) ≡ Some i
      at = found-in (Some i) there

      pub there-within : i < length old.entries
      there-within = within-has_point old.entries reached i at

      pub there-added : add_at (shape_at p feed.stream) old.entries i v ≡ step (shape_at p feed.stream) p.limit old.entries (kept feed.keep a) v
      there-added = add_under-has_point (shape_at p feed.stream) old.entries reached v i at

      -- it is out of range
      pub there-out : is_out_of_range (payload_with (shape_at p feed.stream) old.entries i v) ≡ true → first_out p a v (entries_of ss) all ≡ Some (faults.Overflow feed.stream)
      there-out out =
          ap (first_out p a v (entries_of ss)) is
          ∙ first-here p a v (entries_of ss) feed rest (leaves-here p feed a v ss old fits.0 was ∙ range-there (shape_at p feed.stream) old.entries reached v i true at out)

      -- it is not, and the feeds that follow say what is
      pub there-first : is_out_of_range (payload_with (shape_at p feed.stream) old.entries i v) ≡ false → first_out p a v (entries_of ss) all ≡ first_out p a v (entries_of (set ss feed.stream old)) rest
      there-first fine = first-rest p a v ss old old feed rest all is fits.0 was refl (range-there (shape_at p feed.stream) old.entries reached v i false at fine)

      pub there-early : is_out_of_range (payload_with (shape_at p feed.stream) old.entries i v) ≡ false → first_out p a v (entries_of (set ss feed.stream old)) (early_feeds a rest) ≡ None
          → first_out p a v (entries_of ss) (early_feeds a all) ≡ None
      there-early fine = early-rest p a v ss old old feed rest all is fits.0 was refl (range-there (shape_at p feed.stream) old.entries reached v i false at fine)

-- the same where the feeds that follow have taken their recording, and the stream is read once more
module _ (p : Planned) (a : AttrSet) (v : ℤ) (ss ns : List Stored) (feed : Feed) (rest : List Feed) (fits : AreFeeds (length ss) (feed ∷ rest)) (q now : Stored)
    (others : slice_get ns feed.stream ≡ slice_get (set ss feed.stream q) feed.stream) (read-now : now ≡ get_or ns feed.stream now) where
  pub stays : slice_get ns feed.stream ≡ Some q
  stays = others ∙ set-here ss feed.stream q fits.0

  pub still : now ≡ q
  still = unmoved p feed rest a v ss ns q q now q (λ es. es) stays refl read-now
