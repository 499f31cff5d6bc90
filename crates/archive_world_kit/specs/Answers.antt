-- What is fed where archives are among the writers, and when archives change no answer.
use Rattle.std.specs.Prelude.{◌≡◌, ℕ, ℤ, Bool, true, false, not, cond, IsTrue, List, [], filter}
use Rattle.std.specs.List.{flat_map}
use Rattle.agg_kit.specs.Payloads.{payload_of}
use Rattle.archive_kit.specs.Adopting.{Counted, EachOnce, is_adopted}
use Rattle.archive_kit.specs.Totals.{is_gauge}
use Rattle.archive_world_kit.specs.Adopted.{Archives, adopted_by, telling}
use Rattle.archive_world_kit.specs.Steps.{History, deeds, rounding}
use Rattle.gateway_kit.specs.Keys.{ItemKey}
use Rattle.plan_kit.specs.Plans.{is_proper}
use Rattle.point_kit.specs.declared.key.Key.{Key}
use Rattle.rollup_kit.specs.Recordings.{values_under}
use Rattle.rollup_kit.specs.Rollups.{AddsUp}
use Rattle.schedule_kit.specs.Deeds.Holder.{AtGateway}
use Rattle.schedule_kit.specs.Members.{In}
use Rattle.schedule_kit.specs.Rows.{values_fed}
use Rattle.schedule_kit.specs.Taken.{incarnations, recorded_up_to, taken_collections}

module _ {N : Type 0} {h : History N} (a : Archives h) where
  -- Of writers that are no archives what is fed has a name that is no gauge's, and the payload of a sum or a histogram is that of the
  -- values fed to its name. An archive feeds what it adopted.
  pub record Feeds (fed : ℕ → List N → List (ItemKey × ℤ)) : Type 0 where
    pub named : (w : ℕ) (es : List N) (p : ItemKey × ℤ) → a.is_archive (h.writing.who w) ≡ false → In p (fed w es)
        → In p.0 (h.writing.names w es)
    pub plain : (w : ℕ) (es : List N) (p : ItemKey × ℤ) → a.is_archive (h.writing.who w) ≡ false → In p (fed w es)
        → is_gauge (h.writing.payload w es p.0) ≡ false
    pub payload : (w : ℕ) (es : List N) (x : ItemKey) → a.is_archive (h.writing.who w) ≡ false → AddsUp x.0.shape
        → In x (h.writing.names w es)
        → h.writing.payload w es x ≡ payload_of x.0.shape (values_under (rounding h.writing).same_name x (fed w es))
    pub feeds : (b : ℕ) (es : List N) → a.is_archive (h.writing.who b) ≡ true → fed b es ≡ flat_map (λ c. fed c.0.0 c.1) (a.adoptions b es)

  -- the incarnations of writers that are no archives
  abbrev pub workers : List (ℕ × ℕ)
  workers = filter (λ i. not (a.is_archive (h.writing.who i.0))) (incarnations h.starts (deeds h.steps))

  -- whether an incarnation was adopted, by the exports that a node took
  abbrev pub was_adopted : ℕ → ℕ × ℕ → Bool
  was_adopted g i =
      is_adopted (rounding h.writing) (telling a) (taken_collections h.starts (deeds h.steps) (AtGateway g)) (h.writing.who i.0) i.1

  -- None is adopted twice; what was adopted are incarnations of the history, each up to its last collection, and of each other worker the
  -- last one came: `last` tells what an incarnation recorded up to that.
  pub record AreLast (g : ℕ) (last : ℕ × ℕ → List N) : Type 0 where
    pub once : EachOnce (adopted_by a g)
    pub there : (c : Counted N) → In c (adopted_by a g) → In {A = ℕ × ℕ} c.0 (incarnations h.starts (deeds h.steps))
    pub adopted : (c : Counted N) → In c (adopted_by a g) → c.1 ≡ last c.0
    pub others : (i : ℕ × ℕ) → In i (incarnations h.starts (deeds h.steps)) → a.is_archive (h.writing.who i.0) ≡ false
        → was_adopted g i ≡ false → recorded_up_to h.starts (deeds h.steps) (AtGateway g) i ≡ last i

  -- the bounds of each histogram rise
  abbrev pub HasProperBounds : Type 0
  HasProperBounds = (w : ℕ) (es : List N) (x : ItemKey) → a.is_archive (h.writing.who w) ≡ false → In x (h.writing.names w es)
      → IsTrue (is_proper x.0.shape)

  -- what stands for recordings at a node: of each incarnation that was not adopted those up to its newest collection that the node took,
  -- each under the key that it feeds. Those of an archive are what it adopted.
  abbrev pub recordings_by : (ℕ → List N → List (ItemKey × ℤ)) → ℕ → List (Key × ℤ)
  recordings_by fed g = values_fed (rounding h.writing)
      (λ i. cond (was_adopted g i) [] (recorded_up_to h.starts (deeds h.steps) (AtGateway g) i))
      (incarnations h.starts (deeds h.steps)) fed
