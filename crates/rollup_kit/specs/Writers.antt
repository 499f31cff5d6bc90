-- Writers by their places, and the rows of what they recorded.
use Rattle.std.specs.Prelude.{◌≡◌, ◌⊎◌, ◌<◌, ℕ, ℤ, List, [], length}
use Rattle.attr_kit.specs.declared.keep.Keep.TheVariants.{Only}
use Rattle.agg_kit.specs.Entries.{Entry}
use Rattle.plan_kit.specs.Plans.{Planned, AreApart}
use Rattle.point_kit.specs.declared.key.Key.{Key}
use Rattle.point_kit.specs.declared.payload.Payload.{Payload}
use Rattle.point_kit.specs.declared.writer_id.WriterId.{WriterId}
use Rattle.point_kit.specs.Equality.{payload_eq}
use Rattle.point_kit.specs.Orders.{key_cmp}
use Rattle.schedule_kit.specs.Deeds.{IsTold}
use Rattle.schedule_kit.specs.Mixed.{AreMixed}
use Rattle.schedule_kit.specs.Rounds.{Rounding}
use Rattle.schedule_kit.specs.Rows.{values_fed, keys_fed}
use Rattle.schedule_kit.specs.Taken.{incarnations_from}
use Rattle.rollup_kit.specs.Limits.{AreWithin}
use Rattle.rollup_kit.specs.Naming.{Name, name_eq, names_from, values_from, payload_at, key_at}
use Rattle.rollup_kit.specs.Rollups.{recorded_rows}
use Rattle.rollup_kit.specs.declared.ask.Ask.{Ask}
use Rattle.rollup_kit.specs.declared.row.Row.{Row}

-- writers by their places: the identity and the plan of each, and when each began
pub record Writers : Type 0 where
  pub who : ℕ → WriterId
  pub plan : ℕ → Planned
  pub starts : List ℕ

-- no plan has a stream twice
abbrev pub ArePlans : Writers → Type 0
ArePlans s = (w : ℕ) → AreApart (s.plan w).streams

-- no two share an identity
abbrev pub AreTold : Writers → Type 0
AreTold s = IsTold s.who s.starts

-- their collections, as rounds
abbrev pub rounding : Writers → Rounding Entry Key WriterId Name Payload
rounding s = record {
  order = key_cmp;
  same = payload_eq;
  same_name = name_eq;
  key = key_at;
  who = s.who;
  names = λ w h. names_from (s.plan w) h 0 (s.plan w).streams;
  payload = λ w h x. payload_at (s.plan w) h x;
}

-- what entries of the writer at a place feed: each value under its name
abbrev pub entries_fed : Writers → ℕ → List Entry → List (Name × ℤ)
entries_fed s w h = values_from (s.plan w) h 0 (s.plan w).streams

-- the rows of what each writer recorded, by its place
unfoldable pub rows_of : Writers → (ℕ → List Entry) → Ask → List Row
rows_of s entries ask =
    recorded_rows ask (values_fed (rounding s) (λ i. entries i.0) (incarnations_from 0 s.starts) (entries_fed s)) (keys_fed (rounding s) (λ i. entries i.0) (incarnations_from 0 s.starts))

-- each stream of each writer has no more attribute sets of its own than the limit
abbrev pub AllWithin : Writers → (ℕ → List Entry) → Type 0
AllWithin s entries = (w : ℕ) → w < length s.starts → AreWithin (s.plan w) (entries w)

-- the ask leaves out all attributes
pub record IsRegrouped (ask : Ask) : Type 0 where
  pub keep : ask.keep ≡ Only []
  pub only : ask.only ≡ []

-- each writer has the same entries in both, each as often
abbrev pub AllMixed : Writers → (ℕ → List Entry) → (ℕ → List Entry) → Type 0
AllMixed s entries others = (w : ℕ) → w < length s.starts → AreMixed (entries w) (others w)

-- The rows depend on which entries each writer has, and not on their order: where no stream is past the limit, and else of asks that leave out all attributes.
abbrev pub RowsAgree : Type 0
RowsAgree = (s : Writers) (entries others : ℕ → List Entry) → AllMixed s entries others → (ask : Ask) → AllWithin s others ⊎ IsRegrouped ask → rows_of s entries ask ≡ rows_of s others ask
