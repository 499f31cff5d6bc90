-- What files answer.
use Rattle.std.specs.Prelude.{◌≡◌, ℕ, Bool, true, false, List, [], Option, Some, None, codes}
use Rattle.std.specs.List.{list_any}
use Rattle.std.specs.Option.{option_map}
use Rattle.archive_kit.specs.Tombstones.{tombstones}
use Rattle.page_kit.specs.Page.{asked_cells, last_line, left_in, page}
use Rattle.point_kit.specs.Exports.{Points}
use Rattle.point_kit.specs.declared.stream.Stream.{Stream}
use Rattle.rollup_kit.specs.Rollups.{rollup_rows}
use Rattle.rollup_kit.specs.Streams.{stream_eq, streams_held}
use Rattle.rollup_kit.specs.TableText.{table_text}
use Rattle.rollup_kit.specs.declared.ask.Ask.{Ask}
use Rattle.file_kit.specs.Contents.{Shows}
use Rattle.file_kit.specs.declared.answers.PageFormat.{PageFormat}
use Rattle.file_kit.specs.declared.answers.Reported.{Reported}
use Rattle.file_kit.specs.declared.answers.PageFormat.TheVariants.{Prometheus, OpenMetrics}

-- whether points are of a stream
abbrev pub has_stream : Points → Stream → Bool
has_stream points stream = list_any (stream_eq stream) (streams_held points)

-- told are the streams of points, unless one of them is asked for
abbrev pub AreOthers : Points → Stream → Option (List Stream) → Type 0
AreOthers points stream None = has_stream points stream ≡ true
AreOthers points stream (Some others) = (has_stream points stream ≡ false) × (others ≡ streams_held points)

-- what is reported of points
pub record IsReportOf (ask : Ask) (points : Points) (told : Reported) : Type 0 where
  pub table : told.table ≡ table_text (rollup_rows ask points)
  pub others : AreOthers points ask.stream (option_map (λ s. s.keys) told.others)

-- and of what files show
abbrev pub IsReport : Ask → List (List ℕ) → Reported → Type 0
IsReport ask files told = (points : Points) × Shows files points × IsReportOf ask points told

-- the last line by which a format is known
abbrev pub end_of : PageFormat → List ℕ
end_of Prometheus = []
end_of OpenMetrics = codes "# EOF\n"

-- a text is the page of points in the format whose pages end so, of a service where one is given, without tombstones
abbrev pub IsPageOf : List ℕ → Option (List ℕ) → Points → List ℕ → Type 0
IsPageOf end service points text =
    (format : _) × (last_line format ≡ end) × (text ≡ page format (left_in (Some tombstones.scope) (asked_cells service points)))

-- a text is the page of what files show
abbrev pub IsPage : PageFormat → Option (List ℕ) → List (List ℕ) → List ℕ → Type 0
IsPage format service files text = (points : Points) × Shows files points × IsPageOf (end_of format) service points text
