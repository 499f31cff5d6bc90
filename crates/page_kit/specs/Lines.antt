-- The lines of a page, in OpenMetrics 1.0 and in Prometheus' text format 0.0.4.
use Rattle.std.specs.Prelude.{ℕ, ◌==◌, ◌&&◌, if◌then◌else◌, Bool, true, false, List, [], ◌∷◌, ◌++◌, codes, encode_utf8, length}
use Rattle.std.specs.List.{flat_map, join_by}
use Rattle.std.specs.Str.{chars}
use Rattle.page_kit.specs.Metrics.{family_type, ends_with_unit}
use Rattle.page_kit.specs.declared.labels.Label.{Label}
use Rattle.page_kit.specs.declared.metric.Kind.{Kind}
use Rattle.page_kit.specs.declared.metric.Kind.TheVariants.{Updown, Counter, Gauge, Histogram}
use Rattle.page_kit.specs.declared.metric.Metric.{Metric}
use Rattle.page_kit.specs.declared.text.Format.{Format}
use Rattle.page_kit.specs.declared.text.Format.TheVariants.{OpenMetrics, Prometheus}

-- a character: `\\`, `\n` for a line feed, `\"` where quotes are escaped, else itself
unfoldable pub escape : Bool → ℕ → List ℕ
escape quotes c =
    if c == 92 then 92 ∷ 92 ∷ []
    else if c == 10 then 92 ∷ 110 ∷ []
    else if (c == 34) && quotes then 92 ∷ 34 ∷ []
    else encode_utf8 c

unfoldable pub escaped : Bool → List ℕ → List ℕ
escaped quotes text = flat_map (escape quotes) (chars text)

unfoldable pub label_text : Label → List ℕ
label_text label = label.name ++ (codes "=\"" ++ (escaped true label.value ++ 34 ∷ []))

-- labels between braces, with a comma between each two; nothing where there are none
unfoldable pub labels_text : List Label → List ℕ
labels_text labels = if length labels == 0 then [] else 123 ∷ join_by label_text (44 ∷ []) labels ++ 125 ∷ []

-- a sample: its name, its labels and its number
unfoldable pub sample : List ℕ → List Label → List ℕ → List ℕ
sample name labels number = name ++ (labels_text labels ++ (32 ∷ number ++ 10 ∷ []))

-- what lines of metadata call a family: by its samples' name where Prometheus has a counter
abbrev pub total_of : Format → Kind → List ℕ
total_of OpenMetrics kind = []
total_of Prometheus Updown = []
total_of Prometheus Counter = codes "_total"
total_of Prometheus Gauge = []
total_of Prometheus Histogram = []

unfoldable pub type_line : Format → List ℕ → Kind → List ℕ
type_line format name kind = codes "# TYPE " ++ (name ++ (total_of format kind ++ (32 ∷ family_type kind ++ 10 ∷ [])))

-- OpenMetrics alone has the line of a unit, where the family's name ends with it
abbrev pub has_unit_line : Format → List ℕ → List ℕ → Bool
has_unit_line OpenMetrics name unit = ends_with_unit name unit
has_unit_line Prometheus name unit = false

unfoldable pub unit_line : Format → List ℕ → List ℕ → List ℕ
unit_line format name unit = if has_unit_line format name unit then codes "# UNIT " ++ (name ++ (32 ∷ unit ++ 10 ∷ [])) else []

-- quotes are escaped in the help of OpenMetrics
abbrev pub has_quotes : Format → Bool
has_quotes OpenMetrics = true
has_quotes Prometheus = false

unfoldable pub help_line : Format → List ℕ → Kind → List ℕ → List ℕ
help_line format name kind help = codes "# HELP " ++ (name ++ (total_of format kind ++ (32 ∷ escaped (has_quotes format) help ++ 10 ∷ [])))

-- the lines of a family's metadata
unfoldable pub metadata : Format → List ℕ → Kind → List ℕ → List ℕ → List ℕ
metadata format name kind unit help = type_line format name kind ++ (unit_line format name unit ++ help_line format name kind help)

-- what a family's help says: the name of its metric, and its unit where it has one
abbrev pub in_brackets : List ℕ → List ℕ
in_brackets unit = if length unit == 0 then [] else codes " (" ++ (unit ++ 41 ∷ [])

unfoldable pub help_of : Metric → List ℕ
help_of m = m.name ++ in_brackets m.unit
