-- Units, by the words that Prometheus has for those of UCUM.
use Rattle.std.specs.Prelude.{ℕ, ◌==◌, not, if◌then◌else◌, Bool, true, false, List, [], ◌∷◌, ◌++◌, codes, length, Option, Some, None, unwrap_or}
use Rattle.std.specs.List.{before_first, after_first}
use Rattle.std.specs.Map.{lookup}
use Rattle.page_kit.specs.Names.{same, mark, line, trimmed}
use Rattle.page_kit.specs.declared.metric.Kind.{Kind}
use Rattle.page_kit.specs.declared.metric.Kind.TheVariants.{Updown, Counter, Gauge, Histogram}

-- what stands outside of braces: from a `{` to the next `}`, or to the end, is left out
abbrev pub outside_from : Bool → List ℕ → List ℕ
outside_from inside [] = []
outside_from true (c ∷ cs) = outside_from (not (c == 125)) cs
outside_from false (c ∷ cs) = if c == 123 then outside_from true cs else c ∷ outside_from false cs

unfoldable pub outside_braces : List ℕ → List ℕ
outside_braces unit = outside_from false unit

-- the words of units: of time, of bytes by powers of 2 and of 10, of physical units and others, and of what a quantity is divided by
unfoldable pub time_word : List ℕ → Option (List ℕ)
time_word unit = lookup (same unit) ((codes "d", codes "days") ∷ (codes "h", codes "hours") ∷ (codes "min", codes "minutes") ∷ (codes "s", codes "seconds")
    ∷ (codes "ms", codes "milliseconds") ∷ (codes "us", codes "microseconds") ∷ (codes "ns", codes "nanoseconds") ∷ [])

unfoldable pub binary_word : List ℕ → Option (List ℕ)
binary_word unit = lookup (same unit) ((codes "By", codes "bytes") ∷ (codes "KiBy", codes "kibibytes") ∷ (codes "MiBy", codes "mebibytes") ∷ (codes "GiBy", codes "gibibytes")
    ∷ (codes "TiBy", codes "tibibytes") ∷ [])

unfoldable pub decimal_word : List ℕ → Option (List ℕ)
decimal_word unit = lookup (same unit) ((codes "KBy", codes "kilobytes") ∷ (codes "MBy", codes "megabytes") ∷ (codes "GBy", codes "gigabytes") ∷ (codes "TBy", codes "terabytes") ∷ [])

unfoldable pub physical_word : List ℕ → Option (List ℕ)
physical_word unit = lookup (same unit) ((codes "m", codes "meters") ∷ (codes "V", codes "volts") ∷ (codes "A", codes "amperes") ∷ (codes "J", codes "joules") ∷ (codes "W", codes "watts") ∷ [])

unfoldable pub other_word : List ℕ → Option (List ℕ)
other_word unit = lookup (same unit) ((codes "g", codes "grams") ∷ (codes "Cel", codes "celsius") ∷ (codes "Hz", codes "hertz") ∷ (codes "%", codes "percent") ∷ [])

unfoldable pub divisor_word : List ℕ → Option (List ℕ)
divisor_word unit = lookup (same unit) ((codes "s", codes "second") ∷ (codes "m", codes "minute") ∷ (codes "h", codes "hour") ∷ (codes "d", codes "day")
    ∷ (codes "w", codes "week") ∷ (codes "mo", codes "month") ∷ (codes "y", codes "year") ∷ [])

-- the first, or else the second
abbrev pub or_else : Option (List ℕ) → Option (List ℕ) → Option (List ℕ)
or_else (Some word) other = Some word
or_else None other = other

unfoldable pub unit_word : List ℕ → Option (List ℕ)
unit_word unit = or_else (time_word unit) (or_else (binary_word unit) (or_else (decimal_word unit) (or_else (physical_word unit) (other_word unit))))

-- a unit as part of a name, by its word where it has one
unfoldable pub part : List ℕ → Option (List ℕ) → List ℕ
part unit word = trimmed (line (unwrap_or word unit))

-- `ratio` where a gauge has the unit 1
abbrev pub of_one : Kind → List ℕ
of_one Gauge = codes "ratio"
of_one Updown = []
of_one Counter = []
of_one Histogram = []

-- what is measured
unfoldable pub measure : List ℕ → Kind → List ℕ
measure unit kind = if same unit (codes "1") then of_one kind else part unit (unit_word unit)

-- a word before a text, where that is not empty
abbrev pub after_word : List ℕ → List ℕ → List ℕ
after_word word text = if length text == 0 then text else word ++ text

-- what it is divided by
unfoldable pub divisor : List ℕ → List ℕ
divisor unit = after_word (codes "per_") (part unit (divisor_word unit))

-- both, where there are both, with a `_` between them
abbrev pub mark_after : List ℕ → List ℕ
mark_after text = if length text == 0 then [] else mark ∷ []

abbrev pub both : List ℕ → List ℕ → List ℕ
both name below = if length below == 0 then name else name ++ (mark_after name ++ below)

-- the name of a unit, which is split at its first `/`
unfoldable pub unit_name : List ℕ → Kind → List ℕ
unit_name unit kind =
    let bare = outside_braces unit in
    both (measure (before_first (λ c. c == 47) bare) kind) (divisor (after_first (λ c. c == 47) bare))
