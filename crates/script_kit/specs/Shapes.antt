-- The words that name kinds, bounds, aggregations, shapes and kept keys.
use Rattle.std.specs.Prelude.{ℕ, ℤ, List, [], ◌++◌, Option, Some, None, true, false, ◌==◌, if◌then◌else◌, codes, length, unwrap_or}
use Rattle.std.specs.List.{slice_split, list_all}
use Rattle.std.specs.Option.{option_map}
use Rattle.std.specs.Str.{bytes_eq}
use Rattle.attr_kit.specs.AllowLists.{listed_keys}
use Rattle.attr_kit.specs.declared.keep.Keep.{Keep}
use Rattle.attr_kit.specs.declared.keep.Keep.TheVariants as keeps
use Rattle.point_kit.specs.declared.shape.Shape.{Shape}
use Rattle.point_kit.specs.declared.shape.Shape.TheVariants as shapes
use Rattle.plan_kit.specs.declared.instrument.Kind.{Kind}
use Rattle.plan_kit.specs.declared.instrument.Kind.TheVariants as kinds
use Rattle.plan_kit.specs.declared.view.Aggregation.{Aggregation}
use Rattle.plan_kit.specs.declared.view.Aggregation.TheVariants as ways
use Rattle.plan_kit.specs.declared.view.NameRule.{NameRule}
use Rattle.plan_kit.specs.declared.view.NameRule.TheVariants as rules
use Rattle.plan_kit.specs.Bounds.{default_bounds}
use Rattle.script_kit.specs.Forms.{is_dash, is_star}
use Rattle.script_kit.specs.Numbers.{value_of}
use Rattle.script_kit.specs.Words.{is_filled}
use Rattle.script_kit.specs.Pieces.{cut, all_some}

unfoldable pub kind_of : List ℕ → Option Kind
kind_of word =
    if bytes_eq word (codes "counter") then Some kinds.Counter
    else if bytes_eq word (codes "updown") then Some kinds.UpDown
    else if bytes_eq word (codes "gauge") then Some kinds.Gauge
    else if bytes_eq word (codes "histogram") then Some kinds.Histogram
    else None

-- a criterion of a view: `*` is none
unfoldable pub kind_asked : List ℕ → Option (Option Kind)
kind_asked word = if is_star word then Some None else option_map (λ kind. Some kind) (kind_of word)

-- the name that a view asks for: `*` is every name
unfoldable pub name_rule : List ℕ → NameRule
name_rule word = if is_star word then rules.Every else rules.Exact word

-- numbers between commas, or nothing
unfoldable pub bounds_of : List ℕ → Option (List ℤ)
bounds_of word = if length word == 0 then Some [] else all_some value_of (slice_split (λ b. b == 44) word)

-- `buckets:` and bounds
unfoldable pub buckets_of : List ℕ × List ℕ → Option Aggregation
buckets_of parts = if bytes_eq parts.0 (codes "buckets") then option_map (λ bounds. ways.Buckets bounds) (bounds_of parts.1) else None

unfoldable pub plain_aggregation : List ℕ → Option Aggregation
plain_aggregation word =
    if bytes_eq word (codes "default") then Some ways.Default
    else if bytes_eq word (codes "sum") then Some ways.Sum
    else if bytes_eq word (codes "last") then Some ways.LastValue
    else if bytes_eq word (codes "drop") then Some ways.Drop
    else None

-- what a view makes of recordings: a word with a colon, or without
abbrev pub with_colon : {A : Type 0} → (List ℕ × List ℕ → Option A) → Option A → Option (List ℕ × List ℕ) → Option A
with_colon f plain None = plain
with_colon f plain (Some parts) = f parts

unfoldable pub aggregation_of : List ℕ → Option Aggregation
aggregation_of word = with_colon buckets_of (plain_aggregation word) (cut 58 word)

-- `hist:` and bounds
unfoldable pub histogram_of : List ℕ × List ℕ → Option Shape
histogram_of parts = if bytes_eq parts.0 (codes "hist") then option_map (λ bounds. shapes.Histogram bounds) (bounds_of parts.1) else None

unfoldable pub plain_shape : List ℕ → Option Shape
plain_shape word =
    if bytes_eq word (codes "sum+") then Some (shapes.Sum true)
    else if bytes_eq word (codes "sum") then Some (shapes.Sum false)
    else if bytes_eq word (codes "gauge") then Some shapes.Gauge
    else if bytes_eq word (codes "hist") then Some (shapes.Histogram default_bounds)
    else None

unfoldable pub shape_of : List ℕ → Option Shape
shape_of word = with_colon histogram_of (plain_shape word) (cut 58 word)

-- what scripts call the shape of a kind's instruments, where a word is that of such a kind
unfoldable pub script_name : List ℕ → Option (List ℕ)
script_name kind =
    if bytes_eq kind (codes "counter") then Some (codes "sum+")
    else if bytes_eq kind (codes "updown") then Some (codes "sum")
    else if bytes_eq kind (codes "histogram") then Some (codes "hist")
    else None

-- what stands before the colon of a word, or the whole word
abbrev pub before_colon : List ℕ → Option (List ℕ × List ℕ) → List ℕ
before_colon word None = word
before_colon word (Some parts) = parts.0

abbrev pub script_word : List ℕ → Option (List ℕ × List ℕ) → List ℕ
script_word word None = unwrap_or (script_name word) word
script_word word (Some parts) = if bytes_eq parts.0 (codes "histogram") then codes "hist:" ++ parts.1 else word

-- a shape's word as scripts have it: where it is called by a kind, with `histogram:` and bounds too, the word of scripts, else itself
unfoldable pub script_shape : List ℕ → List ℕ
script_shape word = script_word word (cut 58 word)

-- `*` keeps all keys, `-` none, else the listed ones, none empty
unfoldable pub keep_of : List ℕ → Option Keep
keep_of word =
    if is_star word then Some keeps.All
    else if is_dash word then Some (keeps.Only [])
    else if list_all is_filled (slice_split (λ b. b == 44) word) then Some (keeps.Only (listed_keys (slice_split (λ b. b == 44) word)))
    else None
