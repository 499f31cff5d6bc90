-- What a test gets where it says no more than names.
use Rattle.std.specs.Prelude.{ℕ, List, [], None}
use Rattle.attr_kit.specs.declared.keep.Keep.TheVariants as keeps
use Rattle.plan_kit.specs.declared.instrument.Instrument.{Instrument}
use Rattle.plan_kit.specs.declared.instrument.Kind.{Kind}
use Rattle.plan_kit.specs.declared.view.Aggregation.TheVariants as ways
use Rattle.plan_kit.specs.declared.view.NameRule.TheVariants as rules
use Rattle.plan_kit.specs.declared.view.View.{View}
use Rattle.point_kit.specs.declared.shape.Shape.{Shape}
use Rattle.rollup_kit.specs.declared.ask.Ask.{Ask}

-- an instrument by its kind and its names
abbrev pub instrument_of : Kind → List ℕ → List ℕ → List ℕ → Instrument
instrument_of kind scope name unit = record { scope = scope; name = name; unit = unit; kind = kind }

-- a view of a name, of any kind and scope, that leaves everything as it is
abbrev pub view_of : List ℕ → View
view_of name = record {
  name = rules.Exact name;
  kind = None;
  scope = None;
  rename = None;
  keep = keeps.All;
  aggregation = ways.Default;
}

-- all points of a stream, with a row for each set of attributes
abbrev pub ask_of : List ℕ → List ℕ → List ℕ → Shape → Ask
ask_of scope name unit shape = record {
  stream = record { scope = scope; name = name; unit = unit; shape = shape };
  service = None;
  only = [];
  keep = keeps.All;
}
