-- Which keys are asked for, and which row each goes to.
use Rattle.std.specs.Prelude.{ℕ, Bool, true, false, ◌&&◌, List, Option, Some, None}
use Rattle.std.specs.List.{list_all}
use Rattle.std.specs.declared.cmp.Ordering.{Ordering}
use Rattle.attr_kit.specs.Keeping.{kept}
use Rattle.attr_kit.specs.Putting.{value_of}
use Rattle.attr_kit.specs.declared.attr_value.AttrValue.{AttrValue}
use Rattle.attr_kit.specs.contracts.attr_set.AttrSetOrd.TheImpl as sets
use Rattle.attr_kit.specs.contracts.attr_value.AttrValuePartialEq.TheImpl as values
use Rattle.attr_kit.specs.contracts.txt.TxtPartialEq.TheImpl as texts
use Rattle.point_kit.specs.contracts.stream.StreamPartialEq.TheImpl as streams
use Rattle.point_kit.specs.declared.key.Key.{Key}
use Rattle.point_kit.specs.declared.writer_id.WriterId.{WriterId}
use Rattle.rollup_kit.specs.declared.ask.Ask.{Ask}

-- a set of attributes, as the list of its pairs
abbrev pub Attributes : Type 0
Attributes = List (List ℕ × AttrValue)

-- the order of attribute sets
abbrev pub attributes_cmp : Attributes → Attributes → Ordering
attributes_cmp = (sets.ghosts).cmp

-- a writer is of the service, where one is asked for
abbrev pub is_of_service : Option (List ℕ) → WriterId → Bool
is_of_service (Some service) writer = (texts.ghosts).eq writer.service service
is_of_service None writer = true

abbrev pub is_value : Option AttrValue → AttrValue → Bool
is_value (Some own) value = (values.ghosts).eq own value
is_value None value = false

-- a set has the pair: what it has under the pair's key is the pair's value
abbrev pub has_pair : Attributes → List ℕ × AttrValue → Bool
has_pair attrs pair = is_value (value_of pair.0 attrs) pair.1

abbrev pub has_pairs : List (List ℕ × AttrValue) → Attributes → Bool
has_pairs only attrs = list_all (has_pair attrs) only

-- a key is asked for: it is of the stream and the service, and its attributes have every pair
abbrev pub asks : Ask → Key → Bool
asks ask key = (streams.ghosts).eq ask.stream key.stream && (is_of_service ask.service key.writer && has_pairs ask.only key.attrs)

-- the row that a key goes to
abbrev pub group : Ask → Key → Attributes
group ask key = kept ask.keep key.attrs
