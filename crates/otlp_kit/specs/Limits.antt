-- How much a text, and how many attributes, an export has whose request is written or read.
use Rattle.std.specs.Prelude.{ℕ, nat_lt, ◌||◌, Bool, List, length}
use Rattle.attr_kit.specs.declared.attr_value.AttrValue.{AttrValue}
use Rattle.point_kit.specs.declared.stream.Stream.{Stream}

-- more bytes than a text may have: that of a service, a scope, a name or a unit
abbrev pub is_long : List ℕ → Bool
is_long text = nat_lt 1024 (length text)

abbrev pub is_long_stream : Stream → Bool
is_long_stream s = is_long s.scope || (is_long s.name || is_long s.unit)

-- more attributes than a point may have
abbrev pub are_many : {A : Type 0} → List A → Bool
are_many attrs = nat_lt 128 (length attrs)
