-- Which views match an instrument.
use Rattle.std.specs.Prelude.{ℕ, List, Bool, true, false, ◌&&◌, not, Option, Some, None, nat_eq}
use Rattle.std.specs.Cmp.Lexicographic.{pointwise}
use Rattle.plan_kit.specs.declared.instrument.Kind.{Kind}
use Rattle.plan_kit.specs.declared.instrument.Instrument.{Instrument}
use Rattle.plan_kit.specs.declared.view.NameRule.{NameRule}
use Rattle.plan_kit.specs.declared.view.NameRule.TheVariants as rules
use Rattle.plan_kit.specs.declared.view.View.{View}
use Rattle.plan_kit.specs.contracts.instrument.KindPartialEq.TheImpl as same_kinds
use Rattle.plan_kit.specs.Aggregations.{is_refused}
use Rattle.plan_kit.specs.Names.{is_name, lower}

abbrev pub text_eq : List ℕ → List ℕ → Bool
text_eq a b = pointwise nat_eq a b

-- an instrument with its name in lower case, which tells it apart: names compare without regard to case
abbrev pub with_name_lowered : Instrument → Instrument
with_name_lowered i = record i { name = lower i.name }

-- a name rule fits a name in lower case
abbrev pub name_fits : NameRule → List ℕ → Bool
name_fits (rules.Exact own) name = text_eq (lower own) name
name_fits rules.Every name = true

abbrev pub kind_fits : Option Kind → Kind → Bool
kind_fits None kind = true
kind_fits (Some own) kind = (same_kinds.ghosts).eq own kind

abbrev pub scope_fits : Option (List ℕ) → List ℕ → Bool
scope_fits None scope = true
scope_fits (Some own) scope = text_eq own scope

-- all criteria of a view match a lowered instrument
abbrev pub view_fits : View → Instrument → Bool
view_fits v i = name_fits v.name i.name && (kind_fits v.kind i.kind && scope_fits v.scope i.scope)

-- a view matches an instrument for which its aggregation is refused
abbrev pub is_bad_view : Instrument → View → Bool
is_bad_view i v = view_fits v i && is_refused i.kind v.aggregation

-- the name that a view gives breaks the rule of names
abbrev pub is_bad_rename : Option (List ℕ) → Bool
is_bad_rename None = false
is_bad_rename (Some name) = not (is_name name)

-- a view that matches every name gives one
abbrev pub is_wild_rename : NameRule → Option (List ℕ) → Bool
is_wild_rename rules.Every (Some name) = true
is_wild_rename rule rename = false
