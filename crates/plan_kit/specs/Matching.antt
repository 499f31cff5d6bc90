-- How the views that match an instrument are found: by the places of those whose names fit.
use Rattle.std.specs.Prelude.{◌≡◌, ℕ, Vec, ◌+◌, ◌++◌, nat_lt, ◌&&◌, not, Bool, true, false, cond, if◌then◌else◌, List, [], ◌∷◌, slice_get}
use Rattle.std.specs.Option.{option_map_or}
use Rattle.std.specs.HashMap.{HashMap, get_by}
use Rattle.plan_kit.specs.declared.view.Aggregation.{Aggregation}
use Rattle.plan_kit.specs.declared.view.Aggregation.TheVariants as ways
use Rattle.plan_kit.specs.declared.view.NameRule.{NameRule}
use Rattle.plan_kit.specs.declared.view.NameRule.TheVariants as rules
use Rattle.plan_kit.specs.declared.view.View.{View}
use Rattle.plan_kit.specs.declared.instrument.Instrument.{Instrument}
use Rattle.plan_kit.specs.Names.{lower}
use Rattle.plan_kit.specs.Views.{text_eq, kind_fits, scope_fits}

-- the places of the elements that pass, where the list begins at place n
abbrev pub places_from : {A : Type 0} → (A → Bool) → ℕ → List A → List ℕ
places_from test n [] = []
places_from test n (x ∷ xs) = cond (test x) (n ∷ places_from test (n + 1) xs) (places_from test (n + 1) xs)

abbrev pub places : {A : Type 0} → (A → Bool) → List A → List ℕ
places test xs = places_from test 0 xs

-- whether the element at a place passes
abbrev pub holds_at : {A : Type 0} → List A → (A → Bool) → ℕ → Bool
holds_at xs test n = option_map_or test (slice_get xs n) false

-- x, put into a list before the first element above it, with what is merged before the rest
abbrev pub merge_front : ℕ → (List ℕ → List ℕ) → List ℕ → List ℕ
merge_front x more [] = x ∷ more []
merge_front x more (y ∷ ys) = cond (nat_lt x y) (x ∷ more (y ∷ ys)) (y ∷ merge_front x more ys)

-- two rising lists as one
abbrev pub merge : List ℕ → List ℕ → List ℕ
merge [] ys = ys
merge (x ∷ xs) ys = merge_front x (merge xs) ys

-- a view of every name
abbrev pub rule_is_every : NameRule → Bool
rule_is_every rules.Every = true
rule_is_every (rules.Exact own) = false

abbrev pub is_every : View → Bool
is_every v = rule_is_every v.name

-- a view of this very name, which is in lower case
abbrev pub rule_names : List ℕ → NameRule → Bool
rule_names name rules.Every = false
rule_names name (rules.Exact own) = text_eq (lower own) name

abbrev pub names : List ℕ → View → Bool
names name v = rule_names name v.name

-- the criteria beside the name match
abbrev pub others_fit : Instrument → View → Bool
others_fit i v = kind_fits v.kind i.kind && scope_fits v.scope i.scope

-- the places that a map lists under a name
abbrev pub places_under : {Y S : Type 0} → HashMap (List ℕ) (Vec ℕ Y) S → List ℕ → List ℕ
places_under m name = option_map_or (λ l. l.items) (get_by (text_eq name) m) []

-- the map lists one place more under a name, and under others what it did
abbrev pub ListsUnder : {Y S Z T : Type 0} → List ℕ → ℕ → HashMap (List ℕ) (Vec ℕ Y) S → HashMap (List ℕ) (Vec ℕ Z) T → Type 0
ListsUnder name place old new = (q : List ℕ) → places_under new q ≡ (if text_eq name q then places_under old q ++ place ∷ [] else places_under old q)

-- an aggregation that gives no stream, to whatever instrument
abbrev pub is_drop : Aggregation → Bool
is_drop ways.Drop = true
is_drop way = false

-- a view of the asked sort: of those that drop, or of the others
abbrev pub is_of : Bool → View → Bool
is_of true v = is_drop v.aggregation
is_of false v = not (is_drop v.aggregation)

-- of one sort of views, the places of those of every name, and of those of each name
pub record IsIndex {Y S : Type 0} (sort : Bool) (exact : HashMap (List ℕ) (Vec ℕ Y) S) (every : List ℕ) (views : List View) : Type 0 where
  pub named : (name : List ℕ) → places_under exact name ≡ places (λ v. is_of sort v && names name v) views
  pub all : every ≡ places (λ v. is_of sort v && is_every v) views
