-- Names of incarnations, as tombstones' attributes tell them, and lists of them.
use Rattle.std.specs.Prelude.{◌≡◌, ℕ, ◌<◌, pos, Bool, true, false, ◌||◌, not, List, [], ◌∷◌, ◌++◌, codes, length, map, slice_index_or}
use Rattle.std.specs.List.{AllByRecursion, IsDistinct, list_any, position_or_len}
use Rattle.attr_kit.specs.contracts.txt.TxtPartialEq.TheImpl as texts
use Rattle.attr_kit.specs.declared.attr_set.AttrSet.{AttrSet}
use Rattle.attr_kit.specs.declared.attr_value.AttrValue.TheVariants as values
use Rattle.point_kit.specs.declared.writer_id.WriterId.{WriterId}
use Rattle.uuid.specs.Text.{hyphenated_text, lower}
use Rattle.archive_kit.specs.Tombstones.{incarnation_attrs, set_eq}
use Rattle.archive_kit.specs.declared.name.Told.{Told}
use Rattle.archive_kit.specs.declared.names.Mark.{Mark}

-- a service, the text of an instance, and a start
pub record Name : Type 0 where
  pub service : List ℕ
  pub instance : List ℕ
  pub start : ℕ

-- the attributes that a name stands for
abbrev pub name_attrs : Name → AttrSet
name_attrs n = (codes "instance", values.Text n.instance) ∷ (codes "service", values.Text n.service) ∷ (codes "start", values.Whole (pos n.start)) ∷ []

abbrev pub is_name : WriterId → ℕ → Name → Bool
is_name writer start n = set_eq (name_attrs n) (incarnation_attrs writer start)

-- whether one of the names is that of the incarnation
abbrev pub has_name : List Name → WriterId → ℕ → Bool
has_name names writer start = list_any (is_name writer start) names

-- the name of an incarnation
abbrev pub name_of : WriterId → ℕ → Name
name_of writer start = record { service = writer.service; instance = hyphenated_text lower writer.instance; start = start }

-- the name that is told
abbrev pub name_in : Told → Name
name_in t = record { service = t.service.now; instance = t.instance.now; start = t.start }

-- what contracts see of names: these, those that were noted, and for how many more there is room
pub record NameList : Type 0 where
  pub names : List Name
  pub fresh : List Name
  pub room : ℕ

-- a name is that of the incarnation, or one that was noted is
abbrev pub has_either : NameList → WriterId → ℕ → Bool
has_either n writer start = has_name n.names writer start || has_name n.fresh writer start

abbrev pub is_empty : List Name → Bool
is_empty [] = true
is_empty (n ∷ ns) = false

abbrev pub has_noted : NameList → Bool
has_noted n = not (is_empty n.fresh)

-- the names that marks stand for, each with its service by the place among these
abbrev pub mark_name : List (List ℕ) → Mark → Name
mark_name services m = record { service = slice_index_or services m.service []; instance = m.instance; start = m.start }

abbrev pub mark_names : List (List ℕ) → List Mark → List Name
mark_names services marks = map (mark_name services) marks

-- their services are there
abbrev pub AreOf : List (List ℕ) → List Mark → Type 0
AreOf services marks = AllByRecursion (λ m. m.service < length services) marks

abbrev pub text_eq : List ℕ → List ℕ → Bool
text_eq = (texts.ghosts).eq

-- the fields of names: each service stands once, and marks are of them
pub record AreNames (services : List (List ℕ)) (marks fresh : List Mark) : Type 0 where
  pub apart : IsDistinct text_eq services
  pub marked : AreOf services marks
  pub noted : AreOf services fresh

-- services with more behind them
abbrev pub Grows : List (List ℕ) → List (List ℕ) → Type 0
Grows old new = (more : List (List ℕ)) × (new ≡ old ++ more)

-- the place of the first that is a text, or how many there are
abbrev pub service_place : List (List ℕ) → List ℕ → ℕ
service_place services service = position_or_len (text_eq service) services

-- the mark of an incarnation whose service is there
pub record IsMarkOf (services : List (List ℕ)) (w : WriterId) (s : ℕ) (m : Mark) : Type 0 where
  pub there : m.service < length services
  pub service : m.service ≡ service_place services w.service
  pub instance : m.instance ≡ hyphenated_text lower w.instance
  pub start : m.start ≡ s
