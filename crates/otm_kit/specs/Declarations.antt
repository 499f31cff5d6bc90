-- What the lines of a script declare.
use Rattle.std.specs.Prelude.{ℕ, ◌==◌, nat_eq, Bool, false, List, [], ◌∷◌, ◌++◌, fold, position, Option, Some, None, is_some}
use Rattle.std.specs.Cmp.Lexicographic.{pointwise}
use Rattle.std.specs.List.{filter_map}
use Rattle.plan_kit.specs.declared.instrument.Instrument.{Instrument}
use Rattle.plan_kit.specs.declared.view.View.{View}
use Rattle.point_kit.specs.declared.writer_id.WriterId.{WriterId}
use Rattle.script_kit.specs.declared.line.Declaration.{Declaration}
use Rattle.script_kit.specs.declared.line.Declaration.TheVariants as declaration
use Rattle.script_kit.specs.declared.line.Line.{Line}
use Rattle.script_kit.specs.declared.line.Line.TheVariants as line

-- instruments, views, writers with their starts and gateways, in their order; the labels stand in the order of what they name
pub record Declared : Type 0 where
  pub instrument_labels : List (List ℕ)
  pub instruments : List Instrument
  pub views : List View
  pub writer_labels : List (List ℕ)
  pub writers : List (WriterId × ℕ)
  pub gateways : List ℕ
  pub limit : Option ℕ

abbrev pub instrument_label : Line → Option (List ℕ)
instrument_label (line.Declare (declaration.Instrument label instrument)) = Some label
instrument_label _ = None

abbrev pub instrument_in : Line → Option Instrument
instrument_in (line.Declare (declaration.Instrument label instrument)) = Some instrument
instrument_in _ = None

abbrev pub view_in : Line → Option View
view_in (line.Declare (declaration.View view)) = Some view
view_in _ = None

abbrev pub writer_label : Line → Option (List ℕ)
writer_label (line.Declare (declaration.Writer label id start)) = Some label
writer_label _ = None

abbrev pub writer_in : Line → Option (WriterId × ℕ)
writer_in (line.Declare (declaration.Writer label id start)) = Some (id, start)
writer_in _ = None

abbrev pub gateway_in : Line → Option ℕ
gateway_in (line.Declare (declaration.Gateway id)) = Some id
gateway_in _ = None

abbrev pub limit_after : Option ℕ → Line → Option ℕ
limit_after limit (line.Declare (declaration.Limit most)) = Some most
limit_after limit _ = limit

-- what lines declare
unfoldable pub declared_by : List Line → Declared
declared_by lines = record {
  instrument_labels = filter_map instrument_label lines;
  instruments = filter_map instrument_in lines;
  views = filter_map view_in lines;
  writer_labels = filter_map writer_label lines;
  writers = filter_map writer_in lines;
  gateways = filter_map gateway_in lines;
  limit = fold limit_after None lines;
}

-- the place of a label
unfoldable pub label_place : List (List ℕ) → List ℕ → Option ℕ
label_place labels label = position (pointwise nat_eq label) labels

-- the place of a gateway's id
unfoldable pub gateway_place : List ℕ → ℕ → Option ℕ
gateway_place ids id = position (λ known. id == known) ids

-- whether a declaration can't be added: its label is taken, or there is a limit
unfoldable pub is_taken : Declared → Declaration → Bool
is_taken d (declaration.Instrument label instrument) = is_some (label_place d.instrument_labels label)
is_taken d (declaration.View view) = false
is_taken d (declaration.Writer label id start) = is_some (label_place d.writer_labels label)
is_taken d (declaration.Gateway id) = false
is_taken d (declaration.Limit limit) = is_some d.limit

-- the place of the word that may be taken: that of the label, or `limit`
abbrev pub named_at : Declaration → ℕ
named_at (declaration.Limit limit) = 0
named_at _ = 1

-- with one instrument more, under its label
abbrev pub with_instrument : Declared → List ℕ → Instrument → Declared
with_instrument d label instrument = record d {
  instrument_labels = d.instrument_labels ++ label ∷ [];
  instruments = d.instruments ++ instrument ∷ [];
}

-- with one writer more, under its label
abbrev pub with_writer : Declared → List ℕ → WriterId → ℕ → Declared
with_writer d label id start = record d {
  writer_labels = d.writer_labels ++ label ∷ [];
  writers = d.writers ++ (id, start) ∷ [];
}

-- with one declaration more
unfoldable pub with_declaration : Declared → Declaration → Declared
with_declaration d (declaration.Instrument label instrument) = with_instrument d label instrument
with_declaration d (declaration.View view) = record d { views = d.views ++ view ∷ [] }
with_declaration d (declaration.Writer label id start) = with_writer d label id start
with_declaration d (declaration.Gateway id) = record d { gateways = d.gateways ++ id ∷ [] }
with_declaration d (declaration.Limit limit) = record d { limit = Some limit }
