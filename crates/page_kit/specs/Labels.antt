-- Labels, by which the rows of a family are told apart.
use Rattle.std.specs.Prelude.{ℕ, ◌||◌, ◌==◌, not, length, if◌then◌else◌, Bool, true, false, List, [], ◌∷◌, ◌++◌, map, filter, codes}
use Rattle.std.specs.Cmp.Lexicographic.{slice_cmp}
use Rattle.std.specs.Fmt.{signed_decimal}
use Rattle.std.specs.List.{join_by}
use Rattle.std.specs.declared.cmp.Ordering.{Ordering}
use Rattle.attr_kit.specs.Orders.{text_cmp}
use Rattle.attr_kit.specs.declared.attr_value.AttrValue.{AttrValue}
use Rattle.attr_kit.specs.declared.attr_value.AttrValue.TheVariants.{Text, Truth, Whole}
use Rattle.point_kit.specs.declared.key.Key.{Key}
use Rattle.page_kit.specs.Groups.{groups}
use Rattle.page_kit.specs.Metrics.{metric_of, kind_name}
use Rattle.page_kit.specs.Names.{same, line, led}
use Rattle.page_kit.specs.contracts.labels.LabelOrd.TheImpl as orders
use Rattle.page_kit.specs.declared.labels.Label.{Label}
use Rattle.page_kit.specs.declared.metric.Metric.{Metric}

-- label by label, each by its name and then by its value, a proper prefix being less
abbrev pub labels_cmp : List Label → List Label → Ordering
labels_cmp = slice_cmp (orders.ghosts).cmp

-- what stands before the piece at a place, where this stands between each two
abbrev pub separator : List ℕ → ℕ → List ℕ
separator between place = if place == 0 then [] else between

-- texts with a `;` between each two
abbrev pub joined : List (List ℕ) → List ℕ
joined texts = join_by (λ text. text) (59 ∷ []) texts

abbrev pub has_value : Label → Bool
has_value label = not (length label.value == 0)

-- texts under names as labels, in the order of the names: those of one name joined, and an empty one left out
abbrev pub labels_of_groups : List (List ℕ × List (List ℕ)) → List Label
labels_of_groups gs = filter has_value (map (λ g. record { name = g.0; value = joined g.1 }) gs)

unfoldable pub labels : List (List ℕ × List ℕ) → List Label
labels texts = labels_of_groups (groups text_cmp texts)

abbrev pub value_text : AttrValue → List ℕ
value_text (Text text) = text
value_text (Truth true) = codes "true"
value_text (Truth false) = codes "false"
value_text (Whole number) = signed_decimal number

-- names of Prometheus' own, and those of the labels beside the attributes
abbrev pub is_reserved : List ℕ → Bool
is_reserved name = same name (codes "instance") || same name (codes "job") || same name (codes "le") || same name (codes "otel_scope_name") || same name (codes "service_name")

abbrev pub exported : List ℕ → List ℕ
exported name = if is_reserved name then codes "exported_" ++ name else name

-- the name of the label of an attribute's key
unfoldable pub label_name : List ℕ → List ℕ
label_name key = exported (led (codes "key") (line key))

-- the labels of a key: its service, its scope and its attributes
unfoldable pub row_labels : Key → List Label
row_labels key = labels ((codes "service_name", key.writer.service) ∷ (codes "otel_scope_name", key.stream.scope) ∷ map (λ p. (label_name p.0, value_text p.1)) key.attrs)

-- those that tell its service alone
unfoldable pub service_labels : Key → List Label
service_labels key = labels ((codes "service_name", key.writer.service) ∷ [])

-- those that tell a metric
unfoldable pub metric_labels : Metric → List Label
metric_labels m = labels ((codes "kind", kind_name m.kind) ∷ (codes "name", m.name) ∷ (codes "unit", m.unit) ∷ [])

-- those that tell a key's metric, scope and service
unfoldable pub conflict_labels : Key → List Label
conflict_labels key =
    let m = metric_of key.stream in
    labels ((codes "kind", kind_name m.kind) ∷ (codes "name", m.name) ∷ (codes "otel_scope_name", key.stream.scope) ∷ (codes "service_name", key.writer.service) ∷ (codes "unit", m.unit) ∷ [])
