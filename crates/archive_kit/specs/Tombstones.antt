-- Tombstones are ordinary points: an archive writes one for each incarnation that it adopted, in a stream that no other writer has.
use Rattle.std.specs.Prelude.{◌≡◌, ◌<◌, ℕ, pos, Bool, not, ◌&&◌, All, List, [], ◌∷◌, codes, length}
use Rattle.attr_kit.specs.declared.attr_set.AttrSet.{AttrSet}
use Rattle.attr_kit.specs.declared.attr_value.AttrValue.{AttrValue}
use Rattle.attr_kit.specs.declared.attr_value.AttrValue.TheVariants as values
use Rattle.attr_kit.specs.contracts.attr_set.AttrSetPartialEq.TheImpl as sets
use Rattle.attr_kit.specs.contracts.attr_value.AttrValuePartialEq.TheImpl as attr_values
use Rattle.attr_kit.specs.contracts.txt.TxtPartialEq.TheImpl as texts
use Rattle.point_kit.specs.contracts.stream.StreamPartialEq.TheImpl as streams
use Rattle.point_kit.specs.declared.key.Key.{Key}
use Rattle.point_kit.specs.declared.shape.Shape.TheVariants as shapes
use Rattle.point_kit.specs.declared.stream.Stream.{Stream}
use Rattle.point_kit.specs.declared.writer_id.WriterId.{WriterId}
use Rattle.uuid.specs.Text.{hyphenated_text, lower}

-- the tombstones' stream, in a scope of its own
abbrev pub tombstones : Stream
tombstones = record { scope = codes "kotskhin.archive"; name = codes "adopted"; unit = codes "ns"; shape = shapes.Gauge }

-- an incarnation, told by attributes
abbrev pub incarnation_attrs : WriterId → ℕ → AttrSet
incarnation_attrs writer start =
    (codes "instance", values.Text (hyphenated_text lower writer.instance))
    ∷ (codes "service", values.Text writer.service)
    ∷ (codes "start", values.Whole (pos start)) ∷ []

abbrev pub stream_eq : Stream → Stream → Bool
stream_eq = (streams.ghosts).eq

abbrev pub set_eq : AttrSet → AttrSet → Bool
set_eq = (sets.ghosts).eq

-- pairs of a set, key by key and value by value
abbrev pub pair_eq : List ℕ × AttrValue → List ℕ × AttrValue → Bool
pair_eq p q = (texts.ghosts).eq p.0 q.0 && (attr_values.ghosts).eq p.1 q.1

-- a key of that stream is a tombstone, whoever wrote it and whatever stands under it
abbrev pub is_tombstone : Key → Bool
is_tombstone key = stream_eq tombstones key.stream

-- it names the keys of the incarnation that its attributes tell, but no tombstone
abbrev pub names_key : Key → Key → Bool
names_key t k = is_tombstone t && (not (is_tombstone k) && set_eq t.attrs (incarnation_attrs k.writer k.start))

-- the instance of an identity is one: sixteen bytes
pub record IsInstance (w : WriterId) : Type 0 where
  pub sixteen : length w.instance ≡ 16
  pub bytes : All (λ b. b < 256) w.instance
