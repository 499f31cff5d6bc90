-- `==` tells all keys and payloads apart.
use Rattle.std.specs.Prelude.{ℕ, ℤ, List, Option, refl}
use Rattle.std.proofs.Common.{ap}
use Rattle.attr_kit.specs.Exact.{IsExact, exact_through, exact_unsigned, exact_signed, exact_bool, exact_pairs, exact_lists, exact_options, exact_texts, exact_values}
use Rattle.point_kit.specs.contracts.shape.ShapePartialEq.TheImpl as shapes
use Rattle.point_kit.specs.contracts.writer_id.WriterIdPartialEq.TheImpl as writers
use Rattle.point_kit.specs.contracts.stream.StreamPartialEq.TheImpl as streams
use Rattle.point_kit.specs.contracts.key.KeyPartialEq.TheImpl as keys
use Rattle.point_kit.specs.contracts.payload.PayloadPartialEq.TheImpl as payloads
use denote.RattleType.{RattleType}
use mir.Syntax.{Dict}
use Rattle.std.specs.declared.cmp.PartialEq
use Rattle.point_kit.specs.contracts.cell.HeldPartialEq.TheImpl as helds
use Rattle.point_kit.specs.contracts.cell.CellPartialEq.TheImpl as cells
use Rattle.point_kit.specs.declared.cell.Held.TheVariants.{One, Conflict}
use Rattle.point_kit.specs.declared.shape.Shape.TheVariants.{Sum, Gauge, Histogram}
use Rattle.point_kit.specs.declared.payload.Payload.TheVariants as payload

pub exact_shapes : IsExact (shapes.ghosts).eq
exact_shapes (Sum m) (Sum n) e = ap (λ b. Sum b) (exact_bool m n e)
exact_shapes Gauge Gauge e = refl
exact_shapes (Histogram b) (Histogram c) e = ap (λ l. Histogram l) (exact_lists exact_signed b c e)
exact_shapes a b e = cc

pub exact_writers : IsExact (writers.ghosts).eq
exact_writers =
    exact_through (λ w. (w.service, w.instance)) (λ p. record { service = p.0; instance = p.1 }) (λ _. refl)
    (exact_pairs exact_texts exact_texts)

pub exact_streams : IsExact (streams.ghosts).eq
exact_streams =
    exact_through (λ s. (s.scope, (s.name, (s.unit, s.shape)))) (λ p. record { scope = p.0; name = p.1.0; unit = p.1.1.0; shape = p.1.1.1 }) (λ _. refl)
    (exact_pairs exact_texts (exact_pairs exact_texts (exact_pairs exact_texts exact_shapes)))

pub exact_keys : IsExact (keys.ghosts).eq
exact_keys =
    exact_through (λ k. (k.writer, (k.start, (k.stream, k.attrs)))) (λ p. record { writer = p.0; start = p.1.0; stream = p.1.1.0; attrs = p.1.1.1 }) (λ _. refl)
    (exact_pairs exact_writers (exact_pairs exact_unsigned (exact_pairs exact_streams (exact_lists (exact_pairs exact_texts exact_values)))))

pub exact_payloads : IsExact (payloads.ghosts).eq
exact_payloads (payload.Sum m) (payload.Sum n) e = ap (λ x. payload.Sum x) (exact_signed m n e)
exact_payloads (payload.Gauge m) (payload.Gauge n) e = ap (λ x. payload.Gauge x) (exact_signed m n e)
exact_payloads (payload.Hist c s b r) (payload.Hist d t q u) e =
    ap (λ (p : ℕ × (ℤ × (List ℕ × Option (ℤ × ℤ)))). payload.Hist p.0 p.1.0 p.1.1.0 p.1.1.1) (exact_pairs exact_unsigned (exact_pairs exact_signed (exact_pairs (exact_lists exact_unsigned) (exact_options (exact_pairs exact_signed exact_signed)))) (c, (s, (b, r))) (d, (t, (q, u))) e)
exact_payloads a b e = cc

pub exact_held : (row : RattleType) (at : PartialEq.Ghosts row.Denot) (dict : Dict) → IsExact at.eq → IsExact (helds.ghosts row at dict).eq
exact_held row at dict exact (One p) (One q) e = ap (λ x. One x) (exact p q e)
exact_held row at dict exact Conflict Conflict e = refl
exact_held row at dict exact a b e = cc

pub exact_cells : (row : RattleType) (at : PartialEq.Ghosts row.Denot) (dict : Dict) → IsExact at.eq → IsExact (cells.ghosts row at dict).eq
exact_cells row at dict exact =
    exact_through (λ c. (c.time, c.held)) (λ p. record { time = p.0; held = p.1 }) (λ _. refl)
    (exact_pairs exact_unsigned (exact_held row at dict exact))
