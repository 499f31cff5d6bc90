-- The forms of keys, cells and what is carried are forms that no two values share.
use Rattle.std.specs.Prelude.{◌≡◌, ℕ, ◌<◌, ◌&&◌, ◌==◌, Bool, true, false, List, [], ◌∷◌, ◌++◌, length, refl, Option, Some, None}
use Rattle.std.proofs.Common.{sym, ap, ◌∙◌, append_assoc, arith, length-append, subst}
use Rattle.attr_kit.specs.Exact.{first_holds, second_holds, exact_unsigned}
use Rattle.point_kit.specs.Exact.{exact_streams, exact_writers}
use Rattle.point_kit.specs.contracts.stream.StreamPartialEq.TheImpl as streams
use Rattle.point_kit.specs.contracts.writer_id.WriterIdPartialEq.TheImpl as writers
use Rattle.point_kit.specs.declared.cell.Cell.{Cell}
use Rattle.point_kit.specs.declared.cell.Held.{Held}
use Rattle.point_kit.specs.declared.cell.Held.TheVariants.{One, Conflict}
use Rattle.point_kit.specs.declared.key.Key.{Key}
use Rattle.point_kit.specs.declared.payload.Payload.{Payload}
use Rattle.point_kit.specs.declared.payload.Payload.TheVariants as payloads
use Rattle.point_kit.specs.declared.stream.Stream.{Stream}
use Rattle.point_kit.specs.declared.writer_id.WriterId.{WriterId}
use Rattle.attr_kit.specs.declared.attr_value.AttrValue.{AttrValue}
use Rattle.bytes_kit.specs.Codes.{IsCode}
use Rattle.bytes_kit.specs.Format.{varint, pair_of, pair_behind, same_behind, past_same, attributes, stream, past_stream, writer, past_writer}
use Rattle.bytes_kit.specs.KeyForms.{Inherits}
use Rattle.bytes_kit.specs.Laws.{varint_code, varint_bytes, pair_code, pair_bytes, code_through}
use Rattle.bytes_kit.specs.Messages.{Earlier, Entry, common, common_form, common_of, series_fields, key_fields, key_rest, key, payload_or_conflict, cell, entry, past_entry, nothing_earlier, cells, body_bytes, message_fields}
use Rattle.bytes_kit.specs.Past.{Past, is_short, is_light}
use Rattle.bytes_kit.specs.PastLaws.{IsCodeBehind, pair_behind_code, list_behind_code}
use Rattle.bytes_kit.specs.FieldLaws.{writer_code, stream_code, attributes_code, payload_code, payload_bytes}
use Rattle.bytes_kit.specs.declared.carried.Carried.TheVariants as bodies
use Rattle.bytes_kit.specs.declared.keys.Shared.{Shared}
use Rattle.bytes_kit.specs.declared.keys.Shared.TheVariants as shares

-- the first byte tells the variants apart
first : List ℕ → ℕ
first [] = 0
first (x ∷ xs) = x

-- ---- cells

pub payload_or_conflict_code : IsCode payload_or_conflict
unfolding first
payload_or_conflict_code (One p) (One q) s t e = let both = payload_code p q s t e in (ap (λ x. One x) both.0, both.1)
payload_or_conflict_code Conflict Conflict s t e = (refl, cc)
payload_or_conflict_code (One (payloads.Sum n)) Conflict s t e = absurd (omega (arith, ap first e))
payload_or_conflict_code (One (payloads.Gauge n)) Conflict s t e = absurd (omega (arith, ap first e))
payload_or_conflict_code (One (payloads.Hist c n l None)) Conflict s t e = absurd (omega (arith, ap first e))
payload_or_conflict_code (One (payloads.Hist c n l (Some r))) Conflict s t e = absurd (omega (arith, ap first e))
payload_or_conflict_code Conflict (One (payloads.Sum n)) s t e = absurd (omega (arith, ap first e))
payload_or_conflict_code Conflict (One (payloads.Gauge n)) s t e = absurd (omega (arith, ap first e))
payload_or_conflict_code Conflict (One (payloads.Hist c n l None)) s t e = absurd (omega (arith, ap first e))
payload_or_conflict_code Conflict (One (payloads.Hist c n l (Some r))) s t e = absurd (omega (arith, ap first e))

pub payload_or_conflict_bytes : (h : Held Payload) → 0 < length (payload_or_conflict h)
payload_or_conflict_bytes (One p) = payload_bytes p
payload_or_conflict_bytes Conflict = omega arith

pub cell_code : IsCode cell
cell_code = code_through (pair_of varint payload_or_conflict) (λ c. (c.time, c.held)) (λ p. record { time = p.0; held = p.1 }) (λ _. refl) (pair_code varint payload_or_conflict varint_code payload_or_conflict_code)

pub cell_bytes : (c : Cell Payload) → 0 < length (cell c)
cell_bytes c = pair_bytes varint payload_or_conflict varint_bytes (c.time, c.held)

-- ---- keys

pub common_code : IsCode common_form
unfolding first
common_code shares.Nothing shares.Nothing s t e = (refl, cc)
common_code shares.Incarnation shares.Incarnation s t e = (refl, cc)
common_code shares.Stream shares.Stream s t e = (refl, cc)
common_code shares.Nothing shares.Incarnation s t e = absurd (omega (arith, ap first e))
common_code shares.Nothing shares.Stream s t e = absurd (omega (arith, ap first e))
common_code shares.Incarnation shares.Nothing s t e = absurd (omega (arith, ap first e))
common_code shares.Incarnation shares.Stream s t e = absurd (omega (arith, ap first e))
common_code shares.Stream shares.Nothing s t e = absurd (omega (arith, ap first e))
common_code shares.Stream shares.Incarnation s t e = absurd (omega (arith, ap first e))

-- where a test of both fields holds, what is shared is equal
inherits_of : (j k : Key) (p q : Bool) → ((writers.ghosts).eq j.writer k.writer && (j.start == k.start)) && is_short k.writer.service ≡ p → (streams.ghosts).eq j.stream k.stream && is_light k.stream ≡ q → Inherits (Some j) (common_of p q) k
inherits_of j k true true a b =
    let c = first_holds _ _ a in
    (exact_writers j.writer k.writer (first_holds _ _ c), (exact_unsigned j.start k.start (second_holds _ _ c), exact_streams j.stream k.stream (first_holds _ _ b)))
inherits_of j k true false a b =
    let c = first_holds _ _ a in
    (exact_writers j.writer k.writer (first_holds _ _ c), exact_unsigned j.start k.start (second_holds _ _ c))
inherits_of j k false q a b = tt

pub inherits : (before : Option Key) (k : Key) → Inherits before (common before k) k
inherits None k = tt
inherits (Some j) k = inherits_of j k (((writers.ghosts).eq j.writer k.writer && (j.start == k.start)) && is_short k.writer.service) ((streams.ghosts).eq j.stream k.stream && is_light k.stream) refl refl

abbrev key_of : WriterId → ℕ → Stream → List (List ℕ × AttrValue) → Key
key_of w n s l = record { writer = w; start = n; stream = s; attrs = l }

series_fields_code : IsCodeBehind series_fields
series_fields_code = pair_behind_code stream past_stream attributes stream_code attributes_code

key_fields_code : IsCodeBehind key_fields
key_fields_code =
    pair_behind_code writer past_writer (pair_behind (same_behind varint) past_same series_fields) writer_code
    (pair_behind_code (same_behind varint) past_same series_fields (λ _. varint_code) series_fields_code)

whole_code : (p : Past) → IsCode (key_rest p shares.Nothing)
whole_code p = code_through (key_fields p) (λ k. (k.writer, (k.start, (k.stream, k.attrs)))) (λ x. key_of x.0 x.1.0 x.1.1.0 x.1.1.1) (λ _. refl) (key_fields_code p)

-- of two keys that have the same from the one before, what they do not share tells them apart
pub rest_code : (p : Past) (before : Option Key) (shared : Shared) (a b : Key) (s t : List ℕ) → Inherits before shared a → Inherits before shared b → key_rest p shared a ++ s ≡ key_rest p shared b ++ t → (a ≡ b) × (s ≡ t)
rest_code z before shares.Nothing a b s t p q e = whole_code z a b s t e
rest_code z (Some j) shares.Incarnation a b s t p q e =
    let both = series_fields_code z (a.stream, a.attrs) (b.stream, b.attrs) s t e in
    (λ i. key_of ((sym p.0 ∙ q.0) i) ((sym p.1 ∙ q.1) i) (both.0 i).0 (both.0 i).1, both.1)
rest_code z (Some j) shares.Stream a b s t p q e =
    let both = attributes_code z a.attrs b.attrs s t e in
    (λ i. key_of ((sym p.0 ∙ q.0) i) ((sym p.1.0 ∙ q.1.0) i) ((sym p.1.1 ∙ q.1.1) i) (both.0 i), both.1)
rest_code z None shares.Incarnation a b s t p q e = absurd p
rest_code z None shares.Stream a b s t p q e = absurd p

pub key_code : IsCodeBehind key
key_code x a b s t e =
    let z = x.0 in
    let before = x.1 in
    let p = common before a in
    let q = common before b in
    let one = common_code p q (key_rest z p a ++ s) (key_rest z q b ++ t) (sym (append_assoc (common_form p) (key_rest z p a) s) ∙ e ∙ append_assoc (common_form q) (key_rest z q b) t) in
    let same : p ≡ q = one.0 in
    rest_code z before q a b s t (subst (λ (y : Shared). Inherits before y a) same (inherits before a)) (inherits before b)
    (subst (λ (y : Shared). key_rest z y a ++ s ≡ key_rest z q b ++ t) same one.1)

common_bytes : (x : Shared) → 0 < length (common_form x)
common_bytes shares.Nothing = omega arith
common_bytes shares.Incarnation = omega arith
common_bytes shares.Stream = omega arith

pub entry_code : IsCodeBehind entry
entry_code x a b s t e =
    let one = key_code x a.0 b.0 (cell a.1 ++ s) (cell b.1 ++ t) (sym (append_assoc (key x a.0) (cell a.1) s) ∙ e ∙ append_assoc (key x b.0) (cell b.1) t) in
    let two = cell_code a.1 b.1 s t one.1 in
    (λ i. (one.0 i, two.0 i), two.1)

pub entry_bytes : (x : Earlier) (e : Entry) → 0 < length (entry x e)
entry_bytes x e = omega (arith, cell_bytes e.1, length-append (key x e.0) (cell e.1))

pub cells_code : IsCode cells
cells_code = list_behind_code entry past_entry entry_code nothing_earlier

-- ---- messages

pub body_bytes_code : IsCode body_bytes
unfolding first
body_bytes_code (bodies.Whole a) (bodies.Whole b) s t e =
    let rest : cells a ++ s ≡ cells b ++ t = cc in
    let both = cells_code a b s t rest in
    (ap (λ x. bodies.Whole x) both.0, both.1)
body_bytes_code (bodies.Delta m a) (bodies.Delta n b) s t e =
    let rest : pair_of varint cells (m, a) ++ s ≡ pair_of varint cells (n, b) ++ t = cc in
    let both = pair_code varint cells varint_code cells_code (m, a) (n, b) s t rest in
    (ap (λ (p : ℕ × List Entry). bodies.Delta p.0 p.1) both.0, both.1)
body_bytes_code (bodies.Ack m) (bodies.Ack n) s t e =
    let rest : varint m ++ s ≡ varint n ++ t = cc in
    let both = varint_code m n s t rest in
    (ap (λ x. bodies.Ack x) both.0, both.1)
body_bytes_code (bodies.Whole a) (bodies.Delta n b) s t e = absurd (omega (arith, ap first e))
body_bytes_code (bodies.Whole a) (bodies.Ack n) s t e = absurd (omega (arith, ap first e))
body_bytes_code (bodies.Delta m a) (bodies.Whole b) s t e = absurd (omega (arith, ap first e))
body_bytes_code (bodies.Delta m a) (bodies.Ack n) s t e = absurd (omega (arith, ap first e))
body_bytes_code (bodies.Ack m) (bodies.Whole b) s t e = absurd (omega (arith, ap first e))
body_bytes_code (bodies.Ack m) (bodies.Delta n b) s t e = absurd (omega (arith, ap first e))

pub message_fields_code : IsCode message_fields
message_fields_code =
    code_through (pair_of varint (pair_of varint body_bytes)) (λ s. (s.0, (s.1, s.2))) (λ p. (p.0, p.1.0, p.1.1)) (λ _. refl)
    (pair_code varint (pair_of varint body_bytes) varint_code (pair_code varint body_bytes varint_code body_bytes_code))
