-- An export and a message weigh no more than their bytes.
use Rattle.std.proofs.Common.{◌≡◌, ℕ, zero, suc, ◌+◌, ◌<◌, ◌≤◌, ◌*◌, ◌&&◌, ◌==◌, nat_eq, ℤ, cond, Bool, true, false, List, [], ◌∷◌, ◌++◌, length, get_or, Option, Some, None, refl, sym, ap, subst, ◌∙◌, arith, length-append}
use Rattle.std.proofs.lemmas.Bool.{le-leb, leb-true, false≢true}
use Rattle.std.proofs.lemmas.List.Quantifiers.{position-Some}
use Rattle.std.proofs.lemmas.Option.{cond_some, none-some}
use Rattle.std.specs.Cmp.Lexicographic.{pointwise}
use Rattle.std.specs.Int.{w32, to_be_bytes}
use Rattle.std.specs.List.{AllByRecursion, flat_map}
use Rattle.std.specs.Option.{ForSome}
use Rattle.gossip_kit.specs.Views.{MessageModel}
use Rattle.attr_kit.specs.Exact.{exact_texts, first_holds, second_holds}
use Rattle.attr_kit.specs.Refusing.{when}
use Rattle.attr_kit.specs.declared.attr_value.AttrValue.{AttrValue}
use Rattle.attr_kit.specs.declared.attr_value.AttrValue.TheVariants as values
use Rattle.point_kit.specs.Exact.{exact_streams}
use Rattle.point_kit.specs.contracts.stream.StreamPartialEq.TheImpl as streams
use Rattle.point_kit.specs.contracts.writer_id.WriterIdPartialEq.TheImpl as writers
use Rattle.point_kit.specs.declared.cell.Held.{Held}
use Rattle.point_kit.specs.declared.cell.Held.TheVariants.{One, Conflict}
use Rattle.point_kit.specs.declared.export.Export.{Export}
use Rattle.point_kit.specs.declared.export_point.ExportPoint.{ExportPoint}
use Rattle.point_kit.specs.declared.key.Key.{Key}
use Rattle.point_kit.specs.declared.payload.Payload.{Payload}
use Rattle.point_kit.specs.declared.payload.Payload.TheVariants as payloads
use Rattle.point_kit.specs.declared.shape.Shape.{Shape}
use Rattle.point_kit.specs.declared.shape.Shape.TheVariants as shapes
use Rattle.point_kit.specs.declared.stream.Stream.{Stream}
use Rattle.point_kit.specs.declared.writer_id.WriterId.{WriterId}
use Rattle.bytes_kit.specs.Checksum.{checksum}
use Rattle.bytes_kit.specs.Format.{Fields, fields, fields_of, head, with_checksum, bytes_of, varint, integer, text, text_or_place, text_behind, list_of, pair_behind, past_pair, forms_behind, past_all, list_behind, value, past_value, attributes, past_attributes, shape, stream, past_stream, stream_or_last, past_stream_or_last, point_stream, past_point_stream, payload, point, past_point, writer, past_writer}
use Rattle.bytes_kit.specs.Laws.{varint_bytes, integer_bytes}
use Rattle.bytes_kit.specs.MessageLaws.{entry_bytes}
use Rattle.bytes_kit.specs.Messages.{Earlier, Entry, common, common_of, common_form, key_rest, past_rest, key, entry, past_entry, nothing_earlier, cell, cells, payload_or_conflict, body_bytes, message_head, message_fields, fields_of_message, bytes_of_message, bytes_of_message_fields, MessageFields}
use Rattle.bytes_kit.specs.Past.{Past, no_past, place_of, more_texts, texts_behind, past_text, is_short, has_few_bounds, is_light, shareable, is_last}
use Rattle.bytes_kit.specs.Weights.{text_weight, list_weight, value_weight, pair_weight, shape_weight, stream_weight, payload_weight, held_stream_weight, point_weight, points_weight, export_weight, held_weight, entry_weight, carried_weight, message_weight}
use Rattle.bytes_kit.specs.declared.carried.Carried.{Carried}
use Rattle.bytes_kit.specs.declared.carried.Carried.TheVariants as bodies
use Rattle.bytes_kit.specs.declared.keys.Shared.{Shared}
use Rattle.bytes_kit.specs.declared.keys.Shared.TheVariants as shares
use Rattle.bytes_kit.proofs.PastRefusing.{all_more}

-- ---- texts that have a place are short

abbrev IsShort : List ℕ → Type 0
IsShort t = length t ≤ 64

abbrev AreShort : Past → Type 0
AreShort p = AllByRecursion IsShort p.texts

short_at : (texts : List (List ℕ)) (n : ℕ) → AllByRecursion IsShort texts → n < length texts → IsShort (get_or texts n [])
short_at [] n all lt = absurd (omega arith)
short_at (x ∷ xs) zero all lt = all.0
short_at (x ∷ xs) (suc n) all lt = short_at xs n all.1 (omega arith)

has_place : (p : Past) (t : List ℕ) (n : ℕ) → AreShort p → place_of p.texts t ≡ Some n → IsShort t
unfolding place_of
has_place p t n all e =
    let one = position-Some (pointwise nat_eq t) p.texts n [] e in
    subst IsShort (sym (exact_texts t (get_or p.texts n []) one.1)) (short_at p.texts n all one.0)

weight_by : (t : List ℕ) (b : Bool) → cond b 0 (length t) ≤ length t
weight_by t true = omega arith
weight_by t false = omega arith

text_lighter : (t : List ℕ) → text_weight t ≤ length t
text_lighter t = weight_by t (is_short t)

no_weight : (t : List ℕ) → IsShort t → text_weight t ≡ 0
no_weight t short = ap (λ (b : Bool). cond b 0 (length t)) (le-leb (length t) 64 short)

text_weighs_by : (p : Past) (t : List ℕ) (o : Option ℕ) → AreShort p → place_of p.texts t ≡ o → text_weight t < length (text_or_place t o)
text_weighs_by p t None all is = omega (arith, text_lighter t, varint_bytes (length t), length-append (varint (length t)) t)
text_weighs_by p t (Some n) all is = omega (arith, no_weight t (has_place p t n all is), varint_bytes (n + 1))

text_weighs : (p : Past) (t : List ℕ) → AreShort p → text_weight t < length (text_behind p t)
text_weighs p t all = text_weighs_by p t (place_of p.texts t) all refl

more_short : (texts : List (List ℕ)) (t : List ℕ) (b : Bool) → is_short t ≡ b → AllByRecursion IsShort texts → AllByRecursion IsShort (more_texts texts t b)
more_short texts t true is all = all_more IsShort texts t all (leb-true (length t) 64 is)
more_short texts t false is all = all

short_by : (texts : List (List ℕ)) (t : List ℕ) (o : Option ℕ) → AllByRecursion IsShort texts → AllByRecursion IsShort (texts_behind texts t o)
short_by texts t None all = more_short texts t (is_short t) refl all
short_by texts t (Some n) all = all

short_text : (p : Past) (t : List ℕ) → AreShort p → AreShort (past_text p t)
short_text p t all = short_by p.texts t (place_of p.texts t) all

-- ---- lists

module _ {S A : Type 0} (code : S → A → List ℕ) (past : S → A → S) (weight : A → ℕ) (Keeps : S → Type 0) where
  -- each is lighter than its form
  forms_weigh : ((p : S) (x : A) → Keeps p → weight x < length (code p x)) → ((p : S) (x : A) → Keeps p → Keeps (past p x)) → (p : S) (xs : List A) → Keeps p → list_weight weight xs ≤ length (forms_behind code past p xs)
  forms_weigh each keeps p [] kept = omega arith
  forms_weigh each keeps p (x ∷ xs) kept = omega (arith, each p x kept, forms_weigh each keeps (past p x) xs (keeps p x kept), length-append (code p x) (forms_behind code past (past p x) xs))

  list_weighs : ((p : S) (x : A) → Keeps p → weight x < length (code p x)) → ((p : S) (x : A) → Keeps p → Keeps (past p x)) → (p : S) (xs : List A) → Keeps p → list_weight weight xs < length (list_behind code past p xs)
  list_weighs each keeps p xs kept = omega (arith, forms_weigh each keeps p xs kept, varint_bytes (length xs), length-append (varint (length xs)) (forms_behind code past p xs))

  all_keep : ((p : S) (x : A) → Keeps p → Keeps (past p x)) → (p : S) (xs : List A) → Keeps p → Keeps (past_all past p xs)
  all_keep keeps p [] kept = kept
  all_keep keeps p (x ∷ xs) kept = all_keep keeps (past p x) xs (keeps p x kept)

forms_long : {A : Type 0} (code : A → List ℕ) → ((x : A) → 0 < length (code x)) → (xs : List A) → length xs ≤ length (flat_map code xs)
forms_long code some [] = omega arith
forms_long code some (x ∷ xs) = omega (arith, some x, forms_long code some xs, length-append (code x) (flat_map code xs))

list_long : {A : Type 0} (code : A → List ℕ) → ((x : A) → 0 < length (code x)) → (xs : List A) → length xs ≤ length (list_of code xs)
list_long code some xs = omega (arith, forms_long code some xs, length-append (varint (length xs)) (flat_map code xs))

-- ---- attributes

value_weighs : (p : Past) (v : AttrValue) → AreShort p → value_weight v < length (value p v)
value_weighs p (values.Text t) all = omega (arith, text_weighs p t all)
value_weighs p (values.Truth true) all = omega arith
value_weighs p (values.Truth false) all = omega arith
value_weighs p (values.Whole n) all = omega arith

short_value : (p : Past) (v : AttrValue) → AreShort p → AreShort (past_value p v)
short_value p (values.Text t) all = short_text p t all
short_value p (values.Truth b) all = all
short_value p (values.Whole n) all = all

pair_weighs : (p : Past) (x : List ℕ × AttrValue) → AreShort p → pair_weight x < length (pair_behind text_behind past_text value p x)
pair_weighs p x all = omega (arith, text_weighs p x.0 all, value_weighs (past_text p x.0) x.1 (short_text p x.0 all), length-append (text_behind p x.0) (value (past_text p x.0) x.1))

short_pair : (p : Past) (x : List ℕ × AttrValue) → AreShort p → AreShort (past_pair past_text past_value p x)
short_pair p x all = short_value (past_text p x.0) x.1 (short_text p x.0 all)

attributes_weigh : (p : Past) (ps : List (List ℕ × AttrValue)) → AreShort p → list_weight pair_weight ps < length (attributes p ps)
attributes_weigh = list_weighs (pair_behind text_behind past_text value) (past_pair past_text past_value) pair_weight AreShort pair_weighs short_pair

short_attributes : (p : Past) (ps : List (List ℕ × AttrValue)) → AreShort p → AreShort (past_attributes p ps)
short_attributes = all_keep (pair_behind text_behind past_text value) (past_pair past_text past_value) pair_weight AreShort short_pair

-- ---- streams and payloads

shape_weighs : (s : Shape) → shape_weight s < length (shape s)
shape_weighs (shapes.Sum true) = omega arith
shape_weighs (shapes.Sum false) = omega arith
shape_weighs shapes.Gauge = omega arith
shape_weighs (shapes.Histogram bounds) = omega (arith, list_long integer integer_bytes bounds)

stream_weighs : (p : Past) (s : Stream) → AreShort p → stream_weight s < length (stream p s)
stream_weighs p s all =
    let q = past_text p s.scope in
    let r = past_text q s.name in
    let short = short_text p s.scope all in
    omega (
      arith,
      text_weighs p s.scope all,
      text_weighs q s.name short,
      text_weighs r s.unit (short_text q s.name short),
      shape_weighs s.shape,
      length-append (text_behind p s.scope) (text_behind q s.name ++ (text_behind r s.unit ++ shape s.shape)),
      length-append (text_behind q s.name) (text_behind r s.unit ++ shape s.shape),
      length-append (text_behind r s.unit) (shape s.shape),
    )

short_stream : (p : Past) (s : Stream) → AreShort p → AreShort (past_stream p s)
short_stream p s all =
    let q = past_text p s.scope in
    short_text (past_text q s.name) s.unit (short_text q s.name (short_text p s.scope all))

held_weighs : (b : Bool) (p : Past) (s : Stream) → AreShort p → held_stream_weight b s < length (stream_or_last b p s)
held_weighs true p s all = omega arith
held_weighs false p s all = omega (arith, stream_weighs p s all)

short_held : (b : Bool) (p : Past) (s : Stream) → AreShort p → AreShort (past_stream_or_last b p s)
short_held true p s all = all
short_held false p s all = short_stream p s all

buckets_weigh : (count : ℕ) (sum : ℤ) (buckets more : List ℕ) → length buckets ≤ length (varint count ++ (integer sum ++ (list_of varint buckets ++ more)))
buckets_weigh count sum buckets more =
    omega (arith, list_long varint varint_bytes buckets, length-append (varint count) (integer sum ++ (list_of varint buckets ++ more)), length-append (integer sum) (list_of varint buckets ++ more), length-append (list_of varint buckets) more)

buckets_end : (count : ℕ) (sum : ℤ) (buckets : List ℕ) → length buckets ≤ length (varint count ++ (integer sum ++ list_of varint buckets))
buckets_end count sum buckets =
    omega (arith, list_long varint varint_bytes buckets, length-append (varint count) (integer sum ++ list_of varint buckets), length-append (integer sum) (list_of varint buckets))

payload_weighs : (p : Payload) → payload_weight p < length (payload p)
payload_weighs (payloads.Sum n) = omega arith
payload_weighs (payloads.Gauge n) = omega arith
payload_weighs (payloads.Hist count sum buckets None) = omega (arith, buckets_end count sum buckets)
payload_weighs (payloads.Hist count sum buckets (Some range)) = omega (arith, buckets_weigh count sum buckets (integer range.0 ++ integer range.1))

-- ---- points

point_weighs : (p : Past) (x : ExportPoint) → AreShort p → point_weight p.stream x < length (point p x)
point_weighs p x all =
    let b = is_last p.stream x.stream in
    let q = past_point_stream p x.stream in
    omega (
      arith,
      held_weighs b p x.stream all,
      attributes_weigh q x.attrs (short_held b p x.stream all),
      payload_weighs x.payload,
      length-append (point_stream p x.stream) (attributes q x.attrs ++ payload x.payload),
      length-append (attributes q x.attrs) (payload x.payload),
    )

short_point : (p : Past) (x : ExportPoint) → AreShort p → AreShort (past_point p x)
short_point p x all =
    let b = is_last p.stream x.stream in
    short_attributes (past_point_stream p x.stream) x.attrs (short_held b p x.stream all)

value_keeps : (p : Past) (v : AttrValue) → (past_value p v).stream ≡ p.stream
value_keeps p (values.Text t) = refl
value_keeps p (values.Truth b) = refl
value_keeps p (values.Whole n) = refl

attributes_keep : (p : Past) (ps : List (List ℕ × AttrValue)) → (past_attributes p ps).stream ≡ p.stream
attributes_keep p [] = refl
attributes_keep p (x ∷ ps) = attributes_keep (past_pair past_text past_value p x) ps ∙ value_keeps (past_text p x.0) x.1

last_of : (o : Option Stream) (s : Stream) → is_last o s ≡ true → o ≡ Some s
last_of None s e = absurd (false≢true e)
last_of (Some r) s e = ap (λ (x : Stream). Some x) (exact_streams r s e)

-- the stream that a point may share is light
abbrev IsShareable : Option Stream → Type 0
IsShareable o = ForSome o (λ s. is_light s ≡ true)

shareable_stream : (s : Stream) → IsShareable (shareable s)
shareable_stream s r e =
    let both = cond_some (is_light s) s r e in
    subst (λ (x : Stream). is_light x ≡ true) both.1 both.0

held_is : (b : Bool) (p : Past) (s : Stream) → IsShareable p.stream → is_last p.stream s ≡ b → (past_stream_or_last b p s).stream ≡ shareable s
held_is true p s light e =
    let same = last_of p.stream s e in
    same ∙ sym (ap (λ (b : Bool). when b s) (light s same))
held_is false p s light e = refl

point_keeps : (p : Past) (x : ExportPoint) → IsShareable p.stream → (past_point p x).stream ≡ shareable x.stream
point_keeps p x light = attributes_keep (past_point_stream p x.stream) x.attrs ∙ held_is (is_last p.stream x.stream) p x.stream light refl

shareable_point : (p : Past) (x : ExportPoint) → IsShareable p.stream → IsShareable (past_point p x).stream
shareable_point p x light = subst IsShareable (sym (point_keeps p x light)) (shareable_stream x.stream)

points_weigh : (p : Past) (xs : List ExportPoint) → AreShort p → IsShareable p.stream → points_weight p.stream xs ≤ length (forms_behind point past_point p xs)
points_weigh p [] all light = omega arith
points_weigh p (x ∷ xs) all light =
    let q = past_point p x in
    let later : points_weight q.stream xs ≤ length (forms_behind point past_point q xs) = points_weigh q xs (short_point p x all) (shareable_point p x light) in
    let same : points_weight q.stream xs ≡ points_weight (shareable x.stream) xs = ap (λ (o : Option Stream). points_weight o xs) (point_keeps p x light) in
    omega (arith, point_weighs p x all, later, same, length-append (point p x) (forms_behind point past_point (past_point p x) xs))

short_writer : (p : Past) (w : WriterId) → AreShort p → AreShort (past_writer p w)
short_writer p w all = short_text p w.service all

sealed_long : (bytes : List ℕ) → length bytes ≤ length (with_checksum bytes)
unfolding with_checksum
sealed_long bytes = omega (arith, length-append bytes (to_be_bytes w32 (checksum bytes)))

fields_weigh : (x : Fields) → text_weight x.0.service + points_weight None x.1.1.1 ≤ length (fields x)
fields_weigh x =
    let q = past_writer no_past x.0 in
    let points : points_weight None x.1.1.1 ≤ length (forms_behind point past_point q x.1.1.1) = points_weigh q x.1.1.1 (short_writer no_past x.0 tt) (λ s e. absurd (none-some s e)) in
    omega (
      arith,
      text_weighs no_past x.0.service tt,
      points,
      length-append (text_behind no_past x.0.service) (text x.0.instance),
      length-append (writer no_past x.0) (varint x.1.0 ++ (varint x.1.1.0 ++ list_behind point past_point q x.1.1.1)),
      length-append (varint x.1.0) (varint x.1.1.0 ++ list_behind point past_point q x.1.1.1),
      length-append (varint x.1.1.0) (list_behind point past_point q x.1.1.1),
      length-append (varint (length x.1.1.1)) (forms_behind point past_point q x.1.1.1),
    )

pub export_weighs : (e : Export) → export_weight e ≤ length (bytes_of e)
export_weighs e =
    omega (arith, fields_weigh (fields_of e), length-append head (fields (fields_of e)), sealed_long (head ++ fields (fields_of e)))

-- ---- messages

-- what a key shares is copied at little cost
IsLight : Shared → Key → Type 0
IsLight shares.Nothing k = Unit {0}
IsLight shares.Incarnation k = IsShort k.writer.service
IsLight shares.Stream k = IsShort k.writer.service × (is_light k.stream ≡ true)

light_of : (j k : Key) (p q : Bool) → ((writers.ghosts).eq j.writer k.writer && (j.start == k.start)) && is_short k.writer.service ≡ p → (streams.ghosts).eq j.stream k.stream && is_light k.stream ≡ q → IsLight (common_of p q) k
unfolding IsLight
light_of j k true true a b = (leb-true (length k.writer.service) 64 (second_holds _ _ a), second_holds _ _ b)
light_of j k true false a b = leb-true (length k.writer.service) 64 (second_holds _ _ a)
light_of j k false q a b = tt

light : (before : Option Key) (k : Key) → IsLight (common before k) k
unfolding IsLight
light None k = tt
light (Some j) k = light_of j k (((writers.ghosts).eq j.writer k.writer && (j.start == k.start)) && is_short k.writer.service) ((streams.ghosts).eq j.stream k.stream && is_light k.stream) refl refl

few_bounds : (s : Shape) → has_few_bounds s ≡ true → shape_weight s ≤ 64
few_bounds (shapes.Sum m) e = omega arith
few_bounds shapes.Gauge e = omega arith
few_bounds (shapes.Histogram bounds) e = leb-true (length bounds) 64 e

light_weighs : (s : Stream) → is_light s ≡ true → stream_weight s ≤ 64
light_weighs s e =
    let names = first_holds (is_short s.scope && is_short s.name) (is_short s.unit && has_few_bounds s.shape) e in
    let others = second_holds (is_short s.scope && is_short s.name) (is_short s.unit && has_few_bounds s.shape) e in
    omega (
      arith,
      no_weight s.scope (leb-true (length s.scope) 64 (first_holds _ _ names)),
      no_weight s.name (leb-true (length s.name) 64 (second_holds _ _ names)),
      no_weight s.unit (leb-true (length s.unit) 64 (first_holds _ _ others)),
      few_bounds s.shape (second_holds _ _ others),
    )

writer_weighs : (p : Past) (w : WriterId) → AreShort p → text_weight w.service ≤ length (writer p w)
writer_weighs p w all = omega (arith, text_weighs p w.service all, length-append (text_behind p w.service) (text w.instance))

rest_weighs : (p : Past) (s : Shared) (k : Key) → AreShort p → IsLight s k → (text_weight k.writer.service + stream_weight k.stream) + list_weight pair_weight k.attrs < 64 + length (key_rest p s k)
unfolding IsLight
rest_weighs p shares.Nothing k all is =
    let q = past_writer p k.writer in
    let r = past_stream q k.stream in
    let short = short_writer p k.writer all in
    omega (
      arith,
      writer_weighs p k.writer all,
      stream_weighs q k.stream short,
      attributes_weigh r k.attrs (short_stream q k.stream short),
      length-append (writer p k.writer) (varint k.start ++ (stream q k.stream ++ attributes r k.attrs)),
      length-append (varint k.start) (stream q k.stream ++ attributes r k.attrs),
      length-append (stream q k.stream) (attributes r k.attrs),
    )
rest_weighs p shares.Incarnation k all is =
    let r = past_stream p k.stream in
    omega (arith, no_weight k.writer.service is, stream_weighs p k.stream all, attributes_weigh r k.attrs (short_stream p k.stream all), length-append (stream p k.stream) (attributes r k.attrs))
rest_weighs p shares.Stream k all is = omega (arith, no_weight k.writer.service is.0, light_weighs k.stream is.1, attributes_weigh p k.attrs all)

short_rest : (p : Past) (s : Shared) (k : Key) → AreShort p → AreShort (past_rest p s k)
short_rest p shares.Nothing k all =
    let q = past_writer p k.writer in
    short_attributes (past_stream q k.stream) k.attrs (short_stream q k.stream (short_writer p k.writer all))
short_rest p shares.Incarnation k all = short_attributes (past_stream p k.stream) k.attrs (short_stream p k.stream all)
short_rest p shares.Stream k all = short_attributes p k.attrs all

payload_or_conflict_weighs : (h : Held Payload) → held_weight h < length (payload_or_conflict h)
payload_or_conflict_weighs (One p) = payload_weighs p
payload_or_conflict_weighs Conflict = omega arith

entry_weighs : (x : Earlier) (e : Entry) → AreShort x.0 → entry_weight e < 64 + length (entry x e)
entry_weighs x e all =
    let s = common x.1 e.0 in
    omega (
      arith,
      rest_weighs x.0 s e.0 all (light x.1 e.0),
      payload_or_conflict_weighs e.1.held,
      length-append (key x e.0) (cell e.1),
      length-append (common_form s) (key_rest x.0 s e.0),
      length-append (varint e.1.time) (payload_or_conflict e.1.held),
    )

entries_weigh : (x : Earlier) (es : List Entry) → AreShort x.0 → list_weight entry_weight es ≤ 65 * length (forms_behind entry past_entry x es)
entries_weigh x [] all = omega arith
entries_weigh x (e ∷ es) all =
    let later = entries_weigh (past_entry x e) es (short_rest x.0 (common x.1 e.0) e.0 all) in
    omega (arith, entry_weighs x e all, entry_bytes x e, later, length-append (entry x e) (forms_behind entry past_entry (past_entry x e) es))

cells_weigh : (es : List Entry) → list_weight entry_weight es ≤ 65 * length (cells es)
cells_weigh es =
    let all = entries_weigh nothing_earlier es tt in
    omega (arith, all, length-append (varint (length es)) (forms_behind entry past_entry nothing_earlier es))

carried_weighs : (c : Carried) → carried_weight c ≤ 65 * length (body_bytes c)
carried_weighs (bodies.Whole es) = omega (arith, cells_weigh es)
carried_weighs (bodies.Delta number es) = omega (arith, cells_weigh es, length-append (varint number) (cells es))
carried_weighs (bodies.Ack number) = omega arith

message_fields_weigh : (s : MessageFields) → carried_weight s.2 ≤ 65 * length (bytes_of_message_fields s)
message_fields_weigh s =
    omega (arith, carried_weighs s.2, length-append (varint s.0) (varint s.1 ++ body_bytes s.2), length-append (varint s.1) (body_bytes s.2), length-append message_head (message_fields s), sealed_long (message_head ++ message_fields s))

pub message_weighs : (m : MessageModel) → message_weight m ≤ 65 * length (bytes_of_message m)
message_weighs m = message_fields_weigh (fields_of_message m)
