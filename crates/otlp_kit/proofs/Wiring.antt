-- What is read of the pieces of a message, where they are what the crate writes.
use Rattle.std.proofs.Common.{◌≡◌, ℕ, zero, suc, ◌+◌, ◌-◌, ◌*◌, ◌/◌, ◌%◌, ◌^◌, ◌<◌, ◌≤◌, cond, Bool, true, false, List, [], ◌∷◌, ◌++◌, length, take, Option, Some, None, Result, Ok, Err, refl, sym, ap, ◌∙◌, subst, append_assoc, arith}
use Rattle.std.specs.Prelude.{◌==◌, ◌||◌, nat_lt, nat_le}
use Rattle.std.specs.Int.{from_le_bytes, to_le_bytes, w64}
use Rattle.std.proofs.lemmas.Bool.Decides.{nat_tests}
use Rattle.std.proofs.lemmas.List.{take_at, drop_at, length-append}
use Rattle.std.proofs.lemmas.Nat.{from_le_bytes-to_le_bytes_8}
use Rattle.otlp_kit.specs.Wire.{groups, varint, tag, block, number, eight, fixed}
use Rattle.otlp_kit.specs.Spans.{Span, front, behind}
use Rattle.otlp_kit.specs.Fields.{and_then, group_below, groups_at, varint_at, Found, varint_content, block_content, content_at, tagged, next_field, refused}
use Rattle.otlp_kit.specs.declared.field.Content.{Content}
use Rattle.otlp_kit.specs.declared.field.Content.TheVariants as contents
use Rattle.otlp_kit.specs.declared.field.Field.{Field}
use Rattle.otlp_kit.specs.declared.request_fault.RequestFault.{RequestFault}
use Rattle.otlp_kit.specs.declared.request_fault.RequestReason.TheVariants as reasons

abbrev pub span : ℕ → List ℕ → Span
span at bytes = record { at = at; bytes = bytes }

is_less : (a b : ℕ) → a < b → nat_lt a b ≡ true
is_less a b h = grind (arith, nat_tests)

is_not_less : (a b : ℕ) → b ≤ a → nat_lt a b ≡ false
is_not_less a b h = grind (arith, nat_tests)

less : (a b : ℕ) → nat_lt a b ≡ true → a < b
less a b e = grind (arith, nat_tests)

not_less : (a b : ℕ) → nat_lt a b ≡ false → b ≤ a
not_less a b e = grind (arith, nat_tests)

at_most : (a b : ℕ) → a ≤ b → nat_le a b ≡ true
at_most a b h = grind (arith, nat_tests)

not_at_most : (a b : ℕ) → b < a → nat_le a b ≡ false
not_at_most a b h = grind (arith, nat_tests)

pub not_zero : (n : ℕ) → 0 < n → (n == 0) ≡ false
not_zero n h = grind (arith, nat_tests)

-- what so many groups can say is below this
abbrev most_in : ℕ → ℕ
most_in zero = 1
most_in (suc k) = 128 * most_in k

abbrev IsRead : ℕ → ℕ → ℕ → ℕ → List ℕ → Type 0
IsRead k m n at rest = groups_at (suc k) at (groups m n ++ rest) ≡ Some (n, span (at + length (groups m n)) rest)

-- the last group
last : (k m n at : ℕ) (rest : List ℕ) → groups m n ≡ n ∷ [] → n < 128 → IsRead k m n at rest
last k m n at rest e h =
    subst (λ (bs : List ℕ). groups_at (suc k) at (bs ++ rest) ≡ Some (n, span (at + length bs) rest)) (sym e)
    (ap (λ (b : Bool). cond b (Some (n, span (at + 1) rest)) (group_below n (groups_at k (at + 1) rest))) (is_less n 128 h))

-- a group before others
more : (k m n at : ℕ) (rest : List ℕ) → 128 ≤ n → n < 2 ^ 64 → ((p : ℕ) → IsRead k m (n / 128) p rest) → IsRead (suc k) (suc m) n at rest
more k m n at rest h fits later =
    let b = n % 128 + 128 in
    let gs = groups m (n / 128) in
    let is : groups (suc m) n ≡ b ∷ gs = ap (λ (t : Bool). cond t (n ∷ []) (b ∷ gs)) (is_not_less n 128 h) in
    let top : 128 ≤ b = omega arith in
    let value : 128 * (n / 128) + (b - 128) ≡ n = omega arith in
    subst (λ (bs : List ℕ). groups_at (suc (suc k)) at (bs ++ rest) ≡ Some (n, span (at + length bs) rest)) (sym is)
    (ap (λ (t : Bool). cond t (Some (b, span (at + 1) (gs ++ rest))) (group_below b (groups_at (suc k) (at + 1) (gs ++ rest)))) (is_not_less b 128 top)
    ∙ ap (group_below b) (later (at + 1))
    ∙ ap (λ (v : ℕ). cond (nat_lt v (2 ^ 64)) (Some (v, span (at + 1 + length gs) rest)) None) value
    ∙ ap (λ (t : Bool). cond t (Some (n, span (at + 1 + length gs) rest)) None) (is_less n (2 ^ 64) fits)
    ∙ ap (λ (p : ℕ). Some (n, span p rest)) (omega arith))

reads_groups : (k m n at : ℕ) (rest : List ℕ) → n ≤ m → n < 128 * most_in k → n < 2 ^ 64 → IsRead k m n at rest
reads_groups k zero n at rest h b fits = last k zero n at rest refl (omega arith)
reads_groups zero (suc m) n at rest h b fits =
    last zero (suc m) n at rest (ap (λ (t : Bool). cond t (n ∷ []) ((n % 128 + 128) ∷ groups m (n / 128))) (is_less n 128 (omega arith))) (omega arith)
reads_groups (suc k) (suc m) n at rest h b fits =
    by (nat_lt n 128) refl (λ big p. reads_groups k m (n / 128) p rest (omega arith) (omega arith) (omega arith))
  where
    by : (t : Bool) → nat_lt n 128 ≡ t → (128 ≤ n → (p : ℕ) → IsRead k m (n / 128) p rest) → IsRead (suc k) (suc m) n at rest
    by true e later = last (suc k) (suc m) n at rest (ap (λ (t : Bool). cond t (n ∷ []) ((n % 128 + 128) ∷ groups m (n / 128))) e) (less n 128 e)
    by false e later = more k m n at rest (not_less n 128 e) fits (later (not_less n 128 e))

pub reads_varint : (n at : ℕ) (rest : List ℕ) → n < 2 ^ 64 → varint_at (span at (varint n ++ rest)) ≡ Some (n, span (at + length (varint n)) rest)
unfolding varint varint_at
reads_varint n at rest fits = reads_groups 9 n n at rest (omega arith) (omega arith) fits

some_groups : (m n : ℕ) → 0 < length (groups m n)
some_groups zero n = omega arith
some_groups (suc m) n = elim (nat_lt n 128) as (λ (t : Bool). 0 < length (cond t (n ∷ []) ((n % 128 + 128) ∷ groups m (n / 128)))) [ true ↦ omega arith | false ↦ omega arith ]

pub some_varint : (n : ℕ) → 0 < length (varint n)
unfolding varint
some_varint n = some_groups n n

-- field numbers that there are
pub record IsFieldNumber (field : ℕ) : Type 0 where
  pub least : 1 ≤ field
  pub most : field < 2 ^ 29

abbrev Next : Type 0
Next = Result (Option Field × Span) RequestFault

abbrev as_field : ℕ → ℕ → Content × Span → Next
as_field at field c = Ok (Some (record { at = at; number = field; content = c.0 }), c.1)

-- a tag with its wire type, and what stands behind it
reads_tag : (field wire at : ℕ) (rest : List ℕ) → IsFieldNumber field → wire < 8 → next_field (span at (tag field wire ++ rest)) ≡ and_then (content_at at wire (span (at + length (tag field wire)) rest)) (as_field at field)
unfolding next_field
reads_tag field wire at rest is small =
    let t = 8 * field + wire in
    let some : 0 < length (varint t ++ rest) = omega (arith, some_varint t, length-append (varint t) rest) in
    let next = λ (w f : ℕ). and_then (content_at at w (span (at + length (varint t)) rest)) (as_field at f) in
    let least = is.least in
    let most = is.most in
    ap (λ (b : Bool). cond b (Ok (None, span at (varint t ++ rest))) (tagged at (varint_at (span at (varint t ++ rest))))) (not_zero (length (varint t ++ rest)) some)
    ∙ ap (tagged at) (reads_varint t at rest (omega arith))
    ∙ (λ i. cond (is_not_less t 8 (omega arith) i || not_at_most (2 ^ 32) t (omega arith) i) (Err (refused reasons.Malformed at)) (next (t % 8) (t / 8)))
    ∙ (λ i. next (remains i) (divides i))
  where
    remains : (8 * field + wire) % 8 ≡ wire
    remains = omega arith

    divides : (8 * field + wire) / 8 ≡ field
    divides = omega arith

-- what is read of a field, and what is left
abbrev pub Reads : List ℕ → ℕ → ℕ → Content → List ℕ → Type 0
Reads bytes field at content rest = next_field (span at (bytes ++ rest)) ≡ Ok (Some (record { at = at; number = field; content = content }), span (at + length bytes) rest)

found : (field wire at : ℕ) (content : Content) (body rest : List ℕ) → IsFieldNumber field → wire < 8 → content_at at wire (span (at + length (tag field wire)) (body ++ rest)) ≡ Ok (content, span (at + length (tag field wire) + length body) rest) → Reads (tag field wire ++ body) field at content rest
found field wire at content body rest is small reads =
    let t = tag field wire in
    let place : at + length t + length body ≡ at + length (t ++ body) = omega (arith, length-append t body) in
    ap (λ (l : List ℕ). next_field (span at l)) (append_assoc t body rest)
    ∙ reads_tag field wire at (body ++ rest) is small
    ∙ ap (λ (c : Found). and_then c (as_field at field)) reads
    ∙ ap (λ (p : ℕ). Ok (Some (record { at = at; number = field; content = content }), span p rest)) place

pub reads_number : (field n at : ℕ) (rest : List ℕ) → IsFieldNumber field → n < 2 ^ 64 → Reads (number field n) field at (contents.Varint n) rest
unfolding number content_at
reads_number field n at rest is fits =
    let place = at + length (tag field 0) in
    found field 0 at (contents.Varint n) (varint n) rest is (omega arith)
    (ap (varint_content (span place (varint n ++ rest))) (reads_varint n place rest fits))

pub reads_fixed : (field n at : ℕ) (rest : List ℕ) → IsFieldNumber field → n < 2 ^ 64 → Reads (fixed field n) field at (contents.Eight n) rest
unfolding fixed eight content_at
reads_fixed field n at rest is fits =
    let place = at + length (tag field 1) in
    let bytes = to_le_bytes w64 n in
    let size : length bytes ≡ 8 = refl in
    let room : 8 ≤ length (bytes ++ rest) = omega (arith, length-append bytes rest) in
    let value : from_le_bytes w64 (take 8 (bytes ++ rest)) ≡ n = ap (from_le_bytes w64) (take_at bytes rest 8 size) ∙ from_le_bytes-to_le_bytes_8 n fits in
    found field 1 at (contents.Eight n) bytes rest is (omega arith)
    (ap (λ (b : Bool). cond b (Ok (contents.Eight (from_le_bytes w64 (take 8 (bytes ++ rest))), behind 8 (span place (bytes ++ rest)))) (Err (refused reasons.Malformed at))) (at_most 8 (length (bytes ++ rest)) room)
    ∙ (λ i. Ok (contents.Eight (value i), span (place + 8) (drop_at bytes rest 8 size i))))

-- the bytes of a block stand behind its tag and its length
abbrev pub block_place : ℕ → ℕ → List ℕ → ℕ
block_place field at bytes = at + length (tag field 2) + length (varint (length bytes))

pub reads_block : (field at : ℕ) (bytes rest : List ℕ) → IsFieldNumber field → length bytes < 2 ^ 64 → Reads (block field bytes) field at (contents.Block (span (block_place field at bytes) bytes)) rest
unfolding block content_at
reads_block field at bytes rest is fits =
    let place = at + length (tag field 2) in
    let n = length bytes in
    let from = place + length (varint n) in
    let room : n ≤ length (bytes ++ rest) = omega (arith, length-append bytes rest) in
    found field 2 at (contents.Block (span from bytes)) (varint n ++ bytes) rest is (omega arith)
    (ap (λ (l : List ℕ). block_content at (span place l) (varint_at (span place l))) (append_assoc (varint n) bytes rest)
    ∙ ap (block_content at (span place (varint n ++ (bytes ++ rest)))) (reads_varint n place (bytes ++ rest) fits)
    ∙ ap (λ (b : Bool). cond b (Ok (contents.Block (front n (span from (bytes ++ rest))), behind n (span from (bytes ++ rest)))) (Err (refused reasons.Malformed at))) (at_most n (length (bytes ++ rest)) room)
    ∙ (λ i. Ok (contents.Block (span from (take_at bytes rest n refl i)), span (from + n) (drop_at bytes rest n refl i)))
    ∙ ap (λ (p : ℕ). Ok (contents.Block (span from bytes), span p rest)) (omega (arith, length-append (varint n) bytes)))
