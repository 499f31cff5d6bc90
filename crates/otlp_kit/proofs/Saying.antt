-- What fields say together, one after another.
use Rattle.std.proofs.Common.{◌≡◌, ℕ, zero, suc, ◌+◌, ◌*◌, ◌<◌, ◌≤◌, ◌^◌, cond, Bool, List, [], ◌∷◌, ◌++◌, length, map, Option, Some, None, Result, Ok, refl, sym, ap, ◌∙◌, subst, append_assoc, append-nil, arith}
use Rattle.std.specs.List.{AllByRecursion, flat_map}
use Rattle.std.proofs.lemmas.List.{length-append}
use Rattle.otlp_kit.specs.Wire.{block, number, fixed, tag, varint, text_unless_empty, fixed_unless_zero}
use Rattle.otlp_kit.specs.Spans.{Span}
use Rattle.otlp_kit.specs.Fields.{and_then, next_field, with_next, fields_from, message}
use Rattle.otlp_kit.specs.declared.field.Content.{Content}
use Rattle.otlp_kit.specs.declared.field.Content.TheVariants as contents
use Rattle.otlp_kit.specs.declared.field.Field.{Field}
use Rattle.otlp_kit.specs.declared.request_fault.RequestFault.{RequestFault}
use Rattle.otlp_kit.proofs.Wiring.{span, IsFieldNumber, Reads, reads_number, reads_fixed, reads_block, block_place, some_varint, not_zero}

-- so long that a length has 64 bits
pub record IsShort (bytes : List ℕ) : Type 0 where
  pub length_fits : length bytes < 2 ^ 64

pub short_front : (a b : List ℕ) → IsShort (a ++ b) → IsShort a
short_front a b h = let l = h.length_fits in record { length_fits = omega (arith, length-append a b) }

pub short_behind : (a b : List ℕ) → IsShort (a ++ b) → IsShort b
short_behind a b h = let l = h.length_fits in record { length_fits = omega (arith, length-append a b) }

pub short_block : (field : ℕ) (bytes : List ℕ) → IsShort (block field bytes) → IsShort bytes
unfolding block
short_block field bytes h = short_behind (varint (length bytes)) bytes (short_behind (tag field 2) (varint (length bytes) ++ bytes) h)

pub short_each : {A : Type 0} (f : A → List ℕ) (xs : List A) → IsShort (flat_map f xs) → AllByRecursion (λ x. IsShort (f x)) xs
short_each f [] h = _
short_each f (x ∷ xs) h = (short_front (f x) (flat_map f xs) h, short_each f xs (short_behind (f x) (flat_map f xs) h))

pub both : {A : Type 0} (P Q : A → Type 0) (xs : List A) → AllByRecursion P xs → AllByRecursion Q xs → AllByRecursion (λ x. P x × Q x) xs
both P Q [] p q = _
both P Q (x ∷ xs) p q = ((p.0, q.0), both P Q xs p.1 q.1)

-- fields that turn what was read before into what is read with them
pub record Says {M : Type 0} (step : M → Field → Result M RequestFault) (bytes : List ℕ) (from to : M) : Type 0 where
  pub reads : (at n : ℕ) (rest : List ℕ) → length (bytes ++ rest) ≤ n → (k : ℕ) × ((length rest ≤ k) × (fields_from step n from (span at (bytes ++ rest)) ≡ fields_from step k to (span (at + length bytes) rest)))

module _ {M : Type 0} (step : M → Field → Result M RequestFault) where
  pub says_nothing : (m : M) → Says step [] m m
  says_nothing m = record { reads = λ at n rest h. (n, (h, ap (λ (p : ℕ). fields_from step n m (span p rest)) (omega arith))) }

  pub says_then : (a b : List ℕ) (l m n : M) → Says step a l m → Says step b m n → Says step (a ++ b) l n
  says_then a b l m n first second = record {
    reads = λ at k rest h.
        let e : (a ++ b) ++ rest ≡ a ++ (b ++ rest) = append_assoc a b rest in
        let p = first.reads at k (b ++ rest) (subst (λ (bs : List ℕ). length bs ≤ k) e h) in
        let q = second.reads (at + length a) p.0 rest p.1.0 in
        let place : at + length a + length b ≡ at + length (a ++ b) = omega (arith, length-append a b) in
        (q.0, (q.1.0, ap (λ (bs : List ℕ). fields_from step k l (span at bs)) e ∙ p.1.1 ∙ q.1.1 ∙ ap (λ (x : ℕ). fields_from step q.0 n (span x rest)) place));
  }

  read_by : (at : ℕ) (bytes rest : List ℕ) (m l : M) (f : Field) (n : ℕ) → next_field (span at (bytes ++ rest)) ≡ Ok (Some f, span (at + length bytes) rest) → step m f ≡ Ok l → fields_from step (suc n) m (span at (bytes ++ rest)) ≡ fields_from step n l (span (at + length bytes) rest)
  read_by at bytes rest m l f n next stepped =
      ap (λ (r : Result (Option Field × Span) RequestFault). and_then r (λ (p : Option Field × Span). with_next step (fields_from step n) m p.0 p.1)) next
      ∙ ap (λ (r : Result M RequestFault). and_then r (λ (changed : M). fields_from step n changed (span (at + length bytes) rest))) stepped

  says_field : (bytes : List ℕ) (field : ℕ) (content : ℕ → Content) (m l : M) → 0 < length bytes → ((at : ℕ) (rest : List ℕ) → Reads bytes field at (content at) rest) → ((at : ℕ) → step m (record { at = at; number = field; content = content at }) ≡ Ok l) → Says step bytes m l
  says_field bytes field content m l some next stepped = record { reads = by }
    where
      by : (at n : ℕ) (rest : List ℕ) → length (bytes ++ rest) ≤ n → (k : ℕ) × ((length rest ≤ k) × (fields_from step n m (span at (bytes ++ rest)) ≡ fields_from step k l (span (at + length bytes) rest)))
      by at zero rest h = absurd (omega (arith, length-append bytes rest))
      by at (suc n) rest h = (n, (omega (arith, length-append bytes rest), read_by at bytes rest m l (record { at = at; number = field; content = content at }) n (next at rest) (stepped at)))

  some_tag : (field wire : ℕ) (bytes : List ℕ) → 0 < length (tag field wire ++ bytes)
  some_tag field wire bytes = omega (arith, some_varint (8 * field + wire), length-append (tag field wire) bytes)

  pub says_number : (field n : ℕ) (m l : M) → IsFieldNumber field → n < 2 ^ 64 → ((at : ℕ) → step m (record { at = at; number = field; content = contents.Varint n }) ≡ Ok l) → Says step (number field n) m l
  unfolding number
  says_number field n m l is fits stepped = says_field (number field n) field (λ at. contents.Varint n) m l (some field n) (λ at rest. reads_number field n at rest is fits) stepped
    where
      some : (field n : ℕ) → 0 < length (number field n)
      some field n = some_tag field 0 (varint n)

  pub says_fixed : (field n : ℕ) (m l : M) → IsFieldNumber field → n < 2 ^ 64 → ((at : ℕ) → step m (record { at = at; number = field; content = contents.Eight n }) ≡ Ok l) → Says step (fixed field n) m l
  unfolding fixed
  says_fixed field n m l is fits stepped = says_field (fixed field n) field (λ at. contents.Eight n) m l (some field n) (λ at rest. reads_fixed field n at rest is fits) stepped
    where
      some : (field n : ℕ) → 0 < length (fixed field n)
      some field n = some_tag field 1 _

  pub says_block : (field : ℕ) (bytes : List ℕ) (m l : M) → IsFieldNumber field → IsShort bytes → ((at place : ℕ) → step m (record { at = at; number = field; content = contents.Block (span place bytes) }) ≡ Ok l) → Says step (block field bytes) m l
  unfolding block
  says_block field bytes m l is short stepped = says_field (block field bytes) field (λ at. contents.Block (span (block_place field at bytes) bytes)) m l (some field bytes) (λ at rest. reads_block field at bytes rest is short.length_fits) (λ at. stepped at (block_place field at bytes))
    where
      some : (field : ℕ) (bytes : List ℕ) → 0 < length (block field bytes)
      some field bytes = some_tag field 2 _

  ends : (k at : ℕ) (m : M) → fields_from step k m (span at []) ≡ Ok m
  unfolding next_field
  ends zero at m = refl
  ends (suc k) at m = refl

  -- a whole message
  pub says_whole : (bytes : List ℕ) (none m : M) (at : ℕ) → Says step bytes none m → message step none (span at bytes) ≡ Ok m
  unfolding message
  says_whole bytes none m at says =
      let p = says.reads at (length bytes) [] (omega (arith, length-append bytes [])) in
      ap (λ (l : List ℕ). fields_from step (length bytes) none (span at l)) (sym (append-nil bytes)) ∙ p.1.1 ∙ ends p.0 (at + length bytes) m

  -- fields of one number, each of which puts an item behind the others
  pub says_each : {A B : Type 0} (P : A → Type 0) (f : A → List ℕ) (g : A → B) (put : List B → M) → ((bs : List B) (x : A) → P x → Says step (f x) (put bs) (put (bs ++ g x ∷ []))) → (bs : List B) (xs : List A) → AllByRecursion P xs → Says step (flat_map f xs) (put bs) (put (bs ++ map g xs))
  says_each {B = B} P f g put each bs [] all = subst (λ (l : List B). Says step [] (put bs) (put l)) (sym (append-nil bs)) (says_nothing (put bs))
  says_each {B = B} P f g put each bs (x ∷ xs) all =
      says_then (f x) (flat_map f xs) (put bs) (put (bs ++ g x ∷ [])) (put (bs ++ g x ∷ map g xs)) (each bs x all.0)
      (subst (λ (l : List B). Says step (flat_map f xs) (put (bs ++ g x ∷ [])) (put l)) (append_assoc bs (g x ∷ []) (map g xs)) (says_each P f g put each (bs ++ g x ∷ []) xs all.1))

-- what is left out where it has its default
abbrev pub given_number : ℕ → Option ℕ
given_number zero = None
given_number (suc n) = Some (suc n)

abbrev pub given_text : List ℕ → Option (List ℕ)
given_text [] = None
given_text (b ∷ bs) = Some (b ∷ bs)

module _ {M : Type 0} (step : M → Field → Result M RequestFault) where
  -- a message within
  pub says_message : {N : Type 0} (inner : N → Field → Result N RequestFault) (none heard : N) (field : ℕ) (bytes : List ℕ) (m : M) (put : N → M) → IsFieldNumber field → ((at place : ℕ) → step m (record { at = at; number = field; content = contents.Block (span place bytes) }) ≡ and_then (message inner none (span place bytes)) (λ (n : N). Ok (put n))) → IsShort bytes → Says inner bytes none heard → Says step (block field bytes) m (put heard)
  says_message {N = N} inner none heard field bytes m put is by short says =
      says_block step field bytes m (put heard) is short (λ at place. by at place ∙ ap (λ (r : Result N RequestFault). and_then r (λ (n : N). Ok (put n))) (says_whole inner bytes none heard place says))

  -- messages within, one behind the other
  pub says_messages : {A N : Type 0} (inner : N → Field → Result N RequestFault) (none : N) (field : ℕ) (content : A → List ℕ) (heard : A → N) (put : List N → M) → IsFieldNumber field → ((at place : ℕ) (bs : List N) (bytes : List ℕ) → step (put bs) (record { at = at; number = field; content = contents.Block (span place bytes) }) ≡ and_then (message inner none (span place bytes)) (λ (n : N). Ok (put (bs ++ n ∷ [])))) → (xs : List A) → AllByRecursion (λ x. IsShort (content x) → Says inner (content x) none (heard x)) xs → IsShort (flat_map (λ x. block field (content x)) xs) → Says step (flat_map (λ x. block field (content x)) xs) (put []) (put (map heard xs))
  says_messages {A = A} {N = N} inner none field content heard put is by xs all short =
      says_each step (λ x. (IsShort (content x) → Says inner (content x) none (heard x)) × IsShort (block field (content x))) (λ x. block field (content x)) heard put each [] xs
      (both (λ x. IsShort (content x) → Says inner (content x) none (heard x)) (λ x. IsShort (block field (content x))) xs all (short_each (λ x. block field (content x)) xs short))
    where
      each : (bs : List N) (x : A) → (IsShort (content x) → Says inner (content x) none (heard x)) × IsShort (block field (content x)) → Says step (block field (content x)) (put bs) (put (bs ++ heard x ∷ []))
      each bs x h =
          let short = short_block field (content x) h.1 in
          says_message inner none (heard x) field (content x) (put bs) (λ (n : N). put (bs ++ n ∷ [])) is (λ at place. by at place bs (content x)) short (h.0 short)

  pub says_fixed_unless_zero : (field n : ℕ) (put : Option ℕ → M) → IsFieldNumber field → n < 2 ^ 64 → ((at n : ℕ) → step (put None) (record { at = at; number = field; content = contents.Eight n }) ≡ Ok (put (Some n))) → Says step (fixed_unless_zero field n) (put None) (put (given_number n))
  unfolding fixed_unless_zero
  says_fixed_unless_zero field zero put is fits stepped = says_nothing step (put None)
  says_fixed_unless_zero field (suc n) put is fits stepped =
      subst (λ (bs : List ℕ). Says step bs (put None) (put (Some (suc n)))) (sym (ap (λ (b : Bool). cond b [] (fixed field (suc n))) (not_zero (suc n) (omega arith))))
      (says_fixed step field (suc n) (put None) (put (Some (suc n))) is fits (λ at. stepped at (suc n)))

  pub says_text_unless_empty : (field : ℕ) (t : List ℕ) (put : Option (List ℕ) → M) → IsFieldNumber field → IsShort (text_unless_empty field t) → ((at place : ℕ) → step (put None) (record { at = at; number = field; content = contents.Block (span place t) }) ≡ Ok (put (Some t))) → Says step (text_unless_empty field t) (put None) (put (given_text t))
  unfolding text_unless_empty
  says_text_unless_empty field [] put is short stepped = says_nothing step (put None)
  says_text_unless_empty field (b ∷ bs) put is short stepped =
      let there = ap (λ (t : Bool). cond t [] (block field (b ∷ bs))) (not_zero (suc (length bs)) (omega arith)) in
      subst (λ (l : List ℕ). Says step l (put None) (put (Some (b ∷ bs)))) (sym there)
      (says_block step field (b ∷ bs) (put None) (put (Some (b ∷ bs))) is (short_block field (b ∷ bs) (subst IsShort there short)) stepped)
