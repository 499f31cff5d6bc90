-- Varints, group by group, and blocks whose head is put in front.
use Rattle.std.proofs.Common.{◌≡◌, ℕ, ℤ, zero, suc, true, false, get_or, length-drop, ◌+◌, ◌-◌, ◌*◌, ◌/◌, ◌%◌, ◌<◌, ◌≤◌, cond, List, [], ◌∷◌, ◌++◌, length, take, drop, inl, inr, refl, sym, ap, ◌∙◌, append_assoc, arith}
use Rattle.std.specs.Prelude.{nat_lt, ◌==◌}
use Rattle.std.specs.List.{flat_map}
use Rattle.std.proofs.lemmas.Bool.{cases_lt}
use Rattle.std.proofs.lemmas.Bool.Decides.{nat_tests}
use Rattle.std.proofs.lemmas.List.{append-nil, length-append, length-take-le, take_at, drop_at, take_more, drop_more, take_rest, drop_all, drop-drop, take-append-le, drop-append-le}
use Rattle.otlp_kit.specs.Wire.{groups, varint, tag, block, eight}
use Rattle.otlp_kit.specs.Doubles.{double}
use Rattle.attr_kit.specs.declared.attr_value.AttrValue.TheVariants as values
use Rattle.otlp_kit.specs.Request.{attribute, key_value, explicit_bounds, metric_fields, metric, scope_fields, scope_metrics, resource_metrics, request}
use Rattle.point_kit.specs.declared.export.Export.{Export}
use Rattle.point_kit.specs.declared.stream.Stream.{Stream}
use Rattle.point_kit.specs.declared.export_point.ExportPoint.{ExportPoint}

low : (n : ℕ) (high : List ℕ) → n < 128 → cond (nat_lt n 128) (n ∷ []) high ≡ n ∷ []
low n high h = grind (arith, nat_tests)

high : (n : ℕ) (more : List ℕ) → 128 ≤ n → cond (nat_lt n 128) (n ∷ []) more ≡ more
high n more h = grind (arith, nat_tests)

groups_low : (f n : ℕ) → n < 128 → groups f n ≡ n ∷ []
groups_low zero n h = refl
groups_low (suc f) n h = low n ((n % 128 + 128) ∷ groups f (n / 128)) h

groups_high : (f n : ℕ) → 128 ≤ n → groups (suc f) n ≡ (n % 128 + 128) ∷ groups f (n / 128)
groups_high f n h = high n ((n % 128 + 128) ∷ groups f (n / 128)) h

less : (n f : ℕ) → 128 ≤ n → n ≤ suc f → n / 128 ≤ f
less n f big h = omega arith

-- more groups than are needed change nothing
enough : (f g n : ℕ) → n ≤ f → n ≤ g → groups f n ≡ groups g n
enough zero g n p q = groups_low zero n (omega arith) ∙ sym (groups_low g n (omega arith))
enough (suc f) zero n p q = groups_low (suc f) n (omega arith) ∙ sym (groups_low zero n (omega arith))
enough (suc f) (suc g) n p q =
    elim (cases_lt n 128) [
      | inl h ↦ groups_low (suc f) n h ∙ sym (groups_low (suc g) n h)
      | inr h ↦ groups_high f n h ∙ ap (λ (l : List ℕ). (n % 128 + 128) ∷ l) (enough f g (n / 128) (less n f h p) (less n g h q)) ∙ sym (groups_high g n h)
    ]

pub varint_low : (n : ℕ) → n < 128 → varint n ≡ n ∷ []
unfolding varint
varint_low n h = groups_low n n h

pub varint_high : (n : ℕ) → 128 ≤ n → varint n ≡ (n % 128 + 128) ∷ varint (n / 128)
unfolding varint
varint_high n h =
    enough n (suc n) n (omega arith) (omega arith) ∙ groups_high n n h
    ∙ ap (λ (l : List ℕ). (n % 128 + 128) ∷ l) (enough n (n / 128) (n / 128) (omega arith) (omega arith))

-- one group more is written
pub group_more : (whole out new : List ℕ) (n : ℕ) → 128 ≤ n → out ++ varint n ≡ whole → new ≡ out ++ (n % 128 + 128) ∷ [] → new ++ varint (n / 128) ≡ whole
group_more whole out new n big inv is =
    ap (λ (l : List ℕ). l ++ varint (n / 128)) is ∙ append_assoc out ((n % 128 + 128) ∷ []) (varint (n / 128))
    ∙ ap (λ (l : List ℕ). out ++ l) (sym (varint_high n big)) ∙ inv

pub group_last : (whole out new : List ℕ) (n : ℕ) → n < 128 → out ++ varint n ≡ whole → new ≡ out ++ n ∷ [] → new ≡ whole
group_last whole out new n small inv is = is ∙ ap (λ (l : List ℕ). out ++ l) (sym (varint_low n small)) ∙ inv

-- a tag and a length behind the content, turned in front of it
pub turned : (field start : ℕ) (old tagged counted new : List ℕ) → start ≤ length old → tagged ≡ old ++ tag field 2 → counted ≡ tagged ++ varint (length old - start) → new ≡ take start counted ++ (drop (length old) counted ++ take (length old - start) (drop start counted)) → new ≡ take start old ++ block field (drop start old)
unfolding block
turned field start old tagged counted new h is_tagged is_counted is =
    let head = tag field 2 ++ varint (length old - start) in
    let content = drop start old in
    let long : length content ≡ length old - start = length-drop start old in
    let whole : counted ≡ old ++ head = is_counted ∙ ap (λ (l : List ℕ). l ++ varint (length old - start)) is_tagged ∙ append_assoc old (tag field 2) (varint (length old - start)) in
    is
    ∙ ap (λ (l : List ℕ). take start l ++ (drop (length old) l ++ take (length old - start) (drop start l))) whole
    ∙ ap (λ (l : List ℕ). l ++ (drop (length old) (old ++ head) ++ take (length old - start) (drop start (old ++ head)))) (take-append-le start old head h)
    ∙ ap (λ (l : List ℕ). take start old ++ (l ++ take (length old - start) (drop start (old ++ head)))) (drop_at old head (length old) refl)
    ∙ ap (λ (l : List ℕ). take start old ++ (head ++ take (length old - start) l)) (drop-append-le start old head h)
    ∙ ap (λ (l : List ℕ). take start old ++ (head ++ l)) (take_at content head (length old - start) long)
    ∙ ap (λ (l : List ℕ). take start old ++ l) (append_assoc (tag field 2) (varint (length old - start)) content)
    ∙ ap (λ (n : ℕ). take start old ++ (tag field 2 ++ (varint n ++ content))) (sym long)

-- the same of a slice, of which the part from start on was turned
pub turned_part : (start end : ℕ) (bytes part new : List ℕ) → start ≤ end → end ≤ length bytes → part ≡ take (length bytes - start) (drop start bytes) → new ≡ take start bytes ++ ((drop (end - start) part ++ take (end - start) part) ++ drop (length bytes - start) (drop start bytes)) → new ≡ take start bytes ++ (drop end bytes ++ take (end - start) (drop start bytes))
turned_part start end bytes part new h k is_part is =
    let rest = drop start bytes in
    let whole : part ≡ rest = is_part ∙ take_rest bytes start in
    let place : start + (end - start) ≡ end = omega arith in
    is
    ∙ ap (λ (l : List ℕ). take start bytes ++ ((drop (end - start) l ++ take (end - start) l) ++ drop (length bytes - start) rest)) whole
    ∙ ap (λ (l : List ℕ). take start bytes ++ ((drop (end - start) rest ++ take (end - start) rest) ++ l)) (drop_all (length bytes - start) rest (omega (arith, length-drop start bytes)))
    ∙ ap (λ (l : List ℕ). take start bytes ++ l) (append-nil (drop (end - start) rest ++ take (end - start) rest))
    ∙ ap (λ (l : List ℕ). take start bytes ++ (l ++ take (end - start) rest)) (drop-drop (end - start) start bytes ∙ ap (λ (n : ℕ). drop n bytes) place)

-- what was written from a place on is closed
pub closed : (field start : ℕ) (old mid new content : List ℕ) → start ≡ length old → mid ≡ old ++ content → new ≡ take start mid ++ block field (drop start mid) → new ≡ old ++ block field content
closed field start old mid new content at is closes =
    closes
    ∙ ap (λ (l : List ℕ). take start l ++ block field (drop start l)) is
    ∙ ap (λ (l : List ℕ). l ++ block field (drop start (old ++ content))) (take_at old content start (sym at))
    ∙ ap (λ (l : List ℕ). old ++ block field l) (drop_at old content start (sym at))

none : (n : ℕ) → true ≡ (n == 0) → n ≡ 0
none n e = grind (arith, nat_tests)

some : (n : ℕ) → false ≡ (n == 0) → 0 < n
some n e = grind (arith, nat_tests)

pub no_bounds : (out : List ℕ) (bs : List ℤ) → true ≡ (length bs == 0) → out ≡ out ++ explicit_bounds bs
unfolding explicit_bounds
no_bounds out [] e = sym (append-nil out)
no_bounds out (b ∷ bs) e = absurd (omega (arith, none (length (b ∷ bs)) e))

pub some_bounds : (bs : List ℤ) → false ≡ (length bs == 0) → block 7 (flat_map (λ z. eight (double z)) bs) ≡ explicit_bounds bs
unfolding explicit_bounds
some_bounds [] e = absurd (omega (arith, some 0 e))
some_bounds (b ∷ bs) e = refl

-- what is written of points by the stream of the first, and closed
pub closed_of_first : (fields : Stream → List ExportPoint → List ℕ) (whole : List ExportPoint → List ℕ) → ((p : ExportPoint) (ps : List ExportPoint) → whole (p ∷ ps) ≡ block 2 (fields p.stream (p ∷ ps))) → (ps : List ExportPoint) (p : ExportPoint) (s : Stream) (start : ℕ) (old mid new : List ℕ) → 0 < length ps → p ≡ get_or ps 0 p → s ≡ p.stream → start ≡ length old → mid ≡ old ++ fields s ps → new ≡ take start mid ++ block 2 (drop start mid) → new ≡ old ++ whole ps
closed_of_first fields whole is [] p s start old mid new h e f at written closes = absurd (omega arith)
closed_of_first fields whole is (q ∷ ps) p s start old mid new h e f at written closes =
    closed 2 start old mid new (fields s (q ∷ ps)) at written closes
    ∙ ap (λ (x : Stream). old ++ block 2 (fields x (q ∷ ps))) (f ∙ ap (λ (x : ExportPoint). x.stream) e)
    ∙ ap (λ (l : List ℕ). old ++ l) (sym (is q ps))

pub metric_by_first : (start time : ℕ) (p : ExportPoint) (ps : List ExportPoint) → metric start time (p ∷ ps) ≡ block 2 (metric_fields start time p.stream (p ∷ ps))
unfolding metric
metric_by_first start time p ps = refl

pub scope_by_first : (start time : ℕ) (p : ExportPoint) (ps : List ExportPoint) → scope_metrics start time (p ∷ ps) ≡ block 2 (scope_fields start time p.stream.scope (p ∷ ps))
unfolding scope_metrics
scope_by_first start time p ps = refl

pub request_is : (e : Export) → block 1 (resource_metrics e) ≡ request e
unfolding request
request_is e = refl

-- a block whose tag and length are one byte each
short_block : (field : ℕ) (bytes : List ℕ) → 8 * field + 2 < 128 → length bytes < 128 → block field bytes ≡ (8 * field + 2) ∷ length bytes ∷ bytes
unfolding block
short_block field bytes f n = λ i. varint_low (8 * field + 2) f i ++ (varint_low (length bytes) n i ++ bytes)

abbrev pub short_head : ℕ → List ℕ → List ℕ → List ℕ
short_head field key text = (8 * field + 2) ∷ (length key + length text + 6) ∷ 10 ∷ length key ∷ []

abbrev pub short_middle : List ℕ → List ℕ
short_middle text = 18 ∷ (length text + 2) ∷ 10 ∷ length text ∷ []

short_text : (text : List ℕ) → length text < 122 → block 2 (block 1 text) ≡ short_middle text ++ text
short_text text h =
    let inner = 10 ∷ length text ∷ text in
    ap (block 2) (short_block 1 text (omega arith) (omega arith)) ∙ short_block 2 inner (omega arith) (omega arith)
    ∙ ap (λ (n : ℕ). 18 ∷ n ∷ inner) (omega arith)

-- an attribute of a short text
short_pair : (field : ℕ) (key text : List ℕ) → field < 16 → length key + length text < 122 → attribute field (key, values.Text text) ≡ short_head field key text ++ (key ++ (short_middle text ++ text))
unfolding key_value
short_pair field key text f h =
    let behind = short_middle text ++ text in
    let body = 10 ∷ length key ∷ key ++ behind in
    let long : length body ≡ length key + length text + 6 = omega (arith, length-append key behind) in
    ap (block field) (λ i. short_block 1 key (omega arith) (omega arith) i ++ short_text text (omega arith) i)
    ∙ short_block field body (omega arith) (omega (arith, long))
    ∙ ap (λ (n : ℕ). (8 * field + 2) ∷ n ∷ body) long

pub short_written : (field : ℕ) (key text old new : List ℕ) → field < 16 → length key + length text < 122 → new ≡ ((old ++ short_head field key text) ++ key) ++ (short_middle text ++ text) → new ≡ old ++ attribute field (key, values.Text text)
short_written field key text old new f h is =
    is ∙ append_assoc (old ++ short_head field key text) key (short_middle text ++ text)
    ∙ append_assoc old (short_head field key text) (key ++ (short_middle text ++ text))
    ∙ ap (λ (l : List ℕ). old ++ l) (sym (short_pair field key text f h))

-- one byte more is put in front
pub turned_byte : (p part new : List ℕ) (i : ℕ) → i < length p → part ≡ drop (length p - i) p ++ take (length p - i) p → new ≡ drop (length part - 1) part ++ take (length part - 1) part → new ≡ drop (length p - (i + 1)) p ++ take (length p - (i + 1)) p
turned_byte p part new i h is was =
    let j = length p - (i + 1) in
    let next : length p - i ≡ j + 1 = omega arith in
    let within : j < length p = omega arith in
    let x = get_or p j 0 in
    let front = drop (j + 1) p ++ take j p in
    let whole : part ≡ front ++ x ∷ [] =
    is ∙ ap (λ (n : ℕ). drop n p ++ take n p) next
    ∙ ap (λ (l : List ℕ). drop (j + 1) p ++ l) (take_more p j 0 within)
    ∙ sym (append_assoc (drop (j + 1) p) (take j p) (x ∷ [])) in
    let long : length front ≡ length p - 1 = omega (arith, length-append (drop (j + 1) p) (take j p), length-drop (j + 1) p, length-take-le j p (omega arith)) in
    let all : length part ≡ length p = ap length whole ∙ length-append front (x ∷ []) ∙ omega (arith, long) in
    was
    ∙ ap (λ (n : ℕ). drop n part ++ take n part) (omega (arith, long, all))
    ∙ ap (λ (l : List ℕ). drop (length front) l ++ take (length front) l) whole
    ∙ (λ k. drop_at front (x ∷ []) (length front) refl k ++ take_at front (x ∷ []) (length front) refl k)
    ∙ ap (λ (l : List ℕ). l ++ take j p) (sym (drop_more p j 0 within))
