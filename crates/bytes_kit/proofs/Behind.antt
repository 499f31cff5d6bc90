-- Keys and cells behind others: what is written, and bytes that do not begin with one.
use Rattle.std.proofs.Common.{◌≡◌, ◌≢◌, ℕ, ◌-◌, List, [], ◌∷◌, ◌++◌, length, map, refl, sym, ap, subst, ◌∙◌, append_assoc, arith, Option, Some, None}
use Rattle.std.specs.List.{AllByRecursion}
use Rattle.gateway_kit.specs.Walks.{keyed_cell_of_ref}
use Rattle.gateway_kit.specs.declared.points.PointRef.{PointRef}
use Rattle.std.proofs.lemmas.List.{map-append, append-nil}
use Rattle.std.specs.Option.{option_map}
use Rattle.std.specs.Prelude.{slice_get, IfSome}
use Rattle.point_kit.specs.declared.cell.Cell.{Cell}
use Rattle.point_kit.specs.declared.key.Key.{Key}
use Rattle.point_kit.specs.declared.payload.Payload.{Payload}
use Rattle.bytes_kit.specs.Fits.{IsNumber, IsStream, IsWriter}
use Rattle.bytes_kit.specs.Format.{varint, forms_behind, past_all}
use Rattle.bytes_kit.specs.KeyForms.{Inherits, IsAny, IsKeyLike, IsKeyRest}
use Rattle.bytes_kit.specs.MessageFits.{IsKey, IsEntry, IsCell, IsListed}
use Rattle.bytes_kit.specs.MessageLaws.{common_code, inherits, rest_code, key_code}
use Rattle.bytes_kit.specs.Messages.{Earlier, Entry, common, common_form, key_rest, past_rest, key, past_key, cell, entry, past_entry, nothing_earlier, last_behind, last_key, cells}
use Rattle.bytes_kit.specs.Past.{Past}
use Rattle.bytes_kit.proofs.PastRefusing.{past_more, written_more, all_more}
use Rattle.bytes_kit.specs.Reading.{NoneAt}
use Rattle.bytes_kit.specs.declared.keys.Shared.{Shared}
use Rattle.bytes_kit.specs.declared.keys.Shared.TheVariants as shares

-- ---- keys

pub no_share : (x : Earlier) (bytes : List ℕ) → NoneAt common_form IsAny bytes → NoneAt (key x) IsKey bytes
no_share x bytes none k rest fit e =
    none (common x.1 k) (key_rest x.0 (common x.1 k) k ++ rest) tt (e ∙ append_assoc (common_form (common x.1 k)) (key_rest x.0 (common x.1 k) k) rest)

-- what comes behind what is shared
behind : (x : Earlier) (bytes mid : List ℕ) (s : Shared) (k : Key) (rest : List ℕ) → bytes ≡ common_form s ++ mid → bytes ≡ key x k ++ rest → (s ≡ common x.1 k) × (mid ≡ key_rest x.0 (common x.1 k) k ++ rest)
behind x bytes mid s k rest is e =
    common_code s (common x.1 k) mid (key_rest x.0 (common x.1 k) k ++ rest) (sym is ∙ e ∙ append_assoc (common_form (common x.1 k)) (key_rest x.0 (common x.1 k) k) rest)

pub no_rest : (x : Earlier) (bytes mid : List ℕ) (s : Shared) → bytes ≡ common_form s ++ mid → NoneAt (key_rest x.0 s) (IsKeyLike x.1 s) mid → NoneAt (key x) IsKey bytes
no_rest x bytes mid s is none k rest fit e =
    let both = behind x bytes mid s k rest is e in
    none k rest (fit, sym both.0) (subst (λ (y : Shared). mid ≡ key_rest x.0 y k ++ rest) (sym both.0) both.1)

pub no_such : (x : Earlier) (bytes mid last : List ℕ) (s : Shared) (found : Key) → bytes ≡ common_form s ++ mid → mid ≡ key_rest x.0 s found ++ last → Inherits x.1 s found → common x.1 found ≢ s → NoneAt (key x) IsKey bytes
no_such x bytes mid last s found is at has other k rest fit e =
    let both = behind x bytes mid s k rest is e in
    let like : Inherits x.1 s k = subst (λ (y : Shared). Inherits x.1 y k) (sym both.0) (inherits x.1 k) in
    let one = rest_code x.0 x.1 s found k last rest has like (sym at ∙ subst (λ (y : Shared). mid ≡ key_rest x.0 y k ++ rest) (sym both.0) both.1) in
    other (ap (common x.1) one.0 ∙ sym both.0)

-- without a key before it no key shares anything
pub none_shared : (s : Shared) (k : Key) → s ≢ shares.Nothing → common None k ≡ s → ⊥
none_shared s k other e = other (sym e)

pub is_key : (x : Earlier) (bytes mid last : List ℕ) (s : Shared) (found : Key) → bytes ≡ common_form s ++ mid → mid ≡ key_rest x.0 s found ++ last → common x.1 found ≡ s → bytes ≡ key x found ++ last
is_key x bytes mid last s found is at same =
    is ∙ ap (λ (l : List ℕ). common_form s ++ l) at ∙ sym (append_assoc (common_form s) (key_rest x.0 s found) last)
    ∙ subst (λ (y : Shared). (common_form s ++ key_rest x.0 s found) ++ last ≡ (common_form y ++ key_rest x.0 y found) ++ last) (sym same) refl

-- what came once a key came that shares this
pub past_is : (x : Earlier) (after : Past) (s : Shared) (found : Key) → after ≡ past_rest x.0 s found → common x.1 found ≡ s → after ≡ past_key x found
past_is x after s found is same = is ∙ ap (λ (y : Shared). past_rest x.0 y found) (sym same)

-- ---- cells

pub no_key : (x : Earlier) (bytes : List ℕ) → NoneAt (key x) IsKey bytes → NoneAt (entry x) IsEntry bytes
no_key x bytes none e rest fit is = none e.0 (cell e.1 ++ rest) fit.0 (is ∙ append_assoc (key x e.0) (cell e.1) rest)

pub no_cell : (x : Earlier) (bytes mid : List ℕ) (k : Key) → bytes ≡ key x k ++ mid → NoneAt cell IsCell mid → NoneAt (entry x) IsEntry bytes
no_cell x bytes mid k at none e rest fit is =
    let both = key_code x k e.0 mid (cell e.1 ++ rest) (sym at ∙ is ∙ append_assoc (key x e.0) (cell e.1) rest) in
    none e.1 rest fit.1 both.1

pub is_entry : (x : Earlier) (bytes mid last : List ℕ) (k : Key) (c : Cell Payload) → bytes ≡ key x k ++ mid → mid ≡ cell c ++ last → bytes ≡ entry x (k, c) ++ last
is_entry x bytes mid last k c at is = at ∙ ap (λ (l : List ℕ). key x k ++ l) is ∙ sym (append_assoc (key x k) (cell c) last)

-- ---- lists of cells

pub last_more : (before : Option Key) (es : List Entry) (e : Entry) → last_behind before (es ++ e ∷ []) ≡ Some e.0
last_more before [] e = refl
last_more before (x ∷ es) e = last_more (Some x.0) es e

-- the key of the last of some cells
last_at : (before : Option Key) (e : Entry) (es : List Entry) → last_behind before (e ∷ es) ≡ option_map (λ (x : Entry). x.0) (slice_get (e ∷ es) (length es))
last_at before e [] = refl
last_at before e (f ∷ es) = last_at (Some e.0) f es

pub last_is : (es : List Entry) → last_key es ≡ option_map (λ (x : Entry). x.0) (slice_get es (length es - 1))
last_is [] = refl
last_is (e ∷ es) = last_at None e es ∙ ap (λ (n : ℕ). option_map (λ (x : Entry). x.0) (slice_get (e ∷ es) n)) (omega arith)

-- the last of cells of their sizes has a key of its size
last_fits : (before : Option Key) (es : List Entry) → IfSome before IsKey → AllByRecursion IsEntry es → IfSome (last_behind before es) IsKey
last_fits before [] h all = h
last_fits before (x ∷ es) h all = last_fits (Some x.0) es all.0.0 all.1

whole_of : (before : Option Key) (s : Shared) (k : Key) → IfSome before IsKey → Inherits before s k → IsKeyRest s k → IsKey k
whole_of before shares.Nothing k h has rest = rest
whole_of (Some j) shares.Incarnation k h has rest = (subst IsWriter has.0 h.0, (subst IsNumber has.1 h.1.0, rest))
whole_of (Some j) shares.Stream k h has rest = (subst IsWriter has.0 h.0, (subst IsNumber has.1.0 h.1.0, (subst IsStream has.1.1 h.1.1.0, rest)))
whole_of None shares.Incarnation k h has rest = absurd has
whole_of None shares.Stream k h has rest = absurd has

-- a key of which what it does not share is of its size, behind cells of their sizes
pub key_fits : (es : List Entry) (k : Key) → AllByRecursion IsEntry es → IsKeyRest (common (last_key es) k) k → IsKey k
key_fits es k all rest = whole_of (last_key es) (common (last_key es) k) k (last_fits None es tt all) (inherits (last_key es) k) rest

-- one cell more came
pub earlier_more : (p q : Past) (before : Option Key) (es : List Entry) (e : Entry) → (p, before) ≡ past_all past_entry nothing_earlier es → q ≡ past_key (p, before) e.0 → (q, last_key (es ++ e ∷ [])) ≡ past_all past_entry nothing_earlier (es ++ e ∷ [])
earlier_more p q before es e is after =
    (λ i. (after i, last_more None es e i)) ∙ ap (λ (x : Earlier). past_entry x e) is ∙ sym (past_more entry past_entry nothing_earlier es e)

-- ---- walks

-- points that were lent and those that are left, when one more is lent
pub lent_more : (points : List Entry) (yielded : List PointRef) (p : PointRef) (left now : List Entry) → points ≡ map keyed_cell_of_ref yielded ++ left → left ≡ keyed_cell_of_ref p ∷ now → points ≡ map keyed_cell_of_ref (yielded ++ p ∷ []) ++ now
lent_more points yielded p left now all step =
    all ∙ ap (λ (l : List Entry). map keyed_cell_of_ref yielded ++ l) step ∙ sym (append_assoc (map keyed_cell_of_ref yielded) (keyed_cell_of_ref p ∷ []) now)
    ∙ ap (λ (l : List Entry). l ++ now) (sym (map-append keyed_cell_of_ref yielded (p ∷ [])))

lent_snoc : (yielded : List PointRef) (p : PointRef) → map keyed_cell_of_ref (yielded ++ p ∷ []) ≡ map keyed_cell_of_ref yielded ++ keyed_cell_of_ref p ∷ []
lent_snoc yielded p = map-append keyed_cell_of_ref yielded (p ∷ [])

-- one point more is written
pub lent_written : (front out new : List ℕ) (yielded : List PointRef) (p : PointRef) (x : Earlier) → out ≡ front ++ forms_behind entry past_entry nothing_earlier (map keyed_cell_of_ref yielded) → new ≡ out ++ entry x (keyed_cell_of_ref p) → x ≡ past_all past_entry nothing_earlier (map keyed_cell_of_ref yielded) → new ≡ front ++ forms_behind entry past_entry nothing_earlier (map keyed_cell_of_ref (yielded ++ p ∷ []))
lent_written front out new yielded p x so_far step same =
    written_more entry past_entry nothing_earlier x front out new (map keyed_cell_of_ref yielded) (keyed_cell_of_ref p) so_far same step
    ∙ ap (λ (es : List Entry). front ++ forms_behind entry past_entry nothing_earlier es) (sym (lent_snoc yielded p))

-- and what came once it was
pub lent_earlier : (q : Past) (yielded : List PointRef) (p : PointRef) (x : Earlier) → q ≡ past_key x (keyed_cell_of_ref p).0 → x ≡ past_all past_entry nothing_earlier (map keyed_cell_of_ref yielded) → (q, Some (keyed_cell_of_ref p).0) ≡ past_all past_entry nothing_earlier (map keyed_cell_of_ref (yielded ++ p ∷ []))
lent_earlier q yielded p x after same =
    (λ i. (after i, Some (keyed_cell_of_ref p).0)) ∙ ap (λ (y : Earlier). past_entry y (keyed_cell_of_ref p)) same
    ∙ sym (past_more entry past_entry nothing_earlier (map keyed_cell_of_ref yielded) (keyed_cell_of_ref p))
    ∙ ap (λ (es : List Entry). past_all past_entry nothing_earlier es) (sym (lent_snoc yielded p))

pub last_lent : (yielded : List PointRef) (p : PointRef) → Some (keyed_cell_of_ref p).0 ≡ last_key (map keyed_cell_of_ref (yielded ++ p ∷ []))
last_lent yielded p = sym (ap last_key (lent_snoc yielded p) ∙ last_more None (map keyed_cell_of_ref yielded) (keyed_cell_of_ref p))

pub all_lent : (yielded : List PointRef) (p : PointRef) (before : Option Key) → before ≡ last_key (map keyed_cell_of_ref yielded) → AllByRecursion IsEntry (map keyed_cell_of_ref yielded) → IsKeyRest (common before (keyed_cell_of_ref p).0) (keyed_cell_of_ref p).0 → IsCell (keyed_cell_of_ref p).1 → AllByRecursion IsEntry (map keyed_cell_of_ref (yielded ++ p ∷ []))
all_lent yielded p before same all rest fit =
    let es = map keyed_cell_of_ref yielded in
    let whole : IsKey (keyed_cell_of_ref p).0 = key_fits es (keyed_cell_of_ref p).0 all (subst (λ (b : Option Key). IsKeyRest (common b (keyed_cell_of_ref p).0) (keyed_cell_of_ref p).0) same rest) in
    subst (AllByRecursion IsEntry) (sym (lent_snoc yielded p)) (all_more IsEntry es (keyed_cell_of_ref p) all (whole, fit))

-- all points are lent
all_of : (points seen left : List Entry) → points ≡ seen ++ left → left ≡ [] → seen ≡ points
all_of points seen left all none = sym (all ∙ ap (λ (l : List Entry). seen ++ l) none ∙ append-nil seen)

pub all_written : (front out : List ℕ) (count : ℕ) (points seen left : List Entry) → count ≡ length points → out ≡ (front ++ varint count) ++ forms_behind entry past_entry nothing_earlier seen → points ≡ seen ++ left → left ≡ [] → out ≡ front ++ cells points
all_written front out count points seen left counted written all none =
    let same : seen ≡ points = all_of points seen left all none in
    written ∙ append_assoc front (varint count) (forms_behind entry past_entry nothing_earlier seen)
    ∙ ap (λ (l : List ℕ). front ++ l) (ap (λ (n : ℕ). varint n ++ forms_behind entry past_entry nothing_earlier seen) counted ∙ ap (λ (es : List Entry). varint (length points) ++ forms_behind entry past_entry nothing_earlier es) same)

pub all_listed : (count : ℕ) (points seen left : List Entry) → count ≡ length points → IsNumber count → points ≡ seen ++ left → left ≡ [] → AllByRecursion IsEntry seen → IsListed points
all_listed count points seen left counted fit all none each = (subst IsNumber counted fit, subst (AllByRecursion IsEntry) (all_of points seen left all none) each)
