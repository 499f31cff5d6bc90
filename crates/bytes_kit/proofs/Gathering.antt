-- A gateway made of cells in the order of their keys.
use Rattle.std.proofs.Common.{◌≡◌, Bool, true, false, ◌&&◌, cond, List, [], ◌∷◌, ◌++◌, refl, sym, ap, subst, ◌∙◌, Option, Some, None}
use mathlib.Core.Bool.{true≢false}
use Rattle.std.specs.Cmp.{Equal-is}
use Rattle.std.specs.FinMap.{get, entries, insert, from_entries, from_sorted, from_entries_push, get-from_entries, get-from_sorted, get-insert, entries-from_sorted, same_map}
use Rattle.std.specs.FinMap.Entries.{find, is_sorted, below_all}
use Rattle.std.specs.Ordering.{is_lt, is_eq, eq_by_cmp, ordering_reverse}
use lib.Dec.{T}
use Rattle.std.specs.declared.cmp.Ordering.{Ordering}
use Rattle.std.specs.declared.cmp.Ordering.TheVariants.{Less, Equal, Greater}
use Rattle.point_kit.specs.Equality.{payload_eq}
use Rattle.point_kit.specs.Exports.{Points, join_points}
use Rattle.point_kit.specs.Join.{join_cells, join_options}
use Rattle.point_kit.specs.Orders.{key_cmp}
use Rattle.point_kit.specs.declared.cell.Cell.{Cell}
use Rattle.point_kit.specs.declared.key.Key.{Key}
use Rattle.point_kit.specs.declared.payload.Payload.{Payload}
use Rattle.point_kit.proofs.OrderLaws.{key_total, key_exact}
use Rattle.point_kit.proofs.StateLaws.{get-join_maps}
use Rattle.bytes_kit.specs.Messages.{Entry}

both_first : (a b : Bool) → (a && b) ≡ true → a ≡ true
both_first true b h = refl
both_first false b h = absurd (true≢false (sym h))

both_second : (a b : Bool) → (a && b) ≡ true → b ≡ true
both_second true b h = h
both_second false b h = absurd (true≢false (sym h))

less_of : (r : Ordering) → is_lt r ≡ true → r ≡ Less
less_of Less h = refl
less_of Equal h = absurd (true≢false (sym h))
less_of Greater h = absurd (true≢false (sym h))

-- a key above another is not found where the other stands
apart : (x k : Key) → key_cmp x k ≡ Less → eq_by_cmp key_cmp k x ≡ false
apart x k e = ap is_eq (key_total.antisymm k x ∙ ap ordering_reverse e)

below_mid : (k : Key) (es : List Entry) (e : Entry) (rest : List Entry) → below_all key_cmp k (es ++ e ∷ rest) ≡ true → key_cmp k e.0 ≡ Less
below_mid k [] e rest h = less_of _ (both_first _ _ h)
below_mid k (x ∷ es) e rest h = below_mid k es e rest (both_second _ _ h)

-- the key of a cell is none of those before it
pub new_key : (es : List Entry) (e : Entry) (rest : List Entry) → is_sorted key_cmp (es ++ e ∷ rest) ≡ true → find key_cmp e.0 es ≡ None
new_key [] e rest h = refl
new_key (x ∷ es) e rest h =
    ap (λ (b : Bool). cond b (Some x.1) (find key_cmp e.0 es)) (apart x.0 e.0 (below_mid x.0 es e rest (both_first _ _ h)))
    ∙ new_key es e rest (both_second _ _ h)

alone : (o : Option (Cell Payload)) → join_options (join_cells payload_eq) o None ≡ o
alone None = refl
alone (Some c) = refl

-- at any key, a cell joined in where there is none is inserted
at_key : (m : Points) (k q : Key) (c : Cell Payload) (b : Bool) → get m k ≡ None → eq_by_cmp key_cmp q k ≡ b → join_options (join_cells payload_eq) (get m q) (cond b (Some c) None) ≡ cond b (Some c) (get m q)
at_key m k q c true none same =
    let one : q ≡ k = key_exact q k ((Equal-is (key_cmp q k)).0 same) in
    ap (λ (o : Option (Cell Payload)). join_options (join_cells payload_eq) o (Some c)) (ap (get m) one ∙ none)
at_key m k q c false none same = alone (get m q)

pub join_new : (m : Points) (k : Key) (c : Cell Payload) → get m k ≡ None → join_points m (from_entries ((k, c) ∷ [])) ≡ insert m k c
join_new m k c none =
    same_map key_total key_exact _ _ (λ q.
    get-join_maps key_total key_exact (join_cells payload_eq) m (from_entries ((k, c) ∷ [])) q
    ∙ ap (join_options (join_cells payload_eq) (get m q)) (get-from_entries key_total ((k, c) ∷ []) q)
    ∙ at_key m k q c (eq_by_cmp key_cmp q k) none refl
    ∙ sym (get-insert key_total m k c q))

-- one cell more, whose key is none of those before it
pub gather_more : (m : Points) (es : List Entry) (k : Key) (c : Cell Payload) (rest : List Entry) → m ≡ from_entries es → is_sorted key_cmp (es ++ (k, c) ∷ rest) ≡ true → join_points m (from_entries ((k, c) ∷ [])) ≡ from_entries (es ++ (k, c) ∷ [])
gather_more m es k c rest is h =
    let new : find key_cmp k es ≡ None = new_key es (k, c) rest h in
    join_new m k c (ap (λ (x : Points). get x k) is ∙ get-from_entries key_total es k ∙ new)
    ∙ ap (λ (x : Points). insert x k c) is
    ∙ sym (from_entries_push key_total key_exact es k c new)

-- the entries of a map that is made of entries in order
pub gathered : (es : List Entry) → is_sorted key_cmp es ≡ true → entries (from_entries {R = key_cmp} es) ≡ es
gathered es h =
    let t : T (is_sorted key_cmp es) = subst T (sym h) tt in
    let same : from_entries {R = key_cmp} es ≡ from_sorted {R = key_cmp} es =
    same_map key_total key_exact _ _ (λ q. get-from_entries key_total es q ∙ sym (get-from_sorted key_cmp es q t)) in
    ap entries same ∙ entries-from_sorted key_cmp es t
