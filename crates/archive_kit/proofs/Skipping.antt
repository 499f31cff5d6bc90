-- What a keeper forgets is what is hidden.
use Rattle.std.proofs.Common.{◌≡◌, ℕ, Bool, true, false, not, cond, ◌&&◌, ◌||◌, List, [], ◌∷◌, ◌++◌, length, nat_eq, arith, map, Option, Some, None, Result, Ok, Err, IfOk, refl, sym, ap, subst, ◌∙◌}
use mathlib.Core.Bool.{true≢false}
use Rattle.std.proofs.lemmas.List.Folds.{list_any-append}
use Rattle.std.specs.Cmp.{Equal-is, eq_by_cmp_equiv}
use Rattle.std.specs.FinMap.{get, keys, entries, empty, get-empty, retain_keys, same_map}
use Rattle.std.specs.List.{list_any, dedup, dedup_from}
use Rattle.std.specs.Option.{is_some}
use Rattle.std.specs.Ordering.{eq_by_cmp}
use Rattle.attr_kit.specs.Exact.{exact_unsigned}
use Rattle.gateway_kit.specs.Keys.{IncarnationKey, incarnation_cmp}
use Rattle.gateway_kit.specs.KeyOrders.{incarnation_total, incarnation_exact}
use Rattle.gateway_kit.specs.Listing.{held_of, incarnation_of}
use Rattle.gateway_kit.specs.Queries.{is_of_incarnation}
use Rattle.point_kit.specs.Equality.{payload_eq}
use Rattle.point_kit.specs.Exports.{Points, join_points}
use Rattle.point_kit.specs.Join.{join_cells, join_options}
use Rattle.point_kit.specs.declared.cell.Cell.{Cell}
use Rattle.point_kit.specs.declared.key.Key.{Key}
use Rattle.point_kit.specs.declared.payload.Payload.{Payload}
use Rattle.point_kit.specs.declared.shape.Shape.TheVariants.{Gauge}
use Rattle.point_kit.specs.declared.stream.Stream.{Stream}
use Rattle.point_kit.specs.declared.writer_id.WriterId.{WriterId}
use Rattle.point_kit.proofs.OrderLaws.{key_total, key_exact}
use Rattle.point_kit.proofs.StateLaws.{get-join_maps}
use Rattle.schedule_kit.proofs.Members.{map-In}
use Rattle.archive_kit.specs.Keeping.{is_held, is_named, is_of_any, kept_points, tells, Tell, IsKeeping}
use Rattle.archive_kit.specs.Named.{Name, has_name, is_empty}
use Rattle.archive_kit.specs.Showing.{hides, shown}
use Rattle.archive_kit.specs.Stepping.{AreHidden, is_gone}
use Rattle.archive_kit.specs.Tombstones.{tombstones, incarnation_attrs, is_tombstone, names_key, set_eq, stream_eq}
use Rattle.archive_kit.specs.declared.dropping.Gone.{Gone}
use Rattle.archive_kit.proofs.Left.{in_keys, left_same}
use Rattle.archive_kit.proofs.Lists.{same_bool, member_any, not_true}
use Rattle.archive_kit.proofs.Showing.{namer, hidden_by, shown-hides, shown_twice, get-shown}
use Rattle.archive_kit.proofs.Steps.{any_map}
use Rattle.archive_kit.proofs.Tombstones.{names_no_tombstone}

-- ---- what is hidden, by incarnations

none_named : (p : Key → Bool) (ts : List Key) → list_any (λ t. is_tombstone t && (false && p t)) ts ≡ false
none_named p [] = refl
none_named p (t ∷ ts) = elim (is_tombstone t) as (λ b. ((b && false) || list_any (λ t. is_tombstone t && (false && p t)) ts) ≡ false) [ true ↦ none_named p ts | false ↦ none_named p ts ]

pub hides_is : (m : Points) (k : Key) → hides names_key m k ≡ (not (is_tombstone k) && is_named m k.writer k.start)
hides_is m k = go (is_tombstone k)
  where
    go : (b : Bool) → list_any (λ t. is_tombstone t && (not b && set_eq t.attrs (incarnation_attrs k.writer k.start))) (keys m) ≡ (not b && is_named m k.writer k.start)
    go true = none_named (λ t. set_eq t.attrs (incarnation_attrs k.writer k.start)) (keys m)
    go false = refl

-- a key of the incarnation that is no tombstone
abbrev plain_key : WriterId → ℕ → Key
plain_key w s = record { writer = w; start = s; stream = record { scope = []; name = []; unit = []; shape = Gauge }; attrs = [] }

pub named_shown : (m : Points) (w : WriterId) (s : ℕ) → is_named (shown names_key m) w s ≡ is_named m w s
named_shown m w s =
    sym (hides_is (shown names_key m) (plain_key w s))
    ∙ shown-hides key_total key_exact names_key names_no_tombstone m (plain_key w s)
    ∙ hides_is m (plain_key w s)

abbrev J : Option (Cell Payload) → Option (Cell Payload) → Option (Cell Payload)
J a b = join_options (join_cells payload_eq) a b

get_joined : (m n : Points) (q : Key) → get (join_points m n) q ≡ J (get m q) (get n q)
get_joined m n q = get-join_maps key_total key_exact (join_cells payload_eq) m n q

or_true : (a b : Bool) → b ≡ true → (a || b) ≡ true
or_true true b e = refl
or_true false b e = e

pub no_cell : (c : Cell Payload) → Some c ≡ None → ⊥
no_cell c e = true≢false (ap (λ (o : Option (Cell Payload)). is_some o) e)

-- a tombstone of a join is one of either
pub named_joined : (m n : Points) (w : WriterId) (s : ℕ) → is_named (join_points m n) w s ≡ (is_named m w s || is_named n w s)
named_joined m n w s = same_bool _ _ into (back (is_named m w s) refl)
  where
    any : Key
    any = plain_key w s

    of_either : (t : Key) (v : Cell Payload) → J (get m t) (get n t) ≡ Some v → tells w s t ≡ true → (x y : Option (Cell Payload)) → get m t ≡ x → get n t ≡ y → (is_named m w s || is_named n w s) ≡ true
    of_either t v e told (Some c) y f g = ap (λ b. b || is_named n w s) (hidden_by key_total key_exact (λ t k. tells w s t) m any t c f told)
    of_either t v e told None (Some c) f g = or_true (is_named m w s) _ (hidden_by key_total key_exact (λ t k. tells w s t) n any t c g told)
    of_either t v e told None None f g = absurd (no_cell v (sym e ∙ (λ i. J (f i) (g i))))

    into : is_named (join_points m n) w s ≡ true → (is_named m w s || is_named n w s) ≡ true
    into h =
        let t = namer key_total key_exact (λ t k. tells w s t) (join_points m n) any h in
        of_either t.0 t.1 (sym (get_joined m n t.0) ∙ t.2) t.3 (get m t.0) (get n t.0) refl refl

    left : (v : Cell Payload) (o : Option (Cell Payload)) → (c : Cell Payload) × (J (Some v) o ≡ Some c)
    left v None = (v, refl)
    left v (Some c) = (join_cells payload_eq v c, refl)

    right : (v : Cell Payload) (o : Option (Cell Payload)) → (c : Cell Payload) × (J o (Some v) ≡ Some c)
    right v None = (v, refl)
    right v (Some c) = (join_cells payload_eq c v, refl)

    back : (b : Bool) → is_named m w s ≡ b → (b || is_named n w s) ≡ true → is_named (join_points m n) w s ≡ true
    back true h e =
        let t = namer key_total key_exact (λ t k. tells w s t) m any h in
        let there = left t.1 (get n t.0) in
        hidden_by key_total key_exact (λ t k. tells w s t) (join_points m n) any t.0 there.0 (get_joined m n t.0 ∙ ap (λ o. J o (get n t.0)) t.2 ∙ there.1) t.3
    back false h e =
        let t = namer key_total key_exact (λ t k. tells w s t) n any e in
        let there = right t.1 (get m t.0) in
        hidden_by key_total key_exact (λ t k. tells w s t) (join_points m n) any t.0 there.0 (get_joined m n t.0 ∙ ap (J (get m t.0)) t.2 ∙ there.1) t.3

-- ---- the incarnations that are held

module _ {A : Type 0} (p : A → Bool) (same : A → A → Bool) (alike : (x y : A) → same x y ≡ true → p x ≡ p y) where
  again : (a b : Bool) → (a || b) ≡ (a || (a || b))
  again true b = refl
  again false b = refl

  any_dedup_from : (k : A) (xs : List A) → list_any p (dedup_from same k xs) ≡ (p k || list_any p xs)
  any_dedup_from k [] = refl
  any_dedup_from k (x ∷ xs) = elim (same x k) as (λ b. same x k ≡ b → list_any p (cond b (dedup_from same k xs) (k ∷ dedup_from same x xs)) ≡ (p k || (p x || list_any p xs))) [
    | true ↦ λ t. any_dedup_from k xs ∙ again (p k) (list_any p xs) ∙ ap (λ b. p k || (b || list_any p xs)) (sym (alike x k t))
    | false ↦ λ _. ap (λ b. p k || b) (any_dedup_from x xs)
  ] refl

  any_dedup : (xs : List A) → list_any p (dedup same xs) ≡ list_any p xs
  any_dedup [] = refl
  any_dedup (x ∷ xs) = any_dedup_from x xs

pub held_there : (m : Points) (k : Key) (c : Cell Payload) → get m k ≡ Some c → is_held m k ≡ true
held_there m k c e =
    let of : IncarnationKey → Bool = λ a. is_of_incarnation a.0 a.1 k in
    let told : List IncarnationKey = map (λ (x : Key × Cell Payload). incarnation_of x.0) (entries m) in
    let there = map-In (λ (x : Key × Cell Payload). x.0) k (entries m) (in_keys m k c e) in
    any_map (λ h. is_of_incarnation h.writer h.start k) (held_of m) (dedup (eq_by_cmp incarnation_cmp) told)
    ∙ any_dedup of (eq_by_cmp incarnation_cmp) (λ x y t. ap of (incarnation_exact x y ((Equal-is (incarnation_cmp x y)).0 t))) told
    ∙ any_map of (λ (x : Key × Cell Payload). incarnation_of x.0) (entries m)
    ∙ member_any (λ (x : Key × Cell Payload). of (incarnation_of x.0)) (entries m) there.0 there.1
    (ap (λ (x : Key). of (incarnation_of x)) (sym there.2) ∙ (eq_by_cmp_equiv incarnation_total).refl (incarnation_of k))

-- ---- what goes is what is hidden

module _ (old coming : Points) (named : WriterId → ℕ → Bool) (gone : List Gone) (fresh : Bool)
    (told : (w : WriterId) (s : ℕ) → named w s ≡ is_named (join_points old coming) w s)
    (all_shown : shown names_key old ≡ old) (known : fresh ≡ false → (w : WriterId) (s : ℕ) → named w s ≡ is_named old w s)
    (gone_is : (k : Key) → is_of_any gone k ≡ (named k.writer k.start && (is_held coming k || (fresh && is_held old k)))) where
  hidden_none : (q : Key) (c : Cell Payload) → get old q ≡ Some c → hides names_key old q ≡ true → ⊥
  hidden_none q c e h = no_cell c (sym e ∙ ap (λ (m : Points). get m q) (sym all_shown) ∙ get-shown key_total key_exact names_key old q ∙ ap (λ b. cond (not b) (get old q) None) h)

  of_old : (q : Key) (c : Cell Payload) → get old q ≡ Some c → is_tombstone q ≡ false → named q.writer q.start ≡ true → (b : Bool) → fresh ≡ b → (b && is_held old q) ≡ true
  of_old q c e plain is true f = held_there old q c e
  of_old q c e plain is false f = absurd (hidden_none q c e
      (hides_is old q ∙ ap (λ b. not b && is_named old q.writer q.start) plain ∙ sym (known f q.writer q.start) ∙ is))

  is_there : (q : Key) (c : Cell Payload) → J (get old q) (get coming q) ≡ Some c → is_tombstone q ≡ false → named q.writer q.start ≡ true
      → (x y : Option (Cell Payload)) → get old q ≡ x → get coming q ≡ y → (is_held coming q || (fresh && is_held old q)) ≡ true
  is_there q c e plain is x (Some v) f g = ap (λ b. b || (fresh && is_held old q)) (held_there coming q v g)
  is_there q c e plain is (Some v) None f g = or_true (is_held coming q) _ (of_old q v f plain is fresh refl)
  is_there q c e plain is None None f g = absurd (no_cell c (sym e ∙ (λ i. J (f i) (g i))))

  plain_goes : (q : Key) (c : Cell Payload) → get (join_points old coming) q ≡ Some c → is_tombstone q ≡ false → (b : Bool) → named q.writer q.start ≡ b → is_of_any gone q ≡ b
  plain_goes q c e plain true is =
      gone_is q ∙ (λ i. is i && (is_held coming q || (fresh && is_held old q)))
      ∙ is_there q c (sym (get_joined old coming q) ∙ e) plain is (get old q) (get coming q) refl refl
  plain_goes q c e plain false is = gone_is q ∙ (λ i. is i && (is_held coming q || (fresh && is_held old q)))

  goes : (q : Key) (c : Cell Payload) → get (join_points old coming) q ≡ Some c → (b : Bool) → is_tombstone q ≡ b → (not b && is_of_any gone q) ≡ (not b && is_named (join_points old coming) q.writer q.start)
  goes q c e true t = refl
  goes q c e false t = plain_goes q c e t _ refl ∙ told q.writer q.start

  pub settled : retain_keys (join_points old coming) (λ k. not (not (is_tombstone k) && is_of_any gone k)) ≡ kept_points old coming
  settled = left_same (join_points old coming) _ _ (λ q c e. ap not (goes q c e (is_tombstone q) refl ∙ sym (hides_is (join_points old coming) q)))

  pub settled_hidden : AreHidden (is_gone gone) (join_points old coming)
  settled_hidden q c e t = hides_is (join_points old coming) q ∙ sym (goes q c e (is_tombstone q) refl) ∙ t

-- ---- a keeper's fields

pub keeps_shown : (stream : Stream) (names : List Name) (m new : Points) → stream ≡ tombstones → Tell names m → new ≡ shown names_key m → IsKeeping stream names new
keeps_shown stream names m new is told e = record {
  stream_is = is;
  told = λ w s. told w s ∙ sym (named_shown m w s) ∙ ap (λ (x : Points). is_named x w s) (sym e);
  all_shown = ap (shown names_key) e ∙ shown_twice key_total key_exact names_key names_no_tombstone m ∙ sym e;
}

pub keeps_same : (stream : Stream) (names : List Name) (m new : Points) → new ≡ m → IsKeeping stream names m → IsKeeping stream names new
keeps_same stream names m new e k = subst (λ (x : Points). IsKeeping stream names x) (sym e) k

pub none_told : (m : Points) → m ≡ empty → Tell [] m
none_told m e w s = sym (not_true (is_named m w s) (λ h.
    let t = namer key_total key_exact (λ t k. tells w s t) m (plain_key w s) h in
    no_cell t.1 (sym t.2 ∙ ap (λ (x : Points). get x t.0) e ∙ get-empty _ t.0)))

pub empty_shown : (m : Points) → m ≡ empty → shown names_key m ≡ m
empty_shown m e = same_map key_total key_exact _ _ (λ q.
    get-shown key_total key_exact names_key m q
    ∙ ap (λ o. cond (not (hides names_key m q)) o None) (nothing q)
    ∙ either (not (hides names_key m q)) None
    ∙ sym (nothing q))
  where
    nothing : (q : Key) → get m q ≡ None
    nothing q = ap (λ (x : Points). get x q) e ∙ get-empty _ q

    either : (b : Bool) (o : Option (Cell Payload)) → cond b o o ≡ o
    either true o = refl
    either false o = refl

pub or_false : (a : Bool) → a ≡ (a || false)
or_false true = refl
or_false false = refl

-- names with those that come tell what is joined
pub both_told : (named : WriterId → ℕ → Bool) (m n : Points) → ((w : WriterId) (s : ℕ) → named w s ≡ (is_named m w s || is_named n w s)) → (w : WriterId) (s : ℕ) → named w s ≡ is_named (join_points m n) w s
both_told named m n is w s = is w s ∙ sym (named_joined m n w s)

-- what joined into nothing is itself
pub joined_alone : (m n k : Points) → m ≡ empty → k ≡ join_points m n → k ≡ n
joined_alone m n k e is = is ∙ same_map key_total key_exact _ _ (λ q.
    get_joined m n q ∙ ap (λ o. J o (get n q)) (ap (λ (x : Points). get x q) e ∙ get-empty _ q) ∙ alone (get n q))
  where
    alone : (o : Option (Cell Payload)) → J None o ≡ o
    alone None = refl
    alone (Some c) = refl

-- ---- walks

pub told_ahead : (m : Points) (es : List (Key × Cell Payload)) (w : WriterId) (s : ℕ) → es ≡ entries m → list_any (λ e. tells w s e.0) es ≡ is_named m w s
told_ahead m es w s e = ap (list_any (λ (x : Key × Cell Payload). tells w s x.0)) e ∙ sym (any_map (tells w s) (λ (x : Key × Cell Payload). x.0) (entries m))

pub told_next : (a b t r all : Bool) → b ≡ (a || t) → (a || (t || r)) ≡ all → (b || r) ≡ all
told_next a b t r all e f = ap (λ x. x || r) e ∙ assoc a t r ∙ f
  where
    assoc : (a t r : Bool) → ((a || t) || r) ≡ (a || (t || r))
    assoc true t r = refl
    assoc false t r = refl

pub none_ahead : (a r all : Bool) → r ≡ false → (a || r) ≡ all → a ≡ all
none_ahead a r all e f = or_false a ∙ ap (λ x. a || x) (sym e) ∙ f

pub gone_next : (a b h t r all : Bool) → b ≡ (a || (h && t)) → (a || (h && (t || r))) ≡ all → (b || (h && r)) ≡ all
gone_next a b h t r all e f = ap (λ x. x || (h && r)) e ∙ spread a h t r ∙ f
  where
    spread : (a h t r : Bool) → ((a || (h && t)) || (h && r)) ≡ (a || (h && (t || r)))
    spread true h t r = refl
    spread false true t r = refl
    spread false false t r = refl

pub none_gone : (a h r all : Bool) → r ≡ false → (a || (h && r)) ≡ all → a ≡ all
none_gone a h r all e f = or_false a ∙ ap (λ x. a || x) (sym (ap (λ x. h && x) e ∙ and_false h)) ∙ f
  where
    and_false : (h : Bool) → (h && false) ≡ false
    and_false true = refl
    and_false false = refl

pub first_gone : (g h c f o : Bool) → g ≡ (h && c) → f ≡ false → g ≡ (h && (c || (f && o)))
first_gone g h c f o e n = e ∙ ap (λ x. h && x) (or_false c ∙ ap (λ x. c || (x && o)) (sym n))

pub both_gone : (g k h c f o : Bool) → g ≡ (h && c) → k ≡ (g || (h && o)) → f ≡ true → k ≡ (h && (c || (f && o)))
both_gone g k h c f o e n t = n ∙ ap (λ x. x || (h && o)) e ∙ together h c o ∙ ap (λ x. h && (c || (x && o))) (sym t)
  where
    together : (h c o : Bool) → ((h && c) || (h && o)) ≡ (h && (c || (true && o)))
    together true c o = refl
    together false c o = refl

pub gone_more : (gone new : List Gone) (g : Gone) (k : Key) (h t : Bool) → new ≡ gone ++ g ∷ [] → is_of_incarnation g.writer g.start k ≡ t → (t ≡ true → h ≡ true) → is_of_any new k ≡ (is_of_any gone k || (h && t))
gone_more gone new g k h t e is named =
    ap (λ (l : List Gone). is_of_any l k) e
    ∙ list_any-append (λ (x : Gone). is_of_incarnation x.writer x.start k) gone (g ∷ [])
    ∙ ap (λ x. is_of_any gone k || x) (sym (or_false (is_of_incarnation g.writer g.start k)) ∙ is ∙ both t h named)
  where
    both : (t h : Bool) → (t ≡ true → h ≡ true) → t ≡ (h && t)
    both true h f = ap (λ x. x && true) (sym (f refl))
    both false true f = refl
    both false false f = refl

pub same_incarnation : (w : WriterId) (s : ℕ) (k : Key) → is_of_incarnation w s k ≡ true → (named : WriterId → ℕ → Bool) → named w s ≡ named k.writer k.start
same_incarnation w s k t named = ap (λ (a : IncarnationKey). named a.0 a.1) (incarnation_exact (w, s) (k.writer, k.start) ((Equal-is _).0 t))

pub not_gone : (gone : List Gone) (k : Key) (h t : Bool) → (t ≡ true → h ≡ false) → is_of_any gone k ≡ (is_of_any gone k || (h && t))
not_gone gone k h t f = or_false (is_of_any gone k) ∙ ap (λ x. is_of_any gone k || x) (sym (never t h f))
  where
    never : (t h : Bool) → (t ≡ true → h ≡ false) → (h && t) ≡ false
    never true h f = ap (λ x. x && true) (f refl)
    never false true f = refl
    never false false f = refl

-- ---- what one point tells

pub nothing_told : (x t : Bool) → t ≡ false → x ≡ (x || t)
nothing_told x t e = or_false x ∙ ap (λ y. x || y) (sym e)

pub plain_tells_nothing : (stream : Stream) (w : WriterId) (s : ℕ) (t : Key) → stream ≡ tombstones → stream_eq stream t.stream ≡ false → tells w s t ≡ false
plain_tells_nothing stream w s t e h = ap (λ b. b && set_eq t.attrs (incarnation_attrs w s)) (ap (λ (x : Stream). stream_eq x t.stream) (sym e) ∙ h)

pub tombstone_tells : (stream : Stream) (w : WriterId) (s : ℕ) (t : Key) → stream ≡ tombstones → stream_eq stream t.stream ≡ true → tells w s t ≡ set_eq t.attrs (incarnation_attrs w s)
tombstone_tells stream w s t e h = ap (λ b. b && set_eq t.attrs (incarnation_attrs w s)) (ap (λ (x : Stream). stream_eq x t.stream) (sym e) ∙ h)

pub none_noted : (ns : List Name) (a : Bool) (w : WriterId) (s : ℕ) → not (is_empty ns) ≡ false → (a || has_name ns w s) ≡ a
none_noted [] a w s e = sym (or_false a)
none_noted (n ∷ ns) a w s e = absurd (true≢false e)

pub if_ok : {U E : Type 0} {P Q : U → Type 0} (r : Result U E) → ((x : U) → P x → Q x) → IfOk r P → IfOk r Q
if_ok (Ok x) f p = f x p
if_ok (Err e) f p = tt
