-- What an archive adopts of a collection tells what its incarnation fed.
use Rattle.std.proofs.Common.{◌≡◌, ℕ, Bool, true, false, not, ◌&&◌, ◌||◌, cond, if◌then◌else◌, List, [], ◌∷◌, filter, inl, inr, Some, None, refl, sym, ap, subst, ◌∙◌, true≢false}
use Rattle.std.specs.Prelude.{T}
use Rattle.std.proofs.lemmas.Bool.{and_parts}
use Rattle.std.specs.declared.cmp.Ordering.{Ordering}
use Rattle.std.specs.declared.cmp.Ordering.TheVariants.{Equal}
use Rattle.std.specs.Cmp.{Equal-is, eq_by_cmp_equiv}
use Rattle.std.specs.FinMap.{get, entries, entries_sorted, get-entries}
use Rattle.std.specs.FinMap.Entries.{find, is_sorted, below_all}
use Rattle.std.specs.List.{cons_option, list_any}
use Rattle.std.specs.Option.{option_map, option_map_or}
use Rattle.std.specs.Ordering.{eq_by_cmp, is_lt}
use Rattle.archive_kit.proofs.Lists.{not_true}
use Rattle.archive_kit.specs.Adopting.{Archiving, Counted}
use Rattle.archive_kit.specs.Archive.{payload_held, points_held}
use Rattle.archive_kit.specs.Driving.{has_adding}
use Rattle.archive_kit.specs.Telling.{told_by}
use Rattle.archive_kit.specs.Totals.{is_gauge}
use Rattle.archive_kit.specs.Written.{AreFed}
use Rattle.archive_world_kit.specs.Adopted.{AreRead, HoldsJust, WereHeld}
use Rattle.archive_world_kit.specs.Steps.{Writing, rounding}
use Rattle.gateway_kit.specs.KeyOrders.{incarnation_total, incarnation_exact}
use Rattle.gateway_kit.specs.Keys.{ItemKey, incarnation_cmp, whole_key}
use Rattle.gateway_kit.specs.Queries.{incarnation_points, is_of_incarnation}
use Rattle.point_kit.proofs.OrderLaws.{key_total, key_exact}
use Rattle.point_kit.specs.declared.cell.Cell.{Cell}
use Rattle.point_kit.specs.declared.cell.Held.{Held}
use Rattle.point_kit.specs.declared.cell.Held.TheVariants.{One, Conflict}
use Rattle.point_kit.specs.declared.export_point.ExportPoint.{ExportPoint}
use Rattle.point_kit.specs.declared.key.Key.{Key}
use Rattle.point_kit.specs.declared.payload.Payload.{Payload}
use Rattle.point_kit.specs.declared.stream.Stream.{Stream}
use Rattle.attr_kit.specs.declared.attr_set.AttrSet.{AttrSet}
use Rattle.point_kit.specs.declared.writer_id.WriterId.{WriterId}
use Rattle.point_kit.specs.Exports.{Points}
use Rattle.point_kit.specs.Orders.{key_cmp}
use Rattle.schedule_kit.proofs.Members.{any-In, In-any}
use Rattle.schedule_kit.proofs.Totals.{any_sum, total_zero}
use Rattle.schedule_kit.specs.Members.{In}
use Rattle.schedule_kit.specs.Rounds.{IsSound}
use Rattle.schedule_kit.specs.Rows.{value_of}
use Rattle.schedule_kit.specs.Totals.{IsSum, total, total_where}

-- what stands below others is none of them
first_T : (a b : Bool) → T (a && b) → T a
first_T true b h = tt
first_T false b h = absurd h

second_T : (a b : Bool) → T (a && b) → T b
second_T true b h = h
second_T false b h = absurd h

not_below : (o : Ordering) → o ≡ Equal → T (is_lt o) → ⊥
not_below o e h = subst (λ o. T (is_lt o)) e h

below_none : (k : Key) (es : List (Key × Cell Payload)) → T (below_all key_cmp k es) → (e : Key × Cell Payload) → In e es → k ≡ e.0 → ⊥
below_none k [] h e i same = i
below_none k (x ∷ es) h e (inl here) same =
    let tied : eq_by_cmp key_cmp k x.0 ≡ true = ap (eq_by_cmp key_cmp k) (sym (same ∙ ap (λ (e : Key × Cell Payload). e.0) here)) ∙ (eq_by_cmp_equiv key_total).refl k in
    not_below (key_cmp k x.0) ((Equal-is (key_cmp k x.0)).0 tied) (first_T _ _ h)
below_none k (x ∷ es) h e (inr i) same = below_none k es (second_T _ _ h) e i same

module _ {V : Type 0} (zero : V) (plus : V → V → V) (sum : IsSum zero plus) (reads : Payload → V) where
  abbrev val : Key × Cell Payload → V
  val e = value_of zero reads e.1.held

  idle : (b : Bool) → cond b zero zero ≡ zero
  idle true = refl
  idle false = refl

  module _ (asks : Stream → AttrSet → Bool) where
    abbrev part : Key × Cell Payload → V
    part e = cond (asks e.0.stream e.0.attrs) (val e) zero

    -- what points held tell, cell by cell
    told_one : (k : Key) (h : Held Payload) (rest : List ExportPoint) (v : V) → told_by zero plus reads asks rest ≡ v
        → told_by zero plus reads asks (cons_option (option_map (λ p. record { stream = k.stream; attrs = k.attrs; payload = p }) (payload_held h)) rest)
        ≡ plus (cond (asks k.stream k.attrs) (value_of zero reads h) zero) v
    told_one k (One p) rest v e = ap (plus (cond (asks k.stream k.attrs) (reads p) zero)) e
    told_one k Conflict rest v e = e ∙ sym (ap (λ z. plus z v) (idle (asks k.stream k.attrs)) ∙ sum.zero_left v)

    told_cells : (cells : List (Key × Cell Payload)) → told_by zero plus reads asks (points_held cells) ≡ total zero plus part cells
    told_cells [] = refl
    told_cells (e ∷ es) = told_one e.0 e.1.held (points_held es) (total zero plus part es) (told_cells es)

    total_filtered : (q : Key × Cell Payload → Bool) (es : List (Key × Cell Payload)) → total zero plus part (filter q es) ≡ total zero plus (λ e. cond (q e) (part e) zero) es
    total_filtered q [] = refl
    total_filtered q (e ∷ es) = elim (q e) as (λ b. total zero plus part (cond b (e ∷ filter q es) (filter q es)) ≡ plus (cond b (part e) zero) (total zero plus (λ e. cond (q e) (part e) zero) es)) [
      | true ↦ ap (plus (part e)) (total_filtered q es)
      | false ↦ total_filtered q es ∙ sym (sum.zero_left _)
    ]

  -- of keys in order, one alone passes a test
  module _ (key : Key) (test : Key → Bool) (its : test key ≡ true) (only : (k : Key) → test k ≡ true → key ≡ k) where
    abbrev one : Key × Cell Payload → V
    one e = cond (test e.0) (val e) zero

    found_alone : (es : List (Key × Cell Payload)) → T (is_sorted key_cmp es) → total zero plus one es ≡ option_map_or (λ (c : Cell Payload). value_of zero reads c.held) (find key_cmp key es) zero
    found_alone [] h = refl
    found_alone (e ∷ es) h = elim (eq_by_cmp key_cmp key e.0) as (λ b. eq_by_cmp key_cmp key e.0 ≡ b → plus (one e) (total zero plus one es) ≡ option_map_or (λ (c : Cell Payload). value_of zero reads c.held) (cond b (Some e.1) (find key_cmp key es)) zero) [
      | true ↦ λ tied.
          let same : key ≡ e.0 = key_exact key e.0 ((Equal-is (key_cmp key e.0)).0 tied) in
          let rest : total zero plus one es ≡ zero = total_zero zero plus sum one es (λ f i.
          ap (λ b. cond b (val f) zero) (not_true (test f.0) (λ t. below_none e.0 es (first_T _ _ h) f i (sym same ∙ only f.0 t)))) in
          ap (λ b. plus (cond b (val e) zero) (total zero plus one es)) (ap test (sym same) ∙ its)
          ∙ ap (plus (val e)) rest ∙ sum.comm (val e) zero ∙ sum.zero_left (val e)
      | false ↦ λ apart.
          let not : test e.0 ≡ false = not_true (test e.0) (λ t.
          true≢false (sym (ap (eq_by_cmp key_cmp key) (sym (only e.0 t)) ∙ (eq_by_cmp_equiv key_total).refl key) ∙ apart)) in
          ap (λ b. plus (cond b (val e) zero) (total zero plus one es)) not ∙ sum.zero_left (total zero plus one es) ∙ found_alone es (second_T _ _ h)
    ] refl

module _ {N : Type 0} (s : Writing N) (sound : IsSound (rounding s)) where
  abbrev named : ItemKey → Stream → AttrSet → Bool
  named x t a = (rounding s).same_name x (t, a)

  nested : {V : Type 0} (a b : Bool) (v z : V) → cond a (cond b v z) z ≡ cond (a && b) v z
  nested true b v z = refl
  nested false b v z = refl

  -- what points of an incarnation tell of a name is what stands under its key
  told_there : {V : Type 0} (zero : V) (plus : V → V → V) → IsSum zero plus → (reads : Payload → V) (i : WriterId) (start : ℕ) (x : ItemKey) (points : Points)
      → told_by zero plus reads (named x) (points_held (incarnation_points i start points))
      ≡ option_map_or (λ (c : Cell Payload). value_of zero reads c.held) (get points (whole_key (i, start) x)) zero
  told_there {V} zero plus sum reads i start x points =
      told_cells zero plus sum reads (named x) (incarnation_points i start points)
      ∙ total_filtered zero plus sum reads (named x) (λ e. is_of_incarnation i start e.0) (entries points)
      ∙ ap (λ f. total zero plus f (entries points)) (λ n e. nested (is_of_incarnation i start e.0) (named x e.0.stream e.0.attrs) (value_of zero reads e.1.held) zero n)
      ∙ found_alone zero plus sum reads key test its only (entries points) (entries_sorted points)
      ∙ ap (λ o. option_map_or (λ (c : Cell Payload). value_of zero reads c.held) o zero) (sym (get-entries points key))
    where
      key : Key
      key = whole_key (i, start) x

      test : Key → Bool
      test k = is_of_incarnation i start k && named x k.stream k.attrs

      its : test key ≡ true
      its = rw ((eq_by_cmp_equiv incarnation_total).refl (i, start), sound.names_equivalence.refl x) refl

      only : (k : Key) → test k ≡ true → key ≡ k
      only k t =
          let both = and_parts (is_of_incarnation i start k) _ t in
          let own : ◌≡◌ {A = WriterId × ℕ} (i, start) (k.writer, k.start) = incarnation_exact (i, start) (k.writer, k.start) ((Equal-is (incarnation_cmp (i, start) (k.writer, k.start))).0 both.0) in
          let item : ◌≡◌ {A = ItemKey} x (k.stream, k.attrs) = sound.names_exact x (k.stream, k.attrs) both.1 in
          λ n. whole_key (own n) (item n)

  -- whether points that add up have one that is asked for, as a sum of tests
  adding_told : (asks : Stream → AttrSet → Bool) (points : List ExportPoint) → has_adding asks points ≡ told_by false ◌||◌ (λ p. not (is_gauge p)) asks points
  adding_told asks [] = refl
  adding_told asks (p ∷ ps) = (λ n. swapped (not (is_gauge p.payload)) (asks p.stream p.attrs) n || adding_told asks ps n)
    where
      swapped : (a b : Bool) → (a && b) ≡ cond b a false
      swapped true true = refl
      swapped true false = refl
      swapped false true = refl
      swapped false false = refl

  module _ (how : Archiving N Key WriterId ItemKey) (held : ℕ → Counted N → List (Key × Cell Payload)) (never : (a : ℕ) (h : List N) (c : Counted N) → how.is_archive (s.who a) ≡ true → In c (how.adoptions a h) → how.is_archive (s.who c.0.0) ≡ false)
      (were : WereHeld s how held) {V : Type 0} (zero : V) (plus : V → V → V) (reads : Payload → V) (fed : ℕ → List N → List (ItemKey × V)) (asks : Key → Bool) (read : AreRead s how zero plus reads fed asks) where
    abbrev same : ItemKey → ItemKey → Bool
    same = (rounding s).same_name

    abbrev under : ItemKey → List (ItemKey × V) → V
    under x pairs = total_where zero plus (λ p. same x p.0) (λ p. p.1) pairs

    -- what stands under a name's key
    there : {U : Type 0} (none : U) (tells : Payload → U) (c : Counted N) (points : Points) (x : ItemKey) → HoldsJust s c points
        → option_map_or (λ (e : Cell Payload). value_of none tells e.held) (get points (whole_key (s.who c.0.0, c.0.1) x)) none
        ≡ cond (list_any (same x) (s.names c.0.0 c.1)) (tells (s.payload c.0.0 c.1 x)) none
    there none tells c points x just =
        ap (λ o. option_map_or (λ (e : Cell Payload). value_of none tells e.held) o none) (just.parts x)
        ∙ elim (list_any (same x) (s.names c.0.0 c.1)) as (λ b. option_map_or (λ (e : Cell Payload). value_of none tells e.held) (if b then Some (record { time = just.time; held = One (s.payload c.0.0 c.1 x) }) else None) none ≡ cond b (tells (s.payload c.0.0 c.1 x)) none) [
          | true ↦ refl
          | false ↦ refl
        ]

    fed_there : (w : ℕ) (h : List N) (i : WriterId) (start : ℕ) (x : ItemKey) → how.is_archive (s.who w) ≡ false → asks (whole_key (i, start) x) ≡ true → cond (list_any (same x) (s.names w h)) (reads (s.payload w h x)) zero ≡ under x (fed w h)
    fed_there w h i start x plain asked = elim (list_any (same x) (s.names w h)) as (λ b. list_any (same x) (s.names w h) ≡ b → cond b (reads (s.payload w h x)) zero ≡ under x (fed w h)) [
      | true ↦ λ has. read.added w h i start x plain asked (any-In same sound.names_equivalence sound.names_exact x (s.names w h) has)
      | false ↦ λ none. sym (total_zero zero plus read.sum (λ (p : ItemKey × V). cond (same x p.0) p.1 zero) (fed w h) (λ p j.
          ap (λ b. cond b p.1 zero) (not_true (same x p.0) (λ e.
          let is : x ≡ p.0 = sound.names_exact x p.0 e in
          true≢false (sym (In-any same sound.names_equivalence sound.names_exact x (s.names w h) (subst (λ (y : ItemKey). In y (s.names w h)) (sym is) (read.named w h p plain j))) ∙ none)))))
    ] refl

    pub are_fed : AreFed (rounding s) how held zero plus reads fed asks
    are_fed = record {
      sum = read.sum;
      both = read.both;
      gauges = read.gauges;
      named = read.named;
      added = λ w h i start x plain asked has. read.added w h i start x plain asked has;
      feeds = read.feeds;
      tells = λ a h c j start x e asked i.
          let its = were a h c e i in
          ap (λ cells. told_by zero plus reads (named x) (points_held cells)) its.2
          ∙ told_there zero plus read.sum reads (s.who c.0.0) c.0.1 x its.0
          ∙ there zero reads c its.0 x its.1
          ∙ fed_there c.0.0 c.1 j start x (never a h c e i) asked;
      holds = λ a h c p e i j.
          let its = were a h c e i in
          let plain = never a h c e i in
          ap (λ cells. has_adding (named p.0) (points_held cells)) its.2
          ∙ adding_told (named p.0) (points_held (incarnation_points (s.who c.0.0) c.0.1 its.0))
          ∙ told_there false ◌||◌ any_sum (λ q. not (is_gauge q)) (s.who c.0.0) c.0.1 p.0 its.0
          ∙ there false (λ q. not (is_gauge q)) c its.0 p.0 its.1
          ∙ ap (λ b. cond b (not (is_gauge (s.payload c.0.0 c.1 p.0))) false) (In-any same sound.names_equivalence sound.names_exact p.0 (s.names c.0.0 c.1) (read.named c.0.0 c.1 p plain j))
          ∙ ap not (read.plain c.0.0 c.1 p plain j);
    }
