-- What is left of points where those of incarnations go, but for tombstones.
use Rattle.std.proofs.Common.{◌≡◌, ℕ, ◌+◌, ◌<◌, Bool, true, false, not, cond, ◌&&◌, ◌||◌, List, take, length, get_or, Option, Some, None, refl, sym, ap, ◌∙◌}
use Rattle.std.proofs.lemmas.List.Folds.{list_any_more}
use Rattle.std.specs.Cmp.{Equal-is, eq_by_cmp_equiv}
use Rattle.std.specs.FinMap.{FinMap, get, keys, retain_keys, get-retain_keys, contains_key-keys, same_map}
use Rattle.std.specs.Option.{is_some}
use Rattle.std.specs.Ordering.{eq_by_cmp}
use Rattle.gateway_kit.specs.Queries.{is_of_incarnation, is_of_other_stream}
use Rattle.point_kit.specs.Exports.{Points}
use Rattle.point_kit.specs.Orders.{key_cmp}
use Rattle.point_kit.specs.declared.cell.Cell.{Cell}
use Rattle.point_kit.specs.declared.key.Key.{Key}
use Rattle.point_kit.specs.declared.payload.Payload.{Payload}
use Rattle.point_kit.proofs.OrderLaws.{key_total, key_exact}
use Rattle.schedule_kit.specs.Members.{In}
use Rattle.schedule_kit.proofs.Members.{any-In}
use Rattle.archive_kit.specs.Keeping.{is_of_any}
use Rattle.archive_kit.specs.Stepping.{is_gone}
use Rattle.archive_kit.specs.Tombstones.{tombstones, is_tombstone}
use Rattle.archive_kit.specs.declared.dropping.Gone.{Gone}

pub get_left : {V : Type 0} (m : FinMap key_cmp V) (p : Key → Bool) (q : Key) → get (retain_keys m p) q ≡ cond (p q) (get m q) None
get_left m p q = get-retain_keys m p q (λ x e. ap p (sym (key_exact q x e)))

-- where all pass, all are left
pub left_all : {V : Type 0} (m : FinMap key_cmp V) (p : Key → Bool) → ((q : Key) → p q ≡ true) → m ≡ retain_keys m p
left_all m p all = same_map key_total key_exact _ _ (λ q. sym (get_left m p q ∙ ap (λ b. cond b (get m q) None) (all q)))

-- what is left of what is left
pub left_twice : {V : Type 0} (m : FinMap key_cmp V) (p r t : Key → Bool) → ((q : Key) → (p q && r q) ≡ t q) → retain_keys (retain_keys m p) r ≡ retain_keys m t
left_twice {V} m p r t both = same_map key_total key_exact _ _ (λ q.
    get_left (retain_keys m p) r q
    ∙ ap (λ o. cond (r q) o None) (get_left m p q)
    ∙ two (p q) (r q) (get m q)
    ∙ ap (λ b. cond b (get m q) None) (both q)
    ∙ sym (get_left m t q))
  where
    two : (a b : Bool) (o : Option V) → cond b (cond a o None) None ≡ cond (a && b) o None
    two true b o = refl
    two false true o = refl
    two false false o = refl

-- what is left is the same, where the same of what is there passes
pub left_same : (m : Points) (p r : Key → Bool) → ((q : Key) (c : Cell Payload) → get m q ≡ Some c → p q ≡ r q) → retain_keys m p ≡ retain_keys m r
left_same m p r same = same_map key_total key_exact _ _ (λ q. get_left m p q ∙ at q (get m q) refl ∙ sym (get_left m r q))
  where
    nothing : (b : Bool) (o : Option (Cell Payload)) → cond b o o ≡ o
    nothing true o = refl
    nothing false o = refl

    at : (q : Key) (o : Option (Cell Payload)) → get m q ≡ o → cond (p q) (get m q) None ≡ cond (r q) (get m q) None
    at q None e = ap (λ o. cond (p q) o None) e ∙ nothing (p q) None ∙ sym (nothing (r q) None) ∙ ap (λ o. cond (r q) o None) (sym e)
    at q (Some c) e = ap (λ b. cond b (get m q) None) (same q c e)

-- a key under which a cell stands is among the keys
pub in_keys : (m : Points) (k : Key) (c : Cell Payload) → get m k ≡ Some c → In k (keys m)
in_keys m k c e = any-In (eq_by_cmp key_cmp) (eq_by_cmp_equiv key_total) (λ x y t. key_exact x y ((Equal-is (key_cmp x y)).0 t)) k (keys m)
    (sym (contains_key-keys m k) ∙ ap (λ (o : Option (Cell Payload)). is_some o) e)

-- of a tombstone nothing goes, of another key what is of the incarnations before or of this one
one_goes : (t a o : Bool) → (not (not t && a) && not (o && not t)) ≡ not (not t && (a || o))
one_goes true a true = refl
one_goes true a false = refl
one_goes false true true = refl
one_goes false true false = refl
one_goes false false true = refl
one_goes false false false = refl

-- one incarnation more
pub left_more : {V : Type 0} (m now new : FinMap key_cmp V) (gone : List Gone) (i : ℕ) (g : Gone) → i < length gone → g ≡ get_or gone i g
    → now ≡ retain_keys m (λ k. not (is_gone (take i gone) k))
    → new ≡ retain_keys now (λ k. not (is_of_other_stream g.writer g.start tombstones k))
    → new ≡ retain_keys m (λ k. not (is_gone (take (i + 1) gone) k))
left_more {V} m now new gone i g within is before step =
    step ∙ ap (λ (x : FinMap key_cmp V). retain_keys x (λ k. not (is_of_other_stream g.writer g.start tombstones k))) before
    ∙ left_twice m _ _ _ (λ q.
    one_goes (is_tombstone q) (is_of_any (take i gone) q) (is_of_incarnation g.writer g.start q)
    ∙ ap (λ b. not (not (is_tombstone q) && b)) (ap (λ (h : Gone). is_of_any (take i gone) q || is_of_incarnation h.writer h.start q) is
    ∙ sym (list_any_more (λ (h : Gone). is_of_incarnation h.writer h.start q) gone i g within)))

pub none_goes : (t : Bool) → not (not t && false) ≡ true
none_goes true = refl
none_goes false = refl
