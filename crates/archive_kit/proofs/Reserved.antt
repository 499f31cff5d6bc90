-- No stream of a plan has a scope that none of its instruments has.
use Rattle.std.proofs.Common.{◌≡◌, ◌≢◌, ℕ, ◌+◌, ◌==◌, true, false, cond, not, position, List, [], ◌∷◌, Option, Some, None, map, sym, true≢false, ap, ◌∙◌}
use Rattle.std.specs.List.{All, list_all, filter_map, flat_map, enumerate_from, cons_option}
use Rattle.std.proofs.lemmas.List.Elements.{All-append, All-cons, All-map, All-nil}
use Rattle.std.proofs.lemmas.Slice.Eq.{bytes_eq-Decides}
use Rattle.attr_kit.proofs.Places.{nowhere}
use Rattle.attr_kit.proofs.Rising.{left, right}
use Rattle.plan_kit.specs.declared.instrument.Instrument.{Instrument}
use Rattle.plan_kit.specs.declared.instrument.Kind.{Kind}
use Rattle.plan_kit.specs.declared.instrument.Kind.TheVariants as kinds
use Rattle.plan_kit.specs.declared.view.Aggregation.{Aggregation}
use Rattle.plan_kit.specs.declared.view.Aggregation.TheVariants as ways
use Rattle.plan_kit.specs.declared.view.View.{View}
use Rattle.plan_kit.specs.Aggregations.{fit}
use Rattle.plan_kit.specs.Feeds.{fed_by, feed_by, wanted_by, own_feeds, wanted_of, plan_of, applying_views}
use Rattle.plan_kit.specs.Owners.{owner_of}
use Rattle.plan_kit.specs.Views.{with_name_lowered}
use Rattle.archive_kit.specs.Planning.{is_reserved}
use Rattle.archive_kit.specs.Tombstones.{tombstones}

not_reserved : (i : Instrument) → not (is_reserved i) ≡ true → i.scope ≢ tombstones.scope
not_reserved i h e = true≢false (sym h ∙ ap not ((bytes_eq-Decides i.scope tombstones.scope).1 e))

-- of what there is
abbrev IfThere : {A : Type 0} → (A → Type 0) → Option A → Type 0
IfThere P None = Unit {0}
IfThere P (Some x) = P x

found : {A B : Type 0} (P : B → Type 0) (f : A → Option B) (xs : List A) → ((x : A) → IfThere P (f x)) → All P (filter_map f xs)
found P f [] each = All-nil P
found {A} {B} P f (x ∷ xs) each = one (f x) (each x) (found P f xs each)
  where
    one : (o : Option B) → IfThere P o → All P (filter_map f xs) → All P (cons_option o (filter_map f xs))
    one None there rest = rest
    one (Some y) there rest = All-cons P y (filter_map f xs) there rest

-- a feed has the scope of its instrument, whatever stream its view gives
fed_apart : (n : ℕ) (i : Instrument) (v : View) (k : Kind) (a : Aggregation) → i.scope ≢ tombstones.scope → IfThere (λ w. w.stream.scope ≢ tombstones.scope) (fed_by n i v (fit k a))
fed_apart n i v kinds.Counter ways.Default h = h
fed_apart n i v kinds.Counter ways.Sum h = h
fed_apart n i v kinds.Counter ways.LastValue h = tt
fed_apart n i v kinds.Counter (ways.Buckets b) h = h
fed_apart n i v kinds.Counter ways.Drop h = tt
fed_apart n i v kinds.UpDown ways.Default h = h
fed_apart n i v kinds.UpDown ways.Sum h = h
fed_apart n i v kinds.UpDown ways.LastValue h = tt
fed_apart n i v kinds.UpDown (ways.Buckets b) h = tt
fed_apart n i v kinds.UpDown ways.Drop h = tt
fed_apart n i v kinds.Gauge ways.Default h = h
fed_apart n i v kinds.Gauge ways.Sum h = tt
fed_apart n i v kinds.Gauge ways.LastValue h = h
fed_apart n i v kinds.Gauge (ways.Buckets b) h = tt
fed_apart n i v kinds.Gauge ways.Drop h = tt
fed_apart n i v kinds.Histogram ways.Default h = h
fed_apart n i v kinds.Histogram ways.Sum h = h
fed_apart n i v kinds.Histogram ways.LastValue h = tt
fed_apart n i v kinds.Histogram (ways.Buckets b) h = h
fed_apart n i v kinds.Histogram ways.Drop h = tt

own_apart : (views : List View) (all : List Instrument) (n : ℕ) (i : Instrument) → i.scope ≢ tombstones.scope → All (λ w. w.stream.scope ≢ tombstones.scope) (own_feeds views all (n, i))
own_apart views all n i h = elim (owner_of all i == n) as (λ b. All (λ w. w.stream.scope ≢ tombstones.scope) (cond b (wanted_by views n i) [])) [
  | true ↦ found (λ w. w.stream.scope ≢ tombstones.scope) (feed_by n i) (applying_views views i) (λ v. fed_apart n i v i.kind v.aggregation h)
  | false ↦ All-nil (λ w. w.stream.scope ≢ tombstones.scope)
]

feeds_apart : (views : List View) (all : List Instrument) (n : ℕ) (is : List Instrument) → list_all (λ i. not (is_reserved i)) is ≡ true → All (λ w. w.stream.scope ≢ tombstones.scope) (flat_map (own_feeds views all) (enumerate_from n (map with_name_lowered is)))
feeds_apart views all n [] h = All-nil (λ w. w.stream.scope ≢ tombstones.scope)
feeds_apart views all n (i ∷ is) h =
    All-append (λ w. w.stream.scope ≢ tombstones.scope) (own_feeds views all (n, with_name_lowered i)) (flat_map (own_feeds views all) (enumerate_from (n + 1) (map with_name_lowered is)))
    (own_apart views all n (with_name_lowered i) (not_reserved i (left _ _ h)))
    (feeds_apart views all (n + 1) is (right (not (is_reserved i)) _ h))

-- where no instrument has the scope, no stream has it
pub streams_apart : (is : List Instrument) (views : List View) (limit : ℕ) → position is_reserved is ≡ None → All (λ s. s.scope ≢ tombstones.scope) (plan_of is views limit).streams
unfolding plan_of wanted_of
streams_apart is views limit h =
    All-map (λ s. s.scope ≢ tombstones.scope) (λ w. w.stream) (wanted_of views (map with_name_lowered is))
    (feeds_apart views (map with_name_lowered is) 0 is (nowhere is_reserved (λ i. not (is_reserved i)) (λ i e. ap not e) is h))
