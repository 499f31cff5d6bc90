-- Scopes whose name an earlier one may have.
use Rattle.std.proofs.Common.{◌≡◌, ℕ, ◌+◌, ◌<◌, Bool, true, false, List, length, drop, get_or, map, Result, Ok, Err, sym, ap, ◌∙◌}
use Rattle.std.specs.Prelude.{slice_get}
use Rattle.std.proofs.Math.ListN.{get_or-map}
use Rattle.std.proofs.lemmas.List.{get_or_default, length-map}
use Rattle.otlp_kit.specs.Fields.{and_then, refused}
use Rattle.otlp_kit.specs.Reading.{refuse_when, scope_name, differs, add_metrics, behind_scope, add_scope}
use Rattle.otlp_kit.specs.Walks.{walk_from, first_place}
use Rattle.otlp_kit.specs.declared.metric.Metric.{Metric}
use Rattle.otlp_kit.specs.declared.reading.Reading.{Reading}
use Rattle.otlp_kit.specs.declared.request_fault.RequestFault.{RequestFault}
use Rattle.otlp_kit.specs.declared.request_fault.RequestReason.TheVariants as reasons
use Rattle.otlp_kit.specs.declared.scope.ScopeMetrics.{ScopeMetrics}
use Rattle.otlp_kit.proofs.Walking.{walk_on, walk_refused}

mapped_at : {A B : Type 0} (f : A → B) (xs : List A) (i : ℕ) (d : B) (e : A) → i < length (map f xs) → get_or (map f xs) i d ≡ f (get_or xs i e)
mapped_at f xs i d e h = get_or_default (map f xs) i d (f e) h ∙ get_or-map f xs i e

-- the first place of the text of the element at a place
module _ {A : Type 0} (key : A → List ℕ) (given : List A) (keys seen : List (List ℕ)) (firsts : List ℕ) (keys_are : keys ≡ map key given) (seen_are : seen ≡ keys) (firsts_are : firsts ≡ map (first_place seen) seen) where
  first_is : (i first : ℕ) (a : A) → i < length given → first ≡ get_or firsts i first → a ≡ get_or given i a → first ≡ first_place (map key given) (key a)
  first_is i first a h at is =
      let all = seen_are ∙ keys_are in
      at ∙ ap (λ (l : List ℕ). get_or l i first) firsts_are
      ∙ ap (λ (l : List (List ℕ)). get_or (map (first_place l) l) i first) all
      ∙ mapped_at (first_place (map key given)) (map key given) i first (key a) (within h)
      ∙ ap (first_place (map key given)) (get_or-map key given i a ∙ ap key (sym is))
    where
      within : i < length given → i < length (map (first_place (map key given)) (map key given))
      within h = rw (length-map, length-map) h

module _ (given : List ScopeMetrics) (keys seen : List (List ℕ)) (firsts : List ℕ) (keys_are : keys ≡ map scope_name given) (seen_are : seen ≡ keys) (firsts_are : firsts ≡ map (first_place seen) seen) where
  -- a scope is told apart from the first of its name
  scope_added : (i first : ℕ) (a : ScopeMetrics) (r : Reading) (other : Bool) → i < length given → first ≡ get_or firsts i first → a ≡ get_or given i a → other ≡ differs a (slice_get given first) → add_scope given i r (get_or given i a) ≡ and_then (refuse_when other (refused reasons.ScopeTwice r.scopes)) (λ u. and_then (add_metrics (scope_name a) r a.metrics) (λ t. Ok (behind_scope t)))
  unfolding add_scope
  scope_added i first a r other h at is e =
      let later = λ (b : Bool). and_then (refuse_when b (refused reasons.ScopeTwice r.scopes)) (λ (u : Unit {0}). and_then (add_metrics (scope_name a) r a.metrics) (λ (t : Reading). Ok (behind_scope t))) in
      ap (add_scope given i r) (sym is)
      ∙ ap (λ (n : ℕ). later (differs a (slice_get given n))) (sym (first_is scope_name given keys seen firsts keys_are seen_are firsts_are i first a h at is))
      ∙ ap later (sym e)

  pub scope_refused : (whole : Result Reading RequestFault) (i first : ℕ) (a : ScopeMetrics) (r : Reading) (other : Bool) → i < length given → first ≡ get_or firsts i first → a ≡ get_or given i a → walk_from (add_scope given) i r (drop i given) ≡ whole → other ≡ differs a (slice_get given first) → other ≡ true → whole ≡ Err (refused reasons.ScopeTwice r.scopes)
  scope_refused whole i first a r other h at is inv e t =
      walk_refused (add_scope given) whole i r (refused reasons.ScopeTwice r.scopes) given a h inv (scope_added i first a r true h at is (sym t ∙ e))

  metrics_added : (i first : ℕ) (a : ScopeMetrics) (r : Reading) (other : Bool) (name : List ℕ) (ms : List Metric) (result : Result Reading RequestFault) → i < length given → first ≡ get_or firsts i first → a ≡ get_or given i a → other ≡ differs a (slice_get given first) → other ≡ false → name ≡ scope_name a → ms ≡ a.metrics → add_metrics name r ms ≡ result → add_scope given i r (get_or given i a) ≡ and_then result (λ t. Ok (behind_scope t))
  metrics_added i first a r other name ms result h at is e t n m w =
      scope_added i first a r false h at is (sym t ∙ e)
      ∙ (λ j. and_then (add_metrics (sym n j) r (sym m j)) (λ (t : Reading). Ok (behind_scope t)))
      ∙ ap (λ (x : Result Reading RequestFault). and_then x (λ (t : Reading). Ok (behind_scope t))) w

  pub metrics_refused : (whole : Result Reading RequestFault) (i first : ℕ) (a : ScopeMetrics) (r : Reading) (other : Bool) (name : List ℕ) (ms : List Metric) (f : RequestFault) → i < length given → first ≡ get_or firsts i first → a ≡ get_or given i a → walk_from (add_scope given) i r (drop i given) ≡ whole → other ≡ differs a (slice_get given first) → other ≡ false → name ≡ scope_name a → ms ≡ a.metrics → add_metrics name r ms ≡ Err f → whole ≡ Err f
  metrics_refused whole i first a r other name ms f h at is inv e t n m w =
      walk_refused (add_scope given) whole i r f given a h inv (metrics_added i first a r other name ms (Err f) h at is e t n m w)

  pub scope_on : (whole : Result Reading RequestFault) (i first : ℕ) (a : ScopeMetrics) (r new : Reading) (other : Bool) (name : List ℕ) (ms : List Metric) (t : Reading) → i < length given → first ≡ get_or firsts i first → a ≡ get_or given i a → walk_from (add_scope given) i r (drop i given) ≡ whole → other ≡ differs a (slice_get given first) → other ≡ false → name ≡ scope_name a → ms ≡ a.metrics → add_metrics name r ms ≡ Ok t → new ≡ behind_scope t → walk_from (add_scope given) (i + 1) new (drop (i + 1) given) ≡ whole
  scope_on whole i first a r new other name ms t h at is inv e f n m w k =
      walk_on (add_scope given) whole i r new given a h inv (metrics_added i first a r other name ms (Ok t) h at is e f n m w ∙ ap (λ (x : Reading). Ok x) (sym k))

abbrev pub with_scopes : Reading → ℕ → Reading
with_scopes t n = record { scopes = n; metrics = t.metrics; points = t.points; placed = t.placed }

pub one_scope_more : (t : Reading) (n : ℕ) → n ≡ t.scopes + 1 → with_scopes t n ≡ behind_scope t
one_scope_more t n e = ap (with_scopes t) e
