-- Changes prepared for entries, while what comes in is walked: what they bring where, and how one more entry adds to them.
use Rattle.std.proofs.Common.{◌≡◌, ℕ, Bool, true, false, cond, List, [], ◌∷◌, ◌++◌, map, Option, Some, None, refl, sym, ap, subst, ◌∙◌, true≢false, is_some}
use Rattle.std.specs.List.{IsDistinct, AllByRecursion}
use Rattle.std.specs.Prelude.{T, slice_get}
use Rattle.std.specs.Option.{option_or, option_map}
use Rattle.std.specs.declared.cmp.Ordering.{Ordering}
use Rattle.std.specs.Ordering.{eq_by_cmp}
use Rattle.std.specs.Cmp.{IsTotalOrder, Equal-is, eq_by_cmp_equiv}
use Rattle.std.specs.FinMap.{IsAntisymmetric}
use Rattle.std.specs.FinMap.Entries.{find, is_sorted, find-append}
use Rattle.point_kit.specs.Join.{join_options}
use Rattle.gateway_kit.specs.Amending.{with_changes}
use Rattle.gateway_kit.specs.Bringing.{Brings, held_of, new_of}
use Rattle.gateway_kit.specs.Weave.{weave}
use Rattle.gateway_kit.proofs.Entries.{on_keys, find-with_change, find-weave, is_sorted-with_changes, keys-with_changes, with_changes-push, as_T, as_true, itself}

module _ {V : Type 0} (join : V → V → V) where
  pub or_none : (a : Option V) → a ≡ option_or a None
  or_none None = refl
  or_none (Some a) = refl

  pub held_none : (a : Option V) → a ≡ held_of join a None
  held_none None = refl
  held_none (Some v) = refl

  pub new_none : (a : Option V) → None ≡ new_of join a None
  new_none None = refl
  new_none (Some v) = refl

  pub both_joined : (a t : Option V) → option_or (held_of join a t) (new_of join a t) ≡ join_options join a t
  both_joined None t = refl
  both_joined (Some v) None = refl
  both_joined (Some v) (Some w) = refl

false_if_none : {V : Type 0} (b : Bool) (v : V) (rest : Option V) → cond b (Some v) rest ≡ None → b ≡ false
false_if_none true v rest e = absurd (true≢false (sym (ap is_some (sym e))))
false_if_none false v rest e = refl

none_later : {V : Type 0} (b : Bool) (v : V) (rest : Option V) → cond b (Some v) rest ≡ None → rest ≡ None
none_later true v rest e = absurd (true≢false (sym (ap is_some (sym e))))
none_later false v rest e = e

-- one more entry whose key is not there
module _ {K V : Type 0} {R : K → K → Ordering} (o : IsTotalOrder R) (k : K) (w : V) where
  apart_push : (x : K) (es : List (K × V)) → eq_by_cmp R k x ≡ false → AllByRecursion (λ y. eq_by_cmp R x y ≡ false) (map (λ e. e.0) es) → AllByRecursion (λ y. eq_by_cmp R x y ≡ false) (map (λ e. e.0) (es ++ (k, w) ∷ []))
  apart_push x [] t h = ((eq_by_cmp_equiv o).symm x k ∙ t, tt)
  apart_push x (e ∷ es) t h = (h.0, apart_push x es t h.1)

  pub distinct_push : (es : List (K × V)) → IsDistinct (eq_by_cmp R) (map (λ e. e.0) es) → find R k es ≡ None → IsDistinct (eq_by_cmp R) (map (λ e. e.0) (es ++ (k, w) ∷ []))
  unfolding IsDistinct
  distinct_push [] h none = (tt, tt)
  distinct_push (e ∷ es) h none = (apart_push e.0 es (false_if_none (eq_by_cmp R k e.0) e.1 (find R k es) none) h.0, distinct_push es h.1 (none_later (eq_by_cmp R k e.0) e.1 (find R k es) none))

module _ {K V C : Type 0} (R : K → K → Ordering) (join : V → V → V) (made : V → C → V) where
  pub brings_none : (es : List (K × V)) → Brings R join made es [] [] []
  unfolding IsDistinct
  brings_none es = record { held = λ q. held_none join (find R q es); new = λ q. new_none join (find R q es); apart = tt }

  module _ (o : IsTotalOrder R) (anti : IsAntisymmetric R) (es came : List (K × V)) (updates : List (ℕ × C)) (fresh : List (K × V)) (so_far : Brings R join made es came updates fresh) (k : K) (w : V) (first : find R k came ≡ None) where
    came_more : (q : K) → find R q (came ++ (k, w) ∷ []) ≡ cond (eq_by_cmp R q k) (Some w) (find R q came)
    came_more q = find-append R o came k w q first

    -- a fact of every key, from it at k and elsewhere
    everywhere : (P : K → Option V → Type 0) → P k (Some w) → ((q : K) → eq_by_cmp R q k ≡ false → P q (find R q came)) → (q : K) → P q (find R q (came ++ (k, w) ∷ []))
    everywhere P here there q = subst (P q) (sym (came_more q))
        (elim (eq_by_cmp R q k) as (λ b. eq_by_cmp R q k ≡ b → P q (cond b (Some w) (find R q came))) [
          | true ↦ λ t. subst (λ x. P x (Some w)) (sym (anti q k ((Equal-is (R q k)).0 t))) here
          | false ↦ λ t. there q t
        ] refl)

    pub brings_kept : (v : V) → find R k es ≡ Some v → join v w ≡ v → Brings R join made es (came ++ (k, w) ∷ []) updates fresh
    brings_kept v there same = record {
      held = everywhere (λ q t. find R q (with_changes made es updates) ≡ held_of join (find R q es) t)
          (so_far.held k ∙ ap (held_of join (find R k es)) first ∙ ap (λ a. held_of join a None) there ∙ ap Some (sym same) ∙ sym (ap (λ a. held_of join a (Some w)) there))
          (λ q t. so_far.held q);
      new = everywhere (λ q t. find R q fresh ≡ new_of join (find R q es) t)
          (so_far.new k ∙ ap (λ a. new_of join a (find R k came)) there ∙ sym (ap (λ a. new_of join a (Some w)) there))
          (λ q t. so_far.new q);
      apart = so_far.apart;
    }

    pub brings_changed : T (is_sorted R es) → (v : V) (place : ℕ) (change : C) → find R k es ≡ Some v → slice_get (map (λ e. e.0) es) place ≡ Some k → made v change ≡ join v w → Brings R join made es (came ++ (k, w) ∷ []) (updates ++ (place, change) ∷ []) fresh
    brings_changed sorted v place change there at is = record {
      held = λ q. ap (find R q) (with_changes-push o made es updates place change)
          ∙ find-with_change o made q k (with_changes made es updates) place change (as_T (is_sorted-with_changes o made es updates ∙ as_true _ sorted)) (ap (λ l. slice_get l place) (keys-with_changes o made es updates) ∙ at)
          ∙ everywhere (λ q t. cond (eq_by_cmp R q k) (option_map (λ x. made x change) (find R k (with_changes made es updates))) (find R q (with_changes made es updates)) ≡ held_of join (find R q es) t)
          (ap (λ b. cond b (option_map (λ x. made x change) (find R k (with_changes made es updates))) (find R k (with_changes made es updates))) (itself o k)
          ∙ ap (option_map (λ x. made x change)) (so_far.held k ∙ ap (held_of join (find R k es)) first ∙ ap (λ a. held_of join a None) there)
          ∙ ap Some is ∙ sym (ap (λ a. held_of join a (Some w)) there))
          (λ q t. ap (λ b. cond b (option_map (λ x. made x change) (find R k (with_changes made es updates))) (find R q (with_changes made es updates))) t ∙ so_far.held q)
          q;
      new = everywhere (λ q t. find R q fresh ≡ new_of join (find R q es) t)
          (so_far.new k ∙ ap (λ a. new_of join a (find R k came)) there ∙ sym (ap (λ a. new_of join a (Some w)) there))
          (λ q t. so_far.new q);
      apart = so_far.apart;
    }

    pub brings_fresh : find R k es ≡ None → Brings R join made es (came ++ (k, w) ∷ []) updates (fresh ++ (k, w) ∷ [])
    brings_fresh none = record {
      held = everywhere (λ q t. find R q (with_changes made es updates) ≡ held_of join (find R q es) t)
          (so_far.held k ∙ ap (λ a. held_of join a (find R k came)) none ∙ sym (ap (λ a. held_of join a (Some w)) none))
          (λ q t. so_far.held q);
      new = λ q. find-append R o fresh k w q (so_far.new k ∙ ap (λ a. new_of join a (find R k came)) none ∙ first)
          ∙ everywhere (λ q t. cond (eq_by_cmp R q k) (Some w) (find R q fresh) ≡ new_of join (find R q es) t)
          (ap (λ b. cond b (Some w) (find R k fresh)) (itself o k) ∙ sym (ap (λ a. new_of join a (Some w)) none))
          (λ q t. ap (λ b. cond b (Some w) (find R q fresh)) t ∙ so_far.new q)
          q;
      apart = distinct_push o k w fresh so_far.apart (so_far.new k ∙ ap (λ a. new_of join a (find R k came)) none ∙ first);
    }

    -- the new entry's key is not yet among the new ones
    pub fresh_first : find R k fresh ≡ None
    fresh_first = so_far.new k ∙ ap (new_of join (find R k es)) first ∙ sym (new_none join (find R k es))

  -- woven together they are the join
  pub brings_join : IsTotalOrder R → (es came : List (K × V)) (updates : List (ℕ × C)) (fresh sorted_fresh : List (K × V)) → T (is_sorted R es) → T (is_sorted R sorted_fresh) → ((q : K) → find R q sorted_fresh ≡ find R q fresh) → Brings R join made es came updates fresh → (q : K) → find R q (weave (on_keys R) (with_changes made es updates) sorted_fresh) ≡ join_options join (find R q es) (find R q came)
  brings_join o es came updates fresh sorted_fresh sorted in_order same brings q =
      find-weave o q (with_changes made es updates) sorted_fresh (as_T (is_sorted-with_changes o made es updates ∙ as_true _ sorted)) in_order
      ∙ (λ i. option_or (brings.held q i) ((same q ∙ brings.new q) i))
      ∙ both_joined join (find R q es) (find R q came)

  -- and so are the updates alone where nothing is new
  pub brings_held : (es came : List (K × V)) (updates : List (ℕ × C)) (fresh : List (K × V)) → ((q : K) → find R q fresh ≡ None) → Brings R join made es came updates fresh → (q : K) → find R q (with_changes made es updates) ≡ join_options join (find R q es) (find R q came)
  brings_held es came updates fresh none brings q =
      or_none join (find R q (with_changes made es updates))
      ∙ (λ i. option_or (brings.held q i) ((sym (none q) ∙ brings.new q) i))
      ∙ both_joined join (find R q es) (find R q came)
