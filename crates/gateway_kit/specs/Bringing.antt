-- What one list of entries brings to another: values joined where there are some, new entries elsewhere.
use Rattle.std.specs.Prelude.{◌≡◌, ℕ, Bool, not, is_none, List, map, Option, Some, None}
use Rattle.std.specs.List.{IsDistinct}
use Rattle.std.specs.Option.{option_eq}
use Rattle.std.specs.declared.cmp.Ordering.{Ordering}
use Rattle.std.specs.FinMap.Entries.{find}
use Rattle.std.specs.Ordering.{eq_by_cmp}
use Rattle.point_kit.specs.Join.{join_options}
use Rattle.gateway_kit.specs.Amending.{with_changes}

module _ {V : Type 0} (join : V → V → V) where
  -- where there is a value: it, with what comes in
  abbrev pub held_of : Option V → Option V → Option V
  held_of None came = None
  held_of (Some v) None = Some v
  held_of (Some v) (Some w) = Some (join v w)

  -- where there is none: what comes in
  abbrev pub new_of : Option V → Option V → Option V
  new_of None came = came
  new_of (Some v) came = None

-- whether an entry that comes in has a new key
abbrev pub is_new : {K V : Type 0} → (K → K → Ordering) → List (K × V) → K × V → Bool
is_new R es e = is_none (find R e.0 es)

-- whether it changes anything
abbrev pub is_change : {K V : Type 0} → (K → K → Ordering) → (V → V → V) → (V → V → Bool) → List (K × V) → K × V → Bool
is_change R join eq es e = not (option_eq eq (find R e.0 es) (join_options join (find R e.0 es) (Some e.1)))

module _ {K V C : Type 0} (R : K → K → Ordering) (join : V → V → V) (made : V → C → V) where
  -- the updates and the new entries bring in what came
  pub record Brings (es came : List (K × V)) (updates : List (ℕ × C)) (fresh : List (K × V)) : Type 0 where
    pub held : (q : K) → find R q (with_changes made es updates) ≡ held_of join (find R q es) (find R q came)
    pub new : (q : K) → find R q fresh ≡ new_of join (find R q es) (find R q came)
    pub apart : IsDistinct (eq_by_cmp R) (map (λ e. e.0) fresh)
