-- What a state shows: its points but for those that one of its own keys names.
use Rattle.std.specs.Prelude.{◌≡◌, Bool, true, false, not}
use Rattle.std.specs.List.{list_any}
use Rattle.std.specs.declared.cmp.Ordering.{Ordering}
use Rattle.std.specs.FinMap.{FinMap, keys, retain_keys}
use Rattle.point_kit.specs.States.{join_maps}

-- what is named names nothing; `names t k` says that where a point stands under key t, whatever it tells, that of key k is not shown
abbrev pub NamesNoNamer : {K : Type 0} → (K → K → Bool) → Type 0
NamesNoNamer {K} names = (t k q : K) → names t k ≡ true → names k q ≡ false

module _ {K V : Type 0} {R : K → K → Ordering} (names : K → K → Bool) where
  -- some key of the state names this one
  abbrev pub hides : FinMap R V → K → Bool
  hides m k = list_any (λ t. names t k) (keys m)

  -- the state without what it hides
  abbrev pub shown : FinMap R V → FinMap R V
  shown m = retain_keys m (λ k. not (hides m k))

  -- what two joined show
  abbrev pub join_shown : (V → V → V) → FinMap R V → FinMap R V → FinMap R V
  join_shown join m n = shown (join_maps join m n)

  -- in what is shown, the first is at or below the second: joined into it, it shows nothing more
  abbrev pub IsShownBelow : (V → V → V) → FinMap R V → FinMap R V → Type 0
  IsShownBelow join m n = join_shown join m n ≡ shown n
