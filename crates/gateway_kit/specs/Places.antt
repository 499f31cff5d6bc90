-- Where a key stands among entries in the order of their keys.
use Rattle.std.specs.Prelude.{◌≡◌, ℕ, ◌≤◌, List, map, length, Some, None, Result, MatchResult, slice_get}
use Rattle.std.specs.List.{insert}
use Rattle.std.specs.declared.cmp.Ordering.{Ordering}
use Rattle.std.specs.FinMap.Entries.{find, put}

module _ {K V : Type 0} (R : K → K → Ordering) (es : List (K × V)) (key : K) where
  -- the key stands at this place
  abbrev pub IsAt : ℕ → Type 0
  IsAt place = slice_get (map (λ e. e.0) es) place ≡ Some key

  -- the key is not there, and this is the place where it belongs
  pub record IsGap (place : ℕ) : Type 0 where
    pub none : find R key es ≡ None
    pub within : place ≤ length es
    pub fits : (value : V) → insert es place (key, value) ≡ put R key value es

  -- where it stands, or where it belongs
  abbrev pub IsPlace : Result ℕ ℕ → Type 0
  IsPlace place = MatchResult place IsAt IsGap
