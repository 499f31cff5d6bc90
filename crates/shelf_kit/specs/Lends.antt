-- What a list ends as, once a `&mut` into it has ended.
use Rattle.std.specs.Prelude.{ℕ, slice_set}
use Rattle.std.specs.Borrow.{Fml, RattleType, MutBor, Lends}
use Rattle.shelf_kit.specs.Shelved.{Shelved}
use Rattle.shelf_kit.specs.contracts.shelves.Shelves.{the_row}

-- the value at the index is the last one written through r, and the bounds stay
abbrev pub lends_value : (R : RattleType) → MutBor (Shelved R.Denot) → ℕ → MutBor R.Denot → Fml
lends_value R s index r = Lends (the_row R) R s r (λ w. record { items = slice_set s.now.items index w; bounds = s.now.bounds })
