-- What a walk has left.
use Rattle.std.specs.Prelude.{List, ◌++◌, take}
use Rattle.shelf_kit.specs.Shelving.{items_on}
use Rattle.shelf_kit.specs.declared.walk.Walk.{Walk}

-- the values that are left to be lent, in order
abbrev pub walk_left : {A : Type 0} → Walk A → List A
walk_left w = take w.left (w.here.now ++ items_on w.ahead.now)
