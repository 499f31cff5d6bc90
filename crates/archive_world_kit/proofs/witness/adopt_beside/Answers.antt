use Rattle.std.proofs.Common.{refl}
use Rattle.archive_kit.specs.Tombstones.{IsInstance}
use Rattle.archive_world_kit.proofs.Instance.{instances_are, met, rows_same}
use Rattle.archive_world_kit.proofs.witness.adopt_beside.Goals as goal
use Rattle.archive_world_kit.specs.Instance.{identity}

first : IsInstance (identity 1)
first = instances_are 1 refl refl

ninth : IsInstance (identity 9)
ninth = instances_are 9 refl refl

pub returns : goal.returns
returns c =
    let one = c.in_ok-export.ensures in
    let joined = c.in_ok-plain.ensures in
    let taken = c.in_ok-before.ensures in
    let two = c.in_ok-adopted.ensures in
    let again = c.in_ok-keeper.ensures in record {
      met = met (identity 1) (identity 9) _ _ _ _ _ _ one joined taken.steps taken.value two again.steps first ninth;
      rows = rows_same (identity 1) (identity 9) _ _ _ _ _ _ one joined taken.steps taken.value two again.steps first ninth again.value;
    }
