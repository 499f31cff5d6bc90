-- What is shown of points of the kit, and its order.
use Rattle.std.proofs.Common.{◌≡◌, sym, ap, ◌∙◌}
use Rattle.archive_kit.proofs.Showing.{delta_brings, shown_congruent, shown_trans, shown_brings_more}
use Rattle.archive_kit.proofs.Tombstones.{names_no_tombstone}
use Rattle.archive_kit.specs.Showing.{shown, IsShownBelow}
use Rattle.archive_kit.specs.Tombstones.{names_key}
use Rattle.point_kit.proofs.EqualityLaws.{payload_equivalence, payload_exact}
use Rattle.point_kit.proofs.JoinLaws.{cells_commute, cells_associate}
use Rattle.point_kit.proofs.OrderLaws.{key_total, key_exact}
use Rattle.point_kit.proofs.PointLaws.{points_commute}
use Rattle.point_kit.specs.Equality.{payload_eq}
use Rattle.point_kit.specs.Exports.{Points, join_points}
use Rattle.point_kit.specs.Join.{IsAtOrBelow, IsAssociative, IsCommutative, join_cells}

abbrev pub S : Points → Points
S p = shown names_key p

abbrev pub Below : Points → Points → Type 0
Below = IsShownBelow names_key (join_cells payload_eq)

assoc : IsAssociative (join_cells payload_eq)
assoc = cells_associate payload_eq payload_equivalence payload_exact

comm : IsCommutative (join_cells payload_eq)
comm = cells_commute payload_eq payload_equivalence payload_exact

pub congruent : (a b c d : Points) → S a ≡ S c → S b ≡ S d → S (join_points a b) ≡ S (join_points c d)
congruent = shown_congruent key_total key_exact names_key names_no_tombstone (join_cells payload_eq)

pub below_trans : (a b c : Points) → Below a b → Below b c → Below a c
below_trans = shown_trans key_total key_exact names_key names_no_tombstone (join_cells payload_eq) assoc

pub brings_more : (r q c t : Points) → Below r q → S (join_points r c) ≡ S (join_points r t) → S (join_points q c) ≡ S (join_points q t)
brings_more = shown_brings_more key_total key_exact names_key names_no_tombstone (join_cells payload_eq) comm assoc

pub plain_below : (a b : Points) → IsAtOrBelow join_points a b → Below a b
plain_below a b is = ap S is

-- states that show the same may stand for one another
pub below_same : (a b c d : Points) → S a ≡ S c → S b ≡ S d → Below a b → Below c d
below_same a b c d e f is = congruent c d a b (sym e) (sym f) ∙ is ∙ f

-- what brings its receiver's acknowledged cells to all that its sender has brings as much to what shows these cells
pub brings_on : (receiver once carried sender : Points) → Below once receiver → join_points once carried ≡ join_points once sender
    → S (join_points receiver carried) ≡ S (join_points receiver sender)
brings_on receiver once carried sender below brings =
    delta_brings key_total key_exact names_key names_no_tombstone (join_cells payload_eq) assoc receiver once carried sender
    (ap S (points_commute receiver once) ∙ below) (ap S brings)
