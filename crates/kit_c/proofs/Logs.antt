-- When a log has room.
use Rattle.std.proofs.Common.{◌≡◌, ◌<◌, ◌≤◌, ◌^◌, ℕ, Bool, true, false, None, Some, length, refl}
use Rattle.std.specs.Prelude.{nat_le, ◌||◌}
use Rattle.attr_kit.specs.Refusing.{when}
use Rattle.std.proofs.lemmas.Bool.{le-leb, lt-leb}
use Rattle.recorder_kit.specs.Log.{Logged}
use Rattle.recorder_kit.specs.declared.fault.RecordFault.TheVariants as records
use Rattle.kit_c.specs.Recorders.{full_for_number, full_log}
use Rattle.kit_c.specs.declared.fault.Fault.TheVariants as faults

pub is_full : (r : Logged) → r.capacity ≤ length r.log → full_log r ≡ Some (faults.Record records.Full)
unfolding full_log
is_full r full = rw (le-leb r.capacity (length r.log) full) refl

pub has_room : (r : Logged) → length r.log < r.capacity → full_log r ≡ None
unfolding full_log
has_room r room = rw (lt-leb r.capacity (length r.log) room) refl

pub number_is_great : (n : ℕ) (r : Logged) → 2 ^ 32 ≤ n → full_for_number n r ≡ Some (faults.Record records.Full)
unfolding full_for_number
number_is_great n r great = by (nat_le r.capacity (length r.log))
  where
    by : (b : Bool) → when (b || nat_le (2 ^ 32) n) (faults.Record records.Full) ≡ Some (faults.Record records.Full)
    by true = refl
    by false = rw (le-leb (2 ^ 32) n great) refl

pub is_full_for : (n : ℕ) (r : Logged) → r.capacity ≤ length r.log → full_for_number n r ≡ Some (faults.Record records.Full)
unfolding full_for_number
is_full_for n r full = rw (le-leb r.capacity (length r.log) full) refl

pub has_room_for : (n : ℕ) (r : Logged) → length r.log < r.capacity → n < 2 ^ 32 → full_for_number n r ≡ None
unfolding full_for_number
has_room_for n r room small = rw (lt-leb r.capacity (length r.log) room, lt-leb (2 ^ 32) n small) refl
