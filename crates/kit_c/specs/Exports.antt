-- What is read of exports.
use Rattle.std.specs.Prelude.{◌≡◌, ◌/◌, ◌%◌, ◌^◌, ℕ, length}
use Rattle.point_kit.specs.Orders.{instance_number}
use Rattle.point_kit.specs.declared.export.Export.{Export}

-- an export's instance as two numbers, its start, its time, and how many points it has
pub record Reads (e : Export) (high low start time points : ℕ) : Type 0 where
  pub is_high : high ≡ instance_number e.writer.instance / 2 ^ 64
  pub is_low : low ≡ instance_number e.writer.instance % 2 ^ 64
  pub starts : start ≡ e.start
  pub taken_at : time ≡ e.time
  pub carries : points ≡ length e.points
