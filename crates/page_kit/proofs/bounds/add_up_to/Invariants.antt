use Rattle.std.proofs.Common.{◌≡◌, ◌+◌, ◌^◌, ◌<◌, drop}
use Rattle.page_kit.specs.Bounds.{count_up_to, within_room}
use Rattle.page_kit.proofs.bounds.add_up_to.Given as goal

abbrev pub invariant-loop-place : goal.invariant-loop-place
invariant-loop-place l =
    (within_room (l.total + count_up_to l.bound (drop l.place l.limits) (drop l.place l.buckets)) ≡ within_room (l.fn.count + count_up_to l.bound l.limits l.buckets))
    × (l.total < 2 ^ 128)
