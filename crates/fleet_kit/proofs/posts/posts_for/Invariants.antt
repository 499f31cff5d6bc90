use Rattle.std.proofs.Common.{◌≡◌, All, Some, map, slice_get, take}
use Rattle.crossbeam_channel.specs.Claims.{view}
use Rattle.fleet_kit.specs.Posting.{IsPosted}
use Rattle.fleet_kit.proofs.posts.posts_for.Given as goal

abbrev pub invariant-loop-gateway : goal.invariant-loop-gateway
invariant-loop-gateway g l = (map (λ p. p.id) l.posts.items ≡ take l.gateway l.ids) × All (λ p. slice_get l.ids p.gateway ≡ Some p.id) l.posts.items × All (λ p. IsPosted l.exports (view p.pass) p.unsent) l.posts.items
