-- What a push is refused for, by what the writer refuses.
use Rattle.std.proofs.Common.{◌≡◌, ◌≢◌, ◌∙◌, ℕ, Some, None, ap, refl}
use Rattle.point_kit.specs.declared.export.Export.{Export}
use Rattle.push_kit.specs.Faults.{tick_fault, push_fault}
use Rattle.push_kit.specs.Pushing.{IsCollection}
use Rattle.round_kit.specs.Rounds as rounds
use Rattle.writer_kit.specs.Recording.{round_now}
use Rattle.push_kit.specs.declared.fault.TickFault.{TickFault}
use Rattle.push_kit.specs.declared.fault.TickFault.TheVariants as tick
use Rattle.writer_kit.specs.Refusals.{collect_fault}
use Rattle.writer_kit.specs.Written.{Written}
use Rattle.writer_kit.specs.declared.fault.CollectFault.{CollectFault}
use Rattle.writer_kit.specs.declared.fault.CollectFault.TheVariants as collect

pub push_refused : (w : Written) (time : ℕ) (f : CollectFault) (e : TickFault) → e ≡ tick_fault f → (f ≢ collect.NoMemory → collect_fault w time ≡ Some f) → e ≢ tick.NoMemory → push_fault w time ≡ Some e
unfolding push_fault
push_refused w time f e gives refused other =
    let fit : collect_fault w time ≡ Some f = refused (λ n. other (gives ∙ ap tick_fault n)) in
    rw (fit, gives) refl

-- nothing else is refused where memory was
pub push_accepted : (w : Written) (time : ℕ) → collect_fault w time ≡ None → push_fault w time ≡ None
unfolding push_fault
push_accepted w time fits = rw fits refl

pub push_short : (w : Written) (time : ℕ) (f : CollectFault) (e : TickFault) → e ≡ tick_fault f → (f ≡ collect.NoMemory → collect_fault w time ≡ None) → e ≡ tick.NoMemory → push_fault w time ≡ None
push_short w time collect.Closed e gives fits is = cc
push_short w time (collect.TimeNotAfter last) e gives fits is = cc
push_short w time collect.NoMemory e gives fits is = push_accepted w time (fits refl)

-- an export that a writer's round was copied to
pub collects : (w : Written) (time : ℕ) (r : rounds.Collected) (e : Export) → r ≡ round_now w time → e.writer ≡ w.id → e.start ≡ r.start → e.time ≡ r.time → e.points ≡ r.points → IsCollection w time e
collects w time r e is writer start taken_at points = record {
  writer = writer;
  start = start ∙ ap (λ (x : rounds.Collected). x.start) is;
  taken_at = taken_at ∙ ap (λ (x : rounds.Collected). x.time) is;
  points = points ∙ ap (λ (x : rounds.Collected). x.points) is;
}
