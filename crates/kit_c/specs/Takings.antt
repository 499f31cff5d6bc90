-- Logs of recorders that writers take in.
use Rattle.std.specs.Prelude.{◌≡◌, ℕ, pos, Option, Some}
use Rattle.std.specs.Option.{option_map_or, unwrap_or}
use Rattle.attr_kit.specs.Refusing.{when}
use Rattle.agg_kit.specs.declared.fault.TallyFault.{TallyFault}
use Rattle.recorder_kit.specs.declared.taken.Taken.{Taken}
use Rattle.recorder_kit.specs.Log.{Logged}
use Rattle.writer_kit.specs.Recording.{after_take_in}
use Rattle.writer_kit.specs.Taking.{IsTaken, gone}
use Rattle.writer_kit.specs.Written.{Written}
use Rattle.writer_kit.specs.declared.fault.MeasureFault.TheVariants as measure
use Rattle.kit_c.specs.Codes.{code_of}
use Rattle.kit_c.specs.Places.{place_of}
use Rattle.kit_c.specs.declared.fault.Fault.{Fault}
use Rattle.kit_c.specs.declared.fault.Fault.TheVariants as faults
use Rattle.kit_c.specs.declared.taken.KitTaken.{KitTaken}

-- what the tally of a writer refuses
abbrev pub refusal_of : TallyFault → Fault
refusal_of f = faults.Measure (measure.Refused f)

-- what is told of a log that was taken in: of no refusal 0
abbrev pub told_of : Taken → KitTaken
told_of k = record {
  recorded = k.recorded;
  refused = k.refused;
  code = option_map_or (λ f. code_of (refusal_of f.1)) k.first (pos 0);
  first = option_map_or (λ f. f.0) k.first 0;
  place = option_map_or (λ f. unwrap_or (place_of (refusal_of f.1)) 0) k.first 0;
}

-- a writer takes logs in while it is open
abbrev pub taking_fault : Written → Logged → Option Fault
taking_fault w r = when w.closed (faults.Measure measure.Closed)

-- at most so many recordings of the second were taken in by the first: they are then the third and the fourth
abbrev pub HasTakenIn : ℕ → Option Written → Option Logged → Option Written → Option Logged → KitTaken → Type 0
HasTakenIn most (Some w) (Some r) (Some v) (Some s) told =
    (v ≡ after_take_in w (gone r s)) × (k : Taken) × (told ≡ told_of k) × IsTaken w r s most k
HasTakenIn most m n o p told = ⊥
