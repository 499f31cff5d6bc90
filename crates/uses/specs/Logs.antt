-- What comes of a log.
use Rattle.std.specs.Prelude.{◌≡◌, ◌≤◌, ◌++◌, ◌∷◌, [], ℕ, List, take}
use Rattle.agg_kit.specs.Tallies.{Tallied}
use Rattle.recorder_kit.specs.Log.{Logged, Recording, taken_in}
use Rattle.round_kit.specs.Rounds as rounds
use Rattle.writer_kit.specs.Recording.{after_take_in, round_now}
use Rattle.writer_kit.specs.Written.{Written}

-- a tally once recordings are taken in
abbrev pub comes_to : Tallied → List Recording → Tallied
comes_to t rs = (taken_in t rs).tally

-- a recorder once one recording more is noted
abbrev pub noting : Logged → Recording → Logged
noting r recording = record r { log = r.log ++ recording ∷ [] }

-- a round has what a writer had and at most so many recordings of a log, the first
abbrev pub HasFirst : Written → ℕ → List Recording → ℕ → rounds.Collected → Type 0
HasFirst w most log time r = (n : ℕ) × (n ≤ most) × (r ≡ round_now (after_take_in w (take n log)) time)
