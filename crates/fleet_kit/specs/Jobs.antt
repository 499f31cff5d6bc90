-- The jobs of a fleet.
use Rattle.std.specs.Prelude.{ℕ, ℤ, List, map}
use Rattle.agg_kit.specs.Entries.{Entry, entry_of}
use Rattle.attr_kit.specs.declared.attr_set.AttrSet.{AttrSet}
use Rattle.recorder_kit.specs.Log.{Recording, ByName}
use Rattle.rollup_kit.specs.Fleets.{Task}
use Rattle.fleet_kit.specs.declared.setup.Job.{Job}

-- a recording of a job, as an entry
abbrev pub as_entry : ℕ × AttrSet × ℤ → Entry
as_entry e = entry_of e.0 e.1 e.2

-- the entries of a job
abbrev pub entries : Job → List Entry
entries j = map as_entry j.entries.items

-- entries as recordings of a log
abbrev pub noted : List Entry → List Recording
noted es = map (λ e. ByName e) es

-- a job, as what it brings to its writer
abbrev pub task_of : Job → Task
task_of j = record { writer = j.writer; entries = entries j }
