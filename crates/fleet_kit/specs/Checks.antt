-- Why the setup of a fleet is refused.
use Rattle.std.specs.Prelude.{ℕ, zero, suc, ◌+◌, ◌||◌, ◌==◌, nat_eq, nat_le, nat_lt, Bool, List, [], ◌∷◌, ◌++◌, filter, length, position, cond, sum_by, Option, None, Some}
use Rattle.std.specs.Option.{option_map, option_or}
use Rattle.attr_kit.specs.Refusing.{first, wherever}
use Rattle.plan_kit.specs.Plans.{Planned}
use Rattle.point_kit.specs.contracts.writer_id.WriterIdPartialEq.TheImpl as ids
use Rattle.point_kit.specs.declared.writer_id.WriterId.{WriterId}
use Rattle.fleet_kit.specs.declared.fault.FleetFault.{FleetFault}
use Rattle.fleet_kit.specs.declared.fault.FleetFault.TheVariants.{NoWriter, SameWriter, SameGateway, EndNotAfter, TooManyJobs}
use Rattle.fleet_kit.specs.declared.setup.FleetSetup.{FleetSetup}
use Rattle.fleet_kit.specs.declared.setup.Job.{Job}

-- the first of these that ties with an earlier one, by the least place of such a one and its own; they stand behind earlier ones
abbrev pub first_tie_from : {A : Type 0} → (A → A → Bool) → List A → List A → Option (ℕ × ℕ)
first_tie_from eq earlier [] = None
first_tie_from eq earlier (x ∷ xs) = option_or (option_map (λ i. (i, length earlier)) (position (λ y. eq y x) earlier)) (first_tie_from eq (earlier ++ x ∷ []) xs)

-- the least place of an element that ties with an earlier one, behind the least place of such a one
abbrev pub first_tie : {A : Type 0} → (A → A → Bool) → List A → Option (ℕ × ℕ)
first_tie eq xs = first_tie_from eq [] xs

-- whether a writer has the identity of another
abbrev pub has_id_of : WriterId × Planned × ℕ → WriterId × Planned × ℕ → Bool
has_id_of v w = (ids.ghosts).eq v.0 w.0

-- the jobs of the writer at a place
abbrev pub jobs_at : ℕ → List Job → List Job
jobs_at w jobs = filter (λ j. j.writer == w) jobs

-- they are more than 4,095, or have more than 2^61 entries
abbrev pub is_crowded : List Job → ℕ → Bool
is_crowded jobs w = nat_lt 4095 (length (jobs_at w jobs)) || nat_lt 2305843009213693952 (sum_by (λ j. length j.entries.items) (jobs_at w jobs))

-- the least of so many places, from w on, at which a writer has too many
abbrev pub crowded_from : List Job → ℕ → ℕ → Option ℕ
crowded_from jobs w zero = None
crowded_from jobs w (suc n) = cond (is_crowded jobs w) (Some w) (crowded_from jobs (w + 1) n)

-- why a setup is refused, the first in the order
unfoldable pub setup_fault : FleetSetup → Option FleetFault
setup_fault s = first (
    wherever NoWriter (λ j. nat_le (length s.writers.items) j.writer) s.jobs.items
    ∷ option_map (λ p. SameWriter p.0 p.1) (first_tie has_id_of s.writers.items)
    ∷ option_map (λ p. SameGateway p.0 p.1) (first_tie nat_eq s.gateways.items)
    ∷ wherever EndNotAfter (λ w. nat_le s.end w.2) s.writers.items
    ∷ option_map TooManyJobs (crowded_from s.jobs.items 0 (length s.writers.items))
    ∷ []
    )
