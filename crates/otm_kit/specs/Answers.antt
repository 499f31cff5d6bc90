-- What queries print.
use Rattle.std.specs.Prelude.{ℕ, ◌==◌, if◌then◌else◌, List, [], ◌∷◌, ◌++◌, codes, count_by, slice_get, Option, Some, None, Result, Ok, ok_or, option_and_then}
use Rattle.std.specs.Fmt.{decimal}
use Rattle.std.specs.FinMap.{entries}
use Rattle.gateway_kit.specs.Queries.{has_conflict, newest_time}
use Rattle.point_kit.specs.Exports.{Points, changed_points}
use Rattle.rollup_kit.specs.Rollups.{rollup_rows}
use Rattle.rollup_kit.specs.TableText.{table_text}
use Rattle.rollup_kit.specs.declared.ask.Ask.{Ask}
use Rattle.schedule_kit.specs.Deeds.Holder.{AtGateway}
use Rattle.script_kit.specs.Reading.{◌>>=◌}
use Rattle.script_kit.specs.declared.line.Command.{Command}
use Rattle.script_kit.specs.declared.line.Query.{Query}
use Rattle.script_kit.specs.declared.line.Query.TheVariants as query
use Rattle.script_kit.specs.declared.line.Report.{Report}
use Rattle.script_kit.specs.declared.reason.Reason.{Reason}
use Rattle.script_kit.specs.declared.reason.Reason.TheVariants as reason
use Rattle.point_kit.specs.declared.writer_id.WriterId.{WriterId}
use Rattle.std.specs.Option.{option_map}
use Rattle.world_kit.specs.States.{state_at}
use Rattle.otm_kit.specs.Begin.{setup_of}
use Rattle.otm_kit.specs.Declarations.{Declared}
use Rattle.otm_kit.specs.Events.{gateway_at, deeds_of_commands, writer_place}

-- the state of the exports that the gateway at a place took
abbrev pub points_at : Declared → List Command → ℕ → Points
points_at d cs place = state_at (setup_of d) (deeds_of_commands d cs) (AtGateway place)

-- what a report asks of a gateway
abbrev pub ask_of : Report → Ask
ask_of r = record { stream = r.stream; service = r.service; only = r.only; keep = r.keep }

-- whether two gateways hold equal points: no key has another cell
unfoldable pub same_text : Points → Points → List ℕ
same_text one other = if changed_points one other == 0 then codes "same yes" ++ 10 ∷ [] else codes "same no" ++ 10 ∷ []

unfoldable pub conflicts_text : Points → List ℕ
conflicts_text points = codes "conflicts " ++ decimal (count_by (λ e. has_conflict e.1) (entries points)) ++ 10 ∷ []

unfoldable pub newest_text : Option ℕ → List ℕ
newest_text (Some time) = codes "newest " ++ decimal time ++ 10 ∷ []
newest_text None = codes "newest none" ++ 10 ∷ []

-- the identity of the writer of a label
unfoldable pub identity_of : Declared → List ℕ → Option WriterId
identity_of d label = option_and_then (λ place. option_map (λ w. w.0) (slice_get d.writers place)) (writer_place d label)

-- what a query prints, where its labels and ids are declared
unfoldable pub answer_of : Declared → List Command → Query → Result (List ℕ) Reason
answer_of d cs (query.Report gateway report) =
    gateway_at d gateway 1 >>= λ g. Ok (table_text (rollup_rows (ask_of report) (points_at d cs g)))
answer_of d cs (query.Same one other) =
    gateway_at d one 1 >>= λ g. gateway_at d other 2 >>= λ h. Ok (same_text (points_at d cs g) (points_at d cs h))
answer_of d cs (query.Conflicts gateway) =
    gateway_at d gateway 1 >>= λ g. Ok (conflicts_text (points_at d cs g))
answer_of d cs (query.Newest gateway writer start) =
    gateway_at d gateway 1 >>= λ g. ok_or (identity_of d writer) (reason.NoWriter 2) >>= λ id. Ok (newest_text (newest_time id start (points_at d cs g)))
