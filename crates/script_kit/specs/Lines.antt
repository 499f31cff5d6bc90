-- What each line of a script asks for, or why it is bad.
use Rattle.std.specs.Prelude.{ℕ, List, [], ◌∷◌, Result, Ok, Err, ◌==◌, if◌then◌else◌, codes, is_some, ok_or}
use Rattle.std.specs.Str.{bytes_eq}
use Rattle.script_kit.specs.Attributes.{attributes}
use Rattle.script_kit.specs.Forms.{part_of, unless_star, scope_of, rename_of, uuid_of}
use Rattle.script_kit.specs.Numbers.{value_of}
use Rattle.script_kit.specs.Reading.{◌>>=◌, word_at, count_of, label_at, number_at, id_at}
use Rattle.script_kit.specs.Shapes.{kind_of, kind_asked, name_rule, aggregation_of, shape_of, keep_of}
use Rattle.script_kit.specs.Words.{words_of}
use Rattle.script_kit.specs.declared.line.Line.{Line}
use Rattle.script_kit.specs.declared.line.Line.TheVariants as line
use Rattle.script_kit.specs.declared.line.Declaration.TheVariants as declaration
use Rattle.script_kit.specs.declared.line.Command.TheVariants as command
use Rattle.script_kit.specs.declared.line.Query.TheVariants as query
use Rattle.script_kit.specs.declared.reason.Form.{Form}
use Rattle.script_kit.specs.declared.reason.Form.TheVariants as form
use Rattle.script_kit.specs.declared.reason.Noun.TheVariants as noun
use Rattle.script_kit.specs.declared.reason.Reason.{Reason}
use Rattle.script_kit.specs.declared.reason.Reason.TheVariants as reason

-- the form of an instrument's line: where its kind is one, what it wants is told by the kind
unfoldable pub instrument_form : List (List ℕ) → Form
instrument_form ws = if is_some (kind_of (word_at ws 2)) then form.InstrumentOfKind else form.Instrument

-- `instrument LABEL KIND SCOPE NAME UNIT`
unfoldable pub instrument_line : List (List ℕ) → Result Line Reason
instrument_line ws = count_of ws 6 (instrument_form ws) >>= λ _.
    label_at ws 1 >>= λ label. ok_or (kind_of (word_at ws 2)) (reason.Kind 2) >>= λ kind.
    Ok (line.Declare (declaration.Instrument label (record { scope = part_of (word_at ws 3); name = word_at ws 4; unit = part_of (word_at ws 5); kind = kind })))

-- `view NAME KIND SCOPE RENAME KEEP AGGREGATION`
unfoldable pub view_line : List (List ℕ) → Result Line Reason
view_line ws = count_of ws 7 form.View >>= λ _.
    ok_or (kind_asked (word_at ws 2)) (reason.KindAsked 2) >>= λ kind. ok_or (keep_of (word_at ws 5)) (reason.Keep 5) >>= λ keep.
    ok_or (aggregation_of (word_at ws 6)) (reason.Aggregation 6) >>= λ aggregation.
    Ok (line.Declare (declaration.View (record { name = name_rule (word_at ws 1); kind = kind; scope = scope_of (word_at ws 3); rename = rename_of (word_at ws 4); keep = keep; aggregation = aggregation })))

-- `writer LABEL SERVICE UUID START`
unfoldable pub writer_line : List (List ℕ) → Result Line Reason
writer_line ws = count_of ws 5 form.Writer >>= λ _.
    label_at ws 1 >>= λ label. ok_or (uuid_of (word_at ws 3)) (reason.Uuid 3) >>= λ instance. number_at ws 4 noun.Start >>= λ start.
    Ok (line.Declare (declaration.Writer label (record { service = word_at ws 2; instance = instance }) start))

-- `gateway ID`
unfoldable pub gateway_line : List (List ℕ) → Result Line Reason
gateway_line ws = count_of ws 2 form.Gateway >>= λ _.
    id_at ws 1 >>= λ gateway.
    Ok (line.Declare (declaration.Gateway gateway))

-- `limit L`
unfoldable pub limit_line : List (List ℕ) → Result Line Reason
limit_line ws = count_of ws 2 form.Limit >>= λ _.
    number_at ws 1 noun.Limit >>= λ limit.
    Ok (line.Declare (declaration.Limit limit))

-- `begin`
unfoldable pub begin_line : List (List ℕ) → Result Line Reason
begin_line ws = count_of ws 1 form.Begin >>= λ _. Ok line.Begin

-- `measure WRITER INSTRUMENT VALUE ATTRIBUTES`
unfoldable pub measure_line : List (List ℕ) → Result Line Reason
measure_line ws = count_of ws 5 form.Measure >>= λ _.
    label_at ws 1 >>= λ writer. label_at ws 2 >>= λ instrument. ok_or (value_of (word_at ws 3)) (reason.Value 3) >>= λ value.
    ok_or (attributes (word_at ws 4)) (reason.Attributes 4) >>= λ attrs.
    Ok (line.Do (command.Measure writer instrument value attrs))

-- `collect WRITER TIME`
unfoldable pub collect_line : List (List ℕ) → Result Line Reason
collect_line ws = count_of ws 3 form.Collect >>= λ _.
    label_at ws 1 >>= λ writer. number_at ws 2 noun.Time >>= λ time.
    Ok (line.Do (command.Collect writer time))

-- `shutdown WRITER TIME`
unfoldable pub shutdown_line : List (List ℕ) → Result Line Reason
shutdown_line ws = count_of ws 3 form.Shutdown >>= λ _.
    label_at ws 1 >>= λ writer. number_at ws 2 noun.Time >>= λ time.
    Ok (line.Do (command.Shutdown writer time))

-- `restart WRITER START`
unfoldable pub restart_line : List (List ℕ) → Result Line Reason
restart_line ws = count_of ws 3 form.Restart >>= λ _.
    label_at ws 1 >>= λ writer. number_at ws 2 noun.Start >>= λ start.
    Ok (line.Do (command.Restart writer start))

-- `deliver EXPORT GATEWAY`
unfoldable pub deliver_line : List (List ℕ) → Result Line Reason
deliver_line ws = count_of ws 3 form.Deliver >>= λ _.
    number_at ws 1 noun.Export >>= λ export. id_at ws 2 >>= λ gateway.
    Ok (line.Do (command.Deliver export gateway))

-- `merge INTO FROM`
unfoldable pub merge_line : List (List ℕ) → Result Line Reason
merge_line ws = count_of ws 3 form.Merge >>= λ _.
    id_at ws 1 >>= λ into. id_at ws 2 >>= λ from.
    Ok (line.Do (command.Merge into from))

-- `send FROM TO`
unfoldable pub send_line : List (List ℕ) → Result Line Reason
send_line ws = count_of ws 3 form.Send >>= λ _.
    id_at ws 1 >>= λ from. id_at ws 2 >>= λ to.
    Ok (line.Do (command.Send from to))

-- `hand MAIL GATEWAY`
unfoldable pub hand_line : List (List ℕ) → Result Line Reason
hand_line ws = count_of ws 3 form.Hand >>= λ _.
    number_at ws 1 noun.Mail >>= λ mail. id_at ws 2 >>= λ gateway.
    Ok (line.Do (command.Hand mail gateway))

-- `report GATEWAY SCOPE NAME UNIT SHAPE SERVICE ATTRIBUTES KEEP`
unfoldable pub report_line : List (List ℕ) → Result Line Reason
report_line ws = count_of ws 9 form.Report >>= λ _.
    id_at ws 1 >>= λ gateway. ok_or (shape_of (word_at ws 5)) (reason.Shape 5) >>= λ shape.
    ok_or (attributes (word_at ws 7)) (reason.Attributes 7) >>= λ only. ok_or (keep_of (word_at ws 8)) (reason.Keep 8) >>= λ keep.
    Ok (line.Ask (query.Report gateway (record { stream = record { scope = part_of (word_at ws 2); name = word_at ws 3; unit = part_of (word_at ws 4); shape = shape }; service = unless_star (word_at ws 6); only = only; keep = keep })))

-- `same GATEWAY GATEWAY`
unfoldable pub same_line : List (List ℕ) → Result Line Reason
same_line ws = count_of ws 3 form.Same >>= λ _.
    id_at ws 1 >>= λ one. id_at ws 2 >>= λ other.
    Ok (line.Ask (query.Same one other))

-- `conflicts GATEWAY`
unfoldable pub conflicts_line : List (List ℕ) → Result Line Reason
conflicts_line ws = count_of ws 2 form.Conflicts >>= λ _.
    id_at ws 1 >>= λ gateway.
    Ok (line.Ask (query.Conflicts gateway))

-- `newest GATEWAY WRITER START`
unfoldable pub newest_line : List (List ℕ) → Result Line Reason
newest_line ws = count_of ws 4 form.Newest >>= λ _.
    id_at ws 1 >>= λ gateway. label_at ws 2 >>= λ writer. number_at ws 3 noun.Start >>= λ start.
    Ok (line.Ask (query.Newest gateway writer start))

-- what a line of words asks for, by the first of them
unfoldable pub of_words : List (List ℕ) → Result Line Reason
of_words ws =
    let first = word_at ws 0 in
    if bytes_eq first (codes "instrument") then instrument_line ws
    else if bytes_eq first (codes "view") then view_line ws
    else if bytes_eq first (codes "writer") then writer_line ws
    else if bytes_eq first (codes "gateway") then gateway_line ws
    else if bytes_eq first (codes "limit") then limit_line ws
    else if bytes_eq first (codes "begin") then begin_line ws
    else if bytes_eq first (codes "measure") then measure_line ws
    else if bytes_eq first (codes "collect") then collect_line ws
    else if bytes_eq first (codes "shutdown") then shutdown_line ws
    else if bytes_eq first (codes "restart") then restart_line ws
    else if bytes_eq first (codes "deliver") then deliver_line ws
    else if bytes_eq first (codes "merge") then merge_line ws
    else if bytes_eq first (codes "send") then send_line ws
    else if bytes_eq first (codes "hand") then hand_line ws
    else if bytes_eq first (codes "report") then report_line ws
    else if bytes_eq first (codes "same") then same_line ws
    else if bytes_eq first (codes "conflicts") then conflicts_line ws
    else if bytes_eq first (codes "newest") then newest_line ws
    else Err reason.Unknown

-- what a line asks for, or why it is bad; an empty line and a comment ask for nothing
unfoldable pub line_of : List ℕ → Result Line Reason
line_of [] = Ok line.Nothing
line_of (b ∷ bs) = if b == 35 then Ok line.Nothing else (words_of (b ∷ bs) >>= of_words)
