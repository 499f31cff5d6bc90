-- What a desk stands for after one line more.
use mathlib.Core.Bool.{true≢false}
use Rattle.std.proofs.Common.{◌≡◌, ℕ, ◌<◌, ◌≤◌, Bool, true, false, not, List, [], ◌∷◌, ◌++◌, length, Option, Some, None, Result, Ok, Err, refl, sym, ap, ◌∙◌, subst, arith, slice_get, get_or, inl, inr}
use Rattle.std.specs.Prelude.{if◌then◌else◌, codes, IsTrue, ◌↔◌, ◌==◌}
use Rattle.std.specs.Option.{is_some, unwrap_or}
use Rattle.std.proofs.lemmas.List.Elements.{filter_map-append}
use Rattle.std.proofs.lemmas.List.Quantifiers.{position-Some}
use Rattle.std.proofs.lemmas.List.Sums.{fold_push}
use Rattle.std.proofs.lemmas.Bool.{eqb-true}
use Rattle.std.proofs.lemmas.Option.{slice_get_cases, slice_get_past, slice_get_within, slice_get-get_or}
use Rattle.script_kit.specs.declared.line.Command.{Command}
use Rattle.script_kit.specs.declared.line.Declaration.{Declaration}
use Rattle.script_kit.specs.declared.line.Line.{Line}
use Rattle.script_kit.specs.declared.line.Line.TheVariants as line
use Rattle.script_kit.specs.declared.line.Query.{Query}
use Rattle.script_kit.specs.declared.line.Query.TheVariants as query
use Rattle.script_kit.specs.declared.line.Report.{Report}
use Rattle.script_kit.specs.declared.reason.Reason.{Reason}
use Rattle.script_kit.specs.declared.reason.Reason.TheVariants as reason
use Rattle.rollup_kit.specs.Rollups.{rollup_rows}
use Rattle.rollup_kit.specs.TableText.{table_text}
use Rattle.gateway_kit.specs.Queries.{newest_time}
use Rattle.writer_kit.specs.Written.{Written}
use Rattle.world_kit.specs.Setups.{no_writer, writer_at}
use Rattle.world_kit.specs.declared.setup.WriterSetup.{WriterSetup}
use Rattle.plan_kit.specs.Feeds.{plan_of}
use Rattle.point_kit.specs.declared.writer_id.WriterId.{WriterId}
use Rattle.std.proofs.lemmas.List.{get_or-map, length-map}
use Rattle.world_kit.specs.WorldState.{WorldState}
use Rattle.world_kit.specs.Judged.{Deeds, after}
use Rattle.world_kit.specs.Stands.{Acts, Stands}
use Rattle.world_kit.specs.declared.event.Event.{Event}
use Rattle.world_kit.specs.declared.event.Reply.{Reply}
use Rattle.otm_kit.specs.Begin.{begin_fault, limit_of, setup_of, with_plan}
use Rattle.otm_kit.specs.Declarations.{Declared, declared_by, gateway_place, is_taken, label_place, named_at, with_declaration}
use Rattle.otm_kit.specs.Effects.{done, bad, effect_of, has_begun, once_begun, told_of}
use Rattle.otm_kit.specs.Events.{commands, event_of, deeds_of_commands}
use Rattle.otm_kit.specs.Answers.{answer_of, ask_of, conflicts_text, identity_of, newest_text, same_text}
use Rattle.gossip_kit.specs.Views.{NodeModel}
use Rattle.point_kit.specs.Exports.{Points, changed_points}
use Rattle.point_kit.proofs.PointLaws.{changed_points-same, unchanged_points}
use Rattle.std.specs.FinMap.{empty}
use Rattle.otm_kit.specs.Standing.{IsGatewayOf, Runs, Waits, Goes, StandsFor}
use Rattle.otm_kit.specs.Texts.{begin_text, refusal_line, reply_text}
use Rattle.otm_kit.specs.declared.begin.BeginFault.{BeginFault}
use Rattle.otm_kit.specs.Places.{Knows}
use Rattle.otm_kit.specs.declared.gateway_ids.GatewayIds.{GatewayIds}
use Rattle.otm_kit.specs.declared.running.Running.{Running}
use Rattle.otm_kit.proofs.Lines.{no_line, a_begin, a_command, a_query, declares_more, declares_none, begun_more, begun_now, commands_more, commands_nothing, commands_declare, commands_begin, commands_ask}

-- what happened by one command more
pub deeds_of_commands_more : (d : Declared) (cs : List Command) (c : Command) (e : Event) → event_of d c ≡ Ok e → deeds_of_commands d (cs ++ c ∷ []) ≡ after (setup_of d) (deeds_of_commands d cs) e
unfolding deeds_of_commands
deeds_of_commands_more d cs c e is = rw (filter_map-append, is, fold_push) refl

pub runs_more : (d : Declared) (cs : List Command) (c : Command) (e : Event) (reply : Reply) (old new : Running) → event_of d c ≡ Ok e → Runs d cs old → Acts e old.world reply new.world
    → new.instruments ≡ old.instruments → new.writers ≡ old.writers → new.gateways ≡ old.gateways → Runs d (cs ++ c ∷ []) new
runs_more d cs c e reply old new is r acts i w g = record {
  instruments = i ∙ r.instruments;
  writers = w ∙ r.writers;
  gateways = subst (λ (k : GatewayIds). Knows d.gateways k.places) (sym g) r.gateways;
  world = subst (λ (ds : Deeds). Stands (setup_of d) ds new.world) (sym (deeds_of_commands_more d cs c e is)) (acts.stands (setup_of d) (deeds_of_commands d cs) r.world);
}

pub told_event : (d : Declared) (cs : List Command) (c : Command) (e : Event) (reply : Reply) (old new : WorldState) → event_of d c ≡ Ok e → Stands (setup_of d) (deeds_of_commands d cs) old → Acts e old reply new
    → told_of d cs c ≡ Ok (reply_text reply)
told_event d cs c e reply old new is stands acts = rw is (sym (ap (λ r. Ok (reply_text r)) (acts.reply (setup_of d) (deeds_of_commands d cs) stands)))

as_lines : (d d' : Declared) (cs cs' : List Command) (r : Running) → d' ≡ d → cs' ≡ cs → Runs d cs r → Runs d' cs' r
as_lines d d' cs cs' r a b runs = subst (λ (x : Declared). Runs x cs' r) (sym a) (subst (λ (x : List Command). Runs d x r) (sym b) runs)

-- a line that changes nothing
stays : (lines : List Line) (x : Line) (draft : Declared) (running : Option Running) → declared_by (lines ++ x ∷ []) ≡ declared_by lines → has_begun (lines ++ x ∷ []) ≡ has_begun lines → commands (lines ++ x ∷ []) ≡ commands lines
    → StandsFor lines draft running → StandsFor (lines ++ x ∷ []) draft running
stays lines x draft None a b c w = record { begun = b ∙ w.begun; is = w.is ∙ sym a; idle = c ∙ w.idle }
stays lines x draft (Some r) a b c g = record { begun = b ∙ g.begun; runs = as_lines (declared_by lines) _ (commands lines) _ r a c g.runs }

pub stays_at_nothing : (lines : List Line) (draft : Declared) (running : Option Running) → StandsFor lines draft running → StandsFor (lines ++ line.Nothing ∷ []) draft running
stays_at_nothing lines draft running = stays lines line.Nothing draft running (declares_none lines line.Nothing no_line) (begun_more lines line.Nothing refl) (commands_nothing lines)

pub stays_at_query : (lines : List Line) (q : Query) (draft : Declared) (running : Option Running) → StandsFor lines draft running → StandsFor (lines ++ line.Ask q ∷ []) draft running
stays_at_query lines q draft running = stays lines (line.Ask q) draft running (declares_none lines (line.Ask q) (a_query q)) (begun_more lines (line.Ask q) refl) (commands_ask lines q)

pub begun_at : (lines : List Line) (draft : Declared) (running : Option Running) → is_some running ≡ true → StandsFor lines draft running → has_begun lines ≡ true
begun_at lines draft None e w = absurd (true≢false (sym e))
begun_at lines draft (Some r) e g = g.begun

pub waits_at : (lines : List Line) (draft : Declared) (running : Option Running) → is_some running ≡ false → StandsFor lines draft running → Waits lines draft
waits_at lines draft None e w = w
waits_at lines draft (Some r) e g = absurd (true≢false e)

pub at_wait : (lines : List Line) (draft : Declared) (running : Option Running) → is_some running ≡ false → Waits lines draft → StandsFor lines draft running
at_wait lines draft None e w = w
at_wait lines draft (Some r) e w = absurd (true≢false e)

was_true : (b : Bool) → false ≡ not b → b ≡ true
was_true true e = refl
was_true false e = absurd (true≢false (sym e))

was_false : (b : Bool) → true ≡ not b → b ≡ false
was_false true e = absurd (true≢false e)
was_false false e = refl

-- a declaration
pub declare_late : (lines : List Line) (x : Declaration) (text : List ℕ) → text ≡ [] → has_begun lines ≡ true → bad text reason.Late ≡ effect_of lines (line.Declare x)
unfolding effect_of
declare_late lines x text none begun = rw (none, begun) refl

pub declare_bad : (lines : List Line) (x : Declaration) (draft : Declared) (text : List ℕ) → text ≡ [] → Waits lines draft → false ≡ not (is_taken draft x) → bad text (reason.Taken (named_at x)) ≡ effect_of lines (line.Declare x)
unfolding effect_of
declare_bad lines x draft text none w e =
    let taken : is_taken (declared_by lines) x ≡ true = ap (λ d. is_taken d x) (sym w.is) ∙ was_true (is_taken draft x) e in
    rw (none, w.begun, taken) refl

pub declare_done : (lines : List Line) (x : Declaration) (draft : Declared) (text : List ℕ) → text ≡ [] → Waits lines draft → true ≡ not (is_taken draft x) → done text ≡ effect_of lines (line.Declare x)
unfolding effect_of
declare_done lines x draft text none w e =
    let taken : is_taken (declared_by lines) x ≡ false = ap (λ d. is_taken d x) (sym w.is) ∙ was_false (is_taken draft x) e in
    rw (none, w.begun, taken) refl

pub waits_more : (lines : List Line) (x : Declaration) (draft new : Declared) → Waits lines draft → new ≡ with_declaration draft x → Waits (lines ++ line.Declare x ∷ []) new
waits_more lines x draft new w e = record {
  begun = begun_more lines (line.Declare x) refl ∙ w.begun;
  is = e ∙ ap (λ d. with_declaration d x) w.is ∙ sym (declares_more lines x);
  idle = commands_declare lines x ∙ w.idle;
}

-- a beginning
pub begin_late : (lines : List Line) (text : List ℕ) → text ≡ [] → has_begun lines ≡ true → bad text reason.Late ≡ effect_of lines line.Begin
unfolding effect_of
begin_late lines text none begun = rw (none, begun) refl

pub begin_done : (lines : List Line) (draft : Declared) (text : List ℕ) → text ≡ [] → Waits lines draft → begin_fault draft ≡ None → done text ≡ effect_of lines line.Begin
unfolding effect_of
begin_done lines draft text none w e =
    let sound : begin_fault (declared_by lines) ≡ None = ap begin_fault (sym w.is) ∙ e in
    rw (none, w.begun, sound) refl

pub begin_bad : (lines : List Line) (draft : Declared) (fault : BeginFault) (text : List ℕ) → text ≡ refusal_line (begin_text fault) → Waits lines draft → begin_fault draft ≡ Some fault → bad text reason.Refused ≡ effect_of lines line.Begin
unfolding effect_of
begin_bad lines draft fault text tells w e =
    let unsound : begin_fault (declared_by lines) ≡ Some fault = ap begin_fault (sym w.is) ∙ e in
    rw (tells, w.begun, unsound) refl

pub goes_first : (lines : List Line) (draft : Declared) (r : Running) → Waits lines draft → Runs draft [] r → Goes (lines ++ line.Begin ∷ []) r
goes_first lines draft r w runs = record {
  begun = begun_now lines;
  runs = as_lines draft _ [] _ r (declares_none lines line.Begin a_begin ∙ sym w.is) (commands_begin lines ∙ w.idle) runs;
}

-- a command or a query
pub once_early : (lines : List Line) (text : List ℕ) (told : Result (List ℕ) Reason) → text ≡ [] → has_begun lines ≡ false → bad text reason.Early ≡ once_begun lines told
once_early lines text told none e = rw (none, e) refl

pub once_done : (lines : List Line) (text : List ℕ) (told : Result (List ℕ) Reason) → has_begun lines ≡ true → told ≡ Ok text → done text ≡ once_begun lines told
once_done lines text told e is = rw (e, is) refl

pub once_bad : (lines : List Line) (text : List ℕ) (why : Reason) (told : Result (List ℕ) Reason) → has_begun lines ≡ true → text ≡ [] → told ≡ Err why → bad text why ≡ once_begun lines told
once_bad lines text why told e none is = rw (none, e, is) refl

pub goes_more : (lines : List Line) (c : Command) (old new : Running) → Goes lines old → Runs (declared_by lines) (commands lines ++ c ∷ []) new → Goes (lines ++ line.Do c ∷ []) new
goes_more lines c old new g runs = record {
  begun = begun_more lines (line.Do c) refl ∙ g.begun;
  runs = as_lines (declared_by lines) _ (commands lines ++ c ∷ []) _ new (declares_none lines (line.Do c) (a_command c)) (commands_more lines c) runs;
}

-- whether two gateways hold the same
pub same_yes : (b : Bool) (p q : Points) (text : List ℕ) → (IsTrue b ↔ (p ≡ q)) → b ≡ true → text ≡ codes "same yes" ++ 10 ∷ [] → text ≡ same_text p q
unfolding same_text
same_yes b p q text h e is =
    let alike : p ≡ q = h.0 e in
    let none : changed_points p q ≡ 0 = subst (λ (x : Points). changed_points p x ≡ 0) alike (changed_points-same p) in
    is ∙ (rw none refl)

pub same_no : (b : Bool) (p q : Points) (text : List ℕ) → (IsTrue b ↔ (p ≡ q)) → b ≡ false → text ≡ codes "same no" ++ 10 ∷ [] → text ≡ same_text p q
unfolding same_text
same_no b p q text h e is =
    is ∙ (elim (changed_points p q == 0) as (λ t. (changed_points p q == 0) ≡ t → codes "same no" ++ 10 ∷ [] ≡ (if t then codes "same yes" ++ 10 ∷ [] else codes "same no" ++ 10 ∷ [])) [
      | true ↦ λ z. absurd (true≢false (sym (h.1 (unchanged_points p q (eqb-true (changed_points p q) 0 z))) ∙ e))
      | false ↦ λ z. refl
    ] refl)

no_node : NodeModel
no_node = record { gateway = record { id = 0; points = empty; numbers = empty }; change = 0; acked = empty }

-- the place of a gateway is one
pub gateway_there : (d : Declared) (cs : List Command) (r : Running) (id place : ℕ) → Runs d cs r → gateway_place d.gateways id ≡ Some place → slice_get r.world.nodes place ≡ None → ⊥
unfolding gateway_place setup_of
gateway_there d cs r id place runs is none =
    let inside = (position-Some (λ k. id == k) d.gateways place 0 is).0 in
    let few : length r.world.nodes ≡ length d.gateways = runs.world.nodes.count in
    let got : slice_get r.world.nodes place ≡ Some _ = slice_get-get_or r.world.nodes place no_node (omega (arith, few, inside)) in
    cc

pub gateway_here : (d : Declared) (cs : List Command) (r : Running) (id place : ℕ) (node : NodeModel) → Runs d cs r → gateway_place d.gateways id ≡ Some place → slice_get r.world.nodes place ≡ Some node → IsGatewayOf d cs id node.gateway.points
gateway_here d cs r id place node runs is got = record { place = place; is = is; points_are = runs.world.nodes.points place node got }

-- answers of queries about one gateway
pub conflicts_none : (d : Declared) (cs : List Command) (id : ℕ) → gateway_place d.gateways id ≡ None → answer_of d cs (query.Conflicts id) ≡ Err (reason.NoGateway 1)
unfolding answer_of
conflicts_none d cs id e = rw e refl

pub conflicts_some : (d : Declared) (cs : List Command) (id : ℕ) (points : Points) (text : List ℕ) → IsGatewayOf d cs id points → text ≡ conflicts_text points → answer_of d cs (query.Conflicts id) ≡ Ok text
unfolding answer_of
conflicts_some d cs id points text g e = rw g.is (sym (ap (λ t. Ok t) (e ∙ ap conflicts_text g.points_are)))

pub report_none : (d : Declared) (cs : List Command) (id : ℕ) (r : Report) → gateway_place d.gateways id ≡ None → answer_of d cs (query.Report id r) ≡ Err (reason.NoGateway 1)
unfolding answer_of
report_none d cs id r e = rw e refl

pub report_some : (d : Declared) (cs : List Command) (id : ℕ) (r : Report) (points : Points) (text : List ℕ) → IsGatewayOf d cs id points → text ≡ table_text (rollup_rows (ask_of r) points) → answer_of d cs (query.Report id r) ≡ Ok text
unfolding answer_of
report_some d cs id r points text g e = rw g.is (sym (ap (λ t. Ok t) (e ∙ ap (λ p. table_text (rollup_rows (ask_of r) p)) g.points_are)))

pub same_first : (d : Declared) (cs : List Command) (one other : ℕ) → gateway_place d.gateways one ≡ None → answer_of d cs (query.Same one other) ≡ Err (reason.NoGateway 1)
unfolding answer_of
same_first d cs one other e = rw e refl

pub same_second : (d : Declared) (cs : List Command) (one other : ℕ) (points : Points) → IsGatewayOf d cs one points → gateway_place d.gateways other ≡ None → answer_of d cs (query.Same one other) ≡ Err (reason.NoGateway 2)
unfolding answer_of
same_second d cs one other points g e = rw (g.is, e) refl

pub same_some : (d : Declared) (cs : List Command) (one other : ℕ) (p q : Points) (text : List ℕ) → IsGatewayOf d cs one p → IsGatewayOf d cs other q → text ≡ same_text p q → answer_of d cs (query.Same one other) ≡ Ok text
unfolding answer_of
same_some d cs one other p q text g h e = rw (g.is, h.is) (sym (ap (λ t. Ok t) (e ∙ (λ i. same_text (g.points_are i) (h.points_are i)))))

pub newest_first : (d : Declared) (cs : List Command) (id : ℕ) (label : List ℕ) (start : ℕ) → gateway_place d.gateways id ≡ None → answer_of d cs (query.Newest id label start) ≡ Err (reason.NoGateway 1)
unfolding answer_of
newest_first d cs id label start e = rw e refl

some_inj : {A : Type 0} {x y : A} → Some x ≡ Some y → x ≡ y
some_inj {A} {x} {y} e = ap (λ (o : Option A). unwrap_or o x) e

no_some : {A : Type 0} {x : A} → None ≡ Some x → ⊥
no_some e = true≢false (sym (ap is_some e))

-- how many writers a script that has begun has
writers_count : (d : Declared) (cs : List Command) (r : Running) → Runs d cs r → length r.world.writers ≡ length d.writers
unfolding setup_of
writers_count d cs r runs = runs.world.writers.count ∙ length-map d.writers (with_plan (plan_of d.instruments d.views (limit_of d)))

no_identity : (d : Declared) (label : List ℕ) → label_place d.writer_labels label ≡ None → identity_of d label ≡ None
unfolding identity_of
no_identity d label e = rw e refl

lost_identity : (d : Declared) (label : List ℕ) (place : ℕ) → label_place d.writer_labels label ≡ Some place → slice_get d.writers place ≡ None → identity_of d label ≡ None
unfolding identity_of
lost_identity d label place e none = rw (e, none) refl

some_identity : (d : Declared) (label : List ℕ) (place : ℕ) (w : WriterId × ℕ) → label_place d.writer_labels label ≡ Some place → slice_get d.writers place ≡ Some w → identity_of d label ≡ Some w.0
unfolding identity_of
some_identity d label place w e is = rw (e, is) refl

none_past : {A : Type 0} (xs : List A) (i : ℕ) → slice_get xs i ≡ None → length xs ≤ i
none_past xs i e = elim (slice_get_cases xs i).1 [
  | (inl here) ↦ absurd (no_some (sym e ∙ here.2))
  | (inr past) ↦ past.0
]

pub newest_second : (d : Declared) (cs : List Command) (r : Running) (id : ℕ) (label : List ℕ) (start : ℕ) (points : Points) → Runs d cs r → IsGatewayOf d cs id points → label_place r.writers label ≡ None → answer_of d cs (query.Newest id label start) ≡ Err (reason.NoWriter 2)
unfolding answer_of
newest_second d cs r id label start points runs g e =
    let none : identity_of d label ≡ None = no_identity d label (ap (λ ls. label_place ls label) (sym runs.writers) ∙ e) in
    rw (g.is, none) refl

pub newest_third : (d : Declared) (cs : List Command) (r : Running) (id : ℕ) (label : List ℕ) (start place : ℕ) (points : Points) → Runs d cs r → IsGatewayOf d cs id points → label_place r.writers label ≡ Some place → slice_get r.world.writers place ≡ None → answer_of d cs (query.Newest id label start) ≡ Err (reason.NoWriter 2)
unfolding answer_of
newest_third d cs r id label start place points runs g is e =
    let past = none_past r.world.writers place e in
    let count = writers_count d cs r runs in
    let none : identity_of d label ≡ None = lost_identity d label place (ap (λ ls. label_place ls label) (sym runs.writers) ∙ is) (slice_get_past d.writers place (omega (arith, past, count))) in
    rw (g.is, none) refl

identity_at : (d : Declared) (place : ℕ) (w : WriterId × ℕ) → place < length d.writers → slice_get d.writers place ≡ Some w → (writer_at (setup_of d) place).id ≡ w.0
unfolding setup_of
identity_at d place w h is =
    let f = with_plan (plan_of d.instruments d.views (limit_of d)) in
    let at : w ≡ get_or d.writers place w = some_inj (sym is ∙ slice_get-get_or d.writers place w h) in
    ap (λ (s : WriterSetup). s.id) (get_or-map f d.writers place w no_writer h) ∙ ap (λ (x : WriterId × ℕ). x.0) (sym at)

pub newest_some : (d : Declared) (cs : List Command) (r : Running) (id : ℕ) (label : List ℕ) (start place : ℕ) (writer : Written) (points : Points) (text : List ℕ) → Runs d cs r → IsGatewayOf d cs id points → label_place r.writers label ≡ Some place
    → slice_get r.world.writers place ≡ Some writer → text ≡ newest_text (newest_time writer.id start points) → answer_of d cs (query.Newest id label start) ≡ Ok text
unfolding answer_of
newest_some d cs r id label start place writer points text runs g is got e =
    let within = slice_get_within r.world.writers place writer got in
    let count = writers_count d cs r runs in
    let inside : place < length d.writers = omega (arith, within, count) in
    let w = get_or d.writers place ((record { service = []; instance = [] }), 0) in
    let there : slice_get d.writers place ≡ Some w = slice_get-get_or d.writers place _ inside in
    let who : writer.id ≡ w.0 = (runs.world.writers.each place writer got).id ∙ identity_at d place w inside there in
    let here : identity_of d label ≡ Some w.0 = some_identity d label place w (ap (λ ls. label_place ls label) (sym runs.writers) ∙ is) there in
    rw (g.is, here) (sym (ap (λ t. Ok t) (e ∙ (λ i. newest_text (newest_time (who i) start (g.points_are i))))))

-- lines that come too early, and those that are done
pub nothing_done : (lines : List Line) (text : List ℕ) → text ≡ [] → done text ≡ effect_of lines line.Nothing
unfolding effect_of
nothing_done lines text e = ap done e

pub do_early : (lines : List Line) (c : Command) (text : List ℕ) → text ≡ [] → has_begun lines ≡ false → bad text reason.Early ≡ effect_of lines (line.Do c)
unfolding effect_of
do_early lines c text none e = once_early lines text _ none e

pub do_done : (lines : List Line) (c : Command) (text : List ℕ) → has_begun lines ≡ true → told_of (declared_by lines) (commands lines) c ≡ Ok text → done text ≡ effect_of lines (line.Do c)
unfolding effect_of
do_done lines c text e told = once_done lines text _ e told

pub do_bad : (lines : List Line) (c : Command) (text : List ℕ) (why : Reason) → has_begun lines ≡ true → text ≡ [] → told_of (declared_by lines) (commands lines) c ≡ Err why → bad text why ≡ effect_of lines (line.Do c)
unfolding effect_of
do_bad lines c text why e none told = once_bad lines text why _ e none told

pub ask_early : (lines : List Line) (q : Query) (text : List ℕ) → text ≡ [] → has_begun lines ≡ false → bad text reason.Early ≡ effect_of lines (line.Ask q)
unfolding effect_of
ask_early lines q text none e = once_early lines text _ none e

pub ask_done : (lines : List Line) (q : Query) (text : List ℕ) → has_begun lines ≡ true → answer_of (declared_by lines) (commands lines) q ≡ Ok text → done text ≡ effect_of lines (line.Ask q)
unfolding effect_of
ask_done lines q text e told = once_done lines text _ e told

pub ask_bad : (lines : List Line) (q : Query) (text : List ℕ) (why : Reason) → has_begun lines ≡ true → text ≡ [] → answer_of (declared_by lines) (commands lines) q ≡ Err why → bad text why ≡ effect_of lines (line.Ask q)
unfolding effect_of
ask_bad lines q text why e none told = once_bad lines text why _ e none told
