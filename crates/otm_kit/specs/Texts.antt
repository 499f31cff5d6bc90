-- What is printed of a refusal.
use Rattle.std.specs.Prelude.{ℕ, List, [], ◌∷◌, ◌++◌, codes}
use Rattle.std.specs.Fmt.{decimal}
use Rattle.plan_kit.specs.declared.fault.PlanFault.{PlanFault}
use Rattle.plan_kit.specs.declared.fault.PlanFault.TheVariants as plan
use Rattle.world_kit.specs.declared.event.Reply.{Reply}
use Rattle.world_kit.specs.declared.event.Reply.TheVariants as reply
use Rattle.world_kit.specs.Texts.{refusal_text, setup_text}
use Rattle.otm_kit.specs.declared.begin.BeginFault.{BeginFault}
use Rattle.otm_kit.specs.declared.begin.BeginFault.TheVariants as begin

-- the line of a refusal
unfoldable pub refusal_line : List ℕ → List ℕ
refusal_line why = codes "refused: " ++ why ++ 10 ∷ []

-- an accepted event prints nothing
unfoldable pub reply_text : Reply → List ℕ
reply_text reply.Done = []
reply_text (reply.Made export) = []
reply_text (reply.Changed keys) = []
reply_text (reply.Sent mail) = []
reply_text (reply.Handed mail) = []
reply_text (reply.Refused why) = refusal_line (refusal_text why)

-- the name of a plan's fault, with its places in parentheses
abbrev pub plan_text : PlanFault → List ℕ
plan_text (plan.BadName i) = codes "BadName(" ++ decimal i ++ codes ")"
plan_text (plan.BadUnit i) = codes "BadUnit(" ++ decimal i ++ codes ")"
plan_text (plan.BadBounds v) = codes "BadBounds(" ++ decimal v ++ codes ")"
plan_text (plan.BadRename v) = codes "BadRename(" ++ decimal v ++ codes ")"
plan_text (plan.WildcardRename v) = codes "WildcardRename(" ++ decimal v ++ codes ")"
plan_text (plan.BadAggregation i v) = codes "BadAggregation(" ++ decimal i ++ codes ", " ++ decimal v ++ codes ")"
plan_text (plan.SameStream i j) = codes "SameStream(" ++ decimal i ++ codes ", " ++ decimal j ++ codes ")"
plan_text plan.BadLimit = codes "BadLimit"
plan_text plan.NoMemory = codes "NoMemory"

-- why a script does not begin
abbrev pub begin_text : BeginFault → List ℕ
begin_text (begin.Plan fault) = plan_text fault
begin_text (begin.World fault) = setup_text fault
begin_text begin.NoMemory = codes "NoMemory"
