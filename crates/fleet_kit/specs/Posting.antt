-- What stands in the channel of a gateway's thread: places of exports.
use Rattle.std.specs.Prelude.{◌≡◌, ◌⊎◌, ◌<◌, ℕ, List, [], ◌∷◌, ◌++◌, slice_get, Option, None, Some}
use Rattle.point_kit.specs.declared.export.Export.{Export}
use Rattle.rollup_kit.specs.Fleets.{AreCovered}
use Rattle.schedule_kit.specs.Members.{In}
use Rattle.fleet_kit.specs.Halts.{HasPoints}
use Rattle.fleet_kit.specs.declared.posts.Traffic.{Traffic}

-- these places were sent, and those received
abbrev pub traffic_of : List ℕ → List ℕ → Traffic
traffic_of sent got = record { sent = sent; got = got }

-- one more place is sent, or received
abbrev pub and_sent : Traffic → ℕ → Traffic
and_sent v place = traffic_of (v.sent ++ place ∷ []) v.got

abbrev pub and_got : Traffic → ℕ → Traffic
and_got v place = traffic_of v.sent (v.got ++ place ∷ [])

-- the one pass knows that what was sent is what was received, and then what the channel holds
abbrev pub Flows : List ℕ → List Traffic → Type 0
Flows places passes = (got : List ℕ) × (passes ≡ traffic_of (got ++ places) got ∷ [])

-- the place of the first export with points that was not sent, where there is one
abbrev pub IsUnsent : List Export → List ℕ → Option ℕ → Type 0
IsUnsent exports sent None = AreCovered exports sent
IsUnsent exports sent (Some u) = HasPoints exports u × (In u sent → ⊥) × ((w : ℕ) (e : Export) → w < u → slice_get exports w ≡ Some e → In w sent ⊎ (e.points ≡ []))

-- nothing was received yet, and all exports with points were sent but for the one that is unsent and later ones
abbrev pub IsPosted : List Export → Traffic → Option ℕ → Type 0
IsPosted exports v unsent = (v.got ≡ []) × IsUnsent exports v.sent unsent
