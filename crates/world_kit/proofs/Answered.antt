-- What a query answers of a gateway of a world, where no two writers share an identity.
use Rattle.std.proofs.Common.{ap, ◌∙◌}
use Rattle.rollup_kit.proofs.Recordings.{rollup_recorded}
use Rattle.rollup_kit.specs.Rollups.{rollup_rows}
use Rattle.schedule_kit.specs.Deeds.Holder.{AtGateway}
use Rattle.rollup_kit.proofs.NamedValues.{are_fed}
use Rattle.rollup_kit.proofs.Naming.{rounding_sound}
use Rattle.world_kit.proofs.Bridging.{its}
use Rattle.world_kit.specs.Answering.{AnswersRecorded, entries_fed, recorded}
use Rattle.world_kit.specs.declared.setup.Setup.{Setup}
use Rattle.world_kit.specs.Exact.{AreTold}
use Rattle.world_kit.specs.WorldState.{WorldState}
use Rattle.world_kit.specs.Judged.{Deeds, fits_at}
use Rattle.world_kit.specs.Recording.{rounding}
use Rattle.world_kit.specs.Setups.{starts_of, gateways_of, writers_of}
use Rattle.world_kit.specs.Stands.{Stands}

-- what is answered is what was recorded
pub answers : (s : Setup) (ds : Deeds) (w : WorldState) → Stands s ds w → AreTold s → AnswersRecorded s ds w
unfolding recorded
answers s ds w st told g n at ask adds =
    ap (rollup_rows ask) (its s ds w st told g n at)
    ∙ rollup_recorded ask adds (rounding s) (rounding_sound (writers_of s) st.plans) (fits_at s) (starts_of s) (gateways_of s) told ds st.lawful (AtGateway g) (entries_fed s) (are_fed (writers_of s) st.plans ask)
