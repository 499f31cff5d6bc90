use Rattle.uses.proofs.holding.record_two_by_places.Goals as goal

pub measure_at-requires-2 : goal.measure_at-requires-2
measure_at-requires-2 c = c.measure_at.ensures.places
