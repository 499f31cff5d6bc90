use Rattle.std.proofs.Common.{◌≡◌, ℕ, List, Bor, map, take}
use Rattle.std.specs.BTreeMap as tree
use Rattle.std.specs.List.{position_from}
use Rattle.attr_kit.specs.Orders.{text_cmp}
use Rattle.otlp_kit.specs.Walks.{first_place}
use Rattle.otlp_kit.proofs.FirstPlaces.{is_text}
use Rattle.otlp_kit.proofs.first_places.first_places.Given as goal

abbrev pub invariant-loop-place : goal.invariant-loop-place
invariant-loop-place l = record {
  places : l.places.items ≡ map (first_place l.texts) (take l.place l.texts);
  seen : (q : Bor (List ℕ)) → tree.get (λ j k. text_cmp j.now k.now) l.seen q ≡ position_from (is_text q.now) 0 (take l.place l.texts);
}
