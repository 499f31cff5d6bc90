use Rattle.std.proofs.Common.{◌≡◌, true, map}
use Rattle.std.specs.FinMap.Entries.{is_sorted}
use Rattle.gateway_kit.specs.Covering.{AreCovered}
use Rattle.gateway_kit.specs.Inserting.{AllPart, AreSpread, inserted}
use Rattle.gateway_kit.specs.Keys.{incarnation_cmp}
use Rattle.gateway_kit.specs.Merging.{key_of}
use Rattle.gateway_kit.specs.Incarnations.{keyed_cells}
use Rattle.gateway_kit.proofs.merging.put_new.Given as goal

-- those so far were put in
abbrev pub invariant-loop-incarnation : goal.invariant-loop-incarnation
invariant-loop-incarnation l = record {
  sorted : is_sorted incarnation_cmp (map keyed_cells l.incarnations.items) ≡ true;
  parts : AllPart incarnation_cmp (map key_of l.fn.incarnations.items) l.places.items (map key_of l.yielded);
  put : l.incarnations.items ≡ inserted l.fn.incarnations.items l.places.items l.yielded;
  spread : AreSpread l.places.items;
  covered : AreCovered l.fn.incarnations.bounds l.fn.incarnations.items → AreCovered l.incarnations.bounds l.incarnations.items;
}
