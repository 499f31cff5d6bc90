use Rattle.std.proofs.Common.{◌≡◌, ℕ, List, [], ◌∷◌, ◌++◌, map, length, sym, ap, subst, ◌∙◌, arith}
use Rattle.std.proofs.lemmas.Iterator.Adapters.{YieldsList-from_vec}
use Rattle.std.proofs.lemmas.Iterator.Consumers.{YieldsList-end}
use Rattle.std.proofs.lemmas.List.{length-map, map-append}
use Rattle.std.specs.FinMap.Entries.{is_sorted, is_sorted-put}
use Rattle.std.specs.List.{insert, sum_by}
use Rattle.shelf_kit.specs.Shelved.{Shelved}
use Rattle.gateway_kit.specs.Inserting.{AllPart, AreSpread, Parts, inserted, taken_out}
use Rattle.gateway_kit.specs.Incarnations.{keyed_cells}
use Rattle.gateway_kit.specs.IncarnationState.{Cells, IncarnationState}
use Rattle.gateway_kit.specs.Keys.{IncarnationKey, incarnation_cmp}
use Rattle.gateway_kit.specs.KeyOrders.{incarnation_total}
use Rattle.gateway_kit.specs.Merging.{key_of}
use Rattle.gateway_kit.specs.Numbers.{IncarnationsMove}
use Rattle.gateway_kit.specs.Tallies.{incarnation_conflicts}
use Rattle.gateway_kit.proofs.AllMoves.{incarnations_woven}
use Rattle.gateway_kit.proofs.Entries.{as_T, as_true}
use Rattle.gateway_kit.proofs.Growing.{map-insert}
use Rattle.gateway_kit.proofs.Inserted.{all_woven, inserted_push, map_inserted, parts_long, parts_push, sum_inserted, taken_inserted}
use Rattle.gateway_kit.proofs.MergeDrafts.{keys_of_incarnations}
use Rattle.gateway_kit.proofs.Recent.{conflicts_alike}
use Rattle.gateway_kit.proofs.Same.{map_itself}
use Rattle.gateway_kit.proofs.merging.put_new.Goals as goal

pub loop-incarnation-init : goal.loop-incarnation-init
loop-incarnation-init c =
    let none = sym c.new-places.ensures.items in
    record {
      sorted = c.requires.sorted;
      parts = subst (λ (l : List ℕ). AllPart incarnation_cmp (map key_of c.args.incarnations.now.items) l []) none tt;
      put = ap (λ (l : List ℕ). inserted c.args.incarnations.now.items l []) none;
      spread = subst AreSpread none (λ j n h. absurd (omega (arith, h)));
      covered = λ covered. covered;
    }

pub loop-incarnation-preserved : goal.loop-incarnation-preserved
loop-incarnation-preserved c =
    let olds = c.args.incarnations.now.items in
    let here = c.loop-incarnation.incarnations.items in
    let x = c.in-Some.incarnation in
    let ps = c.loop-incarnation.places.items in
    let ys = c.loop-incarnation.yielded in
    let one = c.in-Ok.ensures.ok in
    let inv = c.loop-incarnation.invariant in
    let long : length ps ≡ length ys = parts_long incarnation_cmp (map key_of olds) ps (map key_of ys) inv.parts ∙ length-map ys key_of in
    let keys : map key_of here ≡ inserted (map key_of olds) ps (map key_of ys) = ap (map key_of) inv.put ∙ map_inserted key_of olds ps ys in
    record {
      sorted = ap (is_sorted incarnation_cmp) (ap (map keyed_cells) one.put ∙ map-insert keyed_cells here one.place x ∙ one.gap.fits x.cells) ∙ as_true _ (is_sorted-put incarnation_cmp incarnation_total (key_of x) x.cells (map keyed_cells here) (as_T inv.sorted));
      parts = subst (λ (l : List ℕ). AllPart incarnation_cmp (map key_of olds) l (map key_of (ys ++ x ∷ []))) (sym one.told)
          (subst (λ (l : List IncarnationKey). AllPart incarnation_cmp (map key_of olds) (ps ++ one.place ∷ []) l) (sym (map-append key_of ys (x ∷ [])))
          (parts_push incarnation_cmp (map key_of olds) ps (map key_of ys) one.place (key_of x) inv.parts (subst (λ (l : List IncarnationKey). Parts incarnation_cmp l one.place (key_of x)) keys one.parts)));
      put = one.put ∙ ap (λ (l : List IncarnationState). insert l one.place x) inv.put ∙ sym (inserted_push olds ps ys one.place x long) ∙ ap (λ (l : List ℕ). inserted olds l (ys ++ x ∷ [])) (sym one.told);
      spread = one.spread inv.spread;
      covered = λ covered. c.in-Ok.ensures.covered (inv.covered covered);
    }

pub returns-in-Err-clause-unchanged : goal.returns-in-Err-clause-unchanged
returns-in-Err-clause-unchanged c =
    let olds = c.args.incarnations.now.items in
    let ps = c.loop-incarnation.places.items in
    let inv = c.loop-incarnation.invariant in
    let items = ap (λ (s : Shelved IncarnationState). s.items) c.in-Err.ensures.unchanged in
    c.take_out.ensures.items
    ∙ (λ i. taken_out (items i) (c.in-Err.ensures.same i))
    ∙ ap (λ (l : List IncarnationState). taken_out l ps) inv.put
    ∙ taken_inserted incarnation_cmp key_of olds ps c.loop-incarnation.yielded inv.parts

pub returns-clause-ok : goal.returns-clause-ok
returns-clause-ok c =
    let olds = c.args.incarnations.now.items in
    let number = c.args.number in
    let numbered = c.renumber_all.new.values.items in
    let places = c.loop-incarnation.places.items in
    let inv = c.loop-incarnation.invariant in
    let gives = c.into_iter-incarnation-iterator.ensures.into_iter_gives in
    let end = YieldsList-end (YieldsList-from_vec {s = c.into_iter-incarnation-iterator.result} numbered gives.0 (gives.1 ∙ c.renumber_all.new.values.ok.0)) c.loop-incarnation.yielded c.loop-incarnation.incarnation-iterator c.loop-incarnation.yielded_by c.next.result c.next.new.self c.in-None.is c.next.ensures.steps in
    let all : c.loop-incarnation.yielded ≡ numbered = sym (map_itself c.loop-incarnation.yielded) ∙ end.0 in
    let put : c.loop-incarnation.incarnations.items ≡ inserted olds places numbered = inv.put ∙ ap (λ (l : List IncarnationState). inserted olds places l) all in
    let parts : AllPart incarnation_cmp (map key_of olds) places (map key_of numbered) = subst (λ (l : List IncarnationState). AllPart incarnation_cmp (map key_of olds) places (map key_of l)) all inv.parts in
    let alike : map key_of numbered ≡ map key_of c.args.fresh.items = sym (keys_of_incarnations numbered) ∙ ap (map (λ (e : IncarnationKey × Cells). e.0)) c.renumber_all.ensures.same ∙ keys_of_incarnations c.args.fresh.items in
    let rising = ap (is_sorted incarnation_cmp) c.renumber_all.ensures.same ∙ c.requires.fresh_sorted in
    let long : length places ≡ length numbered = parts_long incarnation_cmp (map key_of olds) places (map key_of numbered) parts ∙ length-map numbered key_of in
    let sum = sum_inserted incarnation_conflicts olds places numbered long in
    let told = conflicts_alike c.args.fresh.items numbered c.renumber_all.ensures.same in
    record {
      parts = subst (λ (l : List IncarnationKey). AllPart incarnation_cmp (map key_of olds) places l) alike parts;
      put = ap (map keyed_cells) put ∙ map_inserted keyed_cells olds places numbered ∙ ap (λ (l : List (IncarnationKey × Cells)). inserted (map keyed_cells olds) places l) c.renumber_all.ensures.same;
      spread = inv.spread;
      counted = ap (λ (l : List IncarnationState). sum_by incarnation_conflicts l) put ∙ omega (arith, sum, told);
      moves = subst (λ (l : List IncarnationState). IncarnationsMove number olds l) (sym (put ∙ all_woven incarnation_cmp incarnation_total keyed_cells olds places numbered (as_T rising) parts))
          (incarnations_woven number olds numbered c.requires.sorted rising c.renumber_all.ensures.numbers);
    }
