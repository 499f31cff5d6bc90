use Rattle.std.proofs.Common.{◌≡◌, ◌<◌, ◌≤◌, ℕ, true, List, [], ◌∷◌, ◌++◌, Err, get_or, length, sym, ap, subst, arith, rules}
use Rattle.std.specs.List.Sorted.{IsBinarySearchResult}
use Rattle.gateway_kit.specs.Covering.{AreCovered}
use Rattle.gateway_kit.specs.Inserting.{AreSpread}
use Rattle.gateway_kit.specs.Incarnations.{keyed_cells}
use Rattle.gateway_kit.specs.IncarnationState.{IncarnationState}
use Rattle.gateway_kit.specs.Keys.{IncarnationKey, incarnation_cmp}
use Rattle.gateway_kit.specs.KeyOrders.{incarnation_total, incarnation_exact}
use Rattle.gateway_kit.specs.Merging.{key_of}
use Rattle.gateway_kit.proofs.Covered.{insert_covered}
use Rattle.gateway_kit.proofs.Entries.{as_T}
use Rattle.gateway_kit.proofs.Inserted.{parts_told, spread_push}
use Rattle.gateway_kit.proofs.Places.{does_not_fall, placed}
use Rattle.gateway_kit.proofs.merging.put_one.Goals as goal

pub returns-clause-ok : goal.returns-clause-ok
returns-clause-ok c =
    let x = c.args.incarnation in
    let olds = c.args.incarnations.now.items in
    let ps = c.args.places.now.items in
    let place = c.in-Err.place in
    let q = key_of x in
    let key : IncarnationKey = (c.incarnation.inside.writer, c.incarnation.inside.start) in
    let same : key ≡ q = ap (λ (p : IncarnationState). key_of p) c.incarnation.view_is in
    let position : IsBinarySearchResult (λ (y : IncarnationState). incarnation_cmp (keyed_cells y).0 q) olds (Err place) = subst (λ (k : IncarnationKey). IsBinarySearchResult (λ (y : IncarnationState). incarnation_cmp (keyed_cells y).0 k) olds (Err place)) same c.in-Err.ensures.position in
    let parts = position (does_not_fall incarnation_total incarnation_exact keyed_cells q olds (as_T c.requires.sorted)) in
    let within : place ≤ length olds = c.in-Err.ensures.bound in
    let yes : c.is_behind.result ≡ true = search rules in
    let note : c.push.new.self.items ≡ ps ++ place ∷ [] = search rules in
    record {
      place = place;
      told = note;
      put = c.in_ok-insert.ensures.ok;
      gap = placed incarnation_total incarnation_exact keyed_cells q olds (as_T c.requires.sorted) (Err place) within position;
      parts = parts_told incarnation_cmp key_of olds place q x within (λ k h. parts.0 k x (omega (arith, h, within)) h) (λ k g h. parts.1 k x g h);
      spread = λ spread. subst AreSpread (sym note) (spread_push ps place spread (λ i e. subst (λ (l : List ℕ). get_or l i 0 < place) c.as_slice.ensures.value (c.is_behind.ensures yes i (let n = ap length c.as_slice.ensures.value in omega (arith, e, n)))));
    }

pub returns-clause-covered : goal.returns-clause-covered
returns-clause-covered c = λ covered.
    let olds = c.args.incarnations.now.items in
    let bounds = c.args.incarnations.now.bounds in
    let within : c.in-Err.place ≤ length olds = c.in-Err.ensures.bound in
    subst (λ (ps : List IncarnationState). AreCovered c.insert.new.self.bounds ps) (sym c.in_ok-insert.ensures.ok)
    (insert_covered bounds c.insert.new.self.bounds olds c.in-Err.place c.most-most.result c.args.incarnation c.in_ok-insert.ensures.bounds c.bounds_match.ensures within c.most-most.ensures covered)
