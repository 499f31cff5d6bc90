use Rattle.std.proofs.Common.{arith, ◌≡◌, ◌++◌, ◌∷◌, [], Some, None, sym, ap, ◌∙◌, subst}
use Rattle.std.specs.BTreeMap.{ContainsKey, get, get_key}
use Rattle.std.specs.BTreeMap.Entry.{MatchEntry, entry_key, entry_value}
use Rattle.page_kit.specs.Views.{lists}
use Rattle.page_kit.proofs.Grouped.{put_found, put_new}
use Rattle.page_kit.proofs.groups.put.Goals as goal

pub returns-in_ok-push-in-Occupied : goal.returns-in_ok-push-in-Occupied
returns-in_ok-push-in-Occupied g c =
    let entries = ap lists (c.in_ok-entry.ensures.update.1 c.push.new.self) in
    let found = put_found g.met.K.Ord.total (λ v. v.items) c.args.key c.args.value c.into_mut.result.now c.push.new.self c.args.groups.now.entries c.in_ok-entry.ensures.ordered
    (sym c.in_ok-entry.ensures.value ∙ ap entry_value c.in-Occupied.is ∙ c.into_mut.ensures.value) c.in_ok-push-in-Occupied.ensures.items in
    grind (arith, entries, found)

pub returns-in_ok-push-in-Vacant : goal.returns-in_ok-push-in-Vacant
returns-in_ok-push-in-Vacant g c =
    let entries = ap lists (c.in_ok-entry.ensures.update.1 c.insert.result.now) in
    let is_absent = get g.K.Ord.cmp c.args.groups.now c.args.key ≡ None in
    let none : is_absent = subst (λ e. MatchEntry e (ContainsKey g.K.Ord.cmp c.args.groups.now c.args.key × (get_key g.K.Ord.cmp c.args.groups.now c.args.key ≡ Some (entry_key e))) is_absent)
    c.in-Vacant.is c.in_ok-entry.ensures.found in
    let new = put_new g.met.K.Ord.total (λ v. v.items) c.args.key c.args.value c.insert.result.now c.args.groups.now.entries none
    (ap (λ v. v.items) c.insert.ensures.value ∙ c.in_ok-push-in-Vacant.ensures.items ∙ ap (λ l. l ++ c.args.value ∷ []) c.in_ok-values-in-Vacant.ensures.items) in
    grind (arith, entries, new)
