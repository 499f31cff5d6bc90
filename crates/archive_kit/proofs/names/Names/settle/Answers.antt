use Rattle.std.proofs.Common.{◌≡◌, ◌≤◌, [], length, IsOk, ap, sym, subst, ◌∙◌}
use Rattle.indexmap.specs.IndexSet.{insert_all, spare}
use Rattle.archive_kit.specs.Named.{AreOf, NameList, has_either, has_name, mark_names}
use Rattle.archive_kit.specs.contracts.names.MarkPartialEq.TheImpl as equal
use Rattle.archive_kit.proofs.Naming.{all_inserted, marks_long, now_there, of_all}
use Rattle.archive_kit.proofs.names.Names.settle.Goals as goal

pub invariant_of-self : goal.invariant_of-self
invariant_of-self c =
    let i = c.self.inside in
    let room : length (mark_names i.services.keys i.fresh.keys) ≤ spare i.marks = subst (λ (n : NameList). length n.fresh ≤ n.room) (sym c.self.view_is) c.requires.room in
    let fits : IsOk c.append.result = c.append.ensures.succeeds (subst (λ n. n ≤ spare i.marks) (marks_long i.services.keys i.fresh.keys) room) in
    let there = now_there c.append.result i.marks.keys i.fresh.keys c.append.new.self.keys c.append.new.other.keys fits c.append.ensures.keys c.append.ensures.emptied in
    record {
      apart = c.self.invariant.apart;
      marked = subst (AreOf i.services.keys) (sym there.0) (of_all i.services.keys i.marks.keys i.fresh.keys c.self.invariant.marked c.self.invariant.noted);
      noted = subst (AreOf i.services.keys) (sym there.1) tt;
    }

pub returns : goal.returns
returns c =
    let i = c.self.inside in
    let room : length (mark_names i.services.keys i.fresh.keys) ≤ spare i.marks = subst (λ (n : NameList). length n.fresh ≤ n.room) (sym c.self.view_is) c.requires.room in
    let fits : IsOk c.append.result = c.append.ensures.succeeds (subst (λ n. n ≤ spare i.marks) (marks_long i.services.keys i.fresh.keys) room) in
    let there = now_there c.append.result i.marks.keys i.fresh.keys c.append.new.self.keys c.append.new.other.keys fits c.append.ensures.keys c.append.ensures.emptied in
    record {
      names = λ w s.
          ap (λ l. has_name l w s) c.drop_noted.ensures.names
          ∙ ap (λ l. has_name (mark_names i.services.keys l) w s) there.0
          ∙ all_inserted i.services.keys w s i.marks.keys i.fresh.keys
          ∙ ap (λ (n : NameList). has_either n w s) c.self.view_is;
    }
