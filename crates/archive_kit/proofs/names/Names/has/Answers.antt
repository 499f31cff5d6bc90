use Rattle.std.proofs.Common.{ap, sym, ◌∙◌}
use Rattle.archive_kit.specs.Named.{NameList, has_name}
use Rattle.archive_kit.proofs.Naming.{absent, found}
use Rattle.archive_kit.proofs.names.Names.has.Goals as goal

pub returns-in-Some : goal.returns-in-Some
returns-in-Some c =
    let i = c.self.inside in
    c.contains.ensures
    ∙ found i.services.keys c.self.invariant.apart c.args.writer.now c.args.start c.in-Some.mark c.in-Some.ensures.some i.marks.keys c.self.invariant.marked
    ∙ ap (λ (n : NameList). has_name n.names c.args.writer.now c.args.start) c.self.view_is

pub returns-in-None : goal.returns-in-None
returns-in-None c =
    let i = c.self.inside in
    sym (absent i.services.keys c.self.invariant.apart c.args.writer.now c.args.start c.in-None.ensures.none i.marks.keys c.self.invariant.marked)
    ∙ ap (λ (n : NameList). has_name n.names c.args.writer.now c.args.start) c.self.view_is
