use Rattle.std.proofs.Common.{◌≡◌, true, false, ap, ◌∙◌, rules}
use Rattle.archive_kit.specs.Named.{NameList, has_either, has_name, mark_names}
use Rattle.archive_kit.proofs.Naming.{absent, among_first, among_none, among_second, found}
use Rattle.archive_kit.proofs.names.Names.has_either.Goals as goal

pub returns-then-contains : goal.returns-then-contains
returns-then-contains c =
    let i = c.self.inside in
    let w = c.args.writer.now in
    let s = c.args.start in
    let yes : c.contains.result ≡ true = search rules in
    among_first c.contains.result (has_name (mark_names i.services.keys i.marks.keys) w s) (has_name (mark_names i.services.keys i.fresh.keys) w s)
    (c.contains.ensures ∙ found i.services.keys c.self.invariant.apart w s c.in-Some.mark c.in-Some.ensures.some i.marks.keys c.self.invariant.marked) yes
    ∙ ap (λ (n : NameList). has_either n w s) c.self.view_is

pub returns-else-contains : goal.returns-else-contains
returns-else-contains c =
    let i = c.self.inside in
    let w = c.args.writer.now in
    let s = c.args.start in
    let no : c.contains.result ≡ false = search rules in
    among_second c.contains.result c.contains-else-contains.result (has_name (mark_names i.services.keys i.marks.keys) w s) (has_name (mark_names i.services.keys i.fresh.keys) w s)
    (c.contains.ensures ∙ found i.services.keys c.self.invariant.apart w s c.in-Some.mark c.in-Some.ensures.some i.marks.keys c.self.invariant.marked) no
    (c.contains-else-contains.ensures ∙ found i.services.keys c.self.invariant.apart w s c.in-Some.mark c.in-Some.ensures.some i.fresh.keys c.self.invariant.noted)
    ∙ ap (λ (n : NameList). has_either n w s) c.self.view_is

pub returns-in-None : goal.returns-in-None
returns-in-None c =
    let i = c.self.inside in
    let w = c.args.writer.now in
    let s = c.args.start in
    among_none _ _ (absent i.services.keys c.self.invariant.apart w s c.in-None.ensures.none i.marks.keys c.self.invariant.marked)
    (absent i.services.keys c.self.invariant.apart w s c.in-None.ensures.none i.fresh.keys c.self.invariant.noted)
    ∙ ap (λ (n : NameList). has_either n w s) c.self.view_is
