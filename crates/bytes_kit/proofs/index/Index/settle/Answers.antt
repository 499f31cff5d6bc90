use Rattle.std.proofs.Common.{◌≡◌, ◌∙◌, ℕ, List, length, cond, Some, arith, sym, subst, refl}
use Rattle.std.specs.BTreeMap as tree
use Rattle.std.specs.Ordering.{is_eq}
use Rattle.attr_kit.specs.Orders.{text_cmp}
use Rattle.bytes_kit.proofs.Indexing.{at_free, at_others, seek_free, never_at}
use Rattle.bytes_kit.proofs.index.Index.settle.Goals as goal

pub index_mut-requires : goal.index_mut-requires
index_mut-requires c =
    let at = seek_free c.args.texts.now c.args.self.now.slots.items c.args.text.now c.in-Free.slot c.args.text.now c.requires.index.some (sym c.requires.found ∙ c.in-Free.is) in
    omega (arith, at.1)

pub returns-in-Free-clause-ok : goal.returns-in-Free-clause-ok
returns-in-Free-clause-ok c = at_free c.args.texts.now c.args.self.now _ c.args.text.now c.requires.index c.requires.absent c.in-Free.slot (sym c.requires.found ∙ c.in-Free.is) refl refl

pub returns-in_ok-insert-in-Nowhere-clause-ok : goal.returns-in_ok-insert-in-Nowhere-clause-ok
returns-in_ok-insert-in-Nowhere-clause-ok c =
    at_others c.args.texts.now c.args.self.now _ c.args.text.now c.requires.index c.requires.absent (sym c.requires.found ∙ c.in-Nowhere.is) refl
    (λ t. subst (λ (k : List ℕ). tree.get text_cmp c.insert.new.self t ≡ cond (is_eq (text_cmp k t)) (Some (length c.args.texts.now)) (tree.get text_cmp c.args.self.now.others t)) c.in_ok-try_copy-in-Nowhere.ensures.ok (c.in_ok-insert-in-Nowhere.ensures.updates.0 t))

pub returns-in-At-clause-ok : goal.returns-in-At-clause-ok
returns-in-At-clause-ok c = absurd (never_at c.args.texts.now c.args.self.now c.args.text.now c.in-At.field-0 c.requires.index c.requires.absent (sym c.requires.found ∙ c.in-At.is))
