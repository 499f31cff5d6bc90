use Rattle.std.proofs.Common.{◌≡◌, ◌+◌, ◌<◌, ℕ, List, length, get_or, sym, ap, subst, ◌∙◌, arith, rules}
use Rattle.std.specs.List.{insert}
use Rattle.std.proofs.lemmas.List.{get_or_default}
use Rattle.std.proofs.lemmas.Slice.Zip.{AllZip-long}
use Rattle.shelf_kit.specs.Shelving.{AreTops, starts_from}
use Rattle.shelf_kit.proofs.Begins.{length_starts, start_read}
use Rattle.shelf_kit.proofs.Cut.{cut_starts, cut_tops}
use Rattle.shelf_kit.proofs.Places.{ends_within}
use Rattle.shelf_kit.proofs.part.split.Goals as goal

pub index-requires-2 : goal.index-requires-2
index-requires-2 g c = omega (arith, ap length c.reserve_both.ensures.starts, ap length c.requires.begins, length_starts 0 c.args.shelves.now.items)

pub index-top-requires : goal.index-top-requires
index-top-requires g c = omega (arith, ap length c.reserve_both.ensures.tops, AllZip-long _ c.args.shelves.now.items c.args.tops.now.items c.requires.topped)

pub overflow_add-start : goal.overflow_add-start
overflow_add-start g c =
    let xs = c.args.shelves.now.items in
    let s = c.args.shelf in
    let within : s < length xs = omega arith in
    let end = ends_within xs s c.index.result.now within c.index.ensures in
    let start = start_read xs c.reserve_both.new.starts.items s c.index-2.result.now (c.reserve_both.ensures.starts ∙ c.requires.begins) within c.index-2.ensures in
    let kept = c.kept_on-kept.ensures.others in
    let small = c.requires.small in
    let own : length c.index.result.now.items.items ≡ c.len-len.result = search rules in
    omega (arith, end, start, kept, small, own)

pub insert-requires : goal.insert-requires
insert-requires g c = omega (arith, ap length c.reserve_both.ensures.starts, ap length c.requires.begins, length_starts 0 c.args.shelves.now.items)

pub insert-requires-in-Ok : goal.insert-requires-in-Ok
insert-requires-in-Ok g c = omega (arith, ap length c.reserve_both.ensures.tops, AllZip-long _ c.args.shelves.now.items c.args.tops.now.items c.requires.topped)

pub returns-in-Ok-clause-begins : goal.returns-in-Ok-clause-begins
returns-in-Ok-clause-begins g c =
    let xs = c.args.shelves.now.items in
    let zs = c.reserve_both.new.starts.items in
    let s = c.args.shelf in
    let within : s < length xs = omega arith in
    let begins : zs ≡ starts_from 0 xs = c.reserve_both.ensures.starts ∙ c.requires.begins in
    let start = start_read xs zs s c.index-2.result.now begins within c.index-2.ensures in
    let came : c.insert.new.self.items ≡ insert zs (s + 1) (c.index-2.result.now + c.kept_on-kept.result) = search rules in
    came ∙ (λ i. insert (begins i) (s + 1) (start i + c.kept_on-kept.result)) ∙ sym (cut_starts within c.in-Ok.ensures.ok)

pub returns-in-Ok-clause-topped : goal.returns-in-Ok-clause-topped
returns-in-Ok-clause-topped g c =
    let xs = c.args.shelves.now.items in
    let tops = c.args.tops.now.items in
    let s = c.args.shelf in
    let within : s < length xs = omega arith in
    let same : c.reserve_both.new.tops.items ≡ tops = c.reserve_both.ensures.tops in
    let long = AllZip-long _ xs tops c.requires.topped in
    let top : c.index-top.result.now ≡ get_or tops s 0 = c.index-top.ensures ∙ ap (λ l. get_or l s c.index-top.result.now) same ∙ get_or_default tops s c.index-top.result.now 0 (omega (arith, long, within)) in
    let came : c.insert-in-Ok.new.self.items ≡ insert c.reserve_both.new.tops.items (s + 1) c.index-top.result.now = search rules in
    subst (λ (ns : List ℕ). AreTops c.cut.new.shelves.items ns) (sym (came ∙ (λ i. insert (same i) (s + 1) (top i))))
    (cut_tops within c.in-Ok.ensures.ok tops c.requires.topped)
