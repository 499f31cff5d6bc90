use Rattle.std.proofs.Common.{◌≡◌, ℕ, ◌&&◌, ◌||◌, List, false, sym, ap, ◌∙◌}
use Rattle.point_kit.specs.Exports.{join_points}
use Rattle.point_kit.specs.declared.key.Key.{Key}
use Rattle.point_kit.specs.declared.writer_id.WriterId.{WriterId}
use Rattle.archive_kit.specs.Keeping.{is_held, is_named, is_of_any}
use Rattle.archive_kit.specs.Named.{Name, has_either, has_name}
use Rattle.archive_kit.specs.Readiness.{IsReady}
use Rattle.archive_kit.proofs.Skipping.{both_told, if_ok, none_noted, or_false, settled, settled_hidden}
use Rattle.archive_kit.proofs.keeper.ready.Goals as goal

pub returns-clause-ready : goal.returns-clause-ready
returns-clause-ready c =
    let old = c.args.gateway.now.points in
    let new = c.args.other.now.points in
    let n = c.reserve.new.self in
    let fresh = c.has_noted-fresh.result in
    let before : (w : WriterId) (s : ℕ) → has_either c.drop_noted.new.self w s ≡ is_named old w s = λ w s.
    (λ i. has_name (c.drop_noted.ensures.names i) w s || has_name (c.drop_noted.ensures.fresh i) w s) ∙ sym (or_false (has_name c.args.names.now.names w s)) ∙ c.requires.told w s in
    let told : (w : WriterId) (s : ℕ) → has_either n w s ≡ is_named (join_points old new) w s = both_told (has_either n) old new (λ w s.
    (λ i. has_name (c.reserve.ensures.names i) w s || has_name (c.reserve.ensures.fresh i) w s)
    ∙ c.in_ok-note_all.ensures.noted w s
    ∙ ap (λ b. b || is_named new w s) (before w s)) in
    let known : fresh ≡ false → (w : WriterId) (s : ℕ) → has_either n w s ≡ is_named old w s = λ none w s.
    none_noted n.fresh (has_name n.names w s) w s (sym c.has_noted-fresh.ensures ∙ none)
    ∙ ap (λ (l : List Name). has_name l w s) (c.reserve.ensures.names ∙ c.note_all.ensures.names ∙ c.drop_noted.ensures.names)
    ∙ c.requires.told w s in
    if_ok c.named_held.result (λ gone goes. record {
      room = c.in_ok-reserve.ensures.room;
      told = told;
      goes = settled old new (has_either n) gone.items fresh told c.requires.all_shown known goes;
      hidden = settled_hidden old new (has_either n) gone.items fresh told c.requires.all_shown known goes;
    }) c.named_held.ensures
