-- What a keeper does as points come: what it forgets, and which names it has then.
use Rattle.std.specs.Prelude.{◌≡◌, ℕ, ◌≤◌, not, List, length}
use Rattle.std.specs.FinMap.{retain_keys}
use Rattle.point_kit.specs.Exports.{Points, join_points}
use Rattle.point_kit.specs.declared.writer_id.WriterId.{WriterId}
use Rattle.archive_kit.specs.Keeping.{is_named, kept_points}
use Rattle.archive_kit.specs.Named.{NameList, has_either}
use Rattle.archive_kit.specs.Stepping.{AreHidden, is_gone}
use Rattle.archive_kit.specs.declared.dropping.Gone.{Gone}

-- it fits what is held and what comes: there is room for the names that were noted, which tell with the others what is named then
pub record IsReady (names : NameList) (points coming : Points) (gone : List Gone) : Type 0 where
  pub room : length names.fresh ≤ names.room
  pub told : (w : WriterId) (s : ℕ) → has_either names w s ≡ is_named (join_points points coming) w s
  pub goes : retain_keys (join_points points coming) (λ k. not (is_gone gone k)) ≡ kept_points points coming
  pub hidden : AreHidden (is_gone gone) (join_points points coming)
