use Rattle.std.proofs.Common.{◌≡◌, Some, None, sym, subst, ap, ◌∙◌}
use Rattle.std.specs.Prelude.{IfOk, IfSome, OnOk, Result, Ok, Err}
use Rattle.std.specs.Result.{result_ok}
use Rattle.std.proofs.lemmas.Option.{none-some, same_Some}
use Rattle.archive_kit.specs.Archive.{ArchiveState, adopt_fault, adopted, exported_points, fresh}
use Rattle.archive_world_kit.proofs.witness.archived.Goals as goal
use Rattle.archive_world_kit.specs.Instance.{IsArchived, identity}
use Rattle.gateway_kit.specs.Queries.{incarnation_points}
use Rattle.point_kit.specs.Exports.{Points}
use Rattle.point_kit.specs.declared.export.Export.{Export}
use Rattle.point_kit.specs.declared.writer_id.WriterId.{WriterId}

-- what is said of a value, where it is there
if_there : {T E : Type 0} (r : Result T E) (v : T) (P : T → Type 0) → Some v ≡ result_ok r → IfOk r P → P v
if_there (Ok x) v P e i = subst P (same_Some x v (sym e)) i
if_there (Err f) v P e i = absurd (none-some v (sym e))

on_there : {T E : Type 0} (r : Result T E) (v : T) (P : Type 0) → Some v ≡ result_ok r → OnOk r P → P
on_there (Ok x) v P e i = i
on_there (Err f) v P e i = absurd (none-some v (sym e))

-- what an archive exports
exported : {E : Type 0} (worker archive : WriterId) (held : Points) (a : ArchiveState) (r : Result Export E)
    → adopt_fault (fresh archive 100 10) worker 100 (incarnation_points worker 100 held) ≡ None
    → a ≡ adopted (fresh archive 100 10) worker 100 (incarnation_points worker 100 held)
    → IfOk r (λ e. e.writer ≡ a.writer) → IfOk r (λ e. e.start ≡ a.start) → IfOk r (λ e. e.time ≡ 300) → IfOk r (λ e. e.points ≡ exported_points a)
    → IfSome (result_ok r) (λ e. IsArchived worker archive held e)
exported worker archive held a (Ok e) accepted is w s t p = record {
  accepted = accepted;
  writer = w ∙ ap (λ (b : ArchiveState). b.writer) is;
  start = s ∙ ap (λ (b : ArchiveState). b.start) is;
  time = t;
  points = p ∙ ap exported_points is;
}
exported worker archive held a (Err f) accepted is w s t p = tt

pub returns : goal.returns
returns c =
    let worker = c.in_ok-worker.ensures in
    let held = c.args.keeper.now.gateway.points in
    let begun : c.in_ok-archive.archive ≡ fresh (identity 9) 100 10 =
    if_there c.begin.result c.in_ok-archive.archive _ c.in_ok-archive.ensures.value c.begin.ensures.value
    ∙ ap (λ w. fresh w 100 10) c.in_ok-identity.ensures in
    let accepted = on_there c.adopt.result c.in_ok-ok.field-0 _ c.in_ok-ok.ensures.value c.adopt.ensures.ok in
    let made = on_there c.adopt.result c.in_ok-ok.field-0 _ c.in_ok-ok.ensures.value c.adopt.ensures.value in
    let e = c.export.ensures in
    subst (λ o. IfSome o (λ e. IsArchived (identity 1) (identity 9) held e)) (sym c.ok-3.ensures.value)
    (exported (identity 1) (identity 9) held c.adopt.new.self c.export.result
    (sym (λ n. adopt_fault (begun n) (worker n) 100 (incarnation_points (worker n) 100 held)) ∙ accepted)
    (made ∙ (λ n. adopted (begun n) (worker n) 100 (incarnation_points (worker n) 100 held))) e.writer e.start e.taken_at e.points)
