use Rattle.std.proofs.Common.{◌≡◌, ◌∙◌, Bool, ◌++◌, ◌∷◌, [], List, Some, None, position, ap, sym}
use Rattle.point_kit.specs.ExportFaults.{same_key}
use Rattle.point_kit.specs.declared.export_point.ExportPoint.{ExportPoint}
use Rattle.archive_kit.proofs.Steps.{found, not_found, if_ok}
use Rattle.archive_kit.proofs.totals.add_total.Goals as goal

pub returns-in-Some-clause-fits : goal.returns-in-Some-clause-fits
returns-in-Some-clause-fits c =
    let p = c.args.point.now in
    let items = c.args.totals.now.items in
    let at : position (λ (q : ExportPoint). same_key p q) items ≡ Some c.in-Some.place = sym (c.place_of.ensures ∙ ap (λ (l : List ExportPoint). position (λ (q : ExportPoint). same_key p q) l) c.as_slice.ensures.value) ∙ c.in-Some.is in
    let is = found p items c.in-Some.place at in
    if_ok c.add_at.result (λ (fits : Bool) e. e ∙ sym is.1) c.add_at.ensures.fits

pub returns-in-Some-clause-value : goal.returns-in-Some-clause-value
returns-in-Some-clause-value c =
    let p = c.args.point.now in
    let items = c.args.totals.now.items in
    let at : position (λ (q : ExportPoint). same_key p q) items ≡ Some c.in-Some.place = sym (c.place_of.ensures ∙ ap (λ (l : List ExportPoint). position (λ (q : ExportPoint). same_key p q) l) c.as_slice.ensures.value) ∙ c.in-Some.is in
    let is = found p items c.in-Some.place at in
    if_ok c.add_at.result (λ (fits : Bool) e t. e t ∙ sym is.2) c.add_at.ensures.value

pub returns-in_ok-push-in-None-clause-fits : goal.returns-in_ok-push-in-None-clause-fits
returns-in_ok-push-in-None-clause-fits c =
    let p = c.args.point.now in
    let items = c.args.totals.now.items in
    let none : position (λ (q : ExportPoint). same_key p q) items ≡ None = sym (c.place_of.ensures ∙ ap (λ (l : List ExportPoint). position (λ (q : ExportPoint). same_key p q) l) c.as_slice.ensures.value) ∙ c.in-None.is in
    sym (not_found p items none).0

pub returns-in_ok-push-in-None-clause-value : goal.returns-in_ok-push-in-None-clause-value
returns-in_ok-push-in-None-clause-value c =
    let p = c.args.point.now in
    let items = c.args.totals.now.items in
    let none : position (λ (q : ExportPoint). same_key p q) items ≡ None = sym (c.place_of.ensures ∙ ap (λ (l : List ExportPoint). position (λ (q : ExportPoint). same_key p q) l) c.as_slice.ensures.value) ∙ c.in-None.is in
    λ t. c.in_ok-push-in-None.ensures.ok ∙ ap (λ (q : ExportPoint). items ++ q ∷ []) c.in_ok-try_copy-in-None.ensures.value ∙ sym (not_found p items none).1
