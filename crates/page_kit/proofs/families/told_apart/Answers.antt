use Rattle.std.proofs.Common.{◌≡◌, ℕ, [], ◌∷◌, ◌++◌, List, length, sym, ap, subst, ◌∙◌}
use Rattle.std.specs.Vec.Iter.{into_iter_items, into_iter_len}
use Rattle.page_kit.specs.Families.{own_names, are_claimed, shown_after, hidden_after, IsClaimed}
use Rattle.page_kit.specs.Views.{with_cells, all_measured}
use Rattle.page_kit.specs.declared.families.Measured.{Measured}
use Rattle.page_kit.proofs.Ended.{ended, went_on}
use Rattle.page_kit.proofs.Claimed.{told_more, told_shown, told_hidden, kept_read, added_read}
use Rattle.page_kit.proofs.families.told_apart.Goals as goal

pub loop-measured-init : goal.loop-measured-init
loop-measured-init c =
    let gives = c.into_iter-measured-iterator.ensures.into_iter_gives in (
      record {
        names = own_names;
        claimed = c.in_ok-claimed.ensures;
        shows = ap (λ (ms : List Measured). all_measured ms ++ shown_after own_names (all_measured (into_iter_items c.into_iter-measured-iterator.result))) c.nothing-families.ensures.shown ∙ ap (λ (ms : List Measured). shown_after own_names (all_measured ms)) gives.0;
        hides = ap (λ (ms : List Measured). all_measured ms ++ hidden_after own_names (all_measured (into_iter_items c.into_iter-measured-iterator.result))) c.nothing-families.ensures.hidden ∙ ap (λ (ms : List Measured). hidden_after own_names (all_measured ms)) gives.0;
      },
      gives.1 ∙ c.args.metrics.ok.0 ∙ ap length (sym gives.0),
    )

pub loop-measured-preserved : goal.loop-measured-preserved
loop-measured-preserved c =
    let one : Measured = c.in-Some.measured in
    let left = into_iter_items c.next.new.self in
    let steps : into_iter_items c.loop-measured.measured-iterator ≡ one ∷ left = c.in-Some.ensures.steps.0 in
    let families = c.loop-measured.families in (
      told_more c.loop-measured.claimed.keys c.claim.new.claimed.keys (all_measured families.shown.items) (all_measured families.hidden.items) (all_measured c.add.new.families.shown.items) (all_measured c.add.new.families.hidden.items)
          (all_measured (into_iter_items c.loop-measured.measured-iterator)) (all_measured left) (all_measured c.args.metrics.items) (with_cells one) c.is_claimed-taken.result c.loop-measured.invariant.0 (ap all_measured steps)
          (λ names told. c.is_claimed-taken.ensures names told ∙ ap (are_claimed names) (c.as_slice.ensures.value ∙ c.in_ok-claims.ensures))
          (λ names told. subst (λ (l : List (List ℕ)). IsClaimed (l ++ names) c.claim.new.claimed.keys) c.in_ok-claims.ensures (c.in_ok-claim.ensures names told))
          (ap all_measured c.in_ok-add.ensures.shown ∙ kept_read with_cells c.is_claimed-taken.result families.shown.items one)
          (ap all_measured c.in_ok-add.ensures.hidden ∙ added_read with_cells c.is_claimed-taken.result families.hidden.items one),
      went_on (into_iter_items c.loop-measured.measured-iterator) left one (into_iter_len c.loop-measured.measured-iterator) (into_iter_len c.next.new.self) c.loop-measured.invariant.1 steps c.in-Some.ensures.steps.1,
    )

pub returns-clause-shown : goal.returns-clause-shown
returns-clause-shown c =
    let none : into_iter_items c.loop-measured.measured-iterator ≡ [] = ended (into_iter_items c.loop-measured.measured-iterator) (into_iter_len c.loop-measured.measured-iterator) c.loop-measured.invariant.1 c.in-None.ensures.steps.0 in
    told_shown _ _ _ _ _ c.loop-measured.invariant.0 (ap all_measured none)

pub returns-clause-hidden : goal.returns-clause-hidden
returns-clause-hidden c =
    let none : into_iter_items c.loop-measured.measured-iterator ≡ [] = ended (into_iter_items c.loop-measured.measured-iterator) (into_iter_len c.loop-measured.measured-iterator) c.loop-measured.invariant.1 c.in-None.ensures.steps.0 in
    told_hidden _ _ _ _ _ c.loop-measured.invariant.0 (ap all_measured none)
