use Rattle.std.proofs.Common.{List, ap, ◌∙◌, ◌||◌, ◌&&◌, sym}
use Rattle.std.specs.List.{list_any}
use Rattle.gateway_kit.specs.Listing.{HeldIncarnation, held_of_ref, incarnations_left}
use Rattle.gateway_kit.specs.Queries.{is_of_incarnation}
use Rattle.archive_kit.specs.Keeping.{is_of_any}
use Rattle.archive_kit.specs.Named.{has_either}
use Rattle.archive_kit.proofs.Skipping.{gone_next, none_gone}
use Rattle.archive_kit.proofs.keeper.add_named.Goals as goal

pub loop-held-init : goal.loop-held-init
loop-held-init c = (
  tt,
  tt,
  λ k. ap (λ (l : List HeldIncarnation). is_of_any c.args.gone.now.items k || (has_either c.args.names.now k.writer k.start && list_any (λ h. is_of_incarnation h.writer h.start k) l))
      (ap incarnations_left c.into_iter-held-iterator.ensures.into_iter_gives ∙ c.incarnations-held-items.ensures.value),
)

pub loop-held-preserved : goal.loop-held-preserved
loop-held-preserved c =
    let h = held_of_ref c.in-Some.held in (
      tt,
      tt,
      λ k. gone_next (is_of_any c.loop-held.gone.items k) (is_of_any c.add_held.new.gone.items k) (has_either c.args.names.now k.writer k.start)
          (is_of_incarnation h.writer h.start k) (list_any (λ (x : HeldIncarnation). is_of_incarnation x.writer x.start k) (incarnations_left c.next.new.self)) _
          (c.in_ok-add_held.ensures k)
          (ap (λ (l : List HeldIncarnation). is_of_any c.loop-held.gone.items k || (has_either c.args.names.now k.writer k.start && list_any (λ x. is_of_incarnation x.writer x.start k) l)) (sym c.in-Some.ensures.steps)
          ∙ c.loop-held.invariant.2 k),
    )

pub returns : goal.returns
returns c = λ k.
    none_gone (is_of_any c.loop-held.gone.items k) (has_either c.args.names.now k.writer k.start) _ _
    (ap (list_any (λ (x : HeldIncarnation). is_of_incarnation x.writer x.start k)) c.in-None.ensures.steps.0) (c.loop-held.invariant.2 k)
