use Rattle.std.proofs.Common.{◌≡◌, ◌∙◌, ◌++◌, ◌∷◌, [], Some, map, slice_get, take, ap, sym}
use mathlib.Core.List.{map-append}
use Rattle.std.proofs.lemmas.List.{take_more}
use Rattle.crossbeam_channel.specs.Claims.{view}
use Rattle.fleet_kit.proofs.Exports.{get_number}
use Rattle.fleet_kit.proofs.Lists.{all_snoc}
use Rattle.fleet_kit.specs.Posting.{IsPosted}
use Rattle.fleet_kit.specs.declared.posts.Post.{Post}
use Rattle.fleet_kit.proofs.posts.posts_for.Goals as goal

pub loop-gateway-preserved : goal.loop-gateway-preserved
loop-gateway-preserved g c =
    let kept = c.loop-gateway.invariant in
    let p = c.in_ok-post_all.field-0 in
    let ps = c.loop-gateway.posts.items in
    let i = c.loop-gateway.gateway in
    let ids = c.args.ids.now in
    let of = c.in_ok-post_all.ensures.of in (
      ap (map (λ (x : Post). x.id)) c.in_ok-push.ensures.items
          ∙ map-append (λ (x : Post). x.id) ps (p ∷ [])
          ∙ ap (λ l. l ++ p.id ∷ []) kept.0
          ∙ ap (λ x. take i ids ++ x ∷ []) of.1
          ∙ sym (take_more ids i 0 c.loop-gateway-test.true),
      all_snoc (λ (x : Post). slice_get c.args.ids.now x.gateway ≡ Some x.id) ps c.push.new.self.items p c.in_ok-push.ensures.items kept.1 (ap (slice_get ids) of.0 ∙ get_number ids i p.id c.loop-gateway-test.true of.1),
      all_snoc (λ (x : Post). IsPosted c.args.exports.now (view x.pass) x.unsent) ps c.push.new.self.items p c.in_ok-push.ensures.items kept.2 c.in_ok-post_all.ensures.told,
    )
