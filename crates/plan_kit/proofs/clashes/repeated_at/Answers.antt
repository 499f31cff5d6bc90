use Rattle.std.proofs.Common.{◌≡◌, not, sym, ap, ◌∙◌, take, Bool, true, false, Bor, subst}
use Rattle.std.specs.List.{list_any}
use Rattle.attr_kit.proofs.Repeats.{repeat_here, repeat_later, seen_more}
use Rattle.plan_kit.specs.declared.wanted.Wanted.{Wanted}
use Rattle.point_kit.specs.declared.stream.Stream.{Stream}
use Rattle.point_kit.specs.contracts.stream.StreamEq.TheImpl.Laws as stream_laws
use Rattle.point_kit.specs.contracts.stream.StreamPartialEq.TheImpl as streams
use Rattle.plan_kit.specs.SameStream.{same}
use Rattle.plan_kit.proofs.clashes.repeated_at.Goals as goal

undone : (stored added b : Bool) → added ≡ not stored → added ≡ b → stored ≡ not b
undone true added b p q = sym (ap not p) ∙ ap not q
undone false added b p q = sym (ap not p) ∙ ap not q

pub returns-then-not-branch : goal.returns-then-not-branch
returns-then-not-branch c =
    let x : Wanted = c.index-wanted-place.result in
    let key : Bor Stream = record { ref_ptr = c.args.wanted.ref_ptr; now = x.stream } in
    let stored = undone _ _ false c.in_ok-insert.ensures.added c.if-not-branch.true in
    sym (repeat_here same c.args.wanted.now c.loop-place.place x c.loop-place-test.true c.loop-place.invariant.so (subst (λ y. list_any (same y) (take c.loop-place.place c.args.wanted.now) ≡ true) c.index-wanted-place.is (sym (c.loop-place.invariant.seen key) ∙ stored)))

pub loop-place-preserved : goal.loop-place-preserved
loop-place-preserved c =
    let x : Wanted = c.index-wanted-place.result in
    let key : Bor Stream = record { ref_ptr = c.args.wanted.ref_ptr; now = x.stream } in
    let stored = undone _ _ true c.in_ok-insert.ensures.added c.if-not-branch.false in
    record {
      so = repeat_later same c.args.wanted.now c.loop-place.place x c.loop-place-test.true c.loop-place.invariant.so (subst (λ y. list_any (same y) (take c.loop-place.place c.args.wanted.now) ≡ false) c.index-wanted-place.is (sym (c.loop-place.invariant.seen key) ∙ stored));
      seen = λ q. seen_more (λ p. (streams.ghosts).eq q.now p.stream) c.args.wanted.now c.loop-place.place x _ _ _ c.loop-place-test.true (c.loop-place.invariant.seen q) (c.in_ok-insert.ensures.updates.0 q) ((stream_laws.laws-law).symm x.stream q.now ∙ ap (λ y. (streams.ghosts).eq q.now y.stream) c.index-wanted-place.is);
    }
