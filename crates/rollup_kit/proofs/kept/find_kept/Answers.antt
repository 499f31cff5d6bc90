use Rattle.std.proofs.Common.{refl}
use Rattle.std.proofs.lemmas.Result.{on_ok_weaker}
use Rattle.rollup_kit.proofs.Shown.{guessed, found}
use Rattle.rollup_kit.proofs.kept.find_kept.Goals as goal

pub returns-then-have_keys : goal.returns-then-have_keys
returns-then-have_keys c =
    guessed c.args.attrs.now c.pairs-pairs.ensures.attributes c.args.list.now c.keys.result.now c.pairs-pairs.result.now c.args.places.now.items c.as_slice.result.now
    c.pairs-pairs.ensures.value c.as_slice.ensures.value c.keys.ensures (c.if-have_keys.ensures refl)

pub returns : goal.returns
returns c = on_ok_weaker c.find_listed.result (λ shown. found c.args.list.now c.args.attrs.now c.pairs-pairs.result.now c.find_listed.new.places.items c.pairs-pairs.ensures.value shown) c.find_listed.ensures
