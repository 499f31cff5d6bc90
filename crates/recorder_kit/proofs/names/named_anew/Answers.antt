use Rattle.std.proofs.Common.{◌≡◌, ◌∙◌, ◌∷◌, [], ◌<◌, ◌^◌, length, List, ap, sym, subst, arith, pos}
use Rattle.std.proofs.lemmas.List.{length-append}
use Rattle.recorder_kit.specs.Lines.{recordings_of, AllThere}
use Rattle.recorder_kit.specs.declared.line.Line.{Line}
use Rattle.recorder_kit.specs.declared.line.Spot.TheVariants.{Number}
use Rattle.recorder_kit.proofs.Logs.{there-get, anew-more}
use Rattle.recorder_kit.proofs.names.named_anew.Goals as goal

pub renamed-requires-clause-there : goal.renamed-requires-clause-there
renamed-requires-clause-there c =
    there-get c.args.names.now.named.keys c.args.names.now.sets.keys c.args.lines.now c.loop-line.line-index (record { at = Number 0; value = pos 0 }) c.requires c.loop-line-test.true

pub renamed-requires-clause-small : goal.renamed-requires-clause-small
renamed-requires-clause-small c = omega (arith, c.loop-line.invariant.few_names, c.loop-line-test.true)

pub loop-line-preserved : goal.loop-line-preserved
loop-line-preserved c =
    let ns = c.renamed.new.fresh.named.keys in
    let ks = c.renamed.new.fresh.sets.keys in
    let grown = c.renamed.ensures.grown in
    let past = c.loop-line.invariant in
    let items = c.push_reserved.ensures.items in
    let none : Line = record { at = Number 0; value = pos 0 } in
    let more = anew-more c.args.names.now.named.keys c.loop-line.fresh.named.keys ns c.args.names.now.sets.keys c.loop-line.fresh.sets.keys ks c.args.lines.now c.loop-line.kept.items
    c.loop-line.line-index c.in_ok-renamed.field-0 none grown past.there past.same c.in_ok-renamed.ensures.there c.in_ok-renamed.ensures.same c.loop-line-test.true in
    record {
      long = omega (arith, past.long, ap (λ (ls : List Line). length ls) items, length-append c.loop-line.kept.items (c.in_ok-renamed.field-0 ∷ []));
      there = subst (AllThere ns ks) (sym items) more.0;
      same = ap (λ (ls : List Line). recordings_of ns ks ls) items ∙ more.1;
      few_names = omega (arith, grown.one_name, past.few_names);
      few_sets = omega (arith, grown.one_set, past.few_sets);
      room = omega (arith, c.push_reserved.ensures.capacity, past.room);
    }
