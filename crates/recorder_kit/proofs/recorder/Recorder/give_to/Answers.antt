use Rattle.std.proofs.Common.{◌∙◌, ◌+◌, ◌<◌, ◌≤◌, arith, length, List, drop, take, slice_get, sym, ap, subst}
use Rattle.std.proofs.lemmas.List.{length-map}
use Rattle.std.proofs.lemmas.Option.{slice_get_within}
use Rattle.recorder_kit.specs.Lines.{recording_of, recordings_of, AllThere}
use Rattle.recorder_kit.specs.Log.{Logged, Recording, taken_in}
use Rattle.recorder_kit.specs.declared.line.Line.{Line}
use Rattle.recorder_kit.proofs.Logs.{behind, drop-drop, drop-lines, front-get, front-take, logged, there-drop, there-take}
use Rattle.recorder_kit.proofs.recorder.Recorder.give_to.Goals as goal

pub take_lines-taken-requires : goal.take_lines-taken-requires
take_lines-taken-requires c =
    let ns = c.self.inside.names.named.keys in
    let ks = c.self.inside.names.sets.keys in
    let g = c.self.inside.given in
    subst (λ (ls : List Line). AllThere ns ks (take c.min-count.result ls)) (sym c.remaining-lines.ensures) (there-take ns ks c.min-count.result (drop g c.self.inside.log.items) c.self.invariant.there)

pub invariant_of-self : goal.invariant_of-self
invariant_of-self c =
    let ns = c.self.inside.names.named.keys in
    let ks = c.self.inside.names.sets.keys in
    let g = c.self.inside.given in
    let ls = c.self.inside.log.items in
    let n = c.take_lines-taken.result.recorded + c.take_lines-taken.result.refused in
    let m = c.min-count.result in
    let within : n ≤ length (take m (drop g ls)) = subst (λ (xs : List Line). n ≤ length (take m xs)) c.remaining-lines.ensures c.take_lines-taken.ensures.within in
    record {
      there = subst (AllThere ns ks) (drop-drop ls g n) (there-drop ns ks n (drop g ls) c.self.invariant.there);
      memory = c.self.invariant.memory;
      within = behind ls g m n within c.self.invariant.within;
      few_names = c.self.invariant.few_names;
      few_sets = c.self.invariant.few_sets;
    }

pub returns-clause-taken : goal.returns-clause-taken
returns-clause-taken c =
    let ns = c.self.inside.names.named.keys in
    let ks = c.self.inside.names.sets.keys in
    let g = c.self.inside.given in
    let ls = c.self.inside.log.items in
    let m = c.min-count.result in
    let n = c.take_lines-taken.result.recorded + c.take_lines-taken.result.refused in
    let within : n ≤ length (take m (drop g ls)) = subst (λ (xs : List Line). n ≤ length (take m xs)) c.remaining-lines.ensures c.take_lines-taken.ensures.within in
    c.take_lines-taken.ensures.taken
    ∙ ap (taken_in c.args.tally.now)
    (ap (λ (xs : List Line). take n (recordings_of ns ks (take m xs))) c.remaining-lines.ensures
    ∙ front-take ns ks (drop g ls) n m within
    ∙ ap (λ (x : Logged). take n x.log) c.self.view_is)

pub returns-clause-rest : goal.returns-clause-rest
returns-clause-rest c =
    let ns = c.self.inside.names.named.keys in
    let ks = c.self.inside.names.sets.keys in
    let g = c.self.inside.given in
    let ls = c.self.inside.log.items in
    let n = c.take_lines-taken.result.recorded + c.take_lines-taken.result.refused in
    c.forget_names.ensures
    ∙ ap (λ (xs : List Line). logged (recordings_of ns ks xs) c.self.inside.capacity) (sym (drop-drop ls g n))
    ∙ ap (λ (l : List Recording). logged l c.self.inside.capacity) (drop-lines ns ks n (drop g ls))
    ∙ ap (λ (x : Logged). logged (drop n x.log) x.capacity) c.self.view_is

pub returns-clause-stopped : goal.returns-clause-stopped
returns-clause-stopped c = λ r below at.
    let ns = c.self.inside.names.named.keys in
    let ks = c.self.inside.names.sets.keys in
    let g = c.self.inside.given in
    let ls = drop g c.self.inside.log.items in
    let m = c.min-count.result in
    let n = c.take_lines-taken.result.recorded + c.take_lines-taken.result.refused in
    let here = ap (λ (x : Logged). slice_get x.log n) c.self.view_is ∙ at in
    let l : n < length ls = subst (λ j. n < j) (length-map ls (recording_of ns ks)) (slice_get_within (recordings_of ns ks ls) n r here) in
    let all = ap (λ (xs : List Line). length xs) c.remaining-lines.ensures in
    let less : n < m = omega (arith, below, l, all, c.min-count.ensures) in
    c.take_lines-taken.ensures.stopped r (ap (λ (xs : List Line). slice_get (recordings_of ns ks (take m xs)) n) c.remaining-lines.ensures ∙ front-get ns ks ls n m less ∙ here)
