use Rattle.std.proofs.Common.{arith, ◌∙◌, ◌∷◌, [], ◌++◌, List, drop, sym, ap, subst, FitsSigned, w64}
use Rattle.std.proofs.lemmas.Int.{to_z-of_z}
use Rattle.std.proofs.lemmas.List.{map-append}
use Rattle.recorder_kit.specs.Lines.{recording_of, recordings_of, AllThere}
use Rattle.recorder_kit.specs.Log.{Logged, Recording, ByNumber}
use Rattle.recorder_kit.specs.declared.line.Line.{Line}
use Rattle.recorder_kit.specs.declared.line.Spot.TheVariants.{Number}
use Rattle.recorder_kit.proofs.Logs.{logged, there-push}
use Rattle.recorder_kit.proofs.recorder.Recorder.measure_held.Goals as goal

pub invariant_of-self : goal.invariant_of-self
invariant_of-self c =
    let fit : FitsSigned w64 c.args.value = c.ranges.value in
    let ns = c.self.inside.names.named.keys in
    let ks = c.self.inside.names.sets.keys in
    let ls = drop c.self.inside.given c.self.inside.log.items in
    let line : Line = record { at = Number c.args.n; value = c.args.value } in
    record {
      there = subst (AllThere ns ks) (sym (simp to_z-of_z at c.push_line.ensures.lines)) (there-push ns ks ls line c.self.invariant.there tt);
      memory = omega (arith, c.push_line.ensures.memory, c.self.invariant.memory);
      within = c.push_line.ensures.within;
      few_names = c.self.invariant.few_names;
      few_sets = c.self.invariant.few_sets;
    }

pub returns-clause-value : goal.returns-clause-value
returns-clause-value c =
    let fit : FitsSigned w64 c.args.value = c.ranges.value in
    let ns = c.self.inside.names.named.keys in
    let ks = c.self.inside.names.sets.keys in
    let ls = drop c.self.inside.given c.self.inside.log.items in
    let line : Line = record { at = Number c.args.n; value = c.args.value } in
    ap (λ (l : List Line). logged (recordings_of ns ks l) c.self.inside.capacity) (simp to_z-of_z at c.push_line.ensures.lines)
    ∙ ap (λ (l : List Recording). logged l c.self.inside.capacity) (map-append (recording_of ns ks) ls (line ∷ []))
    ∙ ap (λ (x : Logged). logged (x.log ++ ByNumber c.args.n c.args.value ∷ []) x.capacity) c.self.view_is
