use Rattle.std.proofs.Common.{◌≡◌, ◌∙◌, ◌∷◌, [], ◌++◌, ◌<◌, List, Contains, arith, drop, length, rules, refl, sym, ap, subst, true≢false, FitsSigned, w64}
use Rattle.std.proofs.lemmas.Int.{to_z-of_z}
use Rattle.std.proofs.lemmas.List.{map-append}
use Rattle.agg_kit.specs.Entries.{entry_of}
use Rattle.recorder_kit.specs.Lines.{nothing_named, recording_of, recordings_of, AllThere, IsThere}
use Rattle.recorder_kit.specs.Log.{Logged, Recording, ByName}
use Rattle.recorder_kit.specs.declared.line.Line.{Line}
use Rattle.recorder_kit.specs.declared.line.Named.{Named}
use Rattle.recorder_kit.specs.declared.line.Spot.TheVariants.{Name}
use Rattle.recorder_kit.proofs.Logs.{got, within, there-push, logged, named-is}
use Rattle.recorder_kit.proofs.Naming.{named-in}
use Rattle.recorder_kit.proofs.recorder.Recorder.measure.Goals as goal

pub returns-in_err-place-clause-unchanged : goal.returns-in_err-place-clause-unchanged
returns-in_err-place-clause-unchanged c =
    let ls = drop c.place_for.new.given c.place_for.new.log.items in
    let so : logged (recordings_of c.place_for.new.names.named.keys c.place_for.new.names.sets.keys ls) c.self.inside.capacity ≡ c.args.self.now =
    ap (λ (l : List Recording). logged l c.self.inside.capacity) c.place_for.ensures.same ∙ c.self.view_is in
    search (rules, so, c.from_residual.ensures)

pub returns-in_err-place-clause-known : goal.returns-in_err-place-clause-known
returns-in_err-place-clause-known c = λ v has.
    let i = c.args.instrument in
    let a = c.args.attrs.now in
    let ls = drop c.self.inside.given c.self.inside.log.items in
    let there = subst (λ (x : Logged). Contains x.log (ByName (entry_of i a v))) (sym c.self.view_is) has in
    let named = named-in c.self.inside.names.named.keys c.self.inside.names.sets.keys i a v ls c.self.invariant.there there in
    absurd (true≢false (sym (c.in_err-place.ensures.known named.0 named.1)))

pub invariant_of-self-2 : goal.invariant_of-self-2
invariant_of-self-2 c =
    let fit : FitsSigned w64 c.args.value = c.ranges.value in
    let ms = c.place_for.new.names.named.keys in
    let js = c.place_for.new.names.sets.keys in
    let ls = drop c.place_for.new.given c.place_for.new.log.items in
    let n = c.in_ok-place.place in
    let is = c.in_ok-place.ensures.place in
    let whole = c.place_for.ensures.whole in
    let name : Named = record { instrument = c.args.instrument; set = is.0 } in
    let line : Line = record { at = Name n; value = c.args.value } in
    let there : IsThere ms js (Name n) = (
      within ms n name is.1,
      subst (λ (x : Named). x.set < length js) (sym (got ms n name nothing_named is.1)) (within js is.0 c.args.attrs.now is.2),
    ) in
    record {
      there = subst (AllThere ms js) (sym (simp to_z-of_z at c.push_line.ensures.lines)) (there-push ms js ls line whole.there there);
      memory = omega (arith, c.push_line.ensures.memory, whole.memory);
      within = c.push_line.ensures.within;
      few_names = whole.few_names;
      few_sets = whole.few_sets;
    }

pub returns-clause-value : goal.returns-clause-value
returns-clause-value c =
    let fit : FitsSigned w64 c.args.value = c.ranges.value in
    let ms = c.place_for.new.names.named.keys in
    let js = c.place_for.new.names.sets.keys in
    let ls = drop c.place_for.new.given c.place_for.new.log.items in
    let n = c.in_ok-place.place in
    let is = c.in_ok-place.ensures.place in
    let v = c.args.value in
    let name : Named = record { instrument = c.args.instrument; set = is.0 } in
    let line : Line = record { at = Name n; value = v } in
    let r : Recording = ByName (entry_of c.args.instrument c.args.attrs.now v) in
    let one : recording_of ms js line ≡ r = named-is ms js line n name c.args.attrs.now refl is.1 is.2 in
    let same = c.place_for.ensures.same in
    ap (λ (l : List Line). logged (recordings_of ms js l) c.self.inside.capacity) (simp to_z-of_z at c.push_line.ensures.lines)
    ∙ ap (λ (l : List Recording). logged l c.self.inside.capacity) (map-append (recording_of ms js) ls (line ∷ []) ∙ (λ i. same i ++ one i ∷ []))
    ∙ ap (λ (x : Logged). logged (x.log ++ r ∷ []) x.capacity) c.self.view_is
