-- What a gateway holds that took the exports of a fleet's collections.
use Rattle.std.proofs.Common.{◌≡◌, ℕ, suc, ◌+◌, List, [], ◌∷◌, ◌++◌, map, slice_get, Some, refl, sym, ap, ◌∙◌, arith}
use Rattle.std.specs.List.{flat_map, enumerate_from}
use Rattle.std.proofs.lemmas.List.{map-append}
use Rattle.agg_kit.specs.Entries.{Entry}
use Rattle.agg_kit.specs.Feeding.{distinct, sets_of, fed}
use Rattle.agg_kit.specs.Payloads.{payload_of}
use Rattle.agg_kit.specs.Rounds.{points_of, round, values_of}
use Rattle.attr_kit.specs.declared.attr_set.AttrSet.{AttrSet}
use Rattle.plan_kit.specs.Plans.{Planned}
use Rattle.point_kit.specs.Equality.{payload_eq}
use Rattle.point_kit.specs.Exports as exports
use Rattle.point_kit.specs.Orders.{key_cmp}
use Rattle.point_kit.specs.States.{state_of}
use Rattle.point_kit.specs.declared.export.Export.{Export}
use Rattle.point_kit.specs.declared.export_point.ExportPoint.{ExportPoint}
use Rattle.point_kit.specs.declared.payload.Payload.{Payload}
use Rattle.point_kit.specs.declared.stream.Stream.{Stream}
use Rattle.point_kit.specs.declared.writer_id.WriterId.{WriterId}
use Rattle.round_kit.specs.Rounds as placed
use Rattle.schedule_kit.specs.Deeds.{Made}
use Rattle.schedule_kit.specs.Rounds.{points}
use Rattle.rollup_kit.proofs.Naming.{number_is}
use Rattle.rollup_kit.specs.Fleets.{IsExportOf, made_points, collection_of, AreExports, held_of}
use Rattle.rollup_kit.specs.Naming.{names_from, number_of, payload_at, Name}
use Rattle.rollup_kit.specs.Writers.{rounding, ArePlans, Writers}

map-map : {A B C : Type 0} (f : B → C) (g : A → B) (xs : List A) → map f (map g xs) ≡ map (λ x. f (g x)) xs
map-map f g [] = refl
map-map f g (x ∷ xs) = ap (λ l. f (g x) ∷ l) (map-map f g xs)

abbrev point_at : Planned → List Entry → Name → ExportPoint
point_at p h x = record { stream = x.0; attrs = x.1; payload = payload_at p h x }

points_named : (p : Planned) (h : List Entry) (k : ℕ) (ss : List Stream) → ((i : ℕ) (s : Stream) → slice_get ss i ≡ Some s → number_of p s ≡ k + i)
    → placed.points_of ss (map (λ s. points_of s.1.shape (fed p s.0 h)) (enumerate_from k ss)) ≡ map (point_at p h) (names_from p h k ss)
points_named p h k [] n = refl
points_named p h k (s ∷ ss) n =
    let sets = distinct (sets_of (fed p k h)) in
    let zero_at : k + 0 ≡ k = omega arith in
    let number : number_of p s ≡ k = n 0 s refl ∙ zero_at in
    let here : map (λ (e : AttrSet × Payload). record { stream = s; attrs = e.0; payload = e.1 }) (points_of s.shape (fed p k h)) ≡ map (point_at p h) (map (λ a. (s, a)) sets) =
    map-map (λ (e : AttrSet × Payload). record { stream = s; attrs = e.0; payload = e.1 }) (λ a. (a, payload_of s.shape (values_of (fed p k h) a))) sets
    ∙ ap (λ m. map (λ (a : AttrSet). record { stream = s; attrs = a; payload = payload_of s.shape (values_of (fed p m h) a) }) sets) (sym number)
    ∙ sym (map-map (point_at p h) (λ (a : AttrSet). (s, a)) sets) in
    let rest = points_named p h (k + 1) ss (λ i t e. n (suc i) t e ∙ (let moved : k + suc i ≡ k + 1 + i = omega arith in moved)) in
    ap (λ l. l ++ placed.points_of ss (map (λ s. points_of s.1.shape (fed p s.0 h)) (enumerate_from (k + 1) ss))) here
    ∙ ap (λ l. map (point_at p h) (map (λ a. (s, a)) sets) ++ l) rest
    ∙ sym (map-append (point_at p h) (map (λ a. (s, a)) sets) (names_from p h (k + 1) ss))

-- the points of a collection are those of its names
pub made_named : (s : Writers) → ArePlans s → (m : Made Entry) → made_points s m ≡ points (rounding s) m
unfolding round
made_named s plans m =
    let p = (s.plan m.writer) in
    let w = (s.who m.writer) in
    ap (map (λ (q : ExportPoint). (record { writer = w; start = m.start; stream = q.stream; attrs = q.attrs }, (m.time, q.payload))))
    (points_named p m.entries 0 p.streams (λ i t e. number_is p (plans m.writer) i t e ∙ (let none : i ≡ 0 + i = omega arith in none)))
    ∙ map-map (λ (q : ExportPoint). (record { writer = w; start = m.start; stream = q.stream; attrs = q.attrs }, (m.time, q.payload))) (point_at p m.entries) (names_from p m.entries 0 p.streams)

-- the points of an export of it
pub export_named : (s : Writers) → ArePlans s → (m : Made Entry) (e : Export) → IsExportOf s m e → exports.points_of e ≡ points (rounding s) m
export_named s plans m e is = same e.writer e.start e.time e.points is.writer is.start is.time is.points ∙ made_named s plans m
  where
    same : (w : WriterId) (start time : ℕ) (ps : List ExportPoint) → w ≡ (s.who m.writer) → start ≡ m.start → time ≡ m.time → ps ≡ placed.points_of (s.plan m.writer).streams (round (s.plan m.writer) m.entries)
        → map (λ (p : ExportPoint). (record { writer = w; start = start; stream = p.stream; attrs = p.attrs }, (time, p.payload))) ps ≡ made_points s m
    same w start time ps a b c d = λ i. map (λ (p : ExportPoint). (record { writer = a i; start = b i; stream = p.stream; attrs = p.attrs }, (c i, p.payload))) (d i)

all_named : (s : Writers) → ArePlans s → (end : ℕ) (history : ℕ → List Entry) (took : List ℕ) (es : List Export) → AreExports s end history took es
    → flat_map exports.points_of es ≡ flat_map (points (rounding s)) (map (collection_of s end history) took)
all_named s plans end history [] [] a = refl
all_named s plans end history [] (e ∷ es) a = absurd a
all_named s plans end history (w ∷ ws) [] a = absurd a
all_named s plans end history (w ∷ ws) (e ∷ es) a =
    ap (λ l. l ++ flat_map exports.points_of es) (export_named s plans (collection_of s end history w) e a.0)
    ∙ ap (λ l. points (rounding s) (collection_of s end history w) ++ l) (all_named s plans end history ws es a.1)

-- what a gateway holds that took them
pub states_are_held : (s : Writers) → ArePlans s → (end : ℕ) (history : ℕ → List Entry) (took : List ℕ) (es : List Export) → AreExports s end history took es → exports.state es ≡ held_of s end history took
states_are_held s plans end history took es a = ap (state_of key_cmp payload_eq) (all_named s plans end history took es a)
