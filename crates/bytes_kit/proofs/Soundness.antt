-- Cells of which no fault is found are sound, and of sound cells none is found.
use Rattle.std.proofs.Common.{◌≡◌, ◌+◌, ℕ, nat_le, Bool, true, false, cond, List, [], ◌∷◌, ◌++◌, append_assoc, subst, Option, Some, None, refl, sym, ap, ◌∙◌}
use Rattle.std.proofs.lemmas.Bool.{leb-false, lt-leb}
use Rattle.std.specs.FinMap.{get, get-entries, entries, entries_sorted}
use Rattle.std.specs.FinMap.Entries.{find, is_sorted}
use lib.Dec.{T}
use Rattle.std.specs.List.{AllByRecursion}
use Rattle.std.specs.Option.{option_or}
use Rattle.std.specs.Ordering.{eq_by_cmp, is_eq}
use Rattle.std.specs.Cmp.{Equal-is, tied_itself}
use Rattle.attr_kit.proofs.Firsts.{when_none}
use Rattle.point_kit.specs.Exports.{Points}
use Rattle.point_kit.specs.Orders.{key_cmp}
use Rattle.point_kit.specs.Payload.{IsSound, IsSoundHeld}
use Rattle.point_kit.specs.declared.cell.Cell.{Cell}
use Rattle.point_kit.specs.declared.cell.Held.{Held}
use Rattle.point_kit.specs.declared.cell.Held.TheVariants.{One, Conflict}
use Rattle.point_kit.specs.declared.export_fault.ExportFault.{ExportFault}
use Rattle.point_kit.specs.declared.export_fault.ExportFault.TheVariants as builds
use Rattle.point_kit.specs.declared.key.Key.{Key}
use Rattle.point_kit.specs.declared.payload.Payload.{Payload}
use Rattle.point_kit.specs.declared.payload.Payload.TheVariants as payloads
use Rattle.point_kit.specs.declared.shape.Shape.{Shape}
use Rattle.point_kit.specs.declared.shape.Shape.TheVariants as shapes
use Rattle.point_kit.proofs.OrderLaws.{key_total, key_exact}
use Rattle.point_kit.proofs.Sound.{payload_of, payload_fits}
use Rattle.bytes_kit.specs.MessageFits.{IsSoundEntry, IsSoundPoints, cell_fault, cells_fault, held_fault, payload_fault}
use Rattle.bytes_kit.specs.Messages.{Entry}
use Rattle.bytes_kit.proofs.Gathering.{new_key}

true_from : (b : Bool) → T b → b ≡ true
true_from true h = refl
true_from false h = absurd h

itself : (k : Key) → eq_by_cmp key_cmp k k ≡ true
itself k = ap is_eq (tied_itself key_total k)

-- of two, neither is there
neither : {F : Type 0} (a b : Option F) → option_or a b ≡ None → (a ≡ None) × (b ≡ None)
neither None b e = (refl, e)
neither (Some x) b e = absurd cc

pub sound_payload : (i : ℕ) (s : Shape) (p : Payload) → payload_fault i s p ≡ None → IsSound s p
sound_payload i (shapes.Sum m) (payloads.Sum n) e = payload_of (shapes.Sum m) (payloads.Sum n) refl refl refl (when_none _ _ e) refl
sound_payload i shapes.Gauge (payloads.Gauge n) e = tt
sound_payload i (shapes.Histogram b) (payloads.Hist c n l r) e =
    let one = neither _ _ e in
    let two = neither _ _ one.1 in
    let three = neither _ _ two.1 in
    let four = neither _ _ three.1 in
    payload_of (shapes.Histogram b) (payloads.Hist c n l r) refl (when_none _ _ one.0) (when_none _ _ two.0) (when_none _ _ three.0) (when_none _ _ four.0)
sound_payload i s p e = absurd cc

pub payload_sound : (i : ℕ) (s : Shape) (p : Payload) → IsSound s p → payload_fault i s p ≡ None
payload_sound i (shapes.Sum true) (payloads.Sum n) h = let all = payload_fits (shapes.Sum true) (payloads.Sum n) h in ap (λ (b : Bool). cond b (Some (builds.NegativeTotal i)) None) all.3
payload_sound i (shapes.Sum false) (payloads.Sum n) h = refl
payload_sound i shapes.Gauge (payloads.Gauge n) h = refl
payload_sound i (shapes.Histogram b) (payloads.Hist c n l r) h =
    let all = payload_fits (shapes.Histogram b) (payloads.Hist c n l r) h in
    rw (all.1, all.2, all.3, all.4) refl
payload_sound i s p h = absurd h

held_sound : (i : ℕ) (s : Shape) (h : Held Payload) → held_fault i s h ≡ None → IsSoundHeld s h
held_sound i s (One p) e = sound_payload i s p e
held_sound i s Conflict e = tt

sound_held : (i : ℕ) (s : Shape) (h : Held Payload) → IsSoundHeld s h → held_fault i s h ≡ None
sound_held i s (One p) h = payload_sound i s p h
sound_held i s Conflict h = refl

cell_at : (i : ℕ) (e : Entry) (b : Bool) → nat_le e.1.time e.0.start ≡ b → cond b (Some builds.TimeNotAfterStart) (held_fault i e.0.stream.shape e.1.held) ≡ None → IsSoundEntry e
cell_at i e true late h = absurd cc
cell_at i e false late h = (leb-false e.1.time e.0.start late, held_sound i e.0.stream.shape e.1.held h)

sound_cell : (i : ℕ) (e : Entry) → cell_fault i e ≡ None → IsSoundEntry e
sound_cell i e h = cell_at i e (nat_le e.1.time e.0.start) refl h

cell_sound : (i : ℕ) (e : Entry) → IsSoundEntry e → cell_fault i e ≡ None
cell_sound i e h = ap (λ (b : Bool). cond b (Some builds.TimeNotAfterStart) (held_fault i e.0.stream.shape e.1.held)) (lt-leb e.1.time e.0.start h.0) ∙ sound_held i e.0.stream.shape e.1.held h.1

-- what is found among cells of which no fault is found
sound_found : (i : ℕ) (es : List Entry) (k : Key) (c : Cell Payload) → cells_fault i es ≡ None → find key_cmp k es ≡ Some c → IsSoundEntry (k, c)
sound_found i [] k c none e = absurd cc
sound_found i (x ∷ es) k c none e =
    let both = neither _ _ none in
    elim (eq_by_cmp key_cmp k x.0) as (λ b. eq_by_cmp key_cmp k x.0 ≡ b → cond b (Some x.1) (find key_cmp k es) ≡ Some c → IsSoundEntry (k, c)) [
      | true ↦ λ t s.
          let one : x.0 ≡ k = sym (key_exact k x.0 ((Equal-is (key_cmp k x.0)).0 t)) in
          let two : x.1 ≡ c = cc in
          subst IsSoundEntry (λ j. (one j, two j)) (sound_cell i x both.0)
      | false ↦ λ t s. sound_found (i + 1) es k c both.1 s
    ] refl e

pub sound_points : (points : Points) (es : List Entry) → entries points ≡ es → cells_fault 0 es ≡ None → IsSoundPoints points
sound_points points es is none k c e = sound_found 0 es k c none (ap (find key_cmp k) (sym is) ∙ sym (get-entries points k) ∙ e)

-- sound cells, one after the other
all_sound : (i : ℕ) (es : List Entry) → AllByRecursion IsSoundEntry es → cells_fault i es ≡ None
all_sound i [] h = refl
all_sound i (x ∷ es) h = ap (λ (o : Option ExportFault). option_or o (cells_fault (i + 1) es)) (cell_sound i x h.0) ∙ all_sound (i + 1) es h.1

find_behind : (front : List Entry) (e : Entry) (es : List Entry) → find key_cmp e.0 front ≡ None → find key_cmp e.0 (front ++ e ∷ es) ≡ Some e.1
find_behind [] e es none = ap (λ (b : Bool). cond b (Some e.1) (find key_cmp e.0 es)) (itself e.0)
find_behind (x ∷ front) e es none =
    elim (eq_by_cmp key_cmp e.0 x.0) as (λ b. cond b (Some x.1) (find key_cmp e.0 front) ≡ None → cond b (Some x.1) (find key_cmp e.0 (front ++ e ∷ es)) ≡ Some e.1) [
      | true ↦ λ h. absurd cc
      | false ↦ λ h. find_behind front e es h
    ] none

pub sorted_of : (points : Points) → is_sorted key_cmp (entries points) ≡ true
sorted_of points = true_from (is_sorted key_cmp (entries points)) (entries_sorted points)

-- each cell of a map is found under its key
found_each : (front es : List Entry) → is_sorted key_cmp (front ++ es) ≡ true → AllByRecursion (λ (e : Entry). find key_cmp e.0 (front ++ es) ≡ Some e.1) es
found_each front [] h = tt
found_each front (e ∷ es) h =
    let whole : front ++ e ∷ es ≡ (front ++ e ∷ []) ++ es = sym (append_assoc front (e ∷ []) es) in (
      find_behind front e es (new_key front e es h),
      subst (λ (l : List Entry). AllByRecursion (λ (x : Entry). find key_cmp x.0 l ≡ Some x.1) es) (sym whole) (found_each (front ++ e ∷ []) es (ap (is_sorted key_cmp) (sym whole) ∙ h)),
    )

sound_each : (points : Points) (es : List Entry) → IsSoundPoints points → AllByRecursion (λ (e : Entry). get points e.0 ≡ Some e.1) es → AllByRecursion IsSoundEntry es
sound_each points [] sound all = tt
sound_each points (e ∷ es) sound all = (sound e.0 e.1 all.0, sound_each points es sound all.1)

got_each : (points : Points) (es : List Entry) → AllByRecursion (λ (e : Entry). find key_cmp e.0 (entries points) ≡ Some e.1) es → AllByRecursion (λ (e : Entry). get points e.0 ≡ Some e.1) es
got_each points [] all = tt
got_each points (e ∷ es) all = (get-entries points e.0 ∙ all.0, got_each points es all.1)

-- no fault is found among sound cells
pub points_sound : (points : Points) → IsSoundPoints points → cells_fault 0 (entries points) ≡ None
points_sound points sound =
    all_sound 0 (entries points) (sound_each points (entries points) sound (got_each points (entries points) (found_each [] (entries points) (sorted_of points))))
