-- What comes of a log that is taken in.
use Rattle.std.proofs.Common.{arith, ◌≡◌, ◌∙◌, ◌<◌, ◌≤◌, ◌+◌, ◌-◌, ℕ, ℤ, zero, suc, List, [], ◌∷◌, ◌++◌, Option, Some, None, length, map, get_or, take, drop, ap, refl, sym, subst}
use Rattle.std.specs.Prelude.{pos, negsuc, is_none}
use Rattle.std.specs.Option.{option_map_or}
use Rattle.std.proofs.lemmas.List.{append_assoc, map_more, length-append, length-drop, take-append-drop}
use Rattle.std.proofs.Math.Seq.{take-append_seam, take-length}
use Rattle.agg_kit.specs.Entries.{entry_of}
use Rattle.agg_kit.proofs.Refusals.{into-negative}
use Rattle.agg_kit.specs.Measuring.{after_measure, fault_of}
use Rattle.agg_kit.specs.Refusals.{is_negative_for}
use Rattle.agg_kit.specs.Tallies.{Tallied}
use Rattle.agg_kit.specs.declared.fault.TallyFault.{TallyFault}
use Rattle.agg_kit.specs.declared.fault.TallyFault.TheVariants.{Negative}
use Rattle.attr_kit.specs.declared.attr_set.AttrSet.{AttrSet}
use Rattle.plan_kit.specs.Plans.{feeds_of, kind_of}
use Rattle.plan_kit.specs.declared.instrument.Kind.{Kind}
use Rattle.plan_kit.specs.declared.instrument.Kind.TheVariants.{Counter}
use Rattle.recorder_kit.proofs.Pieces.{pieces_are_the_whole}
use Rattle.recorder_kit.specs.Lines.{outcome_of}
use Rattle.recorder_kit.specs.Log.{Logged, Outcome, Recording, ByName, after_at, fault_at, nothing_taken, or_first, taken_in, taken_one}
use Rattle.recorder_kit.specs.declared.taken.Taken.{Taken}
use Rattle.writer_kit.specs.Recording.{after_take_in}
use Rattle.writer_kit.specs.Taking.{IsTaken, gone}
use Rattle.writer_kit.specs.Written.{Written}
use Rattle.uses.specs.Logs.{comes_to}

-- ---- what is gone from a log, and what is left

abbrev pub IsRest : Logged → Logged → ℕ → Type 0
IsRest r s k = s ≡ record r { log = drop k r.log }

how_many : (r s : Logged) (k : ℕ) → k ≤ length r.log → IsRest r s k → length r.log - length s.log ≡ k
how_many r s k within rest =
    let e : length s.log ≡ length r.log - k = ap (λ (x : Logged). length x.log) rest ∙ length-drop k r.log in
    omega (arith, within, e)

gone_and_left : (r s : Logged) (k : ℕ) → k ≤ length r.log → IsRest r s k → gone r s ++ s.log ≡ r.log
gone_and_left r s k within rest =
    ap (λ n. take n r.log ++ s.log) (how_many r s k within rest) ∙ ap (λ (x : Logged). take k r.log ++ x.log) rest ∙ take-append-drop k r.log

front : (r s : Logged) (xs : List Recording) → r.log ≡ xs ++ s.log → gone r s ≡ xs
front r s xs is =
    let n : length r.log ≡ length xs + length s.log = ap (λ (l : List Recording). length l) is ∙ length-append xs s.log in
    let m : length r.log - length s.log ≡ length xs = omega (arith, n) in
    ap (λ i. take i r.log) m ∙ ap (λ l. take (length xs) l) is ∙ take-append_seam xs s.log

-- no more is gone than were taken in
pub few : (r s : Logged) (k most : ℕ) → k ≤ length r.log → IsRest r s k → k ≤ most → length r.log - length s.log ≤ most
few r s k most within rest at_most = let e = how_many r s k within rest in omega (arith, e, at_most)

-- a log of which nothing is left
pub all_gone : (r s : Logged) → s.log ≡ [] → gone r s ≡ r.log
all_gone r s none =
    let n : length s.log ≡ 0 = ap (λ (l : List Recording). length l) none in
    let m : length r.log - length s.log ≡ length r.log = omega (arith, n) in
    ap (λ i. take i r.log) m ∙ take-length r.log

-- a loop that notes the values of a list has noted one more
pub log_more : (r s : Logged) (f : ℤ → Recording) (xs : List ℤ) (i : ℕ) (x : Recording) → s ≡ record r { log = r.log ++ x ∷ [] } → r.log ≡ map f (take i xs) → i < length xs
    → x ≡ f (get_or xs i (pos 0)) → s.log ≡ map f (take (i + 1) xs)
log_more r s f xs i x is so_far lt at =
    ap (λ (l : Logged). l.log) is ∙ ap (λ (l : List Recording). l ++ x ∷ []) so_far ∙ ap (λ (y : Recording). map f (take i xs) ++ y ∷ []) at ∙ sym (map_more f xs i (pos 0) lt)

-- ---- logs by parts

by_pieces : (t : Tallied) (rs qs : List Recording) → comes_to t (rs ++ qs) ≡ comes_to (comes_to t rs) qs
by_pieces t rs qs = ap (λ (o : Outcome). o.tally) (pieces_are_the_whole t rs qs)

-- one that is taken in, and noted in then
pub noted_then : (t u : Tallied) (r s v : Logged) (x : Recording) (k : ℕ) → k ≤ length r.log → IsRest r s k → u ≡ comes_to t (gone r s) → v ≡ record s { log = s.log ++ x ∷ [] }
    → comes_to u v.log ≡ comes_to t (r.log ++ x ∷ [])
noted_then t u r s v x k within rest taken noted =
    ap (λ a. comes_to a v.log) taken
    ∙ ap (λ (l : Logged). comes_to (comes_to t (gone r s)) l.log) noted
    ∙ sym (by_pieces t (gone r s) (s.log ++ x ∷ []))
    ∙ ap (comes_to t) (sym (append_assoc (gone r s) s.log (x ∷ [])) ∙ ap (λ l. l ++ x ∷ []) (gone_and_left r s k within rest))

-- one that is taken in by two pieces
pub two_pieces : (t a b : Tallied) (r s u : Logged) (k m : ℕ) → k ≤ length r.log → IsRest r s k → m ≤ length s.log → IsRest s u m
    → a ≡ comes_to t (gone r s) → b ≡ comes_to a (gone s u) → b ≡ comes_to t (gone r u)
two_pieces t a b r s u k m within rest again left first second =
    let whole : r.log ≡ (gone r s ++ gone s u) ++ u.log =
    sym (append_assoc (gone r s) (gone s u) u.log ∙ ap (λ l. gone r s ++ l) (gone_and_left s u m again left) ∙ gone_and_left r s k within rest) in
    second
    ∙ ap (λ x. comes_to x (gone s u)) first
    ∙ sym (by_pieces t (gone r s) (gone s u))
    ∙ ap (comes_to t) (sym (front r u (gone r s ++ gone s u) whole))

-- ---- one of three that is refused

-- a value below 0 of a counter
negative : (t : Tallied) (attrs : AttrSet) → kind_of t.plan 0 ≡ Some Counter → fault_of t (entry_of 0 attrs (negsuc 0)) ≡ Some Negative
unfolding fault_of
negative t attrs counter =
    into-negative t (entry_of 0 attrs (negsuc 0)) (feeds_of t.plan 0) (ap (λ (k : Option Kind). is_none k) counter) (ap (λ (k : Option Kind). is_negative_for k (negsuc 0)) counter)

refuses : (o : Outcome) (r : Recording) (f : TallyFault) → fault_at o.tally r ≡ Some f
    → taken_one o r ≡ record o { refused = o.refused + 1; first = or_first o.first (o.recorded + o.refused, f) }
refuses o r f is =
    ap (λ (x : Option TallyFault). option_map_or (λ (f : TallyFault). record o { refused = o.refused + 1; first = or_first o.first (o.recorded + o.refused, f) }) x (record o { tally = after_at o.tally r; recorded = o.recorded + 1 })) is

records : (o : Outcome) (r : Recording) → fault_at o.tally r ≡ None → taken_one o r ≡ record o { tally = after_at o.tally r; recorded = o.recorded + 1 }
records o r is =
    ap (λ (x : Option TallyFault). option_map_or (λ (f : TallyFault). record o { refused = o.refused + 1; first = or_first o.first (o.recorded + o.refused, f) }) x (record o { tally = after_at o.tally r; recorded = o.recorded + 1 })) is

at_most_one : (o : Outcome) (r : Recording) → (taken_one o r).recorded ≤ o.recorded + 1
at_most_one o r = by (fault_at o.tally r) refl
  where
    by : (f : Option TallyFault) → fault_at o.tally r ≡ f → (taken_one o r).recorded ≤ o.recorded + 1
    by None is = let e : (taken_one o r).recorded ≡ o.recorded + 1 = ap (λ (x : Outcome). x.recorded) (records o r is) in omega (arith, e)
    by (Some f) is = let e : (taken_one o r).recorded ≡ o.recorded = ap (λ (x : Outcome). x.recorded) (refuses o r f is) in omega (arith, e)

-- Of three recordings the second is refused. Where two were recorded, those are the others.
module _ (t : Tallied) (a b c : Recording) (here : fault_at t b ≡ Some Negative) (then_ : fault_at (after_at t a) b ≡ Some Negative) where
  abbrev Is : Outcome → Type 0
  Is o = o.recorded ≡ 2 → (o.first ≡ Some (1, Negative)) × (o.tally ≡ after_at (after_at t a) c)

  abbrev one : Outcome
  one = taken_one (nothing_taken t) a

  abbrev two : Outcome
  two = taken_one one b

  two_is : (f : Option TallyFault) → fault_at t a ≡ f → two.recorded ≤ 1
  two_is None is =
      let o : Outcome = record (nothing_taken t) { tally = after_at t a; recorded = 1 } in
      let e : two.recorded ≡ 1 = ap (λ (x : Outcome). (taken_one x b).recorded) (records (nothing_taken t) a is) ∙ ap (λ (x : Outcome). x.recorded) (refuses o b Negative then_) in
      omega (arith, e)
  two_is (Some f) is =
      let o : Outcome = record (nothing_taken t) { refused = 1; first = Some (0, f) } in
      let e : two.recorded ≡ 0 = ap (λ (x : Outcome). (taken_one x b).recorded) (refuses (nothing_taken t) a f is) ∙ ap (λ (x : Outcome). x.recorded) (refuses o b Negative here) in
      omega (arith, e)

  last : (o : Outcome) → o.recorded ≡ 1 → o.first ≡ Some (1, Negative) → o.tally ≡ after_at t a → (f : Option TallyFault) → fault_at o.tally c ≡ f → Is (taken_one o c)
  last o is first tally None none =
      λ h. let e = records o c none in
      (ap (λ (x : Outcome). x.first) e ∙ first, ap (λ (x : Outcome). x.tally) e ∙ ap (λ (x : Tallied). after_at x c) tally)
  last o is first tally (Some f) refused =
      λ h. let e : (taken_one o c).recorded ≡ o.recorded = ap (λ (x : Outcome). x.recorded) (refuses o c f refused) in
      absurd (omega (arith, h, e, is))

  three_is : (f : Option TallyFault) → fault_at t a ≡ f → Is (taken_one two c)
  three_is None is =
      let o : Outcome = record (nothing_taken t) { tally = after_at t a; recorded = 1 } in
      let q : Outcome = record o { refused = 1; first = Some (1, Negative) } in
      let e : two ≡ q = ap (λ (x : Outcome). taken_one x b) (records (nothing_taken t) a is) ∙ refuses o b Negative then_ in
      subst (λ (x : Outcome). Is (taken_one x c)) (sym e) (last q refl refl refl (fault_at q.tally c) refl)
  three_is (Some f) is =
      λ h. let o : Outcome = record (nothing_taken t) { refused = 1; first = Some (0, f) } in
      let e : two.recorded ≡ 0 = ap (λ (x : Outcome). (taken_one x b).recorded) (refuses (nothing_taken t) a f is) ∙ ap (λ (x : Outcome). x.recorded) (refuses o b Negative here) in
      let l = at_most_one two c in
      absurd (omega (arith, h, e, l))

  of_many : (n : ℕ) → n ≤ 3 → Is (taken_in t (take n (a ∷ b ∷ c ∷ [])))
  of_many zero few = λ h. absurd (omega (arith, h))
  of_many (suc zero) few = λ h. let l = at_most_one (nothing_taken t) a in absurd (omega (arith, h, l))
  of_many (suc (suc zero)) few = λ h. let l = two_is (fault_at t a) refl in absurd (omega (arith, h, l))
  of_many (suc (suc (suc zero))) few = three_is (fault_at t a) refl
  of_many (suc (suc (suc (suc n)))) few = absurd (omega (arith, few))

-- 3, -1 and 4 of a counter
module _ (attrs : AttrSet) where
  abbrev three : List Recording
  three = ByName (entry_of 0 attrs (pos 3)) ∷ ByName (entry_of 0 attrs (negsuc 0)) ∷ ByName (entry_of 0 attrs (pos 4)) ∷ []

  abbrev others : Tallied → Tallied
  others t = after_measure (after_measure t (entry_of 0 attrs (pos 3))) (entry_of 0 attrs (pos 4))

  pub three_noted : (q r s u : Logged) → q ≡ record { log = []; capacity = 3 } → r ≡ record q { log = q.log ++ ByName (entry_of 0 attrs (pos 3)) ∷ [] }
      → s ≡ record r { log = r.log ++ ByName (entry_of 0 attrs (negsuc 0)) ∷ [] } → u ≡ record s { log = s.log ++ ByName (entry_of 0 attrs (pos 4)) ∷ [] } → u.log ≡ three
  three_noted q r s u first second third fourth =
      ap (λ (x : Logged). x.log) fourth
      ∙ ap (λ (x : Logged). x.log ++ ByName (entry_of 0 attrs (pos 4)) ∷ [])
      (third ∙ ap (λ (x : Logged). record x { log = x.log ++ ByName (entry_of 0 attrs (negsuc 0)) ∷ [] }) (second ∙ ap (λ (x : Logged). record x { log = x.log ++ ByName (entry_of 0 attrs (pos 3)) ∷ [] }) first))

  but_one : (t u : Tallied) (n : ℕ) (k : Taken) → kind_of t.plan 0 ≡ Some Counter → n ≤ 3 → outcome_of u k ≡ taken_in t (take n three)
      → k.recorded ≡ 2 → (k.first ≡ Some (1, Negative)) × (u ≡ others t)
  but_one t u n k counter few told =
      let a = ByName (entry_of 0 attrs (pos 3)) in
      let b = ByName (entry_of 0 attrs (negsuc 0)) in
      let c = ByName (entry_of 0 attrs (pos 4)) in
      let h = of_many t a b c (negative t attrs counter) (negative (after_measure t (entry_of 0 attrs (pos 3))) attrs counter) n few in
      subst (λ (o : Outcome). o.recorded ≡ 2 → (o.first ≡ Some (1, Negative)) × (o.tally ≡ others t)) (sym told) h

  pub three_taken : (w v : Written) (r s : Logged) (most : ℕ) (k : Taken) → kind_of w.tally.plan 0 ≡ Some Counter → r.log ≡ three → IsTaken w r s most k
      → v ≡ after_take_in w (gone r s) → k.recorded ≡ 2 → (k.first ≡ Some (1, Negative)) × (v.tally ≡ others w.tally)
  three_taken w v r s most k counter is its after_ two =
      let n = length r.log - length s.log in
      let e = how_many r s (k.recorded + k.refused) its.within its.rest in
      let m : length r.log ≡ 3 = ap (λ (l : List Recording). length l) is in
      let within = its.within in
      let few : n ≤ 3 = omega (arith, e, m, within) in
      let h = but_one w.tally (comes_to w.tally (gone r s)) n k counter few (its.told ∙ ap (λ l. taken_in w.tally (take n l)) is) two in
      (h.0, ap (λ (x : Written). x.tally) after_ ∙ h.1)
