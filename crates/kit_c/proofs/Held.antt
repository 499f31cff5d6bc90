-- What a writer holds, and that it stays whatever the writer does.
use Rattle.std.proofs.Common.{◌≡◌, ◌∙◌, ℕ, List, Option, None, Some, Result, Ok, Err, OnOk, OnErr, length, position, slice_get, ◌++◌, ◌∷◌, [], refl, sym, ap, subst}
use Rattle.std.specs.Map.{keys_of, lookup}
use Rattle.std.specs.Option.{option_map_or, unwrap_or}
use Rattle.indexmap.specs.IndexMap.{insert_entry}
use Rattle.agg_kit.specs.Entries.{Entry}
use Rattle.agg_kit.specs.Measuring.{after_measure, held_entry}
use Rattle.agg_kit.specs.Tallies.{Tallied}
use Rattle.attr_kit.specs.declared.attr_set.AttrSet.{AttrSet}
use Rattle.recorder_kit.specs.Log.{Recording, ByName, ByNumber, after_at}
use Rattle.writer_kit.proofs.Recorded.{all-held, taken-all}
use Rattle.writer_kit.specs.Recording.{after_hold, after_record, after_restart, after_take_in}
use Rattle.writer_kit.specs.Refusals.{hold_fault}
use Rattle.writer_kit.specs.Written.{Written}
use Rattle.kit_c.proofs.Numbers.{held_push, keys_push, last_is, noted_last, number_is, numbers_stay, one_noted}
use Rattle.kit_c.specs.Holding.{after_holding, holding_fault, number_after, number_at}
use Rattle.kit_c.specs.Pairs.{AreAll, AreNumbers, held_of, number_of, pair_eq}
use Rattle.kit_c.specs.declared.pairs.Pair.{Pair}

-- ---- whether a pair is held, by its place among those in memory

module _ (v w : Written) (es : List (Pair × ℕ)) (p : Pair) (all : AreAll v.tally.held es) (view : v ≡ w) where
  here : number_at w p.instrument p.attrs ≡ position (pair_eq p) (keys_of es)
  here =
      ap (λ (hs : List (ℕ × AttrSet)). number_of hs p.instrument p.attrs) (sym (all.0 ∙ ap (λ (u : Written). u.tally.held) view))
      ∙ number_is p (keys_of es)

  pub known : (n : ℕ) → Some n ≡ position (pair_eq p) (keys_of es)
      → (holding_fault w p.instrument p.attrs ≡ None) × (n ≡ number_after w p.instrument p.attrs) × (w ≡ after_holding w p.instrument p.attrs)
  known n at =
      let is = here ∙ sym at in (
        ap (λ (o : Option ℕ). option_map_or (λ m. None) o (hold_fault w p.instrument)) is,
        sym (ap (λ (o : Option ℕ). unwrap_or o (length w.tally.held)) is),
        sym (ap (λ (o : Option ℕ). option_map_or (λ m. w) o (after_hold w p.instrument p.attrs)) is),
      )

  pub absent : None ≡ position (pair_eq p) (keys_of es) → number_at w p.instrument p.attrs ≡ None
  absent at = here ∙ sym at

  pub anew : None ≡ position (pair_eq p) (keys_of es)
      → (hold_fault v p.instrument ≡ holding_fault w p.instrument p.attrs) × (length v.tally.held ≡ number_after w p.instrument p.attrs)
      × (after_hold v p.instrument p.attrs ≡ after_holding w p.instrument p.attrs)
  anew at =
      let is = here ∙ sym at in (
        ap (λ (u : Written). hold_fault u p.instrument) view ∙ sym (ap (λ (o : Option ℕ). option_map_or (λ m. None) o (hold_fault w p.instrument)) is),
        ap (λ (u : Written). length u.tally.held) view ∙ sym (ap (λ (o : Option ℕ). unwrap_or o (length w.tally.held)) is),
        ap (λ (u : Written). after_hold u p.instrument p.attrs) view ∙ sym (ap (λ (o : Option ℕ). option_map_or (λ m. w) o (after_hold w p.instrument p.attrs)) is),
      )

-- ---- that it stays

record_holds : (t : Tallied) (r : Recording) → (after_at t r).held ≡ t.held
record_holds t (ByName e) = refl
record_holds t (ByNumber n v) = on (held_entry t n v)
  where
    on : (o : Option Entry) → (option_map_or (after_measure t) o t).held ≡ t.held
    on None = refl
    on (Some e) = refl

-- the same is held
stays : (es : List (Pair × ℕ)) (w v : Written) → w.tally.held ≡ v.tally.held → AreAll w.tally.held es → AreAll v.tally.held es
stays es w v same all = subst (λ (hs : List (ℕ × AttrSet)). AreAll hs es) same all

module _ {U F : Type 0} (es : List (Pair × ℕ)) (w v : Written) (told : Result U F) where
  either : (x : Written) → w.tally.held ≡ x.tally.held → OnOk told (v ≡ x) → OnErr told (v ≡ w) → w.tally.held ≡ v.tally.held
  either x same is kept = by told is kept
    where
      by : (r : Result U F) → OnOk r (v ≡ x) → OnErr r (v ≡ w) → w.tally.held ≡ v.tally.held
      by (Ok y) is kept = same ∙ sym (ap (λ (u : Written). u.tally.held) is)
      by (Err f) is kept = sym (ap (λ (u : Written). u.tally.held) kept)

  pub recorded : (r : Recording) → OnOk told (v ≡ after_record w r) → OnErr told (v ≡ w) → AreAll w.tally.held es → AreAll v.tally.held es
  recorded r is kept = stays es w v (either (after_record w r) (sym (record_holds w.tally r)) is kept)

  pub taken : (rs : List Recording) → OnOk told (v ≡ after_take_in w rs) → OnErr told (v ≡ w) → AreAll w.tally.held es → AreAll v.tally.held es
  taken rs is kept =
      stays es w v (either (after_take_in w rs) (sym (all-held w.tally rs) ∙ sym (ap (λ (t : Tallied). t.held) (taken-all w.tally rs))) is kept)

  pub restarted : (start : ℕ) → OnOk told (v ≡ after_restart w start) → OnErr told (v ≡ w) → AreAll w.tally.held es → AreAll v.tally.held es
  restarted start is kept = stays es w v (either (after_restart w start) refl is kept)

-- ---- a pair more

pub held_more : (es fs : List (Pair × ℕ)) (w v : Written) (p : Pair) (n : ℕ) → AreAll w.tally.held es → lookup (pair_eq p) es ≡ None
    → fs ≡ insert_entry pair_eq es p n → n ≡ length w.tally.held → v ≡ after_hold w p.instrument p.attrs → AreAll v.tally.held fs
held_more es fs w v p n all none is number more =
    let hs : List (ℕ × AttrSet) = w.tally.held in
    let last : fs ≡ es ++ (p, n) ∷ [] = is ∙ noted_last es p n none in
    let keys : keys_of fs ≡ keys_of es ++ p ∷ [] = ap (λ (l : List (Pair × ℕ)). keys_of l) last ∙ keys_push es p n in
    let pairs : held_of (keys_of fs) ≡ hs ++ (p.instrument, p.attrs) ∷ [] =
    ap held_of keys ∙ held_push (keys_of es) p ∙ ap (λ (l : List (ℕ × AttrSet)). l ++ (p.instrument, p.attrs) ∷ []) all.0 in
    let stands : slice_get (hs ++ (p.instrument, p.attrs) ∷ []) n ≡ Some (p.instrument, p.attrs) =
    ap (slice_get (hs ++ (p.instrument, p.attrs) ∷ [])) number ∙ last_is hs (p.instrument, p.attrs) in
    let numbers : AreNumbers (hs ++ (p.instrument, p.attrs) ∷ []) fs =
    subst (λ (l : List (Pair × ℕ)). AreNumbers (hs ++ (p.instrument, p.attrs) ∷ []) l) (sym is)
    (one_noted (hs ++ (p.instrument, p.attrs) ∷ []) es p n (numbers_stay hs ((p.instrument, p.attrs) ∷ []) es all.1) stands) in
    subst (λ (u : Written). AreAll u.tally.held fs) (sym more) (pairs, numbers)
