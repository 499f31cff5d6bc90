-- What is named once, and what is not named.
use Rattle.std.proofs.Common.{◌≡◌, ℕ, ℤ, Contains, ◌<◌, ◌∙◌, ◌||◌, List, [], ◌∷◌, Bool, true, false, Some, length, get_or, slice_get, refl, sym, ap, subst, suc, zero, arith, true≢false, eq-eqb, nat_eq, ◌&&◌}
use Rattle.std.specs.List.{list_any, IsDistinct}
use Rattle.std.proofs.lemmas.Map.Keys.{apart_from_distinct, IsDistinct-tail}
use Rattle.attr_kit.specs.declared.attr_set.AttrSet.{AttrSet}
use Rattle.attr_kit.specs.contracts.attr_set.AttrSetEq.TheImpl.Laws as set_laws
use Rattle.attr_kit.specs.Exact.{exact_unsigned, first_holds, second_holds}
use Rattle.std.proofs.lemmas.List.{length-map}
use Rattle.agg_kit.specs.Entries.{entry_of}
use Rattle.agg_kit.specs.Feeding.{set_eq}
use Rattle.recorder_kit.specs.Lines.{nothing_named, recording_at, recording_of, recordings_of, AllThere, IsNamed, IsThere}
use Rattle.recorder_kit.specs.Log.{ByName}
use Rattle.recorder_kit.specs.declared.line.Line.{Line}
use Rattle.recorder_kit.specs.declared.line.Spot.{Spot}
use Rattle.recorder_kit.specs.declared.line.Spot.TheVariants.{Number, Name}
use Rattle.recorder_kit.specs.contracts.line.NamedPartialEq.TheImpl as names
use Rattle.recorder_kit.specs.declared.line.Named.{Named}
use Rattle.recorder_kit.proofs.Logs.{at-get, found, got, there-get, within}

-- a test that one passes finds one
pub any-at : {X : Type 0} (p : X → Bool) (xs : List X) (i : ℕ) (x : X) → slice_get xs i ≡ Some x → p x ≡ true → list_any p xs ≡ true
any-at p [] i x h t = absurd (cc)
any-at p (y ∷ xs) zero x h t = let is : y ≡ x = cc in ap (λ z. p z || list_any p xs) is ∙ ap (λ b. b || list_any p xs) t
any-at p (y ∷ xs) (suc i) x h t = ap (λ b. p y || b) (any-at p xs i x h t) ∙ by (p y)
  where
    by : (b : Bool) → (b || true) ≡ true
    by true = refl
    by false = refl

-- one that stands at two places of a list without twins
apart : {X : Type 0} (eq : X → X → Bool) (xs : List X) (i j : ℕ) (x : X) → IsDistinct eq xs → eq x x ≡ true → slice_get xs i ≡ Some x → slice_get xs j ≡ Some x → i < j → ⊥
apart eq xs i j x one self a b l =
    let differ = apart_from_distinct eq xs i j x one l (within xs j x b) in
    true≢false (sym self ∙ sym (λ k. eq (got xs i x x a k) (got xs j x x b k)) ∙ differ)

pub one-place : {X : Type 0} (eq : X → X → Bool) (xs : List X) (i j : ℕ) (x : X) → IsDistinct eq xs → eq x x ≡ true → slice_get xs i ≡ Some x → slice_get xs j ≡ Some x → i ≡ j
one-place eq [] i j x one self a b = absurd (cc)
one-place eq (y ∷ xs) zero zero x one self a b = refl
one-place eq (y ∷ xs) zero (suc j) x one self a b = absurd (apart eq (y ∷ xs) zero (suc j) x one self a b (omega arith))
one-place eq (y ∷ xs) (suc i) zero x one self a b = absurd (apart eq (y ∷ xs) zero (suc i) x one self b a (omega arith))
one-place eq (y ∷ xs) (suc i) (suc j) x one self a b = ap suc (one-place eq xs i j x (IsDistinct-tail eq y xs one) self a b)

pub set-itself : (a : AttrSet) → set_eq a a ≡ true
set-itself a = (set_laws.laws-law).refl a

pub name-itself : (m : Named) → (names.ghosts).eq m m ≡ true
name-itself m = λ i. eq-eqb m.instrument m.instrument refl i && eq-eqb m.set m.set refl i

-- equal names are one
pub same-name : (m n : Named) → (names.ghosts).eq m n ≡ true → m ≡ n
same-name m n h =
    let e : (nat_eq m.instrument n.instrument && nat_eq m.set n.set) ≡ true = h in
    λ i. record {
      instrument = exact_unsigned m.instrument n.instrument (first_holds (nat_eq m.instrument n.instrument) (nat_eq m.set n.set) e) i;
      set = exact_unsigned m.set n.set (second_holds (nat_eq m.instrument n.instrument) (nat_eq m.set n.set) e) i;
    }

-- a pair is not named where its set is not there
pub no-set : (ns : List Named) (ks : List AttrSet) (j i : ℕ) (a : AttrSet) → list_any (set_eq a) ks ≡ false → IsNamed ns ks j i a → ⊥
no-set ns ks j i a none is = true≢false (sym (any-at (set_eq a) ks is.0 a is.2 (set-itself a)) ∙ none)

-- nor where it is not among the names
pub no-name : (ns : List Named) (ks : List AttrSet) (j i s : ℕ) (a : AttrSet) → IsDistinct set_eq ks → slice_get ks s ≡ Some a
    → list_any ((names.ghosts).eq (record { instrument = i; set = s })) ns ≡ false → IsNamed ns ks j i a → ⊥
no-name ns ks j i s a one set none is =
    let at : is.0 ≡ s = one-place set_eq ks is.0 s a one (set-itself a) is.2 set in
    let name : Named = record { instrument = i; set = s } in
    let there : slice_get ns j ≡ Some name = is.1 ∙ (λ k. Some (record { instrument = i; set = at k })) in
    true≢false (sym (any-at ((names.ghosts).eq name) ns j name there (name-itself name)) ∙ none)

-- what a line of a log names is named
module _ (ns : List Named) (ks : List AttrSet) (i : ℕ) (a : AttrSet) (v : ℤ) where
  spot-named : (s : Spot) (w : ℤ) → IsThere ns ks s → recording_at ns ks s w ≡ ByName (entry_of i a v) → (j : ℕ) × IsNamed ns ks j i a
  spot-named (Number n) w there is = absurd (cc)
  spot-named (Name j) w there is =
      let m = get_or ns j nothing_named in
      let entry : entry_of m.instrument (get_or ks m.set []) w ≡ entry_of i a v = cc in (
        j,
        (
          m.set,
          found ns j nothing_named there.0 ∙ (λ k. Some (record { instrument = (entry k).instrument; set = m.set })),
          found ks m.set [] there.1 ∙ (λ k. Some ((entry k).attrs)),
        ),
      )

  pub named-in : (ls : List Line) → AllThere ns ks ls → Contains (recordings_of ns ks ls) (ByName (entry_of i a v)) → (j : ℕ) × IsNamed ns ks j i a
  named-in ls all has =
      let d : Line = record { at = Number 0; value = v } in
      let less : has.0 < length ls = subst (λ (n : ℕ). has.0 < n) (length-map ls (recording_of ns ks)) has.1 in
      let line = get_or ls has.0 d in
      spot-named line.at line.value (there-get ns ks ls has.0 d all less) (sym (at-get ns ks ls has.0 d (ByName (entry_of i a v)) less) ∙ has.2)
