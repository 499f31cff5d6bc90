-- What holders take in lawful histories meets the premises on taken collections.
use Rattle.std.proofs.Common.{◌≡◌, ℕ, ◌<◌, Bool, inl, inr, List, [], ◌∷◌, length, Option, Some, None, refl, sym, ap, subst, ◌∙◌, arith}
use Rattle.std.specs.Option.{option_map_or}
use Rattle.std.proofs.lemmas.Bool.{le-ltb}
use Rattle.schedule_kit.specs.Schedule.Act.{Measured, Collected, Restarted}
use Rattle.schedule_kit.specs.Deeds.{Deed, Made, Holder, made, took, first, entries_at, AreLawful}
use Rattle.schedule_kit.specs.Deeds.Deed.{Wrote}
use Rattle.schedule_kit.specs.Members.{In}
use Rattle.schedule_kit.specs.Taken.{taken_collections, made_of, newest, up_to, entries_taken}
use Rattle.schedule_kit.proofs.Members.{found_In, filter_map-In}
use Rattle.schedule_kit.proofs.History.{in_order}
use Rattle.schedule_kit.proofs.Incarnations.{entries_before}
use Rattle.schedule_kit.proofs.Newest.{NewestIs, newest_is}
use Rattle.schedule_kit.proofs.Parts.{AreTaken}

first_none : {N : Type 0} (ds : List (Deed N)) → first 0 ds ≡ []
first_none [] = refl
first_none (d ∷ ds) = rw (le-ltb (length ds) 0 (omega arith)) (first_none ds)

module _ {N : Type 0} (starts : List ℕ) where
  -- what was taken was made
  pub taken_made : (ds : List (Deed N)) (h : Holder) (m : Made N) → In m (taken_collections starts ds h) → In m (made starts ds)
  taken_made ds h m i = let r = filter_map-In (made_of (made starts ds)) m (took ds h) i in found_In _ m (made starts ds) r.2

  -- the entries of the newest collection taken are those recorded up to it
  pub up_to_newest : (ds : List (Deed N)) (h : Holder) (w start : ℕ) → entries_at starts (first (up_to (taken_collections starts ds h) w start) ds) w start ≡ entries_taken (taken_collections starts ds h) w start
  up_to_newest ds h w start = go (newest (taken_collections starts ds h) w start) (newest_is (taken_collections starts ds h) w start)
    where
      go : (n : Option (Made N)) → NewestIs (taken_collections starts ds h) w start n → entries_at starts (first (option_map_or (λ (m : Made N). m.before) n 0) ds) w start ≡ option_map_or (λ (m : Made N). m.entries) n []
      go None none = ap (λ l. entries_at starts l w start) (first_none ds)
      go (Some n) is =
          let own = entries_before starts ds n (taken_made ds h n is.0) in
          ap (λ v. entries_at starts (first n.before ds) v start) (sym is.1) ∙ ap (entries_at starts (first n.before ds) n.writer) (sym is.2) ∙ sym own.1

  module _ (fits : ℕ → List N → N → Bool) (gateways : ℕ) where
    -- by a writer that exists
    pub writer_there : (ds : List (Deed N)) → AreLawful fits starts gateways ds → (m : Made N) → In m (made starts ds) → m.writer < length starts
    writer_there [] l m i = absurd i
    writer_there (Wrote w (Collected time closing) ∷ ds) l m (inl e) = subst (λ (v : ℕ). v < length starts) (sym (ap (λ (x : Made N). x.writer) e)) l.0.0
    writer_there (Wrote w (Collected time closing) ∷ ds) l m (inr i) = writer_there ds l.1 m i
    writer_there (Wrote w (Measured x) ∷ ds) l m i = writer_there ds l.1 m i
    writer_there (Wrote w (Restarted x) ∷ ds) l m i = writer_there ds l.1 m i
    writer_there (_ ∷ ds) l m i = writer_there ds l.1 m i

    -- of every lawful history in which no two writers share an identity
    pub are_taken : {I : Type 0} (who : ℕ → I) → ((v w : ℕ) → v < length starts → w < length starts → who v ≡ who w → v ≡ w) → (ds : List (Deed N)) → AreLawful fits starts gateways ds → (h : Holder) → AreTaken who (taken_collections starts ds h)
    are_taken who distinct ds l h = record {
      order = λ m n i j. in_order starts fits gateways ds l m n (taken_made ds h m i) (taken_made ds h n j);
      apart = λ m n i j. distinct m.writer n.writer (writer_there ds l m (taken_made ds h m i)) (writer_there ds l n (taken_made ds h n j));
    }
