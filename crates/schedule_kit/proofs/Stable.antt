-- What a holder took stays what it is as more is made.
use Rattle.std.proofs.Common.{◌≡◌, ℕ, ◌+◌, ◌<◌, ◌≤◌, Bool, true, false, cond, ◌==◌, ◌⊎◌, inl, inr, List, [], ◌∷◌, ◌++◌, length, Option, refl, ap, ◌∙◌, arith}
use Rattle.std.specs.List.{filter_map, cons_option}
use Rattle.std.proofs.lemmas.Bool.{ne_eqb}
use Rattle.schedule_kit.specs.Schedule.Act.{Measured, Collected, Restarted}
use Rattle.schedule_kit.specs.Deeds.{Deed, Made, Holder, made, took, mails, AreLawful}
use Rattle.schedule_kit.specs.Deeds.Deed.{Wrote, Delivered, Merged, Sent, Handed}
use Rattle.schedule_kit.specs.Deeds.Holder.{AtGateway, InMail}
use Rattle.schedule_kit.specs.Members.{In}
use Rattle.schedule_kit.specs.Taken.{taken_collections, made_of}
use Rattle.schedule_kit.proofs.Members.{In-append}

either : (b : Bool) (k : ℕ) (xs ys : List ℕ) → In k (cond b xs ys) → In k xs ⊎ In k ys
either true k xs ys h = inl h
either false k xs ys h = inr h

same_found : {N : Type 0} (m : Made N) (ms : List (Made N)) (ks : List ℕ) → ((k : ℕ) → In k ks → k < m.number) → filter_map (made_of (m ∷ ms)) ks ≡ filter_map (made_of ms) ks
same_found m ms [] h = refl
same_found {N} m ms (k ∷ ks) h =
    let low : k < m.number = h k (inl refl) in
    let here : made_of (m ∷ ms) k ≡ made_of ms k = rw (ne_eqb m.number k (omega arith)) refl in
    ap (λ (o : Option (Made N)). cons_option o (filter_map (made_of (m ∷ ms)) ks)) here ∙ ap (cons_option (made_of ms k)) (same_found m ms ks (λ j i. h j (inr i)))

module _ {N : Type 0} (fits : ℕ → List N → N → Bool) (starts : List ℕ) (gateways : ℕ) where
  -- what was taken was made
  pub took_made : (ds : List (Deed N)) → AreLawful fits starts gateways ds → (h : Holder) (k : ℕ) → In k (took ds h) → k ≤ length (made starts ds)
  took_made [] l h k i = absurd i
  took_made (Delivered x g ∷ ds) l (AtGateway h) k i = elim (either (g == h) k (took ds (AtGateway h) ++ x ∷ []) (took ds (AtGateway h)) i) [
    | inl a ↦ elim (In-append k (took ds (AtGateway h)) (x ∷ []) a) [
      | inl old ↦ took_made ds l.1 (AtGateway h) k old
      | inr new ↦ elim new [ inl e ↦ let b : x ≤ length (made starts ds) = l.0.1 in omega arith | inr w ↦ absurd w ]
    ]
    | inr b ↦ took_made ds l.1 (AtGateway h) k b
  ]
  took_made (Delivered x g ∷ ds) l (InMail n) k i = took_made ds l.1 (InMail n) k i
  took_made (Merged into from ∷ ds) l (AtGateway h) k i = elim (either (into == h) k (took ds (AtGateway h) ++ took ds (AtGateway from)) (took ds (AtGateway h)) i) [
    | inl a ↦ elim (In-append k (took ds (AtGateway h)) (took ds (AtGateway from)) a) [ inl old ↦ took_made ds l.1 (AtGateway h) k old | inr new ↦ took_made ds l.1 (AtGateway from) k new ]
    | inr b ↦ took_made ds l.1 (AtGateway h) k b
  ]
  took_made (Merged into from ∷ ds) l (InMail n) k i = took_made ds l.1 (InMail n) k i
  took_made (Handed m g answered ∷ ds) l (AtGateway h) k i = elim (either (g == h) k (took ds (AtGateway h) ++ took ds (InMail m)) (took ds (AtGateway h)) i) [
    | inl a ↦ elim (In-append k (took ds (AtGateway h)) (took ds (InMail m)) a) [ inl old ↦ took_made ds l.1 (AtGateway h) k old | inr new ↦ took_made ds l.1 (InMail m) k new ]
    | inr b ↦ took_made ds l.1 (AtGateway h) k b
  ]
  took_made (Handed m g answered ∷ ds) l (InMail n) k i = took_made ds l.1 (InMail n) k i
  took_made (Sent from to ∷ ds) l (AtGateway h) k i = took_made ds l.1 (AtGateway h) k i
  took_made (Sent from to ∷ ds) l (InMail n) k i = elim (either (n == mails ds + 1) k (took ds (AtGateway from)) (took ds (InMail n)) i) [ inl a ↦ took_made ds l.1 (AtGateway from) k a | inr b ↦ took_made ds l.1 (InMail n) k b ]
  took_made (Wrote w (Measured e) ∷ ds) l h k i = took_made ds l.1 h k i
  took_made (Wrote w (Restarted start) ∷ ds) l h k i = took_made ds l.1 h k i
  took_made (Wrote w (Collected time closing) ∷ ds) l h k i = let older = took_made ds l.1 h k i in omega arith

  -- a new collection changes nothing that was taken
  pub taken_stable : (ds : List (Deed N)) (w time : ℕ) (closing : Bool) → AreLawful fits starts gateways ds → (h : Holder) → taken_collections starts (Wrote w (Collected time closing) ∷ ds) h ≡ taken_collections starts ds h
  taken_stable ds w time closing l h = same_found _ (made starts ds) (took ds h) (λ k i. let old = took_made ds l h k i in omega arith)
