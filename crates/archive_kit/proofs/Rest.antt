-- What is shown of collections where incarnations were adopted: the collections of the others.
use Rattle.std.proofs.Common.{◌≡◌, ℕ, Bool, true, false, not, ◌&&◌, ◌==◌, cond, inl, inr, List, [], ◌∷◌, ◌++◌, map, filter, Option, Some, None, refl, sym, ap, subst, ◌∙◌}
use mathlib.Core.Bool.{true≢false}
use Rattle.std.proofs.lemmas.Bool.{and_parts, eqb-true}
use Rattle.std.specs.List.{flat_map}
use Rattle.std.specs.Option.{option_map_or}
use Rattle.std.specs.declared.cmp.Ordering.{Ordering}
use Rattle.std.specs.Ordering.{eq_by_cmp}
use Rattle.std.specs.FinMap.{same_map}
use Rattle.point_kit.specs.Best.{best}
use Rattle.point_kit.specs.States.{points_under}
use Rattle.point_kit.proofs.StateLaws.{get-state_of}
use Rattle.schedule_kit.specs.Deeds.{Made}
use Rattle.schedule_kit.specs.Members.{In}
use Rattle.schedule_kit.specs.Rounds.{Rounding, IsSound, points, state}
use Rattle.schedule_kit.specs.Taken.{newest, later, entries_taken}
use Rattle.schedule_kit.proofs.Members.{filter-In, In-left}
use Rattle.schedule_kit.proofs.Parts.{AreTaken, from_round}
use Rattle.archive_kit.specs.Showing.{hides, shown}
use Rattle.archive_kit.specs.Adopting.{not_adopted, HideWhole}
use Rattle.archive_kit.proofs.Lists.{no_member}
use Rattle.archive_kit.proofs.Showing.{get-shown}

under-append : {K X : Type 0} (R : K → K → Ordering) (q : K) (ps rs : List (K × X)) → points_under R q (ps ++ rs) ≡ points_under R q ps ++ points_under R q rs
under-append R q [] rs = refl
under-append {K} {X} R q (p ∷ ps) rs =
    let here = λ (r : K × X). eq_by_cmp R q r.0 in
    let rest = under-append R q ps rs in
    elim (eq_by_cmp R q p.0) as (λ b. map (λ r. r.1) (cond b (p ∷ filter here (ps ++ rs)) (filter here (ps ++ rs))) ≡ map (λ r. r.1) (cond b (p ∷ filter here ps) (filter here ps)) ++ points_under R q rs) [
      | true ↦ ap (λ l. p.1 ∷ l) rest
      | false ↦ rest
    ]

module _ {N K I X P : Type 0} (r : Rounding N K I X P) (s : IsSound r) (adopted : I → ℕ → Bool) where
  abbrev under : K → List (K × (ℕ × P)) → List (ℕ × P)
  under q ps = points_under r.order q ps

  abbrev all : List (Made N) → List (K × (ℕ × P))
  all ms = flat_map (points r) ms

  split : (q : K) (ps rs : List (K × (ℕ × P))) → under q (ps ++ rs) ≡ under q ps ++ under q rs
  split q ps rs = under-append r.order q ps rs

  -- where a key is of the incarnations with one answer to `adopted`, a collection of the other answer has nothing under it
  apart : (q : K) (h b : Bool) (m : Made N) → ((x : X) → In x (r.names m.writer m.entries) → q ≡ r.key (r.who m.writer) m.start x → adopted (r.who m.writer) m.start ≡ h) → adopted (r.who m.writer) m.start ≡ b → (h ≡ b → ⊥) → under q (points r m) ≡ []
  apart q h b m is e differ = no_member _ (λ y i.
      let c = from_round r s (m ∷ []) q y (subst (λ (l : List (ℕ × P)). In y l) (sym (split q (points r m) [])) (In-left y (under q (points r m)) [] i)) in
      elim c.2 [ inl same ↦ differ (sym (is c.1 (subst (λ (n : Made N). In c.1 (r.names n.writer n.entries)) same c.3) (subst (λ (n : Made N). q ≡ r.key (r.who n.writer) n.start c.1) same c.4)) ∙ e) | inr none ↦ none ])

  under_rest : (q : K) (h : Bool) (ms : List (Made N)) → ((m : Made N) → In m ms → (x : X) → In x (r.names m.writer m.entries) → q ≡ r.key (r.who m.writer) m.start x → adopted (r.who m.writer) m.start ≡ h) → under q (all (not_adopted r.who adopted ms)) ≡ cond h [] (under q (all ms))
  under_rest q true [] is = refl
  under_rest q false [] is = refl
  under_rest q true (m ∷ ms) is =
      let rest = under_rest q true ms (λ n i. is n (inr i)) in
      elim (adopted (r.who m.writer) m.start) as (λ b. adopted (r.who m.writer) m.start ≡ b → under q (all (cond (not b) (m ∷ not_adopted r.who adopted ms) (not_adopted r.who adopted ms))) ≡ []) [
        | true ↦ λ _. rest
        | false ↦ λ e. split q (points r m) (all (not_adopted r.who adopted ms)) ∙ ap (λ l. l ++ under q (all (not_adopted r.who adopted ms))) (apart q true false m (is m (inl refl)) e true≢false) ∙ rest
      ] refl
  under_rest q false (m ∷ ms) is =
      let rest = under_rest q false ms (λ n i. is n (inr i)) in
      elim (adopted (r.who m.writer) m.start) as (λ b. adopted (r.who m.writer) m.start ≡ b → under q (all (cond (not b) (m ∷ not_adopted r.who adopted ms) (not_adopted r.who adopted ms))) ≡ under q (points r m ++ all ms)) [
        | true ↦ λ e. rest ∙ sym (split q (points r m) (all ms) ∙ ap (λ l. l ++ under q (all ms)) (apart q false true m (is m (inl refl)) e (λ f. true≢false (sym f))))
        | false ↦ λ _. split q (points r m) (all (not_adopted r.who adopted ms)) ∙ ap (λ l. under q (points r m) ++ l) rest ∙ sym (split q (points r m) (all ms))
      ] refl

  -- a state shows what the collections of those come to that were not adopted
  pub shown_is : (names : K → K → Bool) (ms : List (Made N)) → HideWhole r names adopted ms → shown names (state r ms) ≡ state r (not_adopted r.who adopted ms)
  shown_is names ms whole = same_map s.total s.antisymmetric _ _ (λ q.
      get-shown s.total s.antisymmetric names (state r ms) q
      ∙ ap (λ c. cond (not (hides names (state r ms) q)) c None) (get-state_of s.total s.antisymmetric r.same s.equivalence s.exact (all ms) q)
      ∙ elim (hides names (state r ms) q) as (λ h. cond (not h) (best r.same (under q (all ms))) None ≡ best r.same (cond h [] (under q (all ms)))) [ true ↦ refl | false ↦ refl ]
      ∙ ap (best r.same) (sym (under_rest q (hides names (state r ms) q) ms (λ m i x j e. sym (whole m i x j) ∙ ap (hides names (state r ms)) (sym e))))
      ∙ sym (get-state_of s.total s.antisymmetric r.same s.equivalence s.exact (all (not_adopted r.who adopted ms)) q))

module _ {N I : Type 0} (who : ℕ → I) (adopted : I → ℕ → Bool) where
  -- the rest of what was taken is taken
  pub rest_taken : (ms : List (Made N)) → AreTaken who ms → AreTaken who (not_adopted who adopted ms)
  rest_taken ms t = record {
    order = λ m n i j. t.order m n (filter-In _ m ms i).0 (filter-In _ n ms j).0;
    apart = λ m n i j. t.apart m n (filter-In _ m ms i).0 (filter-In _ n ms j).0;
  }

  -- its newest collections are those of all, but for the adopted incarnations
  newest_rest : (ms : List (Made N)) (w start : ℕ) → newest (not_adopted who adopted ms) w start ≡ cond (adopted (who w) start) None (newest ms w start)
  newest_rest [] w start = elim (adopted (who w) start) as (λ b. ◌≡◌ {A = Option (Made N)} None (cond b None None)) [ true ↦ refl | false ↦ refl ]
  newest_rest (m ∷ ms) w start =
      let rest = newest_rest ms w start in
      let F = not_adopted who adopted ms in
      elim ((m.writer == w) && (m.start == start)) as (λ b. ((m.writer == w) && (m.start == start)) ≡ b
      → newest (cond (not (adopted (who m.writer) m.start)) (m ∷ F) F) w start ≡ cond (adopted (who w) start) None (cond b (Some (later m (newest ms w start))) (newest ms w start))) [
        | true ↦ λ e.
            let its = and_parts (m.writer == w) (m.start == start) e in
            let same : adopted (who m.writer) m.start ≡ adopted (who w) start = ap (λ v. adopted (who v) m.start) (eqb-true m.writer w its.0) ∙ ap (adopted (who w)) (eqb-true m.start start its.1) in
            ap (λ b. newest (cond (not b) (m ∷ F) F) w start) same
            ∙ elim (adopted (who w) start) as (λ a. newest F w start ≡ cond a None (newest ms w start) → newest (cond (not a) (m ∷ F) F) w start ≡ cond a None (Some (later m (newest ms w start)))) [
              | true ↦ λ n. n
              | false ↦ λ n. ap (λ b. cond b (Some (later m (newest F w start))) (newest F w start)) e ∙ ap (λ x. Some (later m x)) n
            ] rest
        | false ↦ λ e. elim (adopted (who m.writer) m.start) as (λ a. newest (cond (not a) (m ∷ F) F) w start ≡ newest F w start) [
          | true ↦ refl
          | false ↦ ap (λ b. cond b (Some (later m (newest F w start))) (newest F w start)) e
        ] ∙ rest
      ] refl

  pub entries_rest : (ms : List (Made N)) (w start : ℕ) → entries_taken (not_adopted who adopted ms) w start ≡ cond (adopted (who w) start) [] (entries_taken ms w start)
  entries_rest ms w start =
      ap (λ (m : Option (Made N)). option_map_or (λ (m : Made N). m.entries) m []) (newest_rest ms w start)
      ∙ elim (adopted (who w) start) as (λ b. option_map_or (λ (m : Made N). m.entries) (cond b None (newest ms w start)) [] ≡ cond b [] (option_map_or (λ (m : Made N). m.entries) (newest ms w start) [])) [ true ↦ refl | false ↦ refl ]
