-- What states show, and what is shown of states joined.
use Rattle.std.proofs.Common.{◌≡◌, Bool, true, false, not, cond, ◌||◌, List, [], ◌∷◌, Option, Some, None, refl, sym, ap, ◌∙◌}
use mathlib.Core.Bool.{true≢false}
use Rattle.std.specs.List.{list_any}
use Rattle.std.specs.Option.{is_some}
use Rattle.std.specs.declared.cmp.Ordering.{Ordering}
use Rattle.std.specs.Ordering.{eq_by_cmp}
use Rattle.std.specs.Cmp.{IsTotalOrder, Equal-is, eq_by_cmp_equiv}
use Rattle.std.specs.FinMap.{FinMap, IsAntisymmetric, get, keys, get-retain_keys, contains_key-keys, same_map}
use Rattle.point_kit.specs.Join.{join_options, IsCommutative, IsAssociative, IsIdempotent}
use Rattle.point_kit.specs.States.{join_maps}
use Rattle.point_kit.proofs.StateLaws.{get-join_maps, maps_commute, maps_associate, maps_idempotent}
use Rattle.archive_kit.specs.Showing.{NamesNoNamer, hides, shown, join_shown, IsShownBelow}
use Rattle.archive_kit.proofs.Lists.{same_bool, not_true, any_member, member_any}

some_there : {V : Type 0} (o : Option V) → is_some o ≡ true → (v : V) × (o ≡ Some v)
some_there None e = absurd (true≢false (sym e))
some_there (Some v) e = (v, refl)

any_there : {K : Type 0} {R : K → K → Ordering} → IsAntisymmetric R → (p : K → Bool) (t : K) (xs : List K) → p t ≡ true → list_any (eq_by_cmp R t) xs ≡ true → list_any p xs ≡ true
any_there anti p t [] h e = e
any_there {R = R} anti p t (x ∷ xs) h e = elim (eq_by_cmp R t x) as (λ b. eq_by_cmp R t x ≡ b → (b || list_any (eq_by_cmp R t) xs) ≡ true → (p x || list_any p xs) ≡ true) [
  | true ↦ λ tied _. ap (λ b. b || list_any p xs) (sym (ap p (anti t x ((Equal-is (R t x)).0 tied))) ∙ h)
  | false ↦ λ _ r. elim (p x) as (λ b. (b || list_any p xs) ≡ true) [ true ↦ refl | false ↦ any_there anti p t xs h r ]
] refl e

module _ {K V : Type 0} {R : K → K → Ordering} (o : IsTotalOrder R) (anti : IsAntisymmetric R) (names : K → K → Bool) where
  -- what is hidden is named by what stands there, and what is named so is hidden
  pub namer : (m : FinMap R V) (k : K) → hides names m k ≡ true → (t : K) × (v : V) × (get m t ≡ Some v) × (names t k ≡ true)
  namer m k e =
      let s = any_member (λ t. names t k) (keys m) e in
      let there = some_there (get m s.0) (contains_key-keys m s.0 ∙ member_any (eq_by_cmp R s.0) (keys m) s.0 s.1 ((eq_by_cmp_equiv o).refl s.0)) in
      (s.0, there.0, there.1, s.2)

  pub hidden_by : (m : FinMap R V) (k t : K) (v : V) → get m t ≡ Some v → names t k ≡ true → hides names m k ≡ true
  hidden_by m k t v e n = any_there anti (λ t. names t k) t (keys m) n (sym (contains_key-keys m t) ∙ ap (λ (x : Option V). is_some x) e)

  pub get-shown : (m : FinMap R V) (q : K) → get (shown names m) q ≡ cond (not (hides names m q)) (get m q) None
  get-shown m q = get-retain_keys m (λ k. not (hides names m k)) q (λ x t. ap (λ k. not (hides names m k)) (sym (anti q x t)))

  is_shown : (m : FinMap R V) (q : K) → hides names m q ≡ false → get (shown names m) q ≡ get m q
  is_shown m q h = get-shown m q ∙ ap (λ b. cond (not b) (get m q) None) h

  is_hidden : (m : FinMap R V) (q : K) → hides names m q ≡ true → get (shown names m) q ≡ None
  is_hidden m q h = get-shown m q ∙ ap (λ b. cond (not b) (get m q) None) h

  module _ (none : NamesNoNamer names) where
    -- what names something is shown
    namer_shown : (m : FinMap R V) (t k : K) → names t k ≡ true → get (shown names m) t ≡ get m t
    namer_shown m t k n = is_shown m t (not_true (hides names m t) (λ h.
        let s = namer m t h in
        true≢false (sym n ∙ none s.0 t k s.3)))

    pub shown-hides : (m : FinMap R V) (k : K) → hides names (shown names m) k ≡ hides names m k
    shown-hides m k = same_bool _ _
        (λ h. let s = namer (shown names m) k h in hidden_by m k s.0 s.1 (sym (namer_shown m s.0 k s.3) ∙ s.2) s.3)
        (λ h. let s = namer m k h in hidden_by (shown names m) k s.0 s.1 (namer_shown m s.0 k s.3 ∙ s.2) s.3)

    -- what is shown of what is shown
    pub shown_twice : (m : FinMap R V) → shown names (shown names m) ≡ shown names m
    shown_twice m = same_map o anti _ _ (λ q.
        get-shown (shown names m) q ∙ ap (λ b. cond (not b) (get (shown names m) q) None) (shown-hides m q)
        ∙ elim (hides names m q) as (λ b. hides names m q ≡ b → cond (not b) (get (shown names m) q) None ≡ get (shown names m) q) [ true ↦ λ h. sym (is_hidden m q h) | false ↦ λ _. refl ] refl)

    module _ (join : V → V → V) where
      abbrev J : FinMap R V → FinMap R V → FinMap R V
      J = join_maps join

      abbrev S : FinMap R V → FinMap R V
      S m = shown names m

      joined_same : (a b c d : FinMap R V) (t : K) → get a t ≡ get c t → get b t ≡ get d t → get (J a b) t ≡ get (J c d) t
      joined_same a b c d t e f =
          get-join_maps o anti join a b t ∙ ap (λ x. join_options join x (get b t)) e ∙ ap (join_options join (get c t)) f ∙ sym (get-join_maps o anti join c d t)

      same_namers : (a b : FinMap R V) (t k : K) → names t k ≡ true → get (J (S a) (S b)) t ≡ get (J a b) t
      same_namers a b t k n = joined_same (S a) (S b) a b t (namer_shown a t k n) (namer_shown b t k n)

      same_hides : (a b : FinMap R V) (k : K) → hides names (J (S a) (S b)) k ≡ hides names (J a b) k
      same_hides a b k = same_bool _ _
          (λ h. let s = namer (J (S a) (S b)) k h in hidden_by (J a b) k s.0 s.1 (sym (same_namers a b s.0 k s.3) ∙ s.2) s.3)
          (λ h. let s = namer (J a b) k h in hidden_by (J (S a) (S b)) k s.0 s.1 (same_namers a b s.0 k s.3 ∙ s.2) s.3)

      left_there : (v : V) (x : Option V) → (w : V) × (join_options join (Some v) x ≡ Some w)
      left_there v None = (v, refl)
      left_there v (Some w) = (join v w, refl)

      right_there : (w : V) (x : Option V) → (v : V) × (join_options join x (Some w) ≡ Some v)
      right_there w None = (w, refl)
      right_there w (Some v) = (join v w, refl)

      -- what one hides both joined hide
      hides_left : (a b : FinMap R V) (k : K) → hides names a k ≡ true → hides names (J a b) k ≡ true
      hides_left a b k h =
          let s = namer a k h in
          let there = left_there s.1 (get b s.0) in
          hidden_by (J a b) k s.0 there.0 (get-join_maps o anti join a b s.0 ∙ ap (λ x. join_options join x (get b s.0)) s.2 ∙ there.1) s.3

      hides_right : (a b : FinMap R V) (k : K) → hides names b k ≡ true → hides names (J a b) k ≡ true
      hides_right a b k h =
          let s = namer b k h in
          let there = right_there s.1 (get a s.0) in
          hidden_by (J a b) k s.0 there.0 (get-join_maps o anti join a b s.0 ∙ ap (join_options join (get a s.0)) s.2 ∙ there.1) s.3

      -- what states show, joined, shows what the states joined show
      pub shown_join : (a b : FinMap R V) → S (J (S a) (S b)) ≡ S (J a b)
      shown_join a b = same_map o anti _ _ (λ q.
          get-shown (J (S a) (S b)) q
          ∙ ap (λ h. cond (not h) (get (J (S a) (S b)) q) None) (same_hides a b q)
          ∙ elim (hides names (J a b) q) as (λ h. hides names (J a b) q ≡ h → cond (not h) (get (J (S a) (S b)) q) None ≡ cond (not h) (get (J a b) q) None) [
            | true ↦ λ _. refl
            | false ↦ λ h. joined_same (S a) (S b) a b q
                (is_shown a q (not_true _ (λ t. true≢false (sym (hides_left a b q t) ∙ h))))
                (is_shown b q (not_true _ (λ t. true≢false (sym (hides_right a b q t) ∙ h))))
          ] refl
          ∙ sym (get-shown (J a b) q))

      alone : (x : Option V) → join_options join x None ≡ x
      alone None = refl
      alone (Some v) = refl

      nothing_more : (a b : FinMap R V) (t : K) → get b t ≡ None → get (J a b) t ≡ get a t
      nothing_more a b t f = get-join_maps o anti join a b t ∙ ap (join_options join (get a t)) f ∙ alone (get a t)

      -- what a state hides may come again, and may be left out
      module _ (a b : FinMap R V) (hidden : (q : K) (v : V) → get b q ≡ Some v → hides names a q ≡ true) where
        skipped_hides : (k : K) → hides names (J a b) k ≡ hides names a k
        skipped_hides k = same_bool _ _ (λ h. let s = namer (J a b) k h in go s.0 s.1 s.2 s.3 (get b s.0) refl) (hides_left a b k)
          where
            go : (t : K) (v : V) → get (J a b) t ≡ Some v → names t k ≡ true → (x : Option V) → get b t ≡ x → hides names a k ≡ true
            go t v e n None f = hidden_by a k t v (sym (nothing_more a b t f) ∙ e) n
            go t v e n (Some w) f = let s = namer a t (hidden t w f) in absurd (true≢false (sym n ∙ none s.0 t k s.3))

        skipped_get : (q : K) (x : Option V) → get b q ≡ x → hides names a q ≡ false → get (J a b) q ≡ get a q
        skipped_get q None f h = nothing_more a b q f
        skipped_get q (Some w) f h = absurd (true≢false (sym (hidden q w f) ∙ h))

        pub skipped : S (J a b) ≡ S a
        skipped = same_map o anti _ _ (λ q.
            get-shown (J a b) q
            ∙ ap (λ h. cond (not h) (get (J a b) q) None) (skipped_hides q)
            ∙ elim (hides names a q) as (λ h. hides names a q ≡ h → cond (not h) (get (J a b) q) None ≡ cond (not h) (get a q) None) [
              | true ↦ λ _. refl
              | false ↦ λ h. skipped_get q (get b q) refl h
            ] refl
            ∙ sym (get-shown a q))

      -- states that show the same may stand for one another in a join
      pub shown_congruent : (a b c d : FinMap R V) → S a ≡ S c → S b ≡ S d → S (J a b) ≡ S (J c d)
      shown_congruent a b c d e f = sym (shown_join a b) ∙ ap (λ x. S (J x (S b))) e ∙ ap (λ x. S (J (S c) x)) f ∙ shown_join c d

      abbrev N : FinMap R V → FinMap R V → FinMap R V
      N = join_shown names join

      pub shown_commute : IsCommutative join → IsCommutative N
      shown_commute h a b = ap (λ x. S x) (maps_commute o anti join h a b)

      pub shown_associate : IsAssociative join → IsAssociative N
      shown_associate h a b c =
          shown_congruent (N a b) c (J a b) c (shown_twice (J a b)) refl
          ∙ ap (λ x. S x) (maps_associate o anti join h a b c)
          ∙ shown_congruent a (J b c) a (N b c) refl (sym (shown_twice (J b c)))

      pub shown_idempotent : IsIdempotent join → (a : FinMap R V) → N a a ≡ S a
      shown_idempotent h a = ap (λ x. S x) (maps_idempotent o anti join h a)

      -- a delta: where it brings what its receiver once had to what its sender has, it brings as much to a receiver that has
      -- that once again, whatever either forgot
      pub delta_brings : IsAssociative join → (receiver once delta sender : FinMap R V)
          → S (J receiver once) ≡ S receiver → S (J once delta) ≡ S (J once sender) → S (J receiver delta) ≡ S (J receiver sender)
      delta_brings h r c d s has brings =
          shown_congruent r d (J r c) d (sym has) refl
          ∙ ap (λ x. S x) (maps_associate o anti join h r c d)
          ∙ shown_congruent r (J c d) r (J c s) refl brings
          ∙ ap (λ x. S x) (sym (maps_associate o anti join h r c s))
          ∙ shown_congruent (J r c) s r s has refl

      -- the order of what is shown: that of states, whatever was forgotten on either side
      pub shown_trans : IsAssociative join → (a b c : FinMap R V) → IsShownBelow names join a b → IsShownBelow names join b c → IsShownBelow names join a c
      shown_trans h a b c ab bc =
          shown_congruent a c a (J b c) refl (sym bc)
          ∙ ap (λ x. S x) (sym (maps_associate o anti join h a b c))
          ∙ shown_congruent (J a b) c b c ab refl
          ∙ bc

      pub shown_forgets : (a b : FinMap R V) → IsShownBelow names join a b → IsShownBelow names join (S a) (S b)
      shown_forgets a b below = shown_join a b ∙ below ∙ sym (shown_twice b)

      pub shown_part : IsIdempotent join → (a : FinMap R V) → IsShownBelow names join (S a) a
      shown_part h a = shown_congruent (S a) a a a (shown_twice a) refl ∙ ap (λ x. S x) (maps_idempotent o anti join h a)

      -- what brings as much to a state brings as much to a greater one
      pub shown_brings_more : IsCommutative join → IsAssociative join → (r q c t : FinMap R V) → IsShownBelow names join r q
          → S (J r c) ≡ S (J r t) → S (J q c) ≡ S (J q t)
      shown_brings_more comm h r q c t above brings = wide c ∙ shown_congruent q (J r c) q (J r t) refl brings ∙ sym (wide t)
        where
          wide : (x : FinMap R V) → S (J q x) ≡ S (J q (J r x))
          wide x =
              shown_congruent q x (J r q) x (sym above) refl
              ∙ ap (λ m. S (J m x)) (maps_commute o anti join comm r q)
              ∙ ap (λ m. S m) (maps_associate o anti join h q r x)
