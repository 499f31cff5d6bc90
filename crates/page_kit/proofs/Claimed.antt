-- Names that are claimed one after the other, and which metrics are shown then.
use Rattle.std.proofs.Common.{◌≡◌, ℕ, ◌+◌, ◌<◌, length, drop, get_or, ◌||◌, Bool, true, false, cond, List, [], ◌∷◌, ◌++◌, map, refl, sym, ap, ◌∙◌, append_assoc}
use Rattle.std.specs.Cmp.{eq_by_cmp_equiv}
use Rattle.std.specs.Cmp.Lexicographic.{nat_list_cmp_total}
use Rattle.std.specs.List.{list_any}
use Rattle.std.specs.Ordering.{eq_by_cmp}
use Rattle.std.proofs.lemmas.List.{append-nil, at_drop_more, map-append}
use Rattle.std.proofs.lemmas.Map.Text.{is_eq-slice_cmp}
use Rattle.attr_kit.specs.Orders.{text_cmp}
use Rattle.page_kit.specs.Families.{Measured, own_names, are_claimed, is_claimed, shown_after, hidden_after, IsClaimed}
use Rattle.page_kit.specs.Metrics.{claims}
use Rattle.page_kit.specs.Names.{same}

or_swap : (a b c : Bool) → (a || (b || c)) ≡ (b || (a || c))
or_swap true true c = refl
or_swap true false c = refl
or_swap false true c = refl
or_swap false false c = refl

any_behind : (p : List ℕ → Bool) (ys : List (List ℕ)) (k : List ℕ) (ns : List (List ℕ)) → list_any p ((ys ++ k ∷ []) ++ ns) ≡ (p k || list_any p (ys ++ ns))
any_behind p [] k ns = refl
any_behind p (y ∷ ys) k ns = ap (λ b. p y || b) (any_behind p ys k ns) ∙ or_swap (p y) (p k) (list_any p (ys ++ ns))

either : (b c : Bool) → cond b true c ≡ (b || c)
either true c = refl
either false c = refl

pub tied : (k q : List ℕ) → eq_by_cmp text_cmp k q ≡ same q k
tied k q = (eq_by_cmp_equiv nat_list_cmp_total).symm k q ∙ is_eq-slice_cmp q k

-- one name more is claimed
pub claimed_more : (ys names old new : List (List ℕ)) (k : List ℕ) → IsClaimed (ys ++ names) old → ((q : List ℕ) → list_any (eq_by_cmp text_cmp q) new ≡ cond (eq_by_cmp text_cmp k q) true (list_any (eq_by_cmp text_cmp q) old)) → IsClaimed ((ys ++ k ∷ []) ++ names) new
claimed_more ys names old new k before adds =
    λ q. adds q ∙ either (eq_by_cmp text_cmp k q) (list_any (eq_by_cmp text_cmp q) old) ∙ ap (λ b. b || list_any (eq_by_cmp text_cmp q) old) (tied k q) ∙ ap (λ b. same q k || b) (before q)
    ∙ sym (any_behind (same q) ys k names)

pub nothing_claimed : IsClaimed [] []
nothing_claimed = λ q. refl

-- the metrics so far are told apart by the names that are claimed so far
pub record Told (set : List (List ℕ)) (shown hidden left all : List Measured) : Type 0 where
  pub names : List (List ℕ)
  pub claimed : IsClaimed names set
  pub shows : shown ++ shown_after names left ≡ shown_after own_names all
  pub hides : hidden ++ hidden_after names left ≡ hidden_after own_names all

shows_at : (b : Bool) (m : Measured) (shown rest : List Measured) → shown ++ cond b rest (m ∷ rest) ≡ cond b shown (shown ++ m ∷ []) ++ rest
shows_at true m shown rest = refl
shows_at false m shown rest = sym (append_assoc shown (m ∷ []) rest)

hides_at : (b : Bool) (m : Measured) (hidden rest : List Measured) → hidden ++ cond b (m ∷ rest) rest ≡ cond b (hidden ++ m ∷ []) hidden ++ rest
hides_at true m hidden rest = sym (append_assoc hidden (m ∷ []) rest)
hides_at false m hidden rest = refl

-- a metric more
pub told_more : (set next : List (List ℕ)) (shown hidden newly others left rest all : List Measured) (m : Measured) (b : Bool) → Told set shown hidden left all → left ≡ m ∷ rest
    → ((names : List (List ℕ)) → IsClaimed names set → b ≡ is_claimed names m) → ((names : List (List ℕ)) → IsClaimed names set → IsClaimed (claims m.0 ++ names) next)
    → newly ≡ cond b shown (shown ++ m ∷ []) → others ≡ cond b (hidden ++ m ∷ []) hidden → Told next newly others rest all
told_more set next shown hidden newly others left rest all m b t first is claims_next news olds =
    let here = is t.names t.claimed in
    record {
      names = claims m.0 ++ t.names;
      claimed = claims_next t.names t.claimed;
      shows = ap (λ l. l ++ shown_after (claims m.0 ++ t.names) rest) (news ∙ ap (λ c. cond c shown (shown ++ m ∷ [])) here) ∙ sym (shows_at (is_claimed t.names m) m shown (shown_after (claims m.0 ++ t.names) rest))
          ∙ ap (λ l. shown ++ shown_after t.names l) (sym first) ∙ t.shows;
      hides = ap (λ l. l ++ hidden_after (claims m.0 ++ t.names) rest) (olds ∙ ap (λ c. cond c (hidden ++ m ∷ []) hidden) here) ∙ sym (hides_at (is_claimed t.names m) m hidden (hidden_after (claims m.0 ++ t.names) rest))
          ∙ ap (λ l. hidden ++ hidden_after t.names l) (sym first) ∙ t.hides;
    }

-- at the end all are
pub told_shown : (set : List (List ℕ)) (shown hidden left all : List Measured) → Told set shown hidden left all → left ≡ [] → shown ≡ shown_after own_names all
told_shown set shown hidden left all t none = sym (append-nil shown) ∙ ap (λ l. shown ++ shown_after t.names l) (sym none) ∙ t.shows

pub told_hidden : (set : List (List ℕ)) (shown hidden left all : List Measured) → Told set shown hidden left all → left ≡ [] → hidden ≡ hidden_after own_names all
told_hidden set shown hidden left all t none = sym (append-nil hidden) ∙ ap (λ l. hidden ++ hidden_after t.names l) (sym none) ∙ t.hides

-- the name at a place is claimed, or one behind it
pub claim_found : (names keys claims : List (List ℕ)) (i : ℕ) (x : List ℕ) (b : Bool) → i < length claims → x ≡ get_or claims i x → IsClaimed names keys → b ≡ list_any (eq_by_cmp text_cmp x) keys
    → are_claimed names (drop i claims) ≡ (b || are_claimed names (drop (i + 1) claims))
claim_found names keys claims i x b h is told found =
    at_drop_more (are_claimed names) claims i x h ∙ ap (λ y. list_any (same y) names || are_claimed names (drop (i + 1) claims)) (sym is)
    ∙ ap (λ c. c || are_claimed names (drop (i + 1) claims)) (sym (told x) ∙ sym found)

-- a metric that is put to one of two lists, as it is read
pub kept_read : {A B : Type 0} (view : A → B) (b : Bool) (xs : List A) (m : A) → map view (cond b xs (xs ++ m ∷ [])) ≡ cond b (map view xs) (map view xs ++ view m ∷ [])
kept_read view true xs m = refl
kept_read view false xs m = map-append view xs (m ∷ [])

pub added_read : {A B : Type 0} (view : A → B) (b : Bool) (xs : List A) (m : A) → map view (cond b (xs ++ m ∷ []) xs) ≡ cond b (map view xs ++ view m ∷ []) (map view xs)
added_read view true xs m = map-append view xs (m ∷ [])
added_read view false xs m = refl
