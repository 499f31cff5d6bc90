-- Names tell incarnations apart as tombstones' attributes do, and marks tell names.
use Rattle.std.proofs.Common.{◌≡◌, ℕ, zero, suc, ◌<◌, ◌≤◌, Bool, true, false, not, cond, ◌||◌, List, [], ◌∷◌, ◌++◌, ◌+◌, length, get_or, Option, Some, None, Result, Ok, Err, IsOk, OnOk, OnErr, map, slice_get, pos, codes, refl, sym, ap, subst, ◌∙◌, arith}
use mathlib.Core.Bool.{true≢false}
use Rattle.std.specs.Prelude.{nat_lt, fold, IfNone}
use Rattle.std.proofs.lemmas.Bool.{ltb-true}
use Rattle.std.proofs.lemmas.List.{append-nil, length-append}
use Rattle.std.proofs.lemmas.List.Folds.{list_any-append}
use Rattle.std.proofs.lemmas.List.Sums.{fails_before_first, passes_at_first}
use Rattle.std.specs.List.{AllByRecursion, IsDistinct, list_any, position, position_or_len}
use Rattle.indexmap.specs.IndexSet.{insert_all, insert_key}
use Rattle.attr_kit.specs.Exact.{IsExact, exact_lists, exact_pairs, exact_texts, exact_through, exact_unsigned, exact_values}
use Rattle.attr_kit.specs.contracts.attr_set.AttrSetEq.TheImpl.Laws as set_laws
use Rattle.attr_kit.specs.contracts.txt.TxtEq.TheImpl.Laws as text_laws
use Rattle.attr_kit.specs.declared.attr_set.AttrSet.{AttrSet}
use Rattle.attr_kit.specs.declared.attr_value.AttrValue.{AttrValue}
use Rattle.attr_kit.specs.declared.attr_value.AttrValue.TheVariants as values
use Rattle.point_kit.specs.declared.writer_id.WriterId.{WriterId}
use Rattle.uuid.proofs.TextLemmas.{by_index_length}
use Rattle.uuid.specs.Text.{hyphenated_text, lower}
use Rattle.archive_kit.specs.Named.{AreNames, AreOf, Grows, IsMarkOf, Name, has_name, is_name, mark_name, mark_names, name_attrs, name_of, service_place, text_eq}
use Rattle.archive_kit.specs.Tombstones.{incarnation_attrs, set_eq}
use Rattle.archive_kit.specs.contracts.names.MarkEq.TheImpl.Laws as mark_laws
use Rattle.archive_kit.specs.contracts.names.MarkPartialEq.TheImpl as equal
use Rattle.archive_kit.specs.declared.names.Mark.{Mark}
use Rattle.archive_kit.proofs.Lists.{not_true, same_bool}
use Rattle.archive_kit.proofs.Tombstones.{first_text, second_text, third_number}

pub set_exact : IsExact set_eq
set_exact = exact_lists (exact_pairs exact_texts exact_values)

pub set_itself : (a : AttrSet) → set_eq a a ≡ true
set_itself a = (set_laws.laws-law).refl a

-- ---- names

-- a name that is an incarnation's
pub name_told : (w : WriterId) (s : ℕ) (n : Name) → is_name w s n ≡ true → n ≡ name_of w s
name_told w s n e =
    let same : name_attrs n ≡ incarnation_attrs w s = set_exact _ _ e in
    λ i. record { service = ap second_text same i; instance = ap first_text same i; start = ap third_number same i }

pub name_tells : (w : WriterId) (s : ℕ) (n : Name) → n ≡ name_of w s → is_name w s n ≡ true
name_tells w s n e = ap (is_name w s) e ∙ set_itself (incarnation_attrs w s)

-- what tells a name tells what it names
pub told_alike : (w : WriterId) (s : ℕ) (attrs : AttrSet) (n : Name) → attrs ≡ name_attrs n → is_name w s n ≡ set_eq attrs (incarnation_attrs w s)
told_alike w s attrs n e = ap (λ (a : AttrSet). set_eq a (incarnation_attrs w s)) (sym e)

pub none_alike : (w : WriterId) (s : ℕ) (attrs : AttrSet) → (attrs ≡ incarnation_attrs w s → ⊥) → set_eq attrs (incarnation_attrs w s) ≡ false
none_alike w s attrs none = not_true _ (λ t. none (set_exact _ _ t))

-- the text of an instance has 36 bytes
pub text_long : (w : WriterId) → length (hyphenated_text lower w.instance) ≡ 36
text_long w = by_index_length 36 _

pub too_short : (w : WriterId) (s : ℕ) (n : Name) → (length n.instance ≡ 36 → ⊥) → is_name w s n ≡ false
too_short w s n short = not_true _ (λ t. short (ap (λ (m : Name). length m.instance) (name_told w s n t) ∙ text_long w))

-- ---- the place of a service

abbrev mark_eq : Mark → Mark → Bool
mark_eq = (equal.ghosts).eq

mark_exact : IsExact mark_eq
mark_exact =
    exact_through (λ (m : Mark). (m.service, (m.instance, m.start))) (λ p. record { service = p.0; instance = p.1.0; start = p.1.1 }) (λ _. refl)
    (exact_pairs exact_unsigned (exact_pairs exact_texts exact_unsigned))

mark_itself : (m : Mark) → mark_eq m m ≡ true
mark_itself m = (mark_laws.laws-law).refl m

text_itself : (t : List ℕ) → text_eq t t ≡ true
text_itself t = (text_laws.laws-law).refl t

text_exact : IsExact text_eq
text_exact = exact_texts

differs_at : (t : List ℕ) (ss : List (List ℕ)) (i : ℕ) (d : List ℕ) → AllByRecursion (λ s. text_eq t s ≡ false) ss → i < length ss → text_eq t (get_or ss i d) ≡ false
differs_at t [] i d h l = absurd (omega arith)
differs_at t (s ∷ ss) zero d h l = h.0
differs_at t (s ∷ ss) (suc i) d h l = differs_at t ss i d h.1 (omega arith)

-- a text stands at the place that it has
pub place_is : (t : List ℕ) (ss : List (List ℕ)) (i : ℕ) (d : List ℕ) → IsDistinct text_eq ss → i < length ss → get_or ss i d ≡ t → service_place ss t ≡ i
unfolding IsDistinct
place_is t [] i d apart l e = absurd (omega arith)
place_is t (s ∷ ss) zero d apart l e = ap (λ b. cond (not b) (1 + service_place ss t) 0) (ap (text_eq t) e ∙ text_itself t)
place_is t (s ∷ ss) (suc i) d apart l e =
    let other : text_eq t s ≡ false = not_true _ (λ same. true≢false (
    sym (text_itself t) ∙ (λ k. text_eq (text_exact t s same k) (sym e k)) ∙ differs_at s ss i d apart.0 (omega arith))) in
    let rest : service_place ss t ≡ i = place_is t ss i d apart.1 (omega arith) e in
    let step : 1 + service_place ss t ≡ suc i = omega (arith, rest) in
    ap (λ b. cond (not b) (1 + service_place ss t) 0) other ∙ step

-- where it is found it is there
pub place_found : {X : Type 0} (p : X → Bool) (xs : List X) (i : ℕ) → position p xs ≡ Some i → (i ≡ position_or_len p xs) × (i < length xs)
place_found p xs i = go (nat_lt (position_or_len p xs) (length xs)) refl
  where
    go : (b : Bool) → nat_lt (position_or_len p xs) (length xs) ≡ b → cond b (Some (position_or_len p xs)) None ≡ Some i → (i ≡ position_or_len p xs) × (i < length xs)
    go true l e =
        let same : position_or_len p xs ≡ i = cc in
        let less : position_or_len p xs < length xs = ltb-true _ _ l in (sym same, subst (λ k. k < length xs) same less)
    go false l e = absurd (cc)

pub place_missing : {X : Type 0} (p : X → Bool) (xs : List X) → position p xs ≡ None → length xs ≤ position_or_len p xs
place_missing p xs = go (nat_lt (position_or_len p xs) (length xs)) refl
  where
    go : (b : Bool) → nat_lt (position_or_len p xs) (length xs) ≡ b → cond b (Some (position_or_len p xs)) None ≡ None → length xs ≤ position_or_len p xs
    go true l e = absurd (cc)
    go false l e = grind arith

-- ---- an incarnation among marks

any_alike : {A B : Type 0} (P : A → Type 0) (f : A → B) (p : A → Bool) (q : B → Bool) (xs : List A) → AllByRecursion P xs → ((x : A) → P x → p x ≡ q (f x)) → list_any p xs ≡ list_any q (map f xs)
any_alike P f p q [] h alike = refl
any_alike P f p q (x ∷ xs) h alike = λ i. alike x h.0 i || any_alike P f p q xs h.1 alike i

none_among : {A B : Type 0} (P : A → Type 0) (f : A → B) (q : B → Bool) (xs : List A) → AllByRecursion P xs → ((x : A) → P x → q (f x) ≡ false) → list_any q (map f xs) ≡ false
none_among P f q [] h none = refl
none_among P f q (x ∷ xs) h none = λ i. none x h.0 i || none_among P f q xs h.1 none i

module _ (ss : List (List ℕ)) (apart : IsDistinct text_eq ss) (w : WriterId) (s : ℕ) where
  pub found : (m : Mark) → IsMarkOf ss w s m → (ms : List Mark) → AreOf ss ms → list_any (mark_eq m) ms ≡ has_name (mark_names ss ms) w s
  found m is ms of = any_alike (λ (x : Mark). x.service < length ss) (mark_name ss) (mark_eq m) (is_name w s) ms of (λ x there. same_bool _ _ (into x) (back x there))
    where
      its : get_or ss m.service [] ≡ w.service
      its =
          let at : service_place ss w.service < length ss = subst (λ k. k < length ss) is.service is.there in
          sym (text_exact w.service _ (ap (λ k. text_eq w.service (get_or ss k [])) is.service ∙ passes_at_first (text_eq w.service) ss [] at))

      into : (x : Mark) → mark_eq m x ≡ true → is_name w s (mark_name ss x) ≡ true
      into x e =
          let same = mark_exact m x e in
          name_tells w s (mark_name ss x) (ap (mark_name ss) (sym same) ∙ (λ i. record { service = its i; instance = is.instance i; start = is.start i }))

      back : (x : Mark) → x.service < length ss → is_name w s (mark_name ss x) ≡ true → mark_eq m x ≡ true
      back x there e =
          let told = name_told w s (mark_name ss x) e in
          let place : service_place ss w.service ≡ x.service = place_is w.service ss x.service [] apart there (ap (λ (n : Name). n.service) told) in
          let same : m ≡ x = λ i. record {
            service = (is.service ∙ place) i;
            instance = (is.instance ∙ sym (ap (λ (n : Name). n.instance) told)) i;
            start = (is.start ∙ sym (ap (λ (n : Name). n.start) told)) i;
          } in
          ap (mark_eq m) (sym same) ∙ mark_itself m

  pub absent : length ss ≤ service_place ss w.service → (ms : List Mark) → AreOf ss ms → has_name (mark_names ss ms) w s ≡ false
  absent far ms of = none_among (λ (x : Mark). x.service < length ss) (mark_name ss) (is_name w s) ms of (λ x there. not_true _ (λ t.
      let told = name_told w s (mark_name ss x) t in
      let none : text_eq w.service (get_or ss x.service []) ≡ false = fails_before_first (text_eq w.service) ss x.service [] (omega arith) in
      true≢false (sym (text_itself w.service) ∙ ap (text_eq w.service) (sym (ap (λ (n : Name). n.service) told)) ∙ none)))

-- ---- more services, and more marks

get_grown : (ss more : List (List ℕ)) (i : ℕ) → i < length ss → get_or (ss ++ more) i [] ≡ get_or ss i []
get_grown [] more i l = absurd (omega arith)
get_grown (s ∷ ss) more zero l = refl
get_grown (s ∷ ss) more (suc i) l = get_grown ss more i (omega arith)

pub names_grown : (ss new : List (List ℕ)) → Grows ss new → (ms : List Mark) → AreOf ss ms → mark_names new ms ≡ mark_names ss ms
names_grown ss new g [] of = refl
names_grown ss new g (m ∷ ms) of =
    let its : get_or new m.service [] ≡ get_or ss m.service [] = ap (λ l. get_or l m.service []) g.1 ∙ get_grown ss g.0 m.service of.0 in
    λ i. record { service = its i; instance = m.instance; start = m.start } ∷ names_grown ss new g ms of.1 i

pub of_grown : (ss new : List (List ℕ)) → Grows ss new → (ms : List Mark) → AreOf ss ms → AreOf new ms
of_grown ss new g [] of = tt
of_grown ss new g (m ∷ ms) of =
    let within : m.service < length new = let long : length new ≡ length ss + length g.0 = ap (λ l. length l) g.1 ∙ length-append ss g.0 in let l = of.0 in omega (arith, long, l) in
    (within, of_grown ss new g ms of.1)

-- services after one more was inserted
pub grows_by : (ss : List (List ℕ)) (t : List ℕ) → Grows ss (insert_key text_eq ss t)
grows_by ss t = go (list_any (text_eq t) ss)
  where
    go : (b : Bool) → Grows ss (cond b ss (ss ++ t ∷ []))
    go true = ([], sym (append-nil ss))
    go false = (t ∷ [], refl)

of_append : (ss : List (List ℕ)) (ms ns : List Mark) → AreOf ss ms → AreOf ss ns → AreOf ss (ms ++ ns)
of_append ss [] ns a b = b
of_append ss (m ∷ ms) ns a b = (a.0, of_append ss ms ns a.1 b)

names_append : (ss : List (List ℕ)) (ms ns : List Mark) → mark_names ss (ms ++ ns) ≡ mark_names ss ms ++ mark_names ss ns
names_append ss [] ns = refl
names_append ss (m ∷ ms) ns = ap (λ l. mark_name ss m ∷ l) (names_append ss ms ns)

pub of_insert : (ss : List (List ℕ)) (ms : List Mark) (m : Mark) → m.service < length ss → AreOf ss ms → AreOf ss (insert_key mark_eq ms m)
of_insert ss ms m there of = go (list_any (mark_eq m) ms)
  where
    go : (b : Bool) → AreOf ss (cond b ms (ms ++ m ∷ []))
    go true = of
    go false = of_append ss ms (m ∷ []) of (there, tt)

module _ (ss : List (List ℕ)) (w : WriterId) (s : ℕ) where
  or_true : (a : Bool) → (a || true) ≡ true
  or_true true = refl
  or_true false = refl

  or_false : (a : Bool) → a ≡ (a || false)
  or_false true = refl
  or_false false = refl

  -- a mark that is there names nothing more
  has_mark : (m : Mark) (ms : List Mark) → list_any (mark_eq m) ms ≡ true → is_name w s (mark_name ss m) ≡ true → has_name (mark_names ss ms) w s ≡ true
  has_mark m [] e named = absurd (true≢false (sym e))
  has_mark m (x ∷ ms) e named = go (mark_eq m x) refl e (λ rest. has_mark m ms rest named)
    where
      go : (b : Bool) → mark_eq m x ≡ b → (b || list_any (mark_eq m) ms) ≡ true → (list_any (mark_eq m) ms ≡ true → has_name (mark_names ss ms) w s ≡ true)
          → (is_name w s (mark_name ss x) || has_name (mark_names ss ms) w s) ≡ true
      go true same e rest = ap (λ b. b || has_name (mark_names ss ms) w s) (ap (λ (y : Mark). is_name w s (mark_name ss y)) (sym (mark_exact m x same)) ∙ named)
      go false other e rest = ap (λ b. is_name w s (mark_name ss x) || b) (rest e) ∙ or_true (is_name w s (mark_name ss x))

  pub known : (m : Mark) (ms : List Mark) → list_any (mark_eq m) ms ≡ true → has_name (mark_names ss ms) w s ≡ (has_name (mark_names ss ms) w s || is_name w s (mark_name ss m))
  known m ms e = go (is_name w s (mark_name ss m)) refl
    where
      go : (b : Bool) → is_name w s (mark_name ss m) ≡ b → has_name (mark_names ss ms) w s ≡ (has_name (mark_names ss ms) w s || b)
      go true named = has_mark m ms e named ∙ sym (or_true _)
      go false named = or_false _

  pub inserted : (m : Mark) (ms : List Mark) → has_name (mark_names ss (insert_key mark_eq ms m)) w s ≡ (has_name (mark_names ss ms) w s || is_name w s (mark_name ss m))
  inserted m ms = go (list_any (mark_eq m) ms) refl
    where
      go : (b : Bool) → list_any (mark_eq m) ms ≡ b → has_name (mark_names ss (cond b ms (ms ++ m ∷ []))) w s ≡ (has_name (mark_names ss ms) w s || is_name w s (mark_name ss m))
      go true e = known m ms e
      go false e =
          ap (λ l. has_name l w s) (names_append ss ms (m ∷ []))
          ∙ list_any-append (is_name w s) (mark_names ss ms) (mark_name ss m ∷ [])
          ∙ ap (λ b. has_name (mark_names ss ms) w s || b) (sym (or_false _))

  or_twice : (a b c : Bool) → ((a || b) || c) ≡ (a || (b || c))
  or_twice true b c = refl
  or_twice false b c = refl

  or_turned : (a b c : Bool) → (a || (b || c)) ≡ ((a || c) || b)
  or_turned true b c = refl
  or_turned false true true = refl
  or_turned false true false = refl
  or_turned false false true = refl
  or_turned false false false = refl

  -- what was noted and is no mark yet
  pub kept_fresh : (m : Mark) (ms fs new : List Mark) → new ≡ cond (list_any (mark_eq m) ms) fs (insert_key mark_eq fs m)
      → (has_name (mark_names ss ms) w s || has_name (mark_names ss new) w s) ≡ ((has_name (mark_names ss ms) w s || has_name (mark_names ss fs) w s) || is_name w s (mark_name ss m))
  kept_fresh m ms fs new e = ap (λ l. has_name (mark_names ss ms) w s || has_name (mark_names ss l) w s) e ∙ go (list_any (mark_eq m) ms) refl
    where
      a : Bool
      a = has_name (mark_names ss ms) w s

      b : Bool
      b = has_name (mark_names ss fs) w s

      c : Bool
      c = is_name w s (mark_name ss m)

      go : (t : Bool) → list_any (mark_eq m) ms ≡ t → (a || has_name (mark_names ss (cond t fs (insert_key mark_eq fs m))) w s) ≡ ((a || b) || c)
      go true e = ap (λ x. x || b) (known m ms e) ∙ sym (or_turned a b c) ∙ sym (or_twice a b c)
      go false e = ap (λ x. a || x) (inserted m fs) ∙ sym (or_twice a b c)

  -- all that was noted
  pub all_inserted : (ms fs : List Mark) → has_name (mark_names ss (insert_all mark_eq ms fs)) w s ≡ (has_name (mark_names ss ms) w s || has_name (mark_names ss fs) w s)
  all_inserted ms [] = or_false _
  all_inserted ms (f ∷ fs) =
      all_inserted (insert_key mark_eq ms f) fs
      ∙ ap (λ b. b || has_name (mark_names ss fs) w s) (inserted f ms)
      ∙ or_twice (has_name (mark_names ss ms) w s) (is_name w s (mark_name ss f)) (has_name (mark_names ss fs) w s)

pub of_all : (ss : List (List ℕ)) (ms fs : List Mark) → AreOf ss ms → AreOf ss fs → AreOf ss (insert_all mark_eq ms fs)
of_all ss ms [] a b = a
of_all ss ms (f ∷ fs) a b = of_all ss (insert_key mark_eq ms f) fs (of_insert ss ms f b.0 a) b.1

pub of_fresh : (ss : List (List ℕ)) (m : Mark) (ms fs new : List Mark) → m.service < length ss → AreOf ss fs → new ≡ cond (list_any (mark_eq m) ms) fs (insert_key mark_eq fs m) → AreOf ss new
of_fresh ss m ms fs new there of e = subst (AreOf ss) (sym e) (go (list_any (mark_eq m) ms))
  where
    go : (b : Bool) → AreOf ss (cond b fs (insert_key mark_eq fs m))
    go true = of
    go false = of_insert ss fs m there of

-- the service that was inserted is where it was said to be
pub stored_is : (ss : List (List ℕ)) (i : ℕ) (t s : List ℕ) → (k : List ℕ) × (slice_get ss i ≡ Some k) × (text_eq t k ≡ true) → t ≡ s → get_or ss i [] ≡ s
stored_is ss i t s stored e = got ss i stored.0 stored.1 ∙ sym (text_exact t stored.0 stored.2) ∙ e
  where
    got : (ss : List (List ℕ)) (i : ℕ) (k : List ℕ) → slice_get ss i ≡ Some k → get_or ss i [] ≡ k
    got [] i k e = absurd (cc)
    got (s ∷ ss) zero k e = cc
    got (s ∷ ss) (suc i) k e = got ss i k e

pub marks_long : (ss : List (List ℕ)) (ms : List Mark) → length (mark_names ss ms) ≡ length ms
marks_long ss [] = refl
marks_long ss (m ∷ ms) = ap suc (marks_long ss ms)

-- what there was room for is there
pub now_there : {U E : Type 0} (r : Result U E) (ms fs new other : List Mark) → IsOk r → OnOk r (new ≡ insert_all mark_eq ms fs) → OnOk r (other ≡ []) → (new ≡ insert_all mark_eq ms fs) × (other ≡ [])
now_there (Ok u) ms fs new other fits a b = (a, b)
now_there (Err f) ms fs new other fits a b = absurd (true≢false (sym fits))

-- ---- pairs that are no incarnation's

abbrev pub Pair : Type 0
Pair = List ℕ × AttrValue

module _ (p q r : Pair) (w : WriterId) (s : ℕ) (same : p ∷ q ∷ r ∷ [] ≡ incarnation_attrs w s) where
  pub first_is : p ≡ (codes "instance", values.Text (hyphenated_text lower w.instance))
  first_is = cc

  pub second_is : q ≡ (codes "service", values.Text w.service)
  second_is = cc

  pub third_is : r ≡ (codes "start", values.Whole (pos s))
  third_is = cc

-- three pairs are no incarnation's
abbrev pub None3 : Pair → Pair → Pair → Type 0
None3 p q r = (w : WriterId) (s : ℕ) → p ∷ q ∷ r ∷ [] ≡ incarnation_attrs w s → ⊥

pub if_none : {X P : Type 0} (o : Option X) → P → IfNone o P
if_none None p = p
if_none (Some x) p = tt

pub nothing_more : (x t : Bool) → t ≡ false → x ≡ (x || t)
nothing_more true t e = refl
nothing_more false t e = sym e

-- a mark that is among the first of two lists, and one that is not
pub among_first : (r a b : Bool) → r ≡ a → r ≡ true → r ≡ (a || b)
among_first r a b e t = t ∙ ap (λ x. x || b) (sym (sym e ∙ t))

pub among_second : (r q a b : Bool) → r ≡ a → r ≡ false → q ≡ b → q ≡ (a || b)
among_second r q a b e f g = g ∙ ap (λ x. x || b) (sym (sym e ∙ f))

pub among_none : (a b : Bool) → a ≡ false → b ≡ false → false ≡ (a || b)
among_none a b e f = λ i. sym e i || sym f i

-- the marks that were noted are of services that there are
pub noted_of : {U E : Type 0} (r : Result U E) (ss : List (List ℕ)) (m : Mark) (ms fs new : List Mark) → m.service < length ss → AreOf ss fs
    → OnOk r (new ≡ cond (list_any (mark_eq m) ms) fs (insert_key mark_eq fs m)) → OnErr r (new ≡ fs) → AreOf ss new
noted_of (Ok u) ss m ms fs new there of is same = of_fresh ss m ms fs new there of is
noted_of (Err f) ss m ms fs new there of is same = subst (AreOf ss) (sym same) of

pub not_so : (b : Bool) → not b ≡ true → b ≡ false
not_so true e = absurd (true≢false (sym e))
not_so false e = refl

pub is_so : (b : Bool) → not b ≡ false → b ≡ true
is_so true e = refl
is_so false e = absurd (true≢false e)
