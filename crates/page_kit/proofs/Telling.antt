-- Metrics that tie are one, so are labels, and labels tell the service of their key.
use Rattle.std.proofs.Common.{◌≡◌, ℕ, suc, ◌==◌, ◌||◌, not, Bool, true, false, cond, List, [], ◌∷◌, ◌++◌, map, filter, length, refl, sym, ap, ◌∙◌, arith}
use Rattle.std.specs.Prelude.{codes}
use Rattle.std.specs.Cmp.{IsTotalOrder, Equal-is}
use Rattle.std.specs.Cmp.Lexicographic.{nat_list_cmp_total}
use Rattle.std.specs.FinMap.{IsAntisymmetric, slice_cmp-IsAntisymmetric}
use Rattle.std.specs.List.Sorted.{IsStrictlySortedBy}
use Rattle.std.specs.Map.{keys_of}
use Rattle.std.specs.Ordering.{eq_by_cmp, is_eq}
use Rattle.std.proofs.lemmas.Bool.Decides.{nat_tests}
use Rattle.std.proofs.lemmas.List.{append-nil}
use Rattle.attr_kit.specs.Exact.{IsExact, exact_pairs, exact_texts, exact_through}
use Rattle.attr_kit.specs.Orders.{text_cmp}
use Rattle.attr_kit.specs.declared.attr_value.AttrValue.{AttrValue}
use Rattle.point_kit.specs.declared.key.Key.{Key}
use Rattle.page_kit.specs.Families.{metric_cmp}
use Rattle.page_kit.specs.Groups.{groups}
use Rattle.page_kit.specs.Labels.{labels_cmp, labels, labels_of_groups, has_value, joined, is_reserved, exported, label_name, row_labels, value_text}
use Rattle.page_kit.specs.Names.{same, line, led}
use Rattle.page_kit.specs.contracts.labels.LabelOrd.TheImpl as label_order
use Rattle.page_kit.specs.contracts.labels.LabelOrd.TheImpl.Laws as label_laws
use Rattle.page_kit.specs.contracts.labels.LabelPartialEq.TheImpl as label_equal
use Rattle.page_kit.specs.contracts.metric.KindPartialEq.TheImpl as kinds
use Rattle.page_kit.specs.contracts.metric.MetricOrd.TheImpl.Laws as metric_laws
use Rattle.page_kit.specs.contracts.metric.MetricPartialEq.TheImpl as metrics
use Rattle.page_kit.specs.declared.labels.Label.{Label}
use Rattle.page_kit.specs.declared.metric.Kind.TheVariants.{Updown, Counter, Gauge, Histogram}
use Rattle.page_kit.specs.declared.metric.Metric.{Metric}
use Rattle.page_kit.proofs.Claimed.{tied}
use Rattle.page_kit.proofs.GroupLaws.{none_above, nothing_sorted, sorted_all, under, under_all}

kinds_exact : IsExact (kinds.ghosts).eq
kinds_exact Updown Updown e = refl
kinds_exact Counter Counter e = refl
kinds_exact Gauge Gauge e = refl
kinds_exact Histogram Histogram e = refl
kinds_exact j k e = cc

metrics_exact : IsExact (metrics.ghosts).eq
metrics_exact = exact_through (λ m. (m.name, (m.unit, m.kind))) (λ p. record { name = p.0; unit = p.1.0; kind = p.1.1 }) (λ _. refl) (exact_pairs exact_texts (exact_pairs exact_texts kinds_exact))

pub metrics_total : IsTotalOrder metric_cmp
metrics_total = metric_laws.total-law

-- metrics that tie are one
pub one_metric : (m n : Metric) → eq_by_cmp metric_cmp m n ≡ true → m ≡ n
one_metric m n t = metrics_exact m n (metric_laws.matches_eq-law m n ∙ t)

label_exact : IsExact (label_equal.ghosts).eq
label_exact = exact_through (λ l. (l.name, l.value)) (λ p. record { name = p.0; value = p.1 }) (λ _. refl) (exact_pairs exact_texts exact_texts)

label_antisymmetric : IsAntisymmetric (label_order.ghosts).cmp
label_antisymmetric x y e = label_exact x y (label_laws.matches_eq-law x y ∙ ap is_eq e)

-- labels that tie are equal
pub same_labels : (xs ys : List Label) → eq_by_cmp labels_cmp xs ys ≡ true → xs ≡ ys
same_labels xs ys t = slice_cmp-IsAntisymmetric label_antisymmetric xs ys ((Equal-is (labels_cmp xs ys)).0 t)

-- the value of the first label of a name, or nothing
abbrev value_at : List ℕ → List Label → List ℕ
value_at name [] = []
value_at name (l ∷ ls) = cond (eq_by_cmp text_cmp name l.name) l.value (value_at name ls)

shown_at : (name : List ℕ) (l : Label) (ls : List Label) → eq_by_cmp text_cmp name l.name ≡ true → (l.value ≡ [] → value_at name ls ≡ []) → value_at name (cond (has_value l) (l ∷ ls) ls) ≡ l.value
shown_at name l ls t none = go l.value refl
  where
    go : (v : List ℕ) → l.value ≡ v → value_at name (cond (has_value l) (l ∷ ls) ls) ≡ l.value
    go [] e = ap (λ (w : List ℕ). value_at name (cond (has_value (record { name = l.name; value = w })) (l ∷ ls) ls)) e ∙ none e ∙ sym e
    go (c ∷ cs) e = ap (λ (w : List ℕ). value_at name (cond (has_value (record { name = l.name; value = w })) (l ∷ ls) ls)) e ∙ many ∙ ap (λ b. cond b l.value (value_at name ls)) t
      where
        some : (n : ℕ) → (suc n == 0) ≡ false
        some n = grind (arith, nat_tests)

        many : value_at name (cond (has_value (record { name = l.name; value = c ∷ cs })) (l ∷ ls) ls) ≡ value_at name (l ∷ ls)
        many = ap (λ b. value_at name (cond (not b) (l ∷ ls) ls)) (some (length cs))

passed_at : (b : Bool) (name : List ℕ) (l : Label) (ls : List Label) → eq_by_cmp text_cmp name l.name ≡ false → value_at name (cond b (l ∷ ls) ls) ≡ value_at name ls
passed_at true name l ls f = ap (λ b. cond b l.value (value_at name ls)) f
passed_at false name l ls f = refl

-- the value of a label is the texts of its name, joined
value_of_groups : (name : List ℕ) (gs : List (List ℕ × List (List ℕ))) → IsStrictlySortedBy text_cmp (keys_of gs) → value_at name (labels_of_groups gs) ≡ joined (under nat_list_cmp_total name gs)
unfolding IsStrictlySortedBy
value_of_groups name [] up = refl
value_of_groups name (g ∷ gs) up = go (eq_by_cmp text_cmp name g.0) refl (value_of_groups name gs up.1)
  where
    go : (b : Bool) → eq_by_cmp text_cmp name g.0 ≡ b → value_at name (labels_of_groups gs) ≡ joined (under nat_list_cmp_total name gs) → value_at name (labels_of_groups (g ∷ gs)) ≡ joined (cond b g.1 [] ++ under nat_list_cmp_total name gs)
    go true t rest =
        let none : under nat_list_cmp_total name gs ≡ [] = none_above nat_list_cmp_total name g.0 gs t up.0 in
        shown_at name (record { name = g.0; value = joined g.1 }) (labels_of_groups gs) t (λ _. rest ∙ ap joined none) ∙ ap joined (sym (append-nil g.1)) ∙ ap (λ l. joined (g.1 ++ l)) (sym none)
    go false f rest = passed_at (has_value (record { name = g.0; value = joined g.1 })) name (record { name = g.0; value = joined g.1 }) (labels_of_groups gs) f ∙ rest

last_no : (a b c d e : Bool) → (a || b || c || d || e) ≡ false → e ≡ false
last_no false false false false e h = h
last_no a b c d e h = absurd cc

abbrev own : List ℕ
own = codes "service_name"

-- no attribute has the label of the service
exported_apart : (name : List ℕ) → eq_by_cmp text_cmp own (exported name) ≡ false
exported_apart name = go (is_reserved name) refl
  where
    go : (b : Bool) → is_reserved name ≡ b → eq_by_cmp text_cmp own (cond b (codes "exported_" ++ name) name) ≡ false
    go true r = refl
    go false r = tied own name ∙ last r
      where
        last : is_reserved name ≡ false → same name own ≡ false
        last e = last_no (same name (codes "instance")) (same name (codes "job")) (same name (codes "le")) (same name (codes "otel_scope_name")) (same name own) e

attribute_apart : (key : List ℕ) → eq_by_cmp text_cmp own (label_name key) ≡ false
unfolding label_name
attribute_apart key = exported_apart (led (codes "key") (line key))

none_of_attributes : (ps : List (List ℕ × AttrValue)) → filter (λ (e : List ℕ × List ℕ). eq_by_cmp text_cmp own e.0) (map (λ p. (label_name p.0, value_text p.1)) ps) ≡ []
none_of_attributes [] = refl
none_of_attributes (p ∷ ps) =
    ap (λ b. cond b ((label_name p.0, value_text p.1) ∷ filter (λ (e : List ℕ × List ℕ). eq_by_cmp text_cmp own e.0) (map (λ q. (label_name q.0, value_text q.1)) ps)) (filter (λ (e : List ℕ × List ℕ). eq_by_cmp text_cmp own e.0) (map (λ q. (label_name q.0, value_text q.1)) ps)))
    (attribute_apart p.0) ∙ none_of_attributes ps

service_shown : (key : Key) → value_at own (row_labels key) ≡ key.writer.service
unfolding row_labels labels groups
service_shown key =
    let texts = (codes "service_name", key.writer.service) ∷ (codes "otel_scope_name", key.stream.scope) ∷ map (λ p. (label_name p.0, value_text p.1)) key.attrs in
    value_of_groups own (groups text_cmp texts) (sorted_all nat_list_cmp_total texts [] (nothing_sorted nat_list_cmp_total))
    ∙ ap joined (under_all nat_list_cmp_total own texts [] (nothing_sorted nat_list_cmp_total))
    ∙ ap (λ (l : List (List ℕ × List ℕ)). joined (key.writer.service ∷ map (λ e. e.1) l)) (none_of_attributes key.attrs) ∙ append-nil key.writer.service

-- keys with equal labels are of one service
pub one_service : (k l : Key) → row_labels k ≡ row_labels l → k.writer.service ≡ l.writer.service
one_service k l e = sym (service_shown k) ∙ ap (value_at own) e ∙ service_shown l
