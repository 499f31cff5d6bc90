-- Tombstones name no tombstone, and tell incarnations apart.
use Rattle.std.proofs.Common.{◌≡◌, ℕ, pos, Bool, true, false, not, ◌&&◌, List, [], ◌∷◌, Option, inl, refl, sym, ap, ◌∙◌}
use mathlib.Core.Bool.{true≢false}
use Rattle.std.proofs.lemmas.Bool.{and_parts}
use Rattle.std.specs.Prelude.{unwrap_or}
use Rattle.attr_kit.specs.declared.attr_set.AttrSet.{AttrSet}
use Rattle.attr_kit.specs.declared.attr_value.AttrValue.{AttrValue}
use Rattle.attr_kit.specs.declared.attr_value.AttrValue.TheVariants as values
use Rattle.point_kit.specs.declared.writer_id.WriterId.{WriterId}
use Rattle.uuid.specs.Text.{hyphenated_text, lower, parsed_hyphenated}
use Rattle.uuid.proofs.RoundTrips.{parses_hyphenated_text}
use Rattle.archive_kit.specs.Showing.{NamesNoNamer}
use Rattle.archive_kit.specs.Tombstones.{set_eq, is_tombstone, names_key, incarnation_attrs, IsInstance}

pub names_no_tombstone : NamesNoNamer names_key
names_no_tombstone t k q e = go (is_tombstone k) (and_parts _ _ ((and_parts _ _ e).1)).0
  where
    go : (b : Bool) → not b ≡ true → (b && (not (is_tombstone q) && set_eq k.attrs (incarnation_attrs q.writer q.start))) ≡ false
    go true h = absurd (true≢false (sym h))
    go false h = refl

-- the texts of the first two values of a set, and the number of the third
abbrev text : AttrValue → List ℕ
text (values.Text t) = t
text v = []

abbrev number : AttrValue → ℕ
number (values.Whole (pos n)) = n
number v = 0

abbrev pub first_text : AttrSet → List ℕ
first_text [] = []
first_text (p ∷ ps) = text p.1

abbrev pub second_text : AttrSet → List ℕ
second_text [] = []
second_text (p ∷ ps) = first_text ps

abbrev pub third_number : AttrSet → ℕ
third_number (p ∷ q ∷ r ∷ ps) = number r.1
third_number ps = 0

same_instance : (v w : WriterId) → IsInstance v → IsInstance w → hyphenated_text lower v.instance ≡ hyphenated_text lower w.instance → v.instance ≡ w.instance
same_instance v w a b e =
    ap (λ (o : Option (List ℕ)). unwrap_or o [])
    (parses_hyphenated_text lower v.instance (inl refl) a.sixteen a.bytes ∙ ap parsed_hyphenated e ∙ sym (parses_hyphenated_text lower w.instance (inl refl) b.sixteen b.bytes))

pub incarnations_told : (v w : WriterId) (t u : ℕ) → IsInstance v → IsInstance w → incarnation_attrs v t ≡ incarnation_attrs w u → (v ≡ w) × (t ≡ u)
incarnations_told v w t u a b e =
    let instance = same_instance v w a b (ap first_text e) in
    let service : v.service ≡ w.service = ap second_text e in
    ((λ n. record { service = service n; instance = instance n }), ap third_number e)
