-- Files joined one after the other.
use Rattle.std.proofs.Common.{◌≡◌, ◌∙◌, ◌<◌, ◌+◌, ℕ, List, [], ◌∷◌, ◌++◌, Some, map, take, length, get_or, ap, refl, sym, subst}
use Rattle.std.specs.Prelude.{All, slice_get}
use Rattle.std.specs.FinMap.{empty}
use Rattle.std.proofs.lemmas.List.{take_more, take-map, map-append, get_or-map, length-map}
use Rattle.std.proofs.lemmas.List.Elements.{All-map, All-nil, All-push, All-weaker}
use Rattle.std.proofs.lemmas.List.Sums.{fold-append}
use Rattle.std.proofs.lemmas.Option.{slice_get-get_or}
use Rattle.point_kit.specs.Exports.{Points, join_points}
use Rattle.file_kit.specs.Contents.{form, points_of, HasContent, IsContent, IsRefused, IsRefusedAt, JoinsAt, Says, Shows}
use Rattle.file_kit.specs.declared.content.Content.{Content}
use Rattle.file_kit.specs.declared.fault.FileFault.{FileFault}
use Rattle.file_kit.specs.declared.fault.FileFault.TheVariants as file

-- no content, of no file
pub none_says : Says [] empty
none_says = ([], record { contents = All-nil IsContent; forms = refl }, refl)

-- each file has a content, where there is one for each
pub all_have : (files : List (List ℕ)) (points : Points) → Says files points → All HasContent files
all_have files points says =
    subst (All HasContent) says.1.forms (All-map HasContent form says.0 (All-weaker IsContent (λ c. HasContent (form c)) (λ c is. (c, (is, refl))) says.0 says.1.contents))

module _ {V : Type 0} (items : V → List ℕ) (fs : List V) where
  -- one file more
  pub says_more : (i : ℕ) (d : V) (old new : Points) → i < length fs → Says (map items (take i fs)) old → JoinsAt (items (get_or fs i d)) old new
      → Says (map items (take (i + 1) fs)) new
  says_more i d old new lt says joins =
      let c = joins.0 in
      let cs : List Content = says.0 in
      let forms : map form (cs ++ c ∷ []) ≡ map items (take (i + 1) fs) =
      map-append form cs (c ∷ []) ∙ ap (λ (l : List (List ℕ)). l ++ form c ∷ []) says.1.forms ∙ ap (λ (b : List ℕ). map items (take i fs) ++ b ∷ []) joins.1.1
      ∙ sym (map-append items (take i fs) (get_or fs i d ∷ [])) ∙ sym (ap (map items) (take_more fs i d lt)) in
      (cs ++ c ∷ [], record { contents = All-push IsContent cs c says.1.contents joins.1.0; forms = forms }, joins.2 ∙ ap (λ (p : Points). join_points p (points_of c)) says.2 ∙ sym (fold-append (λ (p : Points) x. join_points p (points_of x)) empty cs (c ∷ [])))

  -- the first file that is refused
  pub refused_at : (i : ℕ) (d : V) (points : Points) (fault : FileFault) → i < length fs → Says (map items (take i fs)) points
      → IsRefusedAt i (items (get_or fs i d)) fault → IsRefused (map items fs) fault
  refused_at i d points (file.Refused place fault) lt says at = record {
    before = (says.0, record { contents = says.1.contents; forms = says.1.forms ∙ sym (take-map items i fs) ∙ sym (ap (λ k. take k (map items fs)) at.0) });
    here = (items (get_or fs i d), ap (slice_get (map items fs)) at.0 ∙ slice_get-get_or (map items fs) i [] (subst (λ n. i < n) (sym (length-map fs items)) lt) ∙ ap (λ (b : List ℕ). Some b) (get_or-map items fs i d [] lt), at.1);
  }
  refused_at i d points file.NoMemory lt says at = tt

-- and where they are shown
pub shown_have : (files : List (List ℕ)) (points : Points) → Shows files points → All HasContent files
shown_have files points shows = all_have files shows.0 shows.1

-- what files show, by another name
pub still_shows : (files : List (List ℕ)) (points same : Points) → same ≡ points → Shows files points → Shows files same
still_shows files points same is shows = (shows.0, shows.1, is ∙ shows.2)
