-- Requests of files, one behind the other.
use Rattle.std.proofs.Common.{◌≡◌, ◌∙◌, ◌<◌, ◌+◌, ℕ, List, [], ◌∷◌, ◌++◌, Some, Result, Ok, Err, Vec, Global, map, take, length, get_or, ap, sym, subst}
use Rattle.std.specs.Prelude.{slice_get, All, IfErr, IfOk}
use Rattle.std.specs.List.{flat_map}
use Rattle.std.proofs.lemmas.Grind.{flat_map-append}
use Rattle.std.proofs.lemmas.List.{append-nil, take_more, take-map, map-append, get_or-map, length-map}
use Rattle.std.proofs.lemmas.List.Elements.{All-push}
use Rattle.std.proofs.lemmas.Option.{slice_get-get_or}
use Rattle.bytes_kit.specs.Fits.{IsExport}
use Rattle.bytes_kit.specs.Format.{bytes_of}
use Rattle.otlp_kit.specs.Request.{request}
use Rattle.point_kit.specs.declared.export.Export.{Export}
use Rattle.file_kit.specs.Sending.{AreRequests, IsRequest, IsUnsaid, IsUnsent, IsUnsentAt, SentBefore, place_of}
use Rattle.file_kit.specs.declared.fault.SendFault.{SendFault}
use Rattle.file_kit.specs.declared.fault.SendFault.TheVariants as faults

-- a request that is made of an export, or why none is, said of the export's bytes
pub sent_of : (bytes : List ℕ) (e : Export) → IsExport e → bytes_of e ≡ bytes → (r : Result (Vec ℕ Global) SendFault) → IfOk r (λ b. b.items ≡ request e) → IfOk r (λ made. IsRequest bytes made.items)
sent_of bytes e fit form (Ok made) is = (e, fit, form, is)
sent_of bytes e fit form (Err fault) is = tt

pub unsent_of : (place : ℕ) (bytes : List ℕ) (e : Export) → IsExport e → bytes_of e ≡ bytes → (r : Result (Vec ℕ Global) SendFault) → IfErr r (IsUnsaid place e) → IfErr r (IsUnsentAt place bytes)
unsent_of place bytes e fit form (Ok made) told = tt
unsent_of place bytes e fit form (Err (faults.Refused at fault)) told = absurd told
unsent_of place bytes e fit form (Err (faults.Unsaid at fault)) told = (told.0, (e, fit, form, told.1))
unsent_of place bytes e fit form (Err faults.NoMemory) told = tt

module _ {V : Type 0} (items : V → List ℕ) (fs : List V) where
  -- one file more
  pub requests_more : (i : ℕ) (d : V) (old made : List ℕ) → i < length fs → AreRequests (map items (take i fs)) old → IsRequest (items (get_or fs i d)) made
      → AreRequests (map items (take (i + 1) fs)) (old ++ made)
  requests_more i d old made lt are is =
      let e = is.0 in
      let es : List Export = are.0 in
      let forms : map bytes_of (es ++ e ∷ []) ≡ map items (take (i + 1) fs) =
      map-append bytes_of es (e ∷ []) ∙ ap (λ (l : List (List ℕ)). l ++ bytes_of e ∷ []) are.2 ∙ ap (λ (b : List ℕ). map items (take i fs) ++ b ∷ []) is.2
      ∙ sym (map-append items (take i fs) (get_or fs i d ∷ [])) ∙ sym (ap (map items) (take_more fs i d lt)) in
      let made_is : old ++ made ≡ flat_map request (es ++ e ∷ []) =
      ap (λ (l : List ℕ). l ++ made) are.3 ∙ ap (λ (l : List ℕ). flat_map request es ++ l) (is.3 ∙ sym (append-nil (request e)))
      ∙ sym (flat_map-append request es (e ∷ [])) in
      (es ++ e ∷ [], All-push IsExport es e are.1 is.1, forms, made_is)

  -- the place that a fault tells is that of its file
  place_is : (i : ℕ) (bytes : List ℕ) (fault : SendFault) (place : ℕ) → IsUnsentAt i bytes fault → place_of fault ≡ Some place → place ≡ i
  place_is i bytes (faults.Refused at fault) place told is = let same : at ≡ place = cc in sym same ∙ told.0
  place_is i bytes (faults.Unsaid at fault) place told is = let same : at ≡ place = cc in sym same ∙ told.0
  place_is i bytes faults.NoMemory place told is = cc

  -- the first file that has no request
  pub unsent_at : (i : ℕ) (d : V) (bytes : List ℕ) (fault : SendFault) → i < length fs → AreRequests (map items (take i fs)) bytes
      → IsUnsentAt i (items (get_or fs i d)) fault → IsUnsent (map items fs) fault
  unsent_at i d bytes fault lt are at place is =
      let same : place ≡ i = place_is i (items (get_or fs i d)) fault place at is in
      let got : slice_get (map items fs) i ≡ Some (items (get_or fs i d)) =
      slice_get-get_or (map items fs) i [] (subst (λ n. i < n) (sym (length-map fs items)) lt) ∙ ap (λ (b : List ℕ). Some b) (get_or-map items fs i d [] lt) in
      subst (λ k. SentBefore (map items fs) k × ((b : List ℕ) × (slice_get (map items fs) k ≡ Some b) × IsUnsentAt k b fault)) (sym same)
      ((bytes, subst (λ (l : List (List ℕ)). AreRequests l bytes) (sym (take-map items i fs)) are), (items (get_or fs i d), got, at))
