-- A gateway has no point of a writer whose collection it did not take.
use Rattle.std.proofs.Common.{◌≡◌, ℕ, ◌<◌, map, length, slice_index, sym, ap, subst, ◌∙◌, arith}
use Rattle.agg_kit.specs.Entries.{Entry}
use Rattle.schedule_kit.specs.Deeds.{Made}
use Rattle.schedule_kit.specs.Members.{In}
use Rattle.schedule_kit.proofs.Members.{map-In}
use Rattle.schedule_kit.proofs.Parts as parts
use Rattle.rollup_kit.proofs.Naming.{rounding_sound}
use Rattle.rollup_kit.specs.Fleets.{collection_of, NotTakenIsMissing}
use Rattle.rollup_kit.specs.Writers.{rounding}

pub not_taken_is_missing : NotTakenIsMissing
not_taken_is_missing s plans told end history took writers w there out x =
    parts.part_absent (rounding s) (rounding_sound s plans) (map (collection_of s end history) took) (s.who w) (slice_index s.starts w) none x
  where
    none : (m : Made Entry) → In m (map (collection_of s end history) took) → (s.who m.writer) ≡ (s.who w) → m.start ≡ (slice_index s.starts w) → ⊥
    none m i same start =
        let a = map-In (collection_of s end history) m took i in
        let its : m.writer ≡ a.0 = ap (λ (m : Made Entry). m.writer) a.2 in
        let low : a.0 < length s.starts = writers a.0 a.1 in
        let one : m.writer ≡ w = told m.writer w (omega (arith, its, low)) there same in
        out (subst (λ (v : ℕ). In v took) (sym its ∙ one) a.1)
