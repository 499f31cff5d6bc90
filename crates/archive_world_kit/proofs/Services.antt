-- An archive adopts of its own service, so asks count its keys as they count those of what it adopted.
use Rattle.std.proofs.Common.{◌≡◌, ℕ, true, not, ◌&&◌, inl, inr, List, [], ◌∷◌, Option, Some, None, refl, sym, ap, subst, ◌∙◌}
use Rattle.attr_kit.proofs.Firsts.{none_of, when_none}
use Rattle.attr_kit.specs.Exact.{exact_texts}
use Rattle.attr_kit.specs.contracts.txt.TxtPartialEq.TheImpl as texts
use Rattle.archive_kit.specs.Archive.{ArchiveState, early_faults}
use Rattle.archive_kit.specs.declared.adopt_fault.AdoptFault.TheVariants as faults
use Rattle.archive_kit.specs.Driving.{Adoption, AreAccepted, Call, driven, since_sealed}
use Rattle.archive_kit.specs.Driving.Call.{Adopt, Export, Seal}
use Rattle.archive_kit.specs.Adopting.{Counted}
use Rattle.archive_kit.specs.Written.{adoption_of}
use Rattle.archive_kit.proofs.Driving.{early_none}
use Rattle.archive_kit.proofs.Naming.{is_so}
use Rattle.archive_world_kit.specs.Adopted.{Archives, AreAsked, telling}
use Rattle.archive_world_kit.specs.Steps.{History, rounding}
use Rattle.point_kit.specs.declared.writer_id.WriterId.{WriterId}
use Rattle.rollup_kit.specs.Asks.{asks, group, has_pairs, is_of_service}
use Rattle.rollup_kit.specs.Naming.{stream_eq}
use Rattle.rollup_kit.specs.declared.ask.Ask.{Ask}
use Rattle.schedule_kit.specs.Members.{In}
use Rattle.schedule_kit.proofs.Members.{In-append, In-map}

module _ (a : ArchiveState) where
  same_writer : (calls : List Call) → (driven a calls).writer ≡ a.writer
  same_writer [] = refl
  same_writer (Adopt c ∷ calls) = same_writer calls
  same_writer (Export time ∷ calls) = same_writer calls
  same_writer (Seal start ∷ calls) = same_writer calls

  -- what was adopted is of the archive's service
  adopted_of_service : (calls : List Call) → AreAccepted a calls → (c : Adoption) → In c (since_sealed calls) → a.writer.service ≡ c.0.0.service
  adopted_of_service [] l c i = absurd i
  adopted_of_service (Adopt d ∷ calls) l c i = elim (In-append c (since_sealed calls) (d ∷ []) i) [
    | inl before ↦ adopted_of_service calls l.1 c before
    | inr last ↦ elim last [
      | inl same ↦ subst (λ (c : Adoption). a.writer.service ≡ c.0.0.service) (sym same) own
      | inr none ↦ absurd none
    ]
  ]
    where
      own : a.writer.service ≡ d.0.0.service
      own =
          let other = when_none (not ((texts.ghosts).eq (driven a calls).writer.service d.0.0.service)) faults.OtherService
          (none_of (early_faults (driven a calls) d.0.0 d.0.1 d.1) (early_none (driven a calls) d l.0)).0 in
          ap (λ (w : WriterId). w.service) (sym (same_writer calls))
          ∙ exact_texts (driven a calls).writer.service d.0.0.service (is_so ((texts.ghosts).eq (driven a calls).writer.service d.0.0.service) other)
  adopted_of_service (Export time ∷ calls) l c i = adopted_of_service calls l.1 c i
  adopted_of_service (Seal start ∷ calls) l c i = absurd i

of_one_service : (o : Option (List ℕ)) (v w : WriterId) → v.service ≡ w.service → is_of_service o v ≡ is_of_service o w
of_one_service None v w e = refl
of_one_service (Some service) v w e = ap (λ t. (texts.ghosts).eq t service) e

module _ {N : Type 0} (h : History N) (a : Archives h) where
  pub adopted_service : (b : ℕ) (es : List N) (c : Counted N) → a.is_archive (h.writing.who b) ≡ true → In c (a.adoptions b es)
      → (h.writing.who b).service ≡ (h.writing.who c.0.0).service
  adopted_service b es c e i =
      let d = a.are.driven.each b es e in
      let there = subst (λ (l : List Adoption). In (adoption_of (rounding h.writing) a.held b c) l) d.adopts (In-map (adoption_of (rounding h.writing) a.held b) c (a.adoptions b es) i) in
      adopted_of_service _ d.calls d.accepted (adoption_of (rounding h.writing) a.held b c) there

  pub are_asked : (ask : Ask) → AreAsked h.writing (telling a) (asks ask) (group ask)
  are_asked ask = record {
    asked = λ b start es c x e i.
        ap (λ t. stream_eq ask.stream x.0 && (t && has_pairs ask.only x.1)) (of_one_service ask.service (h.writing.who b) (h.writing.who c.0.0) (adopted_service b es c e i));
    grouped = λ b start es c x e i. refl;
  }
