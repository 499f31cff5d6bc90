-- When no incarnation is adopted twice.
use Rattle.std.specs.Prelude.{◌≡◌, ◌⊎◌, ℕ, List, ◌∷◌, ◌++◌, filter}
use Rattle.archive_kit.specs.Adopting.{Counted}
use Rattle.archive_kit.specs.Archive.{fresh}
use Rattle.archive_kit.specs.Driving.{AreAccepted, Call, all_adopted, since_sealed}
use Rattle.archive_kit.specs.Driving.Call.{Seal}
use Rattle.archive_kit.specs.Written.{adoption_of}
use Rattle.archive_world_kit.specs.Adopted.{Archives}
use Rattle.archive_world_kit.specs.Steps.{History, deeds, rounding}
use Rattle.schedule_kit.specs.Deeds.Holder.{AtGateway}
use Rattle.schedule_kit.specs.Members.{In}
use Rattle.schedule_kit.specs.Taken.{incarnations, recorded_up_to}

module _ {N : Type 0} {h : History N} (a : Archives h) (g : ℕ) where
  -- the incarnations of archives
  abbrev pub of_archives : List (ℕ × ℕ)
  of_archives = filter (λ i. a.is_archive (h.writing.who i.0)) (incarnations h.starts (deeds h.steps))

  -- what one of them adopted, by the exports that a node took
  abbrev pub adopted_in : ℕ × ℕ → List (Counted N)
  adopted_in i = a.adoptions i.0 (recorded_up_to h.starts (deeds h.steps) (AtGateway g) i)

  -- two of them adopted nothing in common
  abbrev pub AdoptApart : ℕ × ℕ → ℕ × ℕ → Type 0
  AdoptApart i j = (c d : Counted N) → In c (adopted_in i) → In d (adopted_in j) → c.0 ≡ d.0 → ⊥

  -- Both are of one archive, which was sealed after the first: of calls that it accepted, those before a seal adopted what the first did,
  -- and those since the last seal what the other did.
  pub record IsSealedBefore (i j : ℕ × ℕ) : Type 0 where
    pub start : ℕ
    pub limit : ℕ
    pub earlier : List Call
    pub again : ℕ
    pub later : List Call
    pub accepted : AreAccepted (fresh (h.writing.who i.0) start limit) (later ++ Seal again ∷ earlier)
    pub first : (c : Counted N) → In c (adopted_in i) → In (adoption_of (rounding h.writing) a.held i.0 c) (all_adopted earlier)
    pub second : (c : Counted N) → In c (adopted_in j)
        → In (adoption_of (rounding h.writing) a.held j.0 c) (since_sealed (later ++ Seal again ∷ earlier))

  -- Of every two incarnations of archives one was sealed before the other began, or they adopted nothing in common.
  abbrev pub AdoptOnce : Type 0
  AdoptOnce = (i j : ℕ × ℕ) → In i of_archives → In j of_archives → (i ≡ j → ⊥)
      → IsSealedBefore i j ⊎ (IsSealedBefore j i ⊎ AdoptApart i j)
