-- Why a setup is refused.
use Rattle.std.proofs.Common.{◌≡◌, ℕ, [], ◌∷◌, length, position, Option, Some, None, refl, ap, ◌∙◌}
use Rattle.std.specs.Prelude.{nat_eq, nat_le}
use Rattle.std.specs.Option.{option_map}
use Rattle.attr_kit.specs.Refusing.{first}
use Rattle.fleet_kit.specs.Checks.{crowded_from, has_id_of, setup_fault, first_tie}
use Rattle.fleet_kit.specs.declared.fault.FleetFault.{FleetFault}
use Rattle.fleet_kit.specs.declared.fault.FleetFault.TheVariants.{NoWriter, SameWriter, SameGateway, EndNotAfter, TooManyJobs}
use Rattle.fleet_kit.specs.declared.setup.FleetSetup.{FleetSetup}

-- the first of these, in their order
abbrev chain : Option ℕ → Option (ℕ × ℕ) → Option (ℕ × ℕ) → Option ℕ → Option ℕ → Option FleetFault
chain a b c d e = first (option_map NoWriter a ∷ option_map (λ p. SameWriter p.0 p.1) b ∷ option_map (λ p. SameGateway p.0 p.1) c ∷ option_map EndNotAfter d ∷ option_map TooManyJobs e ∷ [])

module _ (s : FleetSetup) where
  abbrev A : Option ℕ
  A = position (λ j. nat_le (length s.writers.items) j.writer) s.jobs.items

  abbrev B : Option (ℕ × ℕ)
  B = first_tie has_id_of s.writers.items

  abbrev C : Option (ℕ × ℕ)
  C = first_tie nat_eq s.gateways.items

  abbrev D : Option ℕ
  D = position (λ w. nat_le s.end w.2) s.writers.items

  abbrev E : Option ℕ
  E = crowded_from s.jobs.items 0 (length s.writers.items)

  is_chain : setup_fault s ≡ chain A B C D E
  unfolding setup_fault
  is_chain = refl

  pub no_writer : (n : ℕ) → A ≡ Some n → setup_fault s ≡ Some (NoWriter n)
  no_writer n e = is_chain ∙ ap (λ o. chain o B C D E) e

  pub same_writer : (p : ℕ × ℕ) → A ≡ None → B ≡ Some p → setup_fault s ≡ Some (SameWriter p.0 p.1)
  same_writer p a e = is_chain ∙ (λ i. chain (a i) (e i) C D E)

  pub same_gateway : (p : ℕ × ℕ) → A ≡ None → B ≡ None → C ≡ Some p → setup_fault s ≡ Some (SameGateway p.0 p.1)
  same_gateway p a b e = is_chain ∙ (λ i. chain (a i) (b i) (e i) D E)

  pub end_not_after : (n : ℕ) → A ≡ None → B ≡ None → C ≡ None → D ≡ Some n → setup_fault s ≡ Some (EndNotAfter n)
  end_not_after n a b c e = is_chain ∙ (λ i. chain (a i) (b i) (c i) (e i) E)

  pub too_many_jobs : (n : ℕ) → A ≡ None → B ≡ None → C ≡ None → D ≡ None → E ≡ Some n → setup_fault s ≡ Some (TooManyJobs n)
  too_many_jobs n a b c d e = is_chain ∙ (λ i. chain (a i) (b i) (c i) (d i) (e i))

  pub not_refused : A ≡ None → B ≡ None → C ≡ None → D ≡ None → E ≡ None → setup_fault s ≡ None
  not_refused a b c d e = is_chain ∙ (λ i. chain (a i) (b i) (c i) (d i) (e i))
