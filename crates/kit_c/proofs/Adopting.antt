-- What an archive answers, and becomes, that adopts from a gateway: from what two handles have.
use Rattle.std.proofs.Common.{◌≡◌, ℕ, pos, List, Option, None, Some, ◌∷◌, [], refl, sym}
use Rattle.archive_kit.specs.Archive.{ArchiveState}
use Rattle.attr_kit.specs.Refusing.{first}
use Rattle.gossip_kit.specs.Views.{NodeModel}
use Rattle.point_kit.specs.declared.writer_id.WriterId.{WriterId}
use Rattle.kit_c.specs.Archives.{adopting_fault, after_adopting}
use Rattle.kit_c.specs.Calls.{code_for, in_first, of_two}
use Rattle.kit_c.specs.Codes.{code_of}
use Rattle.kit_c.specs.Faults.{text_fault}
use Rattle.kit_c.specs.declared.fault.Fault.{Fault}

module _ (start : ℕ) {w v : WriterId} {m : Option ArchiveState} {n : Option NodeModel} {a : ArchiveState} {k : NodeModel} where
  pub adopts : {b : ArchiveState} → w ≡ v → m ≡ Some a → n ≡ Some k → b ≡ after_adopting w start a k
      → Some b ≡ in_first (after_adopting v start) m n
  adopts same archive gateway is = rw archive (rw gateway (rw (sym same) (rw is refl)))

  pub no_fault : (bytes : List ℕ) → text_fault bytes ≡ None → w ≡ v → m ≡ Some a → n ≡ Some k → adopting_fault w start a k ≡ None
      → pos 0 ≡ code_for (first (text_fault bytes ∷ of_two m n (adopting_fault v start) ∷ []))
  no_fault bytes text same archive gateway none = rw text (rw archive (rw gateway (rw (sym same) (rw none refl))))

  pub one_fault : (bytes : List ℕ) {f : Fault} → text_fault bytes ≡ None → w ≡ v → m ≡ Some a → n ≡ Some k → adopting_fault w start a k ≡ Some f
      → code_of f ≡ code_for (first (text_fault bytes ∷ of_two m n (adopting_fault v start) ∷ []))
  one_fault bytes text same archive gateway some = rw text (rw archive (rw gateway (rw (sym same) (rw some refl))))
