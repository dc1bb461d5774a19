-- What `asm` answers, from what its parts answer.
use Rattle.std.proofs.Common.{◌≡◌, inl, inr, ℕ, true, List, [], ◌∷◌, Option, Some, Result, Ok, Err, Contains, refl, sym, subst, ◌∙◌, ap, arith}
use Rattle.std.specs.Prelude.{OnOk, IfErr}
use Rattle.vm_law.specs.declared.image.FlatImage.{FlatImage}
use Rattle.vm_host.specs.Leaves.{ReadsHost}
use Rattle.vm_host.specs.Views.{HostView, SinkView}
use Rattle.vm_outcome.specs.declared.outcome.Ending.{Ending}
use Rattle.vm_outcome.specs.declared.outcome.Ending.TheVariants as how
use Rattle.vm_outcome.specs.Causes.{HasHostCauses}
use Rattle.vm_outcome.specs.Files as files
use Rattle.vm_outcome.specs.Files.{Unread, IsFileOf}
use Rattle.vm_assembling.specs.Answers as answer
use Rattle.vm_assembling.specs.Answers.{AsmAnswers, IsUnwritten}
use Rattle.vm_assembling.specs.Assembling.{IsAssembly, IsAssemblyFault, HoldsImage}
use Rattle.vm_status.specs.Lines.{status_of}
use Rattle.vm_status.specs.declared.refusal.Refusal.{Refusal}
use Rattle.vm_status.specs.declared.role.Role.TheVariants as roles

as_ending : (ending : Ending) (a b : Refusal) → ending ≡ how.Refused a → a ≡ b → ending ≡ how.Refused b
as_ending ending a b is e = is ∙ ap {A = Refusal} {B = Ending} (λ r. how.Refused r) e

-- ---- answers

module _ (file out : List ℕ) (ending : Ending) where
  -- the text spells an image, which was to be written
  pub wrote : (old mid new : HostView) (f : FlatImage) (done : Result (Unit {0}) Refusal) → IsFileOf old.tells (old.file file) IsAssembly f → mid.tells ≡ old.tells
      → OnOk done (HoldsImage out f mid new) → IfErr done (λ r. IsUnwritten out new r)
      → OnOk done (ending ≡ how.Done) → IfErr done (λ r. ending ≡ how.Refused r) → AsmAnswers old new file out ending
  wrote old mid new f (Ok x) is same holds un done refused =
      answer.assembled f is (record { reads = λ told. holds.reads (same ∙ told); lasts = λ told. holds.lasts (same ∙ told) }) done
  wrote old mid new f (Err r) is same holds (inl (named, e)) done refused = answer.unwritten f is named (as_ending ending r _ refused e)
  wrote old mid new f (Err r) is same holds (inr e) done refused = answer.spent (as_ending ending r _ refused e)

  -- the text wasn't read
  pub not_read : (old new : HostView) (r : Refusal) → Unread old.tells (old.file file) roles.Assembly file IsAssembly IsAssemblyFault r
      → HasHostCauses file (status_of r) old new → ReadsHost old new → ending ≡ how.Refused r → AsmAnswers old new file out ending
  not_read old new r (files.bad at kind is refused) causes reads e = answer.refused at kind refused reads (as_ending ending r _ e is)
  not_read old new r (files.missing is gone) causes reads e = answer.missing gone reads (as_ending ending r _ e is)
  not_read old new r (files.failed is) causes reads e = answer.unread (causes.named (ap status_of is)) reads (as_ending ending r _ e is)
  not_read old new r (files.spent is) causes reads e = answer.spent (as_ending ending r _ e is)
