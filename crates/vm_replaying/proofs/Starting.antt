-- What the reading of a start leaves of a host, before other calls on it and without any.
use Rattle.std.proofs.Common.{◌≡◌, ◌⊎◌, inl, inr, ℕ, ◌<◌, ◌≤◌, Bool, List, Option, Result, Ok, Err, refl, sym, ◌∙◌, ap, subst, arith}
use Rattle.std.proofs.lemmas.Bool.{cases_lt}
use Rattle.vm_host.specs.Counts.{Rose}
use Rattle.vm_host.specs.Views.{HostView, SinkView}
use Rattle.vm_cmd.specs.declared.command.RunWords.{RunWords}
use Rattle.vm_outcome.specs.declared.outcome.Ending.{Ending}
use Rattle.vm_outcome.specs.declared.outcome.Ending.TheVariants as how
use Rattle.vm_outcome.specs.declared.outcome.Kept.{Kept}
use Rattle.vm_outcome.specs.Causes.{HasCauses, IsNamed}
use Rattle.vm_start.specs.Causes.{HasReadCauses, NoneRefused, result_status}
use Rattle.vm_start.specs.Start.{StartOf}
use Rattle.vm_status.specs.Lines.{status_of}
use Rattle.vm_status.specs.declared.refusal.Refusal.{Refusal}
use Rattle.vm_status.specs.declared.refusal.Refusal.TheVariants.{HostFault, Memory}
use Rattle.vm_replaying.proofs.Starts.{of_files_no_console, start_of_files}

-- no count rose
pub quiet_counts : {X : Type 0} (x : X) (old mid : HostView) → HasReadCauses (Ok x) old mid → (mid.faults ≡ old.faults) × (mid.misses ≡ old.misses)
quiet_counts x old mid h =
    let faults : mid.faults ≤ old.faults = elim (cases_lt old.faults mid.faults) [ inl lt ↦ absurd (omega (arith, h.only_failed lt)) | inr le ↦ le ] in
    let misses : mid.misses ≤ old.misses = elim (cases_lt old.misses mid.misses) [ inl lt ↦ absurd (omega (arith, h.only_missing lt)) | inr le ↦ le ] in
    (omega (arith, faults, h.later.0), omega (arith, misses, h.later.1))

pub none_before : (old mid new : HostView) → NoneRefused old new → mid.faults ≤ new.faults → mid.misses ≤ new.misses → NoneRefused old mid
none_before old mid new none faults misses = record {
  not_failed = λ rose. none.not_failed (omega (arith, rose, faults));
  not_missing = λ rose. none.not_missing (omega (arith, rose, misses));
}

-- ---- a refusal

pub read_causes : {X : Type 0} (result : Result X Refusal) (r : Refusal) (old new : HostView) (console : SinkView) → result ≡ Err r → HasReadCauses result old new → (status_of r ≡ 9 → ⊥)
    → HasCauses (status_of r) old new console console
read_causes result r old new console is h other =
    let s : result_status result ≡ status_of r = ap result_status is in record {
      failed = λ e. h.failed (s ∙ e);
      missing = λ e. h.missing (s ∙ e);
      unwritten = λ e. absurd (other e);
      only_failed = λ lt. inl (sym s ∙ h.only_failed lt);
      only_missing = λ lt. sym s ∙ h.only_missing lt;
      only_unwritten = λ lt. absurd (omega (arith, lt));
      later = (h.later.0, h.later.1, omega arith);
    }

pub same_refusal : (a b : Refusal) → how.Refused a ≡ how.Refused b → a ≡ b
same_refusal a b e = cc

pub as_ending : (a b : Refusal) → a ≡ b → how.Refused a ≡ how.Refused b
as_ending a b e = ap {A = Refusal} {B = Ending} (λ r. how.Refused r) e

pub read_named : {X : Type 0} (r : Refusal) (name : List ℕ) (old new : HostView) → HasReadCauses {X = X} (Err r) old new → how.Refused r ≡ how.Refused (HostFault name) → IsNamed name new
read_named {X = X} r name old new h e = h.named name (ap {A = Refusal} {B = Result X Refusal} (λ q. Err q) (same_refusal r (HostFault name) e))

-- a refusal of a start isn't the console's
pub start_no_console : (told : Bool) (file : List ℕ → Option (List ℕ)) (w : RunWords) (journal : Option (List ℕ)) (r : Refusal) → (r ≡ Memory) ⊎ StartOf told file w journal (Err r) → status_of r ≡ 9 → ⊥
start_no_console told file w journal r (inl is) nine = omega (arith, ap status_of is, nine)
start_no_console told file w journal r (inr is) nine = of_files_no_console r (start_of_files told file w journal r is) nine
