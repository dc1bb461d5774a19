-- Counts over one call after another, and what a log takes.
use Rattle.std.proofs.Common.{◌≡◌, ℕ, ◌≤◌, ◌<◌, List, Option, Some, None, Result, Ok, Err, IfSome, IfNone, refl, sym, subst, inl, inr, arith}
use Rattle.std.specs.Prelude.{OnOk, OnErr}
use Rattle.std.proofs.lemmas.Bool.{cases_lt}
use Rattle.vm_host.specs.Counts.{Counted, Rose}
use Rattle.vm_host.specs.Leaves.{Takes, TakesSome}
use Rattle.vm_host.specs.Views.{HostView, SinkView}
use Rattle.vm_host.specs.declared.sink.SinkFault.{SinkFault}
use Rattle.vm_host.proofs.Frames.{takes_is_some}
use Rattle.vm_outcome.specs.declared.outcome.Kept.{Kept}
use Rattle.vm_outcome.specs.Causes.{HasCauses, HasHostCauses, HasSinkCauses}
use Rattle.vm_outcome.specs.Telling.{IsRefusal, TakesLine}
use Rattle.vm_outcome.specs.declared.outcome.Ending.{Ending}
use Rattle.vm_outcome.specs.declared.outcome.Ending.TheVariants.{Refused}
use Rattle.vm_status.specs.declared.refusal.Refusal.{Refusal}

pub if_some : (P Q : Kept → Type 0) (kept : Option Kept) → ((k : Kept) → P k → Q k) → IfSome kept P → IfSome kept Q
if_some P Q None f h = tt
if_some P Q (Some k) f h = f k h

pub if_none : (P Q : Type 0) (kept : Option Kept) → (P → Q) → IfNone kept P → IfNone kept Q
if_none P Q None f h = f h
if_none P Q (Some k) f h = tt

pub all_some : (P : Kept → Type 0) (kept : Option Kept) → ((k : Kept) → kept ≡ Some k → P k) → IfSome kept P
all_some P None f = tt
all_some P (Some k) f = f k refl

pub kept_is : (P : Kept → Type 0) (kept : Option Kept) (k : Kept) → kept ≡ Some k → IfSome kept P → P k
kept_is P kept k is h = let Q : Option Kept → Type 0 = λ o. IfSome o P in subst Q is h

-- ---- counts

-- a file was read, and the console stands
pub host_causes : (name : List ℕ) (status : ℕ) (old new : HostView) (console : SinkView) → HasHostCauses name status old new → (status ≡ 9 → ⊥) → HasCauses status old new console console
host_causes name status old new console h other = record {
  failed = h.failed;
  missing = h.missing;
  unwritten = λ e. absurd (other e);
  only_failed = λ lt. inl (h.only_failed lt);
  only_missing = h.only_missing;
  only_unwritten = λ lt. absurd (omega (arith, lt));
  later = (h.later.0, h.later.1, omega arith);
}

-- no count rose before
pub causes_after : (status : ℕ) (old mid new : HostView) (console console_now : SinkView) → mid.faults ≡ old.faults → mid.misses ≡ old.misses → HasCauses status mid new console console_now
    → HasCauses status old new console console_now
causes_after status old mid new console console_now same same_misses c = record {
  failed = λ e. subst (λ (n : ℕ). Rose n new.faults) same (c.failed e);
  missing = λ e. subst (λ (n : ℕ). Rose n new.misses) same_misses (c.missing e);
  unwritten = c.unwritten;
  only_failed = λ lt. c.only_failed (omega (arith, lt, same));
  only_missing = λ lt. c.only_missing (omega (arith, lt, same_misses));
  only_unwritten = c.only_unwritten;
  later = (omega (arith, c.later.0, same), omega (arith, c.later.1, same_misses), c.later.2);
}

-- a file was read without a fault before
pub causes_on : (name : List ℕ) (status : ℕ) (old mid new : HostView) (console console_now : SinkView) → HasHostCauses name 0 old mid → HasCauses status mid new console console_now
    → HasCauses status old new console console_now
causes_on name status old mid new console console_now h c =
    let faults : mid.faults ≤ old.faults = elim (cases_lt old.faults mid.faults) [ inl lt ↦ absurd (let e = h.only_failed lt in cc) | inr le ↦ le ] in
    let misses : mid.misses ≤ old.misses = elim (cases_lt old.misses mid.misses) [ inl lt ↦ absurd (let e = h.only_missing lt in cc) | inr le ↦ le ] in
    causes_after status old mid new console console_now (omega (arith, faults, h.later.0)) (omega (arith, misses, h.later.1)) c

-- the host stands
pub sink_causes : (status : ℕ) (host : HostView) (console console_now : SinkView) → HasSinkCauses status console console_now
    → HasCauses status host host console console_now
sink_causes status host console console_now s = record {
  failed = λ e. absurd (s.no_host.0 e);
  missing = λ e. absurd (s.no_host.1 e);
  unwritten = s.unwritten;
  only_failed = λ lt. absurd (omega (arith, lt));
  only_missing = λ lt. absurd (omega (arith, lt));
  only_unwritten = λ lt. inl (s.only_unwritten lt);
  later = (omega arith, omega arith, s.later);
}

-- no call at all
pub no_causes : (status : ℕ) (host : HostView) (console : SinkView) → (status ≡ 6 → ⊥) → (status ≡ 7 → ⊥) → (status ≡ 9 → ⊥) → HasCauses status host host console console
no_causes status host console six seven nine = record {
  failed = λ e. absurd (six e);
  missing = λ e. absurd (seven e);
  unwritten = λ e. absurd (nine e);
  only_failed = λ lt. absurd (omega (arith, lt));
  only_missing = λ lt. absurd (omega (arith, lt));
  only_unwritten = λ lt. absurd (omega (arith, lt));
  later = (omega arith, omega arith, omega arith);
}

-- ---- the log

pub no_refusal : (ending : Ending) → ((x : Refusal) → ending ≡ Refused x → ⊥) → IsRefusal ending → ⊥
no_refusal (Refused refusal) other h = other refusal refl
no_refusal ending other h = h

pub takes_line : (line : List ℕ) (old new : SinkView) (result : Result (Unit {0}) SinkFault) → OnOk result (Takes line old new) → OnErr result (TakesSome line old new)
    → Counted old.faults new.faults result → TakesLine line old new
takes_line line old new (Ok x) whole part cause = record { part = takes_is_some old new line whole; whole = λ calm. whole; later = cause.later }
takes_line line old new (Err e) whole part cause = record { part = part; whole = λ calm. absurd (calm cause.refused); later = cause.later }
