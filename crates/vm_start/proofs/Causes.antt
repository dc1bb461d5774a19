-- Counts over one call after another.
use Rattle.std.proofs.Common.{◌≡◌, ℕ, ◌<◌, ◌≤◌, List, inl, inr, Result, Ok, Err, subst, ap, arith}
use Rattle.std.proofs.lemmas.Bool.{cases_lt}
use Rattle.vm_host.specs.Counts.{Rose}
use Rattle.vm_host.specs.Views.{HostView}
use Rattle.vm_status.specs.Lines.{status_of}
use Rattle.vm_status.specs.declared.refusal.Refusal.{Refusal}
use Rattle.vm_status.specs.declared.refusal.Refusal.TheVariants.{HostFault}
use Rattle.vm_start.specs.Causes.{HasReadCauses}
use Rattle.vm_start.specs.Steps.{IsOwn}

-- no count rose
pub record IsCalm (a b : HostView) : Type 0 where
  pub faults : b.faults ≡ a.faults
  pub misses : b.misses ≡ a.misses

not_more : (a b : ℕ) → a ≤ b → (a < b → ⊥) → b ≡ a
not_more a b le never = elim (cases_lt a b) [ inl lt ↦ absurd (never lt) | inr ge ↦ omega (arith, le, ge) ]

pub calm_of : {X : Type 0} (a b : HostView) (x : X) → HasReadCauses {X = X} (Ok x) a b → IsCalm a b
calm_of a b x h = record {
  faults = not_more a.faults b.faults h.later.0 (λ lt. let e : 0 ≡ 6 = h.only_failed lt in omega (arith, e));
  misses = not_more a.misses b.misses h.later.1 (λ lt. let e : 0 ≡ 7 = h.only_missing lt in omega (arith, e));
}

after_calm : {Y : Type 0} (a b c : HostView) (r : Result Y Refusal) → IsCalm a b → HasReadCauses r b c → HasReadCauses r a c
after_calm a b c r calm h = record {
  failed = λ e. subst (λ (n : ℕ). Rose n c.faults) calm.faults (h.failed e);
  named = h.named;
  missing = λ e. subst (λ (n : ℕ). Rose n c.misses) calm.misses (h.missing e);
  only_failed = λ lt. h.only_failed (omega (arith, lt, calm.faults));
  only_missing = λ lt. h.only_missing (omega (arith, lt, calm.misses));
  later = (omega (arith, h.later.0, calm.faults), omega (arith, h.later.1, calm.misses));
}

-- a step without a fault, and another one
pub causes_on : {X Y : Type 0} (a b c : HostView) (x : X) (r : Result Y Refusal) → HasReadCauses {X = X} (Ok x) a b → HasReadCauses r b c → HasReadCauses r a c
causes_on a b c x r h k = after_calm a b c r (calm_of a b x h) k

-- no call
pub ok_still : {X : Type 0} (x : X) (a : HostView) → HasReadCauses {X = X} (Ok x) a a
ok_still {X} x a = record {
  failed = λ s. absurd (let e : 0 ≡ 6 = s in omega (arith, e));
  named = λ name p. absurd (let bad : ◌≡◌ {A = Result X Refusal} (Ok x) (Err (HostFault name)) = p in cc);
  missing = λ s. absurd (let e : 0 ≡ 7 = s in omega (arith, e));
  only_failed = λ lt. absurd (omega (arith, lt));
  only_missing = λ lt. absurd (omega (arith, lt));
  later = (omega arith, omega arith);
}

-- another value
pub ok_as : {X Y : Type 0} (x : X) (y : Y) (a b : HostView) → HasReadCauses {X = X} (Ok x) a b → HasReadCauses {X = Y} (Ok y) a b
ok_as {X} {Y} x y a b h = record {
  failed = λ s. absurd (let e : 0 ≡ 6 = s in omega (arith, e));
  named = λ name p. absurd (let bad : ◌≡◌ {A = Result Y Refusal} (Ok y) (Err (HostFault name)) = p in cc);
  missing = λ s. absurd (let e : 0 ≡ 7 = s in omega (arith, e));
  only_failed = h.only_failed;
  only_missing = h.only_missing;
  later = h.later;
}

-- the same refusal in the place of another value
pub err_as : {X Y : Type 0} (e : Refusal) (a b : HostView) → HasReadCauses {X = X} (Err e) a b → HasReadCauses {X = Y} (Err e) a b
err_as {X} {Y} e a b h = record {
  failed = h.failed;
  named = λ name p. h.named name (let bad : ◌≡◌ {A = Result Y Refusal} (Err e) (Err (HostFault name)) = p in let same : e ≡ HostFault name = cc in ap (λ (f : Refusal). Err f) same);
  missing = h.missing;
  only_failed = h.only_failed;
  only_missing = h.only_missing;
  later = h.later;
}

-- a step without a fault, and a refusal that no call is behind
named_status : {X : Type 0} (e : Refusal) (name : List ℕ) → ◌≡◌ {A = Result X Refusal} (Err e) (Err (HostFault name)) → status_of e ≡ 6
named_status e name p = let same : e ≡ HostFault name = cc in ap status_of same

pub own_after : {X Y : Type 0} (a b : HostView) (x : X) (e : Refusal) → HasReadCauses {X = X} (Ok x) a b → IsOwn e → HasReadCauses {X = Y} (Err e) a b
own_after {X} {Y} a b x e h own =
    let calm = calm_of {X = X} a b x h in record {
      failed = λ s. absurd (own.0 s);
      named = λ name p. absurd (own.0 (named_status {X = Y} e name p));
      missing = λ s. absurd (own.1 s);
      only_failed = λ lt. absurd (omega (arith, lt, calm.faults));
      only_missing = λ lt. absurd (omega (arith, lt, calm.misses));
      later = h.later;
    }
