-- A new runner at the start of a run, and what a runner ran ahead.
use Rattle.std.proofs.Common.{◌≡◌, ℕ, zero, suc, ◌+◌, ◌<◌, ◌≤◌, Bool, true, false, List, length, get_or, take, replicate, refl, sym, ap, subst, ◌∙◌, inl, inr, arith}
use Rattle.std.specs.Prelude.{slice_index, if◌then◌else◌}
use Rattle.std.proofs.lemmas.Bool.{cases_lt}
use Rattle.std.proofs.lemmas.List.{get_or_past, length-take-le}
use Rattle.vm_state.specs.declared.start.Start as start_type
use Rattle.vm_state.specs.Machine.{code_of, cpu_at, cpu_count}
use Rattle.vm_state.specs.Start.{IsSound, boot, first_state}
use Rattle.vm_state.specs.State.{State, page_count, seat_at}
use Rattle.vm_state.proofs.Sound.{boot_is_sound}
use Rattle.vm_table.specs.Rounds.{lease_of, leases, no_lease, run_outside}
use Rattle.vm_vcpu.specs.declared.out.Out.TheVariants.{Nothing, Leased}
use Rattle.vm_vcpu.specs.Ahead.{RunsAhead}
use Rattle.vm_vcpu.specs.Copies.{AreCopies, CopiesView}
use Rattle.vm_vcpu.specs.New.{NewRunnersFit, new_runner}
use Rattle.vm_vcpu.specs.View.{RunnerView, lease_in, ran_ahead}

-- every version is 0
zeros : (n k : ℕ) → slice_index (replicate n 0) k ≡ 0
zeros zero k = refl
zeros (suc n) zero = refl
zeros (suc n) (suc k) = zeros n k

boot_versions : (start : start_type.Start) → (boot start).versions ≡ replicate (page_count (boot start).machine.ram.code) 0
unfolding first_state
boot_versions start = refl

pub new_fit : NewRunnersFit
new_fit start cpu sound l =
    let s = boot start in
    let h = boot_is_sound start sound in
    let inside = h.machine.ram.code in
    let size : length (code_of s.machine) ≡ s.machine.ram.code = length-take-le s.machine.ram.code s.machine.ram.bytes inside in
    let same : replicate (page_count (length (code_of s.machine))) 0 ≡ s.versions = ap (λ n. replicate (page_count n) 0) size ∙ sym (boot_versions start) in
    record {
      cpu = l;
      pass = refl;
      copies = record {
        size = refl;
        count = ap (λ (xs : List ℕ). length xs) same;
        earlier = λ page. (let e = ap (λ (xs : List ℕ). slice_index xs page) same in omega (arith, e));
        pages = λ page e. refl;
      };
      out = tt;
    }

ahead_if : (s : State) (c : CopiesView) (i : ℕ) (b : Bool) → c.code ≡ code_of s.machine → c.versions ≡ s.versions
    → lease_in c (ran_ahead c (if b then Leased (cpu_at s.machine i).ctx (seat_at s i).left else Nothing)) ≡ (if b then lease_of (code_of s.machine) (cpu_at s.machine i).ctx (seat_at s i).left s.versions else no_lease)
ahead_if s c i true e v = rw (e, v) refl
ahead_if s c i false e v = refl

pub ahead : RunsAhead
unfolding run_outside
ahead s r t = rw t.out (ahead_if s r.copies r.cpu (leases s r.cpu) t.copies.code t.copies.versions)
