-- What messages and firings leave alone.
use Rattle.std.specs.Prelude.{Some, is_some, is_none, ◌==◌, if◌then◌else◌}
use Rattle.std.proofs.Common.{◌≡◌, ℕ, zero, suc, ◌+◌, ◌<◌, Bool, true, false, not, ◌&&◌, List, [], ◌∷◌, length, get_or, drop, drop-cons, add-one, refl, sym, ap, ◌∙◌, arith, inl, inr}
use Rattle.std.proofs.Math.ListN.{length-set}
use Rattle.std.proofs.lemmas.List.{get_or-set_other, set_past}
use Rattle.std.proofs.lemmas.Bool.{cases_eq, cases_lt}
use Rattle.std.proofs.lemmas.Grind.{common_steps, get_or-set_at}
use Rattle.vm_law.specs.CpuSet.{Cpus, has}
use Rattle.vm_law.specs.declared.message.Message.{Message}
use Rattle.vm_law.specs.declared.message.Mode.{Mode}
use Rattle.vm_law.specs.declared.message.Mode.TheVariants.{Fixed, Nmi, Startup, Dropped}
use Rattle.vm_lapic.specs.Apic.{Apic, posted, post_answer, after_answer}
use Rattle.vm_lapic.specs.declared.effect.Posted.{Posted}
use Rattle.vm_lapic.specs.declared.effect.Posted.TheVariants.{Set, Merged, Ignored, Illegal}
use Rattle.vm_lapic.specs.declared.register.Register.TheVariants.{InitialCount}
use Rattle.vm_lapic.specs.Window.{offset_of, written}
use Rattle.vm_state.specs.declared.cpu.Cpu.{Cpu}
use Rattle.vm_state.specs.Machine.{MachineState, cpu_at, cpu_count, with_cpu, unstarted_cpu}
use Rattle.vm_devices.specs.Messages.{received_as, received, sent_to, sent_below, sent, all_sent}
use Rattle.vm_devices.specs.Timers.{fired, fired_below, armed}
use Rattle.vm_devices.specs.Windows.{lapic_kept}

-- ---- an APIC but for its requests

pub record SameApic (l k : Apic) : Type 0 where
  pub number : k.cpu ≡ l.cpu
  pub lvt : k.lvt_timer ≡ l.lvt_timer
  pub initial : k.timer_initial ≡ l.timer_initial
  pub divide : k.timer_divide ≡ l.timer_divide

apic_refl : (l : Apic) → SameApic l l
apic_refl l = record { number = refl; lvt = refl; initial = refl; divide = refl }

answered_same : (l : Apic) (v : ℕ) (a : Posted) → SameApic l (after_answer l v a)
answered_same l v Set = record { number = refl; lvt = refl; initial = refl; divide = refl }
answered_same l v Merged = apic_refl l
answered_same l v Ignored = apic_refl l
answered_same l v Illegal = apic_refl l

pub posted_same : (l : Apic) (v : ℕ) → SameApic l (posted l v)
unfolding posted
posted_same l v = answered_same l v (post_answer l v)

-- ---- a vCPU but for what was requested of it

pub record SameCpu (c d : Cpu) : Type 0 where
  pub stage : d.stage ≡ c.stage
  pub ctx : d.ctx ≡ c.ctx
  pub started : d.started ≡ c.started
  pub halted : d.halted ≡ c.halted
  pub waits : (is_some c.startup && c.started) ≡ false → (is_some d.startup && d.started) ≡ false
  pub apic : SameApic c.lapic d.lapic

cpu_refl : (c : Cpu) → SameCpu c c
cpu_refl c = record { stage = refl; ctx = refl; started = refl; halted = refl; waits = λ e. e; apic = apic_refl c.lapic }

then_cpu : (b c d : Cpu) → SameCpu b c → SameCpu c d → SameCpu b d
then_cpu b c d x y = record {
  stage = y.stage ∙ x.stage;
  ctx = y.ctx ∙ x.ctx;
  started = y.started ∙ x.started;
  halted = y.halted ∙ x.halted;
  waits = λ e. y.waits (x.waits e);
  apic = record {
    number = y.apic.number ∙ x.apic.number;
    lvt = y.apic.lvt ∙ x.apic.lvt;
    initial = y.apic.initial ∙ x.apic.initial;
    divide = y.apic.divide ∙ x.apic.divide;
  };
}

pub with_post_same : (c : Cpu) (v : ℕ) → SameCpu c (record c { lapic = posted c.lapic v })
with_post_same c v = record { stage = refl; ctx = refl; started = refl; halted = refl; waits = λ e. e; apic = posted_same c.lapic v }

-- a start-up waits only where the vCPU isn't started
startup_same : (c : Cpu) (v : ℕ) (b s : Bool) → s ≡ c.started → (not s && is_none c.startup) ≡ b → SameCpu c (if b then record c { startup = Some v } else c)
startup_same c v false s is e = cpu_refl c
startup_same c v true true is e = absurd (grind (arith, common_steps))
startup_same c v true false is e = record { stage = refl; ctx = refl; started = refl; halted = refl; waits = λ _. sym is; apic = apic_refl c.lapic }

received_as_same : (mode : Mode) (v : ℕ) (c : Cpu) → SameCpu c (received_as mode v c)
received_as_same Fixed v c = with_post_same c v
received_as_same Nmi v c = record { stage = refl; ctx = refl; started = refl; halted = refl; waits = λ e. e; apic = apic_refl c.lapic }
received_as_same Startup v c = startup_same c v (not c.started && is_none c.startup) c.started refl refl
received_as_same Dropped v c = cpu_refl c

received_same : (x : Message) (c : Cpu) → SameCpu c (received x c)
unfolding received
received_same x c = received_as_same x.mode x.vector c

-- ---- a machine but for what was requested of its vCPUs

pub record Same (m t : MachineState) : Type 0 where
  pub count : cpu_count t ≡ cpu_count m
  pub each : (i : ℕ) → SameCpu (cpu_at m i) (cpu_at t i)
  pub rest : t ≡ record m { cpus = t.cpus }

pub same_refl : (m : MachineState) → Same m m
same_refl m = record { count = refl; each = λ i. cpu_refl (cpu_at m i); rest = refl }

pub then_same : (a b c : MachineState) → Same a b → Same b c → Same a c
then_same a b c x y = record {
  count = y.count ∙ x.count;
  each = λ i. then_cpu (cpu_at a i) (cpu_at b i) (cpu_at c i) (x.each i) (y.each i);
  rest = y.rest ∙ ap (λ (m : MachineState). record m { cpus = c.cpus }) x.rest;
}

-- another vCPU i that is the same
pub with_same : (m : MachineState) (i : ℕ) (d : Cpu) → SameCpu (cpu_at m i) d → Same m (with_cpu m i d)
with_same m i d h = record {
  count = simp length-set;
  each = λ k.
      elim (cases_eq k i) [
        | inl same ↦
            elim (cases_lt i (length m.cpus)) [
              | inl within ↦ rw (get_or-set_at m.cpus i k d (unstarted_cpu k) same within) (rw same h)
              | inr past ↦ rw (set_past m.cpus i d past) (cpu_refl (cpu_at m k))
            ]
        | inr other ↦ rw (get_or-set_other m.cpus i k d (unstarted_cpu k) other) (cpu_refl (cpu_at m k))
      ];
  rest = refl;
}

-- ---- messages

if_same : (b : Bool) (m : MachineState) (i : ℕ) (d : Cpu) → SameCpu (cpu_at m i) d → Same m (if b then with_cpu m i d else m)
if_same true m i d h = with_same m i d h
if_same false m i d h = same_refl m

to_same : (m : MachineState) (x : Message) (targets : Cpus) (i : ℕ) → Same m (sent_to m x targets i)
unfolding sent_to
to_same m x targets i = if_same (has targets i) m i (received x (cpu_at m i)) (received_same x (cpu_at m i))

pub below_same : (m : MachineState) (x : Message) (targets : Cpus) (n : ℕ) → Same m (sent_below m x targets n)
below_same m x targets zero = same_refl m
below_same m x targets (suc n) =
    then_same m (sent_below m x targets n) (sent_below m x targets (suc n)) (below_same m x targets n) (to_same (sent_below m x targets n) x targets n)

pub sent_same : (m : MachineState) (x : Message) → Same m (sent m x)
unfolding sent
sent_same m x = below_same m x _ (cpu_count m)

pub all_same : (m : MachineState) (xs : List Message) → Same m (all_sent m xs)
all_same m [] = same_refl m
all_same m (x ∷ xs) = then_same m (sent m x) (all_sent (sent m x) xs) (sent_same m x) (all_same (sent m x) xs)

pub count_below : (m : MachineState) (x : Message) (targets : Cpus) (n : ℕ) → length (sent_below m x targets n).cpus ≡ length m.cpus
count_below m x targets n = (below_same m x targets n).count

pub count_sent : (m : MachineState) (x : Message) → length (sent m x).cpus ≡ length m.cpus
count_sent m x = (sent_same m x).count

pub count_all : (m : MachineState) (xs : List Message) → length (all_sent m xs).cpus ≡ length m.cpus
count_all m xs = (all_same m xs).count

pub all_more : (m : MachineState) (xs : List Message) (i : ℕ) (d : Message) → i < length xs
    → all_sent m (drop i xs) ≡ all_sent (sent m (get_or xs i d)) (drop (i + 1) xs)
all_more m xs i d within =
    ap (λ (ys : List Message). all_sent m ys) (drop-cons xs i d within)
    ∙ ap (λ (j : ℕ). all_sent (sent m (get_or xs i d)) (drop j xs)) (sym (add-one i))

-- ---- firings

pub fired_same : (m : MachineState) (n i : ℕ) → Same m (fired m n i)
unfolding fired
fired_same m n i = if_same _ m i _ (with_post_same (cpu_at m i) _)

pub fired_below_same : (m : MachineState) (n k : ℕ) → Same m (fired_below m n k)
fired_below_same m n zero = same_refl m
fired_below_same m n (suc k) = then_same m (fired_below m n k) (fired_below m n (suc k)) (fired_below_same m n k) (fired_same (fired_below m n k) n k)

pub count_fired : (m : MachineState) (n k : ℕ) → length (fired_below m n k).cpus ≡ length m.cpus
count_fired m n k = (fired_below_same m n k).count

pub timers_fired : (m : MachineState) (n k : ℕ) → (fired_below m n k).timers ≡ m.timers
timers_fired m n k = ap (λ (t : MachineState). t.timers) (fired_below_same m n k).rest

-- ---- a write to a local APIC

kept_if : (b : Bool) (m : MachineState) (i lag : ℕ) → length (if b then armed m i lag else m).cpus ≡ length m.cpus
unfolding armed
kept_if true m i lag = refl
kept_if false m i lag = refl

pub count_kept : (m : MachineState) (i lag offset value : ℕ) → length (lapic_kept m i lag offset value).cpus ≡ length m.cpus
count_kept m i lag offset value =
    let next : MachineState = with_cpu m i (record (cpu_at m i) { lapic = written (cpu_at m i).lapic offset value }) in
    kept_if (offset == offset_of InitialCount) next i lag ∙ simp length-set
