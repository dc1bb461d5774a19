-- What interrupt messages and the lines of devices leave as it is.
use Rattle.std.proofs.Common.{◌≡◌, ℕ, zero, suc, ◌+◌, Bool, true, false, not, List, [], ◌∷◌, length, map, set, refl, sym, ap, ◌∙◌, inl, inr, ◌⊎◌, arith, Some}
use Rattle.std.specs.Prelude.{◌&&◌, ◌||◌, ◌==◌, is_none, if◌then◌else◌}
use Rattle.std.specs.FinSet.{insert, members}
use Rattle.std.specs.Option.{option_to_list}
use Rattle.std.proofs.Math.ListN.{length-set}
use Rattle.std.proofs.Math.Seq.{map-set_same}
use Rattle.std.proofs.lemmas.List.{get_or-set_other, set_past}
use Rattle.std.proofs.lemmas.Bool.{cases_Bool, cases_eq, cases_lt, or_cases}
use Rattle.std.proofs.lemmas.Bool.Decides.{nat_tests}
use Rattle.std.proofs.lemmas.Grind.{common_steps, get_or-set_at}
use Rattle.vm_law.specs.CpuSet.{Cpus}
use Rattle.vm_law.specs.CpuSet.{has as has_cpu}
use Rattle.vm_law.specs.declared.message.Message.{Message}
use Rattle.vm_law.specs.declared.message.Mode.{Mode}
use Rattle.vm_law.specs.declared.message.Mode.TheVariants.{Fixed, Nmi, Startup, Dropped}
use Rattle.vm_irq.specs.Destination.{targets_of}
use Rattle.vm_vectors.specs.Vectors.{Vectors, has}
use Rattle.vm_lapic.specs.declared.effect.Posted.{Posted}
use Rattle.vm_lapic.specs.declared.effect.Posted.TheVariants.{Set, Merged, Ignored, Illegal}
use Rattle.vm_lapic.specs.Apic.{Apic, posted, post_answer, after_answer}
use Rattle.vm_ioapic.specs.declared.pin.Pin.{Pin}
use Rattle.vm_ioapic.specs.declared.entry.Redirection.{Redirection}
use Rattle.vm_ioapic.specs.Pin as pin
use Rattle.vm_ioapic.specs.Ioapic.{Chip, pin_at, raised, raise_message, lowered, after_eoi, eoi_messages}
use Rattle.vm_state.specs.declared.cpu.Cpu.{Cpu}
use Rattle.vm_state.specs.Machine.{MachineState, cpu_at, cpu_count, with_cpu, unstarted_cpu}
use Rattle.vm_devices.specs.Messages.{received_as, received, sent_to, sent_below, sent, all_sent, pin_raised, pin_lowered, pin_followed, level_ended}

-- ---- of a local APIC: vectors are requested that weren't, by posts that were accepted

pub record Heard (l k : Apic) : Type 0 where
  pub rest : record k { irr = l.irr } ≡ l
  pub keeps : (v : ℕ) → has l.irr v ≡ true → has k.irr v ≡ true
  pub sets : (v : ℕ) → has k.irr v ≡ true → (has l.irr v ≡ true) ⊎ (post_answer l v ≡ Set)

pub heard_itself : (l : Apic) → Heard l l
heard_itself l = record { rest = refl; keeps = λ v h. h; sets = λ v h. inl h }

-- a post asks for no more than the vector and whether the APIC is enabled
same_answer : (l k : Apic) (v : ℕ) → k.svr ≡ l.svr → has k.irr v ≡ has l.irr v → post_answer k v ≡ post_answer l v
unfolding post_answer
same_answer l k v e h = rw (e, h) refl

set_tells : (l : Apic) (v : ℕ) → post_answer l v ≡ Set → has l.irr v ≡ false
unfolding post_answer
set_tells l v h = grind (arith, nat_tests, common_steps)

pub then_heard : (l k j : Apic) → Heard l k → Heard k j → Heard l j
then_heard l k j a b = record {
  rest = ap (λ (x : Apic). record x { irr = l.irr }) b.rest ∙ a.rest;
  keeps = λ v h. b.keeps v (a.keeps v h);
  sets = λ v h. elim (b.sets v h) [
    | inl old ↦ a.sets v old
    | inr new ↦ elim (cases_Bool (has l.irr v)) [
      | inl there ↦ inl there
      | inr none ↦ inr (sym (same_answer l k v (ap (λ (x : Apic). x.svr) a.rest) (set_tells k v new ∙ sym none)) ∙ new)
    ]
  ];
}

pub has_insert : (s : Vectors) (n q : ℕ) → has (insert s n) q ≡ ((q == n) || has s q)
has_insert s n q = grind (arith, members, nat_tests, common_steps)

or_true : (b : Bool) → (b || true) ≡ true
or_true true = refl
or_true false = refl

heard_as : (l : Apic) (v : ℕ) (a : Posted) → post_answer l v ≡ a → Heard l (after_answer l v a)
heard_as l v Set e = record {
  rest = refl;
  keeps = λ q h. (has_insert l.irr v q ∙ ap (λ b. (q == v) || b) h) ∙ or_true (q == v);
  sets = λ q h. elim (or_cases (q == v) (has l.irr q) (sym (has_insert l.irr v q) ∙ h)) [
    | inl same ↦ inr (let s : q ≡ v = grind (arith, nat_tests, same) in ap (λ x. post_answer l x) s ∙ e)
    | inr old ↦ inl old
  ];
}
heard_as l v Merged e = heard_itself l
heard_as l v Ignored e = heard_itself l
heard_as l v Illegal e = heard_itself l

pub posted_heard : (l : Apic) (v : ℕ) → Heard l (posted l v)
unfolding posted
posted_heard l v = heard_as l v (post_answer l v) refl

-- ---- of a vCPU

pub record CpuHeard (c d : Cpu) : Type 0 where
  pub stage : d.stage ≡ c.stage
  pub ctx : d.ctx ≡ c.ctx
  pub started : d.started ≡ c.started
  pub halted : d.halted ≡ c.halted
  pub lapic : Heard c.lapic d.lapic

pub cpu_heard_itself : (c : Cpu) → CpuHeard c c
cpu_heard_itself c = record { stage = refl; ctx = refl; started = refl; halted = refl; lapic = heard_itself c.lapic }

pub then_cpu_heard : (c d e : Cpu) → CpuHeard c d → CpuHeard d e → CpuHeard c e
then_cpu_heard c d e a b = record {
  stage = b.stage ∙ a.stage;
  ctx = b.ctx ∙ a.ctx;
  started = b.started ∙ a.started;
  halted = b.halted ∙ a.halted;
  lapic = then_heard c.lapic d.lapic e.lapic a.lapic b.lapic;
}

startup_heard : (c : Cpu) (v : ℕ) (b : Bool) → CpuHeard c (if b then record c { startup = Some v } else c)
startup_heard c v true = record { stage = refl; ctx = refl; started = refl; halted = refl; lapic = heard_itself c.lapic }
startup_heard c v false = cpu_heard_itself c

received_as_heard : (c : Cpu) (v : ℕ) (m : Mode) → CpuHeard c (received_as m v c)
received_as_heard c v Fixed = record { stage = refl; ctx = refl; started = refl; halted = refl; lapic = posted_heard c.lapic v }
received_as_heard c v Nmi = record { stage = refl; ctx = refl; started = refl; halted = refl; lapic = heard_itself c.lapic }
received_as_heard c v Startup = startup_heard c v (not c.started && is_none c.startup)
received_as_heard c v Dropped = cpu_heard_itself c

pub received_heard : (x : Message) (c : Cpu) → CpuHeard c (received x c)
unfolding received
received_heard x c = received_as_heard c x.vector x.mode

-- ---- of a machine

-- which vectors of which targets are level-triggered hangs on the entries of the pins alone
abbrev pub entries_of : Chip → List Redirection
entries_of c = map (λ (p : Pin). p.entry) c.pins

pub record Hears (m n : MachineState) : Type 0 where
  pub count : cpu_count n ≡ cpu_count m
  pub each : (i : ℕ) → CpuHeard (cpu_at m i) (cpu_at n i)
  pub ram : n.ram ≡ m.ram
  pub uart : n.uart ≡ m.uart
  pub drives : n.drives ≡ m.drives
  pub pause : n.pause ≡ m.pause
  pub meet : n.meet ≡ m.meet
  pub timers : n.timers ≡ m.timers
  pub entries : entries_of n.ioapic ≡ entries_of m.ioapic

pub hears_itself : (m : MachineState) → Hears m m
hears_itself m = record { count = refl; each = λ i. cpu_heard_itself (cpu_at m i); ram = refl; uart = refl; drives = refl; pause = refl; meet = refl; timers = refl; entries = refl }

pub then_hears : (m n o : MachineState) → Hears m n → Hears n o → Hears m o
then_hears m n o a b = record {
  count = b.count ∙ a.count;
  each = λ i. then_cpu_heard (cpu_at m i) (cpu_at n i) (cpu_at o i) (a.each i) (b.each i);
  ram = b.ram ∙ a.ram;
  uart = b.uart ∙ a.uart;
  drives = b.drives ∙ a.drives;
  pause = b.pause ∙ a.pause;
  meet = b.meet ∙ a.meet;
  timers = b.timers ∙ a.timers;
  entries = b.entries ∙ a.entries;
}

-- where vCPU i is another, each stands to what it was as that one does
pub cpu_set : (R : Cpu → Cpu → Type 0) (m : MachineState) (i : ℕ) (c : Cpu) → ((k : ℕ) → R (cpu_at m k) (cpu_at m k)) → R (cpu_at m i) c → (k : ℕ) → R (cpu_at m k) (cpu_at (with_cpu m i c) k)
cpu_set R m i c same one k =
    elim (cases_eq k i) [
      | inr other ↦ rw (get_or-set_other m.cpus i k c (unstarted_cpu k) other) (same k)
      | inl e ↦
          elim (cases_lt i (length m.cpus)) [
            | inl l ↦ rw (get_or-set_at m.cpus i k c (unstarted_cpu k) e l, e) one
            | inr past ↦ rw (set_past m.cpus i c past) (same k)
          ]
    ]

pub hears_cpu : (m : MachineState) (i : ℕ) (c : Cpu) → CpuHeard (cpu_at m i) c → Hears m (with_cpu m i c)
hears_cpu m i c h = record {
  count = length-set m.cpus i c;
  each = cpu_set CpuHeard m i c (λ k. cpu_heard_itself (cpu_at m k)) h;
  ram = refl;
  uart = refl;
  drives = refl;
  pause = refl;
  meet = refl;
  timers = refl;
  entries = refl;
}

sent_if : (m : MachineState) (x : Message) (i : ℕ) (b : Bool) → Hears m (if b then with_cpu m i (received x (cpu_at m i)) else m)
sent_if m x i true = hears_cpu m i _ (received_heard x (cpu_at m i))
sent_if m x i false = hears_itself m

hears_sent_to : (m : MachineState) (x : Message) (t : Cpus) (i : ℕ) → Hears m (sent_to m x t i)
unfolding sent_to
hears_sent_to m x t i = sent_if m x i (has_cpu t i)

hears_sent_below : (m : MachineState) (x : Message) (t : Cpus) (n : ℕ) → Hears m (sent_below m x t n)
hears_sent_below m x t zero = hears_itself m
hears_sent_below m x t (suc n) = then_hears m (sent_below m x t n) _ (hears_sent_below m x t n) (hears_sent_to (sent_below m x t n) x t n)

pub hears_sent : (m : MachineState) (x : Message) → Hears m (sent m x)
unfolding sent
hears_sent m x = hears_sent_below m x (targets_of x (cpu_count m)) (cpu_count m)

pub hears_all_sent : (m : MachineState) (xs : List Message) → Hears m (all_sent m xs)
hears_all_sent m [] = hears_itself m
hears_all_sent m (x ∷ xs) = then_hears m (sent m x) _ (hears_sent m x) (hears_all_sent (sent m x) xs)

-- the chip alone is another, with the same entries
pub hears_chip : (m : MachineState) (c : Chip) → entries_of c ≡ entries_of m.ioapic → Hears m (record m { ioapic = c })
hears_chip m c e = record { count = refl; each = λ i. cpu_heard_itself (cpu_at m i); ram = refl; uart = refl; drives = refl; pause = refl; meet = refl; timers = refl; entries = e }

sent_entry : (b : Bool) (p : Pin) → (if b then record p { remote_irr = true } else p).entry ≡ p.entry
sent_entry true p = refl
sent_entry false p = refl

raised_entry : (p : Pin) → (pin.raised p).entry ≡ p.entry
unfolding pin.raised
raised_entry p = sent_entry (pin.raise_sends p && p.entry.level) (record p { count = p.count + 1 })

lowered_entry : (p : Pin) → (pin.lowered p).entry ≡ p.entry
unfolding pin.lowered
lowered_entry p = refl

ended_if : (b : Bool) (p : Pin) → (if b then record p { remote_irr = false } else p).entry ≡ p.entry
ended_if true p = refl
ended_if false p = refl

eoi_entry : (v : ℕ) (p : Pin) → (pin.after_eoi v p).entry ≡ p.entry
unfolding pin.after_eoi
eoi_entry v p = sent_entry (pin.eoi_sends v p && (pin.ended v p).entry.level) (pin.ended v p) ∙ ended_if (pin.is_ended v p) p

eoi_entries : (v : ℕ) (ps : List Pin) → map (λ (p : Pin). p.entry) (map (pin.after_eoi v) ps) ≡ map (λ (p : Pin). p.entry) ps
eoi_entries v [] = refl
eoi_entries v (p ∷ ps) = ap (λ (e : Redirection). e ∷ map (λ (p : Pin). p.entry) (map (pin.after_eoi v) ps)) (eoi_entry v p) ∙ ap (λ (es : List Redirection). p.entry ∷ es) (eoi_entries v ps)

pin_entries : (c : Chip) (n : ℕ) (p : Pin) → p.entry ≡ (pin_at c n).entry → map (λ (q : Pin). q.entry) (set c.pins n p) ≡ entries_of c
pin_entries c n p e = map-set_same (λ (q : Pin). q.entry) c.pins n p pin.pin_at_start e

pub hears_raised : (m : MachineState) (n : ℕ) → Hears m (pin_raised m n)
unfolding pin_raised
hears_raised m n =
    let chip = record m { ioapic = raised m.ioapic n } in
    then_hears m chip _ (hears_chip m (raised m.ioapic n) (pin_entries m.ioapic n _ (raised_entry (pin_at m.ioapic n)))) (hears_all_sent chip (option_to_list (raise_message m.ioapic n)))

pub hears_lowered : (m : MachineState) (n : ℕ) → Hears m (pin_lowered m n)
unfolding pin_lowered
hears_lowered m n = hears_chip m (lowered m.ioapic n) (pin_entries m.ioapic n _ (lowered_entry (pin_at m.ioapic n)))

pub hears_followed : (m : MachineState) (n : ℕ) (before now : Bool) → Hears m (pin_followed m n before now)
unfolding pin_followed
hears_followed m n false false = hears_itself m
hears_followed m n false true = hears_raised m n
hears_followed m n true false = hears_lowered m n
hears_followed m n true true = hears_itself m

pub hears_level_ended : (m : MachineState) (v : ℕ) → Hears m (level_ended m v)
unfolding level_ended
hears_level_ended m v =
    let chip = record m { ioapic = after_eoi m.ioapic v } in
    then_hears m chip _ (hears_chip m (after_eoi m.ioapic v) (eoi_entries v m.ioapic.pins)) (hears_all_sent chip (eoi_messages m.ioapic v))
