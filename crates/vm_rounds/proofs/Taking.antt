-- A vector that is requested stays so, but where an Enter services it.
use Rattle.std.specs.Prelude.{Option, Some, None, Result, Ok, Err, ◌==◌, ◌&&◌, if◌then◌else◌}
use Rattle.std.proofs.Common.{◌≡◌, ◌⊎◌, ℕ, ◌<◌, Bool, true, false, not, refl, sym, ap, subst, ◌∙◌, inl, inr, arith}
use Rattle.std.proofs.Math.ListN.{length-set}
use Rattle.std.proofs.lemmas.Bool.{and_parts, cases_Bool, cases_eq}
use Rattle.std.proofs.lemmas.Bool.Decides.{nat_tests}
use Rattle.std.specs.FinSet.{remove, members}
use Rattle.std.proofs.lemmas.Grind.{common_steps}
use Rattle.std.proofs.lemmas.List.{get_or-set_same}
use Rattle.vm_law.specs.declared.context.Stop.{Stop}
use Rattle.vm_law.specs.declared.journal.Entry.{Entry}
use Rattle.vm_law.specs.declared.journal.Entry.TheVariants.{Claim, Start, Enter, Slice, Step, Exit, Sleep, Wake, Yield, Turn, Meet, Pull, Begin, Move, Hold, Put, Finish, Feed, Wish, Done, End, Close, Tick}
use Rattle.vm_law.specs.declared.journal.Signed.{Signed}
use Rattle.vm_meet.specs.declared.meeting.Meeting.{Meeting}
use Rattle.vm_vectors.specs.Vectors.{Vectors, has}
use Rattle.vm_lapic.specs.Apic.{Apic, ready, serviced}
use Rattle.x86_trap.specs.Delivery.{delivered, Delivered}
use Rattle.vm_state.specs.declared.cpu.Cpu.{Cpu}
use Rattle.vm_state.specs.Machine.{MachineState, cpu_at, cpu_count, takes_nmi, takes_vector, unstarted_cpu}
use Rattle.vm_state.specs.State.{State}
use Rattle.vm_owners.specs.Turn.{after_turn, turn_in}
use Rattle.vm_running.specs.Enter.{may_enter, stopped_at, entered, settled, delivered_in, taken, nmi_taken, vector_taken, interrupt_taken, after_enter}
use Rattle.vm_orders.specs.Duties.{after_meet}
use Rattle.vm_table.specs.Table.{after, allowed, counted, effect, lawful}
use Rattle.vm_laws.specs.Entries.{is_enter_of}
use Rattle.vm_laws.specs.Vectors.{is_requested, services, takes}
use Rattle.vm_laws.proofs.Balance.{other_enter}
use Rattle.vm_laws.proofs.Framing.{Frame, claim_frame, start_frame, exit_frame, sleep_frame, wake_frame, yield_frame, slice_frame, pull_frame, begin_frame, move_frame, hold_frame, put_frame, finish_frame, feed_frame, wish_frame, end_frame, close_frame, done_frame, step_cpu, tick_frame, turn_cpu}
use Rattle.vm_laws.proofs.Heard.{cpu_set}

abbrev Kept : Cpu → Cpu → ℕ → Type 0
Kept c d v = has c.lapic.irr v ≡ true → (has d.lapic.irr v ≡ true) ⊎ (takes c v ≡ true)

kept_same : (c d : Cpu) (v : ℕ) → d.lapic ≡ c.lapic → Kept c d v
kept_same c d v e = λ h. inl (ap (λ (l : Apic). has l.irr v) e ∙ h)

-- ---- Enter of vCPU i

has_remove : (s : Vectors) (n q : ℕ) → has (remove s n) q ≡ (not (q == n) && has s q)
has_remove s n q = grind (arith, members, nat_tests, common_steps)

serviced_irr : (l : Apic) (w v : ℕ) → has (serviced l w).irr v ≡ (not (v == w) && has l.irr v)
unfolding serviced
serviced_irr l w v = has_remove l.irr w v

kept_vector : (c d : Cpu) (v w : ℕ) → takes_nmi c ≡ false → takes_vector c ≡ true → ready c.lapic ≡ Some w → d.lapic ≡ serviced c.lapic w → Kept c d v
kept_vector c d v w n t r e = λ h.
    let is : takes c v ≡ (w == v) = rw (n, t, r) refl in
    elim (cases_Bool (v == w)) [
      | inl same ↦ inr (is ∙ (let z : (w == v) ≡ true = grind (arith, nat_tests, same) in z))
      | inr other ↦ inl (ap (λ (l : Apic). has l.irr v) e ∙ serviced_irr c.lapic w v ∙ ap (λ b. not b && has c.lapic.irr v) other ∙ h)
    ]

settled_lapic : (s : State) (i : ℕ) (d : Delivered) (r : Result (Unit {0}) Stop) → (cpu_at (settled s i d r).machine i).lapic ≡ (cpu_at s.machine i).lapic
unfolding settled stopped_at
settled_lapic s i d (Ok u) = cpu_set (λ x y. y.lapic ≡ x.lapic) s.machine i _ (λ k. refl) refl i
settled_lapic s i d (Err why) = refl

taken_lapic : (s : State) (i : ℕ) (c : Cpu) (v : ℕ) (nmi : Bool) → i < cpu_count s.machine → (cpu_at (delivered_in (taken s i c) i v nmi).machine i).lapic ≡ c.lapic
taken_lapic s i c v nmi l =
    let t = taken s i c in
    let d = delivered (cpu_at t.machine i).ctx t.machine.ram v None nmi in
    settled_lapic t i d d.answer ∙ ap (λ (x : Cpu). x.lapic) (get_or-set_same s.machine.cpus i c (unstarted_cpu i) l)

nmi_lapic : (s : State) (i : ℕ) → i < cpu_count s.machine → (cpu_at (nmi_taken s i).machine i).lapic ≡ (cpu_at s.machine i).lapic
unfolding nmi_taken
nmi_lapic s i l = taken_lapic s i (record (cpu_at s.machine i) { nmi = false }) 2 true l

vector_kept : (s : State) (i v : ℕ) (o : Option ℕ) → i < cpu_count s.machine → takes_nmi (cpu_at s.machine i) ≡ false → takes_vector (cpu_at s.machine i) ≡ true → ready (cpu_at s.machine i).lapic ≡ o
    → Kept (cpu_at s.machine i) (cpu_at (vector_taken s i o).machine i) v
unfolding vector_taken
vector_kept s i v None l n t r = kept_same (cpu_at s.machine i) (cpu_at s.machine i) v refl
vector_kept s i v (Some w) l n t r =
    kept_vector (cpu_at s.machine i) (cpu_at (vector_taken s i (Some w)).machine i) v w n t r (taken_lapic s i (record (cpu_at s.machine i) { lapic = serviced (cpu_at s.machine i).lapic w }) w false l)

interrupt_if : (s : State) (i v : ℕ) (a b : Bool) → i < cpu_count s.machine → takes_nmi (cpu_at s.machine i) ≡ a → takes_vector (cpu_at s.machine i) ≡ b
    → Kept (cpu_at s.machine i) (cpu_at (if a then nmi_taken s i else if b then vector_taken s i (ready (cpu_at s.machine i).lapic) else s).machine i) v
interrupt_if s i v true b l n t = kept_same (cpu_at s.machine i) (cpu_at (nmi_taken s i).machine i) v (nmi_lapic s i l)
interrupt_if s i v false true l n t = vector_kept s i v (ready (cpu_at s.machine i).lapic) l n t refl
interrupt_if s i v false false l n t = kept_same (cpu_at s.machine i) (cpu_at s.machine i) v refl

interrupt_kept : (s : State) (i v : ℕ) → i < cpu_count s.machine → Kept (cpu_at s.machine i) (cpu_at (interrupt_taken s i).machine i) v
unfolding interrupt_taken
interrupt_kept s i v l = interrupt_if s i v (takes_nmi (cpu_at s.machine i)) (takes_vector (cpu_at s.machine i)) l refl refl

-- as it enters nothing changes of it that counts here
record EntersAs (c d : Cpu) : Type 0 where
  nmi : takes_nmi d ≡ takes_nmi c
  vector : takes_vector d ≡ takes_vector c
  lapic : d.lapic ≡ c.lapic

entered_cpu : (s : State) (p i grant : ℕ) → EntersAs (cpu_at s.machine i) (cpu_at (entered s p i grant).machine i)
unfolding entered
entered_cpu s p i grant = cpu_set EntersAs s.machine i _ (λ k. record { nmi = refl; vector = refl; lapic = refl }) (record { nmi = refl; vector = refl; lapic = refl }) i

entered_count : (s : State) (p i grant : ℕ) → cpu_count (entered s p i grant).machine ≡ cpu_count s.machine
unfolding entered
entered_count s p i grant = length-set s.machine.cpus i _

kept_from : (c d e : Cpu) (v : ℕ) → EntersAs c d → Kept d e v → Kept c e v
kept_from c d e v k f = λ h.
    let same : takes d v ≡ takes c v = rw (k.nmi, k.vector, k.lapic) refl in
    elim (f (ap (λ (l : Apic). has l.irr v) k.lapic ∙ h)) [ inl a ↦ inl a | inr b ↦ inr (sym same ∙ b) ]

enter_own : (s : State) (p i grant v : ℕ) → i < cpu_count s.machine → Kept (cpu_at s.machine i) (cpu_at (after_enter s p i grant).machine i) v
unfolding after_enter
enter_own s p i grant v l =
    let n = entered_count s p i grant in
    kept_from (cpu_at s.machine i) (cpu_at (entered s p i grant).machine i) (cpu_at (after_enter s p i grant).machine i) v (entered_cpu s p i grant) (interrupt_kept (entered s p i grant) i v (omega (arith, n, l)))

-- ---- every entry

-- it is requested still, or the entry is an Enter that takes it
abbrev StillOr : State → Entry → MachineState → ℕ → ℕ → Type 0
StillOr s e n i v = has (cpu_at s.machine i).lapic.irr v ≡ true → (has (cpu_at n i).lapic.irr v ≡ true) ⊎ ((is_enter_of i e && takes (cpu_at s.machine i) v) ≡ true)

by_frame : (s : State) (n : MachineState) (e : Entry) (i v : ℕ) → Frame s.machine n → StillOr s e n i v
by_frame s n e i v f = λ h. inl ((f.cpu i).keeps v h)

enter_still : (s : State) (p j grant i v : ℕ) → j < cpu_count s.machine → StillOr s (Enter j grant) (after_enter s p j grant).machine i v
enter_still s p j grant i v l = λ h.
    elim (cases_eq i j) [
      | inr other ↦ inl (ap (λ (c : Cpu). has c.lapic.irr v) (other_enter i j other s p grant) ∙ h)
      | inl same ↦
          let z : (j == i) ≡ true = grind (arith, nat_tests, same) in
          let k : Kept (cpu_at s.machine i) (cpu_at (after_enter s p j grant).machine i) v = subst (λ n. Kept (cpu_at s.machine i) (cpu_at (after_enter s p n grant).machine i) v) same (enter_own s p i grant v (omega (arith, l, same))) in
          (elim (k h) [ inl a ↦ inl a | inr b ↦ inr (ap (λ w. w && takes (cpu_at s.machine i) v) z ∙ b) ])
    ]

enter_tells : (s : State) (q j grant : ℕ) → may_enter s q j grant ≡ true → j < cpu_count s.machine
unfolding may_enter
enter_tells s q j grant m = grind (arith, nat_tests, common_steps, and_parts)

turn_in_irr : (s : State) (j : ℕ) (o : Option Meeting) (i : ℕ) → (cpu_at (turn_in s j o).machine i).lapic.irr ≡ (cpu_at s.machine i).lapic.irr
turn_in_irr s j None i = refl
turn_in_irr s j (Some x) i = (turn_cpu s j x.kind i).irr

turn_irr : (s : State) (j i : ℕ) → (cpu_at (after_turn s j).machine i).lapic.irr ≡ (cpu_at s.machine i).lapic.irr
unfolding after_turn
turn_irr s j i = turn_in_irr s j s.machine.meet i

meet_irr : (s : State) (i : ℕ) → (cpu_at (after_meet s).machine i).lapic.irr ≡ (cpu_at s.machine i).lapic.irr
unfolding after_meet
meet_irr s i = refl

effect_still : (s : State) (p : ℕ) (e : Entry) (i v : ℕ) → allowed s p e ≡ true → StillOr s e (effect s p e).machine i v
unfolding allowed effect
effect_still s p (Claim j) i v m = by_frame s _ (Claim j) i v (claim_frame s p j)
effect_still s p (Start j) i v m = by_frame s _ (Start j) i v (start_frame s j)
effect_still s p (Enter j grant) i v m = enter_still s p j grant i v (enter_tells s p j grant m)
effect_still s p (Slice j n) i v m = by_frame s _ (Slice j n) i v (slice_frame s j n)
effect_still s p (Step j) i v m = λ h. inl ((step_cpu s p j i).keeps v h)
effect_still s p (Exit j) i v m = by_frame s _ (Exit j) i v (exit_frame s p j)
effect_still s p (Sleep j) i v m = by_frame s _ (Sleep j) i v (sleep_frame s p j)
effect_still s p (Wake j) i v m = by_frame s _ (Wake j) i v (wake_frame s p j)
effect_still s p (Yield j) i v m = by_frame s _ (Yield j) i v (yield_frame s j)
effect_still s p (Turn j) i v m = λ h. inl (ap (λ (x : Vectors). has x v) (turn_irr s j i) ∙ h)
effect_still s p Meet i v m = λ h. inl (ap (λ (x : Vectors). has x v) (meet_irr s i) ∙ h)
effect_still s p (Pull d) i v m = by_frame s _ (Pull d) i v (pull_frame s d)
effect_still s p (Begin d id) i v m = by_frame s _ (Begin d id) i v (begin_frame s p d)
effect_still s p (Move d id) i v m = by_frame s _ (Move d id) i v (move_frame s d id)
effect_still s p (Hold d id) i v m = by_frame s _ (Hold d id) i v (hold_frame s p d id)
effect_still s p (Put d id ok) i v m = by_frame s _ (Put d id ok) i v (put_frame s d id ok)
effect_still s p (Finish d id) i v m = by_frame s _ (Finish d id) i v (finish_frame s d id)
effect_still s p Feed i v m = by_frame s _ Feed i v (feed_frame s)
effect_still s p Wish i v m = by_frame s _ Wish i v (wish_frame s)
effect_still s p (Done k) i v m = by_frame s _ (Done k) i v (done_frame s)
effect_still s p (End c) i v m = by_frame s _ (End c) i v (end_frame s c)
effect_still s p Close i v m = by_frame s _ Close i v (close_frame s)
effect_still s p (Tick n) i v m = λ h. inl (((tick_frame s n).cpu i).keeps v h)

pub after_still : (s : State) (x : Signed) (i v : ℕ) → lawful s x.by x.entry ≡ true → is_requested s.machine i v ≡ true → (is_requested (after s x).machine i v ≡ true) ⊎ (services i v s x ≡ true)
unfolding after counted lawful services
after_still s x i v m h = effect_still s x.by x.entry i v (and_parts (not s.closed) (allowed s x.by x.entry) m).1 h
