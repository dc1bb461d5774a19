-- Vectors balance: each that is accepted is serviced once or is requested still.
use Rattle.std.proofs.Common.{◌≡◌, ◌≢◌, ℕ, ◌+◌, ◌<◌, Bool, true, false, not, List, [], ◌∷◌, refl, sym, ap, subst, ◌∙◌, inl, inr, ◌⊎◌, arith, Option, Some, None}
use Rattle.std.specs.Prelude.{◌&&◌, ◌==◌, Result, Ok, Err, if◌then◌else◌, option_and_then}
use Rattle.std.specs.FinSet.{remove, members}
use Rattle.std.proofs.Math.ListN.{length-set}
use Rattle.std.proofs.lemmas.List.{get_or-set_other}
use Rattle.std.proofs.lemmas.Bool.{cases_eq, and_parts, true≢false}
use Rattle.std.proofs.lemmas.Bool.Decides.{nat_tests}
use Rattle.std.proofs.lemmas.Grind.{common_steps, get_or-set_at}
use Rattle.vm_law.specs.declared.context.Stop.{Stop}
use Rattle.vm_law.specs.declared.journal.Entry.{Entry}
use Rattle.vm_law.specs.declared.journal.Entry.TheVariants.{Claim, Start, Enter, Slice, Step, Exit, Sleep, Wake, Yield, Turn, Meet, Pull, Begin, Move, Hold, Put, Finish, Feed, Wish, Done, End, Close, Tick}
use Rattle.vm_law.specs.declared.journal.Signed.{Signed}
use Rattle.vm_vectors.specs.Vectors.{Vectors, has, highest}
use Rattle.vm_vectors.proofs.Highest.{highest_tells}
use Rattle.vm_lapic.specs.declared.effect.Posted.{Posted}
use Rattle.vm_lapic.specs.declared.effect.Posted.TheVariants.{Set}
use Rattle.vm_lapic.specs.Apic.{Apic, post_answer, ready, above, ppr, serviced}
use Rattle.vm_meet.specs.declared.meeting.Meeting.{Meeting}
use Rattle.x86_trap.specs.Delivery.{delivered, Delivered}
use Rattle.vm_state.specs.declared.cpu.Cpu.{Cpu}
use Rattle.vm_state.specs.declared.start.Start as start_type
use Rattle.vm_state.specs.Machine.{MachineState, cpu_at, cpu_count, with_cpu, unstarted_cpu, takes_nmi, takes_vector}
use Rattle.vm_state.specs.Start.{boot}
use Rattle.vm_state.specs.State.{State}
use Rattle.vm_owners.specs.Turn.{turn_in, after_turn}
use Rattle.vm_running.specs.Enter.{may_enter, stopped_at, entered, settled, delivered_in, taken, nmi_taken, vector_taken, interrupt_taken, after_enter}
use Rattle.vm_running.specs.Step.{after_step}
use Rattle.vm_orders.specs.Duties.{after_meet, after_tick}
use Rattle.vm_table.specs.History.{after_all, is_lawful_all, IsLegal}
use Rattle.vm_table.specs.Table.{allowed, lawful, effect, counted, after}
use Rattle.vm_laws.specs.Counting.{count_of, one_if}
use Rattle.vm_laws.specs.Entries.{is_enter_of}
use Rattle.vm_laws.specs.Vectors.{is_requested, is_set, posts, takes, services, IsBalanced}
use Rattle.vm_laws.proofs.Heard.{cpu_set}
use Rattle.vm_laws.proofs.Framing.{CpuFrame, Frame, claim_frame, start_frame, exit_frame, sleep_frame, wake_frame, yield_frame, slice_frame, step_cpu, turn_cpu, pull_frame, begin_frame, move_frame, hold_frame, put_frame, finish_frame, feed_frame, wish_frame, end_frame, close_frame, done_frame, tick_frame}

-- ---- one vector of one vCPU

abbrev irr_of : Cpu → ℕ → Bool
irr_of c v = has c.lapic.irr v

abbrev accepts : Cpu → ℕ → Bool
accepts c v = is_set (post_answer c.lapic v)

set_if : (l : Apic) (v : ℕ) → has l.irr v ≡ true → is_set (post_answer l v) ≡ false
unfolding post_answer
set_if l v h = grind (arith, nat_tests, common_steps)

-- an entry that services nothing
record Grows (c d : Cpu) (v : ℕ) : Type 0 where
  pub keeps : irr_of c v ≡ true → irr_of d v ≡ true
  pub sets : irr_of d v ≡ true → (irr_of c v ≡ true) ⊎ (accepts c v ≡ true)

no_both : (b : Bool) → one_if (b && false) ≡ 0
no_both true = refl
no_both false = refl

grows_as : (c : Cpu) (v : ℕ) (a b : Bool) → irr_of c v ≡ a → (a ≡ true → b ≡ true) → (b ≡ true → (a ≡ true) ⊎ (accepts c v ≡ true)) → one_if a + one_if (accepts c v && b) ≡ one_if b
grows_as c v true true e k s = ap (λ x. 1 + one_if (x && true)) (set_if c.lapic v e)
grows_as c v true false e k s = absurd (true≢false (sym (k refl)))
grows_as c v false true e k s = elim (s refl) [ inl x ↦ absurd (true≢false (sym x)) | inr y ↦ ap (λ x. 0 + one_if (x && true)) y ]
grows_as c v false false e k s = let z = no_both (accepts c v) in omega (arith, z)

grows : (c d : Cpu) (v : ℕ) → Grows c d v → one_if (irr_of c v) + one_if (accepts c v && irr_of d v) ≡ one_if (irr_of d v)
grows c d v g = grows_as c v (irr_of c v) (irr_of d v) refl g.keeps g.sets

is_set_if : (a : Posted) → a ≡ Set → is_set a ≡ true
is_set_if a e = ap is_set e

grows_frame : (c d : Cpu) (v : ℕ) → CpuFrame c d → Grows c d v
grows_frame c d v f = record { keeps = f.keeps v; sets = λ h. elim (f.sets v h) [ inl x ↦ inl x | inr y ↦ inr (is_set_if (post_answer c.lapic v) y) ] }

grows_same : (c d : Cpu) (v : ℕ) → d.lapic.irr ≡ c.lapic.irr → Grows c d v
grows_same c d v e = record { keeps = λ h. ap (λ (s : Vectors). has s v) e ∙ h; sets = λ h. inl (sym (ap (λ (s : Vectors). has s v) e) ∙ h) }

-- ---- Enter of vCPU i: what it takes is serviced

-- the vector that it takes is requested no more, and all else stays
record Serves (c d : Cpu) (v : ℕ) : Type 0 where
  pub one : one_if (irr_of c v) ≡ one_if (takes c v) + one_if (irr_of d v)
  pub sets : irr_of d v ≡ true → irr_of c v ≡ true

serves_none : (c d : Cpu) (v : ℕ) → takes c v ≡ false → d.lapic ≡ c.lapic → Serves c d v
serves_none c d v t e = record {
  one = (let k : one_if (irr_of d v) ≡ one_if (irr_of c v) = ap (λ (l : Apic). one_if (has l.irr v)) e in rw t (omega (arith, k)));
  sets = λ h. sym (ap (λ (l : Apic). has l.irr v) e) ∙ h;
}

above_is : (p v w : ℕ) → above p v ≡ Some w → v ≡ w
above_is p v w h = grind (arith, nat_tests, common_steps)

ready_at : (l : Apic) (w : ℕ) (o : Option ℕ) → highest l.irr ≡ o → option_and_then (above (ppr l)) o ≡ Some w → has l.irr w ≡ true
ready_at l w None e h = absurd (cc)
ready_at l w (Some v) e h = subst (λ x. has l.irr x ≡ true) (above_is (ppr l) v w h) (highest_tells l.irr v e).0

ready_has : (l : Apic) (w : ℕ) → ready l ≡ Some w → has l.irr w ≡ true
unfolding ready
ready_has l w h = ready_at l w (highest l.irr) refl h

has_remove : (s : Vectors) (n q : ℕ) → has (remove s n) q ≡ (not (q == n) && has s q)
has_remove s n q = grind (arith, members, nat_tests, common_steps)

same_vector : (v w : ℕ) → (w == v) ≡ (v == w)
same_vector v w = grind (arith, nat_tests)

serves_at : (v w : ℕ) (a b : Bool) → (v == w) ≡ b → (b ≡ true → a ≡ true) → one_if a ≡ one_if b + one_if (not b && a)
serves_at v w true true e h = refl
serves_at v w false true e h = absurd (true≢false (sym (h refl)))
serves_at v w true false e h = refl
serves_at v w false false e h = refl

serviced_irr : (l : Apic) (w v : ℕ) → has (serviced l w).irr v ≡ (not (v == w) && has l.irr v)
unfolding serviced
serviced_irr l w v = has_remove l.irr w v

serves_vector : (c d : Cpu) (v w : ℕ) → takes_nmi c ≡ false → takes_vector c ≡ true → ready c.lapic ≡ Some w → d.lapic ≡ serviced c.lapic w → Serves c d v
serves_vector c d v w n t r e =
    let irr : irr_of d v ≡ (not (v == w) && irr_of c v) = ap (λ (l : Apic). has l.irr v) e ∙ serviced_irr c.lapic w v in
    let is : takes c v ≡ (w == v) = rw (n, t, r) refl in
    let there : (v == w) ≡ true → irr_of c v ≡ true = λ h. (let s : w ≡ v = grind (arith, nat_tests, h) in subst (λ x. has c.lapic.irr x ≡ true) s (ready_has c.lapic w r)) in
    record {
      one = serves_at v w (irr_of c v) (v == w) refl there ∙ ap (λ b. one_if b + one_if (not (v == w) && irr_of c v)) (sym (is ∙ same_vector v w)) ∙ ap (λ b. one_if (takes c v) + one_if b) (sym irr);
      sets = λ h. (and_parts (not (v == w)) (irr_of c v) (sym irr ∙ h)).1;
    }

-- the APIC of vCPU i after something was delivered to it
settled_lapic : (s : State) (i : ℕ) (d : Delivered) (r : Result (Unit {0}) Stop) → (cpu_at (settled s i d r).machine i).lapic ≡ (cpu_at s.machine i).lapic
unfolding settled stopped_at
settled_lapic s i d (Ok u) = cpu_set (λ x y. y.lapic ≡ x.lapic) s.machine i _ (λ k. refl) refl i
settled_lapic s i d (Err why) = refl

taken_lapic : (s : State) (i : ℕ) (c : Cpu) (v : ℕ) (nmi : Bool) → i < cpu_count s.machine → (cpu_at (delivered_in (taken s i c) i v nmi).machine i).lapic ≡ c.lapic
taken_lapic s i c v nmi l =
    let t = taken s i c in
    let d = delivered (cpu_at t.machine i).ctx t.machine.ram v None nmi in
    settled_lapic t i d d.answer ∙ ap (λ (x : Cpu). x.lapic) (get_or-set_at s.machine.cpus i i c (unstarted_cpu i) refl l)

nmi_lapic : (s : State) (i : ℕ) → i < cpu_count s.machine → (cpu_at (nmi_taken s i).machine i).lapic ≡ (cpu_at s.machine i).lapic
unfolding nmi_taken
nmi_lapic s i l = taken_lapic s i (record (cpu_at s.machine i) { nmi = false }) 2 true l

vector_serves : (s : State) (i v : ℕ) (o : Option ℕ) → i < cpu_count s.machine → takes_nmi (cpu_at s.machine i) ≡ false → takes_vector (cpu_at s.machine i) ≡ true → ready (cpu_at s.machine i).lapic ≡ o
    → Serves (cpu_at s.machine i) (cpu_at (vector_taken s i o).machine i) v
unfolding vector_taken
vector_serves s i v None l n t r = serves_none (cpu_at s.machine i) (cpu_at s.machine i) v (rw (n, t, r) refl) refl
vector_serves s i v (Some w) l n t r =
    serves_vector (cpu_at s.machine i) _ v w n t r (taken_lapic s i (record (cpu_at s.machine i) { lapic = serviced (cpu_at s.machine i).lapic w }) w false l)

interrupt_if : (s : State) (i v : ℕ) (a b : Bool) → i < cpu_count s.machine → takes_nmi (cpu_at s.machine i) ≡ a → takes_vector (cpu_at s.machine i) ≡ b
    → Serves (cpu_at s.machine i) (cpu_at (if a then nmi_taken s i else if b then vector_taken s i (ready (cpu_at s.machine i).lapic) else s).machine i) v
interrupt_if s i v true b l n t = serves_none (cpu_at s.machine i) _ v (rw n refl) (nmi_lapic s i l)
interrupt_if s i v false true l n t = vector_serves s i v (ready (cpu_at s.machine i).lapic) l n t refl
interrupt_if s i v false false l n t = serves_none (cpu_at s.machine i) (cpu_at s.machine i) v (rw (n, t) refl) refl

interrupt_serves : (s : State) (i v : ℕ) → i < cpu_count s.machine → Serves (cpu_at s.machine i) (cpu_at (interrupt_taken s i).machine i) v
unfolding interrupt_taken
interrupt_serves s i v l = interrupt_if s i v (takes_nmi (cpu_at s.machine i)) (takes_vector (cpu_at s.machine i)) l refl refl

-- as it enters nothing changes of it that counts here
record EntersAs (c d : Cpu) : Type 0 where
  pub nmi : takes_nmi d ≡ takes_nmi c
  pub vector : takes_vector d ≡ takes_vector c
  pub lapic : d.lapic ≡ c.lapic

entered_cpu : (s : State) (p i grant : ℕ) → EntersAs (cpu_at s.machine i) (cpu_at (entered s p i grant).machine i)
unfolding entered
entered_cpu s p i grant = cpu_set EntersAs s.machine i _ (λ k. record { nmi = refl; vector = refl; lapic = refl }) (record { nmi = refl; vector = refl; lapic = refl }) i

entered_count : (s : State) (p i grant : ℕ) → cpu_count (entered s p i grant).machine ≡ cpu_count s.machine
unfolding entered
entered_count s p i grant = length-set s.machine.cpus i _

serves_from : (c d e : Cpu) (v : ℕ) → EntersAs c d → Serves d e v → Serves c e v
serves_from c d e v k s =
    let irr : irr_of d v ≡ irr_of c v = ap (λ (l : Apic). has l.irr v) k.lapic in
    let same : takes d v ≡ takes c v = rw (k.nmi, k.vector, k.lapic) refl in
    record {
      one = ap one_if (sym irr) ∙ s.one ∙ ap (λ b. one_if b + one_if (irr_of e v)) same;
      sets = λ h. sym irr ∙ s.sets h;
    }

enter_serves : (s : State) (p i grant v : ℕ) → i < cpu_count s.machine → Serves (cpu_at s.machine i) (cpu_at (after_enter s p i grant).machine i) v
unfolding after_enter
enter_serves s p i grant v l =
    let n = entered_count s p i grant in
    serves_from (cpu_at s.machine i) (cpu_at (entered s p i grant).machine i) _ v (entered_cpu s p i grant) (interrupt_serves (entered s p i grant) i v (omega (arith, n, l)))

-- ---- Enter of another vCPU

module _ (i j : ℕ) (ne : i ≢ j) where
  other_cpu : (s : State) (c : Cpu) → cpu_at (with_cpu s.machine j c) i ≡ cpu_at s.machine i
  other_cpu s c = get_or-set_other s.machine.cpus j i c (unstarted_cpu i) ne

  other_settled : (s : State) (d : Delivered) (r : Result (Unit {0}) Stop) → cpu_at (settled s j d r).machine i ≡ cpu_at s.machine i
  unfolding settled stopped_at
  other_settled s d (Ok u) = other_cpu s _
  other_settled s d (Err why) = refl

  other_taken : (s : State) (c : Cpu) (v : ℕ) (nmi : Bool) → cpu_at (delivered_in (taken s j c) j v nmi).machine i ≡ cpu_at s.machine i
  other_taken s c v nmi =
      let t = taken s j c in
      let d = delivered (cpu_at t.machine j).ctx t.machine.ram v None nmi in
      other_settled t d d.answer ∙ other_cpu s c

  other_nmi : (s : State) → cpu_at (nmi_taken s j).machine i ≡ cpu_at s.machine i
  unfolding nmi_taken
  other_nmi s = other_taken s _ 2 true

  other_vector : (s : State) (o : Option ℕ) → cpu_at (vector_taken s j o).machine i ≡ cpu_at s.machine i
  unfolding vector_taken
  other_vector s None = refl
  other_vector s (Some v) = other_taken s _ v false

  other_if : (s : State) (a b : Bool) → cpu_at (if a then nmi_taken s j else if b then vector_taken s j (ready (cpu_at s.machine j).lapic) else s).machine i ≡ cpu_at s.machine i
  other_if s true b = other_nmi s
  other_if s false true = other_vector s _
  other_if s false false = refl

  other_interrupt : (s : State) → cpu_at (interrupt_taken s j).machine i ≡ cpu_at s.machine i
  unfolding interrupt_taken
  other_interrupt s = other_if s (takes_nmi (cpu_at s.machine j)) (takes_vector (cpu_at s.machine j))

  other_entered : (s : State) (p grant : ℕ) → cpu_at (entered s p j grant).machine i ≡ cpu_at s.machine i
  unfolding entered
  other_entered s p grant = other_cpu s _

  pub other_enter : (s : State) (p grant : ℕ) → cpu_at (after_enter s p j grant).machine i ≡ cpu_at s.machine i
  unfolding after_enter
  other_enter s p grant = other_interrupt (entered s p j grant) ∙ other_entered s p grant

-- ---- every entry

-- the balance of one entry, by what it makes of vCPU i
abbrev Balances : State → Entry → MachineState → ℕ → ℕ → Type 0
Balances s e n i v =
    one_if (irr_of (cpu_at s.machine i) v) + one_if (accepts (cpu_at s.machine i) v && irr_of (cpu_at n i) v)
    ≡ one_if (is_enter_of i e && takes (cpu_at s.machine i) v) + one_if (irr_of (cpu_at n i) v)

no_enter : (s : State) (n : MachineState) (e : Entry) (i v : ℕ) → is_enter_of i e ≡ false → Grows (cpu_at s.machine i) (cpu_at n i) v → Balances s e n i v
no_enter s n e i v none g =
    let a = grows (cpu_at s.machine i) (cpu_at n i) v g in
    let z : one_if (is_enter_of i e && takes (cpu_at s.machine i) v) ≡ 0 = ap (λ b. one_if (b && takes (cpu_at s.machine i) v)) none in
    omega (arith, a, z)

by_frame : (s : State) (n : MachineState) (e : Entry) (i v : ℕ) → is_enter_of i e ≡ false → Frame s.machine n → Balances s e n i v
by_frame s n e i v none f = no_enter s n e i v none (grows_frame (cpu_at s.machine i) (cpu_at n i) v (f.cpu i))

none_new : (c : Cpu) (v : ℕ) (b : Bool) → (b ≡ true → irr_of c v ≡ true) → one_if (accepts c v && b) ≡ 0
none_new c v true h = ap (λ x. one_if (x && true)) (set_if c.lapic v (h refl))
none_new c v false h = no_both (accepts c v)

serves_balance : (c d : Cpu) (v : ℕ) → Serves c d v → one_if (irr_of c v) + one_if (accepts c v && irr_of d v) ≡ one_if (takes c v) + one_if (irr_of d v)
serves_balance c d v k = let z = none_new c v (irr_of d v) (λ h. k.sets h) in let a = k.one in omega (arith, a, z)

enter_tells : (s : State) (q j grant : ℕ) → may_enter s q j grant ≡ true → j < cpu_count s.machine
unfolding may_enter
enter_tells s q j grant m = grind (arith, nat_tests, common_steps, and_parts)

enter_balance : (s : State) (p j grant i v : ℕ) → may_enter s p j grant ≡ true → Balances s (Enter j grant) (after_enter s p j grant).machine i v
enter_balance s p j grant i v m =
    elim (cases_eq i j) [
      | inr other ↦ no_enter s (after_enter s p j grant).machine (Enter j grant) i v (grind (arith, nat_tests)) (grows_same (cpu_at s.machine i) (cpu_at (after_enter s p j grant).machine i) v (ap (λ (c : Cpu). c.lapic.irr) (other_enter i j other s p grant)))
      | inl same ↦
          let k = serves_balance (cpu_at s.machine i) (cpu_at (after_enter s p i grant).machine i) v (enter_serves s p i grant v (subst (λ n. n < cpu_count s.machine) (sym same) (enter_tells s p j grant m))) in
          let z : (i == i) ≡ true = grind (arith, nat_tests) in
          subst (λ n. Balances s (Enter n grant) (after_enter s p n grant).machine i v) same (k ∙ ap (λ b. one_if (b && takes (cpu_at s.machine i) v) + one_if (irr_of (cpu_at (after_enter s p i grant).machine i) v)) (sym z))
    ]

turn_in_irr : (s : State) (j : ℕ) (o : Option Meeting) (i : ℕ) → (cpu_at (turn_in s j o).machine i).lapic.irr ≡ (cpu_at s.machine i).lapic.irr
turn_in_irr s j None i = refl
turn_in_irr s j (Some x) i = (turn_cpu s j x.kind i).irr

turn_irr : (s : State) (j i : ℕ) → (cpu_at (after_turn s j).machine i).lapic.irr ≡ (cpu_at s.machine i).lapic.irr
unfolding after_turn
turn_irr s j i = turn_in_irr s j s.machine.meet i

meet_irr : (s : State) (i : ℕ) → (cpu_at (after_meet s).machine i).lapic.irr ≡ (cpu_at s.machine i).lapic.irr
unfolding after_meet
meet_irr s i = refl

effect_balance : (s : State) (p : ℕ) (e : Entry) (i v : ℕ) → allowed s p e ≡ true → Balances s e (effect s p e).machine i v
unfolding allowed effect
effect_balance s p (Claim j) i v m = by_frame s _ (Claim j) i v refl (claim_frame s p j)
effect_balance s p (Start j) i v m = by_frame s _ (Start j) i v refl (start_frame s j)
effect_balance s p (Enter j grant) i v m = enter_balance s p j grant i v m
effect_balance s p (Slice j n) i v m = by_frame s _ (Slice j n) i v refl (slice_frame s j n)
effect_balance s p (Step j) i v m = no_enter s (after_step s p j).machine (Step j) i v refl (grows_frame _ _ v (step_cpu s p j i))
effect_balance s p (Exit j) i v m = by_frame s _ (Exit j) i v refl (exit_frame s p j)
effect_balance s p (Sleep j) i v m = by_frame s _ (Sleep j) i v refl (sleep_frame s p j)
effect_balance s p (Wake j) i v m = by_frame s _ (Wake j) i v refl (wake_frame s p j)
effect_balance s p (Yield j) i v m = by_frame s _ (Yield j) i v refl (yield_frame s j)
effect_balance s p (Turn j) i v m = no_enter s (after_turn s j).machine (Turn j) i v refl (grows_same _ _ v (turn_irr s j i))
effect_balance s p Meet i v m = no_enter s (after_meet s).machine Meet i v refl (grows_same _ _ v (meet_irr s i))
effect_balance s p (Pull d) i v m = by_frame s _ (Pull d) i v refl (pull_frame s d)
effect_balance s p (Begin d id) i v m = by_frame s _ (Begin d id) i v refl (begin_frame s p d)
effect_balance s p (Move d id) i v m = by_frame s _ (Move d id) i v refl (move_frame s d id)
effect_balance s p (Hold d id) i v m = by_frame s _ (Hold d id) i v refl (hold_frame s p d id)
effect_balance s p (Put d id ok) i v m = by_frame s _ (Put d id ok) i v refl (put_frame s d id ok)
effect_balance s p (Finish d id) i v m = by_frame s _ (Finish d id) i v refl (finish_frame s d id)
effect_balance s p Feed i v m = by_frame s _ Feed i v refl (feed_frame s)
effect_balance s p Wish i v m = by_frame s _ Wish i v refl (wish_frame s)
effect_balance s p (Done k) i v m = by_frame s _ (Done k) i v refl (done_frame s)
effect_balance s p (End c) i v m = by_frame s _ (End c) i v refl (end_frame s c)
effect_balance s p Close i v m = by_frame s _ Close i v refl (close_frame s)
effect_balance s p (Tick n) i v m = no_enter s (after_tick s n).machine (Tick n) i v refl (grows_frame _ _ v ((tick_frame s n).cpu i))

lawful_tells : (s : State) (q : ℕ) (e : Entry) → lawful s q e ≡ true → allowed s q e ≡ true
unfolding lawful
lawful_tells s q e m = (and_parts (not s.closed) (allowed s q e) m).1

-- ---- histories

one_balance : (s : State) (x : Signed) (i v : ℕ) → lawful s x.by x.entry ≡ true
    → one_if (is_requested s.machine i v) + one_if (posts i v s x) ≡ one_if (services i v s x) + one_if (is_requested (after s x).machine i v)
unfolding posts services after counted
one_balance s x i v m = effect_balance s x.by x.entry i v (lawful_tells s x.by x.entry m)

all_balance : (s : State) (xs : List Signed) (i v : ℕ) → is_lawful_all s xs ≡ true
    → one_if (is_requested s.machine i v) + count_of (posts i v) s xs ≡ count_of (services i v) s xs + one_if (is_requested (after_all s xs).machine i v)
all_balance s [] i v h = omega arith
all_balance s (x ∷ xs) i v h =
    let t = and_parts (lawful s x.by x.entry) _ h in
    let a = one_balance s x i v t.0 in
    let b = all_balance (after s x) xs i v t.1 in
    omega (arith, a, b)

pub balanced : (start : start_type.Start) (history : List Signed) (i v : ℕ) → IsLegal start history → IsBalanced start history i v
balanced start history i v h = all_balance (boot start) history i v h
