-- A runner that fits, after its own turn and after entries of other passes.
use Rattle.std.proofs.Common.{◌≡◌, ℕ, ◌+◌, ◌<◌, Bool, true, false, not, refl, sym, ap, subst, ◌∙◌, Option, Some, None, arith}
use Rattle.std.specs.Prelude.{◌||◌, ◌==◌, is_some, if◌then◌else◌}
use Rattle.std.proofs.lemmas.Bool.{and_parts, true≢false}
use Rattle.std.proofs.lemmas.Bool.Decides.{nat_tests}
use Rattle.std.proofs.lemmas.Grind.{common_steps}
use Rattle.vm_law.specs.declared.context.Ctx.{Ctx}
use Rattle.vm_law.specs.declared.journal.Entry.{Entry}
use Rattle.vm_law.specs.declared.journal.Entry.TheVariants.{Claim, Start, Enter, Slice, Step, Exit, Sleep, Wake, Yield, Turn, Meet, Pull, Begin, Move, Hold, Put, Finish, Feed, Wish, Done, End, Close, Tick}
use Rattle.vm_law.specs.declared.journal.Signed.{Signed}
use Rattle.vm_law.specs.declared.stage.MeetKind.{MeetKind}
use Rattle.vm_law.specs.declared.stage.MeetKind.TheVariants.{Routing, Sample}
use Rattle.vm_law.specs.declared.stage.Owned.{Owned}
use Rattle.vm_law.specs.declared.stage.Owned.TheVariants.{Idle, Frozen, Running, Sleeping}
use Rattle.vm_meet.specs.declared.meeting.Meeting.{Meeting}
use Rattle.vm_meet.specs.Meeting.{done_with, is_last, started_by, turned}
use Rattle.vm_state.specs.Machine.{MachineState, cpu_at, cpu_count, is_running}
use Rattle.vm_state.specs.State.{State, seat_at}
use Rattle.vm_owners.specs.Turn.{after_turn, turn_in, turn_taken, with_routing}
use Rattle.vm_orders.specs.Duties.{after_meet, may_meet}
use Rattle.vm_running.specs.Step.{after_step}
use Rattle.vm_table.specs.Rounds.{leases}
use Rattle.vm_table.specs.Table.{allowed, lawful, effect, counted, after}
use Rattle.vm_table.specs.Turns.{is_exit_due}
use Rattle.vm_table.proofs.Plan.{after_cpus}
use Rattle.vm_laws.specs.Owned.{is_had_by}
use Rattle.vm_laws.proofs.Framing.{claim_frame, start_frame, exit_frame, sleep_frame, wake_frame, yield_frame, slice_frame, pull_frame, begin_frame, move_frame, hold_frame, put_frame, finish_frame, feed_frame, wish_frame, end_frame, close_frame, done_frame, tick_frame, enter_meet}
use Rattle.vm_laws.proofs.Owning.{after_keeps}
use Rattle.vm_laws.proofs.Routing.{Routed, stays, opens, step_routed}
use Rattle.vm_vcpu.specs.declared.out.Out.{Out}
use Rattle.vm_vcpu.specs.declared.out.Out.TheVariants.{Nothing, Leased, Ran}
use Rattle.vm_vcpu.specs.Copies.{AreRenewed, CopiesView}
use Rattle.vm_vcpu.specs.Fits.{HasOut, OutFits, RunnerFits}
use Rattle.vm_vcpu.specs.Others.{OthersKeepRunners}
use Rattle.vm_vcpu.specs.View.{RunnerView, taken_out}
use Rattle.vm_vcpu.proofs.Staying.{copies_after, renewed_are_copies}

-- ---- what it takes out

nobody_started : (m : Option Meeting) (p : ℕ) → is_some m ≡ false → started_by m p ≡ false
nobody_started None p h = refl
nobody_started (Some x) p h = absurd (true≢false h)

not_true : (b : Bool) → not b ≡ true → b ≡ false
not_true true h = absurd (true≢false (sym h))
not_true false h = refl

record NotDue (s : State) (i : ℕ) : Type 0 where
  pub meet : is_some s.machine.meet ≡ false
  pub halted : (cpu_at s.machine i).halted ≡ false

none_of : (a b c d e : Bool) → (a || b || c || d || e) ≡ false → (a ≡ false) × (d ≡ false)
none_of true b c d e h = absurd (true≢false h)
none_of false true c d e h = absurd (true≢false h)
none_of false false true d e h = absurd (true≢false h)
none_of false false false true e h = absurd (true≢false h)
none_of false false false false e h = (refl, refl)

not_due : (s : State) (i : ℕ) → is_exit_due s i ≡ false → NotDue s i
unfolding is_exit_due
not_due s i h = let t = none_of (is_some s.machine.meet) s.machine.pause (is_some s.ended) (cpu_at s.machine i).halted ((seat_at s i).left == 0) h in record { meet = t.0; halted = t.1 }

taken_if : (s : State) (i p : ℕ) (c : CopiesView) (b : Bool) → p ≡ 1 + i → leases s i ≡ b → OutFits s i p c (if b then Leased (cpu_at s.machine i).ctx (seat_at s i).left else Nothing)
taken_if s i p c true e h =
    let t = and_parts (is_running (cpu_at s.machine i).stage (1 + i)) (not (is_exit_due s i)) h in
    let d = not_due s i (not_true (is_exit_due s i) t.1) in
    record { runs = subst (λ q. is_running (cpu_at s.machine i).stage q ≡ true) (sym e) t.0; halted = d.halted; ctx = refl; left = refl; starter = nobody_started s.machine.meet p d.meet }
taken_if s i p c false e h = tt

pub taken_fits : (s : State) (r : RunnerView) → r.cpu < cpu_count s.machine → r.by ≡ 1 + r.cpu → AreRenewed s r.copies → r.out ≡ taken_out s r.cpu → RunnerFits s r
taken_fits s r l e c o = record {
  cpu = l;
  pass = e;
  copies = renewed_are_copies s r.copies c;
  out = subst (λ (x : Out). OutFits s r.cpu r.by r.copies x) (sym o) (taken_if s r.cpu r.by r.copies (leases s r.cpu) e refl);
}

-- ---- who opened the meeting that is open

abbrev Stays : MachineState → MachineState → ℕ → Type 0
Stays m n p = started_by m.meet p ≡ false → started_by n.meet p ≡ false

by_meet : (m n : MachineState) (p : ℕ) → n.meet ≡ m.meet → Stays m n p
by_meet m n p e h = ap (λ (x : Option Meeting). started_by x p) e ∙ h

routed_stays : (m n : MachineState) (q p : ℕ) → (q == p) ≡ false → Routed q m n → Stays m n p
routed_stays m n q p ne (stays e r) h = by_meet m n p e h
routed_stays m n q p ne (opens named e) h = ap (λ (x : Option Meeting). started_by x p) e ∙ ne

taken_meet : (s : State) (i : ℕ) (kind : MeetKind) → (turn_taken s i kind).machine.meet ≡ s.machine.meet
unfolding turn_taken with_routing
taken_meet s i Routing = refl
taken_meet s i Sample = refl

turned_if : (x y : Meeting) (p : ℕ) (b : Bool) → (y.by == p) ≡ false → started_by (if b then None else Some y) p ≡ false
turned_if x y p true h = refl
turned_if x y p false h = h

turned_stays : (m : Option Meeting) (i p : ℕ) → started_by m p ≡ false → started_by (turned m i) p ≡ false
turned_stays None i p h = h
turned_stays (Some x) i p h = turned_if x (record x { done = done_with x i }) p (is_last x i) h

turn_in_stays : (s : State) (i p : ℕ) (m : Option Meeting) → Stays s.machine (turn_in s i m).machine p
turn_in_stays s i p None h = h
turn_in_stays s i p (Some x) h = turned_stays (turn_taken s i x.kind).machine.meet i p (ap (λ (y : Option Meeting). started_by y p) (taken_meet s i x.kind) ∙ h)

turn_stays : (s : State) (i p : ℕ) → Stays s.machine (after_turn s i).machine p
unfolding after_turn
turn_stays s i p h = turn_in_stays s i p s.machine.meet h

meet_by : (s : State) (q : ℕ) → may_meet s q ≡ true → q ≡ 0
unfolding may_meet
meet_by s q m = grind (arith, nat_tests, common_steps, and_parts)

meet_stays : (s : State) (q p : ℕ) → may_meet s q ≡ true → (q == p) ≡ false → started_by (after_meet s).machine.meet p ≡ false
unfolding after_meet
meet_stays s q p m ne = subst (λ n. (n == p) ≡ false) (meet_by s q m) ne

effect_stays : (s : State) (q p : ℕ) (e : Entry) → (q == p) ≡ false → allowed s q e ≡ true → Stays s.machine (effect s q e).machine p
unfolding allowed effect
effect_stays s q p (Claim i) ne m = λ h. ap (λ (x : Option Meeting). started_by x p) (claim_frame s q i).meet ∙ h
effect_stays s q p (Start i) ne m = λ h. ap (λ (x : Option Meeting). started_by x p) (start_frame s i).meet ∙ h
effect_stays s q p (Enter i grant) ne m = λ h. ap (λ (x : Option Meeting). started_by x p) (enter_meet s q i grant) ∙ h
effect_stays s q p (Slice i n) ne m = λ h. ap (λ (x : Option Meeting). started_by x p) (slice_frame s i n).meet ∙ h
effect_stays s q p (Step i) ne m = routed_stays s.machine (after_step s q i).machine q p ne (step_routed s q i)
effect_stays s q p (Exit i) ne m = λ h. ap (λ (x : Option Meeting). started_by x p) (exit_frame s q i).meet ∙ h
effect_stays s q p (Sleep i) ne m = λ h. ap (λ (x : Option Meeting). started_by x p) (sleep_frame s q i).meet ∙ h
effect_stays s q p (Wake i) ne m = λ h. ap (λ (x : Option Meeting). started_by x p) (wake_frame s q i).meet ∙ h
effect_stays s q p (Yield i) ne m = λ h. ap (λ (x : Option Meeting). started_by x p) (yield_frame s i).meet ∙ h
effect_stays s q p (Turn i) ne m = turn_stays s i p
effect_stays s q p Meet ne m = λ h. meet_stays s q p m ne
effect_stays s q p (Pull d) ne m = λ h. ap (λ (x : Option Meeting). started_by x p) (pull_frame s d).meet ∙ h
effect_stays s q p (Begin d id) ne m = λ h. ap (λ (x : Option Meeting). started_by x p) (begin_frame s q d).meet ∙ h
effect_stays s q p (Move d id) ne m = λ h. ap (λ (x : Option Meeting). started_by x p) (move_frame s d id).meet ∙ h
effect_stays s q p (Hold d id) ne m = λ h. ap (λ (x : Option Meeting). started_by x p) (hold_frame s q d id).meet ∙ h
effect_stays s q p (Put d id ok) ne m = λ h. ap (λ (x : Option Meeting). started_by x p) (put_frame s d id ok).meet ∙ h
effect_stays s q p (Finish d id) ne m = λ h. ap (λ (x : Option Meeting). started_by x p) (finish_frame s d id).meet ∙ h
effect_stays s q p Feed ne m = λ h. ap (λ (x : Option Meeting). started_by x p) (feed_frame s).meet ∙ h
effect_stays s q p Wish ne m = λ h. ap (λ (x : Option Meeting). started_by x p) (wish_frame s).meet ∙ h
effect_stays s q p (Done k) ne m = λ h. ap (λ (x : Option Meeting). started_by x p) (done_frame s).meet ∙ h
effect_stays s q p (End cause) ne m = λ h. ap (λ (x : Option Meeting). started_by x p) (end_frame s cause).meet ∙ h
effect_stays s q p Close ne m = λ h. ap (λ (x : Option Meeting). started_by x p) (close_frame s).meet ∙ h
effect_stays s q p (Tick n) ne m = λ h. ap (λ (x : Option Meeting). started_by x p) (tick_frame s n).meet ∙ h

starter_after : (s : State) (x : Signed) (p : ℕ) → (x.by == p) ≡ false → lawful s x.by x.entry ≡ true → started_by s.machine.meet p ≡ false → started_by (after s x).machine.meet p ≡ false
unfolding after counted lawful
starter_after s x p ne m h = effect_stays s x.by p x.entry ne (and_parts (not s.closed) (allowed s x.by x.entry) m).1 h

-- ---- entries of other passes

has_running : (st : Owned) (p : ℕ) → is_running st p ≡ true → is_had_by st p ≡ true
has_running Idle p h = absurd (true≢false (sym h))
has_running (Frozen q) p h = absurd (true≢false (sym h))
has_running (Running q) p h = h
has_running (Sleeping q) p h = absurd (true≢false (sym h))

out_after : (s : State) (x : Signed) (i p left : ℕ) (ctx : Ctx) → lawful s x.by x.entry ≡ true → (x.by == p) ≡ false → HasOut s i p ctx left → HasOut (after s x) i p ctx left
out_after s x i p left ctx m ne h =
    let k = after_keeps s x i p m (has_running (cpu_at s.machine i).stage p h.runs) ne in
    record {
      runs = ap (λ (st : Owned). is_running st p) k.stage ∙ h.runs;
      halted = k.halted ∙ h.halted;
      ctx = k.ctx ∙ h.ctx;
      left = k.left ∙ h.left;
      starter = starter_after s x p ne m h.starter;
    }

outs_after : (s : State) (x : Signed) (i p : ℕ) (c : CopiesView) (o : Out) → lawful s x.by x.entry ≡ true → (x.by == p) ≡ false → OutFits s i p c o → OutFits (after s x) i p c o
outs_after s x i p c Nothing m ne h = h
outs_after s x i p c (Leased ctx left) m ne h = out_after s x i p left ctx m ne h
outs_after s x i p c (Ran start left count ctx) m ne h = (out_after s x i p left start m ne h.0, h.1, h.2)

pub others_keep : OthersKeepRunners
others_keep s x r h m ne f = record {
  cpu = subst (λ n. r.cpu < n) (sym (after_cpus s x)) f.cpu;
  pass = f.pass;
  copies = copies_after s x r.copies h m f.copies;
  out = outs_after s x r.cpu r.by r.copies r.out m ne f.out;
}
