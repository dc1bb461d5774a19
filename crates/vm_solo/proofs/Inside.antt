-- No round of one thread ends a run by a failure outside.
use Rattle.std.specs.Prelude.{Option, Some, None, Result, Ok, Err, if◌then◌else◌, find}
use Rattle.std.specs.Option.{option_to_list, option_map}
use Rattle.std.proofs.Common.{◌≡◌, ◌≢◌, ◌⊎◌, ℕ, ◌<◌, Bool, true, false, List, [], ◌∷◌, ◌++◌, map, cond, refl, sym, subst, ◌∙◌, inl, inr, arith}
use Rattle.std.proofs.lemmas.Bool.{and_parts}
use Rattle.std.proofs.lemmas.Bool.Decides.{nat_tests}
use Rattle.std.proofs.lemmas.Grind.{common_steps}
use Rattle.vm_law.specs.declared.context.Stop.{Stop}
use Rattle.vm_law.specs.declared.insn.Insn.{Insn}
use Rattle.vm_law.specs.declared.journal.EndCause.{EndCause}
use Rattle.vm_law.specs.declared.journal.EndCause.TheVariants as cause
use Rattle.vm_law.specs.declared.journal.Entry.{Entry}
use Rattle.vm_law.specs.declared.journal.Entry.TheVariants.{Claim, Enter, Step, Yield, Turn, Meet, Feed, Wish, Done, End, Close, Tick}
use Rattle.vm_law.specs.declared.journal.Signed.{Signed}
use Rattle.vm_law.specs.declared.script.Order.{Order}
use Rattle.vm_law.specs.declared.script.Order.TheVariants as order
use Rattle.vm_bus.specs.declared.area.Area.{Area}
use Rattle.vm_bus.specs.declared.area.Area.TheVariants as area
use Rattle.vm_vblk.specs.declared.pulled.WindowEffect.{WindowEffect}
use Rattle.vm_vblk.specs.declared.pulled.WindowEffect.TheVariants as window
use Rattle.x86_exec.specs.declared.effect.Effect.{Effect}
use Rattle.x86_exec.specs.declared.effect.Effect.TheVariants as effect
use Rattle.x86_exec.specs.Shared as exec
use Rattle.x86_fetch.specs.declared.fetching.Next.{Next}
use Rattle.x86_fetch.specs.declared.fetching.Next.TheVariants.{Local, Shared, Undefined, OutOfCode}
use Rattle.x86_trap.specs.Delivery.{delivered, Delivered}
use Rattle.vm_lapic.specs.Apic.{ready}
use Rattle.vm_state.specs.declared.drive.Drive.{Drive}
use Rattle.vm_state.specs.declared.run_state.Why.{Why}
use Rattle.vm_state.specs.declared.run_state.Why.TheVariants.{Finished, Outside}
use Rattle.vm_state.specs.Machine.{cpu_at, cpu_numbers, is_drive, takes_nmi, takes_vector}
use Rattle.vm_state.specs.Requests.{pass_count}
use Rattle.vm_state.specs.State.{State, next_order}
use Rattle.vm_owners.specs.Owners.{after_claim, after_start, after_exit, after_sleep, after_wake, after_yield}
use Rattle.vm_owners.specs.Turn.{after_turn}
use Rattle.vm_devices.specs.Windows.{register_followed, drive_written, window_written}
use Rattle.vm_running.specs.Enter.{stopped_at, entered, settled, delivered_in, nmi_taken, vector_taken, interrupt_taken, after_enter}
use Rattle.vm_running.specs.Slice.{spent, after_slice}
use Rattle.vm_running.specs.Step.{next_at, stepped_to, stored_in, after_trap, trapped, performed_as, performed, after_step, port_in, port_out, window_load, window_store}
use Rattle.vm_disks.specs.Queueing.{after_pull, after_begin}
use Rattle.vm_disks.specs.Moving.{after_move, after_finish}
use Rattle.vm_disks.specs.Images.{after_hold, after_put}
use Rattle.vm_orders.specs.Duties.{after_feed, after_meet, after_wish, after_tick, tick_of}
use Rattle.vm_orders.specs.Done.{ordered, ordered_as, noted_as, said_as, after_done, request_cancelled, noted}
use Rattle.vm_orders.specs.Ending.{after_close, after_end, may_end}
use Rattle.vm_table.specs.History.{after_all}
use Rattle.vm_table.specs.Rounds.{Rounds, after_round, chosen}
use Rattle.vm_table.specs.Table.{after, allowed, counted, effect as effect_of, lawful}
use Rattle.vm_table.specs.Turns.{control_list, first_lawful, list_of}
use Rattle.vm_rounds.proofs.Passes.{Stand, passes_go}
use Rattle.vm_rounds.proofs.Passing.{lawful_tells}
use Rattle.vm_rounds.proofs.Walking.{AreGood, AreOver, after_append}
use Rattle.vm_solo.proofs.Ended.{turn_ended}

abbrev pub Inside : State → Type 0
Inside s = s.ended ≢ Some Outside

-- ended as before, or not by a failure outside
abbrev EndOr : State → State → Type 0
EndOr s t = (t.ended ≡ s.ended) ⊎ (t.ended ≢ Some Outside)

-- ---- Enter

choice : (P : State → Type 0) (a b : Bool) (x y z : State) → P x → P y → P z → P (if a then x else if b then y else z)
choice P true b x y z p q r = p
choice P false true x y z p q r = q
choice P false false x y z p q r = r

stopped_or : (s t : State) (i : ℕ) (why : Stop) → EndOr s (stopped_at t i why)
unfolding stopped_at
stopped_or s t i why = inr (λ e. absurd (cc))

settled_or : (s t : State) (i : ℕ) (d : Delivered) (r : Result (Unit {0}) Stop) → EndOr s t → EndOr s (settled t i d r)
unfolding settled
settled_or s t i d (Ok u) h = h
settled_or s t i d (Err why) h = stopped_or s t i why

delivered_or : (s t : State) (i v : ℕ) (nmi : Bool) → EndOr s t → EndOr s (delivered_in t i v nmi)
delivered_or s t i v nmi h = let d = delivered (cpu_at t.machine i).ctx t.machine.ram v None nmi in settled_or s t i d d.answer h

nmi_or : (s t : State) (i : ℕ) → EndOr s t → EndOr s (nmi_taken t i)
unfolding nmi_taken
nmi_or s t i h = delivered_or s _ i 2 true h

vector_or : (s t : State) (i : ℕ) (o : Option ℕ) → EndOr s t → EndOr s (vector_taken t i o)
unfolding vector_taken
vector_or s t i None h = h
vector_or s t i (Some v) h = delivered_or s _ i v false h

enter_or : (s : State) (p i grant : ℕ) → EndOr s (after_enter s p i grant)
unfolding after_enter interrupt_taken entered
enter_or s p i grant =
    let t = entered s p i grant in
    let h : EndOr s t = inl refl in
    choice (λ u. EndOr s u) (takes_nmi (cpu_at t.machine i)) (takes_vector (cpu_at t.machine i)) (nmi_taken t i) (vector_taken t i (ready (cpu_at t.machine i).lapic)) t
    (nmi_or s t i h) (vector_or s t i (ready (cpu_at t.machine i).lapic) h) h

-- ---- Step

stepped_or : (s t : State) (i : ℕ) (c : _) (halted : Bool) → EndOr s t → EndOr s (stepped_to t i c halted)
unfolding stepped_to spent
stepped_or s t i c halted h = h

trap_or : (s : State) (i : ℕ) (d : Delivered) (r : Result (Unit {0}) Stop) → EndOr s (after_trap s i d r)
trap_or s i d (Ok u) = stepped_or s _ i d.ctx false (inl refl)
trap_or s i d (Err why) = stopped_or s s i why

trapped_or : (s : State) (i rip v : ℕ) (error : Option ℕ) → EndOr s (trapped s i rip v error)
unfolding trapped
trapped_or s i rip v error = let d = delivered (record (cpu_at s.machine i).ctx { rip = rip }) s.machine.ram v error false in trap_or s i d d.answer

followed_same : (s : State) (d : ℕ) (x : Drive) (e : WindowEffect) → (register_followed s d x e).ended ≡ s.ended
followed_same s d x window.Nothing = refl
followed_same s d x window.Reset = refl

drive_if : (s t : State) (b : Bool) → t.ended ≡ s.ended → (if b then t else s).ended ≡ s.ended
drive_if s t true h = h
drive_if s t false h = refl

drive_same : (s : State) (d offset value : ℕ) → (drive_written s d offset value).ended ≡ s.ended
unfolding drive_written
drive_same s d offset value = drive_if s _ (is_drive s.machine d) (followed_same s d _ _)

window_same : (s : State) (p i : ℕ) (a : Area) (value : ℕ) → (window_written s p i a value).ended ≡ s.ended
unfolding window_written
window_same s p i (area.Lapic offset) value = refl
window_same s p i (area.Ioapic offset) value = refl
window_same s p i (area.Disk d offset) value = drive_same s d offset value
window_same s p i a value = refl

performed_as_or : (s : State) (p i : ℕ) (insn : Insn) (len : ℕ) (x : exec.Shared) (e : Effect) → EndOr s (performed_as s p i insn len x e)
unfolding performed_as port_in port_out window_load window_store
performed_as_or s p i insn len x effect.Done = stepped_or s (stored_in s x) i x.ctx false (inl refl)
performed_as_or s p i insn len x effect.Halt = stepped_or s s i x.ctx true (inl refl)
performed_as_or s p i insn len x (effect.Trap v error) = trapped_or s i _ v error
performed_as_or s p i insn len x (effect.Stop why) = stopped_or s s i why
performed_as_or s p i insn len x (effect.PortIn port w) = stepped_or s _ i _ false (inl refl)
performed_as_or s p i insn len x (effect.PortOut port w value) = stepped_or s _ i x.ctx false (inl refl)
performed_as_or s p i insn len x (effect.Load a) = stepped_or s s i _ false (inl refl)
performed_as_or s p i insn len x (effect.Store a value) = stepped_or s _ i x.ctx false (inl (window_same s p i a value))

performed_or : (s : State) (p i : ℕ) (n : Next) → EndOr s (performed s p i n)
unfolding performed
performed_or s p i (Local insn len) = inl refl
performed_or s p i (Shared insn len) = let x = exec.shared (cpu_at s.machine i).ctx insn len s.machine.ram in performed_as_or s p i insn len x x.effect
performed_or s p i Undefined = trapped_or s i _ 6 None
performed_or s p i OutOfCode = stopped_or s s i _

step_or : (s : State) (p i : ℕ) → EndOr s (after_step s p i)
unfolding after_step
step_or s p i = performed_or s p i (next_at s i)

-- ---- Done

ordered_same : (s : State) (o : Order) → (ordered s o).ended ≡ s.ended
unfolding ordered request_cancelled
ordered_same s (order.Nmi i) = refl
ordered_same s (order.Cancel c id) = refl
ordered_same s (order.Set i reg value) = refl
ordered_same s order.Resume = refl
ordered_same s o = refl

finished_or : (s : State) (b : Bool) (o : Option Why) → o ≡ s.ended → ((if b then Some Finished else o) ≡ s.ended) ⊎ ((if b then Some Finished else o) ≢ Some Outside)
finished_or s true o h = inr (λ e. absurd (cc))
finished_or s false o h = inl h

done_as_or : (s : State) (o : Option Order) → EndOr s (noted_as (ordered_as s o) o (said_as s o))
unfolding noted
done_as_or s None = inl refl
done_as_or s (Some o) = finished_or s _ _ (ordered_same s o)

done_or : (s : State) → EndOr s (after_done s)
unfolding after_done
done_or s = done_as_or s (next_order s)

-- ---- an entry

-- it isn't the end by a failure outside
abbrev IsInside : Entry → Type 0
IsInside (End cause.Outside) = ⊥
IsInside e = Unit {0}

effect_or : (s : State) (p : ℕ) (e : Entry) → IsInside e → EndOr s (effect_of s p e)
unfolding effect_of after_turn after_end after_close after_claim after_start after_exit after_sleep after_wake after_yield after_meet after_wish after_pull after_begin after_move after_hold after_put after_finish after_feed after_slice spent after_tick
effect_or s p (Enter i grant) q = enter_or s p i grant
effect_or s p (Step i) q = step_or s p i
effect_or s p (Turn i) q = inl (turn_ended s i s.machine.meet)
effect_or s p (Done k) q = done_or s
effect_or s p (End cause.Budget) q = inr (λ e. absurd (cc))
effect_or s p (End cause.Outside) q = absurd q
effect_or s p e q = inl refl

inside_if : (s t : State) → EndOr s t → Inside s → Inside t
inside_if s t (inl same) i e = i (sym same ∙ e)
inside_if s t (inr never) i e = never e

inside_after : (s : State) (x : Signed) → IsInside x.entry → Inside s → Inside (after s x)
unfolding after counted
inside_after s x q i = inside_if s (effect_of s x.by x.entry) (effect_or s x.by x.entry q) i

-- ---- what passes behind control add

end_by : (s : State) (p : ℕ) (c : EndCause) → may_end s p c ≡ true → p ≡ 0
unfolding may_end
end_by s p c m = grind (arith, nat_tests, common_steps, and_parts)

over_inside : (s : State) (p : ℕ) (e : Entry) → 0 < p → allowed s p e ≡ true → IsInside e
unfolding allowed
over_inside s p (End cause.Outside) l m = absurd (let z = end_by s p cause.Outside m in omega (arith, z, l))
over_inside s p e l m = tt

inside_over : (s : State) (xs : List Signed) → AreGood s xs → AreOver xs → Inside s → Inside (after_all s xs)
inside_over s [] g o i = i
inside_over s (x ∷ xs) g o i = inside_over (after s x) xs g.1 o.1 (inside_after s x (over_inside s x.by x.entry o.0 (lawful_tells s x g.0.may).1) i)

-- ---- what control chooses

abbrev AreInside : List Entry → Type 0
AreInside [] = Unit {0}
AreInside (e ∷ es) = IsInside e × AreInside es

inside_append : (xs ys : List Entry) → AreInside xs → AreInside ys → AreInside (xs ++ ys)
inside_append [] ys a b = b
inside_append (x ∷ xs) ys a b = (a.0, inside_append xs ys a.1 b)

inside_map : (f : ℕ → Entry) → ((i : ℕ) → IsInside (f i)) → (xs : List ℕ) → AreInside (map f xs)
inside_map f h [] = tt
inside_map f h (x ∷ xs) = (h x, inside_map f h xs)

control_inside : (s : State) → AreInside (control_list s)
unfolding control_list
control_inside s =
    inside_append _ (Feed ∷ Tick (tick_of s) ∷ End cause.Budget ∷ Wish ∷ Meet ∷ Done s.place ∷ Close ∷ [])
    (inside_append _ (map (λ i. Claim i) (cpu_numbers s.machine))
    (inside_append (map (λ i. Turn i) (cpu_numbers s.machine)) (map (λ i. Yield i) (cpu_numbers s.machine))
    (inside_map (λ i. Turn i) (λ i. tt) (cpu_numbers s.machine)) (inside_map (λ i. Yield i) (λ i. tt) (cpu_numbers s.machine)))
    (inside_map (λ i. Claim i) (λ i. tt) (cpu_numbers s.machine)))
    (tt, (tt, (tt, (tt, (tt, (tt, (tt, tt)))))))

abbrev InsideIn : Option Entry → Type 0
InsideIn None = Unit {0}
InsideIn (Some e) = IsInside e

found_if : (x : Entry) (o : Option Entry) (b : Bool) → IsInside x → InsideIn o → InsideIn (cond b (Some x) o)
found_if x o true a r = a
found_if x o false a r = r

found_inside : (p : Entry → Bool) (xs : List Entry) → AreInside xs → InsideIn (find p xs)
found_inside p [] a = tt
found_inside p (x ∷ xs) a = found_if x (find p xs) (p x) a.0 (found_inside p xs a.1)

first_inside : (s : State) → InsideIn (first_lawful s 0)
unfolding list_of
first_inside s = found_inside (λ e. lawful s 0 e) (control_list s) (control_inside s)

chosen_as : (s : State) (o : Option Entry) → InsideIn o → Inside s → Inside (after_all s (option_to_list (option_map (λ (e : Entry). record { by = 0; entry = e }) o)))
chosen_as s None q i = i
chosen_as s (Some e) q i = inside_after s (record { by = 0; entry = e }) q i

chosen_inside : (s : State) → Inside s → Inside (after_all s (chosen s 0))
chosen_inside s i = chosen_as s (first_lawful s 0) (first_inside s) i

-- ---- a round

good_behind : (s : State) (xs ys : List Signed) → AreGood s (xs ++ ys) → AreGood (after_all s xs) ys
good_behind s [] ys g = g
good_behind s (x ∷ xs) ys g = good_behind (after s x) xs ys g.1

both_inside : (s : State) (xs ys : List Signed) → Inside (after_all s xs) → AreGood s (xs ++ ys) → AreOver ys → Inside (after_all s (xs ++ ys))
both_inside s xs ys i g o = subst (λ (t : State). Inside t) (sym (after_append s xs ys)) (inside_over (after_all s xs) ys (good_behind s xs ys g) o i)

some_pass : (r : Rounds) → 0 < pass_count r.state.machine
unfolding pass_count
some_pass r = omega arith

pub round_inside : (r : Rounds) → Stand r → Inside r.state → Inside (after_round r).state
unfolding after_round
round_inside r h i =
    let p = passes_go r (pass_count r.state.machine) h in
    let f = p.first (some_pass r) in
    let a = both_inside r.state (chosen r.state 0) f.0 (chosen_inside r.state i) (subst (λ (xs : List Signed). AreGood r.state xs) f.1 p.good) f.2 in
    subst (λ (t : State). Inside t) (sym p.state) (subst (λ (xs : List Signed). Inside (after_all r.state xs)) (sym f.1) a)
