-- Where a machine is saved everything is at rest.
use Rattle.std.proofs.Common.{◌≡◌, ℕ, Bool, true, false, not, List, ◌∷◌, refl, sym, ap, subst, ◌∙◌, Option, Some, None, arith}
use Rattle.std.specs.Prelude.{◌||◌, is_none}
use Rattle.std.proofs.lemmas.Bool.{and_parts, true≢false}
use Rattle.std.proofs.lemmas.Bool.Decides.{nat_tests}
use Rattle.std.proofs.lemmas.Grind.{common_steps}
use Rattle.vm_law.specs.declared.journal.Entry.TheVariants.{Done}
use Rattle.vm_law.specs.declared.journal.Signed.{Signed}
use Rattle.vm_law.specs.declared.script.Order.{Order}
use Rattle.vm_law.specs.declared.script.Order.TheVariants.{Checkpoint, Against, Send}
use Rattle.vm_meet.specs.declared.meeting.Meeting.{Meeting}
use Rattle.vm_state.specs.declared.start.Start as start_type
use Rattle.vm_state.specs.declared.start.Origin.{Origin}
use Rattle.vm_state.specs.declared.start.Origin.TheVariants.{Saved}
use Rattle.vm_state.specs.Machine.{MachineState}
use Rattle.vm_state.specs.Start.{boot, boot_machine, first_state}
use Rattle.vm_state.specs.State.{State, next_order}
use Rattle.vm_state.specs.View.{MachineView}
use Rattle.vm_orders.specs.Done.{is_cut, is_ready, may_done}
use Rattle.vm_table.specs.History.{IsCut, IsLegal, is_lawful_all, last_state, saves}
use Rattle.vm_table.specs.Table.{allowed, lawful}
use Rattle.vm_laws.specs.Cuts.{IsAtRest}
use Rattle.vm_laws.proofs.Histories.{lawful_split}

none_is : (o : Option Meeting) → is_none o ≡ true → o ≡ None
none_is None h = refl
none_is (Some m) h = absurd (true≢false (sym h))

cut_rests : (s : State) → is_cut s ≡ true → IsAtRest s
unfolding is_cut
cut_rests s h = record {
  pause = grind (arith, common_steps, and_parts);
  frozen = grind (arith, common_steps, and_parts);
  busy = grind (arith, common_steps, and_parts);
  meet = none_is s.machine.meet (grind (arith, common_steps, and_parts));
  held = grind (arith, common_steps, and_parts);
}

-- a send that saves is done where everything is at rest
send_cut : (a b : Bool) → a ≡ true → (not a || b) ≡ true → b ≡ true
send_cut true b e h = h
send_cut false b e h = absurd (true≢false (sym e))

saved_cut : (s : State) (o : Option Order) → is_ready s o ≡ true → saves s.machine.pause o ≡ true → is_cut s ≡ true
saved_cut s (Some (Checkpoint name)) r h = r
saved_cut s (Some (Against name base)) r h = r
saved_cut s (Some (Send name)) r h = send_cut s.machine.pause (is_cut s) h r
saved_cut s o r h = absurd (true≢false (sym h))

done_tells : (s : State) (p k : ℕ) → lawful s p (Done k) ≡ true → is_ready s (next_order s) ≡ true
unfolding lawful allowed may_done
done_tells s p k m = grind (arith, nat_tests, common_steps, and_parts)

pub cuts_rest : (start : start_type.Start) (history : List Signed) (k : ℕ) (m : MachineState) → IsLegal start history → (c : IsCut start history k m) → IsAtRest (last_state start c.before)
cuts_rest start history k m legal c =
    let s = last_state start c.before in
    let h = lawful_split (boot start) c.before (record { by = 0; entry = Done k } ∷ c.rest) (subst (λ (xs : List Signed). is_lawful_all (boot start) xs ≡ true) c.done legal) in
    let t = and_parts (lawful s 0 (Done k)) _ h in
    cut_rests s (saved_cut s (next_order s) (done_tells s 0 k t.0) c.saved)

pub boot_is : (start : start_type.Start) → (boot start).machine ≡ boot_machine start.plan start.disks start.origin
unfolding first_state
boot_is start = refl

pub saved_goes_on : (start : start_type.Start) (m : MachineView) → start.origin ≡ Saved m → (boot start).machine ≡ m.state
saved_goes_on start m e = boot_is start ∙ ap (λ (o : Origin). boot_machine start.plan start.disks o) e
