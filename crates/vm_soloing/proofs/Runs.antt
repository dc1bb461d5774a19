-- What a run that began answers.
use Rattle.std.proofs.Common.{◌≡◌, ◌≢◌, ◌⊎◌, ℕ, zero, suc, ◌<◌, ◌≤◌, Bool, true, false, inl, inr, List, Option, Some, None, Result, Ok, Err, refl, sym, subst, ◌∙◌, ap, arith}
use Rattle.std.specs.Prelude.{is_some}
use Rattle.vm_host.specs.Counts.{Rose}
use Rattle.vm_host.specs.Leaves.{Takes}
use Rattle.vm_host.specs.Views.{HostView}
use Rattle.vm_control.specs.declared.control.OutFault.{OutFault}
use Rattle.vm_control.specs.declared.control.OutFault.TheVariants as fault
use Rattle.vm_law.specs.declared.journal.Signed.{Signed}
use Rattle.vm_outcome.specs.declared.outcome.Ending.{Ending}
use Rattle.vm_outcome.specs.declared.outcome.Ending.TheVariants as how
use Rattle.vm_outcome.specs.declared.outcome.Kept.{Kept}
use Rattle.vm_outcome.specs.Causes.{HasCauses, IsNamed}
use Rattle.vm_outcome.specs.Ends.{ended_as, ending_status, why_status}
use Rattle.vm_outcome.specs.Outside.{IsEnd, Outside, sent_in}
use Rattle.vm_outcome.specs.Telling.{has_doubt}
use Rattle.vm_soloing.specs.Answers as answer
use Rattle.vm_soloing.specs.Answers.{GoesBy, HasRun, IsCutBy, IsSaved, RunAnswers, Way}
use Rattle.vm_soloing.specs.Closing as closing
use Rattle.vm_soloing.specs.Closing.{Closes, HasJournalCauses, IsUnsaved}
use Rattle.vm_state.specs.declared.run_state.Why.{Why}
use Rattle.vm_state.specs.declared.run_state.Why.TheVariants as why
use Rattle.vm_state.specs.State.{State}
use Rattle.vm_status.specs.declared.refusal.Refusal.{Refusal}
use Rattle.vm_status.specs.declared.refusal.Refusal.TheVariants.{HostFault, Console, Memory}
use Rattle.vm_table.specs.History.{IsLegal, is_closed, last_state, why_ended}
use Rattle.vm_solo.proofs.Ended.{legal_shut}

abbrev pub End : Type 0
End = Result (Unit {0}) OutFault

-- what is known of a run that was played
pub record IsPlayed (way : Way) (o : Outside) (k : Kept) (end : End) : Type 0 where
  pub legal : IsLegal k.start k.journal
  pub closed : end ≢ Err fault.Memory → is_closed k.start k.journal ≡ true
  pub all : end ≡ Ok tt → Takes (sent_in k) o.console o.console_now
  pub cut : end ≡ Err fault.Sink → IsCutBy way k.start k.journal (why_ended k.start k.journal)
  pub no_fault : end ≡ Ok tt → why_ended k.start k.journal ≢ Some why.Outside
  pub went : end ≡ Ok tt → GoesBy way k.start k.journal
  pub only : end ≢ Err fault.Failed

value_of : (o : Option Why) → is_some o ≡ true → (w : Why) × (o ≡ Some w)
value_of (Some w) h = (w, refl)
value_of None h = absurd (let e : false ≡ true = h in cc)

not_spent : ◌≡◌ {A = End} (Ok tt) (Err fault.Memory) → ⊥
not_spent e = cc

end_known : (way : Way) (o : Outside) (k : Kept) → IsPlayed way o k (Ok tt) → (w : Why) × (why_ended k.start k.journal ≡ Some w) × (w ≢ why.Outside)
end_known way o k p =
    let found = value_of (why_ended k.start k.journal) (legal_shut k.start k.journal p.legal (p.closed not_spent)) in
    (found.0, found.1, λ e. p.no_fault refl (found.1 ∙ ap {A = Why} {B = Option Why} (λ w. Some w) e))

has_run : (way : Way) (o : Outside) (k : Kept) → IsPlayed way o k (Ok tt) → HasRun way o k
has_run way o k p = record {
  went = p.went refl;
  closed = p.closed not_spent;
  no_fault = p.no_fault refl;
  wrote = p.all refl;
}

as_ending : (a b : Refusal) → a ≡ b → how.Refused a ≡ how.Refused b
as_ending a b e = ap {A = Refusal} {B = Ending} (λ r. how.Refused r) e

abbrev pub the_state : Kept → State
the_state k = last_state k.start k.journal

saved_answers : (way : Way) (o : Outside) (journal : Option (List ℕ)) (k : Kept) (ending : Ending)
    → IsPlayed way o k (Ok tt) → closing.Saves o.host o.host_now journal k.journal (the_state k) ending → RunAnswers way o journal k ending
saved_answers way o journal k ending p (closing.saved says keeps) =
    let known = end_known way o k p in
    answer.ran (has_run way o k p) known.0 known.1 (says ∙ ap (λ (w : Option Why). ended_as w (has_doubt (the_state k))) known.1) keeps
saved_answers way o journal k ending p (closing.unsaved refusal e (inl (name, named, told, r))) = answer.unsaved (has_run way o k p) name named (e ∙ as_ending _ _ r)
saved_answers way o journal k ending p (closing.unsaved refusal e (inr r)) = answer.spent (e ∙ as_ending _ _ r)

pub run_answers : (way : Way) (o : Outside) (journal : Option (List ℕ)) (k : Kept) (end : End) (ending : Ending)
    → IsPlayed way o k end → Closes o.host o.host_now journal k.journal (the_state k) end ending → RunAnswers way o journal k ending
run_answers way o journal k (Ok x) ending p c = saved_answers way o journal k ending p c
run_answers way o journal k (Err fault.Sink) ending p c =
    answer.unwritten (p.closed (λ e. let bad : ◌≡◌ {A = End} (Err fault.Sink) (Err fault.Memory) = e in cc)) (p.cut refl) c
run_answers way o journal k (Err fault.Failed) ending p c = absurd (p.only refl)
run_answers way o journal k (Err fault.Memory) ending p c = answer.spent c

-- ---- where memory is out the run doesn't end well

pub closed_where : (old new : HostView) (journal : Option (List ℕ)) (history : List Signed) (state : State) (end : End) (ending : Ending) → Closes old new journal history state end ending
    → (ending_status ending ≡ 71 → ⊥) → end ≢ Err fault.Memory
closed_where old new journal history state (Ok x) ending c other e = not_spent e
closed_where old new journal history state (Err fault.Memory) ending c other e = other (ap ending_status c)
closed_where old new journal history state (Err fault.Sink) ending c other e = let bad : ◌≡◌ {A = End} (Err fault.Sink) (Err fault.Memory) = e in cc
closed_where old new journal history state (Err fault.Failed) ending c other e = let bad : ◌≡◌ {A = End} (Err fault.Failed) (Err fault.Memory) = e in cc

pub end_not_spent : (n : ℕ) → IsEnd n → n ≡ 71 → ⊥
end_not_spent n (zero, l, e) h = omega (arith, e, h)
end_not_spent n (suc zero, l, e) h = omega (arith, e, h)
end_not_spent n (suc (suc zero), l, e) h = omega (arith, e, h)
end_not_spent n (suc (suc (suc zero)), l, e) h = omega (arith, e, h)
end_not_spent n (suc (suc (suc (suc k))), l, e) h = omega (arith, l)

-- ---- a failure names its file

saves_named : (old new : HostView) (journal : Option (List ℕ)) (history : List Signed) (state : State) (ending : Ending) (name : List ℕ) → closing.Saves old new journal history state ending
    → ending ≡ how.Refused (HostFault name) → ((why : Option Why) (doubt : Bool) → ended_as why doubt ≡ how.Refused (HostFault name) → ⊥) → IsNamed name new
saves_named old new journal history state ending name (closing.saved says keeps) e not_ran = absurd (not_ran state.ended (has_doubt state) (sym says ∙ e))
saves_named old new journal history state ending name (closing.unsaved refusal is (inl (other, named, told, r))) e not_ran =
    let x : how.Refused (HostFault other) ≡ how.Refused (HostFault name) = sym (is ∙ as_ending _ _ r) ∙ e in
    let same : other ≡ name = cc in subst (λ (n : List ℕ). IsNamed n new) same told
saves_named old new journal history state ending name (closing.unsaved refusal is (inr r)) e not_ran =
    absurd (let x : how.Refused Memory ≡ how.Refused (HostFault name) = sym (is ∙ as_ending _ _ r) ∙ e in cc)

not_refused : (name : List ℕ) (w : Option Why) (doubt : Bool) → ended_as w doubt ≡ how.Refused (HostFault name) → ⊥
not_refused name None doubt e = cc
not_refused name (Some w) doubt e = cc

pub closes_named : (old new : HostView) (journal : Option (List ℕ)) (history : List Signed) (state : State) (end : End) (ending : Ending) (name : List ℕ) → Closes old new journal history state end ending
    → ending ≡ how.Refused (HostFault name) → IsNamed name new
closes_named old new journal history state (Ok x) ending name c e = saves_named old new journal history state ending name c e (not_refused name)
closes_named old new journal history state (Err fault.Memory) ending name c e = absurd (let x : how.Refused Memory ≡ how.Refused (HostFault name) = sym c ∙ e in cc)
closes_named old new journal history state (Err fault.Sink) ending name c e = absurd (let x : how.Refused Console ≡ how.Refused (HostFault name) = sym c ∙ e in cc)
closes_named old new journal history state (Err fault.Failed) ending name c e = absurd (let x : how.Refused Console ≡ how.Refused (HostFault name) = sym c ∙ e in cc)

-- ---- counts

module _ (way : Way) (o : Outside) (journal : Option (List ℕ)) (k : Kept) (ending : Ending) (j : HasJournalCauses (ending_status ending) o.host o.host_now) (later : o.console.faults ≤ o.console_now.faults) where
  causes_from : (ending_status ending ≡ 9 → Rose o.console.faults o.console_now.faults) → (o.console.faults < o.console_now.faults → (ending_status ending ≡ 9) ⊎ (ending_status ending ≡ 71))
      → HasCauses (ending_status ending) o.host o.host_now o.console o.console_now
  causes_from cause only = record {
    failed = j.failed;
    missing = λ e. absurd (j.none_missing.0 e);
    unwritten = cause;
    only_failed = j.only_failed;
    only_missing = λ lt. absurd (omega (arith, lt, j.none_missing.1));
    only_unwritten = only;
    later = (j.later, omega (arith, j.none_missing.1), later);
  }

  not_nine : (w : Why) (doubt : Bool) → w ≢ why.Outside → why_status w doubt ≡ 9 → ⊥
  not_nine why.Finished false h e = omega (arith, e)
  not_nine why.Finished true h e = omega (arith, e)
  not_nine (why.Stopped cpu stop rip) doubt h e = omega (arith, e)
  not_nine why.Budget doubt h e = omega (arith, e)
  not_nine why.Outside doubt h e = h refl

  answers_no_nine : RunAnswers way o journal k ending → ((ending ≡ how.Refused Console) → ⊥) → ending_status ending ≡ 9 → ⊥
  answers_no_nine (answer.unopened none still d within e) c n = omega (arith, sym (ap ending_status e) ∙ n)
  answers_no_nine (answer.ran h w found e saved) c n = not_nine w _ (λ x. h.no_fault (found ∙ ap {A = Why} {B = Option Why} (λ z. Some z) x)) (sym (ap ending_status e) ∙ n)
  answers_no_nine (answer.unsaved h name named e) c n = omega (arith, sym (ap ending_status e) ∙ n)
  answers_no_nine (answer.unwritten closed cut e) c n = c e
  answers_no_nine (answer.spent e) c n = omega (arith, sym (ap ending_status e) ∙ n)

  saves_not_console : (end : End) → end ≡ Ok tt → closing.Saves o.host o.host_now journal k.journal (the_state k) ending → ending ≡ how.Refused Console → ⊥
  saves_not_console end is (closing.saved says keeps) e = ran_not (the_state k).ended (has_doubt (the_state k)) (sym says ∙ e) where
    ran_not : (w : Option Why) (doubt : Bool) → ended_as w doubt ≡ how.Refused Console → ⊥
    ran_not None doubt e = cc
    ran_not (Some w) doubt e = cc
  saves_not_console end is (closing.unsaved refusal s (inl (name, named, told, r))) e = let x : how.Refused (HostFault name) ≡ how.Refused Console = sym (s ∙ as_ending _ _ r) ∙ e in cc
  saves_not_console end is (closing.unsaved refusal s (inr r)) e = let x : how.Refused Memory ≡ how.Refused Console = sym (s ∙ as_ending _ _ r) ∙ e in cc

  pub run_causes : (end : End) → IsPlayed way o k end → Closes o.host o.host_now journal k.journal (the_state k) end ending
      → (end ≡ Err fault.Sink → Rose o.console.faults o.console_now.faults) → (end ≡ Ok tt → o.console_now.faults ≡ o.console.faults)
      → HasCauses (ending_status ending) o.host o.host_now o.console o.console_now
  run_causes (Ok x) p c cause quiet =
      causes_from (λ n. absurd (answers_no_nine (saved_answers way o journal k ending p c) (saves_not_console (Ok tt) refl c) n)) (λ lt. absurd (omega (arith, lt, quiet refl)))
  run_causes (Err fault.Sink) p c cause quiet = causes_from (λ n. cause refl) (λ lt. inl (ap ending_status c))
  run_causes (Err fault.Failed) p c cause quiet = absurd (p.only refl)
  run_causes (Err fault.Memory) p c cause quiet = causes_from (λ n. absurd (omega (arith, sym (ap ending_status c) ∙ n))) (λ lt. inr (ap ending_status c))
