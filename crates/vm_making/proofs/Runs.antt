-- What `make` answers, from what the run of its start answers and what the console took behind it.
use Rattle.std.proofs.Common.{◌≡◌, ◌≢◌, inl, inr, ℕ, ◌≤◌, Bool, false, List, ◌++◌, length, Option, Some, None, IfSome, IfNone, refl, sym, subst, ◌∙◌, ap, arith}
use Rattle.std.proofs.lemmas.Bool.{cases_Bool}
use Rattle.vm_host.specs.Counts.{Rose}
use Rattle.vm_host.specs.Leaves.{Takes, TakesSome}
use Rattle.vm_host.specs.Views.{HostView, SinkView}
use Rattle.vm_host.proofs.Frames.{takes_is_some, takes_on}
use Rattle.vm_making.specs.Answers as answer
use Rattle.vm_making.specs.Answers.{HasEnded, HasMakeCauses, MakeAnswers, RunAnswers}
use Rattle.vm_making.specs.Line.{total_line}
use Rattle.vm_making.specs.Start.{IsStartOf}
use Rattle.vm_making.specs.Telling as telling
use Rattle.vm_making.specs.Telling.{TellsTotal}
use Rattle.vm_making.proofs.Lines.{some_longer, up_to_after, up_to_is_some}
use Rattle.vm_outcome.specs.declared.outcome.Ending.{Ending}
use Rattle.vm_outcome.specs.declared.outcome.Ending.TheVariants as how
use Rattle.vm_outcome.specs.declared.outcome.Kept.{Kept}
use Rattle.vm_outcome.specs.Causes.{HasCauses}
use Rattle.vm_outcome.specs.Ends.{ending_status, why_status}
use Rattle.vm_outcome.specs.Outside.{outside, sent_in}
use Rattle.vm_outcome.specs.Telling.{has_doubt}
use Rattle.vm_soloing.specs.Answers as soloing
use Rattle.vm_soloing.specs.Keeping.{RunsFrom}
use Rattle.vm_soloing.proofs.Doubts.{doubt_has_cause}
use Rattle.vm_soloing.proofs.Plans.{drives_count}
use Rattle.vm_state.specs.Start.{IsSound}
use Rattle.vm_state.specs.declared.run_state.Why.{Why}
use Rattle.vm_state.specs.declared.run_state.Why.TheVariants as why
use Rattle.vm_state.specs.declared.start.Start.{Start}
use Rattle.vm_status.specs.declared.refusal.Refusal.TheVariants.{Memory}
use Rattle.vm_table.specs.History.{last_state}

-- a run without a disk leaves no sector in doubt
no_doubt : (k : Kept) → IsSound k.start → length k.start.plan.disks ≡ 0 → has_doubt (last_state k.start k.journal) ≡ false
no_doubt k sound none =
    elim (cases_Bool (has_doubt (last_state k.start k.journal))) [
      | inl holds ↦ (let found = doubt_has_cause k.start k.journal holds in absurd (omega (arith, found.1, drives_count k.start k.journal sound, none)))
      | inr calm ↦ calm
    ]

-- no line follows a run that didn't finish
module _ {S : Type 0} (cpus number : ℕ) (before ending : Ending) (mid new : SinkView) (console console_now : S) (same : console_now ≡ console → new ≡ mid)
    (tells : TellsTotal cpus number before ending console console_now mid new) where
  pub unsaid : (ending_status before ≡ 0 → ⊥) → (ending ≡ before) × (new ≡ mid) × (console_now ≡ console)
  unsaid other = go tells where
    go : TellsTotal cpus number before ending console console_now mid new → (ending ≡ before) × (new ≡ mid) × (console_now ≡ console)
    go (telling.written zero takes quiet e) = absurd (other zero)
    go (telling.refused zero takes rose later e) = absurd (other zero)
    go (telling.none ne still e) = (e, same still, still)

  pub make_silent : (kept : Option Kept) → IfNone kept (before ≡ how.Refused Memory) → (earlier : S) → IfNone kept (console ≡ earlier) → IfNone kept (console_now ≡ earlier)
  make_silent None spent earlier silent = (unsaid (λ z. omega (arith, sym (ap ending_status spent) ∙ z))).2 ∙ silent
  make_silent (Some k) spent earlier silent = tt

  -- the run of a kept one
  module _ (k : Kept) (old : SinkView) where
    stays : (sent : List ℕ) → new ≡ mid → Takes sent old mid → Takes sent old new
    stays sent e takes = subst (λ (v : SinkView). Takes sent old v) (sym e) takes

    stays_some : (sent : List ℕ) → new ≡ mid → TakesSome sent old mid → TakesSome sent old new
    stays_some sent e takes = subst (λ (v : SinkView). TakesSome sent old v) (sym e) takes

    finished : HasEnded k why.Finished → Takes (sent_in k) old mid → before ≡ how.Ran why.Finished false → TellsTotal cpus number before ending console console_now mid new
        → RunAnswers cpus number k old new ending
    finished h wrote is (telling.written zero takes quiet e) = answer.told h (takes_on old mid new (sent_in k) (total_line cpus number) wrote takes) (e ∙ is)
    finished h wrote is (telling.refused zero takes rose later e) = answer.untold h (up_to_after old mid new (sent_in k) (total_line cpus number) wrote takes) e
    finished h wrote is (telling.none ne still e) = absurd (ne (ap ending_status is))

    by_reason : (reason : Why) → HasEnded k reason → reason ≢ why.Outside → Takes (sent_in k) old mid → before ≡ how.Ran reason false → RunAnswers cpus number k old new ending
    by_reason why.Finished h ne wrote is = finished h wrote is tells
    by_reason (why.Stopped cpu stop rip) h ne wrote is =
        let quiet = unsaid (λ e. omega (arith, sym (ap ending_status is) ∙ e)) in
        answer.ended (why.Stopped cpu stop rip) h (λ e. cc) ne (stays (sent_in k) quiet.1 wrote) (quiet.0 ∙ is)
    by_reason why.Budget h ne wrote is =
        let quiet = unsaid (λ e. omega (arith, sym (ap ending_status is) ∙ e)) in
        answer.ended why.Budget h (λ e. cc) ne (stays (sent_in k) quiet.1 wrote) (quiet.0 ∙ is)
    by_reason why.Outside h ne wrote is = absurd (ne refl)

    run_makes : (host host_now : HostView) → IsSound k.start → length k.start.plan.disks ≡ 0 → TakesSome (sent_in k) old mid
        → soloing.RunAnswers soloing.by_rounds (outside host host_now old mid) None k before → RunAnswers cpus number k old new ending
    run_makes host host_now sound disks some (soloing.unopened empty still d within e) = absurd (omega (arith, within, disks))
    run_makes host host_now sound disks some (soloing.ran h reason found e saved) =
        let doubt = no_doubt k sound disks in
        by_reason reason (record { calls = h.went.0; solo = h.went.1; closed = h.closed; ended = found; no_doubt = doubt })
        (λ x. h.no_fault (found ∙ ap {A = Why} {B = Option Why} (λ z. Some z) x)) h.wrote (e ∙ ap {A = Bool} {B = Ending} (λ b. how.Ran reason b) doubt)
    run_makes host host_now sound disks some (soloing.unsaved h name named e) = absurd (let x : None ≡ Some name = named in cc)
    run_makes host host_now sound disks some (soloing.unwritten closed cut e) =
        let quiet = unsaid (λ z. omega (arith, sym (ap ending_status e) ∙ z)) in
        answer.unwritten closed cut (stays_some (sent_in k) quiet.1 some) (quiet.0 ∙ e)
    run_makes host host_now sound disks some (soloing.spent e) =
        let quiet = unsaid (λ z. omega (arith, sym (ap ending_status e) ∙ z)) in
        answer.spent (stays_some (sent_in k) quiet.1 some) (quiet.0 ∙ e)

  module _ (first : Start) (is_first : IsStartOf cpus number first) (host host_now : HostView) (old : SinkView) where
    abbrev Ran : Kept → Type 0
    Ran k = RunsFrom soloing.by_rounds first None (outside host host_now old mid) before k

    -- where none is kept memory was out
    pub make_answers : (kept : Option Kept) → IfSome kept Ran → IfNone kept (before ≡ how.Refused Memory) → MakeAnswers cpus number old new ending kept
    make_answers None run spent = answer.spent refl ((unsaid (λ z. omega (arith, sym (ap ending_status spent) ∙ z))).0 ∙ spent)
    make_answers (Some k) run spent =
        answer.began k refl (run_makes k old host host_now run.from.run.sound (ap (λ (s : Start). length s.plan.disks) (run.from.start ∙ is_first.is)) run.console run.answers)

    pub make_start : (kept : Option Kept) → IfSome kept Ran → IfSome kept (λ k. IsStartOf cpus number k.start)
    make_start None run = tt
    make_start (Some k) run = subst (λ (s : Start). IsStartOf cpus number s) (sym run.from.start) is_first

-- the console took a first part of what the guest sent and of the line
run_sent : (cpus number : ℕ) (k : Kept) (old new : SinkView) (ending : Ending) → RunAnswers cpus number k old new ending → TakesSome (sent_in k ++ total_line cpus number) old new
run_sent cpus number k old new ending (answer.told h takes e) = takes_is_some old new (sent_in k ++ total_line cpus number) takes
run_sent cpus number k old new ending (answer.untold h takes e) = up_to_is_some old new (sent_in k) (total_line cpus number) takes
run_sent cpus number k old new ending (answer.ended reason h ne inside takes e) = some_longer old new (sent_in k) (total_line cpus number) (takes_is_some old new (sent_in k) takes)
run_sent cpus number k old new ending (answer.unwritten closed cut takes e) = some_longer old new (sent_in k) (total_line cpus number) takes
run_sent cpus number k old new ending (answer.spent takes e) = some_longer old new (sent_in k) (total_line cpus number) takes

pub make_sent : (cpus number : ℕ) (old new : SinkView) (ending : Ending) (kept : Option Kept) → MakeAnswers cpus number old new ending kept
    → IfSome kept (λ k. TakesSome (sent_in k ++ total_line cpus number) old new)
make_sent cpus number old new ending kept (answer.began k at h) =
    subst (λ (x : Option Kept). IfSome x (λ j. TakesSome (sent_in j ++ total_line cpus number) old new)) (sym at) (run_sent cpus number k old new ending h)
make_sent cpus number old new ending kept (answer.spent gone e) = subst (λ (x : Option Kept). IfSome x (λ j. TakesSome (sent_in j ++ total_line cpus number) old new)) (sym gone) tt

-- ---- counts

rose_after : (a b c : ℕ) → a ≤ b → Rose b c → Rose a c
rose_after a b c le h = omega (arith, le, h)

why_no_host : (reason : Why) → (why_status reason false ≢ 6) × (why_status reason false ≢ 7)
why_no_host why.Finished = (λ e. omega (arith, e), λ e. omega (arith, e))
why_no_host (why.Stopped cpu stop rip) = (λ e. omega (arith, e), λ e. omega (arith, e))
why_no_host why.Budget = (λ e. omega (arith, e), λ e. omega (arith, e))
why_no_host why.Outside = (λ e. omega (arith, e), λ e. omega (arith, e))

known : (ending : Ending) (n : ℕ) → ending_status ending ≡ n → (n ≢ 6) × (n ≢ 7) → (ending_status ending ≢ 6) × (ending_status ending ≢ 7)
known ending n e h = (λ x. h.0 (sym e ∙ x), λ x. h.1 (sym e ∙ x))

no_host : (cpus number : ℕ) (k : Kept) (old new : SinkView) (ending : Ending) → RunAnswers cpus number k old new ending → (ending_status ending ≢ 6) × (ending_status ending ≢ 7)
no_host cpus number k old new ending (answer.told h takes e) = known ending 0 (ap ending_status e) (λ x. omega (arith, x), λ x. omega (arith, x))
no_host cpus number k old new ending (answer.untold h takes e) = known ending 9 (ap ending_status e) (λ x. omega (arith, x), λ x. omega (arith, x))
no_host cpus number k old new ending (answer.ended reason h ne inside takes e) = known ending (why_status reason false) (ap ending_status e) (why_no_host reason)
no_host cpus number k old new ending (answer.unwritten closed cut takes e) = known ending 9 (ap ending_status e) (λ x. omega (arith, x), λ x. omega (arith, x))
no_host cpus number k old new ending (answer.spent takes e) = known ending 71 (ap ending_status e) (λ x. omega (arith, x), λ x. omega (arith, x))

pub make_no_host : (cpus number : ℕ) (old new : SinkView) (ending : Ending) (kept : Option Kept) → MakeAnswers cpus number old new ending kept → (ending_status ending ≢ 6) × (ending_status ending ≢ 7)
make_no_host cpus number old new ending kept (answer.began k at h) = no_host cpus number k old new ending h
make_no_host cpus number old new ending kept (answer.spent gone e) = known ending 71 (ap ending_status e) (λ x. omega (arith, x), λ x. omega (arith, x))

pub make_causes : {S : Type 0} (cpus number : ℕ) (before ending : Ending) (host host_now : HostView) (old mid new : SinkView) (console console_now : S) → (console_now ≡ console → new ≡ mid)
    → HasCauses (ending_status before) host host_now old mid → TellsTotal cpus number before ending console console_now mid new → (ending_status ending ≢ 6) × (ending_status ending ≢ 7)
    → HasMakeCauses (ending_status ending) old new
make_causes cpus number before ending host host_now old mid new console console_now same c (telling.written zero takes quiet e) apart = record {
  no_host = apart;
  unwritten = λ n. absurd (omega (arith, n, ap ending_status e, zero));
  only_unwritten = λ lt. absurd (elim (c.only_unwritten (omega (arith, lt, quiet))) [ inl x ↦ omega (arith, x, zero) | inr x ↦ omega (arith, x, zero) ]);
  later = omega (arith, c.later.2, quiet);
}
make_causes cpus number before ending host host_now old mid new console console_now same c (telling.refused zero takes rose later e) apart = record {
  no_host = apart;
  unwritten = λ n. rose_after old.faults mid.faults new.faults c.later.2 rose;
  only_unwritten = λ lt. inl (ap ending_status e);
  later = omega (arith, c.later.2, later);
}
make_causes cpus number before ending host host_now old mid new console console_now same c (telling.none ne still e) apart =
    let faults : new.faults ≡ mid.faults = ap (λ (v : SinkView). v.faults) (same still) in
    let status : ending_status ending ≡ ending_status before = ap ending_status e in
    record {
      no_host = apart;
      unwritten = λ n. subst (λ (m : ℕ). Rose old.faults m) (sym faults) (c.unwritten (sym status ∙ n));
      only_unwritten = λ lt. elim (c.only_unwritten (omega (arith, lt, faults))) [ inl x ↦ inl (status ∙ x) | inr x ↦ inr (status ∙ x) ];
      later = omega (arith, c.later.2, faults);
    }
