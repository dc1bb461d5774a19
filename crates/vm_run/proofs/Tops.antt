-- From what the work of a command does, and what the log is told, to what the command does.
use Rattle.std.proofs.Common.{◌≡◌, ◌≢◌, ◌⊎◌, inl, inr, ℕ, zero, suc, List, [], ◌∷◌, Option, Some, None, IfSome, IfNone, Contains, refl, sym, subst, ◌∙◌, ap, arith}
use Rattle.vm_cmd.specs.declared.command.Command.{Command}
use Rattle.vm_cmd.specs.declared.command.Command.TheVariants.{Run, Solo, Make}
use Rattle.vm_host.specs.Counts.{Rose}
use Rattle.vm_host.specs.Leaves.{LeavesSink, Takes}
use Rattle.vm_host.specs.Views.{HostView, SinkView}
use Rattle.vm_laws.specs.Laws.{Laws}
use Rattle.vm_laws.proofs.Laws.{laws_hold}
use Rattle.vm_outcome.specs.declared.outcome.Ending.{Ending}
use Rattle.vm_outcome.specs.declared.outcome.Ending.TheVariants as how
use Rattle.vm_outcome.specs.declared.outcome.Kept.{Kept}
use Rattle.vm_outcome.specs.Ends.{ending_status}
use Rattle.vm_outcome.specs.Outside.{IsEnd, Outside, outside}
use Rattle.vm_outcome.specs.Telling as telling
use Rattle.vm_outcome.specs.Telling.{IsRefusal, IsRun, Tells, TellsRun, report_of}
use Rattle.vm_outcome.proofs.Frames.{all_some, if_some}
use Rattle.vm_run.specs.Answer.{Answers, Does, HasStatus, IsClosedBy, IsUnstartedBy, JournalOf, TakesReport, done_statuses, reported, statuses}
use Rattle.vm_run.specs.Words.{asks_state}
use Rattle.vm_run.specs.Works.{Works}
use Rattle.vm_run.proofs.Facts.{Facts, facts_of, unkept, refused_no_end, untold_no_end, no_end_of}
use Rattle.vm_run.proofs.Known.{ends_of, known_of, spent_done, spent_known, untold_known}
use Rattle.vm_status.specs.declared.refusal.Refusal.TheVariants.{Bad, HostFault, Missing, Memory}
use Rattle.vm_status.specs.declared.kind.Kind.TheVariants.{Later}
use Rattle.vm_status.specs.declared.role.Role.TheVariants as roles

not_refused_and_done : (n : ℕ) → Contains (3 ∷ 71 ∷ []) n → IsEnd n → ⊥
not_refused_and_done n (zero, l, e) h = no_end_of (Bad roles.Start [] 0 Later) (subst IsEnd (sym e) h)
not_refused_and_done n (suc zero, l, e) h = no_end_of Memory (subst IsEnd (sym e) h)
not_refused_and_done n (suc (suc k), l, e) h = omega (arith, l)

module _ {A B L : Type 0} (see : A → HostView) (watch : B → SinkView) (heed : L → SinkView) (command : Command)
    (host host_now : A) (console console_now : B) (log log_now : L) (before : Ending) (kept : Option Kept)
    (w : Works see watch command host host_now console console_now before kept) where
  abbrev o : Outside
  o = outside (see host) (see host_now) (watch console) (watch console_now)

  facts : (P : Kept → Type 0) → ((k : Kept) → Facts command o before k → P k) → IfSome kept P
  facts P f = all_some P kept (λ k is. f k (facts_of o before command kept k is w.answers))

  laws : IfSome kept (λ k. Laws k.start k.journal)
  laws = if_some (λ k. IsRun k) (λ k. Laws k.start k.journal) kept (λ k r. laws_hold k.start k.journal r.sound r.legal) w.run

  unstarted_by : (x : Option Kept) → kept ≡ x → IfNone x (IsUnstartedBy (see host) command before)
  unstarted_by None none = unkept o before command (subst (λ (x : Option Kept). Answers command o before x) none w.answers)
  unstarted_by (Some k) is = tt

  none_now : (ending : Ending) (k : Kept) → kept ≡ Some k → IfNone kept (IsUnstartedBy (see host) command ending)
  none_now ending k is = subst (λ (x : Option Kept). IfNone x (IsUnstartedBy (see host) command ending)) (sym is) tt

  -- it ends as its work ended
  module _ (told : Tells before (reported command kept) (asks_state command) before log log_now (heed log) (heed log_now))
      (report : IsEnd (ending_status before) → IfSome kept (λ k. TakesReport command k (heed log) (heed log_now))) where
    same_does : Does see watch heed command host host_now console console_now log log_now before kept
    same_does = record {
      before = before;
      answers = w.answers;
      told = told;
      started = w.started;
      unstarted = unstarted_by kept refl;
      run = w.run;
      orderly = w.orderly;
      closed = facts (λ k. IsClosedBy command (ending_status before) k) (λ k f. f.closed);
      console_part = w.console_part;
      console_all = λ end. facts _ (λ k f. f.all end);
      untouched = w.untouched;
      files = w.files;
      disks = w.disks;
      journal = λ end. facts (λ k. JournalOf command (see host) (see host_now) k) (λ k f. f.journal end);
      known = known_of o before command kept w.answers;
      status = λ end. facts (λ k. HasStatus command (ending_status before) k) (λ k f. f.status end);
      report = report;
      causes = (let c = w.causes in record {
        failed = c.failed;
        missing = c.missing;
        doubted = w.doubted;
        unwritten = λ e. inl (c.unwritten e);
        only_failed = c.only_failed;
        only_missing = c.only_missing;
        only_unwritten = c.only_unwritten;
      });
      named = w.named;
      complete = λ is_told can calm quiet. w.complete is_told can calm;
      refusal = w.refusal;
      sound_images = w.sound_images;
      laws = laws;
    }

  -- its work ended well, and then the log failed, or memory ran out
  module _ (k : Kept) (is : kept ≡ Some k) (fine : IsRefusal before → ⊥) (ending : Ending) (told : Tells before (reported command kept) (asks_state command) ending log log_now (heed log) (heed log_now))
      (n : ℕ) (status_is : ending_status ending ≡ n) where
    ends : IsEnd (ending_status before)
    ends = ends_of o before command kept w.answers fine

    not_six : ending_status before ≡ 6 → ⊥
    not_six e = no_end_of (HostFault []) (subst IsEnd e ends)

    not_seven : ending_status before ≡ 7 → ⊥
    not_seven e = no_end_of (Missing []) (subst IsEnd e ends)

    not_nine : ending_status before ≡ 9 → ⊥
    not_nine e = untold_no_end (subst IsEnd e ends)

    not_spent : ending_status before ≡ 71 → ⊥
    not_spent e = no_end_of Memory (subst IsEnd e ends)

    closed_now : (c : Command) (m : ℕ) (j : Kept) → IsClosedBy c (ending_status before) j → IsClosedBy c m j
    closed_now (Solo x) m j h = λ ne. elim (h not_spent) [ inl closed ↦ inl closed | inr six ↦ absurd (not_six six.0) ]
    closed_now (Run x) m j h = λ ne. elim (h not_spent) [ inl closed ↦ inl closed | inr six ↦ absurd (not_six six.0) ]
    closed_now (Make cpus number) m j h = λ ne. h not_spent
    closed_now c m j h = tt

    worse_does : (IsEnd n → ⊥) → (n ≢ 6) → (n ≢ 7) → (n ≢ 8) → (n ≡ 9 → Rose (heed log).faults (heed log_now).faults) → Contains statuses n
        → (Rose (heed log).faults (heed log_now).faults ⊎ (n ≡ 71)) → ((name : List ℕ) → ending ≡ how.Refused (HostFault name) → ⊥)
        → Does see watch heed command host host_now console console_now log log_now ending kept
    worse_does no_end six seven eight nine there spent unnamed = record {
      before = before;
      answers = w.answers;
      told = told;
      started = w.started;
      unstarted = none_now ending k is;
      run = w.run;
      orderly = w.orderly;
      closed = facts (λ j. IsClosedBy command (ending_status ending) j) (λ j f. closed_now command (ending_status ending) j f.closed);
      console_part = w.console_part;
      console_all = λ end. absurd (no_end (subst IsEnd status_is end));
      untouched = w.untouched;
      files = w.files;
      disks = λ end. absurd (no_end (subst IsEnd status_is end));
      journal = λ end. absurd (no_end (subst IsEnd status_is end));
      known = subst (λ (m : ℕ). Contains statuses m) (sym status_is) there;
      status = λ end. absurd (no_end (subst IsEnd status_is end));
      report = λ end. absurd (no_end (subst IsEnd status_is end));
      causes = (let c = w.causes in record {
        failed = λ e. absurd (six (sym status_is ∙ e));
        missing = λ e. absurd (seven (sym status_is ∙ e));
        doubted = λ e. absurd (eight (sym status_is ∙ e));
        unwritten = λ e. inr (nine (sym status_is ∙ e));
        only_failed = λ lt. absurd (elim (c.only_failed lt) [ inl x ↦ not_six x | inr x ↦ not_nine x ]);
        only_missing = λ lt. absurd (not_seven (c.only_missing lt));
        only_unwritten = λ lt. absurd (elim (c.only_unwritten lt) [ inl x ↦ not_nine x | inr x ↦ not_spent x ]);
      });
      named = λ name e. absurd (unnamed name e);
      complete = λ is_told can calm quiet. elim spent [
        | inl rose ↦ absurd (quiet rose)
        | inr e ↦ subst (λ (m : ℕ). Contains (done_statuses command) m) (sym (status_is ∙ e)) (spent_done command)
      ];
      refusal = λ is_told must calm. absurd (not_refused_and_done (ending_status before) (w.refusal is_told must calm) ends);
      sound_images = λ end. absurd (no_end (subst IsEnd status_is end));
      laws = laws;
    }

  -- ---- what the log is told

  -- a run that is reported is kept, and its report is what the log took
  reported_kept : (c : Command) (k : Kept) → reported c kept ≡ Some k → kept ≡ Some k
  reported_kept (Make cpus number) k is = absurd (let s : None ≡ Some k = is in cc)
  reported_kept c k is = is

  taken_report : (c : Command) (k : Kept) → reported c kept ≡ Some k → Takes (report_of k (asks_state c)) (heed log) (heed log_now) → TakesReport c k (heed log) (heed log_now)
  taken_report (Make cpus number) k is takes = absurd (let s : None ≡ Some k = is in cc)
  taken_report c k is takes = takes

  -- where none is reported the log took nothing
  no_report : (c : Command) (k : Kept) → kept ≡ Some k → reported c kept ≡ None → log_now ≡ log → TakesReport c k (heed log) (heed log_now)
  no_report (Make cpus number) k is none still = subst (λ (l : L). LeavesSink (heed log) (heed l)) (sym still) (record { told = refl; taken = λ told. refl })
  no_report c k is none still = absurd (let s : Some k ≡ None = sym is ∙ none in cc)

  run_told : (ending : Ending) (k : Kept) → reported command kept ≡ Some k → (IsRefusal before → ⊥) → TellsRun before k (asks_state command) ending (heed log) (heed log_now)
      → Does see watch heed command host host_now console console_now log log_now ending kept
  run_told ending k is fine (telling.told e takes same) =
      subst (λ (x : Ending). Does see watch heed command host host_now console console_now log log_now x kept) (sym e)
      (same_does (telling.ran k is fine (telling.told refl takes same)) (λ end. all_some _ kept (λ j at. one j at)))
    where
      one : (j : Kept) → kept ≡ Some j → TakesReport command j (heed log) (heed log_now)
      one j at =
          let e : k ≡ j = (let s : Some k ≡ Some j = sym (reported_kept command k is) ∙ at in cc) in
          subst (λ (x : Kept). TakesReport command x (heed log) (heed log_now)) e (taken_report command k is takes)
  run_told ending k is fine (telling.untold e part rose later) =
      worse_does k (reported_kept command k is) fine ending (telling.ran k is fine (telling.untold e part rose later)) 9 (ap ending_status e) untold_no_end
      (λ x. omega (arith, x)) (λ x. omega (arith, x)) (λ x. omega (arith, x)) (λ x. rose) untold_known (inl rose)
      (λ name f. let bad : how.Untold ≡ how.Refused (HostFault name) = sym e ∙ f in cc)
  run_told ending k is fine (telling.spent e line) =
      worse_does k (reported_kept command k is) fine ending (telling.ran k is fine (telling.spent e line)) 71 (ap ending_status e) (no_end_of Memory)
      (λ x. omega (arith, x)) (λ x. omega (arith, x)) (λ x. omega (arith, x)) (λ x. absurd (omega (arith, x))) spent_known (inr refl)
      (λ name f. let bad : how.Refused Memory ≡ how.Refused (HostFault name) = sym e ∙ f in cc)

  pub told_does : (ending : Ending) → Tells before (reported command kept) (asks_state command) ending log log_now (heed log) (heed log_now)
      → Does see watch heed command host host_now console console_now log log_now ending kept
  told_does ending (telling.refused r is e line) =
      subst (λ (x : Ending). Does see watch heed command host host_now console console_now log log_now x kept) (sym e)
      (same_does (telling.refused r is refl line) (λ end. absurd (refused_no_end before r is end)))
  told_does ending (telling.ran k is fine h) = run_told ending k is fine h
  told_does ending (telling.silent none fine e quiet) =
      subst (λ (x : Ending). Does see watch heed command host host_now console console_now log log_now x kept) (sym e)
      (same_does (telling.silent none fine refl quiet) (λ end. all_some _ kept (λ k at. no_report command k at none quiet)))
