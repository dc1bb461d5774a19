-- A run after other calls on its host: what those leave alone.
use Rattle.std.proofs.Common.{◌≡◌, ◌≢◌, ◌⊎◌, inl, inr, ℕ, zero, suc, ◌<◌, ◌≤◌, true, List, [], length, Option, Result, Ok, Err, refl, sym, subst, ◌∙◌, ap, arith}
use Rattle.std.proofs.lemmas.Bool.{cases_lt}
use Rattle.vm_host.specs.Counts.{Rose}
use Rattle.vm_host.specs.Leaves.{LeavesHost, LeavesSink, ReadsHost, TakesSome, WritesFiles}
use Rattle.vm_host.specs.Told.{WhereTold}
use Rattle.vm_host.specs.Views.{HostView, SinkView}
use Rattle.vm_host.proofs.Frames.{leaves_is_some, leaves_on, reads_writes, writes_among, writes_leaves}
use Rattle.vm_board.specs.Homes.{has_failed}
use Rattle.vm_control.specs.declared.control.OutFault.TheVariants as fault
use Rattle.vm_law.specs.declared.plan.Plan.{Plan}
use Rattle.vm_outcome.specs.declared.outcome.Ending.{Ending}
use Rattle.vm_outcome.specs.declared.outcome.Ending.TheVariants as how
use Rattle.vm_outcome.specs.declared.outcome.Kept.{Kept}
use Rattle.vm_outcome.specs.Causes.{HasCauses}
use Rattle.vm_outcome.specs.Ends.{ending_status}
use Rattle.vm_outcome.specs.Outside.{IsEnd, Outside, outside, sent_in}
use Rattle.vm_outcome.proofs.Frames.{causes_after}
use Rattle.vm_soloing.specs.Answers as answer
use Rattle.vm_soloing.specs.Answers.{HasRun, IsSaved, RunAnswers, Way}
use Rattle.vm_soloing.specs.Closing.{Closes, FollowAll, HasJournalCauses}
use Rattle.vm_soloing.specs.Disks.{IsOwn}
use Rattle.vm_soloing.specs.Keeping.{IsRunFrom, RunsFrom}
use Rattle.vm_soloing.proofs.Closings.{saved_moved}
use Rattle.vm_soloing.proofs.Runs.{End, IsPlayed, closed_where, closes_named, end_not_spent, run_answers, run_causes, the_state}
use Rattle.vm_start.specs.Causes.{HasReadCauses, result_status}
use Rattle.vm_start.specs.Images.{IsDiskOf, path_of}
use Rattle.vm_state.specs.declared.start.Start.{Start}
use Rattle.vm_status.specs.Lines.{status_of}
use Rattle.vm_status.specs.declared.refusal.Refusal.{Refusal}
use Rattle.vm_status.specs.declared.refusal.Refusal.TheVariants.{HostFault, Memory}

-- ---- a run that was played

pub runs_from : (way : Way) (first : Start) (journal : Option (List ℕ)) (o : Outside) (k : Kept) (end : End) (ending : Ending)
    → IsRunFrom first k → IsPlayed way o k end → Closes o.host o.host_now journal k.journal (the_state k) end ending → HasJournalCauses (ending_status ending) o.host o.host_now
    → o.console.faults ≤ o.console_now.faults → (end ≡ Err fault.Sink → Rose o.console.faults o.console_now.faults) → (end ≡ Ok tt → o.console_now.faults ≡ o.console.faults)
    → LeavesHost (IsOwn first.plan journal) o.host o.host_now
    → (end ≢ Err fault.Memory → WhereTold o.host.tells (FollowAll o.host_now.file k.start k.journal))
    → (end ≢ Err fault.Memory → (d : ℕ) → d < length k.start.plan.disks → has_failed d k.journal ≡ true → Rose o.host.image_faults o.host_now.image_faults)
    → TakesSome (sent_in k) o.console o.console_now → RunsFrom way first journal o ending k
runs_from way first journal o k end ending from played closes causes later cause quiet host disks failed part = record {
  from = from;
  answers = run_answers way o journal k end ending played closes;
  causes = run_causes way o journal k ending causes later end played closes cause quiet;
  named = λ name e. closes_named o.host o.host_now journal k.journal (the_state k) end ending name closes e;
  host = host;
  disks = λ is. disks (closed_where o.host o.host_now journal k.journal (the_state k) end ending closes (end_not_spent (ending_status ending) is));
  failed = λ is. failed (closed_where o.host o.host_now journal k.journal (the_state k) end ending closes (end_not_spent (ending_status ending) is));
  console = part;
}

-- ---- other calls before

-- no count rose, and only files of the run changed
pub record Quiet (plan : Plan) (journal : Option (List ℕ)) (old mid : HostView) : Type 0 where
  pub faults : mid.faults ≡ old.faults
  pub misses : mid.misses ≡ old.misses
  pub image_faults : mid.image_faults ≡ old.image_faults
  pub leaves : LeavesHost (IsOwn plan journal) old mid

pub quiet_counts : {X : Type 0} (x : X) (old mid : HostView) → HasReadCauses (Ok x) old mid → (mid.faults ≡ old.faults) × (mid.misses ≡ old.misses)
quiet_counts x old mid h =
    let faults : mid.faults ≤ old.faults = elim (cases_lt old.faults mid.faults) [ inl lt ↦ absurd (omega (arith, h.only_failed lt)) | inr le ↦ le ] in
    let misses : mid.misses ≤ old.misses = elim (cases_lt old.misses mid.misses) [ inl lt ↦ absurd (omega (arith, h.only_missing lt)) | inr le ↦ le ] in
    (omega (arith, faults, h.later.0), omega (arith, misses, h.later.1))

pub quiet_reads : {X : Type 0} (x : X) (plan : Plan) (journal : Option (List ℕ)) (old mid : HostView) → HasReadCauses (Ok x) old mid → ReadsHost old mid → Quiet plan journal old mid
quiet_reads x plan journal old mid h r = (let c = quiet_counts x old mid h in record {
  faults = c.0;
  misses = c.1;
  image_faults = r.image_faults;
  leaves = writes_leaves old mid (IsOwn plan journal) (reads_writes old mid (IsOwn plan journal) r);
})

pub disks_own : (plan : Plan) (journal : Option (List ℕ)) (old mid : HostView) → WritesFiles (IsDiskOf plan) old mid → LeavesHost (IsOwn plan journal) old mid
disks_own plan journal old mid w = writes_leaves old mid (IsOwn plan journal) (writes_among old mid (IsDiskOf plan) (IsOwn plan journal) (λ q d. inl d) w)

pub quiet_opens : {X : Type 0} (x : X) (plan : Plan) (journal : Option (List ℕ)) (old mid : HostView) → HasReadCauses (Ok x) old mid → WritesFiles (IsDiskOf plan) old mid → Quiet plan journal old mid
quiet_opens x plan journal old mid h w = (let c = quiet_counts x old mid h in record {
  faults = c.0;
  misses = c.1;
  image_faults = w.image_faults;
  leaves = disks_own plan journal old mid w;
})

run_moved : (way : Way) (old mid new : HostView) (console console_now : SinkView) (journal : Option (List ℕ)) (k : Kept) (ending : Ending) → mid.tells ≡ old.tells
    → RunAnswers way (outside mid new console console_now) journal k ending → RunAnswers way (outside old new console console_now) journal k ending
run_moved way old mid new console console_now journal k ending same (answer.unopened none still d within e) = answer.unopened none still d within e
run_moved way old mid new console console_now journal k ending same (answer.ran h w found e saved) =
    answer.ran (record { went = h.went; closed = h.closed; no_fault = h.no_fault; wrote = h.wrote }) w found e (saved_moved old mid new journal k.journal same saved)
run_moved way old mid new console console_now journal k ending same (answer.unsaved h name named e) =
    answer.unsaved (record { went = h.went; closed = h.closed; no_fault = h.no_fault; wrote = h.wrote }) name named e
run_moved way old mid new console console_now journal k ending same (answer.unwritten closed cut e) = answer.unwritten closed cut e
run_moved way old mid new console console_now journal k ending same (answer.spent e) = answer.spent e

pub runs_moved : (way : Way) (first : Start) (journal : Option (List ℕ)) (old mid new : HostView) (console console_now : SinkView) (ending : Ending) (k : Kept)
    → Quiet first.plan journal old mid → RunsFrom way first journal (outside mid new console console_now) ending k → RunsFrom way first journal (outside old new console console_now) ending k
runs_moved way first journal old mid new console console_now ending k q r = record {
  from = r.from;
  answers = run_moved way old mid new console console_now journal k ending q.leaves.told r.answers;
  causes = causes_after (ending_status ending) old mid new console console_now q.faults q.misses r.causes;
  named = r.named;
  host = leaves_on old mid new (IsOwn first.plan journal) q.leaves r.host;
  disks = λ is told. r.disks is (q.leaves.told ∙ told);
  failed = λ is d within f. subst (λ (n : ℕ). Rose n new.image_faults) q.image_faults (r.failed is d within f);
  console = r.console;
}

-- ---- a disk that wasn't lent

read_causes : {X : Type 0} (result : Result X Refusal) (r : Refusal) (old new : HostView) (console : SinkView) → result ≡ Err r → HasReadCauses result old new → (status_of r ≡ 9 → ⊥)
    → HasCauses (status_of r) old new console console
read_causes result r old new console is h other =
    let s : result_status result ≡ status_of r = ap result_status is in record {
      failed = λ e. h.failed (s ∙ e);
      missing = λ e. h.missing (s ∙ e);
      unwritten = λ e. absurd (other e);
      only_failed = λ lt. inl (sym s ∙ h.only_failed lt);
      only_missing = λ lt. sym s ∙ h.only_missing lt;
      only_unwritten = λ lt. absurd (omega (arith, lt));
      later = (h.later.0, h.later.1, omega arith);
    }

-- the refusal is want of memory, or the host's at this disk's file
abbrev pub IsUnlent : Start → Refusal → Type 0
IsUnlent start r = (r ≡ Memory) ⊎ ((d : ℕ) × (d < length start.plan.disks) × (r ≡ HostFault (path_of start.plan d)))

unlent_status : (start : Start) (r : Refusal) → IsUnlent start r → (status_of r ≡ 9 → ⊥) × (IsEnd (status_of r) → ⊥)
unlent_status start r (inl e) = (λ n. omega (arith, sym (ap status_of e) ∙ n), λ is. no_end (subst IsEnd (ap status_of e) is)) where
  no_end : IsEnd 71 → ⊥
  no_end h = end_not_spent 71 h refl
unlent_status start r (inr (d, within, e)) = (λ n. omega (arith, sym (ap status_of e) ∙ n), λ is. six (subst IsEnd (ap status_of e) is)) where
  six : IsEnd 6 → ⊥
  six (zero, l, e) = omega (arith, e)
  six (suc zero, l, e) = omega (arith, e)
  six (suc (suc zero), l, e) = omega (arith, e)
  six (suc (suc (suc zero)), l, e) = omega (arith, e)
  six (suc (suc (suc (suc k))), l, e) = omega (arith, l)

as_ending : (a b : Refusal) → a ≡ b → how.Refused a ≡ how.Refused b
as_ending a b e = ap {A = Refusal} {B = Ending} (λ r. how.Refused r) e

unlent_answers : (way : Way) (o : Outside) (journal : Option (List ℕ)) (k : Kept) (first : Start) (r : Refusal) → k.start ≡ first → k.journal ≡ [] → LeavesSink o.console o.console_now → IsUnlent first r → RunAnswers way o journal k (how.Refused r)
unlent_answers way o journal k first r same none still (inl e) = answer.spent (as_ending _ _ e)
unlent_answers way o journal k first r same none still (inr (d, within, e)) =
    answer.unopened none still d (subst (λ (s : Start). d < length s.plan.disks) (sym same) within) (as_ending _ _ (e ∙ ap (λ (s : Start). HostFault (path_of s.plan d)) (sym same)))

pub unlent_runs : {X : Type 0} (way : Way) (first : Start) (journal : Option (List ℕ)) (old new : HostView) (console : SinkView) (k : Kept) (result : Result X Refusal) (r : Refusal) (ending : Ending)
    → ending ≡ how.Refused r → IsRunFrom first k → k.journal ≡ [] → result ≡ Err r → IsUnlent first r → HasReadCauses result old new → WritesFiles (IsDiskOf first.plan) old new
    → RunsFrom way first journal (outside old new console console) ending k
unlent_runs way first journal old new console k result r ending ends from none is un causes writes =
    let s = unlent_status first r un in
    let still : LeavesSink console console = record { told = refl; taken = λ _. refl } in
    subst (λ (x : Ending). RunsFrom way first journal (outside old new console console) x k) (sym ends)
    (record {
      from = from;
      answers = unlent_answers way (outside old new console console) journal k first r from.start none still un;
      causes = read_causes result r old new console is causes s.0;
      named = λ name e. causes.named name (is ∙ ap {A = Refusal} {B = Result _ Refusal} (λ x. Err x) (inner r (HostFault name) e));
      host = disks_own first.plan journal old new writes;
      disks = λ h. absurd (s.1 h);
      failed = λ h. absurd (s.1 h);
      console = leaves_is_some console console (sent_in k) still;
    }) where
      inner : (a b : Refusal) → how.Refused a ≡ how.Refused b → a ≡ b
      inner a b e = cc
