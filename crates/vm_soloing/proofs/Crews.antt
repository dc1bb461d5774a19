-- A crew that was played: what it gives back, and the run that its parts are.
use Rattle.std.proofs.Common.{◌≡◌, ◌≢◌, ℕ, ◌<◌, ◌≤◌, true, false, List, [], length, Option, Some, None, Ok, Err, IfSome, IfNone, IsSome, refl, sym, subst, ◌∙◌, ap, arith}
use Rattle.vm_host.specs.Counts.{Rose}
use Rattle.vm_host.specs.Leaves.{LeavesHost, Takes, TakesSome}
use Rattle.vm_host.specs.Told.{WhereTold}
use Rattle.vm_host.specs.Views.{HostView, ImageView, SinkView}
use Rattle.vm_board.specs.Board.{IsBoard}
use Rattle.vm_board.specs.Homes.{has_failed}
use Rattle.vm_board.specs.View.{BoardView}
use Rattle.vm_control.specs.declared.control.OutFault.TheVariants as fault
use Rattle.vm_law.specs.declared.journal.Signed.{Signed}
use Rattle.vm_laws.proofs.Sounding.{sound_after}
use Rattle.vm_outcome.specs.declared.outcome.Ending.{Ending}
use Rattle.vm_outcome.specs.declared.outcome.Ending.TheVariants as how
use Rattle.vm_outcome.specs.declared.outcome.Kept.{Kept}
use Rattle.vm_outcome.specs.Causes.{HasCauses}
use Rattle.vm_outcome.specs.Ends.{ending_status}
use Rattle.vm_outcome.specs.Outside.{Outside, outside}
use Rattle.vm_outcome.proofs.Frames.{causes_after, no_causes}
use Rattle.vm_solo.specs.Home.{AreAllHome}
use Rattle.vm_state.specs.declared.run_state.Why.TheVariants as why
use Rattle.vm_state.specs.declared.start.Start.{Start}
use Rattle.vm_state.specs.Start.{IsSound, boot}
use Rattle.vm_state.specs.State.{State}
use Rattle.vm_status.specs.declared.refusal.Refusal.TheVariants.{Memory}
use Rattle.vm_table.specs.History.{IsLegal, last_state}
use Rattle.vm_table.specs.Turns.{IsOrderly}
use Rattle.vm_table.specs.View.{View}
use Rattle.vm_soloing.specs.Answers.{GoesBy, IsCutBy, Way}
use Rattle.vm_soloing.specs.Closing.{Closes, FollowAll, HasJournalCauses}
use Rattle.vm_soloing.specs.Disks.{IsOwn}
use Rattle.vm_soloing.specs.Keeping.{IsRunFrom, RunsFrom}
use Rattle.vm_soloing.proofs.Moving.{Quiet, runs_from, runs_moved}
use Rattle.vm_soloing.proofs.Plans.{drives_count}
use Rattle.vm_soloing.proofs.Runs.{End, IsPlayed, the_state}

-- ---- what a crew gives back

module _ {I : Type 0} (seen : I → ImageView) (b : BoardView I) (start : Start) (history : List Signed) (images : List (Option I))
    (is_start : start ≡ b.start) (is_history : history ≡ b.journal) (is_images : images ≡ b.images) where
  -- an image, or its place, for each disk
  pub parts_count : IsBoard seen b → length images ≡ length start.plan.disks
  parts_count h =
      ap length is_images ∙ h.homes.count ∙ (sound_after b.start b.journal h.sound h.legal).images.count ∙ drives_count b.start b.journal h.sound
      ∙ ap (λ (s : Start). length s.plan.disks) (sym is_start)

  pub parts_home : AreAllHome seen b.start b.journal b.images → AreAllHome seen start history images
  parts_home h =
      subst (λ (s : Start). AreAllHome seen s history images) (sym is_start)
      (subst (λ (j : List Signed). AreAllHome seen b.start j images) (sym is_history)
      (subst (λ (l : List (Option I)). AreAllHome seen b.start b.journal l) (sym is_images) h))

-- ---- the run of a crew that was played

module _ {I : Type 0} (way : Way) (seen : I → ImageView) (first : Start) (journal : Option (List ℕ)) (o : Outside) (b : BoardView I) (run : View) (end : End) (ending : Ending) where
  -- what the end of the run left
  pub record Left (start : Start) (history : List Signed) : Type 0 where
    pub closes : Closes o.host o.host_now journal history run.state end ending
    pub causes : HasJournalCauses (ending_status ending) o.host o.host_now
    pub host : LeavesHost (IsOwn start.plan journal) o.host o.host_now
    pub disks : end ≢ Err fault.Memory → WhereTold o.host.tells (FollowAll o.host_now.file start history)
    pub failed : end ≢ Err fault.Memory → (d : ℕ) → d < length start.plan.disks → has_failed d history ≡ true → Rose o.host.image_faults o.host_now.image_faults

  -- what its rounds left
  pub record Rounded : Type 0 where
    pub board : IsBoard seen b
    pub start : b.start ≡ first
    pub closed : end ≢ Err fault.Memory → b.state.closed ≡ true
    pub went : end ≡ Ok tt → GoesBy way first b.journal
    pub no_fault : end ≡ Ok tt → b.state.ended ≢ Some why.Outside
    pub part : TakesSome b.state.console o.console o.console_now
    pub all : end ≡ Ok tt → Takes b.state.console o.console o.console_now
    pub quiet : end ≡ Ok tt → o.console_now.faults ≡ o.console.faults
    pub cause : end ≡ Err fault.Sink → Rose o.console.faults o.console_now.faults
    pub later : o.console.faults ≤ o.console_now.faults
    pub cut : end ≡ Err fault.Sink → IsCutBy way first b.journal b.state.ended
    pub only : end ≢ Err fault.Failed

  board_run : Rounded → run.state ≡ b.state → Left b.start b.journal → RunsFrom way first journal o ending (record { start = b.start; journal = b.journal; run = run })
  board_run p same l =
      let k : Kept = record { start = b.start; journal = b.journal; run = run } in
      let state : b.state ≡ the_state k = p.board.last in
      let last : run.state ≡ the_state k = same ∙ state in
      let played : IsPlayed way o k end = record {
        legal = p.board.legal;
        closed = λ e. ap (λ (s : State). s.closed) (sym state) ∙ p.closed e;
        all = λ e. subst (λ (s : State). Takes s.console o.console o.console_now) state (p.all e);
        cut = λ e. subst (λ (s : State). IsCutBy way b.start b.journal s.ended) state (subst (λ (x : Start). IsCutBy way x b.journal b.state.ended) (sym p.start) (p.cut e));
        no_fault = λ e n. p.no_fault e (ap (λ (s : State). s.ended) state ∙ n);
        went = λ e. subst (λ (x : Start). GoesBy way x b.journal) (sym p.start) (p.went e);
        only = p.only;
      } in
      runs_from way first journal o k end ending
      (record { start = p.start; run = record { sound = p.board.sound; legal = p.board.legal; last = last }; orderly = p.board.orderly })
      played
      (subst (λ (s : State). Closes o.host o.host_now journal b.journal s end ending) last l.closes)
      l.causes p.later p.cause p.quiet
      (subst (λ (x : Start). LeavesHost (IsOwn x.plan journal) o.host o.host_now) p.start l.host)
      l.disks l.failed
      (subst (λ (s : State). TakesSome s.console o.console o.console_now) state p.part)

  pub crew_runs : (start : Start) (history : List Signed) → Rounded → run.state ≡ b.state → start ≡ b.start → history ≡ b.journal → Left start history
      → RunsFrom way first journal o ending (record { start = start; journal = history; run = run })
  crew_runs start history p same is_start is_history =
      subst (λ (x : Start). Left x history → RunsFrom way first journal o ending (record { start = x; journal = history; run = run })) (sym is_start)
      (subst (λ (j : List Signed). Left b.start j → RunsFrom way first journal o ending (record { start = b.start; journal = j; run = run })) (sym is_history) (board_run p same))

-- ---- a start of which nothing was run

pub begun_run : (first : Start) (k : Kept) → IsSound first → k.start ≡ first → k.journal ≡ [] → k.run.state ≡ boot first → IsRunFrom first k
begun_run first k sound same none state = record {
  start = same;
  run = record {
    sound = subst (λ (s : Start). IsSound s) (sym same) sound;
    legal = subst (λ (j : List Signed). IsLegal k.start j) (sym none) refl;
    last = state ∙ ap boot (sym same) ∙ sym (ap (λ (j : List Signed). last_state k.start j) none);
  };
  orderly = subst (λ (j : List Signed). IsOrderly k.start j) (sym none) tt;
}

-- ---- what is kept

pub some_kept : (P : Kept → Type 0) (kept : Option Kept) → IsSome kept → IfSome kept P → (k : Kept) × (kept ≡ Some k) × P k
some_kept P None some h = absurd (let e : false ≡ true = some in cc)
some_kept P (Some k) some h = (k, refl, h)

pub no_none : (P : Type 0) (kept : Option Kept) → IsSome kept → IfNone kept P
no_none P None some = absurd (let e : false ≡ true = some in cc)
no_none P (Some k) some = tt

pub none_of : (P : Type 0) (kept : Option Kept) → IfNone kept P → kept ≡ None → P
none_of P None h e = h
none_of P (Some k) h e = absurd (let x : Some k ≡ None = e in cc)

pub if_both : (P Q : Kept → Type 0) (kept : Option Kept) → ((k : Kept) → P k → Q k) → IfSome kept P → IfSome kept Q
if_both P Q None f h = tt
if_both P Q (Some k) f h = f k h

-- ---- a run whose images were opened before

module _ (way : Way) (first : Start) (journal : Option (List ℕ)) (old mid new : HostView) (console console_now : SinkView) (q : Quiet first.plan journal old mid) (ending : Ending) where
  pub opened_runs : (kept : Option Kept) → IfSome kept (λ k. RunsFrom way first journal (outside mid new console console_now) ending k)
      → IfSome kept (λ k. RunsFrom way first journal (outside old new console console_now) ending k)
  opened_runs None h = tt
  opened_runs (Some k) h = runs_moved way first journal old mid new console console_now ending k q h

  pub opened_causes : (kept : Option Kept) → IfSome kept (λ k. RunsFrom way first journal (outside mid new console console_now) ending k)
      → IfNone kept (ending ≡ how.Refused Memory) → (kept ≡ None → new ≡ mid) → IfNone kept (console_now ≡ console) → HasCauses (ending_status ending) old new console console_now
  opened_causes None h spent still silent =
      let e : ending_status ending ≡ 71 = ap ending_status spent in
      causes_after (ending_status ending) old mid new console console_now q.faults q.misses
      (subst (λ (x : SinkView). HasCauses (ending_status ending) mid new console x) (sym silent)
      (subst (λ (x : HostView). HasCauses (ending_status ending) mid x console console) (sym (still refl))
      (no_causes (ending_status ending) mid console (λ s. omega (arith, e, s)) (λ s. omega (arith, e, s)) (λ s. omega (arith, e, s)))))
  opened_causes (Some k) h spent still silent = (runs_moved way first journal old mid new console console_now ending k q h).causes

  pub opened_host : (kept : Option Kept) → IfSome kept (λ k. RunsFrom way first journal (outside mid new console console_now) ending k)
      → (kept ≡ None → new ≡ mid) → LeavesHost (IsOwn first.plan journal) old new
  opened_host None h still = subst (λ (x : HostView). LeavesHost (IsOwn first.plan journal) old x) (sym (still refl)) q.leaves
  opened_host (Some k) h still = (runs_moved way first journal old mid new console console_now ending k q h).host
