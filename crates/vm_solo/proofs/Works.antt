-- The turn of a worker in a crew.
use Rattle.std.specs.Prelude.{Option, Some, None, replicate, slice_index_or, slice_set, map}
use Rattle.std.proofs.Common.{◌≡◌, ◌≢◌, ℕ, zero, suc, ◌+◌, ◌<◌, Bool, true, List, [], ◌∷◌, ◌++◌, length, refl, sym, ap, subst, ◌∙◌, inr, arith}
use Rattle.vm_law.specs.declared.journal.Signed.{Signed}
use Rattle.vm_host.specs.Views.{ImageView}
use Rattle.vm_state.specs.Machine.{cpu_count}
use Rattle.vm_state.specs.State.{State}
use Rattle.vm_table.specs.History.{after_all, last_state}
use Rattle.vm_table.specs.Rounds.{held_by, put_back}
use Rattle.vm_rounds.proofs.Passing.{put_of}
use Rattle.vm_rounds.proofs.Walking.{AreOf, chosen_of, of_append}
use Rattle.vm_board.specs.declared.actor.Did.{Did}
use Rattle.vm_board.specs.declared.actor.Did.TheVariants.{Starved}
use Rattle.vm_board.specs.Board.{IsBoard}
use Rattle.vm_board.specs.Turn.{TakesTurn, with_choice}
use Rattle.vm_board.specs.View.{BoardView}
use Rattle.vm_blkwork.specs.declared.outside.Out.{Out}
use Rattle.vm_blkwork.specs.declared.worker.Worker.{Worker}
use Rattle.vm_blkwork.specs.Fits.{WorkerFits}
use Rattle.vm_blkwork.specs.Outside.{CalledOnce, GoneOutside, IsCalledAs, IsWaiting}
use Rattle.vm_blkwork.specs.Turn.{answer_of, turn_of}
use Rattle.vm_control.specs.Fits.{ControlFits}
use Rattle.vm_solo.specs.Fits.{IsCrew, worker_at}
use Rattle.vm_solo.specs.Playing.{Continues, PlaysPass}
use Rattle.vm_solo.specs.Rounds.{answers_of, rounds_of}
use Rattle.vm_solo.specs.View.{CrewView}
use Rattle.vm_solo.proofs.Crews.{Moves, all_runners, one_worker}
use Rattle.vm_solo.proofs.Holders.{disk_of, held_is}
use Rattle.vm_solo.proofs.Shutting.{shut_stays}
use Rattle.vm_solo.proofs.PassTurns.{Answers, made, none, worker_turn}
use Rattle.vm_solo.proofs.Runs.{at_any, continues, control_stays, map_at, map_set, moves_by, moves_not, stayed, went_on}

-- ---- behind other elements of a list

pub behind_at : {X : Type 0} (n : ℕ) (x : X) (ys : List X) (k : ℕ) (d : X) → slice_index_or (replicate n x ++ ys) (n + k) d ≡ slice_index_or ys k d
behind_at n x ys k d = by n where
  by : (m : ℕ) → slice_index_or (replicate m x ++ ys) (m + k) d ≡ slice_index_or ys k d
  by zero = ap (λ j. slice_index_or ys j d) (let e : 0 + k ≡ k = omega arith in e)
  by (suc m) = ap (λ j. slice_index_or (x ∷ (replicate m x ++ ys)) j d) (let e : suc m + k ≡ suc (m + k) = omega arith in e) ∙ by m

pub behind_set : {X : Type 0} (n : ℕ) (x : X) (ys : List X) (k : ℕ) (y : X) → slice_set (replicate n x ++ ys) (n + k) y ≡ replicate n x ++ slice_set ys k y
behind_set n x ys k y = by n where
  by : (m : ℕ) → slice_set (replicate m x ++ ys) (m + k) y ≡ replicate m x ++ slice_set ys k y
  by zero = ap (λ j. slice_set ys j y) (let e : 0 + k ≡ k = omega arith in e)
  by (suc m) = ap (λ j. slice_set (x ∷ (replicate m x ++ ys)) j y) (let e : suc m + k ≡ suc (m + k) = omega arith in e) ∙ ap (λ zs. x ∷ zs) (by m)

-- ---- the Put that is due

none_back : (s : State) (p : ℕ) (o : Option ℕ) → put_back s p o None ≡ []
none_back s p None = refl
none_back s p (Some d) = refl

same_back : {I : Type 0} (s : State) (p d : ℕ) (o : Option (Out I)) → put_back s p (disk_of d o) (answer_of o) ≡ put_back s p (Some d) (answer_of o)
same_back s p d None = refl
same_back s p d (Some out) = refl

-- ---- the call outside

abbrev made_as : Option Bool → List Bool
made_as None = []
made_as (Some ok) = ok ∷ []

abbrev pub made_by : {I : Type 0} → Option (Out I) → List Bool
made_by None = []
made_by (Some out) = made_as out.answer

module _ {I : Type 0} (seen : I → ImageView) where
  -- what is out once the call was made answers the next of the calls
  call_answers : (d : ℕ) (old new : Option (Out I)) (calls : List Bool) → IsWaiting old → GoneOutside seen old new → Answers (made_by new ++ calls) (disk_of d new) (answer_of new) calls
  call_answers d None new calls w g = subst (λ (o : Option (Out I)). Answers (made_by o ++ calls) (disk_of d o) (answer_of o) calls) (sym g) none
  call_answers d (Some old) None calls w g = absurd g
  call_answers d (Some old) (Some new) calls w g = answered (subst (λ (a : Option Bool). CalledOnce seen old new a) w g) new.answer refl
    where
      answered : CalledOnce seen old new None → (b : Option Bool) → new.answer ≡ b → Answers (made_as new.answer ++ calls) (Some d) new.answer calls
      answered c None e = absurd (subst (λ (a : Option Bool). IsCalledAs seen old new a) e c)
      answered c (Some ok) e = subst (λ (a : Option Bool). Answers (made_as a ++ calls) (Some d) a calls) (sym e) (made d ok calls refl)

  -- ---- the turn

  pub record WorkerTurned (old : CrewView I) (new : BoardView I) (k : ℕ) (w0 w : Worker I) (did : Did) : Type 0 where
    pub there : k < length old.workers
    pub crew : IsCrew seen old
    pub board : IsBoard seen new
    pub is : w0 ≡ slice_index_or old.workers k w0
    pub numbers : (w.disk ≡ w0.disk) × (w.by ≡ w0.by)
    pub fits : WorkerFits seen new.start new.journal w
    pub leaves : Bool
    pub turn : TakesTurn old.board new leaves (turn_of old.board.state w0) did

  abbrev pub with_worker : CrewView I → BoardView I → ℕ → Worker I → CrewView I
  with_worker old new k w = record old { board = new; workers = slice_set old.workers k w }

  -- what is known of it, by its place
  record Known (old : CrewView I) (k : ℕ) (w0 : Worker I) : Type 0 where
    is : w0 ≡ worker_at old.workers k
    pass : w0.by ≡ 1 + length old.runners + k
    fits : WorkerFits seen old.board.start old.board.journal w0
    held : held_by old.board.state w0.by ≡ disk_of w0.disk w0.out
    above : cpu_count old.board.state.machine < w0.by

  known : (old : CrewView I) (new : BoardView I) (k : ℕ) (w0 w : Worker I) (did : Did) → WorkerTurned old new k w0 w did → Known old k w0
  known old new k w0 w did t =
      let is : w0 ≡ worker_at old.workers k = t.is ∙ at_any old.workers k w0 (record { disk = 0; by = 0; out = None }) t.there in
      let fits = subst (λ (x : Worker I). WorkerFits seen old.board.start old.board.journal x) (sym is) (t.crew.workers.fits k t.there) in
      let by : w0.by ≡ 1 + cpu_count old.board.state.machine + k = ap (λ (x : Worker I). x.by) is ∙ t.crew.workers.pass k t.there in
      let count = t.crew.runners.count in
      record {
        is = is;
        pass = omega (arith, by, count);
        fits = fits;
        held = ap (λ (s : State). held_by s w0.by) t.crew.board.last ∙ held_is seen old.board.start old.board.journal w0 fits;
        above = omega (arith, by);
      }

  -- what it adds, in the words of the rounds
  adds_as : (old : CrewView I) (k : ℕ) (w0 : Worker I) → Known old k w0 → turn_of old.board.state w0 ≡ with_choice old.board.state w0.by (put_back old.board.state w0.by (held_by old.board.state w0.by) (answer_of w0.out))
  adds_as old k w0 h =
      ap (λ (xs : List Signed). with_choice old.board.state w0.by xs)
      (sym (same_back old.board.state w0.by w0.disk w0.out) ∙ ap (λ (o : Option ℕ). put_back old.board.state w0.by o (answer_of w0.out)) (sym h.held))

  pub worker_moves : (old : CrewView I) (new : BoardView I) (k : ℕ) (w0 w : Worker I) (did : Did) → WorkerTurned old new k w0 w did → did ≢ Starved → Moves seen old.board new w0.by (turn_of old.board.state w0)
  worker_moves old new k w0 w did t n =
      let h = known old new k w0 w did t in
      let back = put_back old.board.state w0.by (held_by old.board.state w0.by) (answer_of w0.out) in
      moves_by seen old.board new w0.by (turn_of old.board.state w0) t.crew.board t.board (went_on old.board new t.leaves (turn_of old.board.state w0) did n t.turn)
      (subst (λ (xs : List Signed). AreOf w0.by xs) (sym (adds_as old k w0 h))
      (of_append w0.by back _ (put_of old.board.state w0.by (held_by old.board.state w0.by) (answer_of w0.out)) (chosen_of (after_all old.board.state back) w0.by)))

  pub worker_keeps : (old : CrewView I) (new : BoardView I) (k : ℕ) (w0 w w2 : Worker I) (did : Did) (xs : List Signed) → WorkerTurned old new k w0 w did → Moves seen old.board new w0.by xs → w2.by ≡ w.by → WorkerFits seen new.start new.journal w2
      → IsCrew seen (with_worker old new k w2)
  worker_keeps old new k w0 w w2 did xs t m b f =
      let h = known old new k w0 w did t in
      let count = t.crew.runners.count in
      let pass = h.pass in
      let here : w0.by ≡ 1 + cpu_count old.board.state.machine + k = omega (arith, pass, count) in
      record {
        board = t.board;
        control = subst (λ (s : State). ControlFits s old.control) (sym m.state) (control_stays old.board.state xs old.control t.crew.control);
        runners = all_runners seen old.board new w0.by xs old.runners m (inr h.above) t.crew.runners;
        workers = one_worker seen old.board new xs old.workers k w2 (subst (λ (p : ℕ). Moves seen old.board new p xs) here m) t.there (b ∙ t.numbers.1 ∙ ap (λ (x : Worker I). x.by) h.is) f t.crew.workers;
        fault = t.crew.fault;
      }

  pub worker_plays : (old : CrewView I) (new : BoardView I) (k : ℕ) (w0 w w2 : Worker I) (did : Did) → WorkerTurned old new k w0 w did → did ≢ Starved → IsWaiting w.out → GoneOutside seen w.out w2.out → w2.by ≡ w.by → w2.disk ≡ w.disk
      → WorkerFits seen new.start new.journal w2 → PlaysPass (1 + length old.runners + k) old (with_worker old new k w2)
  worker_plays old new k w0 w w2 did t n waits gone by disk fits =
      let h = known old new k w0 w did t in
      let p = 1 + length old.runners + k in
      let s = old.board.state in
      let goes = went_on old.board new t.leaves (turn_of s w0) did n t.turn in
      let same : w0.by ≡ p = h.pass in
      let answers = map (λ (x : Worker I). answer_of x.out) old.workers in
      let there : answer_of w0.out ≡ slice_index_or (answers_of (length old.runners) old.workers) p None =
      ap (λ (x : Worker I). answer_of x.out) h.is ∙ sym (map_at (λ (x : Worker I). answer_of x.out) old.workers k (record { disk = 0; by = 0; out = None }))
      ∙ sym (behind_at (1 + length old.runners) None answers k None) in
      let adds : turn_of s w0 ≡ with_choice s p (put_back s p (held_by s p) (slice_index_or (answers_of (length old.runners) old.workers) p None)) =
      adds_as old k w0 h ∙ ap (λ (q : ℕ). with_choice s q (put_back s q (held_by s q) (answer_of w0.out))) same ∙ ap (λ (a : Option Bool). with_choice s p (put_back s p (held_by s p) a)) there in
      let now : held_by new.state p ≡ disk_of w2.disk w2.out =
      ap (λ (x : State). held_by x p) t.board.last ∙ ap (λ (q : ℕ). held_by (last_state new.start new.journal) q) (sym (by ∙ t.numbers.1 ∙ same)) ∙ held_is seen new.start new.journal w2 fits in
      let above = h.above in
      record {
        made = made_by w2.out;
        plays = λ calls. worker_turn (rounds_of old (made_by w2.out ++ calls)) (rounds_of (with_worker old new k w2) calls) p (answer_of w2.out) (omega (arith, above, same))
            (goes.state ∙ ap (λ (xs : List Signed). after_all s xs) adds)
            (goes.journal ∙ ap (λ (xs : List Signed). old.board.journal ++ xs) adds)
            refl
            (ap (λ (xs : List (Option Bool)). replicate (1 + length old.runners) None ++ xs) (map_set (λ (x : Worker I). answer_of x.out) old.workers k w2) ∙ sym (behind_set (1 + length old.runners) None answers k (answer_of w2.out)))
            (subst (λ (o : Option ℕ). Answers (made_by w2.out ++ calls) o (answer_of w2.out) calls) (sym now) (call_answers w2.disk w.out w2.out calls waits gone));
      }

  -- ---- what is known after the call of its turn

  pub starved_keeps : (old : CrewView I) (new : BoardView I) (k : ℕ) (w0 w : Worker I) (did : Did) → WorkerTurned old new k w0 w did → did ≡ Starved → IsCrew seen (with_worker old new k w)
  starved_keeps old new k w0 w did t e =
      worker_keeps old new k w0 w w did [] t (moves_not seen old.board new w0.by t.crew.board t.board (stayed old.board new t.leaves (turn_of old.board.state w0) did e t.turn)) refl t.fits

  pub fed_keeps : (old : CrewView I) (new : BoardView I) (k : ℕ) (w0 w w2 : Worker I) (did : Did) → WorkerTurned old new k w0 w did → did ≢ Starved → (w2.disk ≡ w.disk) × (w2.by ≡ w.by) → WorkerFits seen new.start new.journal w2 → IsCrew seen (with_worker old new k w2)
  fed_keeps old new k w0 w w2 did t n same f = worker_keeps old new k w0 w w2 did (turn_of old.board.state w0) t (worker_moves old new k w0 w did t n) same.1 f

  pub fed_continues : (old : CrewView I) (new : BoardView I) (k : ℕ) (w0 w : Worker I) (did : Did) → WorkerTurned old new k w0 w did → did ≢ Starved → Continues old.board new
  fed_continues old new k w0 w did t n = continues old.board new (turn_of old.board.state w0) (went_on old.board new t.leaves (turn_of old.board.state w0) did n t.turn)

  pub fed_plays : (old : CrewView I) (new : BoardView I) (k : ℕ) (w0 w w2 : Worker I) (did : Did) → WorkerTurned old new k w0 w did → did ≢ Starved → IsWaiting w.out → GoneOutside seen w.out w2.out → (w2.disk ≡ w.disk) × (w2.by ≡ w.by)
      → WorkerFits seen new.start new.journal w2 → PlaysPass (1 + length old.runners + k) old (with_worker old new k w2)
  fed_plays old new k w0 w w2 did t n waits gone same f = worker_plays old new k w0 w w2 did t n waits gone same.1 same.0 f

  pub fed_shut : (old : CrewView I) (new : BoardView I) (k : ℕ) (w0 w : Worker I) (did : Did) → WorkerTurned old new k w0 w did → did ≢ Starved → new.state.closed ≡ true → new.state ≡ old.board.state
  fed_shut old new k w0 w did t n =
      let above = (known old new k w0 w did t).above in
      shut_stays seen old.board new w0.by _ (omega (arith, above)) (worker_moves old new k w0 w did t n)
