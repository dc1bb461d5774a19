-- A new crew fits its board, and stands at the first round.
use Rattle.std.specs.Prelude.{Option, None, replicate, slice_index_or, map}
use Rattle.std.proofs.Common.{◌≡◌, ℕ, zero, suc, ◌+◌, ◌<◌, Bool, true, false, List, [], ◌∷◌, ◌++◌, length, refl, sym, ap, subst, ◌∙◌, arith}
use Rattle.std.proofs.lemmas.List.{replicate-append-replicate}
use Rattle.vm_host.specs.Views.{ImageView}
use Rattle.vm_state.specs.declared.image.Holder.{Holder}
use Rattle.vm_state.specs.declared.start.Start.{Start}
use Rattle.vm_state.specs.Machine.{code_of, cpu_count}
use Rattle.vm_state.specs.Requests.{is_worker, pass_count}
use Rattle.vm_state.specs.Start.{boot, boot_image, first_state}
use Rattle.vm_state.specs.State.{State, image_at, no_image}
use Rattle.vm_table.specs.History.{last_state}
use Rattle.vm_table.specs.Rounds.{first_round, is_its, no_lease}
use Rattle.vm_board.specs.Board.{IsBoard}
use Rattle.vm_board.specs.View.{BoardView}
use Rattle.vm_control.specs.View.{ControlView, new_control}
use Rattle.vm_control.proofs.Growing.{new_fits}
use Rattle.vm_blkwork.specs.Fits.{HasOut, WorkerFits}
use Rattle.vm_blkwork.specs.Turn.{answer_of}
use Rattle.vm_blkwork.specs.declared.outside.Out.{Out}
use Rattle.vm_blkwork.specs.declared.worker.Worker.{Worker}
use Rattle.vm_vcpu.specs.Fits.{RunnerFits}
use Rattle.vm_vcpu.specs.New.{new_runner}
use Rattle.vm_vcpu.specs.View.{RunnerView, lease_now}
use Rattle.vm_vcpu.proofs.Beginning.{new_fit}
use Rattle.vm_solo.specs.Fits.{IsCrew, worker_at}
use Rattle.vm_solo.specs.New.{AreNewActors}
use Rattle.vm_solo.specs.Rounds.{IsNew, rounds_of}
use Rattle.vm_solo.specs.View.{CrewView}
use Rattle.vm_solo.proofs.PassTurns.{same_rounds}

map_same : {X Y : Type 0} (f : X → Y) (y : Y) (d : X) (xs : List X) → ((k : ℕ) → k < length xs → f (slice_index_or xs k d) ≡ y) → map f xs ≡ replicate (length xs) y
map_same f y d [] h = refl
map_same f y d (x ∷ xs) h = ap (λ z. z ∷ map f xs) (h 0 (omega arith)) ∙ ap (λ zs. y ∷ zs) (map_same f y d xs (λ k l. h (suc k) (omega (arith, l))))

-- no image is out
none_out : (disks : List (List ℕ)) (d : ℕ) → (slice_index_or (map boot_image disks) d no_image).holder ≡ None
unfolding no_image
none_out [] d = refl
none_out (x ∷ xs) zero = refl
none_out (x ∷ xs) (suc d) = none_out xs d

boot_home : (start : Start) (d : ℕ) → (image_at (boot start) d).holder ≡ None
unfolding first_state
boot_home start d = none_out start.disks d

module _ {I : Type 0} (seen : I → ImageView) where
  abbrev pub crew_of : BoardView I → List RunnerView → List (Worker I) → CrewView I
  crew_of b rs ws = record { board = b; control = new_control; runners = rs; workers = ws; fault = None }

  pub record Begins (b : BoardView I) (rs : List RunnerView) (ws : List (Worker I)) : Type 0 where
    pub board : IsBoard seen b
    pub state : b.state ≡ boot b.start
    pub journal : b.journal ≡ []
    pub fed : b.starved ≡ false
    pub actors : AreNewActors b.state.machine rs ws

  runner_fits : (b : BoardView I) (rs : List RunnerView) (ws : List (Worker I)) (i : ℕ) → Begins b rs ws → i < cpu_count b.state.machine → RunnerFits b.state (new_runner i (1 + i) (code_of b.state.machine))
  runner_fits b rs ws i h l =
      subst (λ (s : State). RunnerFits s (new_runner i (1 + i) (code_of s.machine))) (sym h.state) (new_fit b.start i h.board.sound (subst (λ (s : State). i < cpu_count s.machine) h.state l))

  worker_fits : (b : BoardView I) (w : Worker I) → IsBoard seen b → b.state ≡ boot b.start → is_worker b.state.machine w.by w.disk ≡ true → w.out ≡ None → WorkerFits seen b.start b.journal w
  worker_fits b w h first number out =
      let here : (image_at (last_state b.start b.journal) w.disk).holder ≡ None = ap (λ (s : State). (image_at s w.disk).holder) (sym h.last ∙ first) ∙ boot_home b.start w.disk in
      record {
        sound = h.sound;
        legal = h.legal;
        number = ap (λ (s : State). is_worker s.machine w.by w.disk) (sym h.last) ∙ number;
        has = subst (λ (o : Option (Out I)). HasOut seen b.start b.journal w.by w.disk o) (sym out) (ap (λ (o : Option Holder). is_its w.by o) here);
      }

  begun_fits : (b : BoardView I) (rs : List RunnerView) (ws : List (Worker I)) → Begins b rs ws → IsCrew seen (crew_of b rs ws)
  begun_fits b rs ws h =
      let few = h.actors.runners.count in
      record {
        board = h.board;
        control = new_fits b.state;
        runners = record {
          count = few;
          cpu = λ i l. ap (λ (r : RunnerView). r.cpu) (h.actors.runners.each i l);
          fits = λ i l. subst (λ (r : RunnerView). RunnerFits b.state r) (sym (h.actors.runners.each i l)) (runner_fits b rs ws i h (omega (arith, l, few)));
        };
        workers = record {
          count = h.actors.workers.count;
          pass = h.actors.workers.pass;
          fits = λ k l. worker_fits b (worker_at ws k) h.board h.state (h.actors.workers.worker k l) (h.actors.workers.out k l);
        };
        fault = refl;
      }

  begun_new : (b : BoardView I) (rs : List RunnerView) (ws : List (Worker I)) → Begins b rs ws → IsNew (crew_of b rs ws)
  begun_new b rs ws h =
      let none : Option Bool = None in
      let few = h.actors.runners.count in
      let all = h.actors.workers.count in
      let cpus : length rs ≡ cpu_count (boot b.start).machine = few ∙ ap (λ (s : State). cpu_count s.machine) h.state in
      let count : 1 + length rs + length ws ≡ pass_count b.state.machine = omega (arith, few, all) in
      let leased : map lease_now rs ≡ replicate (cpu_count (boot b.start).machine) no_lease =
      map_same lease_now no_lease (new_runner 0 0 []) rs (λ i l. ap lease_now (h.actors.runners.each i l)) ∙ ap (λ (n : ℕ). replicate n no_lease) cpus in
      let answered : replicate (1 + length rs) none ++ map (λ (w : Worker I). answer_of w.out) ws ≡ replicate (pass_count (boot b.start).machine) none =
      ap (λ (xs : List (Option Bool)). replicate (1 + length rs) none ++ xs) (
      map_same (λ (w : Worker I). answer_of w.out) none (record { disk = 0; by = 0; out = None }) ws (λ k l. ap (λ (o : Option (Out I)). answer_of o) (h.actors.workers.out k l))
      ) ∙ replicate-append-replicate (1 + length rs) (length ws) none ∙ ap (λ (n : ℕ). replicate n none) (count ∙ ap (λ (s : State). pass_count s.machine) h.state) in
      record {
        first = λ calls. same_rounds (rounds_of (crew_of b rs ws) calls) (first_round b.start calls) h.state h.journal leased answered refl;
        control = refl;
        fault = refl;
        fed = h.fed;
      }

  -- the crew of a board at its start, of whose control it is known that it is new
  abbrev pub crew_with : BoardView I → ControlView → List RunnerView → List (Worker I) → CrewView I
  crew_with b control rs ws = record { board = b; control = control; runners = rs; workers = ws; fault = None }

  pub crew_fits : (b : BoardView I) (control : ControlView) (rs : List RunnerView) (ws : List (Worker I)) → control ≡ new_control → Begins b rs ws → IsCrew seen (crew_with b control rs ws)
  crew_fits b control rs ws is h = subst (λ (x : ControlView). IsCrew seen (crew_with b x rs ws)) (sym is) (begun_fits b rs ws h)

  pub crew_new : (b : BoardView I) (control : ControlView) (rs : List RunnerView) (ws : List (Worker I)) → control ≡ new_control → Begins b rs ws → IsNew (crew_with b control rs ws)
  crew_new b control rs ws is h = subst (λ (x : ControlView). IsNew (crew_with b x rs ws)) (sym is) (begun_new b rs ws h)
