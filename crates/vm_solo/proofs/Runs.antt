-- The turn of a vCPU's runner in a crew.
use Rattle.std.specs.Prelude.{slice_index_or, slice_set, map}
use Rattle.std.proofs.Common.{◌≡◌, ◌≢◌, ℕ, zero, suc, ◌+◌, ◌<◌, Bool, true, List, [], ◌∷◌, ◌++◌, length, refl, sym, ap, subst, ◌∙◌, arith}
use Rattle.std.proofs.Math.ListN.{length-set}
use Rattle.std.proofs.lemmas.List.{append-nil}
use Rattle.vm_law.specs.declared.journal.Signed.{Signed}
use Rattle.vm_host.specs.Views.{ImageView}
use Rattle.vm_state.specs.declared.start.Start.{Start}
use Rattle.vm_state.specs.Start.{boot}
use Rattle.vm_state.specs.State.{State}
use Rattle.vm_laws.proofs.Histories.{lawful_split}
use Rattle.vm_table.specs.History.{after_all, is_lawful_all}
use Rattle.vm_table.specs.Table.{after}
use Rattle.vm_table.specs.Rounds.{Lease, lease_back, no_lease, run_outside}
use Rattle.vm_rounds.proofs.Passing.{back_of}
use Rattle.vm_rounds.proofs.Walking.{AreOf, chosen_of, of_append}
use Rattle.vm_board.specs.declared.actor.Did.{Did}
use Rattle.vm_board.specs.declared.actor.Did.TheVariants.{Added, Nothing, Left, Starved}
use Rattle.vm_board.specs.Board.{IsBoard}
use Rattle.vm_board.specs.Calls.{IsSame}
use Rattle.vm_board.specs.Turn.{GoesOn, TakesTurn, with_choice}
use Rattle.vm_board.specs.View.{BoardView}
use Rattle.vm_vcpu.specs.declared.out.Out.{Out}
use Rattle.vm_vcpu.specs.declared.out.Out.TheVariants as out
use Rattle.vm_vcpu.specs.Fits.{OutFits, RunnerFits}
use Rattle.vm_vcpu.specs.New.{new_runner}
use Rattle.vm_vcpu.specs.Turn.{IsTaken, Takes, turn_adds}
use Rattle.vm_vcpu.specs.Copies.{CopiesView}
use Rattle.vm_vcpu.specs.View.{RunnerView, lease_now, ran_ahead}
use Rattle.vm_vcpu.proofs.Beginning.{ahead}
use Rattle.vm_control.specs.Fits.{ControlFits}
use Rattle.vm_control.specs.View.{ControlView}
use Rattle.vm_control.proofs.Growing.{any_fits}
use Rattle.vm_solo.specs.Fits.{IsCrew, runner_at}
use Rattle.vm_solo.specs.Playing.{Continues, PlaysPass}
use Rattle.vm_solo.specs.Rounds.{answers_of, rounds_of}
use Rattle.vm_solo.specs.View.{CrewView}
use Rattle.vm_solo.proofs.Crews.{Moves, all_workers, one_runner}
use Rattle.vm_solo.proofs.PassTurns.{runner_turn}
use Rattle.vm_solo.proofs.Shutting.{shut_stays}

-- ---- lists

pub map_at : {X Y : Type 0} (f : X → Y) (xs : List X) (i : ℕ) (d : X) → slice_index_or (map f xs) i (f d) ≡ f (slice_index_or xs i d)
map_at f [] i d = refl
map_at f (x ∷ xs) zero d = refl
map_at f (x ∷ xs) (suc i) d = map_at f xs i d

pub map_set : {X Y : Type 0} (f : X → Y) (xs : List X) (i : ℕ) (x : X) → map f (slice_set xs i x) ≡ slice_set (map f xs) i (f x)
map_set f [] i x = refl
map_set f (y ∷ ys) zero x = refl
map_set f (y ∷ ys) (suc i) x = ap (λ zs. f y ∷ zs) (map_set f ys i x)

-- an element that is there, whatever stands for one past the end
pub at_any : {X : Type 0} (xs : List X) (i : ℕ) (d e : X) → i < length xs → slice_index_or xs i d ≡ slice_index_or xs i e
at_any [] i d e l = absurd (omega (arith, l))
at_any (x ∷ xs) zero d e l = refl
at_any (x ∷ xs) (suc i) d e l = at_any xs i d e (omega (arith, l))

-- ---- a turn that had memory

pub went_on : {I : Type 0} (old new : BoardView I) (leaves : Bool) (xs : List Signed) (did : Did) → did ≢ Starved → TakesTurn old new leaves xs did → GoesOn old new xs
went_on old new leaves xs Added n h = h.0
went_on old new leaves xs Nothing n h = h.0
went_on old new leaves xs Left n h = h.0
went_on old new leaves xs Starved n h = absurd (n refl)

pub stayed : {I : Type 0} (old new : BoardView I) (leaves : Bool) (xs : List Signed) (did : Did) → did ≡ Starved → TakesTurn old new leaves xs did → IsSame (record old { starved = true }) new
stayed old new leaves xs did e h = subst (λ (d : Did). TakesTurn old new leaves xs d) e h

pub continues : {I : Type 0} (old new : BoardView I) (xs : List Signed) → GoesOn old new xs → Continues old new
continues old new xs g = record { start = g.start; entries = xs; journal = g.journal }

pub control_stays : (s : State) (xs : List Signed) (c : ControlView) → ControlFits s c → ControlFits (after_all s xs) c
control_stays s [] c f = f
control_stays s (x ∷ xs) c f = control_stays (after s x) xs c (any_fits s x c f)

module _ {I : Type 0} (seen : I → ImageView) where
  pub moves_by : (old new : BoardView I) (p : ℕ) (xs : List Signed) → IsBoard seen old → IsBoard seen new → GoesOn old new xs → AreOf p xs → Moves seen old new p xs
  moves_by old new p xs a b g o =
      let legal : is_lawful_all (boot old.start) (old.journal ++ xs) ≡ true = subst (λ (j : List Signed). is_lawful_all (boot old.start) j ≡ true) g.journal (subst (λ (s : Start). is_lawful_all (boot s) new.journal ≡ true) g.start b.legal) in
      record { before = a; now = b; start = g.start; state = g.state; journal = g.journal; lawful = subst (λ (s : State). is_lawful_all s xs ≡ true) (sym a.last) (lawful_split (boot old.start) old.journal xs legal); of = o }

  -- a turn that wanted memory adds nothing
  pub moves_not : (old new : BoardView I) (p : ℕ) → IsBoard seen old → IsBoard seen new → IsSame (record old { starved = true }) new → Moves seen old new p []
  moves_not old new p a b s = record { before = a; now = b; start = s.start; state = s.state; journal = s.journal ∙ sym (append-nil old.journal); lawful = refl; of = tt }

pub continues_not : {I : Type 0} (old new : BoardView I) → IsSame (record old { starved = true }) new → Continues old new
continues_not old new s = record { start = s.start; entries = []; journal = s.journal ∙ sym (append-nil old.journal) }

-- ---- a runner

back_and_choice : (s : State) (i : ℕ) (x : Lease) → AreOf (1 + i) (with_choice s (1 + i) (lease_back s i x))
back_and_choice s i x = of_append (1 + i) (lease_back s i x) _ (back_of s i x) (chosen_of (after_all s (lease_back s i x)) (1 + i))

adds_as : (s : State) (r : RunnerView) (i : ℕ) → r.cpu ≡ i → r.by ≡ 1 + i → turn_adds s r ≡ with_choice s (1 + i) (lease_back s i (lease_now r))
adds_as s r i c b = ap (λ (p : ℕ). with_choice s p (lease_back s r.cpu (lease_now r))) b ∙ ap (λ (k : ℕ). with_choice s (1 + i) (lease_back s k (lease_now r))) c

-- after its work outside it still fits
ran_fits : (s : State) (i p : ℕ) (c : CopiesView) (o : Out) → OutFits s i p c o → OutFits s i p c (ran_ahead c o)
ran_fits s i p c out.Nothing h = h
ran_fits s i p c (out.Leased ctx left) h = (h, refl, refl)
ran_fits s i p c (out.Ran start left count ctx) h = h

pub outside_fits : (s : State) (r : RunnerView) → RunnerFits s r → RunnerFits s (record r { out = ran_ahead r.copies r.out })
outside_fits s r f = record { cpu = f.cpu; pass = f.pass; copies = f.copies; out = ran_fits s r.cpu r.by r.copies r.out f.out }

module _ {I : Type 0} (seen : I → ImageView) where
  -- what is known when the runner of vCPU i has taken its turn
  pub record RunnerTurned (old : CrewView I) (new : BoardView I) (i : ℕ) (r : RunnerView) : Type 0 where
    pub there : i < length old.runners
    pub crew : IsCrew seen old
    pub board : IsBoard seen new
    pub cpu : r.cpu ≡ (runner_at old.runners i).cpu
    pub by : r.by ≡ (runner_at old.runners i).by
    pub fits : RunnerFits new.state r

  pub runner_moves : (old : CrewView I) (new : BoardView I) (i : ℕ) (r : RunnerView) → RunnerTurned old new i r → GoesOn old.board new (turn_adds old.board.state (runner_at old.runners i))
      → Moves seen old.board new (1 + i) (turn_adds old.board.state (runner_at old.runners i))
  runner_moves old new i r t goes =
      let r0 = runner_at old.runners i in
      let c = t.crew.runners.cpu i t.there in
      let b : r0.by ≡ 1 + i = (t.crew.runners.fits i t.there).pass ∙ ap (λ (k : ℕ). 1 + k) c in
      moves_by seen old.board new (1 + i) (turn_adds old.board.state r0) t.crew.board t.board goes
      (subst (λ (xs : List Signed). AreOf (1 + i) xs) (sym (adds_as old.board.state r0 i c b)) (back_and_choice old.board.state i (lease_now r0)))

  abbrev pub with_runner : CrewView I → BoardView I → ℕ → RunnerView → CrewView I
  with_runner old new i r = record old { board = new; runners = slice_set old.runners i r }

  pub runner_keeps : (old : CrewView I) (new : BoardView I) (i : ℕ) (r : RunnerView) (xs : List Signed) → RunnerTurned old new i r → Moves seen old.board new (1 + i) xs → IsCrew seen (with_runner old new i r)
  runner_keeps old new i r xs t m =
      let l = t.there in
      let count = t.crew.runners.count in
      record {
        board = t.board;
        control = subst (λ (s : State). ControlFits s old.control) (sym m.state) (control_stays old.board.state xs old.control t.crew.control);
        runners = one_runner seen old.board new xs old.runners i r m t.there (t.cpu ∙ t.crew.runners.cpu i t.there) t.fits t.crew.runners;
        workers = all_workers seen old.board new (1 + i) xs old.workers m (omega (arith, l, count)) t.crew.workers;
        fault = t.crew.fault;
      }

  -- its turn and its work outside are the pass of the rounds
  pub runner_plays : (old : CrewView I) (new : BoardView I) (i : ℕ) (r : RunnerView) → RunnerTurned old new i r → GoesOn old.board new (turn_adds old.board.state (runner_at old.runners i)) → IsTaken new.state r → PlaysPass (1 + i) old (with_runner old new i (record r { out = ran_ahead r.copies r.out }))
  runner_plays old new i r t goes taken =
      let r0 = runner_at old.runners i in
      let c = t.crew.runners.cpu i t.there in
      let b : r0.by ≡ 1 + i = (t.crew.runners.fits i t.there).pass ∙ ap (λ (k : ℕ). 1 + k) c in
      let after : RunnerView = record r { out = ran_ahead r.copies r.out } in
      let lease : lease_now r0 ≡ slice_index_or (map lease_now old.runners) i no_lease = sym (map_at lease_now old.runners i (new_runner 0 0 [])) in
      let same : turn_adds old.board.state r0 ≡ with_choice old.board.state (1 + i) (lease_back old.board.state i (slice_index_or (map lease_now old.runners) i no_lease)) =
      adds_as old.board.state r0 i c b ∙ ap (λ (x : Lease). with_choice old.board.state (1 + i) (lease_back old.board.state i x)) lease in
      let out : lease_now after ≡ run_outside new.state i = ahead new.state r taken ∙ ap (λ (k : ℕ). run_outside new.state k) (t.cpu ∙ c) in
      let l = t.there in
      let count = t.crew.runners.count in
      record {
        made = [];
        plays = λ calls. runner_turn (rounds_of old calls) (rounds_of (with_runner old new i after) calls) i (omega (arith, l, count))
            (goes.state ∙ ap (λ (xs : List Signed). after_all old.board.state xs) same)
            (goes.journal ∙ ap (λ (xs : List Signed). old.board.journal ++ xs) same)
            (map_set lease_now old.runners i after ∙ ap (λ (x : Lease). slice_set (map lease_now old.runners) i x) out)
            (ap (λ (n : ℕ). answers_of n old.workers) (length-set old.runners i after))
            refl;
      }

  -- ---- what is known after the call of its turn

  pub record TurnedBy (old : CrewView I) (new : BoardView I) (i : ℕ) (r0 r : RunnerView) (did : Did) : Type 0 where
    pub there : i < length old.runners
    pub crew : IsCrew seen old
    pub board : IsBoard seen new
    pub is : r0 ≡ slice_index_or old.runners i r0
    pub numbers : (r.cpu ≡ r0.cpu) × (r.by ≡ r0.by)
    pub fits : RunnerFits new.state r
    pub leaves : Bool
    pub turn : TakesTurn old.board new leaves (turn_adds old.board.state r0) did
    pub takes : Takes new.state r0 r did

  first_is : (old : CrewView I) (new : BoardView I) (i : ℕ) (r0 r : RunnerView) (did : Did) → TurnedBy old new i r0 r did → r0 ≡ runner_at old.runners i
  first_is old new i r0 r did t = t.is ∙ at_any old.runners i r0 (new_runner 0 0 []) t.there

  turned_is : (old : CrewView I) (new : BoardView I) (i : ℕ) (r0 r : RunnerView) (did : Did) → TurnedBy old new i r0 r did → RunnerTurned old new i r
  turned_is old new i r0 r did t =
      let e = first_is old new i r0 r did t in
      record { there = t.there; crew = t.crew; board = t.board; cpu = t.numbers.0 ∙ ap (λ (x : RunnerView). x.cpu) e; by = t.numbers.1 ∙ ap (λ (x : RunnerView). x.by) e; fits = t.fits }

  goes_is : (old : CrewView I) (new : BoardView I) (i : ℕ) (r0 r : RunnerView) (did : Did) → TurnedBy old new i r0 r did → did ≢ Starved → GoesOn old.board new (turn_adds old.board.state (runner_at old.runners i))
  goes_is old new i r0 r did t n =
      subst (λ (x : RunnerView). GoesOn old.board new (turn_adds old.board.state x)) (first_is old new i r0 r did t) (went_on old.board new t.leaves (turn_adds old.board.state r0) did n t.turn)

  taken_is : (s : State) (r0 r : RunnerView) (did : Did) → did ≢ Starved → Takes s r0 r did → IsTaken s r
  taken_is s r0 r Added n t = t
  taken_is s r0 r Nothing n t = t
  taken_is s r0 r Left n t = t
  taken_is s r0 r Starved n t = absurd (n refl)

  pub starved_keeps : (old : CrewView I) (new : BoardView I) (i : ℕ) (r0 r : RunnerView) (did : Did) → TurnedBy old new i r0 r did → did ≡ Starved → IsCrew seen (with_runner old new i r)
  starved_keeps old new i r0 r did t e =
      runner_keeps old new i r [] (turned_is old new i r0 r did t) (moves_not seen old.board new (1 + i) t.crew.board t.board (stayed old.board new t.leaves (turn_adds old.board.state r0) did e t.turn))

  pub starved_continues : (old : CrewView I) (new : BoardView I) (i : ℕ) (r0 r : RunnerView) (did : Did) → TurnedBy old new i r0 r did → did ≡ Starved → Continues old.board new
  starved_continues old new i r0 r did t e = continues_not old.board new (stayed old.board new t.leaves (turn_adds old.board.state r0) did e t.turn)

  pub starved_noted : (old : CrewView I) (new : BoardView I) (i : ℕ) (r0 r : RunnerView) (did : Did) → TurnedBy old new i r0 r did → did ≡ Starved → new.starved ≡ true
  starved_noted old new i r0 r did t e = (stayed old.board new t.leaves (turn_adds old.board.state r0) did e t.turn).starved

  pub fed_keeps : (old : CrewView I) (new : BoardView I) (i : ℕ) (r0 r r2 : RunnerView) (did : Did) → TurnedBy old new i r0 r did → did ≢ Starved → r2 ≡ record r { out = ran_ahead r.copies r.out } → IsCrew seen (with_runner old new i r2)
  fed_keeps old new i r0 r r2 did t n e =
      let a = turned_is old new i r0 r did t in
      let after : RunnerView = record r { out = ran_ahead r.copies r.out } in
      let b : RunnerTurned old new i after = record { there = a.there; crew = a.crew; board = a.board; cpu = a.cpu; by = a.by; fits = outside_fits new.state r a.fits } in
      subst (λ (x : RunnerView). IsCrew seen (with_runner old new i x)) (sym e) (runner_keeps old new i after (turn_adds old.board.state (runner_at old.runners i)) b (runner_moves old new i r a (goes_is old new i r0 r did t n)))

  pub fed_continues : (old : CrewView I) (new : BoardView I) (i : ℕ) (r0 r : RunnerView) (did : Did) → TurnedBy old new i r0 r did → did ≢ Starved → Continues old.board new
  fed_continues old new i r0 r did t n = continues old.board new (turn_adds old.board.state (runner_at old.runners i)) (goes_is old new i r0 r did t n)

  pub fed_stays : (old : CrewView I) (new : BoardView I) (i : ℕ) (r0 r : RunnerView) (did : Did) → TurnedBy old new i r0 r did → did ≢ Starved → new.starved ≡ old.board.starved
  fed_stays old new i r0 r did t n = (goes_is old new i r0 r did t n).starved

  pub fed_plays : (old : CrewView I) (new : BoardView I) (i : ℕ) (r0 r r2 : RunnerView) (did : Did) → TurnedBy old new i r0 r did → did ≢ Starved → r2 ≡ record r { out = ran_ahead r.copies r.out } → PlaysPass (1 + i) old (with_runner old new i r2)
  fed_plays old new i r0 r r2 did t n e =
      subst (λ (x : RunnerView). PlaysPass (1 + i) old (with_runner old new i x)) (sym e)
      (runner_plays old new i r (turned_is old new i r0 r did t) (goes_is old new i r0 r did t n) (taken_is new.state r0 r did n t.takes))

  pub fed_shut : (old : CrewView I) (new : BoardView I) (i : ℕ) (r0 r : RunnerView) (did : Did) → TurnedBy old new i r0 r did → did ≢ Starved → new.state.closed ≡ true → new.state ≡ old.board.state
  fed_shut old new i r0 r did t n =
      shut_stays seen old.board new (1 + i) _ (omega arith) (runner_moves old new i r (turned_is old new i r0 r did t) (goes_is old new i r0 r did t n))
