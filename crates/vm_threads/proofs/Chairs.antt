-- Control with pass 0: it fits after its turns, after entries of others, and after joins.
use Rattle.std.proofs.Common.{◌≡◌, ◌≢◌, ℕ, suc, ◌+◌, Bool, true, false, List, [], ◌∷◌, ◌++◌, map, length, drop, Option, Some, None, refl, sym, ap, subst, ◌∙◌, cond, arith}
use Rattle.std.specs.Prelude.{◌&&◌, ◌||◌, not, is_some, if◌then◌else◌}
use Rattle.std.specs.List.{find, list_all}
use Rattle.std.specs.Option.{option_to_list, option_map}
use Rattle.std.proofs.lemmas.Bool.{and_parts, and_from, true≢false}
use Rattle.std.proofs.lemmas.List.Folds.{list_all-append}
use Rattle.std.proofs.lemmas.Option.{same_Some}
use Rattle.vm_law.specs.declared.journal.EndCause.TheVariants.{Budget, Outside}
use Rattle.vm_law.specs.declared.journal.Entry.{Entry}
use Rattle.vm_law.specs.declared.journal.Entry.TheVariants.{Claim, Yield, Turn, Meet, Feed, Wish, Done, End, Close, Tick}
use Rattle.vm_law.specs.declared.journal.Signed.{Signed}
use Rattle.vm_host.specs.Views.{ImageView}
use Rattle.vm_turn.specs.History.{AllBy, signed_by}
use Rattle.vm_turn.specs.Known.{Known, TableId}
use Rattle.vm_turn.specs.View.{Finds, given_view, joined_view, taken_view, with_tries}
use Rattle.vm_turn.specs.declared.view.View.{View}
use Rattle.vm_state.specs.declared.start.Start.{Start}
use Rattle.vm_state.specs.Machine.{cpu_numbers}
use Rattle.vm_state.specs.Start.{boot}
use Rattle.vm_state.specs.State.{State}
use Rattle.vm_orders.specs.Duties.{tick_of}
use Rattle.vm_table.specs.History.{after_all, last_state}
use Rattle.vm_table.specs.Rounds.{chosen}
use Rattle.vm_table.specs.Table.{after, lawful}
use Rattle.vm_table.specs.Turns.{control_list, first_lawful, list_of}
use Rattle.vm_laws.proofs.Histories.{after_split}
use Rattle.vm_board.specs.declared.actor.Did.{Did}
use Rattle.vm_board.specs.declared.actor.Did.TheVariants.{Added, Nothing, Left, Starved}
use Rattle.vm_board.specs.Board.{IsBoard}
use Rattle.vm_board.specs.Going.{added_in}
use Rattle.vm_board.specs.Turn.{TakesTurn, some_entry}
use Rattle.vm_board.specs.View.{BoardView}
use Rattle.vm_board.proofs.Going.{CanGive, all_one, can_give, chosen_all, given_own, told_left, turn_state}
use Rattle.vm_control.specs.Fits.{ControlFits}
use Rattle.vm_control.specs.Turn.{turn_of}
use Rattle.vm_control.specs.View.{ControlView}
use Rattle.vm_control.specs.declared.control.OutFault.{OutFault}
use Rattle.vm_control.proofs.Growing.{any_fits}
use Rattle.vm_threads.specs.Chair.{ChairView, HasJoined, HasTaken, IsChair, ends_outside, is_end_outside}

-- ---- control fits whatever follows

fits_all : (s : State) (xs : List Signed) (c : ControlView) → ControlFits s c → ControlFits (after_all s xs) c
fits_all s [] c f = f
fits_all s (x ∷ xs) c f = fits_all (after s x) xs c (any_fits s x c f)

pub fits_later : (start : Start) (h rest : List Signed) (c : ControlView) → ControlFits (last_state start h) c → ControlFits (last_state start (h ++ rest)) c
fits_later start h rest c f = subst (λ (s : State). ControlFits s c) (sym (after_split (boot start) h rest)) (fits_all (last_state start h) rest c f)

-- ---- it ends the run by no failure where there was none

found_at : {X : Type 0} (P Q : X → Bool) (y x : X) (b : Bool) (rest : Option X) → Q y ≡ true → (rest ≡ Some x → Q x ≡ true) → cond b (Some y) rest ≡ Some x → Q x ≡ true
found_at P Q y x true rest q f h = subst (λ z. Q z ≡ true) (same_Some y x h) q
found_at P Q y x false rest q f h = f h

-- what is found in a list passes what all of it pass
found : {X : Type 0} (P Q : X → Bool) (xs : List X) (x : X) → list_all Q xs ≡ true → find P xs ≡ Some x → Q x ≡ true
found P Q [] x a h = absurd (cc)
found P Q (y ∷ ys) x a h = let t = and_parts (Q y) (list_all Q ys) a in found_at P Q y x (P y) (find P ys) t.0 (found P Q ys x t.1) h

abbrev no_fault : Entry → Bool
no_fault e = not (is_end_outside e)

each_no_fault : (f : ℕ → Entry) (ns : List ℕ) → ((n : ℕ) → no_fault (f n) ≡ true) → list_all no_fault (map f ns) ≡ true
each_no_fault f [] h = refl
each_no_fault f (n ∷ ns) h = and_from (no_fault (f n)) (list_all no_fault (map f ns)) (h n) (each_no_fault f ns h)

both_no_fault : (xs ys : List Entry) → list_all no_fault xs ≡ true → list_all no_fault ys ≡ true → list_all no_fault (xs ++ ys) ≡ true
both_no_fault xs ys a b = list_all-append no_fault xs ys ∙ and_from (list_all no_fault xs) (list_all no_fault ys) a b

list_no_fault : (s : State) → list_all no_fault (control_list s) ≡ true
unfolding control_list
list_no_fault s =
    let cpus = cpu_numbers s.machine in
    let turns = map (λ i. Turn i) cpus in
    let yields = map (λ i. Yield i) cpus in
    let claims = map (λ i. Claim i) cpus in
    let a = both_no_fault turns yields (each_no_fault (λ i. Turn i) cpus (λ i. refl)) (each_no_fault (λ i. Yield i) cpus (λ i. refl)) in
    let b = both_no_fault (turns ++ yields) claims a (each_no_fault (λ i. Claim i) cpus (λ i. refl)) in
    both_no_fault (turns ++ yields ++ claims) (Feed ∷ Tick (tick_of s) ∷ End Budget ∷ Wish ∷ Meet ∷ Done s.place ∷ Close ∷ []) b refl

list_is : (s : State) → list_of s 0 ≡ control_list s
unfolding list_of
list_is s = refl

not_true : (b : Bool) → not b ≡ true → b ≡ false
not_true true h = absurd (true≢false (sym h))
not_true false h = refl

chosen_no_fault : (s : State) (e : Entry) → first_lawful s 0 ≡ Some e → is_end_outside e ≡ false
chosen_no_fault s e h = not_true (is_end_outside e) (found (λ x. lawful s 0 x) no_fault (control_list s) e (list_no_fault s) (subst (λ xs. find (λ x. lawful s 0 x) xs ≡ Some e) (list_is s) h))

chosen_ends : (s : State) → ends_outside (chosen s 0) ≡ false
chosen_ends s = at (first_lawful s 0) (λ e h. chosen_no_fault s e h)
  where
    at : (o : Option Entry) → ((e : Entry) → o ≡ Some e → is_end_outside e ≡ false) → ends_outside (option_to_list (option_map (λ (e : Entry). let x : Signed = record { by = 0; entry = e } in x) o)) ≡ false
    at None f = refl
    at (Some e) f = ap (λ b. b || false) (f e refl)

neither : (t a b : Bool) → (t || a) ≡ false → (a ≡ false → b ≡ false) → (t || b) ≡ false
neither true a b h f = absurd (true≢false h)
neither false a b h f = f h

ends_both : (xs ys : List Signed) → ends_outside xs ≡ false → ends_outside ys ≡ false → ends_outside (xs ++ ys) ≡ false
ends_both [] ys a b = b
ends_both (x ∷ xs) ys a b = neither (is_end_outside x.entry) (ends_outside xs) (ends_outside (xs ++ ys)) a (λ c. ends_both xs ys c b)

turn_ends : (s : State) (failed : Bool) → failed ≡ false → ends_outside (turn_of s failed) ≡ false
turn_ends s failed e = subst (λ (b : Bool). ends_outside (turn_of s b) ≡ false) (sym e) (chosen_ends s)

added_ends : (did : Did) (xs : List Signed) → ends_outside xs ≡ false → ends_outside (added_in did xs) ≡ false
added_ends Starved xs h = refl
added_ends Added xs h = h
added_ends Nothing xs h = h
added_ends Left xs h = h

turn_all : (s : State) (failed : Bool) → AllBy 0 (turn_of s failed)
turn_all s failed = at (failed && lawful s 0 (End Outside))
  where
    at : (b : Bool) → AllBy 0 (if b then record { by = 0; entry = End Outside } ∷ [] else chosen s 0)
    at true = all_one 0 (End Outside)
    at false = chosen_all s 0

-- ---- a turn

module _ {I : Type 0} (seen : I → ImageView) where
  -- control fits the board that pass 0 finds
  pub found_fits : (c : ChairView) (x : BoardView I) → IsChair c → IsBoard seen x → Finds (λ (z : BoardView I). z.start) (λ (z : BoardView I). z.journal) c.pass.view x → ControlFits x.state c.control
  found_fits c x h b f =
      let e : h.start ≡ x.start = same_Some h.start x.start (sym h.root ∙ f.root_is) in
      let here : ControlFits (last_state x.start c.pass.view.seen) c.control = subst (λ (s : Start). ControlFits (last_state s c.pass.view.seen) c.control) e h.fits in
      subst (λ (s : State). ControlFits s c.control) (sym (b.last ∙ ap (λ (l : List Signed). last_state x.start l) f.later.1)) (fits_later x.start c.pass.view.seen f.later.0 c.control here)

  -- what is known of a turn in which the pass found the board x and control left it as y
  pub record ControlTurned (c : ChairView) (x y : BoardView I) (d : ControlView) (did : Did) : Type 0 where
    pub chair : IsChair c
    pub found : Finds (λ (z : BoardView I). z.start) (λ (z : BoardView I). z.journal) c.pass.view x
    pub board : IsBoard seen y
    pub turn : TakesTurn x y y.state.closed (turn_of x.state c.control.failed) did
    pub fits : ControlFits y.state d
    pub failed : d.failed ≡ c.control.failed
    pub whole : did ≢ Starved → d.wrote ++ d.held ≡ y.state.console

  pub turn_can_give : (c : ChairView) (x y : BoardView I) (d : ControlView) (did : Did) (tries : ℕ) → ControlTurned c x y d did → CanGive (with_tries (taken_view c.pass.view x.journal) tries) y
  turn_can_give c x y d did tries t = can_give c.pass.view x y y.state.closed (turn_of x.state c.control.failed) did 0 tries t.chair.number t.found t.turn (turn_all x.state c.control.failed)

  abbrev pub turned_pass : TableId → View Start → BoardView I → BoardView I → ℕ → Known Start
  turned_pass id v x y tries = record { turnstile = id; view = given_view (with_tries (taken_view v x.journal) tries) y.journal }

  pub turn_keeps : (c : ChairView) (x y : BoardView I) (d : ControlView) (did : Did) (tries : ℕ) (id : TableId) → ControlTurned c x y d did → IsChair (record { control = d; pass = turned_pass id c.pass.view x y tries; fault = c.fault })
  turn_keeps c x y d did tries id t = record {
    start = x.start;
    root = t.found.root_is;
    number = t.chair.number;
    free = refl;
    fits = subst (λ (s : State). ControlFits s d) (turn_state seen x y y.state.closed (turn_of x.state c.control.failed) did t.board t.turn) t.fits;
    fault = t.failed ∙ t.chair.fault;
    no_end = λ none.
        let xs = turn_of x.state c.control.failed in
        let own : signed_by c.pass.view.number y.journal ≡ c.pass.view.own ++ added_in did xs = given_own c.pass.view x y y.state.closed xs did 0 t.chair.number t.found t.turn (turn_all x.state c.control.failed) in
        let quiet : c.control.failed ≡ false = t.chair.fault ∙ ap (λ (o : Option OutFault). is_some o) none in
        ap (λ (l : List Signed). ends_outside l) own ∙ ends_both c.pass.view.own (added_in did xs) (t.chair.no_end none) (added_ends did xs (turn_ends x.state c.control.failed quiet));
  }

  pub turn_taken : (c : ChairView) (x y : BoardView I) (d : ControlView) (did : Did) (tries : ℕ) (id : TableId) → ControlTurned c x y d did → HasTaken did (record { control = d; pass = turned_pass id c.pass.view x y tries; fault = c.fault })
  turn_taken c x y d did tries id t =
      let xs = turn_of x.state c.control.failed in
      let now = turn_state seen x y y.state.closed xs did t.board t.turn in
      record {
        start = x.start;
        root = t.found.root_is;
        all = λ n. t.whole n ∙ ap (λ (s : State). s.console) now;
        closed = λ e. ap (λ (s : State). s.closed) (sym now) ∙ left did e t.turn;
      }
    where
      left : (a : Did) → a ≡ Left → TakesTurn x y y.state.closed (turn_of x.state c.control.failed) a → y.state.closed ≡ true
      left Left e k = told_left y.state.closed (some_entry (turn_of x.state c.control.failed)) k.1
      left Added e k = absurd (cc)
      left Nothing e k = absurd (cc)
      left Starved e k = absurd (cc)

-- ---- a join

pub joined_chair : (c : ChairView) (w : View Start) → IsChair c → IsChair (record c { pass = record { turnstile = c.pass.turnstile; view = joined_view c.pass.view w } })
joined_chair c w h = record {
  start = h.start;
  root = h.root;
  number = h.number;
  free = h.free;
  fits = fits_later h.start c.pass.view.seen (drop (length c.pass.view.seen) w.seen) c.control h.fits;
  fault = h.fault;
  no_end = h.no_end;
}

pub one_joined : (c : ChairView) (w : View Start) → HasJoined c 1 (record c { pass = record { turnstile = c.pass.turnstile; view = joined_view c.pass.view w } })
one_joined c w = record {
  control = refl;
  fault = refl;
  turnstile = refl;
  root = refl;
  splits = refl;
  joined = (let e : suc (length c.pass.view.ended) ≡ length c.pass.view.ended + 1 = omega arith in e);
  more = drop (length c.pass.view.seen) w.seen;
  seen = refl;
}
