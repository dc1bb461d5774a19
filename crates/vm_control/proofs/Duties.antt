-- What control chooses: it moves no image, and leaves what the console received.
use Rattle.std.proofs.Common.{◌≡◌, ℕ, Bool, true, false, cond, List, [], ◌∷◌, ◌++◌, map, refl, sym, subst, ◌∙◌, inr, Option, Some, None}
use Rattle.std.specs.List.{find, list_all}
use Rattle.std.specs.Option.{option_map, option_to_list}
use Rattle.std.proofs.lemmas.Bool.{and_parts, and_from, true≢false}
use Rattle.std.proofs.lemmas.List.Folds.{list_all-append}
use Rattle.std.proofs.lemmas.Option.{same_Some}
use Rattle.vm_law.specs.declared.journal.EndCause.TheVariants.{Budget, Outside}
use Rattle.vm_law.specs.declared.journal.Entry.{Entry}
use Rattle.vm_law.specs.declared.journal.Entry.TheVariants.{Claim, Yield, Turn, Meet, Hold, Put, Feed, Wish, Done, End, Close, Tick}
use Rattle.vm_law.specs.declared.journal.Signed.{Signed}
use Rattle.vm_law.specs.declared.script.Order.{Order}
use Rattle.vm_law.specs.declared.script.Order.TheVariants as order
use Rattle.vm_law.specs.declared.stage.MeetKind.{MeetKind}
use Rattle.vm_law.specs.declared.stage.MeetKind.TheVariants.{Routing, Sample}
use Rattle.vm_meet.specs.declared.meeting.Meeting.{Meeting}
use Rattle.vm_state.specs.Machine.{cpu_numbers}
use Rattle.vm_state.specs.State.{State, next_order}
use Rattle.vm_owners.specs.Owners.{after_claim, after_yield}
use Rattle.vm_owners.specs.Turn.{turn_taken, turn_in, after_turn, with_routing}
use Rattle.vm_orders.specs.Duties.{after_feed, after_meet, after_tick, after_wish, tick_of}
use Rattle.vm_orders.specs.Done.{ordered, ordered_as, noted_as, said_as, after_done, request_cancelled, noted}
use Rattle.vm_orders.specs.Ending.{after_end, after_close}
use Rattle.vm_table.specs.History.{after_all}
use Rattle.vm_table.specs.Rounds.{chosen}
use Rattle.vm_table.specs.Table.{lawful, effect, counted, after}
use Rattle.vm_table.specs.Turns.{control_list, first_lawful, list_of}
use Rattle.vm_board.specs.Calls.{MayAdd, moves_image}

-- ---- the first of a list passes the test, and whatever all of the list pass

found_at : {X : Type 0} (P Q : X → Bool) (y x : X) (b : Bool) (rest : Option X) → P y ≡ b → Q y ≡ true → (rest ≡ Some x → (P x ≡ true) × (Q x ≡ true)) → cond b (Some y) rest ≡ Some x → (P x ≡ true) × (Q x ≡ true)
found_at P Q y x true rest e q f h = let same = same_Some y x h in (subst (λ z. P z ≡ true) same e, subst (λ z. Q z ≡ true) same q)
found_at P Q y x false rest e q f h = f h

found : {X : Type 0} (P Q : X → Bool) (xs : List X) (x : X) → list_all Q xs ≡ true → find P xs ≡ Some x → (P x ≡ true) × (Q x ≡ true)
found P Q [] x a h = absurd (cc)
found P Q (y ∷ ys) x a h = let t = and_parts (Q y) (list_all Q ys) a in found_at P Q y x (P y) (find P ys) refl t.0 (found P Q ys x t.1) h

-- ---- control's list

abbrev pub is_duty : Entry → Bool
is_duty (Turn i) = true
is_duty (Yield i) = true
is_duty (Claim i) = true
is_duty Feed = true
is_duty (Tick n) = true
is_duty (End cause) = true
is_duty Wish = true
is_duty Meet = true
is_duty (Done k) = true
is_duty Close = true
is_duty e = false

all_each : (f : ℕ → Entry) (ns : List ℕ) → ((n : ℕ) → is_duty (f n) ≡ true) → list_all is_duty (map f ns) ≡ true
all_each f [] h = refl
all_each f (n ∷ ns) h = and_from (is_duty (f n)) (list_all is_duty (map f ns)) (h n) (all_each f ns h)

joined_all : (xs ys : List Entry) → list_all is_duty xs ≡ true → list_all is_duty ys ≡ true → list_all is_duty (xs ++ ys) ≡ true
joined_all xs ys a b = list_all-append is_duty xs ys ∙ and_from (list_all is_duty xs) (list_all is_duty ys) a b

control_duties : (s : State) → list_all is_duty (control_list s) ≡ true
unfolding control_list
control_duties s =
    let cpus = cpu_numbers s.machine in
    let turns = map (λ i. Turn i) cpus in
    let yields = map (λ i. Yield i) cpus in
    let claims = map (λ i. Claim i) cpus in
    let a = joined_all turns yields (all_each (λ i. Turn i) cpus (λ i. refl)) (all_each (λ i. Yield i) cpus (λ i. refl)) in
    let b = joined_all (turns ++ yields) claims a (all_each (λ i. Claim i) cpus (λ i. refl)) in
    joined_all (turns ++ yields ++ claims) (Feed ∷ Tick (tick_of s) ∷ End Budget ∷ Wish ∷ Meet ∷ Done s.place ∷ Close ∷ []) b refl

control_list_of : (s : State) → list_of s 0 ≡ control_list s
unfolding list_of
control_list_of s = refl

pub chosen_duty : (s : State) (e : Entry) → first_lawful s 0 ≡ Some e → (lawful s 0 e ≡ true) × (is_duty e ≡ true)
chosen_duty s e h = found (λ x. lawful s 0 x) is_duty (control_list s) e (control_duties s) (subst (λ xs. find (λ x. lawful s 0 x) xs ≡ Some e) (control_list_of s) h)

pub duty_stays : (e : Entry) → is_duty e ≡ true → moves_image e ≡ false
duty_stays (Hold d id) h = absurd (true≢false (sym h))
duty_stays (Put d id ok) h = absurd (true≢false (sym h))
duty_stays e h = refl

pub end_may : (s : State) → lawful s 0 (End Outside) ≡ true → MayAdd s (record { by = 0; entry = End Outside })
end_may s h = record { lawful = h; orderly = inr refl }

-- ---- what the console received

pub turn_taken_console : (s : State) (i : ℕ) (kind : MeetKind) → (turn_taken s i kind).console ≡ s.console
unfolding turn_taken with_routing
turn_taken_console s i Routing = refl
turn_taken_console s i Sample = refl

turn_in_console : (s : State) (i : ℕ) (o : Option Meeting) → (turn_in s i o).console ≡ s.console
turn_in_console s i None = refl
turn_in_console s i (Some x) = turn_taken_console s i x.kind

turn_console : (s : State) (i : ℕ) → (after_turn s i).console ≡ s.console
unfolding after_turn
turn_console s i = turn_in_console s i s.machine.meet

ordered_console : (s : State) (o : Order) → (ordered s o).console ≡ s.console
unfolding ordered request_cancelled
ordered_console s (order.Nmi i) = refl
ordered_console s (order.Cancel c id) = refl
ordered_console s (order.Set i reg value) = refl
ordered_console s order.Resume = refl
ordered_console s o = refl

done_as_console : (s : State) (o : Option Order) → (noted_as (ordered_as s o) o (said_as s o)).console ≡ s.console
unfolding noted
done_as_console s None = refl
done_as_console s (Some o) = ordered_console s o

done_console : (s : State) → (after_done s).console ≡ s.console
unfolding after_done
done_console s = done_as_console s (next_order s)

effect_console : (s : State) (p : ℕ) (e : Entry) → is_duty e ≡ true → (effect s p e).console ≡ s.console
unfolding effect after_claim after_yield after_meet after_feed after_wish after_end after_close after_tick
effect_console s p (Turn i) h = turn_console s i
effect_console s p (Yield i) h = refl
effect_console s p (Claim i) h = refl
effect_console s p Feed h = refl
effect_console s p (Tick n) h = refl
effect_console s p (End cause) h = refl
effect_console s p Wish h = refl
effect_console s p Meet h = refl
effect_console s p (Done k) h = done_console s
effect_console s p Close h = refl
effect_console s p e h = absurd (true≢false (sym h))

pub duty_console : (s : State) (x : Signed) → is_duty x.entry ≡ true → (after s x).console ≡ s.console
unfolding after counted
duty_console s x h = effect_console s x.by x.entry h

-- what control chooses sends nothing to the console
pub chosen_console : (s : State) → (after_all s (chosen s 0)).console ≡ s.console
chosen_console s = go (first_lawful s 0) refl where
  go : (o : Option Entry) → first_lawful s 0 ≡ o → (after_all s (option_to_list (option_map (λ e. record { by = 0; entry = e }) o))).console ≡ s.console
  go None is = refl
  go (Some e) is = duty_console s (record { by = 0; entry = e }) (chosen_duty s e is).1
