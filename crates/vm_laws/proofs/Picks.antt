-- From so many entries on control picks an entry that brings the end nearer, a Tick, or the end by a used up budget.
use Rattle.std.proofs.Common.{◌≡◌, ℕ, Bool, true, false, cond, List, [], ◌∷◌, ◌++◌, map, refl, sym, ap, subst, ◌∙◌, Option, Some, None}
use Rattle.std.specs.Prelude.{nat_le}
use Rattle.std.specs.List.{find}
use Rattle.std.proofs.lemmas.Bool.{true≢false}
use Rattle.vm_law.specs.declared.journal.Entry.{Entry}
use Rattle.vm_law.specs.declared.journal.Entry.TheVariants.{Claim, Yield, Turn, Feed, Wish, Meet, Done, End, Close, Tick}
use Rattle.vm_law.specs.declared.journal.EndCause.TheVariants.{Budget}
use Rattle.vm_state.specs.Machine.{cpu_numbers}
use Rattle.vm_state.specs.State.{State}
use Rattle.vm_orders.specs.Duties.{tick_of}
use Rattle.vm_orders.specs.Ending.{entry_limit, is_used_up, may_end}
use Rattle.vm_table.specs.Table.{allowed, lawful}
use Rattle.vm_table.specs.Turns.{control_list, list_of}
use Rattle.vm_laws.specs.Waiting.{Ends, PicksTheEnd}
use Rattle.vm_laws.proofs.Lists.{clash}
use Rattle.vm_laws.proofs.Rests.{control_rests}

abbrev EndsIn : Option Entry → Type 0
EndsIn None = Unit {0}
EndsIn (Some e) = Ends e

abbrev AllEnd : List Entry → Type 0
AllEnd [] = Unit {0}
AllEnd (e ∷ es) = Ends e × AllEnd es

front_at : (t : Entry → Bool) (x : Entry) (xs : List Entry) (y : Entry) (ys : List Entry) (b : Bool) (e : Entry) → Ends x → (find t (xs ++ y ∷ ys) ≡ Some e → Ends e) → cond b (Some x) (find t (xs ++ y ∷ ys)) ≡ Some e → Ends e
front_at t x xs y ys true e f rest h = subst (λ (o : Option Entry). EndsIn o) h f
front_at t x xs y ys false e f rest h = rest h

last_at : (x : Entry) (o : Option Entry) (b : Bool) (e : Entry) → Ends x → b ≡ true → cond b (Some x) o ≡ Some e → Ends e
last_at x o true e f t h = subst (λ (o : Option Entry). EndsIn o) h f
last_at x o false e f t h = absurd (true≢false (sym t))

-- where the entry after the front passes, what is found is in the front or is that one
front : (t : Entry → Bool) (xs : List Entry) (y : Entry) (ys : List Entry) (e : Entry) → AllEnd xs → Ends y → t y ≡ true → find t (xs ++ y ∷ ys) ≡ Some e → Ends e
front t [] y ys e a f p h = last_at y (find t ys) (t y) e f p h
front t (x ∷ xs) y ys e a f p h = front_at t x xs y ys (t x) e a.0 (λ k. front t xs y ys e a.1 f p k) h

join_ends : (xs ys : List Entry) → AllEnd xs → AllEnd ys → AllEnd (xs ++ ys)
join_ends [] ys a b = b
join_ends (x ∷ xs) ys a b = (a.0, join_ends xs ys a.1 b)

all_of : (f : ℕ → Entry) → ((i : ℕ) → Ends (f i)) → (is : List ℕ) → AllEnd (map f is)
all_of f h [] = tt
all_of f h (i ∷ is) = (h i, all_of f h is)

-- what stands before the end by a used up budget
abbrev numbered : State → List Entry
numbered s = map (λ i. Turn i) (cpu_numbers s.machine) ++ map (λ i. Yield i) (cpu_numbers s.machine) ++ map (λ i. Claim i) (cpu_numbers s.machine)

abbrev front_list : State → List Entry
front_list s = numbered s ++ Feed ∷ Tick (tick_of s) ∷ []

front_ends : (s : State) → AllEnd (front_list s)
front_ends s =
    let turns = map (λ i. Turn i) (cpu_numbers s.machine) in
    let yields = map (λ i. Yield i) (cpu_numbers s.machine) in
    let claims = map (λ i. Claim i) (cpu_numbers s.machine) in
    let a : AllEnd (turns ++ yields) = join_ends turns yields (all_of (λ i. Turn i) (λ i. tt) (cpu_numbers s.machine)) (all_of (λ i. Yield i) (λ i. tt) (cpu_numbers s.machine)) in
    let b : AllEnd (turns ++ yields ++ claims) = join_ends (turns ++ yields) claims a (all_of (λ i. Claim i) (λ i. tt) (cpu_numbers s.machine)) in
    join_ends (turns ++ yields ++ claims) (Feed ∷ Tick (tick_of s) ∷ []) b (tt, (tt, tt))

again : (xs : List Entry) (x y z : Entry) (zs : List Entry) → xs ++ x ∷ y ∷ z ∷ zs ≡ (xs ++ x ∷ y ∷ []) ++ z ∷ zs
again [] x y z zs = refl
again (w ∷ xs) x y z zs = ap (λ (es : List Entry). w ∷ es) (again xs x y z zs)

budget_lawful : (s : State) → s.closed ≡ false → s.ended ≡ None → nat_le entry_limit s.entries ≡ true → lawful s 0 (End Budget) ≡ true
unfolding lawful allowed may_end is_used_up
budget_lawful s g e n = rw (g, n, e) refl

control_turn : (s : State) → list_of s 0 ≡ control_list s
unfolding list_of
control_turn s = refl

picks : (s : State) (e : Entry) → s.closed ≡ false → s.ended ≡ None → nat_le entry_limit s.entries ≡ true → find (λ x. lawful s 0 x) (control_list s) ≡ Some e → Ends e
unfolding control_list
picks s e g none n h =
    let rest = Wish ∷ Meet ∷ Done s.place ∷ Close ∷ [] in
    let same : numbered s ++ Feed ∷ Tick (tick_of s) ∷ End Budget ∷ rest ≡ front_list s ++ End Budget ∷ rest = again (numbered s) Feed (Tick (tick_of s)) (End Budget) rest in
    front (λ x. lawful s 0 x) (front_list s) (End Budget) rest e (front_ends s) tt (budget_lawful s g none n) (sym (ap (λ (es : List Entry). find (λ x. lawful s 0 x) es) same) ∙ h)

budget_may : (s : State) → s.ended ≡ None → nat_le entry_limit s.entries ≡ true → may_end s 0 Budget ≡ true
unfolding may_end is_used_up
budget_may s e n = rw (n, e) refl

pub control_picks : (s : State) → s.closed ≡ false → s.ended ≡ None → nat_le entry_limit s.entries ≡ true → PicksTheEnd s
control_picks s g e n = record {
  some = λ h. clash _ (budget_may s e n) (control_rests s g h).over;
  ends = λ x h. picks s x g e n (sym (ap (λ (es : List Entry). find (λ x. lawful s 0 x) es) (control_turn s)) ∙ h);
}
