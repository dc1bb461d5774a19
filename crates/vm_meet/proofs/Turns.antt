-- A meeting that opens is open, and after a turn it is open still or was filled.
use Rattle.std.specs.Prelude.{if◌then◌else◌, ◌↔◌, not, IfSome}
use Rattle.std.proofs.Common.{◌≡◌, ◌≢◌, ℕ, ◌<◌, ◌≤◌, Bool, true, false, ◌||◌, eqb, refl, sym, ap, subst, arith, inl, inr, ◌∙◌, IsTrue, Option, Some, None}
use Rattle.std.proofs.lemmas.Bool.{cases_lt, cases_eq, and_parts}
use Rattle.std.proofs.lemmas.Bool.Decides.{nat_tests}
use Rattle.std.proofs.lemmas.Grind.{common_steps}
use Rattle.std.specs.Ordering.{nat_cmp}
use Rattle.std.specs.Cmp.{nat_cmp_total}
use Rattle.std.specs.FinSet.{contains, insert, empty, is_subset, same_set, members, nat_cmp-IsAntisymmetric, contains-empty, is_subset-contains, contains-is_subset}
use Rattle.vm_law.specs.declared.stage.MeetKind.{MeetKind}
use Rattle.vm_law.specs.CpuSet.{Cpus, has}
use Rattle.vm_meet.specs.declared.meeting.Meeting.{Meeting}
use Rattle.vm_meet.specs.Meeting.{IsOpen, is_awaited, is_last, done_with, awaits, closes, turned}

none_inside : (t : Cpus) → is_subset empty t ≡ true
none_inside t = contains-is_subset nat_cmp_total empty t (λ q one. let none = contains-empty nat_cmp q in absurd cc)

pub opens : (kind : MeetKind) (by : ℕ) (named nobody : Cpus) → nobody ≡ empty → named ≢ empty → IsOpen (record { kind = kind; by = by; named = named; done = nobody })
opens kind by named nobody none some =
    record {
      some_named = some;
      inside = subst (λ (s : Cpus). is_subset s named ≡ true) (sym none) (none_inside named);
      some_left = λ e. some (sym e ∙ none);
    }

same_truth : (a b : Bool) → (a ≡ true → b ≡ true) → (b ≡ true → a ≡ true) → a ≡ b
same_truth true b f g = sym (f refl)
same_truth false true f g = g refl
same_truth false false f g = refl

same_both : (s t : Cpus) → is_subset s t ≡ true → is_subset t s ≡ true → s ≡ t
same_both s t st ts = same_set nat_cmp_total nat_cmp-IsAntisymmetric s t (λ q. same_truth (contains s q) (contains t q) (is_subset-contains nat_cmp_total s t st q) (is_subset-contains nat_cmp_total t s ts q))

inside_itself : (s : Cpus) → is_subset s s ≡ true
inside_itself s = contains-is_subset nat_cmp_total s s (λ q one. one)

has_insert : (s : Cpus) (n q : ℕ) → contains (insert s n) q ≡ (eqb q n || contains s q)
has_insert s n q = grind (arith, members, nat_tests, common_steps)

with_one : (s t : Cpus) (cpu : ℕ) → is_subset s t ≡ true → contains t cpu ≡ true → is_subset (insert s cpu) t ≡ true
with_one s t cpu st one =
    contains-is_subset nat_cmp_total (insert s cpu) t (λ q there. elim (cases_eq q cpu) [
      | inl e ↦ subst (λ x. contains t x ≡ true) (sym e) one
      | inr ne ↦ is_subset-contains nat_cmp_total s t st q (let step = has_insert s cpu q in grind (arith, nat_tests, common_steps))
    ])

-- those who are named are filled exactly by the last turn
pub filled_is_last : (m : Meeting) (cpu : ℕ) → IsOpen m → is_awaited m cpu ≡ true → (last : Bool) → (IsTrue last ↔ (done_with m cpu ≡ m.named)) → last ≡ is_last m cpu
filled_is_last m cpu is awaited last same =
    let parts = and_parts (has m.named cpu) (not (has m.done cpu)) awaited in
    let inside = with_one m.done m.named cpu is.inside parts.0 in
    same_truth last (is_last m cpu)
    (λ t. subst (λ (s : Cpus). is_subset m.named s ≡ true) (sym (same.0 t)) (inside_itself m.named))
    (λ t. same.1 (same_both (done_with m cpu) m.named inside t))

-- where it wasn't the last turn, the meeting stays open
pub stays_open : (m : Meeting) (cpu : ℕ) → IsOpen m → is_awaited m cpu ≡ true → done_with m cpu ≢ m.named → IsOpen (record m { done = done_with m cpu })
stays_open m cpu is awaited left =
    let parts = and_parts (has m.named cpu) (not (has m.done cpu)) awaited in
    record { some_named = is.some_named; inside = with_one m.done m.named cpu is.inside parts.0; some_left = left }

-- a vCPU that is waited for is one of sixteen
pub awaited_is_small : (m : Meeting) (cpu : ℕ) → is_awaited m cpu ≡ true → ((i : ℕ) → 16 ≤ i → has m.named i ≡ false) → cpu < 16
awaited_is_small m cpu awaited small =
    let parts = and_parts (has m.named cpu) (not (has m.done cpu)) awaited in
    elim (cases_lt cpu 16) [ inl l ↦ l | inr g ↦ (let none = small cpu g in let there = parts.0 in absurd cc) ]

-- the turn closes the meeting exactly where it was the last
pub turn_closes : (o : Option Meeting) (m : Meeting) (cpu : ℕ) → o ≡ Some m → IfSome o IsOpen → awaits o cpu ≡ true → (last : Bool) → (IsTrue last ↔ (done_with m cpu ≡ m.named)) → last ≡ closes o cpu
turn_closes o m cpu e is waits last same =
    filled_is_last m cpu (subst (λ (v : Option Meeting). IfSome v IsOpen) e is) (subst (λ (v : Option Meeting). awaits v cpu ≡ true) e waits) last same
    ∙ sym (ap (λ (v : Option Meeting). closes v cpu) e)

after_choice : (m : Meeting) (cpu : ℕ) (last : Bool) → last ≡ is_last m cpu → turned (Some m) cpu ≡ (if last then None else Some (record m { done = done_with m cpu }))
after_choice m cpu last e = ap (λ (b : Bool). if b then None else Some (record m { done = done_with m cpu })) (sym e)

pub turn_leaves : (o : Option Meeting) (m : Meeting) (cpu : ℕ) → o ≡ Some m → IfSome o IsOpen → awaits o cpu ≡ true → (last : Bool) → (IsTrue last ↔ (done_with m cpu ≡ m.named)) → turned o cpu ≡ (if last then None else Some (record m { done = done_with m cpu }))
turn_leaves o m cpu e is waits last same =
    ap (λ (v : Option Meeting). turned v cpu) e
    ∙ after_choice m cpu last (filled_is_last m cpu (subst (λ (v : Option Meeting). IfSome v IsOpen) e is) (subst (λ (v : Option Meeting). awaits v cpu ≡ true) e waits) last same)

pub ruleset turns = (filled_is_last, stays_open, awaited_is_small)

-- a set with a member isn't empty
pub some_member : (s : Cpus) (cpu : ℕ) → has s cpu ≡ true → s ≢ empty
some_member s cpu there e = let none = contains-empty nat_cmp cpu in let same = ap (λ (t : Cpus). contains t cpu) e in absurd cc

pub with_member : (s : Cpus) (cpu : ℕ) → insert s cpu ≢ empty
with_member s cpu = some_member (insert s cpu) cpu (let step = has_insert s cpu cpu in grind (arith, nat_tests, common_steps))
