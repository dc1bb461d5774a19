-- The Slice of the most local instructions that a grant leaves is the greatest that is lawful.
use Rattle.std.specs.Prelude.{if◌then◌else◌, ◌&&◌, not, nat_le}
use Rattle.std.proofs.Common.{◌≡◌, ℕ, zero, suc, ◌<◌, ◌≤◌, Bool, List, true, false, refl, sym, ap, subst, ◌∙◌, arith, inl, inr}
use Rattle.std.proofs.lemmas.Bool.{cases_Bool, cases_lt}
use Rattle.std.proofs.lemmas.Bool.Decides.{nat_tests}
use Rattle.vm_law.specs.declared.context.Ctx.{Ctx}
use Rattle.vm_law.specs.declared.journal.Entry.TheVariants.{Slice}
use Rattle.x86_fetch.specs.Slices.{all_local, most_local}
use Rattle.vm_meet.specs.Meeting.{started_by}
use Rattle.vm_state.specs.Machine.{code_of, cpu_at, is_cpu, is_running}
use Rattle.vm_state.specs.State.{State, seat_at}
use Rattle.vm_running.specs.Slice.{has_slice, may_slice}
use Rattle.vm_table.specs.Table.{allowed, lawful}
use Rattle.vm_table.specs.Turns.{IsGreatestSlice}

-- no more instructions are local than the most
more_not_local : (code : List ℕ) (c : Ctx) (n m : ℕ) → most_local code c n < m → m ≤ n → all_local code c m ≡ false
more_not_local code c zero m lt le = absurd (omega (arith, lt, le))
more_not_local code c (suc n) m lt le =
    elim (cases_Bool (all_local code c (suc n))) [
      | inl all ↦
          let e : most_local code c (suc n) ≡ suc n = ap (λ (b : Bool). if b then suc n else most_local code c n) all in
          absurd (omega (arith, lt, le, e))
      | inr some ↦
          let e : most_local code c (suc n) ≡ most_local code c n = ap (λ (b : Bool). if b then suc n else most_local code c n) some in
          elim (cases_lt n m) [
            | inl past ↦ (let same : m ≡ suc n = omega (arith, past, le) in subst (λ (k : ℕ). all_local code c k ≡ false) (sym same) some)
            | inr within ↦ more_not_local code c n m (omega (arith, lt, e)) within
          ]
    ]

and_false : (a : Bool) → (a && false) ≡ false
and_false true = refl
and_false false = refl

past_left : (a b c d e f : Bool) → e ≡ false → ((a && b && c && d && e) && f) ≡ false
past_left a b c d e f h = ap (λ (x : Bool). (a && b && c && d && x) && f) h ∙ ap (λ (x : Bool). x && f) (and_false (a && b && c && d))

more_not_lawful : (s : State) (p i m : ℕ) → most_local (code_of s.machine) (cpu_at s.machine i).ctx (seat_at s i).left < m → lawful s p (Slice i m) ≡ false
unfolding lawful allowed may_slice has_slice
more_not_lawful s p i m lt =
    let left = (seat_at s i).left in
    let local = all_local (code_of s.machine) (cpu_at s.machine i).ctx m in
    elim (cases_lt left m) [
      | inl past ↦
          let over : nat_le m left ≡ false = grind (arith, nat_tests) in
          ap (λ (b : Bool). not s.closed && (b && local)) (past_left (is_cpu s.machine i) (is_running (cpu_at s.machine i).stage p) (not (cpu_at s.machine i).halted) (nat_le 1 m) (nat_le m left) (not (started_by s.machine.meet p)) over) ∙ and_false (not s.closed)
      | inr within ↦
          ap (λ (b : Bool). not s.closed && (has_slice s p i m && b)) (more_not_local (code_of s.machine) (cpu_at s.machine i).ctx left m lt within)
          ∙ ap (λ (b : Bool). not s.closed && b) (and_false (has_slice s p i m)) ∙ and_false (not s.closed)
    ]

pub greatest : (s : State) (p i n : ℕ) → n ≡ most_local (code_of s.machine) (cpu_at s.machine i).ctx (seat_at s i).left → lawful s p (Slice i n) ≡ true → IsGreatestSlice s p i n
greatest s p i n e may = record { may = may; greatest = λ m lt. more_not_lawful s p i m (subst (λ (k : ℕ). k < m) e lt) }
