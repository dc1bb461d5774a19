-- What holds wherever a chain of steps ends holds of the chain.
use Rattle.std.proofs.Common.{◌≡◌, ℕ, true, Result, Ok, Err, List, refl, sym, ap, ◌∙◌}
use Rattle.vm_law.specs.Memory.{Memory}
use Rattle.vm_law.specs.declared.context.Ctx.{Ctx}
use Rattle.vm_law.specs.declared.insn.Insn.{Insn}
use Rattle.vm_law.specs.declared.insn.Mem.{Mem}
use Rattle.vm_bus.specs.Area.{area_in}
use Rattle.x86_op.specs.declared.access.Access.{Access}
use Rattle.x86_op.specs.Operand.{RSP, register, passed}
use Rattle.x86_op.specs.Address.{address_of}
use Rattle.x86_op.specs.Done.{Done}
use Rattle.x86_op.specs.Table.{computed}
use Rattle.x86_exec.specs.declared.effect.Effect.{Effect}
use Rattle.x86_exec.specs.declared.effect.Effect.TheVariants as effect
use Rattle.x86_exec.specs.declared.reached.Place.{Place}
use Rattle.x86_exec.specs.Steps.{◌>>=◌, ◌>>◌}
use Rattle.x86_exec.specs.Reached.{reached, bytes_at}
use Rattle.x86_exec.specs.Shared.{Shared, asks, settled, is_plain, loaded, divides, stored_at, ended, stores, accessed, alone, iret, returned, lidt, with_idt}

bound : {A : Type 0} (c : Ctx) (mem : Memory) (P : Shared → Type 0) (r : Result A Effect) (f : A → Result Shared Effect)
    → ((e : Effect) → P (asks e c mem)) → ((x : A) → r ≡ Ok x → P (settled c mem (f x))) → P (settled c mem (r >>= f))
bound c mem P (Ok x) f stops goes = goes x refl
bound c mem P (Err e) f stops goes = stops e

passed_on : (c : Ctx) (mem : Memory) (P : Shared → Type 0) (r : Result (Unit {0}) Effect) (s : Shared)
    → ((e : Effect) → P (asks e c mem)) → P s → P (settled c mem (r >> Ok s))
passed_on c mem P (Ok x) s stops goes = goes
passed_on c mem P (Err e) s stops goes = stops e

pub accessed_ends : (c : Ctx) (insn : Insn) (len : ℕ) (mem : Memory) (a : Access) (P : Shared → Type 0) → ((e : Effect) → P (asks e c mem))
    → ((p : Place) (read : ℕ) → reached (is_plain insn) (area_in mem a.at a.len) ≡ Ok p → P (ended mem a p (computed c insn len read) (stores c insn read a.way)))
    → P (settled c mem (accessed c insn len mem a))
unfolding accessed
accessed_ends c insn len mem a P stops goes =
    let last : Place → ℕ → Shared = λ p read. ended mem a p (computed c insn len read) (stores c insn read a.way) in
    bound c mem P (reached (is_plain insn) (area_in mem a.at a.len)) (λ p. loaded mem a p a.way >>= (λ read. divides c insn read >> Ok (last p read))) stops (λ p is.
    bound c mem P (loaded mem a p a.way) (λ read. divides c insn read >> Ok (last p read)) stops (λ read number.
    passed_on c mem P (divides c insn read) (last p read) stops (goes p read is)))

pub alone_ends : (c : Ctx) (insn : Insn) (len : ℕ) (mem : Memory) (P : Shared → Type 0) → ((e : Effect) → P (asks e c mem))
    → P (asks effect.Done (computed c insn len 0).ctx mem) → P (settled c mem (alone c insn len mem))
unfolding alone
alone_ends c insn len mem P stops goes = passed_on c mem P (divides c insn 0) (asks effect.Done (computed c insn len 0).ctx mem) stops goes

pub iret_ends : (c : Ctx) (len : ℕ) (mem : Memory) (P : Shared → Type 0) → ((e : Effect) → P (asks e c mem))
    → ((frame : List ℕ) → P (asks effect.Done (returned c len frame) mem)) → P (settled c mem (iret c len mem))
unfolding iret
iret_ends c len mem P stops goes =
    bound c mem P (bytes_at mem (register c RSP) 40) (λ frame. Ok (asks effect.Done (returned c len frame) mem)) stops (λ frame is. goes frame)

pub lidt_ends : (c : Ctx) (len : ℕ) (mem : Memory) (a : Mem) (P : Shared → Type 0) → ((e : Effect) → P (asks e c mem))
    → ((operand : List ℕ) → P (asks effect.Done (with_idt c len operand) mem)) → P (settled c mem (lidt c len mem a))
unfolding lidt
lidt_ends c len mem a P stops goes =
    bound c mem P (bytes_at mem (address_of (passed c len) a) 10) (λ operand. Ok (asks effect.Done (with_idt c len operand) mem)) stops (λ operand is. goes operand)

-- where no step stops
pub accessed_is : (c : Ctx) (insn : Insn) (len : ℕ) (mem : Memory) (a : Access) (p : Place) (read : ℕ)
    → reached (is_plain insn) (area_in mem a.at a.len) ≡ Ok p → loaded mem a p a.way ≡ Ok read → divides c insn read ≡ Ok tt
    → accessed c insn len mem a ≡ Ok (ended mem a p (computed c insn len read) (stores c insn read a.way))
unfolding accessed
accessed_is c insn len mem a p read goes number divided = rw (goes, number, divided) refl

-- and where there is a store besides
pub stored_is : (c : Ctx) (insn : Insn) (len : ℕ) (mem : Memory) (a : Access) (p : Place) (read : ℕ) (after : Ctx) (number : ℕ) (s : Shared)
    → reached (is_plain insn) (area_in mem a.at a.len) ≡ Ok p → loaded mem a p a.way ≡ Ok read → divides c insn read ≡ Ok tt → stores c insn read a.way ≡ true
    → after ≡ (computed c insn len read).ctx → number ≡ (computed c insn len read).stored → s ≡ stored_at mem a (record { ctx = after; stored = number }) p
    → Ok s ≡ accessed c insn len mem a
unfolding ended
stored_is c insn len mem a p read after number s goes known divided store by_ctx by_number is =
    sym (accessed_is c insn len mem a p read goes known divided ∙ ap (λ b. Ok (ended mem a p (computed c insn len read) b)) store
    ∙ ap (λ d. Ok (stored_at mem a d p)) (done_is (computed c insn len read) after number by_ctx by_number) ∙ ap (λ x. Ok x) (sym is))
  where
    done_is : (d : Done) (x : Ctx) (n : ℕ) → x ≡ d.ctx → n ≡ d.stored → d ≡ record { ctx = x; stored = n }
    done_is d x n e f = rw (e, f) refl
