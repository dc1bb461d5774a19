-- A script that a plan allows is one whose orders may stand, each as the pause is when it comes.
use Rattle.std.proofs.Common.{◌≡◌, ℕ, ◌<◌, ◌≤◌, Bool, true, false, not, List, [], ◌∷◌, length, refl, sym, ap, ◌∙◌, arith}
use Rattle.std.proofs.lemmas.Bool.{and_parts, true≢false}
use Rattle.std.proofs.lemmas.Bool.Decides.{nat_tests}
use Rattle.std.proofs.lemmas.Grind.{common_steps}
use Rattle.vm_law.specs.declared.plan.Plan.{Plan}
use Rattle.vm_law.specs.declared.script.Order.{Order}
use Rattle.vm_law.specs.declared.script.Order.TheVariants.{WaitQuiet, WaitConsole, WaitExecuted, Input, Nmi, Rendezvous, Pause, Resume, Checkpoint, Set, Get, Cancel, Against, Send}
use Rattle.vm_state.specs.Script.{Past, may_stand, and_then, may_follow, no_past, is_allowed}
use Rattle.vm_state.specs.Sound.{IsNext, ScriptFits}

-- ---- what an order asks of what came before

clash : (b : Bool) → b ≡ false → b ≡ true → ⊥
clash b f t = true≢false (sym t ∙ f)

clash_not : (b : Bool) → b ≡ true → not b ≡ true → ⊥
clash_not b t f = true≢false (sym f ∙ ap (λ x. not x) t)

quiet_tells : (plan : Plan) (past : Past) → may_stand plan past WaitQuiet ≡ true → not past.paused ≡ true
unfolding may_stand
quiet_tells plan past m = m

console_tells : (plan : Plan) (past : Past) (n : ℕ) → may_stand plan past (WaitConsole n) ≡ true → not past.paused ≡ true
unfolding may_stand
console_tells plan past n m = grind (arith, nat_tests, common_steps, and_parts)

executed_tells : (plan : Plan) (past : Past) (n : ℕ) → may_stand plan past (WaitExecuted n) ≡ true → not past.paused ≡ true
unfolding may_stand
executed_tells plan past n m = grind (arith, nat_tests, common_steps, and_parts)

pause_tells : (plan : Plan) (past : Past) → may_stand plan past Pause ≡ true → not past.paused ≡ true
unfolding may_stand
pause_tells plan past m = m

resume_tells : (plan : Plan) (past : Past) → may_stand plan past Resume ≡ true → past.paused ≡ true
unfolding may_stand
resume_tells plan past m = m

nmi_tells : (plan : Plan) (past : Past) (i : ℕ) → may_stand plan past (Nmi i) ≡ true → i < plan.cpus
unfolding may_stand
nmi_tells plan past i m = grind (arith, nat_tests)

checkpoint_tells : (plan : Plan) (past : Past) (name : List ℕ) → may_stand plan past (Checkpoint name) ≡ true → past.paused ≡ true
unfolding may_stand
checkpoint_tells plan past name m = grind (arith, nat_tests, common_steps, and_parts)

against_tells : (plan : Plan) (past : Past) (name base : List ℕ) → may_stand plan past (Against name base) ≡ true → past.paused ≡ true
unfolding may_stand
against_tells plan past name base m = grind (arith, nat_tests, common_steps, and_parts)

record RegisterTells (plan : Plan) (past : Past) (i register : ℕ) : Type 0 where
  paused : past.paused ≡ true
  cpu : i < plan.cpus
  reg : register < 18

set_tells : (plan : Plan) (past : Past) (i reg value : ℕ) → may_stand plan past (Set i reg value) ≡ true → RegisterTells plan past i reg
unfolding may_stand
set_tells plan past i reg value m = record {
  paused = grind (arith, nat_tests, common_steps, and_parts);
  cpu = grind (arith, nat_tests, common_steps, and_parts);
  reg = grind (arith, nat_tests, common_steps, and_parts);
}

get_tells : (plan : Plan) (past : Past) (i reg : ℕ) → may_stand plan past (Get i reg) ≡ true → RegisterTells plan past i reg
unfolding may_stand
get_tells plan past i reg m = record {
  paused = grind (arith, nat_tests, common_steps, and_parts);
  cpu = grind (arith, nat_tests, common_steps, and_parts);
  reg = grind (arith, nat_tests, common_steps, and_parts);
}

-- ---- it may stand where the pause is as it was left

next_fits : (plan : Plan) (past : Past) (b : Bool) → past.paused ≡ b → (o : Order) → may_stand plan past o ≡ true → IsNext plan.cpus b o (and_then past o).paused
unfolding and_then
next_fits plan past false e WaitQuiet m = e
next_fits plan past false e (WaitConsole n) m = e
next_fits plan past false e (WaitExecuted n) m = e
next_fits plan past false e (Input bytes) m = e
next_fits plan past false e (Nmi i) m = (e, nmi_tells plan past i m)
next_fits plan past false e Rendezvous m = e
next_fits plan past false e Pause m = refl
next_fits plan past false e Resume m = absurd (clash past.paused e (resume_tells plan past m))
next_fits plan past false e (Checkpoint name) m = absurd (clash past.paused e (checkpoint_tells plan past name m))
next_fits plan past false e (Against name base) m = absurd (clash past.paused e (against_tells plan past name base m))
next_fits plan past false e (Send name) m = e
next_fits plan past false e (Set i reg value) m = absurd (clash past.paused e (set_tells plan past i reg value m).paused)
next_fits plan past false e (Get i reg) m = absurd (clash past.paused e (get_tells plan past i reg m).paused)
next_fits plan past false e (Cancel d id) m = e
next_fits plan past true e WaitQuiet m = absurd (clash_not past.paused e (quiet_tells plan past m))
next_fits plan past true e (WaitConsole n) m = absurd (clash_not past.paused e (console_tells plan past n m))
next_fits plan past true e (WaitExecuted n) m = absurd (clash_not past.paused e (executed_tells plan past n m))
next_fits plan past true e (Input bytes) m = e
next_fits plan past true e (Nmi i) m = (e, nmi_tells plan past i m)
next_fits plan past true e Rendezvous m = e
next_fits plan past true e Pause m = absurd (clash_not past.paused e (pause_tells plan past m))
next_fits plan past true e Resume m = refl
next_fits plan past true e (Checkpoint name) m = e
next_fits plan past true e (Against name base) m = e
next_fits plan past true e (Send name) m = e
next_fits plan past true e (Set i reg value) m = let t = set_tells plan past i reg value m in (e, t.cpu, t.reg)
next_fits plan past true e (Get i reg) m = let t = get_tells plan past i reg m in (e, t.cpu, t.reg)
next_fits plan past true e (Cancel d id) m = e

script_fits : (plan : Plan) (past : Past) (os : List Order) → may_follow plan past os ≡ true → ScriptFits plan.cpus past.paused os
unfolding may_follow
script_fits plan past [] h = tt
script_fits plan past (o ∷ os) h =
    let t = and_parts (may_stand plan past o) (may_follow plan (and_then past o) os) h in
    ((and_then past o).paused, next_fits plan past past.paused refl o t.0, script_fits plan (and_then past o) os t.1)

-- ---- a script from its front

pub record IsFront (plan : Plan) (script : List Order) : Type 0 where
  pub some : 1 ≤ length script
  pub few : length script ≤ 10000
  pub fits : ScriptFits plan.cpus false script

follows_tells : (plan : Plan) (script : List Order) → is_allowed plan script ≡ true → may_follow plan no_past script ≡ true
follows_tells plan script h = grind (arith, nat_tests, common_steps, and_parts)

counts_tell : (plan : Plan) (script : List Order) → is_allowed plan script ≡ true → (1 ≤ length script) × (length script ≤ 10000)
counts_tell plan script h = (grind (arith, nat_tests, common_steps, and_parts), grind (arith, nat_tests, common_steps, and_parts))

pub allowed_fits : (plan : Plan) (script : List Order) → is_allowed plan script ≡ true → IsFront plan script
allowed_fits plan script h =
    let c = counts_tell plan script h in
    record { some = c.0; few = c.1; fits = script_fits plan no_past script (follows_tells plan script h) }
