-- Words that give no command, and commands for which memory is out before anything was done.
use Rattle.std.proofs.Common.{◌≡◌, ℕ, zero, suc, Bool, true, [], ◌∷◌, Option, None, Contains, refl, sym, subst, ◌∙◌, arith}
use Rattle.vm_cmd.specs.declared.command.Command.{Command}
use Rattle.vm_cmd.specs.declared.command.CmdError.{CmdError}
use Rattle.vm_cmd.specs.declared.command.CmdError.TheVariants as words
use Rattle.vm_host.specs.Crash.{SinceEarlier}
use Rattle.vm_host.specs.Views.{HostView, SinkView}
use Rattle.vm_outcome.specs.declared.outcome.Ending.{Ending}
use Rattle.vm_outcome.specs.declared.outcome.Ending.TheVariants as how
use Rattle.vm_outcome.specs.declared.outcome.Kept.{Kept}
use Rattle.vm_outcome.specs.Telling as telling
use Rattle.vm_outcome.specs.Telling.{IsRefusal, TakesLine, Tells}
use Rattle.vm_run.specs.Answer.{Does, statuses}
use Rattle.vm_run.specs.Refusing.{TellsRefusal, refusal_of}
use Rattle.vm_run.proofs.Commands.{spent_works}
use Rattle.vm_run.proofs.Tops.{told_does}
use Rattle.vm_status.specs.Lines.{line_of, status_of}
use Rattle.vm_status.specs.declared.refusal.Refusal.{Refusal}
use Rattle.vm_status.specs.declared.refusal.Refusal.TheVariants.{Memory}

-- ---- errors of words

pub not_usage : (e : CmdError) → (e ≡ words.Usage → ⊥) → refusal_of e ≡ Memory
not_usage words.Usage other = absurd (other refl)
not_usage words.Memory other = refl

pub usage_status : (e : CmdError) → Contains (2 ∷ 71 ∷ []) (status_of (refusal_of e))
usage_status words.Usage = (0, omega arith, refl)
usage_status words.Memory = (1, omega arith, refl)

pub is_usage : (e : CmdError) → status_of (refusal_of e) ≡ 2 → e ≡ words.Usage
is_usage words.Usage is = refl
is_usage words.Memory is = absurd (omega (arith, is))

-- no command ends with the status of words that give none
pub no_usage : (n : ℕ) → Contains statuses n → n ≡ 2 → ⊥
no_usage n (zero, l, e) two = omega (arith, e, two)
no_usage n (suc zero, l, e) two = omega (arith, e, two)
no_usage n (suc (suc zero), l, e) two = omega (arith, e, two)
no_usage n (suc (suc (suc zero)), l, e) two = omega (arith, e, two)
no_usage n (suc (suc (suc (suc zero))), l, e) two = omega (arith, e, two)
no_usage n (suc (suc (suc (suc (suc zero)))), l, e) two = omega (arith, e, two)
no_usage n (suc (suc (suc (suc (suc (suc zero))))), l, e) two = omega (arith, e, two)
no_usage n (suc (suc (suc (suc (suc (suc (suc zero)))))), l, e) two = omega (arith, e, two)
no_usage n (suc (suc (suc (suc (suc (suc (suc (suc zero))))))), l, e) two = omega (arith, e, two)
no_usage n (suc (suc (suc (suc (suc (suc (suc (suc (suc k)))))))), l, e) two = omega (arith, l)

-- ---- what the log is told of a refusal

module _ {L : Type 0} (r : Refusal) (before ending : Ending) (kept : Option Kept) (state : Bool) (log log_now : L) (old new : SinkView) (is : before ≡ how.Refused r) where
  pub told_refusal : Tells before kept state ending log log_now old new → (ending ≡ how.Refused r) × TakesLine (line_of r) old new
  told_refusal (telling.refused q at same line) =
      let e : q ≡ r = (let s : how.Refused q ≡ how.Refused r = sym at ∙ is in cc) in
      (same ∙ is, subst (λ (x : Refusal). TakesLine (line_of x) old new) e line)
  told_refusal (telling.ran k at fine h) = absurd (fine (subst IsRefusal (sym is) tt))
  told_refusal (telling.silent none fine same still) = absurd (fine (subst IsRefusal (sym is) tt))

  pub tells_refusal : Tells before kept state ending log log_now old new → TellsRefusal ending old new
  tells_refusal h = let t = told_refusal h in subst (λ (x : Ending). TellsRefusal x old new) (sym t.0) t.1

-- ---- memory was out before the command was known

pub spent_does : {A B L : Type 0} (see : A → HostView) (watch : B → SinkView) (heed : L → SinkView) (host : A) (console : B) (log log_now : L)
    (earlier : (see host).tells ≡ true → SinceEarlier (see host).left) (command : Command) (ending : Ending) → (ending ≡ how.Refused Memory) × TakesLine (line_of Memory) (heed log) (heed log_now)
    → Does see watch heed command host host console console log log_now ending None
spent_does see watch heed host console log log_now earlier command ending (e, line) =
    told_does see watch heed command host host console console log log_now (how.Refused Memory) None (spent_works see watch host console earlier command) ending
    (telling.refused Memory refl e line)
