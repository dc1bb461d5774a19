use Rattle.std.proofs.Common.{Option, subst}
use Rattle.x86_exec.specs.declared.effect.Stored.{Stored}
use Rattle.x86_exec.specs.Kept.{Stores}
use Rattle.x86_fetch.proofs.Sharing.{stored_right}
use Rattle.x86_fetch.proofs.cached_ram.forget_stored.Goals as goal

pub returns-then-stored-code : goal.returns-then-stored-code
returns-then-stored-code c = λ old new code stores kept.
    stored_right old new c.in-Some.stored c.from.result c.args.table.now c.forget.new.self c.from.ensures (subst (λ (o : Option Stored). Stores o old new) c.in-Some.is stores) kept c.forget.ensures
