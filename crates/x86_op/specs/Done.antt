-- What an instruction computes: the context after it, and the value for its operand in memory, where it stores one.
use Rattle.std.specs.Prelude.{ℕ}
use Rattle.vm_law.specs.declared.context.Ctx.{Ctx}

pub record Done : Type 0 where
  pub ctx : Ctx
  pub stored : ℕ

-- the flags register replaced
unfoldable pub flagged : Ctx → ℕ → Ctx
flagged c rflags = record c { rflags = rflags }

-- a context, and nothing to store
abbrev pub only : Ctx → Done
only c = record { ctx = c; stored = 0 }
