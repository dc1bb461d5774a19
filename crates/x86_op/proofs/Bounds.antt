-- An access has from 1 to 8 bytes, and one that stores is at an address.
use Rattle.std.proofs.Common.{ℕ, ◌/◌, ◌^◌, ◌<◌, ◌≤◌, Option, Some, None, arith}
use Rattle.vm_law.specs.declared.context.Ctx.{Ctx}
use Rattle.vm_law.specs.declared.insn.Width.{Width}
use Rattle.vm_law.specs.declared.insn.Width.TheVariants as width
use Rattle.vm_law.specs.declared.insn.Mem.{Mem}
use Rattle.vm_law.specs.declared.insn.Insn.{Insn}
use Rattle.x86_alu.specs.Operand.{size_of}
use Rattle.x86_op.specs.declared.access.Way.{Way}
use Rattle.x86_op.specs.declared.access.Way.TheVariants as way
use Rattle.x86_op.specs.declared.access.Access.{Access}
use Rattle.x86_op.specs.Operand.{passed}
use Rattle.x86_op.specs.Address.{address_of}
use Rattle.x86_op.specs.Flow.{top_of}
use Rattle.x86_op.specs.Table.{line_of}
use Rattle.x86_op.specs.Access.{access_to, access_of}
use Rattle.x86_op.specs.declared.touch.Touch.{Touch}
use Rattle.x86_op.specs.declared.touch.Touch.TheVariants.{Nothing, Operand, Push, Pop, Frame, System}

abbrev pub IsAddress : Way → ℕ → Type 0
IsAddress way.Load at = Unit {0}
IsAddress way.Store at = at < 2 ^ 64
IsAddress way.Modify at = at < 2 ^ 64
IsAddress way.Compare at = at < 2 ^ 64

pub record IsBounded (a : Access) : Type 0 where
  pub some : 0 < a.len
  pub short : a.len ≤ 8
  pub fits : IsAddress a.way a.at

abbrev pub Bounded : Option Access → Type 0
Bounded None = Unit {0}
Bounded (Some a) = IsBounded a

any_way : (k : Way) (at : ℕ) → at < 2 ^ 64 → IsAddress k at
any_way way.Load at fits = tt
any_way way.Store at fits = fits
any_way way.Modify at fits = fits
any_way way.Compare at fits = fits

width_some : (w : Width) → 0 < size_of w / 8
width_some width.B = omega arith
width_some width.W = omega arith
width_some width.D = omega arith
width_some width.Q = omega arith

width_short : (w : Width) → size_of w / 8 ≤ 8
width_short width.B = omega arith
width_short width.W = omega arith
width_short width.D = omega arith
width_short width.Q = omega arith

address_fits : (c : Ctx) (a : Mem) → address_of c a < 2 ^ 64
unfolding address_of
address_fits c a = omega arith

top_fits : (c : Ctx) → top_of c < 2 ^ 64
unfolding top_of
top_fits c = omega arith

pushed : (c : Ctx) → IsBounded (record { way = way.Store; at = top_of c; len = 8 })
pushed c = record { some = omega arith; short = omega arith; fits = top_fits c }

popped : (at : ℕ) → IsBounded (record { way = way.Load; at = at; len = 8 })
popped at = record { some = omega arith; short = omega arith; fits = tt }

touch_bounded : (c : Ctx) (t : Touch) → Bounded (access_to c t)
unfolding access_to
touch_bounded c Nothing = tt
touch_bounded c (Operand k w a) = record { some = width_some w; short = width_short w; fits = any_way k (address_of c a) (address_fits c a) }
touch_bounded c Push = pushed c
touch_bounded c Pop = popped _
touch_bounded c Frame = popped _
touch_bounded c System = tt

pub access_bounded : (c : Ctx) (insn : Insn) (len : ℕ) → Bounded (access_of c insn len)
unfolding access_of
access_bounded c insn len = touch_bounded (passed c len) (line_of insn).touch
