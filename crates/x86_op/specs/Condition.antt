-- Conditions of Jcc, SETcc and CMOVcc, on RFLAGS. Source: Intel SDM volume 1, appendix B.
use Rattle.std.specs.Prelude.{ℕ, Bool, not, ◌||◌}
use Rattle.vm_law.specs.declared.insn.Condition.{Condition}
use Rattle.vm_law.specs.declared.insn.Condition.TheVariants as condition
use Rattle.x86_alu.specs.Flags.{CF, PF, ZF, SF, OF, is_set}
use Rattle.x86_alu.specs.Shift.{differ}

-- below or equal, less, and less or equal
abbrev pub is_below_or_equal : ℕ → Bool
is_below_or_equal flags = is_set flags CF || is_set flags ZF

abbrev pub is_less : ℕ → Bool
is_less flags = differ (is_set flags SF) (is_set flags OF)

abbrev pub is_less_or_equal : ℕ → Bool
is_less_or_equal flags = is_set flags ZF || is_less flags

unfoldable pub holds : ℕ → Condition → Bool
holds flags condition.O = is_set flags OF
holds flags condition.No = not (is_set flags OF)
holds flags condition.B = is_set flags CF
holds flags condition.Ae = not (is_set flags CF)
holds flags condition.E = is_set flags ZF
holds flags condition.Ne = not (is_set flags ZF)
holds flags condition.Be = is_below_or_equal flags
holds flags condition.A = not (is_below_or_equal flags)
holds flags condition.S = is_set flags SF
holds flags condition.Ns = not (is_set flags SF)
holds flags condition.P = is_set flags PF
holds flags condition.Np = not (is_set flags PF)
holds flags condition.L = is_less flags
holds flags condition.Ge = not (is_less flags)
holds flags condition.Le = is_less_or_equal flags
holds flags condition.G = not (is_less_or_equal flags)
