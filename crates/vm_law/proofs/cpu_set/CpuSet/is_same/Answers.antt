use Rattle.std.proofs.Common.{◌≡◌, sym, ap, subst, ◌∙◌, length, List, Bool, true}
use mathlib.Core.Bool.{beq}
use lib.Pointwise.{pointwise}
use Rattle.vm_law.specs.BitSet.{set_of}
use Rattle.vm_law.proofs.BitSets.{same_bits, lists_same, list_itself}
use Rattle.vm_law.proofs.cpu_set.CpuSet.is_same.Goals as goal

pub returns : goal.returns
returns c =
    let mine : set_of c.self.inside.members ≡ c.args.self.now = c.self.view_is in
    let theirs : set_of c.other.inside.members ≡ c.args.other.now = c.other.view_is in
    let test : c.eq.result ≡ pointwise beq c.self.inside.members c.other.inside.members = c.eq.ensures in
    let long : length c.self.inside.members ≡ length c.other.inside.members = c.self.told ∙ sym c.other.told in (
      λ t. sym mine ∙ ap set_of (lists_same c.self.inside.members c.other.inside.members (sym test ∙ t)) ∙ theirs,
      λ e.
          let same = same_bits c.self.inside.members c.other.inside.members long (mine ∙ e ∙ sym theirs) in
          test ∙ subst (λ (ys : List Bool). pointwise beq c.self.inside.members ys ≡ true) same (list_itself c.self.inside.members),
    )
