-- What rounds did to a crew, one after the other.
use Rattle.std.specs.Prelude.{Option, Some, None}
use Rattle.std.proofs.Common.{ℕ, List, ◌++◌, append_assoc, refl, ap, ◌∙◌, arith}
use Rattle.vm_host.specs.Leaves.{Takes}
use Rattle.vm_host.specs.Views.{SinkView}
use Rattle.vm_control.specs.View.{ControlView}
use Rattle.vm_control.specs.declared.control.OutFault.{OutFault}
use Rattle.vm_control.specs.declared.control.OutFault.TheVariants.{Failed, Sink, Memory}
use Rattle.vm_solo.specs.Played.{WentOn}
use Rattle.vm_solo.specs.Playing.{Causes, KeepsFirst, Writes}
use Rattle.vm_solo.specs.View.{CrewView}
use Rattle.vm_solo.proofs.Controls.{writes_none}
use Rattle.vm_solo.proofs.Rounding.{continues_same, continues_then}

takes_then : (xs ys : List ℕ) (a b c : SinkView) → Takes xs a b → Takes ys b c → Takes (xs ++ ys) a c
takes_then xs ys a b c x y = record {
  told = y.told ∙ x.told;
  taken = λ tells. y.taken (x.told ∙ tells) ∙ ap (λ (zs : List ℕ). zs ++ ys) (x.taken tells) ∙ append_assoc a.taken xs ys;
}

writes_then : (a b c : ControlView) (u v w : SinkView) → Writes a b u v → Writes b c v w → Writes a c u w
writes_then a b c u v w x y = record {
  bytes = x.bytes ++ y.bytes;
  takes = takes_then x.bytes y.bytes u v w x.takes y.takes;
  wrote = y.wrote ∙ ap (λ (zs : List ℕ). zs ++ y.bytes) x.wrote ∙ append_assoc a.wrote x.bytes y.bytes;
}

keeps_same : (f : Option OutFault) → KeepsFirst f f
keeps_same None = tt
keeps_same (Some e) = refl

keeps_then : (f g h : Option OutFault) → KeepsFirst f g → KeepsFirst g h → KeepsFirst f h
keeps_then None g h x y = tt
keeps_then (Some e) None h x y = absurd (cc)
keeps_then (Some e) (Some d) h x y = y ∙ x

causes_same : (f : Option OutFault) (n : ℕ) → Causes f f n n
causes_same None n = refl
causes_same (Some e) n = refl

-- the first failure is kept, so a later one counts for nothing
causes_then : (f g h : Option OutFault) (k m n : ℕ) → KeepsFirst f g → KeepsFirst g h → Causes f g k m → Causes g h m n → Causes f h k n
causes_then None None None k m n d e x y = y ∙ x
causes_then None None (Some Sink) k m n d e x y = (let l = y.0 in omega (arith, l, x), let l = y.1 in omega (arith, l, x))
causes_then None None (Some Failed) k m n d e x y = y
causes_then None None (Some Memory) k m n d e x y = y
causes_then None (Some Sink) None k m n d e x y = absurd (cc)
causes_then None (Some Sink) (Some Sink) k m n d e x y = (let l = x.0 in omega (arith, l, y), let l = x.1 in omega (arith, l, y))
causes_then None (Some Sink) (Some Failed) k m n d e x y = absurd (cc)
causes_then None (Some Sink) (Some Memory) k m n d e x y = absurd (cc)
causes_then None (Some Failed) h k m n d e x y = absurd x
causes_then None (Some Memory) h k m n d e x y = absurd x
causes_then (Some a) None h k m n d e x y = absurd (cc)
causes_then (Some a) (Some b) h k m n d e x y = y ∙ x

module _ {I : Type 0} where
  pub went_nowhere : (c : CrewView I) (v : SinkView) → WentOn c c v v
  went_nowhere c v = record {
    continues = continues_same c.board;
    writes = writes_none c.control c.control v refl;
    keeps = keeps_same c.fault;
    cause = causes_same c.fault v.faults;
  }

  pub went_then : (a b c : CrewView I) (u v w : SinkView) → WentOn a b u v → WentOn b c v w → WentOn a c u w
  went_then a b c u v w x y = record {
    continues = continues_then a.board b.board c.board x.continues y.continues;
    writes = writes_then a.control b.control c.control u v w x.writes y.writes;
    keeps = keeps_then a.fault b.fault c.fault x.keeps y.keeps;
    cause = causes_then a.fault b.fault c.fault u.faults v.faults w.faults x.keeps y.keeps x.cause y.cause;
  }
