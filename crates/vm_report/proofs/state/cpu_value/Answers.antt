use Rattle.std.proofs.Common.{◌≡◌, ◌∙◌, ap, rules, arith, IfOk, subst, sym}
use Rattle.std.proofs.lemmas.Grind.{common_steps}
use Rattle.serde_json.specs.View.{view}
use Rattle.serde_json.specs.Data.{Data}
use Rattle.vm_vectors.specs.Vectors.{Vectors}
use Rattle.vm_lapic.specs.Saved.{apic_of}
use Rattle.vm_report.specs.StateText.{members_data, vectors_data, registers_data}
use Rattle.vm_report.proofs.state.cpu_value.Goals as goal

pub returns : goal.returns
unfolding apic_of
returns c =
    let saved = c.saved-lapic.ensures.inverse in
    let irr : view c.in_ok-irr.irr ≡ vectors_data c.args.cpu.now.lapic.irr = c.in_ok-irr.ensures ∙ ap (λ a. vectors_data a.irr) saved in
    let isr : view c.in_ok-isr.isr ≡ vectors_data c.args.cpu.now.lapic.isr = c.in_ok-isr.ensures ∙ ap (λ a. vectors_data a.isr) saved in
    let tmr : view c.in_ok-tmr.tmr ≡ vectors_data c.args.cpu.now.lapic.tmr = c.in_ok-tmr.ensures ∙ ap (λ a. vectors_data a.tmr) saved in
    subst (λ (d : Data). IfOk c.cpu_json.result (λ v. view v ≡ d))
    (ap (λ (d : Data). members_data c.args.cpu.now d (view c.in_ok-isr.isr) (view c.in_ok-regs.regs) (view c.in_ok-tmr.tmr)) irr
    ∙ ap (λ (d : Data). members_data c.args.cpu.now (vectors_data c.args.cpu.now.lapic.irr) d (view c.in_ok-regs.regs) (view c.in_ok-tmr.tmr)) isr
    ∙ ap (λ (d : Data). members_data c.args.cpu.now (vectors_data c.args.cpu.now.lapic.irr) (vectors_data c.args.cpu.now.lapic.isr) d (view c.in_ok-tmr.tmr)) c.in_ok-regs.ensures
    ∙ ap (λ (d : Data). members_data c.args.cpu.now (vectors_data c.args.cpu.now.lapic.irr) (vectors_data c.args.cpu.now.lapic.isr) (registers_data c.args.cpu.now.ctx) d) tmr)
    c.cpu_json.ensures
