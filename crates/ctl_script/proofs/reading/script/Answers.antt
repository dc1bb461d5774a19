use Rattle.std.proofs.Common.{◌≡◌, ◌∙◌, sym, subst, ap, arith, []}
use Rattle.std.specs.Prelude.{Ok, Err}
use Rattle.ctl_script.specs.declared.fault.Refusal.{Refusal}
use Rattle.text_reader.specs.Line.{lines, read_lines}
use Rattle.text_reader.proofs.Lines.{is_done, fits_left}
use Rattle.ctl_script.specs.Script.{line_step, read_line, whole}
use Rattle.ctl_script.specs.Answers.{Refuses}
use Rattle.ctl_script.proofs.Lines.{goes_on, stops}
use Rattle.ctl_script.proofs.reading.script.Goals as goal

pub returns-in-Err-Kind : goal.returns-in-Err-Kind
returns-in-Err-Kind c =
    let told : read_line c.args.plan.now c.loop-rest.so_far.orders.items c.first_line.result.0.now ≡ Err c.in-Err-Kind.kind =
    subst (λ (r : Refusal). Refuses r (read_line c.args.plan.now c.loop-rest.so_far.orders.items c.first_line.result.0.now)) c.in-Err-Kind.field-0-is (c.in-Err-Kind.ensures {u = tt}) in
    rw c.in-Err-Kind.field-0-is (ap whole (stops c.args.plan.now c.loop-rest.number c.loop-rest.so_far.orders.items c.loop-rest.rest c.in-Some.text c.first_line.result.0.now c.first_line.result.1
    (read_lines (line_step c.args.plan.now) 1 [] (lines c.args.bytes.now)) c.in-Some.is c.first_line.ensures.cut c.loop-rest.invariant.told c.in-Err-Kind.kind told))

pub loop-rest-preserved : goal.loop-rest-preserved
loop-rest-preserved c =
    let size = fits_left c.loop-rest.rest c.in-Some.text c.in-Some.is in
    record {
      told = goes_on c.args.plan.now c.loop-rest.number c.loop-rest.so_far.orders.items c.loop-rest.rest c.in-Some.text c.first_line.result.0.now c.first_line.result.1
          (read_lines (line_step c.args.plan.now) 1 [] (lines c.args.bytes.now)) c.in-Some.is c.first_line.ensures.cut c.loop-rest.invariant.told c.in-Ok.more.orders.items (c.in-Ok.ensures {u = tt}).0;
      counts = (c.in-Ok.ensures {u = tt}).1;
      few = omega arith;
    }

pub returns-in-Ok-or_wait : goal.returns-in-Ok-or_wait
returns-in-Ok-or_wait c =
    ap whole (is_done (line_step c.args.plan.now) c.loop-rest.number c.loop-rest.so_far.orders.items c.loop-rest.rest (read_lines (line_step c.args.plan.now) 1 [] (lines c.args.bytes.now)) c.in_default.not-Some c.loop-rest.invariant.told)
    ∙ ap Ok (sym (c.in-Ok-or_wait.ensures {u = tt}))
