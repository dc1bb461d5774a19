use Rattle.std.proofs.Common.{[], length, arith}
use Rattle.vm_asm.specs.Assembly.{put_all}
use Rattle.vm_asm.specs.Layout.{end_behind}
use Rattle.vm_asm.proofs.Steps.{puts_on, puts_stop, puts_done, end_on, end_done}
use Rattle.vm_asm.proofs.emission.bytes_with.Goals as goal

pub loop-placed-preserved : goal.loop-placed-preserved
loop-placed-preserved c = record {
  told = λ spell is. puts_on spell c.args.places.now c.loop-placed.out.items c.args.statements.now c.loop-placed.placed-index _ (put_all spell c.args.places.now [] c.args.statements.now)
      (omega arith) (c.loop-placed.invariant.told spell is) c.put_placed.new.out.items (c.in-Ok.ensures.bytes spell is);
  end = end_on (length c.loop-placed.out.items) (length c.put_placed.new.out.items) c.args.statements.now c.loop-placed.placed-index _ (end_behind 0 c.args.statements.now)
      (omega arith) c.loop-placed.invariant.end c.in-Ok.ensures.end;
}

pub returns-in-Err-clause-bytes : goal.returns-in-Err-clause-bytes
returns-in-Err-clause-bytes c = λ spell is.
    rw c.error_in.ensures (puts_stop spell c.args.places.now c.loop-placed.out.items c.args.statements.now c.loop-placed.placed-index _ (put_all spell c.args.places.now [] c.args.statements.now)
    (omega arith) (c.loop-placed.invariant.told spell is) c.in-Err.refusal (c.in-Err.ensures.bytes spell is))

pub returns-clause-bytes : goal.returns-clause-bytes
returns-clause-bytes c = λ spell is.
    puts_done spell c.args.places.now c.loop-placed.out.items c.args.statements.now c.loop-placed.placed-index (put_all spell c.args.places.now [] c.args.statements.now) (omega arith) (c.loop-placed.invariant.told spell is)

pub returns-clause-end : goal.returns-clause-end
returns-clause-end c = end_done (length c.loop-placed.out.items) c.args.statements.now c.loop-placed.placed-index (end_behind 0 c.args.statements.now) (omega arith) c.loop-placed.invariant.end
