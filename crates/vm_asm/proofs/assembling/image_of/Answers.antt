use Rattle.std.proofs.Common.{◌≡◌, length, None, ap, arith}
use Rattle.std.specs.Prelude.{unwrap_or}
use Rattle.vm_asm.specs.Layout.{laid_of, known_fault, entry_at}
use Rattle.vm_asm.proofs.Sound.{allowed_from}
use Rattle.vm_asm.proofs.Steps.{no_fault}
use Rattle.vm_asm.proofs.assembling.image_of.Goals as goal

pub returns-clause-allowed : goal.returns-clause-allowed
returns-clause-allowed c =
    let laid = laid_of c.args.layout.now in
    let none : known_fault laid ≡ None = no_fault (known_fault laid) (cc) in
    let a = allowed_from laid c.requires.ended.0 c.in_ok-payload.payload.items c.requires.sound none c.requires.ended.1 (let d : c.deref-2.result.now ≡ c.args.layout.now.statements.items = cc in rw d at c.in_ok-payload.ensures.end) in
    let e : c.from.result ≡ entry_at laid = cc in
    let f : c.from-2.result ≡ unwrap_or c.args.layout.now.code_end 0 = cc in
    let g : c.from_vec.result ≡ c.in_ok-payload.payload.items = cc in
    let h = ap length g in
    let some = a.some_code in
    let small = a.small_code in
    let within = a.within in
    let entry = a.entry in
    let fits = a.fits in
    record { some_code = omega arith; small_code = omega arith; within = omega arith; entry = omega arith; fits = omega arith }
