use Rattle.std.proofs.Common.{◌≡◌, get_or, take, refl, arith}
use Rattle.std.specs.Prelude.{Ok}
use Rattle.x86_decode.specs.Reading.{decoded}
use Rattle.vm_asm.specs.Disassembly.{instruction, byte}
use Rattle.vm_asm.proofs.Pieces.{length_some, first_of, undecoded}
use Rattle.vm_asm.proofs.disassembling.put_first.Goals as goal

pub put_canonical-requires : goal.put_canonical-requires
put_canonical-requires c = (take c.in-Ok.count c.args.code.now, c.in-Ok.ensures.found.1)

pub returns-in_ok-put_canonical-in-Ok-clause-read : goal.returns-in_ok-put_canonical-in-Ok-clause-read
returns-in_ok-put_canonical-in-Ok-clause-read c =
    let d : decoded c.args.code.now ≡ Ok (c.in-Ok.insn, c.from.result) = cc in
    (instruction c.in-Ok.insn, d, c.in_ok-put_canonical-in-Ok.ensures, c.in_ok-put_line-in-Ok.ensures)

pub returns-in_ok-put_canonical-in-Ok-clause-some : goal.returns-in_ok-put_canonical-in-Ok-clause-some
returns-in_ok-put_canonical-in-Ok-clause-some c =
    let some = length_some _ c.args.code.now _ c.in-Ok.ensures.found in
    let same : c.from.result ≡ c.in-Ok.count = cc in
    omega arith

pub returns-in_ok-push-in-Err-clause-read : goal.returns-in_ok-push-in-Err-clause-read
returns-in_ok-push-in-Err-clause-read c =
    let b = get_or c.args.code.now 0 0 in
    (byte b, (refl, first_of c.args.code.now c.requires, undecoded (decoded c.args.code.now) _ c.in-Err.ensures.computed), (_, refl, c.in_ok-push-in-Err.ensures.items), c.in_ok-put_byte-in-Err.ensures)
