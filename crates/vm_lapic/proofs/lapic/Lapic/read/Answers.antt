use Rattle.std.proofs.Common.{◌≡◌, sym, ◌∙◌, true, rules}
use Rattle.vm_lapic.specs.Window.{is_register}
use Rattle.vm_lapic.proofs.Registers.{found_is_register, found_at}
use Rattle.vm_lapic.proofs.lapic.Lapic.read.Goals as goal

pub value-requires : goal.value-requires
value-requires c =
    let found : is_register c.in-Some.register ≡ true = found_is_register c.args.offset c.in-Some.register (sym c.at.ensures ∙ c.in-Some.is) in
    search (rules, found)

pub returns-in-Some-clause-register : goal.returns-in-Some-clause-register
returns-in-Some-clause-register c r h e = let found = found_at c.args.offset r h e in cc

pub returns-in-None-clause-register : goal.returns-in-None-clause-register
returns-in-None-clause-register c r h e = let found = found_at c.args.offset r h e in cc
