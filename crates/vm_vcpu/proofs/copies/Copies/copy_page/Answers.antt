use Rattle.std.proofs.Common.{◌≡◌, ◌<◌, ◌≤◌, ◌*◌, ◌+◌, ℕ, List, length, sym, subst, arith}
use Rattle.vm_state.specs.Machine.{code_of}
use Rattle.vm_vcpu.proofs.Copying.{page_inside}
use Rattle.vm_vcpu.proofs.copies.Copies.copy_page.Goals as goal

pub replace-requires-clause-inside : goal.replace-requires-clause-inside
replace-requires-clause-inside g c =
    let s = c.args.board.now.state in
    let v = c.args.self.now in
    let pages = c.requires.pages in
    let size = c.requires.size in
    let there = c.requires.there in
    let inside : 4096 * c.args.number < length (code_of s.machine) = omega (arith, pages, size, there) in
    subst (λ (xs : List ℕ). 4096 * c.args.number + length xs ≤ length v.code) (sym c.code_page-count.ensures.bytes) (page_inside (code_of s.machine) v.code c.args.number inside c.requires.size)
