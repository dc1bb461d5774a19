use Rattle.std.proofs.Common.{◌∙◌, ◌≡◌, ◌*◌, sym, ap, ℕ, List, length, length-drop, take, drop, arith}
use Rattle.std.proofs.lemmas.List.{length-take-le, take_at}
use borrow.Rule.Slice.PartMut.{post_of}
use Rattle.vm_law.specs.Memory.{code_of}
use Rattle.vm_board.specs.Pages.{page_of}
use Rattle.vm_board.proofs.Reading.{code_part}
use Rattle.vm_board.proofs.board.copy_page.Goals as goal

-- what is read
page_bytes : (c : goal.After-read) → page_of (code_of c.args.ram.now.memory) c.args.page ≡ take c.min-count.result (drop (4096 * c.args.page) c.args.ram.now.memory.bytes)
page_bytes c = code_part c.args.ram.now.memory.bytes c.args.ram.now.memory.code (4096 * c.args.page) 4096 c.min-count.result (omega arith) (omega arith)

size : (c : goal.After-read) → length (take c.min-count.result (drop (4096 * c.args.page) c.args.ram.now.memory.bytes)) ≡ c.min-count.result
size c = length-take-le c.min-count.result (drop (4096 * c.args.page) c.args.ram.now.memory.bytes) (omega (arith, length-drop (4096 * c.args.page) c.args.ram.now.memory.bytes))

pub returns-clause-count : goal.returns-clause-count
returns-clause-count c = sym (ap (λ (xs : List ℕ). length xs) (page_bytes c) ∙ size c)

pub returns-clause-bytes : goal.returns-clause-bytes
returns-clause-bytes c =
    let n = c.min-count.result in
    let part : length (take n c.args.into.now) ≡ n = length-take-le n c.args.into.now (omega arith) in
    let at : 4096 * c.from.result ≡ 4096 * c.args.page = ap (λ k. 4096 * k) c.from.ensures in
    let read : c.read.new.into ≡ take n (drop (4096 * c.args.page) c.args.ram.now.memory.bytes) =
    c.read.ensures ∙ ap (λ (k : ℕ). take k (drop (4096 * c.from.result) c.args.ram.now.memory.bytes)) part ∙ ap (λ (k : ℕ). take n (drop k c.args.ram.now.memory.bytes)) at in
    take_at c.read.new.into (post_of 0 n c.args.into.now) n (ap (λ (xs : List ℕ). length xs) read ∙ size c)
    ∙ read ∙ sym (page_bytes c)
