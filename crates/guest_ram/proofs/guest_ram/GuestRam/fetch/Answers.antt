use Rattle.std.proofs.Common.{◌∙◌, ◌≡◌, ◌*◌, sym, ap, ℕ, List, length, length-drop, take, drop, arith}
use Rattle.std.proofs.lemmas.List.{length-take-le, take_at}
use borrow.Rule.Slice.PartMut.{post_of}
use Rattle.vm_law.specs.Memory.{code_of}
use Rattle.guest_ram.specs.GuestRam.{Ram}
use Rattle.guest_ram.specs.Pages.{bytes_of}
use Rattle.guest_ram.proofs.Pages.{Place, length-places}
use Rattle.guest_ram.proofs.Views.{fetched}
use Rattle.guest_ram.proofs.guest_ram.GuestRam.fetch.Goals as goal

-- what is fetched of the bytes that are kept
code_bytes : (c : goal.After-read) → take 15 (drop c.args.at (code_of c.args.self.now.memory)) ≡ take c.min-count.result (drop c.args.at (bytes_of c.self.inside.places.items))
code_bytes c =
    ap (λ (r : Ram). take 15 (drop c.args.at (code_of r.memory))) (sym c.self.view_is)
    ∙ fetched (bytes_of c.self.inside.places.items) c.self.inside.code c.args.at c.min-count.result (omega arith) c.min-count.ensures

size : (c : goal.After-read) → length (take c.min-count.result (drop c.args.at (bytes_of c.self.inside.places.items))) ≡ c.min-count.result
size c =
    let bytes = bytes_of c.self.inside.places.items in
    let whole : length bytes ≡ 4096 * length c.self.inside.places.items = length-places c.self.inside.places.items c.self.invariant.pages in
    length-take-le c.min-count.result (drop c.args.at bytes) (omega (arith, length-drop c.args.at bytes))

pub returns-clause-count : goal.returns-clause-count
returns-clause-count c = sym (ap (λ (xs : List ℕ). length xs) (code_bytes c) ∙ size c)

pub returns-clause-bytes : goal.returns-clause-bytes
returns-clause-bytes c =
    let n = c.min-count.result in
    let part : length (take n c.args.into.now) ≡ n = length-take-le n c.args.into.now (omega arith) in
    let read : c.read.new.into ≡ take n (drop c.args.at (bytes_of c.self.inside.places.items)) =
    c.read.ensures
    ∙ ap (λ (k : ℕ). take k (drop c.args.at (bytes_of c.as_slice.result.now))) part
    ∙ ap (λ (places : List Place). take n (drop c.args.at (bytes_of places))) c.as_slice.ensures.value in
    take_at c.read.new.into (post_of 0 n c.args.into.now) n (ap (λ (xs : List ℕ). length xs) read ∙ size c)
    ∙ read ∙ sym (code_bytes c)
