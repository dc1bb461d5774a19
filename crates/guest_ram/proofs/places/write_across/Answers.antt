use Rattle.std.proofs.Common.{◌∙◌, ap, subst, ◌≡◌, ◌+◌, ◌++◌, ◌*◌, ◌-◌, ◌%◌, length, take, ℕ, List, length-append, arith}
use Rattle.std.proofs.lemmas.List.{take-append-drop}
use Rattle.guest_ram.specs.Pages.{IsWritten, bytes_of}
use Rattle.guest_ram.proofs.Pages.{length-places}
use Rattle.guest_ram.proofs.Written.{written_two}
use Rattle.guest_ram.proofs.places.write_across.Goals as goal

pub returns-clause-written : goal.returns-clause-written
returns-clause-written c =
    let places = c.args.places.now.items in
    let at = c.args.at in
    let piece = c.args.piece.now in
    let left = 4096 - at % 4096 in
    let size : length (bytes_of places) ≡ 4096 * length places = length-places places c.requires.pages in
    let first = c.write_within in
    let second = c.write_within-2 in
    let head = c.split_at.result.0.now in
    let tail = c.split_at.result.1.now in
    let whole : head ++ tail ≡ piece =
    ap (λ (xs : List ℕ). xs ++ tail) c.split_at.ensures.front ∙ ap (λ (xs : List ℕ). take left piece ++ xs) c.split_at.ensures.back
    ∙ take-append-drop left piece in
    let sizes : length head + length tail ≡ length piece = omega (arith, length-append head tail, ap (λ (xs : List ℕ). length xs) whole) in
    subst (λ (x : List ℕ). IsWritten places second.new.places.items at x) whole
    (written_two places first.new.places.items second.new.places.items at (at + left) head tail first.ensures.written second.ensures.written
    (omega (arith, c.split_at.ensures.front_len)) (omega (arith, c.split_at.ensures.front_len)))
