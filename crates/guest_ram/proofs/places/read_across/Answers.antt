use Rattle.std.proofs.Common.{◌∙◌, ap, arith, ◌≡◌, ◌+◌, ◌-◌, ◌*◌, ◌/◌, ◌%◌, ◌<◌, List, ℕ, length, length-drop, take, drop, None}
use Rattle.std.proofs.lemmas.List.{length-take-le}
use borrow.Rule.Slice.PartMut.{put_mid}
use Rattle.guest_ram.specs.Pages.{page_of, bytes_of}
use Rattle.guest_ram.proofs.Lists.{get_or_any, length-mid, read_step}
use Rattle.guest_ram.proofs.Pages.{read_one, length-places, Place}
use Rattle.guest_ram.proofs.places.read_across.Goals as goal

pub loop-done-preserved : goal.loop-done-preserved
loop-done-preserved c =
    let places = c.args.places.now in
    let at = c.args.at in
    let into = c.loop-done.into in
    let done = c.loop-done.done in
    let size = c.min-size.result in
    let o = (at + done) % 4096 in
    let whole : length (bytes_of places) ≡ 4096 * length places = length-places places c.requires.pages in
    let same : length into ≡ length c.args.into.now = c.loop-done.auto.into in
    let lt : (at + done) / 4096 < length places = omega arith in
    let part : length (take (done + size - done) (drop done into)) ≡ size =
    length-take-le (done + size - done) (drop done into) (omega (arith, length-drop done into)) ∙ (let k : done + size - done ≡ size = omega arith in k) in
    let x : c.read_in.new.into ≡ take size (drop (at + done) (bytes_of places)) =
    c.read_in.ensures
    ∙ ap (λ (n : ℕ). take n (drop o (page_of c.index-places-from.result))) part
    ∙ ap (λ (p : Place). take size (drop o (page_of p))) (c.index-places-from.is ∙ get_or_any places ((at + done) / 4096) _ None lt)
    ∙ read_one places (at + done) size c.requires.pages lt (omega arith) in
    let len : length c.read_in.new.into ≡ size =
    ap (λ (xs : List ℕ). length xs) x ∙ length-take-le size (drop (at + done) (bytes_of places)) (omega (arith, length-drop (at + done) (bytes_of places))) in
    let kept : length (put_mid done (done + size - done) into c.read_in.new.into) ≡ length into =
    length-mid into c.read_in.new.into done (done + size - done) (omega arith) (omega arith) in
    record {
      within = omega arith;
      copied = read_step (bytes_of places) c.args.into.now into c.read_in.new.into at done size c.loop-done.invariant.copied x (omega arith) (omega arith);
    }
