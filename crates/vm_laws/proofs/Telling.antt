-- What a worker writes leaves the code: the status byte, the used ring and the bytes of a read.
use Rattle.std.proofs.Common.{◌≡◌, ℕ, ◌+◌, ◌*◌, ◌%◌, ◌^◌, ◌<◌, ◌≤◌, true, [], ◌∷◌, length, ◌∙◌, arith}
use Rattle.byteorder.specs.Endian.{little_bytes}
use Rattle.vm_law.specs.Memory.{Memory, code_of, written}
use Rattle.vm_law.specs.declared.chips.WindowState.{WindowState}
use Rattle.vq_ring.specs.Ring.{lies_in}
use Rattle.vq_ring.specs.Used.{used_element, used_entry, with_used}
use Rattle.vq_ring.proofs.Rings.{lies}
use Rattle.vm_vblk.specs.Queue.{completed}
use Rattle.vm_vblk.specs.Window.{ring_of}
use Rattle.vm_vblk.proofs.Writes.{size_written, code_written}

pub completed_code : (m : Memory) (w : WindowState) (head at status len : ℕ) → lies_in (ring_of w) m ≡ true → m.code ≤ at → at < length m.bytes → code_of (completed m w head at status len) ≡ code_of m
unfolding completed with_used
completed_code m w head at status len h above l =
    let t = lies (ring_of w) m.code (length m.bytes) h in
    let one : Memory = written m at (status ∷ []) in
    let first : length one.bytes ≡ length m.bytes = size_written m at (status ∷ []) (omega (arith, l)) in
    let entry : ℕ = used_entry (ring_of w) w.used_index in
    let two : Memory = written one entry (used_element head len) in
    let some : 0 < w.queue_num = t.1 in
    let base : m.code ≤ w.queue_used = t.7 in
    let far : w.queue_used + 6 + 8 * w.queue_num ≤ length m.bytes = t.8 in
    let place : w.used_index % w.queue_num < w.queue_num = omega (arith, some) in
    let second : length two.bytes ≡ length one.bytes = size_written one entry (used_element head len) (omega (arith, far, place, first)) in
    let a = code_written m at (status ∷ []) above (omega (arith, l)) in
    let b = code_written one entry (used_element head len) (omega (arith, base)) (omega (arith, far, place, first)) in
    let c = code_written two (w.queue_used + 2) (little_bytes 2 ((w.used_index + 1) % 2 ^ 16)) (omega (arith, base)) (omega (arith, far, first, second, some)) in
    c ∙ b ∙ a
