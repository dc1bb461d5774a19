-- How the queue's chains are taken and completed. w is the window's state, and m guest memory.
-- Source: OASIS virtio 1.2, sections 2.7.13, 2.7.14 and 5.2.6.
use Rattle.std.specs.Prelude.{◌≡◌, ℕ, ◌+◌, ◌%◌, ◌^◌, ◌<◌, ◌≤◌, Bool, ◌&&◌, [], ◌∷◌, length, if◌then◌else◌, bit_or, ◌⊎◌}
use Rattle.std.specs.List.{All}
use Rattle.vm_law.specs.Memory.{Memory, read_of, written}
use Rattle.vm_law.specs.declared.block.ChainList.{ChainList}
use Rattle.vm_law.specs.declared.block.Kind.TheVariants.{Read}
use Rattle.vm_law.specs.declared.block.Request.{Request}
use Rattle.vm_law.specs.declared.block.Segment.{Segment}
use Rattle.vm_law.specs.declared.chips.WindowState.{WindowState}
use Rattle.vq_ring.specs.declared.chain.Chain.{Chain}
use Rattle.vq_ring.specs.declared.chain.Chain.TheVariants as chain
use Rattle.vq_ring.specs.Chain.{next_chain}
use Rattle.vq_ring.specs.Used.{with_used, wants_interrupt}
use Rattle.vblk_req.specs.declared.ask.Ask.{Ask}
use Rattle.vblk_req.specs.declared.ask.Ask.TheVariants as ask
use Rattle.vblk_req.specs.Request.{asked, header_of}
use Rattle.vm_vblk.specs.declared.pulled.Pulled.{Pulled}
use Rattle.vm_vblk.specs.declared.pulled.Pulled.TheVariants as pulled
use Rattle.vm_vblk.specs.Window.{ring_of, has_more, broken}

-- ---- where the buffers of what was taken lie

-- a request's status byte is in RAM above the code; so is its data, above the code where it is to be written
pub record Fits (m : Memory) (q : Request) : Type 0 where
  pub above_code : m.code ≤ q.status_at
  pub in_ram : q.status_at < length m.bytes
  pub pieces : All (λ (s : Segment). s.addr + s.len ≤ length m.bytes) q.segments.items
  pub kept_code : q.kind ≡ Read → All (λ (s : Segment). (s.len ≡ 0) ⊎ (m.code ≤ s.addr)) q.segments.items

abbrev pub AskFits : Memory → Ask → Type 0
AskFits m (ask.Accept q) = Fits m q
AskFits m (ask.Answer status at) = (m.code ≤ at) × (at < length m.bytes)
AskFits m ask.Bad = Unit {0}

abbrev pub IfRequest : Pulled → (Request → Type 0) → Type 0
IfRequest (pulled.Request q) P = P q
IfRequest _ P = Unit {0}

-- ---- a chain is completed

-- the status byte is written first, then the element of the used ring, then its index
unfoldable pub completed : Memory → WindowState → ℕ → ℕ → ℕ → ℕ → Memory
completed m w head status_at status len = with_used (written m status_at (status ∷ [])) (ring_of w) w.used_index head len

-- the driver is told by the interrupt of a used buffer, unless the available ring says then that it wants none
unfoldable pub counted : Memory → WindowState → WindowState
counted m w = record w {
  used_index = (w.used_index + 1) % 2 ^ 16;
  interrupt_status = if wants_interrupt m (ring_of w) then bit_or w.interrupt_status 1 else w.interrupt_status;
}

-- ---- a chain is taken

-- what came of it, and the window and memory after it
pub record Pull : Type 0 where
  pub answer : Pulled
  pub window : WindowState
  pub memory : Memory

-- one more chain is taken; the notification is kept only where another waits then
unfoldable pub taken : Memory → WindowState → WindowState
taken m w =
    let next = record w { last_avail = (w.last_avail + 1) % 2 ^ 16 } in
    record next { notified = w.notified && has_more m next }

-- what a chain asks for, by the 16 bytes of its first buffer
unfoldable pub asked_by : Memory → ℕ → Bool → ChainList → Ask
asked_by m sectors ro c = asked c.head c.descriptors.items (read_of m (header_of c.descriptors.items).addr 16) sectors ro

abbrev pub breaks : Memory → WindowState → Pull
breaks m w = record { answer = pulled.Broken; window = broken w; memory = m }

abbrev pub answered : Memory → WindowState → Pull
answered m w = record { answer = pulled.Answered; window = taken m (counted m w); memory = m }

unfoldable pub pulled_ask : Memory → WindowState → ℕ → Ask → Pull
pulled_ask m w head (ask.Accept q) = record { answer = pulled.Request q; window = taken m w; memory = m }
pulled_ask m w head (ask.Answer status at) = answered (completed m w head at status 1) w
pulled_ask m w head ask.Bad = breaks m w

-- a chain that stands next, or else what waits is none
unfoldable pub pulled_chain : Memory → WindowState → Chain → Pull
pulled_chain m w (chain.Good c) = pulled_ask m w c.head (asked_by m w.sectors w.ro c)
pulled_chain m w chain.Bad = breaks m w
pulled_chain m w chain.None = breaks m w

unfoldable pub pull_of : Memory → WindowState → Pull
pull_of m w = pulled_chain m w (next_chain m (ring_of w) w.last_avail)
