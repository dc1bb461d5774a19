-- Pull, Move and Finish leave the code.
use Rattle.std.specs.Prelude.{Some, ◌==◌, ◌&&◌, if◌then◌else◌}
use Rattle.std.specs.List.{All, list_all, sum_by}
use Rattle.std.proofs.Common.{◌≡◌, ◌⊎◌, ℕ, suc, ◌+◌, ◌-◌, ◌*◌, ◌/◌, ◌%◌, ◌<◌, ◌≤◌, Bool, true, false, List, [], ◌∷◌, length, refl, sym, ap, ◌∙◌, inl, inr, arith}
use Rattle.std.proofs.lemmas.Bool.{cases_lt, and_parts, true≢false, eqb-true}
use Rattle.std.proofs.lemmas.List.{get_or-set_same}
use Rattle.std.proofs.lemmas.List.Sums.{sum_by-cons}
use Rattle.vm_law.specs.Memory.{Memory, code_of, read_of}
use Rattle.vm_law.specs.declared.block.Kind.{Kind}
use Rattle.vm_law.specs.declared.block.Kind.TheVariants.{Read, Write, Flush}
use Rattle.vm_law.specs.declared.block.Segment.{Segment}
use Rattle.vm_law.specs.declared.chips.WindowState.{WindowState}
use Rattle.vq_ring.specs.Ring.{lies_in}
use Rattle.vq_ring.specs.Chain.{Tells, next_chain}
use Rattle.vq_ring.specs.declared.chain.Chain.{Chain}
use Rattle.vq_ring.specs.declared.chain.Chain.TheVariants as chain
use Rattle.vq_ring.proofs.Reached.{tells, usable}
use Rattle.vblk_req.specs.Request.{asked, header_of}
use Rattle.vblk_req.specs.declared.ask.Ask.{Ask}
use Rattle.vblk_req.specs.declared.ask.Ask.TheVariants as ask
use Rattle.vm_vblk.specs.Queue.{AskFits, asked_by, pull_of, pulled_ask, pulled_chain}
use Rattle.vm_vblk.specs.Window.{ring_of}
use Rattle.vm_vblk.proofs.Asked.{asked_fits}
use Rattle.vm_vblk.proofs.Writes.{code_written}
use Rattle.blk_queue.specs.declared.progress.Finished.{Finished}
use Rattle.blk_queue.specs.declared.progress.Unfinished.{Unfinished}
use Rattle.blk_queue.specs.Progress.{ends, is_dropped, is_read_kind, moved_of, moves, told}
use Rattle.blk_queue.specs.Queue.{Queue, request_of}
use Rattle.blk_queue.specs.Steps.{left}
use Rattle.vm_devices.specs.Windows.{with_window}
use Rattle.vm_state.specs.declared.drive.Drive.{Drive}
use Rattle.vm_state.specs.Machine.{MachineState, drive_at, drive_count, no_drive}
use Rattle.vm_state.specs.Requests.{address_in, is_busy_by, next_address, next_sector, sector_of}
use Rattle.vm_state.specs.Sound.{IsSoundState, RequestFits, size_allows}
use Rattle.vm_state.specs.State.{State}
use Rattle.vm_disks.specs.Queueing.{after_pull, can_pull, may_pull, pulled_in, with_queue}
use Rattle.vm_disks.specs.Moving.{after_finish, after_move, may_finish, may_move, told_driver, with_read}
use Rattle.vm_disks.proofs.Going.{less_moved, moves_tells}
use Rattle.vm_disks.proofs.KeptQueues.{its_fact}
use Rattle.vm_disks.proofs.KeptRows.{fits_now}
use Rattle.vm_disks.proofs.Lookup.{is_there}
use Rattle.vm_disks.proofs.Segments.{reaches, read_is_no_flush, length_sector, here, behind}
use Rattle.vm_laws.proofs.Heard.{hears_followed}
use Rattle.vm_laws.proofs.Serving.{move_tells, finish_tells, pull_tells as pulls_there}
use Rattle.vm_laws.proofs.Telling.{completed_code}

abbrev pub SameCode : MachineState → MachineState → Type 0
SameCode m n = code_of n.ram ≡ code_of m.ram

-- ---- Pull

ready_tells : (ram : Memory) (drive : Drive) → can_pull ram drive ≡ true → drive.window.queue_ready ≡ true
unfolding can_pull
ready_tells ram drive m =
    let a = and_parts _ _ m in
    let b = and_parts _ _ a.0 in
    let c = and_parts _ _ b.0 in
    (and_parts _ _ c.1).0

pull_can : (s : State) (p d : ℕ) → may_pull s p d ≡ true → can_pull s.machine.ram (drive_at s.machine d) ≡ true
unfolding may_pull
pull_can s p d m =
    let a = and_parts _ _ m in
    let b = and_parts _ _ a.0 in
    (and_parts _ _ b.0).1

ask_code : (m : Memory) (w : WindowState) (head : ℕ) (a : Ask) → lies_in (ring_of w) m ≡ true → AskFits m a → code_of (pulled_ask m w head a).memory ≡ code_of m
unfolding pulled_ask
ask_code m w head (ask.Accept q) h fits = refl
ask_code m w head (ask.Answer status at) h fits = completed_code m w head at status 1 h fits.0 fits.1
ask_code m w head ask.Bad h fits = refl

chain_code : (m : Memory) (w : WindowState) (c : Chain) → lies_in (ring_of w) m ≡ true → Tells m (ring_of w) w.last_avail c → code_of (pulled_chain m w c).memory ≡ code_of m
unfolding pulled_chain asked_by
chain_code m w (chain.Good c) h next =
    let header : List ℕ = read_of m (header_of c.descriptors.items).addr 16 in
    ask_code m w c.head (asked c.head c.descriptors.items header w.sectors w.ro) h
    (asked_fits m c.head c.descriptors.items header w.sectors w.ro (usable m (ring_of w) w.last_avail (chain.Good c) next))
chain_code m w chain.Bad h next = refl
chain_code m w chain.None h next = refl

pull_of_code : (m : Memory) (w : WindowState) → lies_in (ring_of w) m ≡ true → code_of (pull_of m w).memory ≡ code_of m
unfolding pull_of
pull_of_code m w h = chain_code m w (next_chain m (ring_of w) w.last_avail) h (tells m (ring_of w) w.last_avail)

pub pull_code : (s : State) (p d : ℕ) → IsSoundState s → may_pull s p d ≡ true → SameCode s.machine (after_pull s d).machine
unfolding after_pull pulled_in with_window
pull_code s p d h m =
    let drive = h.machine.each_drive d (pulls_there s p d m) in
    ap (λ (x : Memory). code_of x) (hears_followed _ _ _ _).ram ∙ pull_of_code s.machine.ram (drive_at s.machine d).window (drive.tables (ready_tells s.machine.ram (drive_at s.machine d) (pull_can s p d m)))

-- ---- Move

abbrev is_whole : Segment → Bool
is_whole x = x.len % 512 == 0

abbrev len_of : Segment → ℕ
len_of x = x.len

abbrev AreAbove : ℕ → List Segment → Type 0
AreAbove code xs = All (λ (x : Segment). (x.len ≡ 0) ⊎ (code ≤ x.addr)) xs

tail_above : (code : ℕ) (x : Segment) (xs : List Segment) → AreAbove code (x ∷ xs) → AreAbove code xs
tail_above code x xs h k d l = h (suc k) d (omega (arith, l))

address_above : (code : ℕ) (xs : List Segment) (k : ℕ) → AreAbove code xs → list_all is_whole xs ≡ true → 512 * k < sum_by len_of xs → code ≤ address_in xs k
address_above code [] k a w l = absurd (omega (arith, l))
address_above code (x ∷ xs) k a w l =
    let parts = and_parts (is_whole x) (list_all is_whole xs) w in
    let whole : x.len % 512 ≡ 0 = eqb-true (x.len % 512) 0 parts.0 in
    let sum : sum_by len_of (x ∷ xs) ≡ x.len + sum_by len_of xs = sum_by-cons len_of x xs in
    elim (cases_lt (512 * k) x.len) [
      | inl less ↦ (let e = here x xs k less in elim (a 0 x (omega arith)) [ inl none ↦ absurd (omega (arith, none, less)) | inr up ↦ omega (arith, e, up) ])
      | inr more ↦
          let e = behind x xs k more in
          let rest : code ≤ address_in xs (k - x.len / 512) = address_above code xs (k - x.len / 512) (tail_above code x xs a) parts.1 (omega (arith, sum, whole, more, l)) in
          omega (arith, e, rest)
    ]

is_read_is : (k : Kind) → is_read_kind k ≡ true → k ≡ Read
is_read_is Read h = refl
is_read_is Write h = absurd (true≢false (sym h))
is_read_is Flush h = absurd (true≢false (sym h))

not_flush_is : (k : Kind) → k ≡ Read → k ≡ Flush → ⊥
not_flush_is k a b = let e : Read ≡ Flush = sym a ∙ b in cc

read_code : (s : State) (d id : ℕ) (x : Unfinished) → IsSoundState s → d < drive_count s.machine → request_of (drive_at s.machine d).queue id ≡ Some x → moves x ≡ true
    → code_of (with_read s.machine.ram (drive_at s.machine d).bytes (request_of (drive_at s.machine d).queue id)) ≡ code_of s.machine.ram
read_code s d id x h l there going =
    let now = fits_now s d h l in
    let its = its_fact (RequestFits s.machine.ram (drive_at s.machine d)) (drive_at s.machine d).queue id x there now.requests in
    let is = moves_tells x going in
    let less = less_moved x.request.count x.progress is.1 in
    let reads : x.request.kind ≡ Read = is_read_is x.request.kind is.0 in
    let filled = its.accepted.sound.filled (not_flush_is x.request.kind reads) in
    let r = reaches s.machine.ram (drive_at s.machine d).bytes x.request (moved_of x.progress) h.machine.ram its.accepted.sound its.accepted.fits its.accepted.whole (read_is_no_flush x.request.kind is.0) less in
    let long = length_sector (drive_at s.machine d).bytes (next_sector x) r.sector in
    let far = r.address in
    let above = address_above s.machine.ram.code x.request.segments.items (moved_of x.progress) (its.accepted.fits.kept_code reads) its.accepted.whole (omega (arith, filled, less)) in
    rw there (code_written s.machine.ram (next_address x) (sector_of (drive_at s.machine d).bytes (next_sector x)) above (omega (arith, long, far)))

pub move_code : (s : State) (p d id : ℕ) → IsSoundState s → may_move s p d id ≡ true → SameCode s.machine (after_move s d id).machine
unfolding after_move
move_code s p d id h m =
    let t = move_tells s p d id m in
    let now = fits_now s d h t.0 in
    let i = is_there (drive_at s.machine d).queue id (λ (x : Unfinished). is_busy_by p x && moves x) now.sound t.1 in
    read_code s d id i.request h t.0 i.there (and_parts (is_busy_by p i.request) (moves i.request) i.so).1

-- ---- Finish

told_code : (m : MachineState) (d : ℕ) (x : Finished) → lies_in (ring_of (drive_at m d).window) m.ram ≡ true → m.ram.code ≤ x.status_at → x.status_at < length m.ram.bytes → SameCode m (told_driver m d x)
unfolding told_driver with_window
told_code m d x h above l =
    ap (λ (y : Memory). code_of y) (hears_followed _ _ _ _).ram ∙ completed_code m.ram (drive_at m d).window x.head x.status_at x.status x.len h above l

finished_code : (s : State) (d id : ℕ) (x : Unfinished) (b : Bool) (q : Queue) → IsSoundState s → d < drive_count s.machine → request_of (drive_at s.machine d).queue id ≡ Some x → is_dropped x ≡ b
    → SameCode s.machine (if b then with_queue s.machine d q else told_driver (with_queue s.machine d q) d (told x))
finished_code s d id x true q h l there gone = refl
finished_code s d id x false q h l there gone =
    let now = fits_now s d h l in
    let its : RequestFits s.machine.ram (drive_at s.machine d) x = its_fact (RequestFits s.machine.ram (drive_at s.machine d)) (drive_at s.machine d).queue id x there now.requests in
    let same : drive_at (with_queue s.machine d q) d ≡ record (drive_at s.machine d) { queue = q } = get_or-set_same s.machine.drives d (record (drive_at s.machine d) { queue = q }) no_drive l in
    let ready = (and_parts (drive_at s.machine d).window.queue_ready (size_allows (drive_at s.machine d).window.queue_num x.request) (its.window gone)).0 in
    told_code (with_queue s.machine d q) d (told x) (ap (λ (y : Drive). lies_in (ring_of y.window) s.machine.ram) same ∙ (h.machine.each_drive d l).tables ready)
    its.accepted.fits.above_code its.accepted.fits.in_ram

pub finish_code : (s : State) (p d id : ℕ) → IsSoundState s → may_finish s p d id ≡ true → SameCode s.machine (after_finish s d id).machine
unfolding after_finish
finish_code s p d id h m =
    let t = finish_tells s p d id m in
    let now = fits_now s d h t.0 in
    let i = is_there (drive_at s.machine d).queue id (λ (x : Unfinished). is_busy_by p x && ends x) now.sound t.1 in
    rw i.there (finished_code s d id i.request (is_dropped i.request) (left (drive_at s.machine d).queue id) h t.0 i.there refl)
