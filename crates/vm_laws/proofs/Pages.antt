-- A page of the code that has the same version at two places of a history has the same bytes.
use Rattle.std.specs.Prelude.{Option, Some, None, Result, Ok, Err, ◌&&◌, if◌then◌else◌, slice_index}
use Rattle.std.proofs.Common.{◌≡◌, ℕ, ◌<◌, ◌≤◌, ◌^◌, Bool, true, false, not, List, [], ◌∷◌, ◌++◌, length, refl, sym, ap, ◌∙◌, arith}
use Rattle.std.proofs.lemmas.Bool.{and_parts}
use Rattle.std.proofs.lemmas.List.{length-take}
use Rattle.vm_law.specs.Memory.{Memory}
use Rattle.vm_law.specs.Memory.{code_of as code_part}
use Rattle.vm_law.specs.declared.context.Stop.{Stop}
use Rattle.vm_law.specs.declared.insn.Insn.{Insn}
use Rattle.vm_law.specs.declared.journal.Entry.{Entry}
use Rattle.vm_law.specs.declared.journal.Entry.TheVariants.{Claim, Start, Enter, Slice, Step, Exit, Sleep, Wake, Yield, Turn, Meet, Pull, Begin, Move, Hold, Put, Finish, Feed, Wish, Done, End, Close, Tick}
use Rattle.vm_law.specs.declared.journal.Signed.{Signed}
use Rattle.vm_law.specs.declared.script.Order.{Order}
use Rattle.vm_law.specs.declared.script.Order.TheVariants as order
use Rattle.vm_law.specs.declared.stage.MeetKind.{MeetKind}
use Rattle.vm_law.specs.declared.stage.MeetKind.TheVariants.{Routing, Sample}
use Rattle.vm_meet.specs.declared.meeting.Meeting.{Meeting}
use Rattle.x86_exec.specs.declared.effect.Effect.{Effect}
use Rattle.x86_exec.specs.declared.effect.Effect.TheVariants as effect
use Rattle.x86_exec.specs.declared.effect.Stored.{Stored}
use Rattle.x86_exec.specs.Shared as exec
use Rattle.x86_fetch.specs.declared.fetching.Next.{Next}
use Rattle.x86_fetch.specs.declared.fetching.Next.TheVariants.{Local, Shared, Undefined, OutOfCode}
use Rattle.x86_trap.specs.Delivery.{delivered, Delivered}
use Rattle.vm_lapic.specs.Apic.{ready}
use Rattle.vm_state.specs.declared.start.Start as start_type
use Rattle.vm_state.specs.Machine.{cpu_at, cpu_count, code_of, takes_nmi, takes_vector}
use Rattle.vm_state.specs.Sound.{IsSoundState}
use Rattle.vm_state.specs.Start.{IsSound, boot}
use Rattle.vm_state.specs.State.{State, next_order, versions_after}
use Rattle.vm_owners.specs.Owners.{after_claim, after_start, after_exit, after_sleep, after_wake, after_yield}
use Rattle.vm_owners.specs.Turn.{with_routing, turn_taken, turn_in, after_turn}
use Rattle.vm_devices.specs.Timers.{ticked}
use Rattle.vm_running.specs.Enter.{stopped_at, entered, settled, delivered_in, taken, nmi_taken, vector_taken, interrupt_taken, after_enter}
use Rattle.vm_running.specs.Slice.{spent, after_slice}
use Rattle.vm_running.specs.Step.{next_at, stepped_to, stored_in, after_trap, trapped, performed_as, performed, after_step, printed, port_in, port_out, window_load, window_store}
use Rattle.vm_disks.specs.Queueing.{may_pull, after_pull, after_begin}
use Rattle.vm_disks.specs.Moving.{may_move, may_finish, after_move, after_finish}
use Rattle.vm_disks.specs.Images.{after_hold, after_put}
use Rattle.vm_orders.specs.Duties.{after_feed, after_meet, after_wish, after_tick}
use Rattle.vm_orders.specs.Done.{ordered, ordered_as, noted_as, said_as, after_done, request_cancelled, noted}
use Rattle.vm_orders.specs.Ending.{after_end, after_close}
use Rattle.vm_table.proofs.Keeps.{after_keeps}
use Rattle.vm_table.specs.History.{IsLegal, after_all, is_lawful_all, last_state}
use Rattle.vm_table.specs.Table.{allowed, lawful, effect, counted, after}
use Rattle.vm_laws.specs.Owned.{code_page, version_of}
use Rattle.vm_laws.proofs.Accesses.{Accessed, serial_with, accessed_read, accessed_window, accessed_written}
use Rattle.vm_laws.proofs.Framing.{hears_fired_below}
use Rattle.vm_laws.proofs.Histories.{after_split, lawful_split}
use Rattle.vm_laws.proofs.Sounding.{sound_after}
use Rattle.vm_laws.proofs.Framed.{delivered_code}
use Rattle.vm_laws.proofs.Shortness.{CodeAfter, shared_code}
use Rattle.vm_laws.proofs.Touching.{PageStays, touched_stays}
use Rattle.vm_laws.proofs.Working.{pull_code, move_code, finish_code}

-- versions grow, and where that of a page is the same its bytes are
pub record PageKept (s t : State) (k : ℕ) : Type 0 where
  pub grows : version_of s k ≤ version_of t k
  pub stays : version_of t k ≡ version_of s k → code_page t.machine k ≡ code_page s.machine k
  pub size : length (code_of t.machine) ≡ length (code_of s.machine)

abbrev SameCode : State → State → Type 0
SameCode s t = code_of t.machine ≡ code_of s.machine

by_same : (s t : State) (k : ℕ) → t.versions ≡ s.versions → SameCode s t → PageKept s t k
by_same s t k v c = record {
  grows = (let e : version_of t k ≡ version_of s k = ap (λ (xs : List ℕ). slice_index xs k) v in omega (arith, e));
  stays = λ e. page_of_code c;
  size = ap (λ (xs : List ℕ). length xs) c;
}
  where
    page_of_code : SameCode s t → code_page t.machine k ≡ code_page s.machine k
    page_of_code c = cc

by_ram : (s t : State) (k : ℕ) → t.versions ≡ s.versions → t.machine.ram ≡ s.machine.ram → PageKept s t k
by_ram s t k v r = by_same s t k v (ap (λ (m : Memory). code_part m) r)

fits : (s : State) → IsSoundState s → length s.machine.ram.bytes < 2 ^ 64
fits s h = let most = h.machine.ram.size.most in omega (arith, most)

-- ---- Enter

settled_page : (s : State) (i : ℕ) (d : Delivered) (r : Result (Unit {0}) Stop) → code_part d.memory ≡ code_of s.machine → SameCode s (settled s i d r)
unfolding settled stopped_at
settled_page s i d (Ok u) e = e
settled_page s i d (Err why) e = refl

settled_versions : (s : State) (i : ℕ) (d : Delivered) (r : Result (Unit {0}) Stop) → (settled s i d r).versions ≡ s.versions
unfolding settled stopped_at
settled_versions s i d (Ok u) = refl
settled_versions s i d (Err why) = refl

-- what another run has of the code
record Alike (s t : State) : Type 0 where
  versions : t.versions ≡ s.versions
  code : SameCode s t
  size : length t.machine.ram.bytes ≡ length s.machine.ram.bytes

in_page : (s t : State) (i v : ℕ) (nmi : Bool) → length t.machine.ram.bytes < 2 ^ 64 → t.versions ≡ s.versions → SameCode s t → (k : ℕ) → PageKept s (delivered_in t i v nmi) k
in_page s t i v nmi size e c k =
    let d = delivered (cpu_at t.machine i).ctx t.machine.ram v None nmi in
    by_same s (delivered_in t i v nmi) k (settled_versions t i d d.answer ∙ e)
    (settled_page t i d d.answer (delivered_code (cpu_at t.machine i).ctx t.machine.ram v None nmi size) ∙ c)

nmi_page : (s t : State) (i k : ℕ) → length t.machine.ram.bytes < 2 ^ 64 → t.versions ≡ s.versions → SameCode s t → PageKept s (nmi_taken t i) k
unfolding nmi_taken
nmi_page s t i k size e c = in_page s (taken t i _) i 2 true size e c k

vector_page : (s t : State) (i k : ℕ) (o : Option ℕ) → length t.machine.ram.bytes < 2 ^ 64 → t.versions ≡ s.versions → SameCode s t → PageKept s (vector_taken t i o) k
unfolding vector_taken
vector_page s t i k None size e c = by_same s t k e c
vector_page s t i k (Some v) size e c = in_page s (taken t i _) i v false size e c k

choice : (P : State → Type 0) (a b : Bool) (x y z : State) → P x → P y → P z → P (if a then x else if b then y else z)
choice P true b x y z p q r = p
choice P false true x y z p q r = q
choice P false false x y z p q r = r

enter_page : (s : State) (p i grant k : ℕ) → IsSoundState s → PageKept s (after_enter s p i grant) k
unfolding after_enter interrupt_taken entered
enter_page s p i grant k h =
    let t = entered s p i grant in
    choice (λ u. PageKept s u k) (takes_nmi (cpu_at t.machine i)) (takes_vector (cpu_at t.machine i)) (nmi_taken t i) (vector_taken t i (ready (cpu_at t.machine i).lapic)) t
    (nmi_page s t i k (fits s h) refl refl) (vector_page s t i k (ready (cpu_at t.machine i).lapic) (fits s h) refl refl) (by_same s t k refl refl)

-- ---- Step

stepped_page : (s t : State) (i : ℕ) (c : _) (halted : Bool) (k : ℕ) → PageKept s t k → PageKept s (stepped_to t i c halted) k
unfolding stepped_to spent
stepped_page s t i c halted k h = record { grows = h.grows; stays = h.stays; size = h.size }

stopped_page : (s : State) (i : ℕ) (why : Stop) (k : ℕ) → PageKept s (stopped_at s i why) k
unfolding stopped_at
stopped_page s i why k = by_same s _ k refl refl

trap_page : (s : State) (i : ℕ) (d : Delivered) (r : Result (Unit {0}) Stop) (k : ℕ) → code_part d.memory ≡ code_of s.machine → PageKept s (after_trap s i d r) k
trap_page s i d (Ok u) k e = stepped_page s _ i d.ctx false k (by_same s _ k refl e)
trap_page s i d (Err why) k e = stopped_page s i why k

trapped_page : (s : State) (i rip v : ℕ) (error : Option ℕ) (k : ℕ) → IsSoundState s → PageKept s (trapped s i rip v error) k
unfolding trapped
trapped_page s i rip v error k h =
    let c = record (cpu_at s.machine i).ctx { rip = rip } in
    let d = delivered c s.machine.ram v error false in
    trap_page s i d d.answer k (delivered_code c s.machine.ram v error false (fits s h))

-- the code is as long as is said
code_long : (s : State) → IsSoundState s → length (code_of s.machine) ≤ s.machine.ram.code
code_long s h = omega (arith, length-take s.machine.ram.code s.machine.ram.bytes)

stored_page : (s : State) (o : Option Stored) (m : Memory) (k : ℕ) → IsSoundState s → CodeAfter o s.machine.ram m
    → PageStays s.versions (versions_after s.versions s.machine.ram.code o) (code_of s.machine) (code_part m) k
stored_page s None m k h c = record { grows = omega arith; stays = λ e. cc }
stored_page s (Some r) m k h c = touched_stays s.versions (code_of s.machine) (code_part m) r s.machine.ram.code k h.counts.pages c.1 (code_long s h) c.0

stored_size : (o : Option Stored) (m n : Memory) → CodeAfter o m n → length (code_part n) ≡ length (code_part m)
stored_size None m n c = ap (λ (xs : List ℕ). length xs) c
stored_size (Some r) m n c = c.1.size

store_page : (s : State) (x : exec.Shared) (k : ℕ) → IsSoundState s → CodeAfter x.stored s.machine.ram x.memory → PageKept s (stored_in s x) k
store_page s x k h c = let p = stored_page s x.stored x.memory k h c in record { grows = p.grows; stays = p.stays; size = stored_size x.stored s.machine.ram x.memory c }

access_page : (s t : State) (k : ℕ) → Accessed s t → PageKept s t k
access_page s t k a = by_ram s t k a.versions a.machine.ram

printed_page : (s t : State) (byte : Option ℕ) (k : ℕ) → PageKept s t k → PageKept s (printed t byte) k
printed_page s t byte k h = record { grows = h.grows; stays = h.stays; size = h.size }

performed_as_page : (s : State) (p i : ℕ) (insn : Insn) (len : ℕ) (x : exec.Shared) (e : Effect) (k : ℕ) → IsSoundState s → CodeAfter x.stored s.machine.ram x.memory → PageKept s (performed_as s p i insn len x e) k
unfolding performed_as port_in port_out window_load window_store
performed_as_page s p i insn len x effect.Done k h c = stepped_page s (stored_in s x) i x.ctx false k (store_page s x k h c)
performed_as_page s p i insn len x effect.Halt k h c = stepped_page s s i x.ctx true k (by_same s s k refl refl)
performed_as_page s p i insn len x (effect.Trap v error) k h c = trapped_page s i _ v error k h
performed_as_page s p i insn len x (effect.Stop why) k h c = stopped_page s i why k
performed_as_page s p i insn len x (effect.PortIn port w) k h c = stepped_page s _ i _ false k (access_page s _ k (accessed_read s port w))
performed_as_page s p i insn len x (effect.PortOut port w value) k h c = stepped_page s _ i x.ctx false k (printed_page s _ _ k (access_page s _ k (accessed_written s port w value)))
performed_as_page s p i insn len x (effect.Load a) k h c = stepped_page s s i _ false k (by_same s s k refl refl)
performed_as_page s p i insn len x (effect.Store a value) k h c = stepped_page s _ i x.ctx false k (access_page s _ k (accessed_window s p i a value))

performed_page : (s : State) (p i : ℕ) (n : Next) (k : ℕ) → IsSoundState s → PageKept s (performed s p i n) k
unfolding performed
performed_page s p i (Local insn len) k h = by_same s s k refl refl
performed_page s p i (Shared insn len) k h =
    let x = exec.shared (cpu_at s.machine i).ctx insn len s.machine.ram in
    performed_as_page s p i insn len x x.effect k h (shared_code (cpu_at s.machine i).ctx insn len s.machine.ram (fits s h))
performed_page s p i Undefined k h = trapped_page s i _ 6 None k h
performed_page s p i OutOfCode k h = stopped_page s i _ k

step_page : (s : State) (p i k : ℕ) → IsSoundState s → PageKept s (after_step s p i) k
unfolding after_step
step_page s p i k h = performed_page s p i (next_at s i) k h

-- ---- the other entries

slice_page : (s : State) (i n k : ℕ) → PageKept s (after_slice s i n) k
unfolding after_slice spent
slice_page s i n k = by_same s _ k refl refl

turn_taken_page : (s : State) (i : ℕ) (kind : MeetKind) (k : ℕ) → PageKept s (turn_taken s i kind) k
unfolding turn_taken with_routing
turn_taken_page s i Routing k = by_same s _ k refl refl
turn_taken_page s i Sample k = by_same s _ k refl refl

turn_in_page : (s : State) (i : ℕ) (o : Option Meeting) (k : ℕ) → PageKept s (turn_in s i o) k
turn_in_page s i None k = by_same s s k refl refl
turn_in_page s i (Some x) k = let h = turn_taken_page s i x.kind k in record { grows = h.grows; stays = h.stays; size = h.size }

turn_page : (s : State) (i k : ℕ) → PageKept s (after_turn s i) k
unfolding after_turn
turn_page s i k = turn_in_page s i s.machine.meet k

tick_page : (s : State) (n k : ℕ) → PageKept s (after_tick s n) k
unfolding after_tick ticked
tick_page s n k = by_ram s _ k refl (hears_fired_below s.machine n (cpu_count s.machine)).ram

feed_page : (s : State) (k : ℕ) → PageKept s (after_feed s) k
unfolding after_feed
feed_page s k = by_ram s _ k refl (serial_with s.machine _).ram

pull_page : (s : State) (p d k : ℕ) → IsSoundState s → may_pull s p d ≡ true → PageKept s (after_pull s d) k
unfolding after_pull
pull_page s p d k h m = by_same s (after_pull s d) k refl (pull_code s p d h m)

move_page : (s : State) (p d id k : ℕ) → IsSoundState s → may_move s p d id ≡ true → PageKept s (after_move s d id) k
unfolding after_move
move_page s p d id k h m = by_same s (after_move s d id) k refl (move_code s p d id h m)

finish_page : (s : State) (p d id k : ℕ) → IsSoundState s → may_finish s p d id ≡ true → PageKept s (after_finish s d id) k
unfolding after_finish
finish_page s p d id k h m = by_same s (after_finish s d id) k refl (finish_code s p d id h m)

ordered_page : (s : State) (o : Order) (k : ℕ) → PageKept s (ordered s o) k
unfolding ordered request_cancelled
ordered_page s (order.Input bytes) k = by_same s s k refl refl
ordered_page s (order.Nmi i) k = by_same s _ k refl refl
ordered_page s (order.Cancel c id) k = by_same s _ k refl refl
ordered_page s (order.Set i reg value) k = by_same s _ k refl refl
ordered_page s order.Resume k = by_same s _ k refl refl
ordered_page s o k = by_same s s k refl refl

done_as_page : (s : State) (o : Option Order) (k : ℕ) → PageKept s (noted_as (ordered_as s o) o (said_as s o)) k
unfolding noted
done_as_page s None k = by_same s s k refl refl
done_as_page s (Some o) k = let h = ordered_page s o k in record { grows = h.grows; stays = h.stays; size = h.size }

done_page : (s : State) (k : ℕ) → PageKept s (after_done s) k
unfolding after_done
done_page s k = done_as_page s (next_order s) k

effect_page : (s : State) (p : ℕ) (e : Entry) (k : ℕ) → IsSoundState s → allowed s p e ≡ true → PageKept s (effect s p e) k
unfolding effect allowed after_claim after_start after_exit after_sleep after_wake after_yield after_meet after_wish after_end after_close after_begin after_hold after_put
effect_page s p (Claim j) k h m = by_same s _ k refl refl
effect_page s p (Start j) k h m = by_same s _ k refl refl
effect_page s p (Enter j grant) k h m = enter_page s p j grant k h
effect_page s p (Slice j n) k h m = slice_page s j n k
effect_page s p (Step j) k h m = step_page s p j k h
effect_page s p (Exit j) k h m = by_same s _ k refl refl
effect_page s p (Sleep j) k h m = by_same s _ k refl refl
effect_page s p (Wake j) k h m = by_same s _ k refl refl
effect_page s p (Yield j) k h m = by_same s _ k refl refl
effect_page s p (Turn j) k h m = turn_page s j k
effect_page s p Meet k h m = by_same s _ k refl refl
effect_page s p (Pull c) k h m = pull_page s p c k h m
effect_page s p (Begin c id) k h m = by_same s _ k refl refl
effect_page s p (Move c id) k h m = move_page s p c id k h m
effect_page s p (Hold c id) k h m = by_same s _ k refl refl
effect_page s p (Put c id ok) k h m = by_same s _ k refl refl
effect_page s p (Finish c id) k h m = finish_page s p c id k h m
effect_page s p Feed k h m = feed_page s k
effect_page s p Wish k h m = by_same s _ k refl refl
effect_page s p (Done n) k h m = done_page s k
effect_page s p (End c) k h m = by_same s _ k refl refl
effect_page s p Close k h m = by_same s _ k refl refl
effect_page s p (Tick n) k h m = tick_page s n k

pub after_page : (s : State) (x : Signed) (k : ℕ) → IsSoundState s → lawful s x.by x.entry ≡ true → PageKept s (after s x) k
unfolding after counted lawful
after_page s x k h m =
    let p = effect_page s x.by x.entry k h (and_parts (not s.closed) (allowed s x.by x.entry) m).1 in
    record { grows = p.grows; stays = p.stays; size = p.size }

then_page : (s t u : State) (k : ℕ) → PageKept s t k → PageKept t u k → PageKept s u k
then_page s t u k a b =
    let first = a.grows in
    let second = b.grows in
    record {
      grows = omega (arith, first, second);
      stays = λ e. b.stays (omega (arith, first, second, e)) ∙ a.stays (omega (arith, first, second, e));
      size = b.size ∙ a.size;
    }

all_page : (s : State) (xs : List Signed) (k : ℕ) → IsSoundState s → is_lawful_all s xs ≡ true → PageKept s (after_all s xs) k
all_page s [] k h m = by_same s s k refl refl
all_page s (x ∷ xs) k h m =
    let t = and_parts (lawful s x.by x.entry) _ m in
    then_page s (after s x) (after_all (after s x) xs) k (after_page s x k h t.0) (all_page (after s x) xs k (after_keeps s x h t.0) t.1)

pub lawful_front : (s : State) (xs ys : List Signed) → is_lawful_all s (xs ++ ys) ≡ true → is_lawful_all s xs ≡ true
lawful_front s [] ys h = refl
lawful_front s (x ∷ xs) ys h =
    let t = and_parts (lawful s x.by x.entry) _ h in
    both_true (lawful s x.by x.entry) _ t.0 (lawful_front (after s x) xs ys t.1)
  where
    both_true : (a b : Bool) → a ≡ true → b ≡ true → (a && b) ≡ true
    both_true true b p q = q
    both_true false b p q = p

pub pages_have_versions : (start : start_type.Start) (shorter longer : List Signed) (k : ℕ) → IsSound start → IsLegal start (shorter ++ longer)
    → version_of (last_state start (shorter ++ longer)) k ≡ version_of (last_state start shorter) k
    → code_page (last_state start (shorter ++ longer)).machine k ≡ code_page (last_state start shorter).machine k
pages_have_versions start shorter longer k sound legal e =
    let t = last_state start shorter in
    let split = after_split (boot start) shorter longer in
    let h = sound_after start shorter sound (lawful_front (boot start) shorter longer legal) in
    let p = all_page t longer k h (lawful_split (boot start) shorter longer legal) in
    ap (λ (u : State). code_page u.machine k) split ∙ p.stays (sym (ap (λ (u : State). version_of u k) split) ∙ e)
