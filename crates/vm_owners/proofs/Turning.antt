-- What holds of every run is kept by Turn.
use Rattle.std.proofs.Common.{◌≡◌, ℕ, zero, suc, ◌+◌, ◌<◌, ◌≤◌, Bool, true, false, ◌||◌, cond, eqb, List, [], ◌∷◌, ◌++◌, length, get_or, refl, sym, ap, subst, ◌∙◌, inl, inr, arith, Option, Some, None}
use Rattle.std.specs.Prelude.{◌&&◌, if◌then◌else◌}
use Rattle.std.specs.List.{count_by, list_any, range_with_len, slice_get}
use Rattle.std.specs.Cmp.{nat_cmp_total}
use Rattle.std.specs.FinSet.{contains, insert, members, contains-is_subset}
use Rattle.std.proofs.lemmas.Bool.{cases_Bool, cases_lt, and_parts, true≢false}
use Rattle.std.proofs.lemmas.Bool.Decides.{nat_tests}
use Rattle.std.proofs.lemmas.Grind.{common_steps}
use Rattle.std.proofs.lemmas.List.{length_push}
use Rattle.std.proofs.lemmas.List.Sums.{sum_by-cons, sum_by-le-sum_by}
use Rattle.std.proofs.lemmas.List.FromFn.{length-range_with_len, get_or-range_with_len}
use Rattle.vm_law.specs.CpuSet.{Cpus, has}
use Rattle.vm_law.specs.declared.script.Order.{Order}
use Rattle.vm_law.specs.declared.script.Order.TheVariants.{Rendezvous}
use Rattle.vm_law.specs.declared.stage.MeetKind.{MeetKind}
use Rattle.vm_law.specs.declared.stage.MeetKind.TheVariants.{Routing, Sample}
use Rattle.vm_meet.specs.Meeting.{awaits, done_with, is_awaited, is_last, turned}
use Rattle.vm_meet.specs.declared.meeting.Meeting.{Meeting}
use Rattle.vm_ioapic.specs.Ioapic.{tmr}
use Rattle.vm_state.specs.declared.run_state.Sample as sample_type
use Rattle.vm_state.specs.Machine.{MachineState, cpu_at, cpu_count, cpu_numbers}
use Rattle.vm_state.specs.Sound.{IsMeetingOf, MeetFits, SamplesFit, IsSoundState, is_sample, is_sampled, samples_under_way}
use Rattle.vm_state.specs.State.{State, next_order, seat_at, with_machine}
use Rattle.vm_state.proofs.Keeps.{keeps_cpu}
use Rattle.vm_state.proofs.Lists.{none_at}
use Rattle.vm_state.proofs.Same.{images_same, meet_same}
use Rattle.vm_owners.specs.Turn.{may_turn, with_routing, turn_taken, turn_noted, turn_in, after_turn}

-- ---- the meeting after a turn

has_insert : (s : Cpus) (n q : ℕ) → contains (insert s n) q ≡ (eqb q n || contains s q)
has_insert s n q = grind (arith, members, nat_tests, common_steps)

done_more : (x : Meeting) (i q : ℕ) → has x.done q ≡ true → has (done_with x i) q ≡ true
done_more x i q e = has_insert x.done i q ∙ grind (arith, nat_tests, common_steps)

done_itself : (x : Meeting) (i : ℕ) → has (done_with x i) i ≡ true
done_itself x i = has_insert x.done i i ∙ grind (arith, nat_tests, common_steps)

abbrev after_one : Meeting → ℕ → Meeting
after_one x i = record x { done = done_with x i }

-- where no vCPU is awaited any more, it was the last turn
named_is_done : (x : Meeting) (q : ℕ) → is_awaited x q ≡ false → has x.named q ≡ true → has x.done q ≡ true
named_is_done x q none there = grind (arith, nat_tests, common_steps)

number_at : (n q : ℕ) → q < n → get_or (range_with_len 0 n) q 0 ≡ q
number_at n q l = let e = get_or-range_with_len 0 n q 0 l in omega (arith, e)

none_awaited : (n : ℕ) (x : Meeting) (q : ℕ) → q < n → list_any (awaits (Some x)) (range_with_len 0 n) ≡ false → is_awaited x q ≡ false
none_awaited n x q l none =
    let long = length-range_with_len 0 n in
    ap (λ k. is_awaited x k) (sym (number_at n q l)) ∙ none_at (awaits (Some x)) (range_with_len 0 n) q 0 none (omega arith)

filled : (m : MachineState) (x : Meeting) (i : ℕ) → IsMeetingOf m x → list_any (awaits (Some (after_one x i))) (cpu_numbers m) ≡ false → is_last x i ≡ true
filled m x i f none =
    contains-is_subset nat_cmp_total x.named (done_with x i) (λ q there. elim (cases_lt q (cpu_count m)) [
      | inl l ↦ named_is_done (after_one x i) q (none_awaited (cpu_count m) (after_one x i) q l none) there
      | inr past ↦ absurd (true≢false (sym there ∙ f.named q past))
    ])

stays_open : (m : MachineState) (x : Meeting) (i : ℕ) → IsMeetingOf m x → is_last x i ≡ false → IsMeetingOf m (after_one x i)
stays_open m x i f last = record {
  named = f.named;
  waits = elim (cases_Bool (list_any (awaits (Some (after_one x i))) (cpu_numbers m))) [
    | inl t ↦ t
    | inr none ↦ absurd (true≢false (sym (filled m x i f none) ∙ last))
  ];
}

turned_fits : (m : MachineState) (x : Meeting) (i : ℕ) → IsMeetingOf m x → (b : Bool) → is_last x i ≡ b → MeetFits m (if b then None else Some (after_one x i))
turned_fits m x i f true e = tt
turned_fits m x i f false e = stays_open m x i f e

-- ---- who is to note something yet

sampled_less_at : (x : Meeting) (i q : ℕ) → is_sampled (Some (after_one x i)) q ≡ true → is_sampled (Some x) q ≡ true
sampled_less_at x i q e =
    let more = done_more x i q in
    grind (arith, nat_tests, common_steps, and_parts)

sampled_less : (x : Meeting) (i q : ℕ) (b : Bool) → is_sampled (if b then None else Some (after_one x i)) q ≡ true → is_sampled (Some x) q ≡ true
sampled_less x i q true e = absurd (true≢false (sym e))
sampled_less x i q false e = sampled_less_at x i q e

not_sampled_at : (x : Meeting) (i : ℕ) → is_sampled (Some (after_one x i)) i ≡ false
not_sampled_at x i = let e = done_itself x i in grind (arith, nat_tests, common_steps)

not_sampled : (x : Meeting) (i : ℕ) (b : Bool) → is_sampled (if b then None else Some (after_one x i)) i ≡ false
not_sampled x i true = refl
not_sampled x i false = not_sampled_at x i

one_le : (a b : Bool) → (a ≡ true → b ≡ true) → cond a 1 0 ≤ cond b 1 0
one_le true true f = omega arith
one_le true false f = absurd (true≢false (sym (f refl)))
one_le false true f = omega arith
one_le false false f = omega arith

count_le : (p q : ℕ → Bool) → ((k : ℕ) → q k ≡ true → p k ≡ true) → (xs : List ℕ) → count_by q xs ≤ count_by p xs
count_le p q less xs = sum_by-le-sum_by (λ k. cond (q k) 1 0) (λ k. cond (p k) 1 0) xs (λ k. one_le (q k) (p k) (less k))

one_of : (b : Bool) → b ≡ true → 1 ≤ cond b 1 0
one_of true e = omega arith
one_of false e = absurd (true≢false (sym e))

none_of : (b : Bool) → b ≡ false → cond b 1 0 ≤ 0
none_of true e = absurd (true≢false e)
none_of false e = omega arith

-- a test that fails at one place more
count_less : (p q : ℕ → Bool) → ((k : ℕ) → q k ≡ true → p k ≡ true) → (xs : List ℕ) (j d : ℕ) → j < length xs → p (get_or xs j d) ≡ true → q (get_or xs j d) ≡ false
    → count_by q xs + 1 ≤ count_by p xs
count_less p q less [] j d l holds fails = absurd (omega arith)
count_less p q less (x ∷ xs) zero d l holds fails =
    let a = sum_by-cons (λ k. cond (q k) 1 0) x xs in
    let b = sum_by-cons (λ k. cond (p k) 1 0) x xs in
    let c = one_of (p x) holds in
    let e = none_of (q x) fails in
    let r = count_le p q less xs in omega (arith, a, b, c, e, r)
count_less p q less (x ∷ xs) (suc j) d l holds fails =
    let a = sum_by-cons (λ k. cond (q k) 1 0) x xs in
    let b = sum_by-cons (λ k. cond (p k) 1 0) x xs in
    let c = one_le (q x) (p x) (less x) in
    let r = count_less p q less xs j d (omega (arith, l)) holds fails in omega (arith, a, b, c, r)

count_less_at : (n : ℕ) (p q : ℕ → Bool) → ((k : ℕ) → q k ≡ true → p k ≡ true) → (i : ℕ) → i < n → p i ≡ true → q i ≡ false
    → count_by q (range_with_len 0 n) + 1 ≤ count_by p (range_with_len 0 n)
count_less_at n p q less i l holds fails =
    let e = number_at n i l in
    let long = length-range_with_len 0 n in
    count_less p q less (range_with_len 0 n) i 0 (omega arith) (ap (λ k. p k) e ∙ holds) (ap (λ k. q k) e ∙ fails)

-- ---- what Turn's row tells

record TurnTells (s : State) (i : ℕ) : Type 0 where
  cpu : i < cpu_count s.machine
  awaited : awaits s.machine.meet i ≡ true

turn_tells : (s : State) (p i : ℕ) → may_turn s p i ≡ true → TurnTells s i
unfolding may_turn
turn_tells s p i m = record { cpu = grind (arith, nat_tests, common_steps, and_parts); awaited = grind (arith, nat_tests, common_steps, and_parts) }

pub turn_cpu : (s : State) (p i : ℕ) → may_turn s p i ≡ true → i < cpu_count s.machine
turn_cpu s p i m = (turn_tells s p i m).cpu

-- what it does leaves the meeting, which waits for it
pub turn_awaited : (s : State) (p i : ℕ) (kind : MeetKind) → may_turn s p i ≡ true → awaits (turn_taken s i kind).machine.meet i ≡ true
unfolding turn_taken with_routing
turn_awaited s p i Routing m = (turn_tells s p i m).awaited
turn_awaited s p i Sample m = (turn_tells s p i m).awaited

sampled_there : (x : Meeting) (i : ℕ) → x.kind ≡ Sample → awaits (Some x) i ≡ true → is_sampled (Some x) i ≡ true
sampled_there x i kind e = ap (λ k. is_sample k && awaits (Some x) i) kind ∙ e

under_way : (x : Meeting) → x.kind ≡ Sample → samples_under_way (Some x) ≡ true
under_way x kind = ap (λ k. is_sample k) kind

-- the meeting's count of those who are to note something, at the meeting that is open
few_at : (s : State) (x : Meeting) → IsSoundState s → s.machine.meet ≡ Some x → length s.samples + count_by (is_sampled (Some x)) (cpu_numbers s.machine) ≤ 16
few_at s x h e = subst (λ z. length s.samples + count_by (is_sampled z) (cpu_numbers s.machine) ≤ 16) e h.samples.few

get_is_within : {X : Type 0} (xs : List X) (k : ℕ) (x : X) → slice_get xs k ≡ Some x → k < length xs
get_is_within [] k x e = absurd (cc)
get_is_within (y ∷ ys) zero x e = omega arith
get_is_within (y ∷ ys) (suc k) x e = let r = get_is_within ys k x e in omega (arith, r)

next_is_within : (s : State) (o : Order) → next_order s ≡ Some o → s.place < length s.script
unfolding next_order
next_is_within s o e = get_is_within s.script s.place o e

-- there is room for what the vCPU notes
pub record HasRoom (s : State) : Type 0 where
  pub few : length s.samples < 16
  pub order : s.place < length s.script

sample_room : (s : State) (x : Meeting) (i : ℕ) → IsSoundState s → i < cpu_count s.machine → s.machine.meet ≡ Some x → awaits (Some x) i ≡ true → x.kind ≡ Sample → HasRoom s
sample_room s x i h l e there kind =
    let noting = sampled_there x i kind there in
    let begun = h.samples.opened (ap (λ z. samples_under_way z) e ∙ under_way x kind) in
    let less = count_less_at (cpu_count s.machine) (is_sampled (Some x)) (λ k. false) (λ k f. absurd (true≢false (sym f))) i l noting refl in
    let few = few_at s x h e in
    record { few = omega arith; order = next_is_within s Rendezvous (h.samples.asked begun) }

pub room_for_sample : (s : State) (p i : ℕ) (x : Meeting) → IsSoundState s → may_turn s p i ≡ true → s.machine.meet ≡ Some x → x.kind ≡ Sample → HasRoom s
room_for_sample s p i x h m e kind =
    let t = turn_tells s p i m in sample_room s x i h t.cpu e (subst (λ z. awaits z i ≡ true) e t.awaited) kind

-- ---- Turn keeps what holds

-- the meeting that is open and what was noted are others
keeps_meeting : (s : State) (meet : Option Meeting) (samples : List sample_type.Sample) → IsSoundState s → MeetFits s.machine meet
    → SamplesFit (record (with_machine s (record s.machine { meet = meet })) { samples = samples }) → IsSoundState (record (with_machine s (record s.machine { meet = meet })) { samples = samples })
keeps_meeting s meet samples h f g = record {
  machine = record {
    some_cpu = h.machine.some_cpu;
    cpus = h.machine.cpus;
    first = h.machine.first;
    each_cpu = h.machine.each_cpu;
    ram = h.machine.ram;
    some_code = h.machine.some_code;
    code = h.machine.code;
    ioapic = h.machine.ioapic;
    uart = h.machine.uart;
    pins = h.machine.pins;
    drives = h.machine.drives;
    each_drive = h.machine.each_drive;
    timers = record { count = h.machine.timers.count; disarmed = h.machine.timers.disarmed };
  };
  seats = record { count = h.seats.count; each = h.seats.each };
  meet = meet_same s.machine (record s.machine { meet = meet }) meet meet refl refl f;
  images = images_same s.machine (record s.machine { meet = meet }) s.images refl refl h.images;
  counts = record {
    granted = h.counts.granted;
    limit = h.counts.limit;
    seen = h.counts.seen;
    pages = h.counts.pages;
    versions = h.counts.versions;
    script = h.counts.script;
    answers = h.counts.answers;
  };
  samples = g;
  script = h.script;
}

-- the run with the meeting after a turn of vCPU i, where this was noted
abbrev met : State → ℕ → List sample_type.Sample → State
met s i samples = record (with_machine s (record s.machine { meet = turned s.machine.meet i })) { samples = samples }

still_under_way : (x : Meeting) (i : ℕ) (b : Bool) → samples_under_way (if b then None else Some (after_one x i)) ≡ true → samples_under_way (Some x) ≡ true
still_under_way x i true e = absurd (true≢false (sym e))
still_under_way x i false e = e

keeps_met : (s : State) (i : ℕ) (x : Meeting) (samples : List sample_type.Sample) → IsSoundState s → s.machine.meet ≡ Some x
    → length samples + count_by (is_sampled (turned (Some x) i)) (cpu_numbers s.machine) ≤ 16 → (s.begun ≡ false → samples ≡ []) → IsSoundState (met s i samples)
unfolding next_order
keeps_met s i x samples h e few none =
    keeps_meeting s (turned s.machine.meet i) samples h
    (subst (λ z. MeetFits s.machine (turned z i)) (sym e) (turned_fits s.machine x i (subst (λ z. MeetFits s.machine z) e h.meet) (is_last x i) refl))
    (record {
      opened = λ u. h.samples.opened (ap (λ z. samples_under_way z) e ∙ still_under_way x i (is_last x i) (subst (λ z. samples_under_way (turned z i) ≡ true) e u));
      asked = h.samples.asked;
      few = subst (λ z. length samples + count_by (is_sampled (turned z i)) (cpu_numbers s.machine) ≤ 16) (sym e) few;
      none = none;
    })

keeps_kind : (s : State) (i : ℕ) (x : Meeting) → IsSoundState s → i < cpu_count s.machine → s.machine.meet ≡ Some x → awaits (Some x) i ≡ true
    → (kind : MeetKind) → x.kind ≡ kind → IsSoundState (turn_noted (turn_taken s i kind) i)
unfolding turn_taken with_routing
keeps_kind s i x h l e there Routing kind =
    let few = few_at s x h e in
    let c = h.machine.each_cpu i in
    let less = count_le (is_sampled (Some x)) (is_sampled (turned (Some x) i)) (λ q y. sampled_less x i q (is_last x i) y) (cpu_numbers s.machine) in
    keeps_cpu (met s i s.samples) i (record (cpu_at s.machine i) { lapic = record (cpu_at s.machine i).lapic { tmr = tmr s.machine.ioapic i (cpu_count s.machine) } })
    (keeps_met s i x s.samples h e (omega arith) h.samples.none)
    (record { is_cpu = record { flags = c.flags; waits = c.waits; unstarted = c.unstarted; number = c.number }; started = λ y. y; timer = λ y. y }) refl refl
keeps_kind s i x h l e there Sample kind =
    let few = few_at s x h e in
    let begun = h.samples.opened (ap (λ z. samples_under_way z) e ∙ under_way x kind) in
    let less = count_less_at (cpu_count s.machine) (is_sampled (Some x)) (is_sampled (turned (Some x) i)) (λ q y. sampled_less x i q (is_last x i) y) i l (sampled_there x i kind there) (not_sampled x i (is_last x i)) in
    let long = length_push s.samples (record { cpu = i; ran = (seat_at s i).ran }) in
    keeps_met s i x (s.samples ++ record { cpu = i; ran = (seat_at s i).ran } ∷ []) h e (omega arith) (λ f. absurd (true≢false (sym begun ∙ f)))

keeps_in : (s : State) (i : ℕ) (meet : Option Meeting) → s.machine.meet ≡ meet → IsSoundState s → i < cpu_count s.machine → awaits meet i ≡ true → IsSoundState (turn_in s i meet)
keeps_in s i None e h l there = h
keeps_in s i (Some x) e h l there = keeps_kind s i x h l e there x.kind refl

pub keeps_turn : (s : State) (p i : ℕ) → IsSoundState s → may_turn s p i ≡ true → IsSoundState (after_turn s i)
unfolding after_turn
keeps_turn s p i h m = let t = turn_tells s p i m in keeps_in s i s.machine.meet refl h t.cpu t.awaited
