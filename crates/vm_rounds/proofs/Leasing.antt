-- What a runner has out comes back as a lawful Slice, unless a page that it looked at has changed.
use Rattle.std.specs.Prelude.{Option, Some, None, ◌==◌, ◌&&◌, ◌||◌, if◌then◌else◌, slice_index, is_some}
use Rattle.std.specs.List.{list_all}
use Rattle.std.proofs.Common.{◌≡◌, ◌⊎◌, ℕ, ◌+◌, ◌<◌, ◌≤◌, Bool, true, false, not, List, length, refl, sym, ap, subst, ◌∙◌, inl, inr, arith}
use Rattle.std.proofs.lemmas.Bool.{and_parts, cases_lt, cases_Bool, true≢false}
use Rattle.std.proofs.lemmas.Bool.Decides.{nat_tests}
use Rattle.std.proofs.lemmas.Grind.{common_steps}
use Rattle.std.proofs.lemmas.List.{get_or_past}
use Rattle.vm_law.specs.declared.context.Ctx.{Ctx}
use Rattle.vm_law.specs.declared.journal.Entry.TheVariants.{Slice}
use Rattle.vm_law.specs.declared.journal.Signed.{Signed}
use Rattle.vm_law.specs.declared.stage.Owned.{Owned}
use Rattle.vm_law.specs.declared.stage.Owned.TheVariants.{Idle, Frozen, Running, Sleeping}
use Rattle.vm_meet.specs.declared.meeting.Meeting.{Meeting}
use Rattle.vm_meet.specs.Meeting.{started_by}
use Rattle.x86_fetch.specs.Slices.{all_local, most_local}
use Rattle.vm_state.specs.declared.cpu.Cpu.{Cpu}
use Rattle.vm_state.specs.Machine.{code_of, cpu_at, cpu_count, is_running, unstarted_cpu}
use Rattle.vm_state.specs.Sound.{IsSoundState}
use Rattle.vm_state.specs.State.{State, seat_at}
use Rattle.vm_running.specs.Slice.{has_slice, may_slice}
use Rattle.vm_table.specs.Rounds.{Lease, is_kept, lease_of, leases, no_lease, pages_looked, run_outside}
use Rattle.vm_table.specs.Table.{after, allowed, lawful}
use Rattle.vm_table.specs.Turns.{IsGreatestSlice, is_exit_due}
use Rattle.vm_laws.specs.Owned.{code_page, is_had_by, version_of}
use Rattle.vm_laws.proofs.Owning.{after_keeps}
use Rattle.vm_rounds.proofs.Greatest.{greatest}
use Rattle.vm_rounds.proofs.Looking.{most_fits, most_same, still_local}
use Rattle.vm_laws.proofs.Pages.{after_page}
use Rattle.vm_rounds.proofs.Starters.{after_opener}
use Rattle.vm_laws.proofs.Touching.{page_in}

-- the vCPU runs as it did, over code of which a page with the same version is the same
pub record LeaseStands (s : State) (i : ℕ) (x : Lease) : Type 0 where
  pub running : is_running (cpu_at s.machine i).stage (1 + i) ≡ true
  pub awake : (cpu_at s.machine i).halted ≡ false
  pub few : x.ran ≤ (seat_at s i).left
  pub starter : started_by s.machine.meet (1 + i) ≡ false
  pub code : List ℕ
  pub granted : ℕ
  pub within : x.ran ≤ granted
  pub size : length (code_of s.machine) ≡ length code
  pub looked : x.looked ≡ pages_looked code (cpu_at s.machine i).ctx x.ran granted
  pub most : x.ran ≡ most_local code (cpu_at s.machine i).ctx granted
  pub grant : (seat_at s i).left ≡ granted
  pub local : all_local code (cpu_at s.machine i).ctx x.ran ≡ true
  pub grows : (page : ℕ) → slice_index x.versions page ≤ version_of s page
  pub stays : (page : ℕ) → version_of s page ≡ slice_index x.versions page → code_page s.machine page ≡ page_in code page

abbrev pub LeaseFits : State → ℕ → Lease → Type 0
LeaseFits s i x = (x.ran ≡ 0) ⊎ LeaseStands s i x

-- ---- it comes back

pub within_cpus : (s : State) (i p : ℕ) → is_running (cpu_at s.machine i).stage p ≡ true → i < cpu_count s.machine
unfolding unstarted_cpu
within_cpus s i p r =
    elim (cases_lt i (cpu_count s.machine)) [
      | inl l ↦ l
      | inr past ↦ (let e : cpu_at s.machine i ≡ unstarted_cpu i = get_or_past s.machine.cpus i (unstarted_cpu i) past in absurd (true≢false (sym (sym (ap (λ (c : Cpu). is_running c.stage p) e) ∙ r))))
    ]

page_kept : (s : State) (x : Lease) (page : ℕ) → (slice_index s.versions page == slice_index x.versions page) ≡ true → version_of s page ≡ slice_index x.versions page
page_kept s x page h = grind (arith, nat_tests, h)

slice_parts : (s : State) (i n : ℕ) → i < cpu_count s.machine → is_running (cpu_at s.machine i).stage (1 + i) ≡ true → (cpu_at s.machine i).halted ≡ false → 0 < n → n ≤ (seat_at s i).left → started_by s.machine.meet (1 + i) ≡ false
    → has_slice s (1 + i) i n ≡ true
unfolding has_slice
slice_parts s i n l r w some few st = grind (arith, nat_tests, common_steps)

may_with : (s : State) (i n : ℕ) → has_slice s (1 + i) i n ≡ true → all_local (code_of s.machine) (cpu_at s.machine i).ctx n ≡ true → may_slice s (1 + i) i n ≡ true
unfolding may_slice
may_with s i n h l = ap (λ b. b && all_local (code_of s.machine) (cpu_at s.machine i).ctx n) h ∙ l

lawful_with : (s : State) (i n : ℕ) → s.closed ≡ false → may_slice s (1 + i) i n ≡ true → lawful s (1 + i) (Slice i n) ≡ true
unfolding lawful allowed
lawful_with s i n g m = ap (λ b. not b && may_slice s (1 + i) i n) g ∙ m

pub lease_slices : (s : State) (i : ℕ) (x : Lease) → LeaseStands s i x → s.closed ≡ false → 0 < x.ran → is_kept s x ≡ true → lawful s (1 + i) (Slice i x.ran) ≡ true
lease_slices s i x h g some kept =
    let test : ℕ → Bool = λ page. slice_index s.versions page == slice_index x.versions page in
    let local = still_local h.code (code_of s.machine) test (λ page t. h.stays page (page_kept s x page t)) h.size (cpu_at s.machine i).ctx x.ran h.granted h.within
    (subst (λ (pages : List ℕ). list_all test pages ≡ true) h.looked kept) h.local in
    lawful_with s i x.ran g (may_with s i x.ran (slice_parts s i x.ran (within_cpus s i (1 + i) h.running) h.running h.awake some h.few h.starter) local)

-- and it is the greatest
pub lease_greatest : (s : State) (i : ℕ) (x : Lease) → LeaseStands s i x → is_kept s x ≡ true → lawful s (1 + i) (Slice i x.ran) ≡ true → IsGreatestSlice s (1 + i) i x.ran
lease_greatest s i x h kept may =
    let test : ℕ → Bool = λ page. slice_index s.versions page == slice_index x.versions page in
    let most = most_same h.code (code_of s.machine) test (λ page t. h.stays page (page_kept s x page t)) h.size (cpu_at s.machine i).ctx x.ran h.granted h.most (subst (λ (pages : List ℕ). list_all test pages ≡ true) h.looked kept) in
    greatest s (1 + i) i x.ran (most ∙ ap (λ (n : ℕ). most_local (code_of s.machine) (cpu_at s.machine i).ctx n) (sym h.grant)) may

-- ---- it goes out

record NotDue (s : State) (i : ℕ) : Type 0 where
  meet : s.machine.meet ≡ None
  awake : (cpu_at s.machine i).halted ≡ false
  left : 0 < (seat_at s i).left

none_if : (o : Option Meeting) → is_some o ≡ false → o ≡ None
none_if None h = refl
none_if (Some m) h = absurd (true≢false h)

or_false : (a b : Bool) → (a || b) ≡ false → (a ≡ false) × (b ≡ false)
or_false true b h = absurd (true≢false h)
or_false false b h = (refl, h)

not_due : (s : State) (i : ℕ) → is_exit_due s i ≡ false → NotDue s i
unfolding is_exit_due
not_due s i h =
    let a = or_false _ _ h in
    let b = or_false _ _ a.0 in
    let c = or_false _ _ b.0 in
    let d = or_false _ _ c.0 in
    record { meet = none_if s.machine.meet d.0; awake = b.1; left = grind (arith, nat_tests, common_steps) }

leased_stands : (s : State) (i : ℕ) → is_running (cpu_at s.machine i).stage (1 + i) ≡ true → NotDue s i → LeaseStands s i (lease_of (code_of s.machine) (cpu_at s.machine i).ctx (seat_at s i).left s.versions)
leased_stands s i r n =
    let m = most_fits (code_of s.machine) (cpu_at s.machine i).ctx (seat_at s i).left in
    record {
      running = r;
      awake = n.awake;
      few = m.1;
      starter = ap (λ (o : Option Meeting). started_by o (1 + i)) n.meet;
      code = code_of s.machine;
      granted = (seat_at s i).left;
      within = m.1;
      size = refl;
      looked = refl;
      most = refl;
      grant = refl;
      local = m.0;
      grows = λ page. omega arith;
      stays = λ page e. refl;
    }

false_not : (b : Bool) → not b ≡ true → b ≡ false
false_not true h = absurd (true≢false (sym h))
false_not false h = refl

outside_if : (s : State) (i : ℕ) (b : Bool) → leases s i ≡ b → LeaseFits s i (if b then lease_of (code_of s.machine) (cpu_at s.machine i).ctx (seat_at s i).left s.versions else no_lease)
outside_if s i false e = inl refl
outside_if s i true e =
    let t = and_parts (is_running (cpu_at s.machine i).stage (1 + i)) (not (is_exit_due s i)) e in
    inr (leased_stands s i t.0 (not_due s i (false_not (is_exit_due s i) t.1)))

pub outside_fits : (s : State) (i : ℕ) → LeaseFits s i (run_outside s i)
unfolding run_outside
outside_fits s i = outside_if s i (leases s i) refl

-- ---- entries of other passes leave it

had_running : (st : Owned) (p : ℕ) → is_running st p ≡ true → is_had_by st p ≡ true
had_running Idle p h = h
had_running (Frozen q) p h = absurd (true≢false (sym h))
had_running (Running q) p h = h
had_running (Sleeping q) p h = h

starter_stays : (s : State) (x : Signed) (p : ℕ) → lawful s x.by x.entry ≡ true → (x.by == p) ≡ false → started_by s.machine.meet p ≡ false → started_by (after s x).machine.meet p ≡ false
starter_stays s x p m ne h =
    elim (cases_Bool (started_by (after s x).machine.meet p)) [
      | inl t ↦ absurd (true≢false (sym (after_opener s x p m ne t) ∙ h))
      | inr f ↦ f
    ]

pub lease_moves : (s : State) (x : Signed) (i : ℕ) (y : Lease) → IsSoundState s → lawful s x.by x.entry ≡ true → (x.by == 1 + i) ≡ false → LeaseFits s i y → LeaseFits (after s x) i y
lease_moves s x i y h m ne (inl none) = inl none
lease_moves s x i y h m ne (inr l) =
    let k = after_keeps s x i (1 + i) m (had_running (cpu_at s.machine i).stage (1 + i) l.running) ne in
    let left = k.left in
    let few = l.few in
    inr (record {
      running = ap (λ (st : Owned). is_running st (1 + i)) k.stage ∙ l.running;
      awake = k.halted ∙ l.awake;
      few = omega (arith, left, few);
      starter = starter_stays s x (1 + i) m ne l.starter;
      code = l.code;
      granted = l.granted;
      within = l.within;
      size = (after_page s x 0 h m).size ∙ l.size;
      looked = l.looked ∙ ap (λ (c : Ctx). pages_looked l.code c y.ran l.granted) (sym k.ctx);
      most = l.most ∙ ap (λ (c : Ctx). most_local l.code c l.granted) (sym k.ctx);
      grant = left ∙ l.grant;
      local = ap (λ (c : Ctx). all_local l.code c y.ran) k.ctx ∙ l.local;
      grows = λ page. (let a = l.grows page in let b = (after_page s x page h m).grows in omega (arith, a, b));
      stays = λ page e.
          let a = l.grows page in
          let p = after_page s x page h m in
          let b = p.grows in
          p.stays (omega (arith, a, b, e)) ∙ l.stays page (omega (arith, a, b, e));
    })
