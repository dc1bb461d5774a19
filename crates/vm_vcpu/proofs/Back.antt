-- What a runner ran ahead comes back as a Slice of the most instructions, where each page that it looked at has kept its version.
use Rattle.std.proofs.Common.{◌≡◌, ℕ, zero, suc, ◌+◌, ◌≤◌, ◌<◌, Bool, true, false, not, List, refl, sym, ap, subst, ◌∙◌, inl, inr, arith}
use Rattle.std.specs.Prelude.{◌&&◌, nat_le, min, slice_index, if◌then◌else◌}
use Rattle.std.specs.List.{list_all}
use Rattle.std.proofs.lemmas.Bool.{and_parts, true≢false, cases_lt}
use Rattle.std.proofs.lemmas.Bool.Decides.{nat_tests}
use Rattle.std.proofs.lemmas.Grind.{common_steps}
use Rattle.vm_law.specs.declared.context.Ctx.{Ctx}
use Rattle.vm_law.specs.declared.journal.Entry.TheVariants.{Slice}
use Rattle.x86_fetch.specs.Slices.{LocalRun, all_local, most_local, stepped_by}
use Rattle.vm_meet.specs.Meeting.{started_by}
use Rattle.vm_state.specs.Machine.{code_of, cpu_at, cpu_count, is_cpu, is_running}
use Rattle.vm_state.specs.State.{State, seat_at}
use Rattle.vm_running.specs.Slice.{has_slice, may_slice}
use Rattle.vm_table.specs.Rounds.{looked_at, pages_looked}
use Rattle.vm_table.specs.Table.{allowed, lawful}
use Rattle.vm_board.specs.Calls.{MayAdd}
use Rattle.vm_board.specs.Pages.{page_of}
use Rattle.vm_vcpu.specs.Copies.{AreCopies, CopiesView, is_kept_in}
use Rattle.vm_vcpu.specs.Fits.{HasOut}
use Rattle.vm_table.proofs.Looking.{each_at, local_same, stepped_same}

-- ---- the most that are local

pub record IsMost (code : List ℕ) (c : Ctx) (granted n : ℕ) : Type 0 where
  pub local : all_local code c n ≡ true
  pub few : n ≤ granted
  pub most : (k : ℕ) → k ≤ granted → all_local code c k ≡ true → k ≤ n

pub is_most : (code : List ℕ) (c : Ctx) (granted : ℕ) → IsMost code c granted (most_local code c granted)
is_most code c zero = record { local = refl; few = omega arith; most = λ k l h. l }
is_most code c (suc g) = by_test (all_local code c (suc g)) refl (is_most code c g) where
  by_test : (b : Bool) → all_local code c (suc g) ≡ b → IsMost code c g (most_local code c g) → IsMost code c (suc g) (if b then suc g else most_local code c g)
  by_test true e r = record { local = e; few = omega arith; most = λ k l h. l }
  by_test false e r = record {
    local = r.local;
    few = (let f = r.few in omega (arith, f));
    most = λ k l h. elim (cases_lt k (suc g)) [
      | inl less ↦ r.most k (omega (arith, less)) h
      | inr more ↦ (let same : k ≡ suc g = omega (arith, l, more) in absurd (true≢false (sym h ∙ ap (all_local code c) same ∙ e)))
    ];
  }

fewer_local : (code : List ℕ) (c : Ctx) (k n : ℕ) → k ≤ n → all_local code c n ≡ true → all_local code c k ≡ true
fewer_local code c k zero l h = (let e : k ≡ 0 = omega (arith, l) in ap (all_local code c) e)
fewer_local code c k (suc n) l h = elim (cases_lt k (suc n)) [
  | inl less ↦ fewer_local code c k n (omega (arith, less)) (and_parts (all_local code c n) _ h).0
  | inr more ↦ (let e : k ≡ suc n = omega (arith, l, more) in ap (all_local code c) e ∙ h)
]

-- ---- over the run's code as over the copies

same_version : (s : State) (c : CopiesView) (page : ℕ) → is_kept_in s c.versions page ≡ true → slice_index s.versions page ≡ slice_index c.versions page
same_version s c page h = grind (arith, nat_tests, h)

module _ (s : State) (c : CopiesView) (a : AreCopies s c) (start : Ctx) (n left : ℕ) (kept : list_all (is_kept_in s c.versions) (pages_looked c.code start n left) ≡ true) where
  tells : (page : ℕ) → is_kept_in s c.versions page ≡ true → page_of (code_of s.machine) page ≡ page_of c.code page
  tells page h = sym (a.pages page (same_version s c page h))

  fetches : (k j : ℕ) → k ≤ n + 1 → k ≤ left → j < k → list_all (is_kept_in s c.versions) (looked_at c.code start j) ≡ true
  fetches k j few l h = each_at c.code (code_of s.machine) (is_kept_in s c.versions) tells (sym a.size) start 0 (min (n + 1) left) j kept (omega arith) (omega (arith, few, l, h))

  pub same_local : (k : ℕ) → k ≤ n + 1 → k ≤ left → all_local (code_of s.machine) start k ≡ all_local c.code start k
  same_local k few l = local_same c.code (code_of s.machine) (is_kept_in s c.versions) tells (sym a.size) start k (λ j h. fetches k j few l h)

  pub same_steps : (k : ℕ) → k ≤ n + 1 → k ≤ left → stepped_by (code_of s.machine) start k ≡ stepped_by c.code start k
  same_steps k few l = stepped_same c.code (code_of s.machine) (is_kept_in s c.versions) tells (sym a.size) start k (λ j h. fetches k j few l h)

-- ---- the Slice

has_all : (a b c d e f : Bool) → a ≡ true → b ≡ true → c ≡ false → d ≡ true → e ≡ true → f ≡ false → (a && b && not c && d && e && not f) ≡ true
has_all a b c d e f p q r t u v = grind (arith, common_steps)

has_it : (s : State) (i p n left : ℕ) (start : Ctx) → i < cpu_count s.machine → HasOut s i p start left → 0 < n → n ≤ left → has_slice s p i n ≡ true
unfolding has_slice
has_it s i p n left start l h some few =
    has_all (is_cpu s.machine i) (is_running (cpu_at s.machine i).stage p) (cpu_at s.machine i).halted (nat_le 1 n) (nat_le n (seat_at s i).left) (started_by s.machine.meet p)
    (grind (arith, nat_tests, l)) h.runs h.halted (grind (arith, nat_tests, some)) (let e = h.left in grind (arith, nat_tests, e, few)) h.starter

slice_fits : (s : State) (i p n : ℕ) → lawful s p (Slice i n) ≡ true → (nat_le n (seat_at s i).left ≡ true) × (all_local (code_of s.machine) (cpu_at s.machine i).ctx n ≡ true)
unfolding lawful allowed may_slice has_slice
slice_fits s i p n m = (grind (arith, nat_tests, common_steps, and_parts), grind (arith, nat_tests, common_steps, and_parts))

slice_lawful : (s : State) (i p n : ℕ) → s.closed ≡ false → has_slice s p i n ≡ true → all_local (code_of s.machine) (cpu_at s.machine i).ctx n ≡ true → lawful s p (Slice i n) ≡ true
unfolding lawful allowed may_slice
slice_lawful s i p n g h a = both (not s.closed) (has_slice s p i n) (all_local (code_of s.machine) (cpu_at s.machine i).ctx n) (ap not g) h a where
  both : (a b c : Bool) → a ≡ true → b ≡ true → c ≡ true → (a && (b && c)) ≡ true
  both a b c p q r = grind (arith, common_steps)

no_bool : (b : Bool) → (b ≡ true → ⊥) → b ≡ false
no_bool true f = absurd (f refl)
no_bool false f = refl

pub record ComesBack (s : State) (i p n : ℕ) (ctx : Ctx) : Type 0 where
  pub may : MayAdd s (record { by = p; entry = Slice i n })
  pub ran : LocalRun (code_of s.machine) (cpu_at s.machine i).ctx n ctx

pub comes_back : (s : State) (c : CopiesView) (i p n left : ℕ) (start ctx : Ctx) → s.closed ≡ false → i < cpu_count s.machine → AreCopies s c → HasOut s i p start left
    → n ≡ most_local c.code start left → ctx ≡ stepped_by c.code start n → 0 < n → list_all (is_kept_in s c.versions) (pages_looked c.code start n left) ≡ true
    → ComesBack s i p n ctx
comes_back s c i p n left start ctx g l a h most reached some kept =
    let m : IsMost c.code start left n = subst (IsMost c.code start left) (sym most) (is_most c.code start left) in
    let f = m.few in
    let here : all_local (code_of s.machine) start n ≡ true = same_local s c a start n left kept n (omega arith) f ∙ m.local in
    let at : all_local (code_of s.machine) (cpu_at s.machine i).ctx n ≡ true = ap (λ (d : Ctx). all_local (code_of s.machine) d n) h.ctx ∙ here in
    let may = slice_lawful s i p n g (has_it s i p n left start l h some f) at in
    record {
      may = record {
        lawful = may;
        orderly = inr (record {
          may = may;
          greatest = λ k more. no_bool (lawful s p (Slice i k)) (λ law.
              let t = slice_fits s i p k law in
              let e = h.left in
              let within : k ≤ left = grind (arith, nat_tests, t.0, e) in
              let local : all_local (code_of s.machine) start k ≡ true = ap (λ (d : Ctx). all_local (code_of s.machine) d k) (sym h.ctx) ∙ t.1 in
              let next : all_local (code_of s.machine) start (n + 1) ≡ true = fewer_local (code_of s.machine) start (n + 1) k (omega (arith, more)) local in
              let over : all_local c.code start (n + 1) ≡ true = sym (same_local s c a start n left kept (n + 1) (omega arith) (omega (arith, more, within))) ∙ next in
              let no : n + 1 ≤ n = m.most (n + 1) (omega (arith, more, within)) over in
              absurd (omega (arith, no)));
        });
      };
      ran = record {
        each = at;
        reached = reached ∙ sym (same_steps s c a start n left kept n (omega arith) f) ∙ ap (λ (d : Ctx). stepped_by (code_of s.machine) d n) (sym h.ctx);
      };
    }
