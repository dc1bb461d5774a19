-- An instruction that isn't local, over a table that keeps it.
use Rattle.std.specs.Prelude.{◌&&◌, not, Option, Result, Ok, Err, if◌then◌else◌}
use Rattle.std.proofs.Common.{◌≡◌, ◌∙◌, ◌+◌, ◌≤◌, ℕ, Bool, true, false, List, length, subst, sym}
use Rattle.vm_law.specs.Memory.{Memory, code_of}
use Rattle.vm_law.specs.declared.context.Ctx.{Ctx}
use Rattle.vm_law.specs.declared.insn.Insn.{Insn}
use Rattle.x86_decode.specs.declared.fault.DecodeFault.{DecodeFault}
use Rattle.x86_exec.specs.declared.effect.NotDone.{NotDone}
use Rattle.x86_exec.specs.declared.effect.Stored.{Stored}
use Rattle.x86_exec.specs.Kept.{IsDoneAs, IsStored}
use Rattle.x86_exec.specs.Shared.{attempted}
use Rattle.x86_op.specs.Access.{is_local}
use Rattle.x86_op.specs.Table.{faults}
use Rattle.x86_fetch.specs.declared.fetching.Next.{Next}
use Rattle.x86_fetch.specs.declared.fetching.Next.TheVariants.{Local, Shared, Undefined, OutOfCode}
use Rattle.x86_fetch.specs.declared.table.Found.{Found}
use Rattle.x86_fetch.specs.declared.table.Place.{Place}
use Rattle.x86_fetch.specs.Fetching.{is_local_next, next_decoded, next_of}
use Rattle.x86_fetch.specs.Kept.{AreKept, ChangesOnly, IsFound}
use Rattle.x86_fetch.specs.Sharing.{IsNextDoneAs}
use Rattle.x86_fetch.proofs.Cached.{right_after}

-- a table that forgot the bytes that were stored is right for the new code
pub stored_right : (old new : Memory) (s : Stored) (n : ℕ) (before after : List (Option Place)) → n ≡ s.len → IsStored old new s → AreKept (code_of old) before
    → ((a b : List ℕ) → AreKept a before → ChangesOnly a b s.at n → AreKept b after) → AreKept (code_of new) after
stored_right old new s n before after is st kept forget =
    right_after old new s.at st.piece before after (subst (λ (k : ℕ). s.at + k ≤ length old.bytes) (sym st.long) st.inside) st.there kept
    (subst (λ (k : ℕ). (a b : List ℕ) → AreKept a before → ChangesOnly a b s.at k → AreKept b after) (is ∙ sym st.long) forget)

module _ (c : Ctx) (mem : Memory) (after : Ctx) (new : Memory) where
  left : (e : NotDone) (next : Next) → is_local_next next ≡ true → IsNextDoneAs (Err e) c mem next after new
  left e (Local insn len) h = tt
  left e (Shared insn len) h = absurd (cc)
  left e Undefined h = absurd (cc)
  left e OutOfCode h = absurd (cc)

  -- a local instruction is left
  pub left_local : (code : List ℕ) (found : Found) (e : NotDone) → IsFound code c.rip found → is_local_next (next_decoded c (Ok (found.insn, found.len))) ≡ true
      → IsNextDoneAs (Err e) c mem (next_of code c) after new
  unfolding next_of
  left_local code found e is h =
      subst (λ (d : Result (Insn × ℕ) DecodeFault). IsNextDoneAs (Err e) c mem (next_decoded c d) after new) (sym is.spelled) (left e (next_decoded c (Ok (found.insn, found.len))) h)

  by_kind : (r : Result (Option Stored) NotDone) (insn : Insn) (len : ℕ) (b : Bool) → is_local_next (if b then Local insn len else Shared insn len) ≡ false
      → IsDoneAs r (attempted c insn len mem insn.op) after new → IsNextDoneAs r c mem (if b then Local insn len else Shared insn len) after new
  by_kind r insn len true h done = absurd (cc)
  by_kind r insn len false h done = done

  -- another one is done or not
  pub done_next : (code : List ℕ) (found : Found) (r : Result (Option Stored) NotDone) → IsFound code c.rip found → is_local_next (next_decoded c (Ok (found.insn, found.len))) ≡ false
      → IsDoneAs r (attempted c found.insn found.len mem found.insn.op) after new → IsNextDoneAs r c mem (next_of code c) after new
  unfolding next_of
  done_next code found r is h done =
      subst (λ (d : Result (Insn × ℕ) DecodeFault). IsNextDoneAs r c mem (next_decoded c d) after new) (sym is.spelled)
      (by_kind r found.insn found.len (is_local found.insn && not (faults c found.insn 0)) h done)
