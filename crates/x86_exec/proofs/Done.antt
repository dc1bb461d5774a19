-- An access is made where it goes to memory, and no division follows that can't be done; else it isn't done.
use Rattle.std.specs.Prelude.{◌%◌, ◌==◌, ◌&&◌, if◌then◌else◌}
use Rattle.std.proofs.Common.{◌≡◌, ◌≢◌, ℕ, Bool, true, false, Result, Ok, Err, Some, refl, sym, ap, ◌∙◌}
use Rattle.byteorder.specs.Endian.{little_bytes, little_number}
use Rattle.vm_law.specs.Memory.{Memory, read_of, written}
use Rattle.vm_law.specs.declared.context.Ctx.{Ctx}
use Rattle.vm_law.specs.declared.context.Stop.TheVariants as stop
use Rattle.vm_law.specs.declared.insn.Insn.{Insn}
use Rattle.vm_bus.specs.Area.{area_in}
use Rattle.vm_bus.specs.declared.area.Area.{Area}
use Rattle.vm_bus.specs.declared.area.Area.TheVariants as area
use Rattle.x86_op.specs.declared.access.Access.{Access}
use Rattle.x86_op.specs.declared.access.Way.{Way}
use Rattle.x86_op.specs.declared.access.Way.TheVariants as way
use Rattle.x86_op.specs.Table.{NeverFaults, computed, faults}
use Rattle.x86_exec.specs.declared.effect.Effect.{Effect}
use Rattle.x86_exec.specs.declared.effect.Effect.TheVariants as effect
use Rattle.x86_exec.specs.declared.reached.Place.{Place}
use Rattle.x86_exec.specs.declared.reached.Place.TheVariants as place
use Rattle.x86_exec.specs.Reached.{reached, windowed, is_memory}
use Rattle.x86_exec.specs.Shared.{asks, is_plain, loaded, number_at, divides, stored_at, ended, stores, accessed}
use Rattle.x86_exec.specs.Kept.{is_done}
use Rattle.x86_exec.proofs.Chains.{accessed_is, stored_is}

chosen_window : (x : Area) (b : Bool) → (if b then Ok (place.Window x) else Err (effect.Stop stop.Device)) ≢ Ok place.Memory
chosen_window x true = λ e. cc
chosen_window x false = λ e. cc

no_memory : (plain : Bool) (x : Area) → is_memory x ≡ false → reached plain x ≢ Ok place.Memory
unfolding is_memory reached windowed
no_memory plain area.Noncanonical e = λ f. cc
no_memory plain (area.Lapic offset) e = chosen_window (area.Lapic offset) (plain && (offset % 4 == 0))
no_memory plain (area.Ioapic offset) e = chosen_window (area.Ioapic offset) (plain && (offset % 4 == 0))
no_memory plain (area.Disk k offset) e = chosen_window (area.Disk k offset) (plain && (offset % 4 == 0))
no_memory plain area.Split e = λ f. cc
no_memory plain area.Nothing e = λ f. cc
no_memory plain area.Code e = absurd (cc)
no_memory plain area.Ram e = absurd (cc)

in_memory : (plain : Bool) (x : Area) → is_memory x ≡ true → reached plain x ≡ Ok place.Memory
unfolding is_memory reached
in_memory plain area.Code e = refl
in_memory plain area.Ram e = refl
in_memory plain area.Noncanonical e = absurd (cc)
in_memory plain (area.Lapic offset) e = absurd (cc)
in_memory plain (area.Ioapic offset) e = absurd (cc)
in_memory plain (area.Disk k offset) e = absurd (cc)
in_memory plain area.Split e = absurd (cc)
in_memory plain area.Nothing e = absurd (cc)

module _ (c : Ctx) (insn : Insn) (len : ℕ) (mem : Memory) (a : Access) where
  -- a window is asked
  window_asks : (x : Area) (w : Way) → a.way ≡ w → (n : Bool) → faults c insn 0 ≡ n → reached (is_plain insn) (area_in mem a.at a.len) ≡ Ok (place.Window x)
      → is_done (accessed c insn len mem a) ≡ false
  unfolding accessed loaded number_at divides stores ended stored_at
  window_asks x way.Load f n g r = rw (r, f) refl
  window_asks x way.Store f true g r = rw (r, f, g) refl
  window_asks x way.Store f false g r = rw (r, f, g) refl
  window_asks x way.Modify f n g r = rw (r, f) refl
  window_asks x way.Compare f n g r = rw (r, f) refl

  by_place : is_memory (area_in mem a.at a.len) ≡ false → (r : Result Place Effect) → reached (is_plain insn) (area_in mem a.at a.len) ≡ r
      → is_done (accessed c insn len mem a) ≡ false
  unfolding accessed
  by_place e (Ok place.Memory) r = absurd (no_memory (is_plain insn) (area_in mem a.at a.len) e r)
  by_place e (Ok (place.Window x)) r = window_asks x a.way refl (faults c insn 0) refl r
  by_place e (Err why) r = rw r refl

  pub not_there : is_memory (area_in mem a.at a.len) ≡ false → is_done (accessed c insn len mem a) ≡ false
  not_there e = by_place e (reached (is_plain insn) (area_in mem a.at a.len)) refl

  pub divides_not : (read : ℕ) → is_memory (area_in mem a.at a.len) ≡ true → loaded mem a place.Memory a.way ≡ Ok read → faults c insn read ≡ true
      → is_done (accessed c insn len mem a) ≡ false
  unfolding accessed divides
  divides_not read there number f = rw (in_memory (is_plain insn) (area_in mem a.at a.len) there, number, f) refl

  divides_so : (read : ℕ) → faults c insn read ≡ false → divides c insn read ≡ Ok tt
  unfolding divides
  divides_so read f = rw f refl

  pub left_alone : (read : ℕ) (after : Ctx) → is_memory (area_in mem a.at a.len) ≡ true → loaded mem a place.Memory a.way ≡ Ok read → faults c insn read ≡ false
      → stores c insn read a.way ≡ false → after ≡ (computed c insn len read).ctx → accessed c insn len mem a ≡ Ok (asks effect.Done after mem)
  unfolding ended
  left_alone read after there number f store by_ctx =
      accessed_is c insn len mem a place.Memory read (in_memory (is_plain insn) (area_in mem a.at a.len) there) number (divides_so read f)
      ∙ ap (λ b. Ok (ended mem a place.Memory (computed c insn len read) b)) store ∙ ap (λ x. Ok (asks effect.Done x mem)) (sym by_ctx)

  pub stored_there : (read number : ℕ) (after : Ctx) (new : Memory) → is_memory (area_in mem a.at a.len) ≡ true → loaded mem a place.Memory a.way ≡ Ok read
      → faults c insn read ≡ false → stores c insn read a.way ≡ true → after ≡ (computed c insn len read).ctx → number ≡ (computed c insn len read).stored
      → new ≡ written mem a.at (little_bytes a.len number)
      → accessed c insn len mem a ≡ Ok (record { effect = effect.Done; ctx = after; memory = new; stored = Some (record { at = a.at; len = a.len }) })
  unfolding stored_at
  stored_there read number after new there loads f store by_ctx by_number is =
      sym (stored_is c insn len mem a place.Memory read after number _ (in_memory (is_plain insn) (area_in mem a.at a.len) there) loads (divides_so read f) store by_ctx by_number
      (ap (λ (m : Memory). record { effect = effect.Done; ctx = after; memory = m; stored = Some (record { at = a.at; len = a.len }) }) is))

  -- an access that no division follows, by its way
  never_asks : NeverFaults insn → (read : ℕ) → faults c insn read ≡ false
  never_asks never read = never c read

  number_loaded : (w : Way) (read : ℕ) → w ≡ way.Load → read ≡ little_number a.len (read_of mem a.at a.len) → loaded mem a place.Memory w ≡ Ok read
  unfolding loaded number_at
  number_loaded w read is e = rw (is, e) refl

  nothing_loaded : (w : Way) → w ≡ way.Store → loaded mem a place.Memory w ≡ Ok 0
  unfolding loaded
  nothing_loaded w is = rw is refl

  loads_store_not : (w : Way) (read : ℕ) → w ≡ way.Load → stores c insn read w ≡ false
  unfolding stores
  loads_store_not w read is = rw is refl

  stores_store : (w : Way) (read : ℕ) → w ≡ way.Store → stores c insn read w ≡ true
  unfolding stores
  stores_store w read is = rw is refl

  pub plainly_loaded : (read : ℕ) (after : Ctx) → is_memory (area_in mem a.at a.len) ≡ true → a.way ≡ way.Load → NeverFaults insn
      → read ≡ little_number a.len (read_of mem a.at a.len) → after ≡ (computed c insn len read).ctx → accessed c insn len mem a ≡ Ok (asks effect.Done after mem)
  plainly_loaded read after there w never number by_ctx =
      left_alone read after there (number_loaded a.way read w number) (never_asks never read) (loads_store_not a.way read w) by_ctx

  pub plainly_stored : (number : ℕ) (after : Ctx) (new : Memory) → is_memory (area_in mem a.at a.len) ≡ true → a.way ≡ way.Store → NeverFaults insn
      → after ≡ (computed c insn len 0).ctx → number ≡ (computed c insn len 0).stored → new ≡ written mem a.at (little_bytes a.len number)
      → accessed c insn len mem a ≡ Ok (record { effect = effect.Done; ctx = after; memory = new; stored = Some (record { at = a.at; len = a.len }) })
  plainly_stored number after new there w never by_ctx by_number is =
      stored_there 0 number after new there (nothing_loaded a.way w) (never_asks never 0) (stores_store a.way 0 w) by_ctx by_number is
