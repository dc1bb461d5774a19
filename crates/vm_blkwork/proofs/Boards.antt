-- A worker beside a board.
use Rattle.std.proofs.Common.{◌≡◌, ℕ, ◌<◌, Bool, true, false, cond, List, [], ◌∷◌, ◌++◌, refl, sym, ap, subst, ◌∙◌, inl, inr, Option, Some, None}
use Rattle.std.specs.Prelude.{◌||◌, is_some}
use Rattle.std.specs.List.{find, list_any}
use Rattle.std.proofs.lemmas.Bool.{true≢false}
use Rattle.vm_law.specs.declared.journal.Entry.{Entry}
use Rattle.vm_law.specs.declared.journal.Entry.TheVariants.{Hold, Put}
use Rattle.vm_law.specs.declared.journal.Signed.{Signed}
use Rattle.vm_host.specs.Views.{ImageView}
use Rattle.blk_queue.specs.declared.progress.Unfinished.{Unfinished}
use Rattle.vm_state.specs.declared.start.Start.{Start}
use Rattle.vm_state.specs.Machine.{MachineState, drive_count}
use Rattle.vm_state.specs.State.{State}
use Rattle.vm_disks.specs.Requests.{id_of}
use Rattle.vm_table.specs.History.{last_state}
use Rattle.vm_table.specs.Table.{after, lawful}
use Rattle.vm_table.specs.Turns.{first_lawful}
use Rattle.vm_board.specs.Board.{IsBoard}
use Rattle.vm_board.specs.Calls.{Adds, MayAdd, moves_image}
use Rattle.vm_board.specs.Homes.{IsAtHome, held_sector}
use Rattle.vm_board.specs.View.{BoardView}
use Rattle.vm_blkwork.specs.declared.outside.Out.{Out}
use Rattle.vm_blkwork.specs.declared.worker.Worker.{Worker}
use Rattle.vm_blkwork.specs.Fits.{IsKept, IsOut, HasOut, WorkerFits}
use Rattle.vm_blkwork.proofs.Choosing.{chosen_lawful, chosen_work, is_work}
use Rattle.vm_blkwork.proofs.Fitting.{back_fits, back_lawful, drive_of, hold_fits, own_fits}

pub chosen_may : (s : State) (p : ℕ) (e : Entry) → first_lawful s p ≡ Some e → MayAdd s (record { by = p; entry = e })
chosen_may s p e h = record { lawful = chosen_lawful s p e h; orderly = inl h }

-- whether some request passes
any_at : {X : Type 0} (b : Bool) (x : X) (rest : Option X) (any : Bool) → is_some rest ≡ any → is_some (cond b (Some x) rest) ≡ (b || any)
any_at true x rest any e = refl
any_at false x rest any e = e

any_found : {X : Type 0} (P : X → Bool) (xs : List X) → is_some (find P xs) ≡ list_any P xs
any_found P [] = refl
any_found P (x ∷ xs) = any_at (P x) x (find P xs) (list_any P xs) (any_found P xs)

id_some : (o : Option Unfinished) → is_some (id_of o) ≡ is_some o
id_some None = refl
id_some (Some x) = refl

pub busy_any : (P : Unfinished → Bool) (xs : List Unfinished) → is_some (id_of (find P xs)) ≡ list_any P xs
busy_any P xs = id_some (find P xs) ∙ any_found P xs

not_moving : (m : MachineState) (p : ℕ) (e : Entry) → is_work m p e ≡ true → ((d id : ℕ) → e ≡ Hold d id → ⊥) → moves_image e ≡ false
not_moving m p (Hold d id) w n = absurd (n d id refl)
not_moving m p (Put d id ok) w n = absurd (true≢false (sym w))
not_moving m p e w n = refl

module _ {I : Type 0} (seen : I → ImageView) where
  at_board : (old new : BoardView I) (x : Signed) (w : Worker I) → Adds old new x → WorkerFits seen old.start (old.journal ++ x ∷ []) w → WorkerFits seen new.start new.journal w
  at_board old new x w a f = subst (λ (s : Start). WorkerFits seen s new.journal w) (sym a.start) (subst (λ (j : List Signed). WorkerFits seen old.start j w) (sym a.journal) f)

  pub disk_there : (b : BoardView I) (w : Worker I) → IsBoard seen b → WorkerFits seen b.start b.journal w → w.disk < drive_count b.state.machine
  disk_there b w h f = subst (λ (s : State). w.disk < drive_count s.machine) (sym h.last) (drive_of seen b.start b.journal w f)

  at_last : (b : BoardView I) (p : ℕ) (e : Entry) → IsBoard seen b → first_lawful b.state p ≡ Some e → first_lawful (last_state b.start b.journal) p ≡ Some e
  at_last b p e h m = subst (λ (s : State). first_lawful s p ≡ Some e) h.last m

  pub add_fits : (old new : BoardView I) (w : Worker I) (e : Entry) → IsBoard seen old → WorkerFits seen old.start old.journal w → first_lawful old.state w.by ≡ Some e → moves_image e ≡ false → Adds old new (record { by = w.by; entry = e })
      → WorkerFits seen new.start new.journal w
  add_fits old new w e h f m n a = at_board old new (record { by = w.by; entry = e }) w a (own_fits seen old.start old.journal w e f (at_last old w.by e h m) n)

  pub take_fits : (old new : BoardView I) (w : Worker I) (c id : ℕ) (sector : Option (ℕ × List ℕ)) (image : I) → IsBoard seen old → WorkerFits seen old.start old.journal w → first_lawful old.state w.by ≡ Some (Hold c id)
      → Adds old new (record { by = w.by; entry = Hold c id }) → sector ≡ held_sector new.state c id → IsAtHome new.start new.journal c (seen image)
      → WorkerFits seen new.start new.journal (record { disk = w.disk; by = w.by; out = Some (record { id = id; sector = sector; answer = None; image = image }) })
  take_fits old new w c id sector image h f m a e home =
      let x : Signed = record { by = w.by; entry = Hold c id } in
      let state : new.state ≡ after (last_state old.start old.journal) x = a.state ∙ ap (λ (s : State). after s x) h.last in
      at_board old new x _ a
      (hold_fits seen old.start old.journal w c id sector image f (at_last old w.by (Hold c id) h m) (e ∙ ap (λ (s : State). held_sector s c id) state)
      (subst (λ (s : Start). IsAtHome s (old.journal ++ x ∷ []) c (seen image)) a.start (subst (λ (j : List Signed). IsAtHome new.start j c (seen image)) a.journal home)))

  pub has_some : (start : Start) (journal : List Signed) (w : Worker I) (out : Out I) → w.out ≡ Some out → WorkerFits seen start journal w → IsOut seen start journal w.by w.disk out
  has_some start journal w out e f = subst (λ (o : Option (Out I)). HasOut seen start journal w.by w.disk o) e f.has

  pub give_may : (b : BoardView I) (w : Worker I) (out : Out I) (ok : Bool) → IsBoard seen b → WorkerFits seen b.start b.journal w → w.out ≡ Some out → MayAdd b.state (record { by = w.by; entry = Put w.disk out.id ok })
  give_may b w out ok h f e =
      let may = subst (λ (s : State). lawful s w.by (Put w.disk out.id ok) ≡ true) (sym h.last) (back_lawful seen b.start b.journal w out ok f (has_some b.start b.journal w out e f)) in
      record { lawful = may; orderly = inr may }

  pub give_home : (b : BoardView I) (w : Worker I) (out : Out I) (ok : Bool) → WorkerFits seen b.start b.journal w → w.out ≡ Some out → out.answer ≡ Some ok
      → IsAtHome b.start (b.journal ++ record { by = w.by; entry = Put w.disk out.id ok } ∷ []) w.disk (seen out.image)
  give_home b w out ok f e a = subst (λ (o : Option Bool). IsKept b.start b.journal w.by w.disk out.id o (seen out.image)) a (has_some b.start b.journal w out e f).home

  pub give_fits : (old new : BoardView I) (w : Worker I) (out : Out I) (ok : Bool) → WorkerFits seen old.start old.journal w → w.out ≡ Some out → Adds old new (record { by = w.by; entry = Put w.disk out.id ok })
      → WorkerFits seen new.start new.journal (record { disk = w.disk; by = w.by; out = None })
  give_fits old new w out ok f e a = at_board old new (record { by = w.by; entry = Put w.disk out.id ok }) _ a (back_fits seen old.start old.journal w out ok f (has_some old.start old.journal w out e f))

  pub other_kind : (b : BoardView I) (w : Worker I) (e : Entry) → IsBoard seen b → WorkerFits seen b.start b.journal w → first_lawful b.state w.by ≡ Some e → ((d id : ℕ) → e ≡ Hold d id → ⊥) → moves_image e ≡ false
  other_kind b w e h f m n =
      let s = last_state b.start b.journal in
      not_moving s.machine w.by e (chosen_work s w.by w.disk e f.number (at_last b w.by e h m)) n
