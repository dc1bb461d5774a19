-- Pins that are in order, and stay so.
use Rattle.std.specs.Prelude.{if◌then◌else◌}
use Rattle.std.proofs.Common.{◌≡◌, ◌≢◌, ℕ, ◌+◌, ◌<◌, Bool, true, false, ◌&&◌, List, length, get_or, set, map, replicate, refl, sym, subst, arith, inl, inr, ◌∙◌}
use Rattle.std.proofs.lemmas.Bool.{cases_lt}
use Rattle.std.proofs.lemmas.Grind.{common_steps, get_or-set_at}
use Rattle.std.proofs.lemmas.List.{get_or_default, get_or-replicate, get_or_past, get_or-set_other, get_or-map, length-set, length-map}
use Rattle.vm_ioapic.specs.declared.pin.Pin.{Pin}
use Rattle.vm_ioapic.specs.declared.entry.Redirection.{Redirection}
use Rattle.vm_ioapic.specs.declared.entry.DeliveryMode.TheVariants.{Fixed}
use Rattle.vm_ioapic.specs.Entry.{with_low, with_high}
use Rattle.vm_ioapic.specs.Pin.{IsPin, pin_at_start, sent_if, raised, lowered, ended, after_eoi, with_entry, after_write, is_due, raise_sends, eoi_sends, is_ended}
use Rattle.vm_ioapic.specs.Ioapic.{EachPin, IsChip}

pub start_ok : IsPin pin_at_start
start_ok = record { vector = omega arith; destination = omega arith; remote = λ h. absurd cc }

pub each_start : (n : ℕ) → EachPin (replicate n pin_at_start)
each_start n k = elim (cases_lt k n) [
  | inl less ↦ subst IsPin (sym (get_or-replicate n k pin_at_start pin_at_start less)) start_ok
  | inr more ↦ subst IsPin (sym (get_or_past (replicate n pin_at_start) k pin_at_start (grind (arith, common_steps)))) start_ok
]

pub each_set : (pins : List Pin) (i : ℕ) (p : Pin) → EachPin pins → IsPin p → EachPin (set pins i p)
each_set pins i p each ok k =
    let other = λ (ne : k ≢ i). subst IsPin (sym (get_or-set_other pins i k p pin_at_start ne)) (each k) in
    elim (cases_lt k i) [
      | inl less ↦ other (omega arith)
      | inr more ↦ elim (cases_lt i k) [
        | inl above ↦ other (omega arith)
        | inr same ↦ elim (cases_lt i (length pins)) [
          | inl place ↦ (let e : k ≡ i = omega arith in subst IsPin (sym (get_or-set_at pins i k p pin_at_start e place)) ok)
          | inr past ↦ subst IsPin (sym (get_or_past (set pins i p) k pin_at_start (omega (arith, length-set pins i p)))) start_ok
        ]
      ]
    ]

-- a chip with another pin that is in order
pub chip_set : (select id : ℕ) (pins : List Pin) (i : ℕ) (p : Pin) → IsChip (record { select = select; id = id; pins = pins }) → IsPin p → IsChip (record { select = select; id = id; pins = set pins i p })
chip_set select id pins i p chip ok = record { id = chip.id; long = length-set pins i p ∙ chip.long; each = each_set pins i p chip.each ok }

second : (a b : Bool) → (a && b) ≡ true → b ≡ true
second true b h = h
second false b h = absurd cc

first : (a b : Bool) → (a && b) ≡ true → a ≡ true
first true b h = refl
first false b h = h

sent_ok : (b : Bool) (p : Pin) → IsPin p → IsPin (sent_if b p)
sent_ok b p ok =
    elim (b && p.entry.level) as (λ (t : Bool). (b && p.entry.level) ≡ t → IsPin (if t then record p { remote_irr = true } else p)) [
      | true ↦ λ e. record { vector = ok.vector; destination = ok.destination; remote = λ _. second b p.entry.level e }
      | false ↦ λ _. ok
    ] refl

pub raised_ok : (p : Pin) → IsPin p → IsPin (raised p)
unfolding raised
raised_ok p ok = sent_ok (raise_sends p) (record p { count = p.count + 1 }) (record { vector = ok.vector; destination = ok.destination; remote = ok.remote })

pub lowered_ok : (p : Pin) → IsPin p → IsPin (lowered p)
unfolding lowered
lowered_ok p ok = record { vector = ok.vector; destination = ok.destination; remote = ok.remote }

ended_ok : (v : ℕ) (p : Pin) → IsPin p → IsPin (ended v p)
ended_ok v p ok = elim (is_ended v p) as (λ (b : Bool). IsPin (if b then record p { remote_irr = false } else p)) [
  | true ↦ record { vector = ok.vector; destination = ok.destination; remote = λ h. absurd cc }
  | false ↦ ok
]

pub eoi_ok : (v : ℕ) (p : Pin) → IsPin p → IsPin (after_eoi v p)
unfolding after_eoi
eoi_ok v p ok = sent_ok (eoi_sends v p) (ended v p) (ended_ok v p ok)

pub written_ok : (p : Pin) (e : Redirection) → e.vector < 256 → e.destination < 256 → IsPin (after_write p e)
unfolding after_write
written_ok p e v d = sent_ok (is_due (with_entry p e)) (with_entry p e) (record { vector = v; destination = d; remote = first e.level p.remote_irr })

pub low_ok : (p : Pin) (e : Redirection) (word : ℕ) → IsPin p → e ≡ with_low p.entry word → IsPin (after_write p e)
unfolding with_low
low_ok p e word ok eq = subst (λ (x : Redirection). IsPin (after_write p x)) (sym eq) (written_ok p (with_low p.entry word) (omega arith) ok.destination)

pub high_ok : (p : Pin) (e : Redirection) (word : ℕ) → IsPin p → e ≡ with_high p.entry word → IsPin (after_write p e)
unfolding with_high
high_ok p e word ok eq = subst (λ (x : Redirection). IsPin (after_write p x)) (sym eq) (written_ok p (with_high p.entry word) ok.vector (omega arith))

pub each_map : (f : Pin → Pin) → ((p : Pin) → IsPin p → IsPin (f p)) → (pins : List Pin) → EachPin pins → EachPin (map f pins)
each_map f ok pins each k = elim (cases_lt k (length pins)) [
  | inl within ↦ subst IsPin (sym (get_or-map f pins k pin_at_start pin_at_start within)) (ok (get_or pins k pin_at_start) (each k))
  | inr past ↦ subst IsPin (sym (get_or_past (map f pins) k pin_at_start (omega (arith, length-map pins f)))) start_ok
]

-- the pin that code reads where it knows no other
abbrev zero_pin : Pin
zero_pin = record { entry = record { vector = 0; mode = Fixed; logical = false; active_low = false; level = false; masked = false; destination = 0 }; count = 0; remote_irr = false }

zero_ok : IsPin zero_pin
zero_ok = record { vector = omega arith; destination = omega arith; remote = λ h. absurd cc }

-- each pin that is read is in order
pub read_ok : (pins : List Pin) (n : ℕ) → EachPin pins → IsPin (get_or pins n zero_pin)
read_ok pins n each = elim (cases_lt n (length pins)) [
  | inl within ↦ subst IsPin (get_or_default pins n pin_at_start zero_pin within) (each n)
  | inr past ↦ subst IsPin (sym (get_or_past pins n zero_pin past)) zero_ok
]
