-- Chips as states, and back.
use Rattle.std.proofs.Common.{◌≡◌, ℕ, ◌*◌, ◌/◌, ◌^◌, ◌<◌, List, length, get_or, map, sym, ap, subst, arith, inl, inr, ◌∙◌}
use Rattle.std.proofs.lemmas.Bool.{cases_lt}
use Rattle.std.proofs.lemmas.List.{ext_get_or, get_or-map, get_or_past, length-map}
use Rattle.std.proofs.lemmas.List.FromFn.{fill_by_all, get_or-map-range_with_len, length-map-range_with_len}
use Rattle.vm_law.specs.declared.chips.IoapicState.{IoapicState}
use Rattle.vm_ioapic.specs.declared.pin.Pin.{Pin}
use Rattle.vm_ioapic.specs.Pin.{IsPin, pin_at_start}
use Rattle.vm_ioapic.specs.Ioapic.{Chip, EachPin, IsChip}
use Rattle.vm_ioapic.specs.Saved.{IsSaved, IsEntry, word_of, pin_of, pins_of, state_of, chip_of}
use Rattle.vm_ioapic.proofs.Sound.{start_ok}
use Rattle.vm_ioapic.proofs.Words.{pin_back, word_back, entry_of_pin, pin_of_entry}

abbrev pub state : ℕ → ℕ → List ℕ → List ℕ → IoapicState
state select id ws cs = record { select = select; id = id; entries = ws; counts = cs }

abbrev pub chip : ℕ → ℕ → List Pin → Chip
chip select id pins = record { select = select; id = id; pins = pins }

abbrev pub count_of : Pin → ℕ
count_of p = p.count

abbrev read_pin : List ℕ → List ℕ → ℕ → Pin
read_pin ws cs n = pin_of (get_or ws n 0) (get_or cs n 0)

pin_read : (ws cs : List ℕ) (n : ℕ) → n < 32 → get_or (pins_of ws cs) n pin_at_start ≡ read_pin ws cs n
unfolding pins_of
pin_read ws cs n l = get_or-map-range_with_len (read_pin ws cs) 0 32 n n pin_at_start l (omega arith)

pins_long : (ws cs : List ℕ) → length (pins_of ws cs) ≡ 32
unfolding pins_of
pins_long ws cs = length-map-range_with_len (read_pin ws cs) 0 32

pub each_read : (ws cs : List ℕ) → ((n : ℕ) → n < 32 → IsEntry (get_or ws n 0)) → EachPin (pins_of ws cs)
each_read ws cs entries k = elim (cases_lt k 32) [
  | inl l ↦ subst IsPin (sym (pin_read ws cs k l)) (pin_of_entry (get_or ws k 0) (get_or cs k 0) (entries k l))
  | inr past ↦ subst IsPin (sym (get_or_past (pins_of ws cs) k pin_at_start (omega (arith, pins_long ws cs)))) start_ok
]

-- the chip of a state is one
pub chip_ok : (s : IoapicState) (pins : List Pin) → IsSaved s → pins ≡ pins_of s.entries s.counts → IsChip (record { select = s.select; id = s.id / 2 ^ 24; pins = pins })
chip_ok s pins saved e =
    let small = saved.id_small in
    record { id = omega (arith, small); long = ap length e ∙ pins_long s.entries s.counts; each = subst EachPin (sym e) (each_read s.entries s.counts saved.entries) }

words_back : (ws cs : List ℕ) → length ws ≡ 32 → ((n : ℕ) → n < 32 → IsEntry (get_or ws n 0)) → ((n : ℕ) → get_or ws n 0 < 2 ^ 64) → map word_of (pins_of ws cs) ≡ ws
words_back ws cs long entries small =
    let len = length-map (pins_of ws cs) word_of ∙ pins_long ws cs in
    ext_get_or 0 (map word_of (pins_of ws cs)) ws (len ∙ sym long) (λ k l.
    let within : k < 32 = omega (arith, len) in
    get_or-map word_of (pins_of ws cs) k pin_at_start 0 (omega (arith, pins_long ws cs))
    ∙ ap word_of (pin_read ws cs k within)
    ∙ word_back (get_or ws k 0) (get_or cs k 0) (entries k within) (small k))

counts_back : (ws cs : List ℕ) → length cs ≡ 32 → map count_of (pins_of ws cs) ≡ cs
counts_back ws cs long =
    let len = length-map (pins_of ws cs) count_of ∙ pins_long ws cs in
    ext_get_or 0 (map count_of (pins_of ws cs)) cs (len ∙ sym long) (λ k l.
    let within : k < 32 = omega (arith, len) in
    get_or-map count_of (pins_of ws cs) k pin_at_start 0 (omega (arith, pins_long ws cs)) ∙ ap count_of (pin_read ws cs k within))

same_state : (select a b : ℕ) (ws vs cs ds : List ℕ) → a ≡ b → ws ≡ vs → cs ≡ ds → state select a ws cs ≡ state select b vs ds
same_state select a b ws vs cs ds id words counts = cc

-- a state, read and written again
pub state_back : (s : IoapicState) (pins : List Pin) → IsSaved s → pins ≡ pins_of s.entries s.counts → length s.entries ≡ 32 → length s.counts ≡ 32 → ((n : ℕ) → get_or s.entries n 0 < 2 ^ 64) → state_of (record { select = s.select; id = s.id / 2 ^ 24; pins = pins }) ≡ s
state_back s pins saved e words_long counts_long small =
    same_state s.select _ _ _ _ _ _ (sym saved.id)
    (ap (λ ps. map word_of ps) e ∙ words_back s.entries s.counts words_long saved.entries small)
    (ap (λ ps. map count_of ps) e ∙ counts_back s.entries s.counts counts_long)

word_at : (pins : List Pin) (n : ℕ) → n < length pins → get_or (map word_of pins) n 0 ≡ word_of (get_or pins n pin_at_start)
word_at pins n l = get_or-map word_of pins n pin_at_start 0 l

count_at : (pins : List Pin) (n : ℕ) → n < length pins → get_or (map count_of pins) n 0 ≡ (get_or pins n pin_at_start).count
count_at pins n l = get_or-map count_of pins n pin_at_start 0 l

-- the state of a chip is one that can be read
pub state_ok : (select id number : ℕ) (pins : List Pin) (ws cs : List ℕ) → IsChip (chip select id pins) → number ≡ 16777216 * id → ws ≡ map word_of pins → IsSaved (state select number ws cs)
state_ok select id number pins ws cs ok e words =
    let small = ok.id in
    record {
      id = omega (arith, e, small);
      id_small = omega (arith, e, small);
      entries = λ n l.
          subst IsEntry (sym (ap (λ us. get_or us n 0) words ∙ word_at pins n (omega (arith, ok.long)))) (entry_of_pin (get_or pins n pin_at_start) (ok.each n));
    }

pins_back : (pins : List Pin) → length pins ≡ 32 → EachPin pins → pins_of (map word_of pins) (map count_of pins) ≡ pins
unfolding pins_of
pins_back pins long each =
    sym (fill_by_all (read_pin (map word_of pins) (map count_of pins)) pins 32 pin_at_start long (λ k l.
    let within : k < length pins = omega (arith, long) in
    sym (ap (λ w. pin_of w (get_or (map count_of pins) k 0)) (word_at pins k within)
    ∙ ap (λ n. pin_of (word_of (get_or pins k pin_at_start)) n) (count_at pins k within)
    ∙ pin_back (get_or pins k pin_at_start) (each k))))

same_chip : (select a b : ℕ) (ps qs : List Pin) → a ≡ b → ps ≡ qs → chip select a ps ≡ chip select b qs
same_chip select a b ps qs id pins = cc

-- a chip, written and read again
pub chip_back : (select id number : ℕ) (pins : List Pin) (ws cs : List ℕ) → IsChip (chip select id pins) → number ≡ 16777216 * id → ws ≡ map word_of pins → cs ≡ map count_of pins → chip_of (state select number ws cs) ≡ chip select id pins
chip_back select id number pins ws cs ok e words counts =
    same_chip select (number / 16777216) id (pins_of ws cs) pins (omega (arith, e))
    (ap (λ us. pins_of us cs) words ∙ ap (λ us. pins_of (map word_of pins) us) counts ∙ pins_back pins ok.long ok.each)
