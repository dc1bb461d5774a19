-- The limit of instructions that words give is in its range.
use Rattle.std.proofs.Common.{◌≡◌, ◌≤◌, ℕ, Bool, true, false, List, [], ◌∷◌, Option, Some, None, codes, refl, subst, arith}
use Rattle.std.specs.Prelude.{◌||◌, nat_lt, option_and_then, option_map, if◌then◌else◌}
use Rattle.std.proofs.lemmas.Bool.{ltb-false}
use Rattle.std.specs.Str.{bytes_eq}
use Rattle.text_reader.specs.Digits.{numeral}
use Rattle.vm_cmd.specs.Word.{Word}
use Rattle.vm_cmd.specs.Form.{Use, reads, value_of, given}
use Rattle.vm_cmd.specs.Table.{within, number_in, counter_of, pair_option, limit_of, run_form, replay_form, show_form, files_form, make_form, inspect_form, run_of_uses, replay_of_uses, show_of_uses, files_of_uses, make_of_uses, inspect_of_uses, row, command_of}
use Rattle.vm_cmd.specs.declared.command.Command.{Command}
use Rattle.vm_cmd.specs.declared.command.Command.TheVariants.{Run, Solo, Replay, Show, Asm, Make, Convert, Arrive, Inspect}
use Rattle.vm_cmd.specs.declared.command.RunWords.{RunWords}
use Rattle.vm_cmd.specs.declared.command.InspectWords.{InspectWords}
use Rattle.vm_run.specs.Words.{IsWithin, HasLimit}

-- what stands behind a step that was taken
then_some : {A B : Type 0} (o : Option A) (f : A → Option B) (b : B) → option_and_then f o ≡ Some b → (a : A) × (o ≡ Some a) × (f a ≡ Some b)
then_some None f b e = absurd cc
then_some (Some a) f b e = (a, refl, e)

mapped : {A B : Type 0} (f : A → B) (o : Option A) (b : B) → option_map f o ≡ Some b → (a : A) × (o ≡ Some a) × (f a ≡ b)
mapped f None b e = absurd cc
mapped f (Some a) b e = (a, refl, cc)

chosen : {A : Type 0} (P : Type 0) (t : Bool) (x y : Option A) (a : A) → (x ≡ Some a → P) → (y ≡ Some a → P) → (if t then x else y) ≡ Some a → P
chosen P true x y a f g e = f e
chosen P false x y a f g e = g e

in_range : (low high n l : ℕ) → within low high n ≡ Some l → (low ≤ l) × (l ≤ high)
in_range low high n l e = go (nat_lt n low) refl (nat_lt high n) refl e
  where
    go : (s : Bool) → nat_lt n low ≡ s → (t : Bool) → nat_lt high n ≡ t → (if s || t then None else Some n) ≡ Some l → (low ≤ l) × (l ≤ high)
    go true is t so e = absurd cc
    go false is true so e = absurd cc
    go false is false so e =
        let same : n ≡ l = cc in
        (subst (λ (k : ℕ). low ≤ k) same (ltb-false _ _ is), subst (λ (k : ℕ). k ≤ high) same (ltb-false _ _ so))

limit_within : (o : Option Word) (l : ℕ) → limit_of o ≡ Some l → (1 ≤ l) × (l ≤ 20000000)
limit_within None l e = let same : 10000000 ≡ l = cc in (omega (arith, same), omega (arith, same))
limit_within (Some text) l e =
    let some = then_some (numeral 10 8 text) (within 1 20000000) l e in
    in_range 1 20000000 some.0 l some.2

run_within : (us : List Use) (w : RunWords) → run_of_uses us ≡ Some w → IsWithin w
run_within us w e =
    let file = then_some (value_of us (codes "file")) _ w e in
    let limit = then_some (limit_of (value_of us (codes "limit"))) _ w file.2 in
    let bounds = limit_within (value_of us (codes "limit")) limit.0 limit.1 in
    let made : RunWords = record { file = file.0; limit = limit.0; journal = value_of us (codes "journal"); restore = value_of us (codes "restore"); state = given us (codes "state") } in
    let same : made ≡ w = let is : Some made ≡ Some w = limit.2 in cc in
    subst (λ (x : RunWords). IsWithin x) same (record { some_limit = bounds.0; limit = bounds.1 })

replay_within : (us : List Use) (c : Command) → replay_of_uses us ≡ Some c → HasLimit c
replay_within us c e =
    let file = then_some (value_of us (codes "file")) _ c e in
    let limit = then_some (limit_of (value_of us (codes "limit"))) _ c file.2 in
    let bounds = limit_within (value_of us (codes "limit")) limit.0 limit.1 in
    let journal = then_some (value_of us (codes "journal")) _ c limit.2 in
    let words : RunWords = record { file = file.0; limit = limit.0; journal = None; restore = value_of us (codes "restore"); state = given us (codes "state") } in
    let made : Command = Replay words journal.0 in
    let same : made ≡ c = let is : Some made ≡ Some c = journal.2 in cc in
    subst (λ (x : Command). HasLimit x) same (record { some_limit = bounds.0; limit = bounds.1 })

-- the rows

run_row : (make : RunWords → Command) (at : (w : RunWords) → IsWithin w → HasLimit (make w)) (words : List Word) (c : Command)
    → option_map make (row run_form run_of_uses words) ≡ Some c → HasLimit c
run_row make at words c e =
    let found = mapped make (row run_form run_of_uses words) c e in
    let uses = then_some (reads run_form [] None 0 words) run_of_uses found.0 found.1 in
    subst (λ (x : Command). HasLimit x) found.2 (at found.0 (run_within uses.0 found.0 uses.2))

replay_row : (words : List Word) (c : Command) → row replay_form replay_of_uses words ≡ Some c → HasLimit c
replay_row words c e = let uses = then_some (reads replay_form [] None 0 words) replay_of_uses c e in replay_within uses.0 c uses.2

-- a row of a command that has no limit
other_row : {A : Type 0} (make : A → Command) (at : (x : A) → HasLimit (make x)) (o : Option A) (c : Command) → option_map make o ≡ Some c → HasLimit c
other_row make at o c e = let found = mapped make o c e in subst (λ (x : Command). HasLimit x) found.2 (at found.0)

show_row : (words : List Word) (c : Command) → row show_form show_of_uses words ≡ Some c → HasLimit c
show_row words c e =
    let uses = then_some (reads show_form [] None 0 words) show_of_uses c e in
    other_row Show (λ x. tt) (value_of uses.0 (codes "config")) c uses.2

make_row : (words : List Word) (c : Command) → row make_form make_of_uses words ≡ Some c → HasLimit c
make_row words c e =
    let uses = then_some (reads make_form [] None 0 words) make_of_uses c e in
    let cpus = then_some (option_and_then (number_in 10 1 16) (value_of uses.0 (codes "cpus"))) _ c uses.2 in
    let number = then_some (option_and_then (number_in 10 0 4294967295) (value_of uses.0 (codes "number"))) _ c cpus.2 in
    let same : Make cpus.0 number.0 ≡ c = let is : Some (Make cpus.0 number.0) ≡ Some c = number.2 in cc in
    let text = then_some (value_of uses.0 (codes "cpus")) (number_in 10 1 16) cpus.0 cpus.1 in
    let digits = then_some (numeral 10 10 text.0) (within 1 16) cpus.0 text.2 in
    let range = in_range 1 16 digits.0 cpus.0 digits.2 in
    subst (λ (x : Command). HasLimit x) same (record { some_cpu = range.0; few = range.1 })

inspect_row : (words : List Word) (c : Command) → row inspect_form inspect_of_uses words ≡ Some c → HasLimit c
inspect_row words c e =
    let uses = then_some (reads inspect_form [] None 0 words) inspect_of_uses c e in
    let us = uses.0 in
    let file = then_some (value_of us (codes "file")) _ c uses.2 in
    let limit = then_some (limit_of (value_of us (codes "limit"))) _ c file.2 in
    let journal = then_some (value_of us (codes "journal")) _ c limit.2 in
    let at = then_some (option_and_then counter_of (value_of us (codes "at"))) _ c journal.2 in
    let vector = then_some (pair_option (value_of us (codes "vector"))) _ c at.2 in
    let sector = then_some (pair_option (value_of us (codes "sector"))) _ c vector.2 in
    let words : RunWords = record { file = file.0; limit = limit.0; journal = None; restore = value_of us (codes "restore"); state = false } in
    let shown : InspectWords = record { journal = journal.0; at = at.0; vector = vector.0; sector = sector.0 } in
    let same : Inspect words shown ≡ c = let is : Some (Inspect words shown) ≡ Some c = sector.2 in cc in
    subst (λ (x : Command). HasLimit x) same tt

pub limits : (words : List Word) (c : Command) → command_of words ≡ Some c → HasLimit c
limits [] c e = absurd cc
limits (name ∷ words) c e =
    chosen (HasLimit c) (bytes_eq name (codes "run")) _ _ c (run_row Run (λ w h. h) words c)
    (chosen (HasLimit c) (bytes_eq name (codes "solo")) _ _ c (run_row Solo (λ w h. h) words c)
    (chosen (HasLimit c) (bytes_eq name (codes "replay")) _ _ c (replay_row words c)
    (chosen (HasLimit c) (bytes_eq name (codes "show")) _ _ c (show_row words c)
    (chosen (HasLimit c) (bytes_eq name (codes "asm")) _ _ c (other_row (λ f. Asm f.0 f.1) (λ x. tt) (row files_form files_of_uses words) c)
    (chosen (HasLimit c) (bytes_eq name (codes "make")) _ _ c (make_row words c)
    (chosen (HasLimit c) (bytes_eq name (codes "convert")) _ _ c (other_row (λ f. Convert f.0 f.1) (λ x. tt) (row files_form files_of_uses words) c)
    (chosen (HasLimit c) (bytes_eq name (codes "arrive")) _ _ c (other_row (λ f. Arrive f.0 f.1) (λ x. tt) (row files_form files_of_uses words) c)
    (chosen (HasLimit c) (bytes_eq name (codes "inspect")) _ _ c (inspect_row words c) (λ x. absurd cc))))))))) e
