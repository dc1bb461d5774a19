-- The status and the line of each refusal. Source of 71: EX_OSERR of sysexits(3).
use Rattle.std.specs.Prelude.{ℕ, List, [], ◌∷◌, codes, decimal}
use Rattle.std.specs.List.{flat_map}
use Rattle.vm_status.specs.declared.kind.Kind.{Kind}
use Rattle.vm_status.specs.declared.role.Role.{Role}
use Rattle.vm_status.specs.declared.refusal.Refusal.{Refusal}
use Rattle.vm_status.specs.declared.refusal.Refusal.TheVariants.{Usage, Bad, BadPlan, HostFault, Missing, Console, Memory}
use Rattle.vm_status.specs.Words.{kind_word, role_word}

abbrev pub status_of : Refusal → ℕ
status_of Usage = 2
status_of (Bad role name place kind) = 3
status_of (BadPlan name variable kind) = 3
status_of (HostFault name) = 6
status_of (Missing name) = 7
status_of Console = 9
status_of Memory = 71

-- the pieces that make a line, with the line feed (10) that ends it
abbrev pub bad_pieces : Role → List ℕ → List ℕ → Kind → List (List ℕ)
bad_pieces role name digits kind =
    codes "bad " ∷ role_word role ∷ codes " " ∷ name ∷ codes ": at " ∷ digits ∷ codes ": " ∷ kind_word kind ∷ (10 ∷ []) ∷ []

abbrev pub plan_pieces : List ℕ → List ℕ → Kind → List (List ℕ)
plan_pieces name variable kind = codes "bad plan " ∷ name ∷ codes ": " ∷ variable ∷ codes ": " ∷ kind_word kind ∷ (10 ∷ []) ∷ []

abbrev pub named_pieces : List ℕ → List ℕ → List (List ℕ)
named_pieces text name = text ∷ name ∷ (10 ∷ []) ∷ []

abbrev pub plain_pieces : List ℕ → List (List ℕ)
plain_pieces text = text ∷ (10 ∷ []) ∷ []

abbrev pub pieces_of : Refusal → List (List ℕ)
pieces_of Usage = plain_pieces (codes "usage: vmrun run|solo|replay|show|asm|make|convert|arrive|inspect")
pieces_of (Bad role name place kind) = bad_pieces role name (decimal place) kind
pieces_of (BadPlan name variable kind) = plan_pieces name variable kind
pieces_of (HostFault name) = named_pieces (codes "host fault: ") name
pieces_of (Missing name) = named_pieces (codes "missing: ") name
pieces_of Console = plain_pieces (codes "console fault")
pieces_of Memory = plain_pieces (codes "out of memory")

-- the place that a line tells, 0 where it tells none
abbrev pub place_of : Refusal → ℕ
place_of (Bad role name place kind) = place
place_of other = 0

-- pieces one after the other
abbrev pub joined : List (List ℕ) → List ℕ
joined pieces = flat_map (λ p. p) pieces

abbrev pub line_of : Refusal → List ℕ
line_of refusal = joined (pieces_of refusal)
