-- A test of names that are lent.
use Rattle.std.proofs.Common.{◌≡◌, ℕ, Bool, List, [], ◌∷◌, refl, ap}
use Rattle.std.specs.Prelude.{◌||◌}
use Rattle.std.specs.Borrow.{Bor}
use Rattle.std.specs.List.{list_any}
use Rattle.std.specs.Str.{bytes_eq}
use Rattle.text_reader.specs.Word.{texts}
use Rattle.vm_start.specs.Start.{is_among}

pub any_lent : (name : List ℕ) (names : List (Bor (List ℕ))) → list_any (λ (w : Bor (List ℕ)). bytes_eq w.now name) names ≡ is_among (texts names) name
any_lent name [] = refl
any_lent name (w ∷ ws) = ap (λ (b : Bool). bytes_eq w.now name || b) (any_lent name ws)
