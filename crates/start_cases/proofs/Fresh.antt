-- Images that read as the disks of a sound start have a first sector.
use Rattle.std.proofs.Common.{◌≡◌, ◌≤◌, ℕ, List, [], ◌∷◌, length, refl, subst, sym, ap}
use Rattle.std.specs.List.{All}
use Rattle.std.proofs.lemmas.List.Elements.{All-nil, All-cons, All-head, All-tail}
use Rattle.vm_host.specs.MemState.{ImageState, image_view}
use Rattle.vm_board.specs.Homes.{AreFresh}
use Rattle.vm_state.specs.Start.{IsDisk}
use Rattle.start_cases.specs.Images.{HasSector}

pub have_sectors : (disks : List (List ℕ)) (images : List ImageState) → All IsDisk disks → AreFresh image_view disks images → All HasSector images
have_sectors [] [] sound fresh = All-nil HasSector
have_sectors [] (x ∷ xs) sound fresh = absurd fresh
have_sectors (disk ∷ disks) [] sound fresh = absurd fresh
have_sectors (disk ∷ disks) (x ∷ xs) sound fresh =
    All-cons HasSector x xs (subst (λ (bytes : List ℕ). 512 ≤ length bytes) (sym (fresh.0.0 refl)) (All-head IsDisk disk disks sound).some)
    (have_sectors disks xs (All-tail IsDisk disk disks sound) fresh.1)
