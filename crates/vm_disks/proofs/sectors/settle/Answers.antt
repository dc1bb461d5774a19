use Rattle.std.proofs.Common.{ℕ, Bool, false, List, sym, ap, ◌∙◌}
use Rattle.std.specs.Prelude.{slice_set}
use Rattle.vm_state.specs.declared.image.DiskImage.{DiskImage}
use Rattle.vm_state.specs.Requests.{sector_of, with_sector}
use Rattle.vm_disks.specs.Images.{sector_put}
use Rattle.vm_disks.proofs.Segments.{with_piece}
use Rattle.vm_disks.proofs.sectors.settle.Goals as goal

pub returns-then-ok : goal.returns-then-ok
returns-then-ok c =
    let image : DiskImage = c.args.image.now in
    let bytes : List ℕ = c.args.disk.now in
    let k : ℕ = c.args.sector in
    ap (λ (b : List ℕ). record image { bytes = b; doubt = c.set.new.self }) (c.write_at.ensures ∙ with_piece image.bytes bytes c.as_slice.result.now k c.as_slice.ensures c.requires.disk)
    ∙ ap (λ (d : List Bool). record image { bytes = with_sector image.bytes k (sector_of bytes k); doubt = d }) c.set.ensures
    ∙ ap (λ (o : Bool). sector_put image bytes k o) (sym c.if-ok.true)
