use Rattle.std.proofs.Common.{◌≡◌, length, subst}
use Rattle.vm_state.specs.State.{page_count}
use Rattle.vm_vcpu.specs.Copies.{CopiesView}
use Rattle.vm_vcpu.proofs.copies.Copies.renew_page.Goals as goal

pub copy_page-requires-clause-pages : goal.copy_page-requires-clause-pages
copy_page-requires-clause-pages g c = subst (λ (w : CopiesView). length w.versions ≡ page_count (length w.code)) c.self.view_is c.self.invariant.1
