use Rattle.std.proofs.Common.{◌∙◌, sym}
use Rattle.guest_ram.proofs.Pages.{zero_page_is}
use Rattle.guest_ram.proofs.page.Page.zeroed.Goals as goal

pub returns : goal.returns
returns c = c.in_ok-bytes.ensures.ok ∙ sym zero_page_is
