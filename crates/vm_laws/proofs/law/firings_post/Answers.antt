use Rattle.vm_laws.proofs.Timing.{firing_posts}
use Rattle.vm_laws.proofs.law.firings_post.Goals as goal

pub returns : goal.returns
returns c = λ s x i l m f h. firing_posts s x i l m f h
