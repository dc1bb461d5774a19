-- What clauses see of the adapters: their counts, the name of the last failure, and nothing of content.
use Rattle.std.specs.Prelude.{ℕ, List, false, None, []}
use Rattle.vm_host.specs.Views.{HostView, ImageView, SinkView}

-- how often a host failed and missed a file, the name of its last failure, and how many images came back with faults of
-- their own
pub record HostCounts : Type 0 where
  pub faults : ℕ
  pub misses : ℕ
  pub failed : List ℕ
  pub image_faults : ℕ

abbrev pub host_view : HostCounts → HostView
host_view h = record {
  tells = false;
  file = λ _. None;
  faults = h.faults;
  misses = h.misses;
  failed = h.failed;
  image_faults = h.image_faults;
  moment = 0;
  made = λ _. 0;
  left = λ _ _ _. Unit {0};
}

-- how often an image failed, and was synced
pub record ImageCounts : Type 0 where
  pub faults : ℕ
  pub syncs : ℕ

abbrev pub image_view : ImageCounts → ImageView
image_view i = record { tells = false; content = []; faults = i.faults; syncs = i.syncs }

-- how often a sink failed
pub record SinkCounts : Type 0 where
  pub faults : ℕ

abbrev pub sink_view : SinkCounts → SinkView
sink_view s = record { tells = false; taken = []; faults = s.faults }
