-- A call on files in memory that changed none.
use Rattle.std.proofs.Common.{◌≡◌, ℕ, List, length, refl, sym, ap, subst}
use Rattle.vm_host.specs.Crash.{Passes, AddsNothing}
use Rattle.vm_host.specs.Leaves.{WritesFiles, ReadsHost}
use Rattle.vm_host.specs.MemState.{HostState, host_view}
use Rattle.vm_host.specs.Past.{Change, file_of, made_at, LeftSince}
use Rattle.vm_host.proofs.Pasts.{passes_same, nothing_new}

pub unwritten : (name : List ℕ) (old new : HostState) → new.past ≡ old.past → new.image_faults ≡ old.image_faults → WritesFiles (λ q. q ≡ name) (host_view old) (host_view new)
unwritten name old new past images = record {
  told = refl;
  files = λ _ q ne. ap (λ (l : List Change). file_of l q) past;
  made = λ _ q ne. ap (λ (l : List Change). made_at l q) past;
  time = λ _. subst (λ (l : List Change). Passes (λ q. q ≡ name) (length old.past) (length l) (LeftSince old.past) (LeftSince l)) (sym past) (passes_same old.past name);
  image_faults = images;
}

pub unread : (old new : HostState) → new.past ≡ old.past → new.image_faults ≡ old.image_faults → ReadsHost (host_view old) (host_view new)
unread old new past images = record {
  told = refl;
  files = λ _. ap file_of past;
  made = λ _. ap made_at past;
  crash = λ _. subst (λ (l : List Change). AddsNothing (length old.past) (length l) (LeftSince old.past) (LeftSince l)) (sym past) (nothing_new old.past);
  image_faults = images;
}
