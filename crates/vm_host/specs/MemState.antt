-- What files, images and sinks in memory are seen as.
use Rattle.std.specs.Prelude.{◌≡◌, ℕ, ◌+◌, ◌-◌, ◌^◌, ◌==◌, min, max, Bool, true, IsTrue, List, length, take, Some, None, not, if◌then◌else◌, Result, Err, IsErrOf}
use Rattle.std.specs.List.{list_any, filter, filter_map}
use Rattle.std.specs.Str.{bytes_eq}
use Rattle.vm_host.specs.Views.{HostView, ImageView, SinkView}
use Rattle.vm_host.specs.Past.{Change, file_of, made_at, LeftSince}
use Rattle.vm_host.specs.declared.host.HostFault.{HostFault}
use Rattle.vm_host.specs.declared.host.HostFault.TheVariants.{Failed}

-- the number of the next call, the numbers of the calls that are to fail, and how many failed
pub record CallState : Type 0 where
  pub next : ℕ
  pub failing : List ℕ
  pub faults : ℕ

-- a call of the next image of a file that is to fail
pub record ImageCall : Type 0 where
  pub name : List ℕ
  pub call : ℕ

-- files: the changes, the newest first, the calls, the calls of images that are to fail, the counts, and the name of the last failure
pub record HostState : Type 0 where
  pub past : List Change
  pub calls : CallState
  pub failing_images : List ImageCall
  pub misses : ℕ
  pub failed : List ℕ
  pub image_faults : ℕ

-- an image: its bytes, its calls, and how many syncs it has done
pub record ImageState : Type 0 where
  pub bytes : List ℕ
  pub calls : CallState
  pub syncs : ℕ

-- a sink: the bytes that it took, and its calls
pub record SinkState : Type 0 where
  pub bytes : List ℕ
  pub calls : CallState

-- a text: the bytes that are left, and how many come at once at most
pub record TextState : Type 0 where
  pub left : List ℕ
  pub most : ℕ

-- what clauses of the traits see of them
abbrev pub host_view : HostState → HostView
host_view m = record {
  tells = true;
  file = file_of m.past;
  faults = m.calls.faults;
  misses = m.misses;
  failed = m.failed;
  image_faults = m.image_faults;
  moment = length m.past;
  made = made_at m.past;
  left = LeftSince m.past;
}

abbrev pub image_view : ImageState → ImageView
image_view i = record { tells = true; content = i.bytes; faults = i.calls.faults; syncs = i.syncs }

abbrev pub sink_view : SinkState → SinkView
sink_view s = record { tells = true; taken = s.bytes; faults = s.calls.faults }

-- before the first call
abbrev pub no_calls : List ℕ → CallState
no_calls failing = record { next = 0; failing = failing; faults = 0 }

-- one more, up to the end of the type
abbrev pub one_more : ℕ → ℕ
one_more n = max n (min (n + 1) (2 ^ 64 - 1))

-- whether the next call is to fail
abbrev pub is_listed : CallState → Bool
is_listed calls = list_any (λ n. n == calls.next) calls.failing

abbrev pub IsListed : CallState → Type 0
IsListed calls = IsTrue (is_listed calls)

-- after a call that failed, or that didn't
abbrev pub after_call : Bool → CallState → CallState
after_call fails calls = record calls { next = one_more calls.next; faults = if fails then one_more calls.faults else calls.faults }

-- the name of the last failure, after a call on this name that failed, or that didn't
abbrev pub failed_after : Bool → List ℕ → List ℕ → List ℕ
failed_after fails name before = if fails then take 4096 name else before

-- a listed call of a host answers that it failed, counts that, tells its name and changes nothing else
abbrev pub FailsWhereListed : {T : Type 0} → List ℕ → HostState → HostState → Result T HostFault → Type 0
FailsWhereListed name old new result =
    IsListed old.calls → (result ≡ Err Failed) × (new ≡ record old { calls = after_call true old.calls; failed = take 4096 name })

-- no other call of it answers that it failed
abbrev pub FailsOnlyListed : {T : Type 0} → HostState → Result T HostFault → Type 0
FailsOnlyListed old result = IsErrOf result Failed → IsListed old.calls

-- each call of it takes one number
abbrev pub IsNumbered : HostState → HostState → Type 0
IsNumbered old new = new.calls ≡ after_call (is_listed old.calls) old.calls

-- the calls that are to fail of the image of a file that is opened next
abbrev pub calls_of : List ImageCall → List ℕ → List ℕ
calls_of listed name = filter_map (λ e. if bytes_eq name e.name then Some e.call else None) listed

-- those of the images of other files
abbrev pub calls_of_others : List ImageCall → List ℕ → List ImageCall
calls_of_others listed name = filter (λ e. not (bytes_eq name e.name)) listed
