-- What a file that couldn't be loaded says.
use Rattle.std.proofs.Common.{◌≡◌, ℕ, suc, ◌<◌, Bool, true, false, List, length, replicate, Option, Some, None, Err, IsSomeAnd, IsErrOf, refl, arith}
use Rattle.std.proofs.lemmas.List.{length-replicate}
use Rattle.ckpt_store.specs.declared.loading.LoadFault.{LoadFault}
use Rattle.ckpt_store.specs.declared.loading.LoadFault.TheVariants as loading
use Rattle.vm_host.specs.Told.{WhereTold}
use Rattle.vm_host.specs.declared.host.HostFault.TheVariants as host
use Rattle.vm_outcome.specs.Files as files
use Rattle.vm_outcome.specs.Files.{Unread, IsRefusedAt}
use Rattle.vm_outcome.specs.Refusing.{after_load}
use Rattle.vm_status.specs.declared.kind.Kind.{Kind}
use Rattle.vm_status.specs.declared.kind.Kind.TheVariants.{Long}
use Rattle.vm_status.specs.declared.role.Role.{Role}

-- the value that is there
pub there : {X : Type 0} (o : Option X) (P : X → Type 0) → IsSomeAnd o P → (x : X) × (o ≡ Some x) × P x
there (Some x) P h = (x, refl, h)
there None P h = absurd h

module _ {X : Type 0} (told : Bool) (file : Option (List ℕ)) (role : Role) (name : List ℕ) (Means : List ℕ → X → Type 0) (IsFirst : List ℕ → ℕ → Kind → Type 0) (most : ℕ)
    (too_long : (bytes : List ℕ) (x : X) → most < length bytes → Means bytes x → ⊥)
    (first_long : (bytes : List ℕ) → most < length bytes → IsFirst bytes most Long) where
  -- a file that is too long, where its host tells it, and any bytes that are too many where it doesn't
  long_refused : (t : Bool) → (t ≡ true → IsSomeAnd file (λ f. most < length f)) → IsRefusedAt t file Means IsFirst most Long
  long_refused true long =
      let found = there file (λ f. most < length f) (long refl) in
      record { bytes = found.0; is_file = λ _. found.1; none = λ x m. too_long found.0 x found.2 m; first = first_long found.0 found.2 }
  long_refused false long =
      let fits : most < length (replicate (suc most) 0) = omega (arith, length-replicate {A = ℕ} (suc most) 0) in
      record {
        bytes = replicate (suc most) 0;
        is_file = λ t. absurd (let e : false ≡ true = t in cc);
        none = λ x m. too_long (replicate (suc most) 0) x fits m;
        first = first_long (replicate (suc most) 0) fits;
      }

  pub unloaded : {V : Type 0} (fault : LoadFault)
      → WhereTold told (IsErrOf {T = V} (Err fault) loading.Long → IsSomeAnd file (λ f. most < length f))
      → WhereTold told (IsErrOf {T = V} (Err fault) (loading.Host host.Missing) → file ≡ None)
      → Unread told file role name Means IsFirst (after_load role name most fault)
  unloaded (loading.Host host.Missing) long missing = files.missing refl (λ t. missing t refl)
  unloaded (loading.Host host.Failed) long missing = files.failed refl
  unloaded (loading.Host host.Memory) long missing = files.spent refl
  unloaded loading.Long long missing = files.bad most Long refl (long_refused told (λ t. long t refl))
