-- Files as a command reads them. `told`: the host tells its files.
use Rattle.std.specs.Prelude.{◌≡◌, ℕ, Bool, List, Option, Some, None, Result, Ok, Err}
use Rattle.vm_host.specs.Told.{WhereTold}
use Rattle.vm_status.specs.declared.kind.Kind.{Kind}
use Rattle.vm_status.specs.declared.refusal.Refusal.{Refusal}
use Rattle.vm_status.specs.declared.refusal.Refusal.TheVariants.{Bad, HostFault, Missing, Memory}
use Rattle.vm_status.specs.declared.role.Role.{Role}

-- the bytes are those of the file, where its host tells them
abbrev pub IsFile : Bool → Option (List ℕ) → List ℕ → Type 0
IsFile told file bytes = WhereTold told (file ≡ Some bytes)

module _ {X : Type 0} where
  -- the file's bytes mean x
  pub record IsFileOf (told : Bool) (file : Option (List ℕ)) (Means : List ℕ → X → Type 0) (x : X) : Type 0 where
    pub bytes : List ℕ
    pub is_file : IsFile told file bytes
    pub means : Means bytes x

  -- the file's bytes mean nothing
  pub record IsRefused (told : Bool) (file : Option (List ℕ)) (Means : List ℕ → X → Type 0) : Type 0 where
    pub bytes : List ℕ
    pub is_file : IsFile told file bytes
    pub none : (x : X) → Means bytes x → ⊥

  -- the file's bytes mean nothing, and this is their first fault
  pub record IsRefusedAt (told : Bool) (file : Option (List ℕ)) (Means : List ℕ → X → Type 0) (IsFirst : List ℕ → ℕ → Kind → Type 0) (at : ℕ) (kind : Kind) : Type 0 where
    pub bytes : List ℕ
    pub is_file : IsFile told file bytes
    pub none : (x : X) → Means bytes x → ⊥
    pub first : IsFirst bytes at kind

  -- why a file of this name wasn't read
  pub data Unread (told : Bool) (file : Option (List ℕ)) (role : Role) (name : List ℕ) (Means : List ℕ → X → Type 0) (IsFirst : List ℕ → ℕ → Kind → Type 0) (refusal : Refusal) : Type 0 where
    bad : (at : ℕ) (kind : Kind) → refusal ≡ Bad role name at kind → IsRefusedAt told file Means IsFirst at kind → Unread told file role name Means IsFirst refusal
    missing : refusal ≡ Missing name → WhereTold told (file ≡ None) → Unread told file role name Means IsFirst refusal
    failed : refusal ≡ HostFault name → Unread told file role name Means IsFirst refusal
    spent : refusal ≡ Memory → Unread told file role name Means IsFirst refusal

  -- what reading a file of this name answers
  abbrev pub Reads : Bool → Option (List ℕ) → Role → List ℕ → (List ℕ → X → Type 0) → (List ℕ → ℕ → Kind → Type 0) → Result X Refusal → Type 0
  Reads told file role name Means IsFirst (Ok x) = IsFileOf told file Means x
  Reads told file role name Means IsFirst (Err refusal) = Unread told file role name Means IsFirst refusal
