-- Which answers are right, step after step: the first step that refuses ends them.
use Rattle.std.specs.Prelude.{◌≡◌, ◌⊎◌, Result, Ok, Err}
use Rattle.vm_status.specs.declared.refusal.Refusal.{Refusal}
use Rattle.vm_status.specs.declared.refusal.Refusal.TheVariants.{Memory}

abbrev pub Answers : Type 0 → Type 1
Answers X = Result X Refusal → Type 0

-- this one
abbrev pub Is : {X : Type 0} → Result X Refusal → Answers X
Is right answer = answer ≡ right

-- what the next step makes of the first one's value, or the first one's refusal
pub data Then {X Y : Type 0} (First : Answers X) (next : X → Answers Y) (answer : Result Y Refusal) : Type 0 where
  goes_on : (x : X) → First (Ok x) → next x answer → Then First next answer
  ends : (refusal : Refusal) → First (Err refusal) → answer ≡ Err refusal → Then First next answer

infixl 10 ◌>>=◌
abbrev pub ◌>>=◌ : {X Y : Type 0} → Answers X → (X → Answers Y) → Answers Y
First >>= next = Then First next

-- a right answer, or want of memory
abbrev pub UpToMemory : {X : Type 0} → Answers X → Result X Refusal → Type 0
UpToMemory Right (Ok x) = Right (Ok x)
UpToMemory Right (Err refusal) = (refusal ≡ Memory) ⊎ Right (Err refusal)
