-- What turns, work outside and joins come to, one after the other.
use Rattle.std.proofs.Common.{◌≡◌, ◌≢◌, ℕ, ◌+◌, ◌≤◌, Bool, false, List, [], ◌++◌, length, append-nil, append_assoc, Option, Some, None, refl, sym, ap, subst, ◌∙◌, arith}
use Rattle.std.proofs.lemmas.Option.{same_Some}
use Rattle.vm_law.specs.declared.journal.Signed.{Signed}
use Rattle.vm_host.specs.Counts.{Rose}
use Rattle.vm_host.specs.Views.{SinkView}
use Rattle.vm_board.specs.declared.actor.Did.{Did}
use Rattle.vm_board.specs.declared.actor.Did.TheVariants.{Added, Nothing, Left, Starved}
use Rattle.vm_board.specs.declared.actor.Went.{Went}
use Rattle.vm_board.specs.declared.actor.Went.TheVariants as went
use Rattle.vm_board.specs.Going.{end_of}
use Rattle.vm_control.specs.View.{ControlView}
use Rattle.vm_control.specs.declared.control.OutFault.{OutFault}
use Rattle.vm_control.specs.declared.control.OutFault.TheVariants.{Failed, Sink, Memory}
use Rattle.vm_solo.specs.Playing.{Causes, KeepsFirst, Writes}
use Rattle.vm_solo.proofs.Controls.{writes_none}
use Rattle.vm_threads.specs.Crew.{IsPlayed}
use Rattle.vm_threads.specs.Chair.{ChairView, HasClosed, HasJoined, HasTurned, IsSameSeat}

-- ---- the end of turns

-- where the turns end and no memory was wanted, the actor left
pub left_ends : (did : Did) (w : Went) → end_of did ≡ Some w → w ≢ went.Starved → did ≡ Left
left_ends Added w e n = absurd (cc)
left_ends Nothing w e n = absurd (cc)
left_ends Left w e n = refl
left_ends Starved w e n = absurd (n (sym (same_Some went.Starved w e)))

-- ---- nothing

pub same_seat : (c : ChairView) → IsSameSeat c c
same_seat c = record { turnstile = refl; root = refl; splits = refl; ended = refl }

keeps_same : (o : Option OutFault) → KeepsFirst o o
keeps_same None = tt
keeps_same (Some e) = refl

causes_same : (o : Option OutFault) (n : ℕ) → Causes o o n n
causes_same None n = refl
causes_same (Some e) n = refl

pub turned_none : (c : ChairView) (v : SinkView) → HasTurned c c v v
turned_none c v = record { seat = same_seat c; writes = writes_none c.control c.control v refl; keeps = keeps_same c.fault; causes = causes_same c.fault v.faults }

pub joined_none : (c : ChairView) → HasJoined c 0 c
joined_none c = record { control = refl; fault = refl; turnstile = refl; root = refl; splits = refl; joined = (let e : length c.pass.view.ended ≡ length c.pass.view.ended + 0 = omega arith in e); more = []; seen = sym (append-nil c.pass.view.seen) }

-- ---- one after the other

pub seat_then : (a b c : ChairView) → IsSameSeat a b → IsSameSeat b c → IsSameSeat a c
seat_then a b c s t = record { turnstile = t.turnstile ∙ s.turnstile; root = t.root ∙ s.root; splits = t.splits ∙ s.splits; ended = t.ended ∙ s.ended }

pub writes_then : (a b c : ControlView) (u v w : SinkView) → Writes a b u v → Writes b c v w → Writes a c u w
writes_then a b c u v w s t = record {
  bytes = s.bytes ++ t.bytes;
  takes = record {
    told = t.takes.told ∙ s.takes.told;
    taken = λ told. t.takes.taken (s.takes.told ∙ told) ∙ ap (λ (l : List ℕ). l ++ t.bytes) (s.takes.taken told) ∙ append_assoc u.taken s.bytes t.bytes;
  };
  wrote = t.wrote ∙ ap (λ (l : List ℕ). l ++ t.bytes) s.wrote ∙ append_assoc a.wrote s.bytes t.bytes;
}

keeps_then : (a b c : Option OutFault) → KeepsFirst a b → KeepsFirst b c → KeepsFirst a c
keeps_then None b c s t = tt
keeps_then (Some e) b c s t = subst (λ (o : Option OutFault). KeepsFirst o c) s t

kept_cause : (e : OutFault) (o u : Option OutFault) (m n : ℕ) → o ≡ Some e → Causes o u m n → n ≡ m
kept_cause e None u m n h d = absurd (cc)
kept_cause e (Some x) u m n h d = d

causes_then : (a b c : Option OutFault) (k m n : ℕ) → KeepsFirst a b → KeepsFirst b c → Causes a b k m → Causes b c m n → Causes a c k n
causes_then (Some e) b c k m n p q s t = kept_cause e b c m n p t ∙ s
causes_then None None None k m n p q s t = t ∙ s
causes_then None None (Some Sink) k m n p q s t = (let e : m ≡ k = s in subst (λ (i : ℕ). (i ≤ n) × Rose i n) e t)
causes_then None None (Some Failed) k m n p q s t = absurd t
causes_then None None (Some Memory) k m n p q s t = absurd t
causes_then None (Some Failed) c k m n p q s t = absurd s
causes_then None (Some Memory) c k m n p q s t = absurd s
causes_then None (Some Sink) c k m n p q s t = subst (λ (o : Option OutFault). Causes None o k n) (sym q) (subst (λ (i : ℕ). (k ≤ i) × Rose k i) (sym t) s)

pub turned_then : (a b c : ChairView) (u v w : SinkView) → HasTurned a b u v → HasTurned b c v w → HasTurned a c u w
turned_then a b c u v w s t = record {
  seat = seat_then a b c s.seat t.seat;
  writes = writes_then a.control b.control c.control u v w s.writes t.writes;
  keeps = keeps_then a.fault b.fault c.fault s.keeps t.keeps;
  causes = causes_then a.fault b.fault c.fault u.faults v.faults w.faults s.keeps t.keeps s.causes t.causes;
}

pub joined_then : (a b c : ChairView) (m n : ℕ) → HasJoined a m b → HasJoined b n c → HasJoined a (m + n) c
joined_then a b c m n s t = record {
  control = t.control ∙ s.control;
  fault = t.fault ∙ s.fault;
  turnstile = t.turnstile ∙ s.turnstile;
  root = t.root ∙ s.root;
  splits = t.splits ∙ s.splits;
  joined = (let j = s.joined in let k = t.joined in let e : length c.pass.view.ended ≡ length a.pass.view.ended + (m + n) = omega (arith, j, k) in e);
  more = s.more ++ t.more;
  seen = t.seen ∙ ap (λ (l : List Signed). l ++ t.more) s.seen ∙ append_assoc a.pass.view.seen s.more t.more;
}

-- a run that was closed stays so
pub closed_then : (a b : ChairView) (n : ℕ) → HasJoined a n b → HasClosed a → HasClosed b
closed_then a b n j h = record {
  start = h.start;
  root = j.root ∙ h.root;
  whole = h.whole;
  rest = h.rest ++ j.more;
  seen = j.seen ∙ ap (λ (l : List Signed). l ++ j.more) h.seen ∙ append_assoc h.whole h.rest j.more;
  closed = h.closed;
  wrote = λ e. ap (λ (c : ControlView). c.wrote) j.control ∙ h.wrote (sym j.fault ∙ e);
}

-- ---- all of pass 0's part

pub crew_played : (old mid a b c d : ChairView) (n i j k l : ℕ) (starved : Bool) (u v : SinkView) → HasTurned old mid u v → HasJoined mid i a → HasJoined a j b → HasJoined b k c → HasJoined c l d
    → ((i + j) + k) + l ≡ n → (starved ≡ false → HasClosed mid) → IsPlayed old n d starved u v
crew_played old mid a b c d n i j k l starved u v turned first second third fourth count closed =
    let all : HasJoined mid n d = subst (λ (m : ℕ). HasJoined mid m d) count (joined_then mid c d ((i + j) + k) l (joined_then mid b c (i + j) k (joined_then mid a b i j first second) third) fourth) in
    record { mid = mid; turned = turned; joined = all; closed = λ fed. closed_then mid d n all (closed fed) }
