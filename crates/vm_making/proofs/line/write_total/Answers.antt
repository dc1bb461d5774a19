use Rattle.std.proofs.Common.{◌≡◌, ◌∙◌, ◌++◌, ◌<◌, ◌^◌, List, ℕ, [], suc, take, drop, get_or, length, decimal, sum, add-one, sym, ap, subst}
use Rattle.vm_host.specs.Leaves.{Takes}
use Rattle.vm_host.specs.Told.{WhereTold}
use Rattle.vm_making.specs.Counts.{total}
use Rattle.vm_making.specs.Line.{TakesUpTo, total_line, total_pieces}
use Rattle.vm_making.proofs.Counts.{sum_fits}
use Rattle.vm_making.proofs.Lines.{up_to_more}
use Rattle.vm_status.specs.Lines.{joined}
use Rattle.vm_status.proofs.Pieces.{joined_more, joined_split, takes_more, on_any}
use Rattle.vm_making.proofs.line.write_total.Goals as goal

pub sum_of-total-requires : goal.sum_of-total-requires
sum_of-total-requires g c =
    subst (λ (l : List ℕ). sum l < 2 ^ 32) (sym (c.as_slice.ensures.value ∙ c.counts_of.ensures)) (sum_fits c.args.cpus c.args.number c.requires)

same_line : (cpus number : ℕ) (a b d : List ℕ) (t : ℕ) → a ≡ decimal cpus → b ≡ decimal number → d ≡ decimal t → t ≡ total cpus number → joined (total_pieces a b d) ≡ total_line cpus number
same_line cpus number a b d t p q r s =
    ap (λ (l : List ℕ). joined (total_pieces l b d)) p
    ∙ ap (λ (l : List ℕ). joined (total_pieces (decimal cpus) l d)) q
    ∙ ap (λ (l : List ℕ). joined (total_pieces (decimal cpus) (decimal number) l)) (r ∙ ap decimal s)

pub returns-in_err-write_all-clause-part : goal.returns-in_err-write_all-clause-part
returns-in_err-write_all-clause-part g c =
    let ps = total_pieces c.format-cpus_digits.result.now c.format-number_digits.result.now c.format-total_digits.result.now in
    let k = c.loop-k.k in
    let first = g.S.Sink.seen c.args.sink.now in
    let mid = g.S.Sink.seen c.loop-k.sink in
    let now = g.S.Sink.seen c.write_all.new.sink in
    let same : c.as_bytes.result.now ≡ get_or ps k [] = c.as_bytes.ensures.value ∙ c.piece_of.ensures in
    let refused : WhereTold mid.tells ((n : ℕ) × (n < length (get_or ps k [])) × (now.taken ≡ mid.taken ++ take n (get_or ps k []))) =
    subst (λ (l : List ℕ). WhereTold mid.tells ((n : ℕ) × (n < length l) × (now.taken ≡ mid.taken ++ take n l))) same c.in_err-write_all.ensures.refused in
    let sum_is = c.sum_of-total.ensures ∙ ap sum (c.as_slice.ensures.value ∙ c.counts_of.ensures) in
    on_any c.from_residual.result _
    (subst (λ (l : List ℕ). TakesUpTo [] l first now)
    (sym (joined_split ps k) ∙ same_line c.args.cpus c.args.number _ _ _ c.sum_of-total.result c.format-cpus_digits.ensures.text c.format-number_digits.ensures.text c.format-total_digits.ensures.text sum_is)
    (up_to_more first mid now (joined (take k ps)) (get_or ps k []) (joined (drop (suc k) ps)) c.loop-k.invariant.took c.in_err-write_all.ensures.part.told refused))

pub loop-k-preserved : goal.loop-k-preserved
loop-k-preserved g c =
    let ps = total_pieces c.format-cpus_digits.result.now c.format-number_digits.result.now c.format-total_digits.result.now in
    let k = c.loop-k.k in
    let first = g.S.Sink.seen c.args.sink.now in
    let mid = g.S.Sink.seen c.loop-k.sink in
    let now = g.S.Sink.seen c.write_all.new.sink in
    let same : c.as_bytes.result.now ≡ get_or ps k [] = c.as_bytes.ensures.value ∙ c.piece_of.ensures in
    let whole : Takes (get_or ps k []) mid now = subst (λ (l : List ℕ). Takes l mid now) same c.in_ok-write_all.ensures.whole in
    record {
      took = subst (λ (l : List ℕ). Takes l first now) (sym (ap (λ (n : ℕ). joined (take n ps)) (add-one k) ∙ joined_more ps k))
          (takes_more first mid now (joined (take k ps)) (get_or ps k []) [] c.loop-k.invariant.took whole);
      faults = c.in_ok-write_all.ensures.cause.quiet ∙ c.loop-k.invariant.faults;
    }
