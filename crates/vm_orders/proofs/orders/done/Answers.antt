use Rattle.std.proofs.Common.{◌≡◌, ◌<◌, ◌≤◌, length, sym, ap, subst, ◌∙◌}
use Rattle.std.specs.Prelude.{Option}
use Rattle.vm_law.specs.declared.script.Order.{Order}
use Rattle.vm_state.specs.declared.run_state.Said.{Said}
use Rattle.vm_state.specs.State.{State, next_order}
use Rattle.vm_state.specs.View.{RunView}
use Rattle.vm_orders.specs.Done.{after_done, noted_as, ordered_as}
use Rattle.vm_orders.proofs.KeepsDone.{names_next, next_after, still_next}
use Rattle.vm_orders.proofs.orders.done.Goals as goal

pub said_next-said-requires : goal.said_next-said-requires
said_next-said-requires c = names_next c.args.run.now.state c.args.by c.args.k c.requires.sound c.requires.may

pub carry_out-requires-clause-names : goal.carry_out-requires-clause-names
carry_out-requires-clause-names c = names_next c.args.run.now.state c.args.by c.args.k c.requires.sound c.requires.may

pub note-requires-clause-within : goal.note-requires-clause-within
note-requires-clause-within c =
    let same : c.carry_out.new.run.state ≡ ordered_as c.args.run.now.state (next_order c.args.run.now.state) = ap (λ (v : RunView). v.state) c.carry_out.ensures in
    subst (λ (t : State). t.place < length t.script) (sym same) (still_next c.args.run.now.state c.args.by c.args.k c.requires.sound c.requires.may).within

pub note-requires-clause-few : goal.note-requires-clause-few
note-requires-clause-few c =
    let same : c.carry_out.new.run.state ≡ ordered_as c.args.run.now.state (next_order c.args.run.now.state) = ap (λ (v : RunView). v.state) c.carry_out.ensures in
    subst (λ (t : State). length t.script ≤ 10001) (sym same) (still_next c.args.run.now.state c.args.by c.args.k c.requires.sound c.requires.may).few

pub returns : goal.returns
unfolding after_done
returns c =
    let run : RunView = c.args.run.now in
    let next : Option Order = next_order run.state in
    c.note.ensures
    ∙ ap (λ (v : RunView). record v { state = noted_as v.state (next_order v.state) c.said_next-said.result }) c.carry_out.ensures
    ∙ ap (λ (o : Option Order). record run { state = noted_as (ordered_as run.state next) o c.said_next-said.result }) (next_after run.state next c.requires.sound)
    ∙ ap (λ (w : Said). record run { state = noted_as (ordered_as run.state next) next w }) c.said_next-said.ensures
