use Rattle.std.proofs.Common.{◌≡◌, List, length, get_or, set, sym, ◌∙◌, ap, subst, string_bytes}
use Rattle.vm_host.specs.Kinds.{lent_of}
use Rattle.vm_host.specs.Past.{Change, file_of, LeftSince}
use Rattle.vm_host.specs.MemState.{HostState}
use Rattle.vm_host.proofs.Pasts.{reads_now, ReadsPast}
use Rattle.vm_host.proofs.GivenBack.{back, set_kept}
use Rattle.vm_host.proofs.mem_host.MemHost.give_back.Goals as goal

pub invariant_of-self : goal.invariant_of-self
invariant_of-self c =
    let e = c.index_mut-event.result.now in
    let x : Change = record { name = string_bytes c.event.inside.name; bytes = c.args.bytes.items; kind = c.lent-event-inside.result } in
    let kind = c.lent-event-inside.ensures ∙ ap (λ (y : Change). lent_of y.kind) c.event.view_is in
    let is : x ≡ back e c.args.bytes.items = λ i. record { name = (c.event.view_is i).name; bytes = c.args.bytes.items; kind = kind i } in
    let at = c.index_mut-event.ensures.value ∙ ap (λ (l : List Change). get_or l c.in-Some.place e) (sym c.deref.ensures.value) in
    set_kept c.args.self.now.past c.self.inside.past.items c.deref.result.now c.in-Some.place e x c.args.name.now c.args.bytes.items
    (ap (λ (m : HostState). m.past) c.self.view_is) c.deref.ensures.value c.requires c.self.invariant (c.in-Some.ensures.1 c.args.bytes.items e at) is

pub returns-in-Some-clause-reads : goal.returns-in-Some-clause-reads
returns-in-Some-clause-reads c =
    let e = c.index_mut-event.result.now in
    let x : Change = record { name = string_bytes c.event.inside.name; bytes = c.args.bytes.items; kind = c.lent-event-inside.result } in
    let kind = c.lent-event-inside.ensures ∙ ap (λ (y : Change). lent_of y.kind) c.event.view_is in
    let is : x ≡ back e c.args.bytes.items = λ i. record { name = (c.event.view_is i).name; bytes = c.args.bytes.items; kind = kind i } in
    let at = c.index_mut-event.ensures.value ∙ ap (λ (l : List Change). get_or l c.in-Some.place e) (sym c.deref.ensures.value) in
    reads_now (set c.self.inside.past.items c.in-Some.place x) (set_kept c.args.self.now.past c.self.inside.past.items c.deref.result.now c.in-Some.place e x c.args.name.now c.args.bytes.items
    (ap (λ (m : HostState). m.past) c.self.view_is) c.deref.ensures.value c.requires c.self.invariant (c.in-Some.ensures.1 c.args.bytes.items e at) is)

pub returns-in_default-clause-reads : goal.returns-in_default-clause-reads
returns-in_default-clause-reads c =
    let keeps : List Change → Type 0 = λ l. ReadsPast l in
    subst (λ (m : HostState). keeps m.past) c.self.view_is (reads_now c.self.inside.past.items c.self.invariant)
