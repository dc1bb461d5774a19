use Rattle.std.proofs.Common.{◌≡◌, ℕ, List, true, false, Some, sym, ◌∙◌, ap}
use Rattle.std.specs.Str.{bytes_eq}
use Rattle.vm_host.specs.Past.{Change, file_of}
use Rattle.vm_host.specs.MemState.{HostState}
use Rattle.vm_host.proofs.Pasts.{file_found, file_next}
use Rattle.vm_host.proofs.mem_host.MemHost.file.Goals as goal

pub returns-then-eq : goal.returns-then-eq
returns-then-eq c =
    let items = c.deref-event-items.result.now in
    let item = c.event-item.result in
    let named = c.as_str.ensures.value ∙ ap (λ (e : Change). e.name) c.event.view_is in
    let test : bytes_eq c.args.name.now item.name ≡ true = ap (λ (n : List ℕ). bytes_eq c.args.name.now n) (sym named) ∙ sym c.eq.ensures ∙ c.if-eq.true in
    let found = file_found items c.loop-event.event-index item c.args.name.now c.loop-event-test.true c.event-item.is test in
    let all = c.deref-event-items.ensures.value ∙ ap (λ (m : HostState). m.past) c.self.view_is in
    let bytes = c.as_slice.ensures.value ∙ ap (λ (e : Change). e.bytes) c.event.view_is in
    ap Some bytes ∙ sym found ∙ c.loop-event.invariant ∙ ap (λ (l : List Change). file_of l c.args.name.now) all

pub loop-event-preserved : goal.loop-event-preserved
loop-event-preserved c =
    let items = c.deref-event-items.result.now in
    let item = c.event-item.result in
    let named = c.as_str.ensures.value ∙ ap (λ (e : Change). e.name) c.event.view_is in
    let test : bytes_eq c.args.name.now item.name ≡ false = ap (λ (n : List ℕ). bytes_eq c.args.name.now n) (sym named) ∙ sym c.eq.ensures ∙ c.if-eq.false in
    let next = file_next items c.loop-event.event-index item c.args.name.now c.loop-event-test.true c.event-item.is test in
    sym next ∙ c.loop-event.invariant
