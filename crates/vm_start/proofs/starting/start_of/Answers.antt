use Rattle.std.proofs.Common.{[], ℕ, List, Err, Ok, refl, subst}
use Rattle.std.proofs.lemmas.Result.{err_from_is_err_and}
use Rattle.std.specs.Option.{option_copied}
use Rattle.vm_law.specs.declared.script.Order.{Order}
use Rattle.vm_start.specs.Answers.{Is, UpToMemory, goes_on}
use Rattle.vm_start.specs.Start.{PartsOf, built, built_words, different_from, names_of}
use Rattle.vm_start.proofs.Causes.{own_after}
use Rattle.vm_start.proofs.Steps.{on, off}
use Rattle.vm_start.proofs.starting.start_of.Goals as goal

pub returns-in_err-check_words-clause-start : goal.returns-in_err-check_words-clause-start
returns-in_err-check_words-clause-start g c =
    let p = err_from_is_err_and c.from_residual.result c.from_residual.ensures.1 in
    rw (p.1, p.2) (off (Is (built_words c.args.words.now)) _ c.in_err-check_words.field-0.0 c.in_err-check_words.ensures.value)

pub returns-in_err-parts-clause-start : goal.returns-in_err-parts-clause-start
returns-in_err-parts-clause-start g c =
    let host = g.H.Host.seen c.args.host.now in
    let words = c.args.words.now in
    let f = c.in_err-parts.field-0.0 in
    let p = err_from_is_err_and c.from_residual-in_err-parts.result c.from_residual-in_err-parts.ensures.1 in
    let value = subst (λ (n : List ℕ). UpToMemory (PartsOf host.tells host.file n) (Err f)) c.as_str-file.ensures c.in_err-parts.ensures.value in
    rw (p.1, p.2) (on (Is (built_words words)) _ tt (Err f) c.in_ok-check_words.ensures.value (off (PartsOf host.tells host.file words.file) _ f value))

pub returns-in_err-check_names-clause-start : goal.returns-in_err-check_names-clause-start
returns-in_err-check_names-clause-start g c =
    let host = g.H.Host.seen c.args.host.now in
    let words = c.args.words.now in
    let parts = c.in_ok-parts.parts in
    let journal = option_copied c.args.journal in
    let f = c.in_err-check_names.field-0.0 in
    let p = err_from_is_err_and c.from_residual-in_err-check_names.result c.from_residual-in_err-check_names.ensures.1 in
    let read = subst (λ (n : List ℕ). PartsOf host.tells host.file n (Ok parts)) c.as_str-file.ensures c.in_ok-parts.ensures.value in
    let value = subst (λ (n : List ℕ). UpToMemory (Is (different_from [] (names_of n parts.setup.plan journal))) (Err f)) c.as_str-file.ensures c.in_err-check_names.ensures.value in
    rw (p.1, p.2) (on (Is (built_words words)) _ tt (Err f) c.in_ok-check_words.ensures.value (on (PartsOf host.tells host.file words.file) _ parts (Err f) read
    (off (Is (different_from [] (names_of words.file parts.setup.plan journal))) _ f value)))

pub returns-in_err-check_names-clause-causes : goal.returns-in_err-check_names-clause-causes
returns-in_err-check_names-clause-causes g c =
    let p = err_from_is_err_and c.from_residual-in_err-check_names.result c.from_residual-in_err-check_names.ensures.1 in
    rw (p.1, p.2) (own_after _ _ c.in_ok-parts.parts c.in_err-check_names.field-0.0 c.in_ok-parts.ensures.causes c.in_err-check_names.ensures.own)

pub returns-in_err-check_orders-clause-start : goal.returns-in_err-check_orders-clause-start
returns-in_err-check_orders-clause-start g c =
    let host = g.H.Host.seen c.args.host.now in
    let words = c.args.words.now in
    let parts = c.in_ok-parts.parts in
    let journal = option_copied c.args.journal in
    let f = c.in_err-check_orders.field-0.0 in
    let p = err_from_is_err_and c.from_residual-in_err-check_orders.result c.from_residual-in_err-check_orders.ensures.1 in
    let read = subst (λ (n : List ℕ). PartsOf host.tells host.file n (Ok parts)) c.as_str-file.ensures c.in_ok-parts.ensures.value in
    let names = subst (λ (n : List ℕ). Is (different_from [] (names_of n parts.setup.plan journal)) (Ok tt)) c.as_str-file.ensures c.in_ok-check_names.ensures.value in
    let value = subst (λ (s : List Order). UpToMemory (Is (built s)) (Err f)) c.as_slice.ensures c.in_err-check_orders.ensures.value in
    rw (p.1, p.2) (on (Is (built_words words)) _ tt (Err f) c.in_ok-check_words.ensures.value (on (PartsOf host.tells host.file words.file) _ parts (Err f) read
    (on (Is (different_from [] (names_of words.file parts.setup.plan journal))) _ tt (Err f) names (off (Is (built parts.script)) _ f value))))

pub returns-in_err-check_orders-clause-causes : goal.returns-in_err-check_orders-clause-causes
returns-in_err-check_orders-clause-causes g c =
    let p = err_from_is_err_and c.from_residual-in_err-check_orders.result c.from_residual-in_err-check_orders.ensures.1 in
    rw (p.1, p.2) (own_after _ _ c.in_ok-parts.parts c.in_err-check_orders.field-0.0 c.in_ok-parts.ensures.causes c.in_err-check_orders.ensures.own)

pub returns-clause-start : goal.returns-clause-start
returns-clause-start g c =
    let host = g.H.Host.seen c.args.host.now in
    let parts = c.in_ok-parts.parts in
    let journal = option_copied c.args.journal in
    let read = subst (λ (n : List ℕ). PartsOf host.tells host.file n (Ok parts)) c.as_str-file.ensures c.in_ok-parts.ensures.value in
    let names = subst (λ (n : List ℕ). Is (different_from [] (names_of n parts.setup.plan journal)) (Ok tt)) c.as_str-file.ensures c.in_ok-check_names.ensures.value in
    let orders = subst (λ (s : List Order). Is (built s) (Ok tt)) c.as_slice.ensures c.in_ok-check_orders.ensures.value in
    goes_on tt c.in_ok-check_words.ensures.value (goes_on parts read (goes_on tt names (goes_on tt orders refl)))
