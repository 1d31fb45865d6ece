-- Each entry is inserted into the copy, which then finds what the map does.
use Rattle.std.proofs.Common.{◌≡◌, ◌∙◌, ap, arith, length}
use Rattle.std.specs.Str.{bytes_eq}
use Rattle.cq_store.specs.Stands.{name_at}
use Rattle.cq_store.proofs.Copies.{copied-more, copied-all, names-told}
use Rattle.cq_store.proofs.queues.Queues.try_copy.Goals as goal

pub loop-i-preserved : goal.loop-i-preserved
loop-i-preserved c = copied-more bytes_eq names-told c.self.inside.kept.entries c.loop-i.kept.entries c.insert.new.self.entries c.loop-i.i c.in-Some.queue.now c.in_ok-try_copy-in-Some.field-0 c.in-Some.name.now c.in_ok-try_copy-in-Some-2.field-0
    c.in-Some.ensures.entry c.in-Some.ensures.value c.in_ok-try_copy-in-Some.ensures c.in_ok-try_copy-in-Some-2.ensures c.in_ok-insert-in-Some.ensures.updates.0 c.loop-i.invariant

pub returns : goal.returns
returns c = λ queue.
    let all : c.loop-i.i ≡ length c.self.inside.kept.entries = omega (arith, c.loop-i-test.false, c.loop-i.auto.i-end, c.len-i-end.ensures.len) in
    copied-all bytes_eq c.self.inside.kept.entries c.loop-i.kept.entries c.loop-i.i all c.loop-i.invariant queue ∙ ap (λ es. name_at es queue) c.self.view_is
