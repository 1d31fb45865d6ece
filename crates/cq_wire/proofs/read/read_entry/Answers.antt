use Rattle.std.proofs.Common.{ap, subst, ◌∙◌, arith}
use Rattle.cq_wire.specs.Layout.{entry}
use Rattle.cq_wire.specs.Limits.{IsEntry}
use Rattle.cq_wire.specs.Reading.{Gives, entry_at, whole_at}
use Rattle.cq_wire.proofs.AskLaws.{entry_reads, entry_is_read}
use Rattle.cq_wire.proofs.Wholes.{is_found, whole_is_read}
use Rattle.cq_wire.proofs.read.read_entry.Goals as goal

pub returns-clause-found : goal.returns-clause-found
returns-clause-found c = is_found entry entry_at IsEntry entry_reads c.args.bytes.now c.whole_entry.result (λ i. omega (arith, c.type_inv.bytes i)) c.whole_entry.ensures

pub returns-clause-only : goal.returns-clause-only
returns-clause-only c = λ x fits e. subst (λ r. Gives (λ y. y) c.whole_entry.result r) (ap (whole_at entry_at) e ∙ whole_is_read entry entry_at IsEntry entry_is_read x fits) c.whole_entry.ensures
