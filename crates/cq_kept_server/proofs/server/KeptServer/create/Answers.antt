-- With no entries.
use Rattle.std.proofs.Common.{[], ap, sym, subst, ◌∙◌}
use Rattle.std.specs.Prelude.{IsTrue}
use Rattle.cq_kept_entries.specs.Kept.{HasAdded, IsKept, entries_device, entries_half, entries_len}
use Rattle.cq_kept_server.proofs.Begun.{begun}
use Rattle.cq_kept_server.proofs.server.KeptServer.create.Goals as goal

pub returns-clause-ready : goal.returns-clause-ready
returns-clause-ready g c = subst (λ it. IsKept it) (sym c.begin.ensures.kept) c.in_ok-kept.ensures.kept

pub returns-clause-settled : goal.returns-clause-settled
returns-clause-settled g c = subst (λ it. HasAdded it []) (sym c.begin.ensures.kept) c.in_ok-kept.ensures.settled

pub returns-clause-lengths : goal.returns-clause-lengths
returns-clause-lengths g c = (ap entries_half c.begin.ensures.kept ∙ c.in_ok-kept.ensures.lengths.0, ap entries_len c.begin.ensures.kept ∙ c.in_ok-kept.ensures.lengths.1)

pub returns-clause-begins : goal.returns-clause-begins
returns-clause-begins g c = begun c.begin.result c.in_ok-kept.kept [] c.begin.ensures.kept (c.begin.ensures.new [] c.in_ok-store.ensures) c.in_ok-kept.ensures.empty c.in_ok-kept.ensures.settled

pub returns-clause-honest : goal.returns-clause-honest
returns-clause-honest g c = λ honest. c.in_ok-kept.ensures.honest (subst (λ it. IsTrue (g.D.Device.is_honest (entries_device it))) c.begin.ensures.kept honest)
