-- Behind the entries that are kept.
use Rattle.std.proofs.Common.{[], ◌⊎◌, ap, sym, subst, ◌∙◌}
use Rattle.std.specs.Prelude.{IsTrue}
use Rattle.cq_disk.specs.Device.{LeavesOnly}
use Rattle.cq_kept_entries.specs.Kept.{BytesStandFor, HasAdded, IsKept, entries_device, entries_half, entries_len}
use Rattle.cq_kept_server.proofs.Begun.{begun}
use Rattle.cq_kept_server.proofs.server.KeptServer.open.Goals as goal

pub returns-clause-ready : goal.returns-clause-ready
returns-clause-ready g c = subst (λ it. IsKept it) (sym c.begin.ensures.kept) c.in_ok-kept.ensures.kept

pub returns-clause-settled : goal.returns-clause-settled
returns-clause-settled g c = subst (λ it. HasAdded it []) (sym c.begin.ensures.kept) c.in_ok-kept.ensures.settled

pub returns-clause-lengths : goal.returns-clause-lengths
returns-clause-lengths g c = (ap entries_half c.begin.ensures.kept ∙ c.in_ok-kept.ensures.lengths.0, ap entries_len c.begin.ensures.kept ∙ c.in_ok-kept.ensures.lengths.1)

pub returns-clause-begins : goal.returns-clause-begins
returns-clause-begins g c = λ honest all bytes.
    let read = subst (λ it. IsTrue (g.D.Device.is_honest (entries_device it))) c.begin.ensures.kept honest in
    let stands = c.in_ok-kept.ensures.stands read all bytes in
    begun c.begin.result _ all c.begin.ensures.kept (c.begin.ensures.new all (c.in_ok-kept.ensures.store read all stands)) stands c.in_ok-kept.ensures.settled

pub returns-clause-any_moment : goal.returns-clause-any_moment
returns-clause-any_moment g c = λ honest all bytes.
    let read = subst (λ it. IsTrue (g.D.Device.is_honest (entries_device it))) c.begin.ensures.kept honest in
    subst (λ it. LeavesOnly g.D.Device.moment g.D.Device.left_since c.args.device (entries_device it) (λ left. g.D.Device.may_leave c.args.device left ⊎ BytesStandFor c.args.half c.args.len left all)) (sym c.begin.ensures.kept) (c.in_ok-kept.ensures.any_moment read all bytes)
