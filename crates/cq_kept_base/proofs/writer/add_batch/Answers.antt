use Rattle.cq_kept_base.proofs.writer.add_batch.Goals as goal

pub returns-clause-rests : goal.returns-clause-rests
returns-clause-rests g c = let b = c.add_to_base.ensures in record { half = b.lengths.0; len = b.lengths.1; records = b.records; honest = b.honest; moments = b.any_moment; intact = b.intact; stays = b.stays; later = b.later }
