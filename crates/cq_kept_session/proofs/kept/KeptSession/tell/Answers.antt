use Rattle.cq_kept_session.proofs.kept.KeptSession.tell.Goals as goal

pub returns-clause-writes : goal.returns-clause-writes
returns-clause-writes g c = λ before ran. c.feed.ensures.writes c.args.self.now.size before ran
