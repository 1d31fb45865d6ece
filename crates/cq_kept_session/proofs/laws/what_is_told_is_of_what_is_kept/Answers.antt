use Rattle.cq_kept_session.proofs.Histories.{continues}
use Rattle.cq_kept_session.proofs.laws.what_is_told_is_of_what_is_kept.Goals as goal

pub returns : goal.returns
returns g c = λ bytes takes stands all. continues bytes takes c.args._old.now c.args._new.now stands all
