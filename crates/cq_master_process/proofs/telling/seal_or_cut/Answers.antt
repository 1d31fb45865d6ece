-- A frame, or what was there before the front.
use Rattle.std.proofs.Common.{◌∙◌}
use Rattle.cq_master_process.proofs.Told.{cut-off}
use Rattle.cq_master_process.proofs.telling.seal_or_cut.Goals as goal

pub returns-then-len-body-gt-PIECE_LIMIT-clause-cut : goal.returns-then-len-body-gt-PIECE_LIMIT-clause-cut
returns-then-len-body-gt-PIECE_LIMIT-clause-cut c = λ old behind is at. c.truncate.ensures.items ∙ cut-off old behind c.args.out.now.items c.args.start is at

pub returns-in-Err-clause-cut : goal.returns-in-Err-clause-cut
returns-in-Err-clause-cut c = λ old behind is at. c.truncate-in-Err.ensures.items ∙ cut-off old behind c.seal.new.out.items c.args.start (c.in-Err.ensures.err ∙ is) at
