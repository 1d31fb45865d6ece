-- Nothing was run.
use Rattle.std.proofs.Common.{[]}
use Rattle.cq_script.specs.Lines.{session_grammar}
use Rattle.cq_script.specs.within.Played.{session_limits}
use Rattle.cq_script.proofs.Played.{nothing_played}
use Rattle.cq_script.proofs.resumed.ResumedSession.new.Goals as goal

pub returns : goal.returns
returns c = record { written = []; played = rw c.new-lines.ensures (nothing_played session_grammar session_limits c.args.size _ c.in_ok-sim.ensures) }
