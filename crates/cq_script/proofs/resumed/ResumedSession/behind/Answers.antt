-- The world is that of a server alone, and the reader has read so many lines.
use Rattle.cq_events.specs.Worlds.{first_world}
use Rattle.cq_script.specs.Output.{text_of}
use Rattle.cq_script.specs.within.Played.{after_lines}
use Rattle.cq_script.proofs.Bases.{played-behind}
use Rattle.cq_script.proofs.resumed.ResumedSession.behind.Goals as goal

pub returns : goal.returns
returns c = λ size bytes base. record {
  written = text_of size base.lines;
  played = played-behind size c.args.store c.args.lines bytes _ _ base c.behind-lines.ensures (c.in_ok-sim.ensures base.entries (after_lines (first_world size) base.lines) base.stands base.alone);
}
