-- It stands for the world behind the lines that were run.
use Rattle.std.proofs.Common.{sym, subst}
use Rattle.cq_events.specs.Worlds.{first_world}
use Rattle.cq_world.specs.Stands.{StandsFor}
use Rattle.cq_script.specs.within.Played.{after_lines}
use Rattle.cq_script.proofs.Answered.{lines_of_ended}
use Rattle.cq_script.proofs.resumed.ResumedSession.sim.Goals as goal

pub returns : goal.returns
returns c = λ size bytes ran.
    subst (λ lines. StandsFor c.args.self.now.sim (after_lines (first_world size) lines)) (sym (lines_of_ended size bytes ran.written _ _ ran.played)) ran.played.stands
