-- The reader is between lines, and the world at rest.
use Rattle.std.proofs.Common.{◌≡◌, option_map, refl}
use Rattle.cq_events.specs.Worlds.{first_world}
use Rattle.cq_lines.specs.Progress.{lines_read}
use Rattle.cq_script.specs.within.Played.{after_lines, session_limits}
use Rattle.cq_script.proofs.Bases.{again-if, base-if, between-lines}
use Rattle.cq_script.proofs.resumed.ResumedSession.store_at_rest.Goals as goal

read-so : (c : goal.After-store_alone) → c.args.self.now.lines ≡ lines_read session_limits c.args.self.now.lines.lines
read-so c = between-lines c.args.self.now.lines (c.if-not-is_between_lines.ensures.limits refl) (c.if-not-is_between_lines.ensures.values refl) (c.if-not-is_between_lines.ensures.partial refl)

pub returns-clause-base : goal.returns-clause-base
returns-clause-base c = λ size bytes ran. base-if size bytes c.args.self.now ran (option_map (λ s. s.now) c.store_alone.result) (read-so c) (c.store_alone.ensures.rests (after_lines (first_world size) ran.played.lines) ran.played.stands)

pub returns-clause-again : goal.returns-clause-again
returns-clause-again c = λ size bytes. again-if size bytes c.args.self.now (option_map (λ s. s.now) c.store_alone.result) (read-so c) c.store_alone.ensures.again
