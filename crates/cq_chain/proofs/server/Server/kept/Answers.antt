-- The entries after the floor.
use Rattle.std.proofs.Common.{◌∙◌, ap, length}
use Rattle.std.proofs.lemmas.List.{length-drop}
use Rattle.cq_chain.proofs.ServerStands.{parts}
use Rattle.cq_chain.proofs.server.Server.kept.Goals as goal

pub returns : goal.returns
returns c = λ s outbox h. c.kept.ensures ∙ ap (λ es. length es) (parts c.args.self.now s outbox h).entries.after ∙ length-drop s.floor s.entries
