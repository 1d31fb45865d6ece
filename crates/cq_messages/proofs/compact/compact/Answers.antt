-- What is retained are the slots that have a message.
use Rattle.std.proofs.Common.{rules}
use Rattle.std.proofs.lemmas.Fn.{filter_same}
use Rattle.cq_messages.proofs.compact.compact.Goals as goal

pub returns-clause-slots : goal.returns-clause-slots
returns-clause-slots c = filter_same _ _ _ (λ x b f' k. search rules) _ _ c.retain.ensures.filtered
