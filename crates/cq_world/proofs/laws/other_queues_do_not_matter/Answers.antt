-- Each queue goes by its own entries.
use Rattle.cq_events.specs.Runs.{committed}
use Rattle.cq_store.proofs.OfLaws.OneQueue.{queues_alone, replies_alone}
use Rattle.cq_world.proofs.laws.other_queues_do_not_matter.Goals as goal

pub returns : goal.returns
returns c = record { outcomes = λ size events some. queues_alone (committed size events); replies = λ size events some before rest e split. replies_alone before e }
