-- Each queue goes by its own entries.
use Rattle.cq_store.proofs.OfLaws.Alone.{incarnations_alone}
use Rattle.cq_store.proofs.OfLaws.OneQueue.{queues_alone, replies_alone}
use Rattle.cq_store.proofs.laws.other_queues_do_not_matter.Goals as goal

pub returns : goal.returns
returns c = record { outcomes = queues_alone; replies = replies_alone; incarnations = incarnations_alone }
