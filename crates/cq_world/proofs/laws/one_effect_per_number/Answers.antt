-- A client's number takes effect once.
use Rattle.cq_events.specs.Runs.{committed}
use Rattle.cq_store.proofs.OfLaws.OneQueue.{others_do_nothing}
use Rattle.cq_store.proofs.OfLaws.Repeats.{fresh_once, repeats_answered}
use Rattle.cq_world.proofs.laws.one_effect_per_number.Goals as goal

pub returns : goal.returns
returns c = record {
  once = λ size events some. fresh_once (committed size events);
  repeats = λ size events some before rest e split. repeats_answered before e;
  idle = λ size events some before rest e split. others_do_nothing before e;
}
