-- A client's number takes effect once.
use Rattle.cq_store.proofs.OfLaws.OneQueue.{others_do_nothing}
use Rattle.cq_store.proofs.OfLaws.Repeats.{fresh_once, repeats_answered}
use Rattle.cq_store.proofs.laws.one_effect_per_number.Goals as goal

pub returns : goal.returns
returns c = record { once = fresh_once; repeats = repeats_answered; idle = others_do_nothing }
