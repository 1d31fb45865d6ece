-- A quiet chain agrees.
use Rattle.cq_world.proofs.OfLaws.Quiet.{members_agree, quiet_tail}
use Rattle.cq_world.proofs.laws.a_quiet_chain_agrees.Goals as goal

pub returns : goal.returns
returns c = record { members = members_agree; tail = quiet_tail }
