-- From any world on in which parties may begin.
use Rattle.cq_real_time.proofs.Enabling.{orders_from_starts_are_runs, answers_from_starts}
use Rattle.cq_real_time.proofs.Starts.{first_worlds_are_starts}
use Rattle.cq_real_time.proofs.laws.orders_from_starts_are_runs.Goals as goal

pub returns : goal.returns
returns c = record { first = first_worlds_are_starts; runs = orders_from_starts_are_runs; answers = answers_from_starts }
