-- From a world on that begins with entries.
use Rattle.cq_real_time.proofs.FromStores.{loaded_worlds_are_starts, loaded_parties_act, orders_from_stores_go_on}
use Rattle.cq_real_time.proofs.laws.orders_from_stores_go_on.Goals as goal

pub returns : goal.returns
returns c = record { starts = loaded_worlds_are_starts; parties = loaded_parties_act; goes_on = orders_from_stores_go_on }
