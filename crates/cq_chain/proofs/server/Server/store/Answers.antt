-- It stands for its entries.
use Rattle.std.proofs.Common.{sym, subst}
use Rattle.cq_store.specs.Stands as stores
use Rattle.cq_chain.proofs.ServerStands.{parts}
use Rattle.cq_chain.proofs.server.Server.store.Goals as goal

pub returns-clause-stands : goal.returns-clause-stands
returns-clause-stands c = λ s outbox h. subst (λ kept. stores.StandsFor kept s.entries) (sym c.store.ensures) (parts c.args.self.now s outbox h).entries.store
