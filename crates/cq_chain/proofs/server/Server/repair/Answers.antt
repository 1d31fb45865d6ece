-- By what the successor has.
use Rattle.std.proofs.Common.{◌≡◌, ◌≤◌, ◌<◌, ◌+◌, ◌∷◌, ◌∙◌, [], sym, subst, drop, arith}
use Rattle.std.proofs.lemmas.Bool.{le-leb, lt-leb}
use Rattle.cq_base.specs.declared.party.Party.TheVariants as parties
use Rattle.cq_chain.specs.Messages as sent
use Rattle.cq_chain.specs.Steps.{forwards, repair}
use Rattle.cq_chain.proofs.Repairs.{made-by, repair-by_entries, repair-whole}
use Rattle.cq_chain.proofs.Replicas.{floor-of}
use Rattle.cq_chain.proofs.ServerStands.{parts}
use Rattle.cq_store.specs.Stands as stores
use Rattle.cq_chain.proofs.server.Server.repair.Goals as goal

pub returns-then-floor-have : goal.returns-then-floor-have
returns-then-floor-have c = λ s outbox h.
    let p = parts c.args.self.now s outbox h in
    let have = c.args.have in
    let is : c.floor.result ≡ s.floor = c.floor.ensures ∙ floor-of c.args.self.now.replica s.entries s.floor p.entries in
    let within : s.floor ≤ have = omega (arith, is, c.if-floor-have.true) in
    made-by c.missing.result (λ to. forwards to (have + 1) (drop have s.entries)) (λ to. repair to have s)
    (λ to. sym (repair-by_entries to have s (le-leb s.floor have within))) (c.missing.ensures s.entries s.floor p.entries)

pub returns-else-floor-have : goal.returns-else-floor-have
returns-else-floor-have c = λ s outbox h.
    let p = parts c.args.self.now s outbox h in
    let have = c.args.have in
    let is : c.floor.result ≡ s.floor = c.floor.ensures ∙ floor-of c.args.self.now.replica s.entries s.floor p.entries in
    let beyond : have < s.floor = omega (arith, is, c.if-floor-have.false) in
    made-by c.snapshot.result (λ to. (parties.Server to, sent.Snap s.entries) ∷ []) (λ to. repair to have s)
    (λ to. sym (repair-whole to have s (lt-leb s.floor have beyond))) (c.snapshot.ensures s.entries (subst (λ store. stores.StandsFor store s.entries) (sym c.store.ensures) p.entries.store))
