-- What was added is kept, and then all is made ready for what comes.
use Rattle.std.proofs.Common.{refl, subst}
use Rattle.cq_kept_server.specs.Keeping.{goes_on, none_comes}
use Rattle.cq_kept_server.specs.Servers.{state_of}
use Rattle.cq_kept_server.proofs.Answered.{on_err}
use Rattle.cq_kept_server.proofs.Settled.{HoldsEntries, both_grow, commit_stops, rewrite_stops}
use Rattle.cq_kept_server.proofs.server.KeptServer.commit_and_prepare.Goals as goal

pub returns-in_err-commit-clause-stops : goal.returns-in_err-commit-clause-stops
returns-in_err-commit-clause-stops g c =
    on_err c.from_residual.result (λ ready. commit_stops (state_of c.args.self.now) (record (state_of c.args.self.now) { kept = c.commit.new.self }) (record { honest = c.commit.ensures.honest; moments = c.commit.ensures.any_moment }))

pub returns-in_err-prepare-clause-stops : goal.returns-in_err-prepare-clause-stops
returns-in_err-prepare-clause-stops g c =
    let p = state_of c.args.self.now in
    let q = record p { kept = c.commit.new.self } in
    let r = record p { kept = c.prepare.new.self } in
    let holds = subst (λ core. HoldsEntries core c.store.result.now) c.core.ensures c.store.ensures.stands in
    on_err c.from_residual-in_err-prepare.result (λ ready. rewrite_stops p q r c.store.result.now refl holds
    (record { half = c.in_ok-commit.ensures.lengths.0; len = c.in_ok-commit.ensures.lengths.1; stands = c.in_ok-commit.ensures.stands; settled = c.in_ok-commit.ensures.settled })
    (record { honest = c.commit.ensures.honest; moments = c.commit.ensures.any_moment })
    (record { honest = c.prepare.ensures.honest; added = c.prepare.ensures.added; moments = c.prepare.ensures.any_moment }))

pub returns-clause-rests : goal.returns-clause-rests
returns-clause-rests g c =
    let p = state_of c.args.self.now in
    let q = record p { kept = c.commit.new.self } in
    let r = record p { kept = c.prepare.new.self } in
    let holds = subst (λ core. HoldsEntries core c.store.result.now) c.core.ensures c.store.ensures.stands in
    let both = both_grow p q r c.store.result.now refl refl holds
    (record { half = c.in_ok-commit.ensures.lengths.0; len = c.in_ok-commit.ensures.lengths.1; stands = c.in_ok-commit.ensures.stands; settled = c.in_ok-commit.ensures.settled })
    (record { honest = c.commit.ensures.honest; moments = c.commit.ensures.any_moment })
    (record { half = c.in_ok-prepare.ensures.lengths.0; len = c.in_ok-prepare.ensures.lengths.1; stands = c.in_ok-prepare.ensures.stands })
    (record { honest = c.prepare.ensures.honest; added = c.prepare.ensures.added; moments = c.prepare.ensures.any_moment }) in
    record { ready = c.in_ok-prepare.ensures.kept; process = refl; ended = refl; goes = goes_on p q r none_comes both.0 both.1 }
