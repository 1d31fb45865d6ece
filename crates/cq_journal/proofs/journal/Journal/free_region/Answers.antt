-- One place more isn't free.
use Rattle.std.proofs.Common.{◌≡◌, ⊎_elim, ◌+◌, ◌*◌, ◌<◌, ◌≤◌, ℕ, suc, refl, sym, ◌∙◌, ap, subst, arith}
use Rattle.cq_journal.specs.Journal.{IsFree, journal_half, region_len}
use Rattle.cq_journal.proofs.Steps.{below_next, next_step}
use Rattle.cq_journal.proofs.journal.Journal.free_region.Goals as goal

pub loop-half-init : goal.loop-half-init
loop-half-init g c = (0, (omega arith, λ k below free. omega (arith, below)))

pub loop-half-preserved : goal.loop-half-preserved
loop-half-preserved g c =
    let j = c.args.self.now in
    let len = region_len j in
    let low = journal_half j + journal_half j in
    let i = c.loop-half.invariant in
    let step : suc i.0 * len ≡ i.0 * len + len = next_step i.0 len in (
      suc i.0,
      (
        omega (arith, i.1.0, step),
        λ k below free. ⊎_elim (λ before. i.1.1 k before free)
            (λ here. c.is_free.ensures.not c.if-is_free.false (subst (λ place. IsFree j place) (ap (λ (n : ℕ). low + n * len) here ∙ sym i.1.0) free))
            (below_next k i.0 below),
      ),
    )
