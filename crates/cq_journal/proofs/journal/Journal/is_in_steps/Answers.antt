-- One of them doesn't lie so.
use Rattle.std.proofs.Common.{ℕ, ◌+◌, List, sym, subst}
use Rattle.cq_journal.specs.Journal.{journal_half, region_len}
use Rattle.cq_journal.specs.Regions.{Each, IsInSteps}
use Rattle.cq_journal.proofs.Regions.{each_left, last_of}
use Rattle.cq_journal.proofs.journal.Journal.is_in_steps.Goals as goal

pub returns-then-not-are_in_steps-clause-not : goal.returns-then-not-are_in_steps-clause-not
returns-then-not-are_in_steps-clause-not g c = λ is some each.
    let j = c.args.self.now in
    let P : ℕ → Type 0 = IsInSteps (region_len j) (journal_half j + journal_half j) in
    c.are_in_steps.ensures.not c.if-not-are_in_steps.true (subst (λ (ns : List ℕ). Each P ns) (sym c.deref.ensures.value) (each_left P j.closed.items j.growing each))

pub returns-clause-not : goal.returns-clause-not
returns-clause-not g c = λ is some each.
    let j = c.args.self.now in
    let P : ℕ → Type 0 = IsInSteps (region_len j) (journal_half j + journal_half j) in
    c.are_in_steps-2.ensures.not is (last_of P j.closed.items j.growing each, tt)
