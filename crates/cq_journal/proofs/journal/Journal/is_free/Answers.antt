-- A region that counts is in its way.
use Rattle.std.proofs.Common.{ℕ, List, sym, subst}
use Rattle.cq_journal.specs.Regions.{Each, AreApart}
use Rattle.cq_journal.proofs.Regions.{each_left, each_right}
use Rattle.cq_journal.proofs.journal.Journal.is_free.Goals as goal

pub returns-then-is_apart-clause-not : goal.returns-then-is_apart-clause-not
returns-then-is_apart-clause-not g c = λ fails free.
    let j = c.args.self.now in
    c.are_apart.ensures.not fails (subst (λ (ns : List ℕ). Each (λ n. AreApart j.len n c.args.place) ns) (sym c.deref.ensures.value) (each_left (λ n. AreApart j.len n c.args.place) j.closed.items j.growing free.apart))

pub returns-else-is_apart-clause-not : goal.returns-else-is_apart-clause-not
returns-else-is_apart-clause-not g c = λ fails free.
    let j = c.args.self.now in
    c.is_apart.ensures.not fails (each_right (λ n. AreApart j.len n c.args.place) j.closed.items j.growing free.apart)
