-- A region that is free, and apart from the base's.
use Rattle.std.proofs.Common.{ℕ, List, subst, arith}
use Rattle.cq_journal.specs.Regions.{Each, AreApart}
use Rattle.cq_journal.proofs.journal.Journal.is_free_beside.Goals as goal

pub returns-then-is_apart : goal.returns-then-is_apart
returns-then-is_apart g c = λ apart.
    let j = c.args.self.now in
    record {
      free = c.is_free.ensures.free c.if-not-is_free.false;
      apart = subst (λ (ns : List ℕ). Each (λ n. AreApart j.len n c.args.place) ns) c.deref.ensures.value (c.are_apart.ensures.apart apart);
      apart_growing = c.is_apart.ensures.apart c.if-is_apart.true;
      few = omega (arith, c.len.ensures, c.if-len-ge-REGION_LIMIT.false);
    }
