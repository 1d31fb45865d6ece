-- A rewrite, and then a region gets its space.
use Rattle.std.proofs.Common.{List, ℕ, ◌∙◌, sym, subst}
use Rattle.cq_records.specs.Frames.{joined}
use Rattle.cq_kept_entries.specs.Pieces.{AreOf}
use Rattle.cq_kept_entries.proofs.Rewritten.{moments_then_rest, on_ok}
use Rattle.cq_kept_entries.proofs.kept.KeptEntries.prepare.Goals as goal

pub returns-clause-lengths : goal.returns-clause-lengths
returns-clause-lengths g c =
    let rests = c.take_space.ensures.rests in
    let lengths = c.in_ok-rewrite_if_due.ensures.lengths in
    on_ok c.take_space.result (rests.half ∙ lengths.0, rests.len ∙ lengths.1)

pub returns-clause-honest : goal.returns-clause-honest
returns-clause-honest g c = λ honest. c.rewrite_if_due.ensures.honest (c.take_space.ensures.rests.honest honest)

pub returns-clause-stands : goal.returns-clause-stands
returns-clause-stands g c =
    let rests = c.take_space.ensures.rests in
    on_ok c.take_space.result (λ honest all stands store. subst (λ (rs : List (List ℕ)). AreOf (joined rs) all) (sym rests.records) (c.in_ok-rewrite_if_due.ensures.stands (rests.honest honest) all stands store))

pub returns-clause-any_moment : goal.returns-clause-any_moment
returns-clause-any_moment g c = λ honest all stands store.
    let rests = c.take_space.ensures.rests in
    let before = rests.honest honest in
    let done = c.in_ok-rewrite_if_due.ensures in
    moments_then_rest c.args.self.now c.rewrite_if_due.new.self c.take_space.new.self done.lengths.0 done.lengths.1 rests honest all
    (c.rewrite_if_due.ensures.any_moment before all stands store) (done.stands before all stands store)
