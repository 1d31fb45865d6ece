-- The journal has no record, and the session has run nothing.
use Rattle.std.proofs.Common.{◌≡◌, ◌∙◌, [], ◌++◌, sym, ap, subst}
use Rattle.std.specs.Prelude.{IsTrue}
use Rattle.cq_journal.specs.Journal.{IsJournal, journal_device, journal_half, journal_records, region_len}
use Rattle.cq_records.specs.Frames.{joined}
use Rattle.cq_kept_session.specs.Kept.{kept_records}
use Rattle.cq_kept_session.specs.Texts.{size_records}
use Rattle.cq_kept_session.proofs.kept.KeptSession.create.Goals as goal

pub name_size-requires : goal.name_size-requires
name_size-requires g c =
    let b = c.in_ok-session.ensures in
    let j = c.in_ok-journal.ensures in
    record {
      journal = subst IsJournal (sym b.journal) j.journal;
      none = λ _. ap joined (ap journal_records b.journal ∙ j.empty);
      run = λ _. b.run;
      ended = λ _. b.ended;
    }

pub returns-clause-named : goal.returns-clause-named
returns-clause-named g c =
    let b = c.in_ok-session.ensures in
    let none : kept_records c.in_ok-session.session ≡ [] = ap journal_records b.journal ∙ c.in_ok-journal.ensures.empty in
    c.in_ok-name_size.ensures.records ∙ (λ i. (none i) ++ size_records (b.size i))

pub returns-clause-lengths : goal.returns-clause-lengths
returns-clause-lengths g c =
    let b = c.in_ok-session.ensures in
    let j = c.in_ok-journal.ensures in
    let n = c.in_ok-name_size.ensures in
    (n.lengths.0 ∙ ap journal_half b.journal ∙ j.half, n.lengths.1 ∙ ap region_len b.journal ∙ j.len)

pub returns-clause-honest : goal.returns-clause-honest
returns-clause-honest g c = λ honest. c.in_ok-journal.ensures.honest (subst (λ j. IsTrue (g.D.Device.is_honest (journal_device j))) c.in_ok-session.ensures.journal (c.name_size.ensures.tries.honest honest))
