-- The store of what was read, or of nothing.
use Rattle.std.proofs.Common.{◌≡◌, [], subst, sym, ◌∙◌}
use Rattle.std.specs.Prelude.{IsTrue}
use Rattle.cq_journal.specs.Journal.{journal_device}
use Rattle.cq_records.specs.Frames.{joined}
use Rattle.cq_kept_entries.specs.Kept.{kept_bytes, kept_records}
use Rattle.cq_kept_entries.specs.Pieces.{AreOf, fresh, read, start}
use Rattle.cq_kept_entries.specs.within.Readers.{IsListed}
use Rattle.cq_kept_entries.proofs.Restored.{headed_stands, kept_begun, kept_there, moments_begun, moments_there, none_of, on_both, on_ok, ok_both, records_begun, records_there, some_of, store_begun, store_there}
use Rattle.std.proofs.lemmas.Result.{IfErr-weaker, err_from_is_err_and}
use Rattle.cq_kept_entries.specs.Faults.{IsOfCall}
use Rattle.cq_kept_entries.proofs.Reasons.{call_reason, read_reason}
use Rattle.cq_kept_entries.proofs.Refused.{if_bad}
use Rattle.cq_kept_entries.proofs.kept.KeptEntries.restore.Goals as goal

pub returns-in-Some-clause-kept : goal.returns-in-Some-clause-kept
returns-in-Some-clause-kept g c =
    let old = c.args.self.now in
    let mid = c.read_all.new.self in
    let rests = c.read_all.ensures.rests in
    let at = read start (kept_bytes old) in
    let got = λ (honest : IsTrue (g.D.Device.is_honest (journal_device mid.journal))). c.in_ok-store.ensures.made at (c.in_ok-reader.ensures.read honest) in
    let listed = λ (honest : IsTrue (g.D.Device.is_honest (journal_device mid.journal))). some_of (at.stage ≡ fresh) (λ s. IsListed at.stage s) c.in_ok-store.field-0 c.in-Some.store c.in-Some.is (got honest).1 in
    kept_there old mid c.in-Some.store c.read_all.ensures.journal rests (c.read_all.ensures.text ∙ c.requires.text) (λ honest. ((got honest).0, listed honest))

pub returns-in-Some-clause-records : goal.returns-in-Some-clause-records
returns-in-Some-clause-records g c =
    let old = c.args.self.now in
    let mid = c.read_all.new.self in
    let rests = c.read_all.ensures.rests in
    let at = read start (kept_bytes old) in
    let got = λ (honest : IsTrue (g.D.Device.is_honest (journal_device mid.journal))). c.in_ok-store.ensures.made at (c.in_ok-reader.ensures.read honest) in
    let listed = λ (honest : IsTrue (g.D.Device.is_honest (journal_device mid.journal))). some_of (at.stage ≡ fresh) (λ s. IsListed at.stage s) c.in_ok-store.field-0 c.in-Some.store c.in-Some.is (got honest).1 in
    λ honest. records_there old mid c.in-Some.store rests (listed honest)

pub returns-in-Some-clause-store : goal.returns-in-Some-clause-store
returns-in-Some-clause-store g c =
    let old = c.args.self.now in
    let mid = c.read_all.new.self in
    let rests = c.read_all.ensures.rests in
    let at = read start (kept_bytes old) in
    let got = λ (honest : IsTrue (g.D.Device.is_honest (journal_device mid.journal))). c.in_ok-store.ensures.made at (c.in_ok-reader.ensures.read honest) in
    let listed = λ (honest : IsTrue (g.D.Device.is_honest (journal_device mid.journal))). some_of (at.stage ≡ fresh) (λ s. IsListed at.stage s) c.in_ok-store.field-0 c.in-Some.store c.in-Some.is (got honest).1 in
    λ honest all stands. store_there old mid c.in-Some.store all rests (listed honest) stands

pub returns-in-Some-clause-any_moment : goal.returns-in-Some-clause-any_moment
returns-in-Some-clause-any_moment g c =
    let old = c.args.self.now in
    let mid = c.read_all.new.self in
    let rests = c.read_all.ensures.rests in
    let at = read start (kept_bytes old) in
    let got = λ (honest : IsTrue (g.D.Device.is_honest (journal_device mid.journal))). c.in_ok-store.ensures.made at (c.in_ok-reader.ensures.read honest) in
    let listed = λ (honest : IsTrue (g.D.Device.is_honest (journal_device mid.journal))). some_of (at.stage ≡ fresh) (λ s. IsListed at.stage s) c.in_ok-store.field-0 c.in-Some.store c.in-Some.is (got honest).1 in
    λ honest. moments_there old mid rests honest

pub returns-in-None-clause-kept : goal.returns-in-None-clause-kept
returns-in-None-clause-kept g c =
    let old = c.args.self.now in
    let mid = c.read_all.new.self in
    let new = c.begin_entries.new.self in
    let b = c.begin_entries.ensures in
    let rests = c.read_all.ensures.rests in
    let at = read start (kept_bytes old) in
    let got = λ (honest : IsTrue (g.D.Device.is_honest (journal_device new.journal))). c.in_ok-store.ensures.made at (c.in_ok-reader.ensures.read (b.honest honest)) in
    let is : IsTrue (g.D.Device.is_honest (journal_device new.journal)) → (at.piece ≡ []) × (at.stage ≡ fresh) = λ honest. ((got honest).0, none_of (at.stage ≡ fresh) (λ s. IsListed at.stage s) c.in_ok-store.field-0 c.in-None.is (got honest).1) in
    on_both c.begin_entries.result b.journal b.records (λ journal records. kept_begun old mid new rests is journal records (b.text ∙ c.read_all.ensures.text ∙ c.requires.text))

pub returns-in-None-clause-records : goal.returns-in-None-clause-records
returns-in-None-clause-records g c =
    let old = c.args.self.now in
    let mid = c.read_all.new.self in
    let new = c.begin_entries.new.self in
    let b = c.begin_entries.ensures in
    let rests = c.read_all.ensures.rests in
    let at = read start (kept_bytes old) in
    let got = λ (honest : IsTrue (g.D.Device.is_honest (journal_device new.journal))). c.in_ok-store.ensures.made at (c.in_ok-reader.ensures.read (b.honest honest)) in
    let is : IsTrue (g.D.Device.is_honest (journal_device new.journal)) → (at.piece ≡ []) × (at.stage ≡ fresh) = λ honest. ((got honest).0, none_of (at.stage ≡ fresh) (λ s. IsListed at.stage s) c.in_ok-store.field-0 c.in-None.is (got honest).1) in
    on_ok c.begin_entries.result b.records (λ records honest. records_begun old mid new rests (is honest).1 records)

pub returns-in-None-clause-stands : goal.returns-in-None-clause-stands
returns-in-None-clause-stands g c =
    let old = c.args.self.now in
    let mid = c.read_all.new.self in
    let new = c.begin_entries.new.self in
    let b = c.begin_entries.ensures in
    let rests = c.read_all.ensures.rests in
    let at = read start (kept_bytes old) in
    let got = λ (honest : IsTrue (g.D.Device.is_honest (journal_device new.journal))). c.in_ok-store.ensures.made at (c.in_ok-reader.ensures.read (b.honest honest)) in
    let is : IsTrue (g.D.Device.is_honest (journal_device new.journal)) → (at.piece ≡ []) × (at.stage ≡ fresh) = λ honest. ((got honest).0, none_of (at.stage ≡ fresh) (λ s. IsListed at.stage s) c.in_ok-store.field-0 c.in-None.is (got honest).1) in
    on_ok c.begin_entries.result b.records (λ records honest all stands. subst (λ rs. AreOf (joined rs) all) (sym (records_begun old mid new rests (is honest).1 records)) (headed_stands (kept_records old) all stands))

pub returns-in-None-clause-store : goal.returns-in-None-clause-store
returns-in-None-clause-store g c =
    let old = c.args.self.now in
    let mid = c.read_all.new.self in
    let new = c.begin_entries.new.self in
    let b = c.begin_entries.ensures in
    let rests = c.read_all.ensures.rests in
    let at = read start (kept_bytes old) in
    let got = λ (honest : IsTrue (g.D.Device.is_honest (journal_device new.journal))). c.in_ok-store.ensures.made at (c.in_ok-reader.ensures.read (b.honest honest)) in
    let is : IsTrue (g.D.Device.is_honest (journal_device new.journal)) → (at.piece ≡ []) × (at.stage ≡ fresh) = λ honest. ((got honest).0, none_of (at.stage ≡ fresh) (λ s. IsListed at.stage s) c.in_ok-store.field-0 c.in-None.is (got honest).1) in
    ok_both c.begin_entries.result b.store b.records (λ store empty records honest all stands. store_begun old mid new store all rests (is honest) records empty stands)

pub returns-in-None-clause-any_moment : goal.returns-in-None-clause-any_moment
returns-in-None-clause-any_moment g c =
    let old = c.args.self.now in
    let mid = c.read_all.new.self in
    let new = c.begin_entries.new.self in
    let b = c.begin_entries.ensures in
    let rests = c.read_all.ensures.rests in
    let at = read start (kept_bytes old) in
    let got = λ (honest : IsTrue (g.D.Device.is_honest (journal_device new.journal))). c.in_ok-store.ensures.made at (c.in_ok-reader.ensures.read (b.honest honest)) in
    let is : IsTrue (g.D.Device.is_honest (journal_device new.journal)) → (at.piece ≡ []) × (at.stage ≡ fresh) = λ honest. ((got honest).0, none_of (at.stage ≡ fresh) (λ s. IsListed at.stage s) c.in_ok-store.field-0 c.in-None.is (got honest).1) in
    on_ok c.begin_entries.result b.tries (λ tries honest. moments_begun old mid new rests (is honest).1 tries honest)

pub returns-in_err-reader-clause-refused : goal.returns-in_err-reader-clause-refused
returns-in_err-reader-clause-refused g c =
    let p = err_from_is_err_and c.from_residual.result c.from_residual.ensures.1 in
    rw (p.1, p.2) c.in_err-reader.ensures.refused

pub returns-in_err-store-clause-refused : goal.returns-in_err-store-clause-refused
returns-in_err-store-clause-refused g c =
    let p = err_from_is_err_and c.from_residual-in_err-store.result c.from_residual-in_err-store.ensures.1 in
    rw (p.1, p.2) (λ honest. read_reason _ _ c.in_err-store.field-0.0 (if_bad c.in_err-store.field-0.0
    (c.in_err-store.ensures.refused (read start (kept_bytes c.args.self.now)) (c.in_ok-reader.ensures.read honest)) (λ none some. none some.0 some.1.0)))

pub returns-in-None-clause-refused : goal.returns-in-None-clause-refused
returns-in-None-clause-refused g c = IfErr-weaker c.begin_entries.result IsOfCall _ (λ fault is honest. call_reason _ _ fault is) c.begin_entries.ensures.refused
