-- The base has ended, or not.
use Rattle.std.proofs.Common.{◌≡◌, ℕ, List}
use Rattle.cq_kept_session.specs.Bases.{read, whole}
use Rattle.cq_kept_session.specs.within.Readers.{reader_stage}
use Rattle.cq_kept_session.proofs.Readings.{if_ok, none_fed, read_on, some_fed}
use Rattle.cq_kept_session.proofs.kept.KeptSession.run_base.Goals as goal

pub returns-in-None-clause-run : goal.returns-in-None-clause-run
returns-in-None-clause-run g c =
    let reader = c.in_ok-reader.reader in
    let P : Type 0 = read (reader_stage c.args.reader) c.args.bytes.now ≡ reader_stage reader in
    let Q : List ℕ → Type 0 = λ behind. read (reader_stage c.args.reader) c.args.bytes.now ≡ read (whole reader.header reader.store) behind in
    none_fed P Q (λ b. b.now) c.in_ok-reader.behind c.in-None.is c.in_ok-reader.ensures

pub returns-in_ok-begin_behind-in-Some-clause-run : goal.returns-in_ok-begin_behind-in-Some-clause-run
returns-in_ok-begin_behind-in-Some-clause-run g c =
    let size = c.args.self.now.size in
    let r = c.in_ok-begin_behind-in-Some.ensures.run in
    let reader = c.in_ok-reader.reader in
    let lines = c.in-Some.lines.now in
    let P : Type 0 = read (reader_stage c.args.reader) c.args.bytes.now ≡ reader_stage reader in
    let Q : List ℕ → Type 0 = λ behind. read (reader_stage c.args.reader) c.args.bytes.now ≡ read (whole reader.header reader.store) behind in
    if_ok c.run_lines.result (c.run_lines.ensures.run size r.start r.lines r.fits r.run)
    (λ next got. read_on size (read (reader_stage c.args.reader) c.args.bytes.now) (whole reader.header reader.store) lines next c.begin_behind.new.self.session c.run_lines.new.self.session r
    (some_fed P Q (λ b. b.now) c.in_ok-reader.behind c.in-Some.lines c.in-Some.is c.in_ok-reader.ensures) got)
