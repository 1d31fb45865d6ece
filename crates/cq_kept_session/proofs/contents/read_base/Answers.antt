-- Behind a base that has ended lines begin.
use Rattle.std.proofs.Common.{◌≡◌, ℕ, List, [], ◌∙◌, ap}
use Rattle.cq_kept_session.specs.Bases.{read, resumed, whole}
use Rattle.cq_kept_session.specs.within.Readers.{reader_stage}
use Rattle.cq_kept_session.proofs.Readings.{some_fed}
use Rattle.cq_kept_session.proofs.Stages.{read_lines}
use Rattle.cq_kept_session.proofs.contents.read_base.Goals as goal

pub returns-else-header-gt-BYTES_LIMIT : goal.returns-else-header-gt-BYTES_LIMIT
returns-else-header-gt-BYTES_LIMIT c =
    let reader = c.in_ok-reader.reader in
    let lines = c.in-Some.lines.now in
    let base = c.in_ok-header-in-Some in
    let P : Type 0 = read (reader_stage c.args.reader) c.args.bytes.now ≡ reader_stage reader in
    let Q : List ℕ → Type 0 = λ behind. read (reader_stage c.args.reader) c.args.bytes.now ≡ read (whole reader.header reader.store) behind in (
      tt,
      some_fed P Q (λ b. b.now) c.in_ok-reader.behind c.in-Some.lines c.in-Some.is c.in_ok-reader.ensures
          ∙ ap (λ stage. read stage lines) base.ensures ∙ read_lines (resumed base.header base.store) [] lines,
    )
