-- What was read so far is all.
use Rattle.std.proofs.Common.{refl, sym, subst}
use Rattle.cq_kept_session.specs.Contents.{IsOf}
use Rattle.cq_kept_session.proofs.contents.ContentsReader.finish.Goals as goal

pub returns : goal.returns
returns c = λ all keeps s. record {
  regions_are = refl;
  records_are = s.records_are;
  bytes_are = s.bytes_are;
  lines = s.lines;
  is = subst (λ stage. IsOf stage c.in_ok-base.base s.lines) (sym s.at) (c.in_ok-base.ensures s.lines s.begun);
  lines_are = s.lines_are;
  kept = s.kept;
}
