-- More records were read.
use Rattle.std.proofs.Common.{◌≡◌, ℕ, List, [], ◌++◌, Bool, sym, ap, subst, arith, length-append}
use Rattle.std.specs.Prelude.{length, if◌then◌else◌}
use Rattle.cq_records.specs.Frames.{joined}
use Rattle.cq_kept_session.specs.within.Contents.{progress_stage}
use Rattle.cq_kept_session.proofs.Gathered.{joined_more, lines_more, read_more}
use Rattle.cq_kept_session.proofs.contents.ContentsReader.add.Goals as goal

pub returns : goal.returns
returns c = λ before more keeps s count_is text_is.
    let self = c.args.self in
    let p = c.in_ok-progress in
    let on = p.ensures s.lines s.begun in
    let was : self.lines.items ≡ (if self.keeps_lines then s.lines else []) = subst (λ (k : Bool). self.lines.items ≡ (if k then s.lines else [])) (sym s.keeps_are) s.kept in
    record {
      keeps_are = s.keeps_are;
      records_are = omega (arith, c.in_ok-records.ensures, s.records_are, count_is, length-append before more);
      bytes_are = omega (arith, c.in_ok-bytes.ensures, s.bytes_are, ap length text_is, ap length (joined_more before more), length-append (joined before) (joined more));
      lines = s.lines ++ p.more.now;
      begun = on.0;
      at = read_more before more c.args.text.now (progress_stage self.progress s.lines) (progress_stage p.progress (s.lines ++ p.more.now)) s.at text_is on.1;
      lines_are = omega (arith, c.in_ok-line_count.ensures, s.lines_are, c.lines_in.ensures, lines_more s.lines p.more.now);
      kept = subst (λ (k : Bool). c.in_ok-lines.lines.items ≡ (if k then s.lines ++ p.more.now else [])) s.keeps_are (c.in_ok-lines.ensures s.lines was);
    }
