-- By the place of the first line feed.
use Rattle.cq_lines.proofs.Cutting.{no_line_feed, cut_at}
use Rattle.cq_lines.proofs.line.cut_line.Goals as goal

pub returns-in_err-place : goal.returns-in_err-place
returns-in_err-place c = rw c.from_residual.ensures (no_line_feed c.args.bytes.now c.in_err-place.ensures)

pub returns : goal.returns
returns c =
    let first = c.in_ok-place.ensures in
    rw (c.split_at.ensures.front, c.split_at-2.ensures.back, c.split_at.ensures.back) (cut_at c.args.bytes.now c.in_ok-place.place first.0.high first.0.before first.1)
