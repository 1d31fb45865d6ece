-- By whether there is a partial line, and whether it is overlong.
use Rattle.std.proofs.Common.{rules, ◌≡◌, ◌+◌, ◌<◌, ◌≤◌, ap, ◌∙◌, length, arith}
use Rattle.std.proofs.lemmas.List.{nil_from_length}
use Rattle.cq_lines.specs.Progress.{overlong}
use Rattle.cq_lines.proofs.Cutting.{length-overlong}
use Rattle.cq_lines.proofs.Continuing.{end_between_lines, end_at_long_line, end_at_short_line}
use Rattle.cq_lines.proofs.reader.LineReader.finish.Goals as goal

pub returns-then-self : goal.returns-then-self
returns-then-self g c =
    let partial : c.args.self.now.partial ≡ overlong c.args.self.now.limits.line_len = search rules in
    let long = ap length partial ∙ length-overlong c.args.self.now.limits.line_len in
    let few : c.args.self.now.lines + 1 ≤ c.args.self.now.limits.line_count = search rules in
    let number : c.self.inside.lines + 1 ≡ c.args.self.now.lines + 1 = search rules in
    end_at_long_line g.P.LineParser.grammar c.complete_line.result c.args.self.now c.complete_line.new.self (c.self.inside.lines + 1) number few (omega (arith, long))
    (c.complete_line.ensures _ c.parse_overlong-parsed.ensures)

pub returns-then-is_empty : goal.returns-then-is_empty
returns-then-is_empty g c =
    let none : length c.args.self.now.partial ≡ 0 = search rules in
    end_between_lines g.P.LineParser.grammar c.args.self.now (nil_from_length c.args.self.now.partial none)

pub returns : goal.returns
returns g c =
    let some : 0 < length c.args.self.now.partial = search rules in
    let few : c.args.self.now.lines + 1 ≤ c.args.self.now.limits.line_count = search rules in
    let short : length c.args.self.now.partial ≤ c.args.self.now.limits.line_len = search rules in
    let number : c.self.inside.lines + 1 ≡ c.args.self.now.lines + 1 = search rules in
    let bytes : c.as_slice.result.now ≡ c.args.self.now.partial = search rules in
    end_at_short_line g.P.LineParser.grammar c.complete_line-2.result c.args.self.now c.complete_line-2.new.self (c.self.inside.lines + 1) number few some short
    (c.complete_line-2.ensures _ (rw bytes at c.parse-parsed.ensures))
