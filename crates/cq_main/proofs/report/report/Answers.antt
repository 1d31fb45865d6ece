-- What is told is the fault's line, with or without the number of a line.
use Rattle.std.proofs.Common.{◌∙◌, ap, subst, sym}
use Rattle.std.specs.Io.KnownBytes.{Appends}
use Rattle.cq_lines.specs.Checks.{inner_of, is_failed}
use Rattle.cq_main.specs.Statuses.{fault_text}
use Rattle.cq_main.proofs.Told.{is_told}
use Rattle.cq_main.proofs.report.report.Goals as goal
use Rattle.cq_main.proofs.report.report.Goals.{in-Some, in-None}

pub returns : goal.returns
returns g c = (
  c.status_of.ensures,
  λ kept.
      let fault = c.args.fault.now in
      let old = g.E.Write.contents (inner_of c.args.errors.now) in
      elim c.match-line_of.branch [
        | in-Some w ↦
            let text = is_told fault _ _ _ c.code-code.ensures c.name-name.ensures (sym c.line_of.ensures ∙ w.in-Some.is) in
            let bytes = w.print.ensures.bytes (ap is_failed (sym w.errors-is) ∙ kept) in
            subst (λ errors. Appends old (g.E.Write.contents (inner_of errors)) (fault_text fault)) (sym w.errors-is)
            (subst (λ told. Appends old (g.E.Write.contents (inner_of w.print.new.self)) told) text bytes)
        | in-None w ↦
            let text = is_told fault _ _ _ c.code-code.ensures c.name-name.ensures (sym c.line_of.ensures ∙ w.in-None.is) in
            let bytes = w.print-in-None.ensures.bytes (ap is_failed (sym w.errors-is) ∙ kept) in
            subst (λ errors. Appends old (g.E.Write.contents (inner_of errors)) (fault_text fault)) (sym w.errors-is)
            (subst (λ told. Appends old (g.E.Write.contents (inner_of w.print-in-None.new.self)) told) text bytes)
      ],
)
