-- What is told is the fault's line.
use Rattle.std.proofs.Common.{refl, subst}
use Rattle.std.specs.Io.KnownBytes.{Appends}
use Rattle.cq_lines.specs.Checks.{inner_of}
use Rattle.cq_main.proofs.ProcessTold.{is_process_told}
use Rattle.cq_main.proofs.process_fault.report_process.Goals as goal

pub returns : goal.returns
returns g c = (
  refl,
  λ kept.
      let text = is_process_told c.args.fault.now _ _ c.code_of-code.ensures c.name_of-name.ensures in
      subst (λ told. Appends (g.E.Write.contents (inner_of c.args.errors.now)) (g.E.Write.contents (inner_of c.print.new.self)) told) text (c.print.ensures.bytes kept),
)
