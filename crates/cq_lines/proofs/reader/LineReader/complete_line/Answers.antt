-- A bad line is the fault that it was given.
use Rattle.std.proofs.Common.{◌≡◌, Result, Option, None, Err, refl, rules}
use Rattle.cq_lines.specs.Grammars.{IsLineFault, IsParsedAs, value_or_fault}
use Rattle.cq_lines.specs.Progress.{Progress}
use Rattle.cq_lines.specs.within.Steps.{line_completed, Follows}
use Rattle.cq_lines.specs.declared.fault.ScriptFault.{ScriptFault}
use Rattle.cq_lines.specs.declared.fault.ScriptFault.TheVariants.{BadLine, LineTooLong, TooManyLines, ReadFailed, WriteFailed, NoMemory}
use Rattle.cq_lines.specs.declared.parser.LineFault.{LineFault}
use Rattle.cq_lines.specs.declared.parser.LineFault.TheVariants as lines
use Rattle.cq_lines.proofs.reader.LineReader.complete_line.Goals as goal

fault-follows : {T : Type 0} (f : ScriptFault) (s : Progress T) (value : Option (Option T)) → IsLineFault f → value ≡ None → Follows (Err f) s (line_completed s (value_or_fault f value))
fault-follows (BadLine n) s value of_line is = rw is refl
fault-follows (LineTooLong n) s value of_line is = rw is refl
fault-follows TooManyLines s value of_line is = absurd of_line
fault-follows ReadFailed s value of_line is = absurd of_line
fault-follows WriteFailed s value of_line is = absurd of_line
fault-follows NoMemory s value of_line is = absurd of_line

bad_value : {T : Type 0} (parsed : Result (Option T) LineFault) (value : Option (Option T)) → parsed ≡ Err lines.Bad → IsParsedAs parsed value → value ≡ None
bad_value parsed value is same = rw is at same

pub returns-in-Err-Bad : goal.returns-in-Err-Bad
returns-in-Err-Bad g c = λ value same.
    let bad : c.args.parsed ≡ Err lines.Bad = search rules in
    fault-follows c.args.fault c.args.self.now value c.requires.of_line (bad_value c.args.parsed value bad same)
