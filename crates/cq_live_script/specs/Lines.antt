-- The live script that bytes stand for, and what is read of it.
use Rattle.std.specs.Prelude.{ℕ, List, Option, None, Result}
use Rattle.std.specs.Global.{Vec}
use Rattle.cq_lines.specs.Grammars.{Grammar, Parsed, parse_text}
use Rattle.cq_lines.specs.Texts.{ReadsText}
use Rattle.cq_lines.specs.declared.fault.ScriptFault.{ScriptFault}
use Rattle.cq_lines.specs.declared.limits.Limits.{Limits}
use Rattle.cq_lines.specs.declared.limits.TheConstants.{LINE_LIMIT, LINES_LIMIT}
use Rattle.cq_live_plan.specs.declared.step.LiveStep.{LiveStep}
use Rattle.cq_live_script.specs.Line.{step_line}

-- the steps of lines; a line that is bad or overlong ends the live script
abbrev pub step_grammar : Grammar LiveStep
step_grammar = record { line_value = λ n line. step_line line; overlong_value = λ n. None }

-- a line has at most 2 MiB, and a live script at most a million of them
abbrev pub live_limits : Limits
live_limits = record { line_len = LINE_LIMIT; line_count = LINES_LIMIT }

-- the live script that bytes stand for
abbrev pub live_of : List ℕ → Parsed LiveStep
live_of bytes = parse_text step_grammar live_limits bytes

-- `input` was read, and `left` is what the reader has left, if that is known.
abbrev pub ReadsLive : Result (Vec LiveStep) ScriptFault → List ℕ → Option (List ℕ) → Type 0
ReadsLive result input left = ReadsText step_grammar live_limits result input left
