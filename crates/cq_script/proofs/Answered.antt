-- What a run of lines is where they are a script's, and where they are a session's.
use Rattle.std.proofs.Common.{◌≡◌, ℕ, ◌≤◌, length, List, ◌++◌, Option, None, Some, IfSome, Result, Ok, Err, inl, inr, refl, sym, ap, ◌∙◌, append-nil, arith}
use Rattle.cq_base.specs.Relations.{IsPrefix}
use Rattle.cq_lines.specs.Lines.{ended_part}
use Rattle.cq_lines.specs.Grammars.{Parsed, parse_text}
use Rattle.cq_lines.specs.declared.fault.ScriptFault.{ScriptFault}
use Rattle.cq_lines.specs.declared.fault.ScriptFault.TheVariants.{BadLine, LineTooLong, TooManyLines, ReadFailed, WriteFailed, NoMemory}
use Rattle.cq_lines.specs.declared.text.TheConstants.{BYTES_LIMIT}
use Rattle.cq_lines.specs.Progress.{Progress}
use Rattle.cq_lines.proofs.Sizes.{strict_size}
use Rattle.cq_lines.proofs.Complete.{complete_ends, first_of_all, all_of_them}
use Rattle.cq_world.specs.declared.sim.Sim.{Sim}
use Rattle.cq_script.specs.declared.script_line.ScriptLine.{ScriptLine}
use Rattle.cq_script.specs.Lines.{script_grammar, script_limits, session_grammar, session_lines}
use Rattle.cq_script.specs.Output.{text_of}
use Rattle.cq_script.specs.Replays.{Replays, IsToldOfOneObject, WritesScript}
use Rattle.cq_script.specs.Sessions.{Sessions, IsSessionPrefix, IsSessionEndedPrefix, SessionHeadlines, session_text}
use Rattle.cq_script.specs.within.Played.{FailsAtFault, CountsAllBytes, RunsText, IsPlayed, IsPrefixOfText, IsPrefixOfEnded, session_limits}
use Rattle.cq_script.proofs.Played.{ended_text, prefix_of_lines, lines_of_one_object}

-- ---- scripts

-- all bytes of a script can be counted
countable_bytes : (size : ℕ) (input output : List ℕ) (left : Option (List ℕ)) → CountsAllBytes script_grammar script_limits size input left output → ⊥
countable_bytes size input output left all =
    let few = strict_size script_grammar script_limits (λ n. refl) input all.yet in
    omega (arith, few, all.many)

pub replays_of : (size : ℕ) (r : Result (Unit {0}) ScriptFault) (input : List ℕ) (left : Option (List ℕ)) (output : List ℕ) → RunsText script_grammar script_limits size r input left output
    → Replays size r input left output
replays_of size (Ok _) input left output runs = runs
replays_of size (Err (BadLine n)) input left output runs = runs.whole
replays_of size (Err (LineTooLong n)) input left output runs = runs.whole
replays_of size (Err TooManyLines) input left output (inl fails) = fails.whole
replays_of size (Err TooManyLines) input left output (inr all) = absurd (countable_bytes size input output left all)
replays_of size (Err ReadFailed) input left output runs = runs
replays_of size (Err WriteFailed) input left output runs = runs
replays_of size (Err NoMemory) input left output runs = runs

-- ---- sessions

-- the lines that are run are the first ones of the session
first_lines : (bytes : List ℕ) → IsPrefix (parse_text session_grammar session_limits bytes).values (session_lines bytes)
unfolding session_lines
first_lines bytes = first_of_all session_grammar session_limits (λ n line. (_, refl)) (λ n. (_, refl)) bytes

-- and all of them, unless they are too many
all_lines : (bytes : List ℕ) → (parse_text session_grammar session_limits bytes).fault ≡ None → session_lines bytes ≡ (parse_text session_grammar session_limits bytes).values
unfolding session_lines
all_lines bytes none = all_of_them session_grammar session_limits (λ n line. (_, refl)) (λ n. (_, refl)) bytes none

prefix_of_session : (size : ℕ) (bytes output : List ℕ) → IsPrefix output (text_of size (parse_text session_grammar session_limits bytes).values) → IsPrefix output (session_text size bytes)
prefix_of_session size bytes output part = prefix_of_lines size _ (session_lines bytes) output (first_lines bytes) part

text_of_session : (size : ℕ) (bytes output : List ℕ) → WritesScript size (parse_text session_grammar session_limits bytes) None output → output ≡ session_text size bytes
text_of_session size bytes output writes = writes.text_is ∙ ap (text_of size) (sym (all_lines bytes writes.fault_is))

session_prefix : (size : ℕ) (input : List ℕ) (left : Option (List ℕ)) (output : List ℕ) → IsPrefixOfText session_grammar session_limits size input left output
    → IsSessionPrefix size input left output
session_prefix size input None output prefix = tt
session_prefix size input (Some more) output prefix = prefix_of_session size (input ++ more) output prefix

pub session_ended_prefix : (size : ℕ) (input output : List ℕ) → IsPrefixOfEnded session_grammar session_limits size input output → IsSessionEndedPrefix size input output
session_ended_prefix size input output prefix = prefix_of_session size (ended_part input) output prefix

-- what was written of lines that have ended is their text
pub written_of_ended : (size : ℕ) (input written : List ℕ) (progress : Progress ScriptLine) (sim : Sim) → IsPlayed session_grammar session_limits size input progress sim written → written ≡ session_text size (ended_part input)
written_of_ended size input written progress sim played = text_of_session size (ended_part input) written (ended_text session_grammar session_limits size input written progress sim played)

-- no line of a session is a fault
ends_session : (size : ℕ) (f : ScriptFault) (input output : List ℕ) (left : Option (List ℕ)) → FailsAtFault session_grammar session_limits size f input left output
    → (f ≡ TooManyLines) × (BYTES_LIMIT ≤ length input)
ends_session size f input output left fails =
    complete_ends session_grammar session_limits (λ n line. (_, refl)) (λ n. (_, refl)) input f fails.here.fault_is

pub sessions_of : (size : ℕ) (r : Result (Unit {0}) ScriptFault) (input : List ℕ) (left : Option (List ℕ)) (output : List ℕ) → RunsText session_grammar session_limits size r input left output
    → IsPrefixOfText session_grammar session_limits size input left output → Sessions size r input left output
sessions_of size (Ok _) input left output runs prefix = (runs.0, text_of_session size input output runs.1)
sessions_of size (Err (BadLine n)) input left output runs prefix =
    let never = (ends_session size (BadLine n) input output left runs).0 in
    cc
sessions_of size (Err (LineTooLong n)) input left output runs prefix =
    let never = (ends_session size (LineTooLong n) input output left runs).0 in
    cc
sessions_of size (Err TooManyLines) input left output (inl fails) prefix = (session_prefix size input left output prefix, (ends_session size TooManyLines input output left fails).1)
sessions_of size (Err TooManyLines) input left output (inr all) prefix = (session_prefix size input left output prefix, all.many)
sessions_of size (Err ReadFailed) input left output runs prefix = text_of_session size (ended_part input) output runs.0
sessions_of size (Err WriteFailed) input left output runs prefix = session_prefix size input left output runs
sessions_of size (Err NoMemory) input left output runs prefix = session_prefix size input left output runs

-- what a session writes is told of one object
pub session_headlines : (size : ℕ) (input : List ℕ) (left : Option (List ℕ)) (output : List ℕ) → 1 ≤ size → IsPrefixOfText session_grammar session_limits size input left output
    → SessionHeadlines size input left output
session_headlines size input None output some prefix = tt
session_headlines size input (Some more) output some prefix = lines_of_one_object size (session_lines (input ++ more)) output some (prefix_of_session size (input ++ more) output prefix)

-- so is what a script writes
pub script_headlines : (size : ℕ) (input : List ℕ) (left : Option (List ℕ)) (output : List ℕ) → 1 ≤ size → IsPrefixOfText script_grammar script_limits size input left output
    → IfSome left (λ more. IsToldOfOneObject size (parse_text script_grammar script_limits (input ++ more)).values output)
script_headlines size input None output some prefix = tt
script_headlines size input (Some more) output some prefix = lines_of_one_object size (parse_text script_grammar script_limits (input ++ more)).values output some prefix

-- the lines that were run are those that have ended
pub lines_of_ended : (size : ℕ) (input written : List ℕ) (progress : Progress ScriptLine) (sim : Sim) (played : IsPlayed session_grammar session_limits size input progress sim written) → session_lines (ended_part input) ≡ played.lines
lines_of_ended size input written progress sim played =
    let ended = played.read.ended ∙ ap (λ lines. record { values = lines; fault = None }) (ap (λ xs. played.lines ++ xs) played.none_left ∙ append-nil played.lines) in
    all_lines (ended_part input) (ap (λ (p : Parsed ScriptLine). p.fault) ended) ∙ ap (λ (p : Parsed ScriptLine). p.values) ended
