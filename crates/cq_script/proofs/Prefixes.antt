-- The text of some lines is a prefix of the text of more.
use Rattle.std.proofs.Common.{◌≡◌, ℕ, List, [], ◌∷◌, ◌++◌, Bool, Result, Ok, Err, refl, sym, ap, ◌∙◌, append_assoc, append-nil}
use Rattle.cq_lines.specs.declared.fault.ScriptFault.{ScriptFault}
use Rattle.cq_lines.specs.declared.fault.ScriptFault.TheVariants.{BadLine, LineTooLong, TooManyLines, ReadFailed, WriteFailed, NoMemory}
use Rattle.cq_script.specs.declared.script_line.ScriptLine.{ScriptLine}
use Rattle.cq_script.specs.Output.{after_line, output, text_from, text_of}
use Rattle.cq_events.specs.Worlds.{World, first_world}
use Rattle.cq_base.specs.Relations.{IsPrefix}
use Rattle.cq_script.specs.Runs.{WritesPrefix, EndsWriting}

text_from-append : (w : World) (xs ys : List ScriptLine) → IsPrefix (text_from w xs) (text_from w (xs ++ ys))
unfolding text_from
text_from-append w [] ys = (text_from w ys, refl)
text_from-append w (x ∷ xs) ys =
    let later = text_from-append (after_line w x.event) xs ys in
    (later.0, ap (λ text. output w x ++ text) later.1 ∙ sym (append_assoc (output w x) (text_from (after_line w x.event) xs) later.0))

pub text_of-append : (size : ℕ) (xs ys : List ScriptLine) → IsPrefix (text_of size xs) (text_of size (xs ++ ys))
unfolding text_of
text_of-append size xs ys = text_from-append (first_world size) xs ys

-- the text of a line was written too
pub text_written : (whole written text prefix later : List ℕ) → whole ≡ written ++ (text ++ later) → prefix ≡ text → whole ≡ (written ++ prefix) ++ later
text_written whole written text prefix later is all =
    is ∙ ap (λ t. written ++ (t ++ later)) (sym all) ∙ sym (append_assoc written prefix later)

prefix_written : (whole written text prefix later : List ℕ) → whole ≡ written ++ (text ++ later) → IsPrefix prefix text → IsPrefix (written ++ prefix) whole
prefix_written whole written text prefix later is part =
    (part.0 ++ later, is ∙ ap (λ t. written ++ (t ++ later)) part.1 ∙ ap (λ t. written ++ t) (append_assoc prefix part.0 later) ∙ sym (append_assoc written prefix (part.0 ++ later)))

-- a prefix of the text of a line was written
pub fault_written : (f : ScriptFault) (whole written text prefix later : List ℕ) → whole ≡ written ++ (text ++ later)
    → WritesPrefix (Err f) text prefix → WritesPrefix (Err f) whole (written ++ prefix)
fault_written (BadLine n) whole written text prefix later is part = absurd part
fault_written (LineTooLong n) whole written text prefix later is part = absurd part
fault_written TooManyLines whole written text prefix later is part = absurd part
fault_written ReadFailed whole written text prefix later is part = absurd part
fault_written WriteFailed whole written text prefix later is part = prefix_written whole written text prefix later is part
fault_written NoMemory whole written text prefix later is part = prefix_written whole written text prefix later is part

-- the whole text was written before the writing ended
pub all_written : (r : Result (Unit {0}) ScriptFault) (failed : Bool) (whole written : List ℕ) → EndsWriting r failed → written ≡ whole → WritesPrefix r whole written
all_written (Ok _) failed whole written ends all = all
all_written (Err (BadLine n)) failed whole written ends all = absurd ends
all_written (Err (LineTooLong n)) failed whole written ends all = absurd ends
all_written (Err TooManyLines) failed whole written ends all = absurd ends
all_written (Err ReadFailed) failed whole written ends all = absurd ends
all_written (Err WriteFailed) failed whole written ends all = ([], sym all ∙ sym (append-nil written))
all_written (Err NoMemory) failed whole written ends all = ([], sym all ∙ sym (append-nil written))

-- memory ran out behind what was written
pub fault_now : (whole written text prefix later : List ℕ) → whole ≡ written ++ (text ++ later) → prefix ≡ text → WritesPrefix (Err NoMemory) whole (written ++ prefix)
fault_now whole written text prefix later is all = (later, text_written whole written text prefix later is all)

-- no writing ends as a read that failed
pub no_read_part : (f : ScriptFault) (r : Result (Unit {0}) ScriptFault) (text prefix : List ℕ) → r ≡ Err f → WritesPrefix (Err f) text prefix → ¬ (r ≡ Err ReadFailed)
no_read_part (BadLine n) r text prefix so part = absurd part
no_read_part (LineTooLong n) r text prefix so part = absurd part
no_read_part TooManyLines r text prefix so part = absurd part
no_read_part ReadFailed r text prefix so part = absurd part
no_read_part WriteFailed r text prefix so part = λ is. let never = sym so ∙ is in cc
no_read_part NoMemory r text prefix so part = λ is. let never = sym so ∙ is in cc

pub no_read_end : (r : Result (Unit {0}) ScriptFault) (failed : Bool) → EndsWriting r failed → ¬ (r ≡ Err ReadFailed)
no_read_end (Ok _) failed ends = λ is. cc
no_read_end (Err (BadLine n)) failed ends = absurd ends
no_read_end (Err (LineTooLong n)) failed ends = absurd ends
no_read_end (Err TooManyLines) failed ends = absurd ends
no_read_end (Err ReadFailed) failed ends = absurd ends
no_read_end (Err WriteFailed) failed ends = λ is. cc
no_read_end (Err NoMemory) failed ends = λ is. cc
