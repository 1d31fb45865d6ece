-- The text of lines, told by what the run of their events gives and refuses.
use Rattle.std.proofs.Common.{◌≡◌, ℕ, ◌+◌, ◌<◌, ◌≤◌, ◌==◌, cond, false, List, [], ◌∷◌, ◌++◌, Option, None, Some, Result, Ok, Err, refl, sym, ap, ◌∙◌, arith}
use borrow.Author.Tests.{ne_eqb, eq-eqb}
use Rattle.cq_chain.specs.declared.fault.WorldFault.{WorldFault}
use Rattle.cq_chain.specs.declared.message.Answer.{Answer}
use Rattle.cq_events.specs.Events.{refusal_of, after}
use Rattle.cq_events.specs.Runs.{numbered, given_if, given_from, refused_from}
use Rattle.cq_events.specs.Worlds.{World, first_world}
use Rattle.cq_events.specs.declared.event.Event.{Event}
use Rattle.cq_script.specs.Laws.{of_number, outcome_text, line_by_run, number_after, told_by_run, TextIsOfTheRun}
use Rattle.cq_script.specs.Output.{event_text, events_in, events_of, line_text, after_line, output, text_from, text_of}
use Rattle.cq_script.specs.declared.fault.LineRefusal.{LineRefusal}
use Rattle.cq_script.specs.declared.script_line.ScriptLine.{ScriptLine}

-- ---- numbers

-- another number is looked for behind what is numbered
number_skipped : {A : Type 0} (j n : ℕ) (found : Option A) (later : List (ℕ × A)) → n < j → of_number j (numbered n found ++ later) ≡ of_number j later
number_skipped j n None later less = refl
number_skipped j n (Some a) later less =
    let other : (n == j) ≡ false = ne_eqb n j (λ e. absurd (omega (arith, e, less))) in
    ap (λ t. cond t (Some a) (of_number j later)) other

-- what comes later has no earlier number
number_before : {A : Type 0} (j n : ℕ) (found : Option A) (later : List (ℕ × A)) → j < n → of_number j later ≡ None → of_number j (numbered n found ++ later) ≡ None
number_before j n None later less none = none
number_before j n (Some a) later less none =
    let other : (n == j) ≡ false = ne_eqb n j (λ e. absurd (omega (arith, e, less))) in
    ap (λ t. cond t (Some a) (of_number j later)) other ∙ none

number_here : {A : Type 0} (n : ℕ) (found : Option A) (later : List (ℕ × A)) → of_number n later ≡ None → of_number n (numbered n found ++ later) ≡ found
number_here n None later none = none
number_here n (Some a) later none = ap (λ t. cond t (Some a) (of_number n later)) (eq-eqb n n refl)

given-later : (j n : ℕ) (w : World) (events : List Event) → j < n → of_number j (given_from n w events) ≡ None
unfolding given_from
given-later j n w [] less = refl
given-later j n w (e ∷ es) less =
    number_before j n (given_if w e (refusal_of w e)) (given_from (n + 1) (after w e) es) less (given-later j (n + 1) (after w e) es (omega (arith, less)))

refused-later : (j n : ℕ) (w : World) (events : List Event) → j < n → of_number j (refused_from n w events) ≡ None
unfolding refused_from
refused-later j n w [] less = refl
refused-later j n w (e ∷ es) less =
    number_before j n (refusal_of w e) (refused_from (n + 1) (after w e) es) less (refused-later j (n + 1) (after w e) es (omega (arith, less)))

-- ---- lines

-- the lists have, from that number on, what these events give and refuse
record IsOf (n : ℕ) (given : List (ℕ × Answer)) (refused : List (ℕ × WorldFault)) (w : World) (events : List Event) : Type 0 where
  gives : (j : ℕ) → n ≤ j → of_number j given ≡ of_number j (given_from n w events)
  refuses : (j : ℕ) → n ≤ j → of_number j refused ≡ of_number j (refused_from n w events)

given_at : (n : ℕ) (given : List (ℕ × Answer)) (refused : List (ℕ × WorldFault)) (w : World) (e : Event) (es : List Event) → IsOf n given refused w (e ∷ es)
    → of_number n given ≡ given_if w e (refusal_of w e)
unfolding given_from
given_at n given refused w e es is =
    is.gives n (omega arith) ∙ number_here n (given_if w e (refusal_of w e)) (given_from (n + 1) (after w e) es) (given-later n (n + 1) (after w e) es (omega arith))

refused_at : (n : ℕ) (given : List (ℕ × Answer)) (refused : List (ℕ × WorldFault)) (w : World) (e : Event) (es : List Event) → IsOf n given refused w (e ∷ es)
    → of_number n refused ≡ refusal_of w e
unfolding refused_from
refused_at n given refused w e es is =
    is.refuses n (omega arith) ∙ number_here n (refusal_of w e) (refused_from (n + 1) (after w e) es) (refused-later n (n + 1) (after w e) es (omega arith))

IsOf-next : (n : ℕ) (given : List (ℕ × Answer)) (refused : List (ℕ × WorldFault)) (w : World) (e : Event) (es : List Event) → IsOf n given refused w (e ∷ es)
    → IsOf (n + 1) given refused (after w e) es
unfolding given_from refused_from
IsOf-next n given refused w e es is = record {
  gives = λ j l. is.gives j (omega (arith, l)) ∙ number_skipped j n (given_if w e (refusal_of w e)) (given_from (n + 1) (after w e) es) (omega (arith, l));
  refuses = λ j l. is.refuses j (omega (arith, l)) ∙ number_skipped j n (refusal_of w e) (refused_from (n + 1) (after w e) es) (omega (arith, l));
}

-- an event's line, by its refusal
same_outcome : (line : ℕ) (w : World) (e : Event) (refusal : Option WorldFault) → event_text line w e refusal ≡ outcome_text line (given_if w e refusal) refusal
same_outcome line w e None = refl
same_outcome line w e (Some fault) = refl

-- a line, and those behind it
told_line : (n line : ℕ) (given : List (ℕ × Answer)) (refused : List (ℕ × WorldFault)) (w : World) (event : Result Event LineRefusal) (lines : List ScriptLine)
    → ((m : ℕ) (v : World) → IsOf m given refused v (events_of lines) → text_from v lines ≡ told_by_run m given refused lines)
    → IsOf n given refused w (events_in event ++ events_of lines)
    → line_text line w event ++ text_from (after_line w event) lines ≡ line_by_run n given refused line event ++ told_by_run (number_after n event) given refused lines
told_line n line given refused w (Ok e) lines go is =
    let here : event_text line w e (refusal_of w e) ≡ outcome_text line (of_number n given) (of_number n refused) =
    same_outcome line w e (refusal_of w e) ∙ sym (ap (λ g. outcome_text line g (of_number n refused)) (given_at n given refused w e (events_of lines) is)
    ∙ ap (λ r. outcome_text line (given_if w e (refusal_of w e)) r) (refused_at n given refused w e (events_of lines) is)) in
    ap (λ text. text ++ text_from (after w e) lines) here
    ∙ ap (λ text. outcome_text line (of_number n given) (of_number n refused) ++ text) (go (n + 1) (after w e) (IsOf-next n given refused w e (events_of lines) is))
told_line n line given refused w (Err fault) lines go is = ap (λ text. line_text line w (Err fault) ++ text) (go n w is)

told_lines : (n : ℕ) (given : List (ℕ × Answer)) (refused : List (ℕ × WorldFault)) (w : World) (lines : List ScriptLine)
    → IsOf n given refused w (events_of lines) → text_from w lines ≡ told_by_run n given refused lines
unfolding text_from output told_by_run events_of
told_lines n given refused w [] is = refl
told_lines n given refused w (line ∷ lines) is =
    told_line n line.number given refused w line.event lines (λ m v. told_lines m given refused v lines) is

pub text_is_of_the_run : (size : ℕ) (lines : List ScriptLine) → TextIsOfTheRun size lines
unfolding TextIsOfTheRun text_of
text_is_of_the_run size lines =
    let first = first_world size in
    let events = events_of lines in
    told_lines 1 (given_from 1 first events) (refused_from 1 first events) first lines (record { gives = λ j l. refl; refuses = λ j l. refl })
