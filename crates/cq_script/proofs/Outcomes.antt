-- What comes of a line, by what a step of the world gave.
use Rattle.std.proofs.Common.{◌≡◌, ℕ, ◌+◌, ◌<◌, ◌≤◌, List, [], ◌∷◌, ◌++◌, length, drop, get_or, Option, None, Some, Result, Ok, Err, OnOk, sym, ap, ◌∙◌, subst, append_assoc, append-nil}
use Rattle.std.proofs.lemmas.List.{drop_more, drop_all}
use Rattle.cq_chain.specs.declared.fault.WorldFault.{WorldFault}
use Rattle.cq_chain.specs.declared.message.Answer.{Answer}
use Rattle.cq_chain.specs.Faults.{code_of, name_of}
use Rattle.cq_answers.specs.Answers.{refused_text}
use Rattle.cq_script.specs.Output.{after_line, event_text, given_text, output, text_from}
use Rattle.cq_script.specs.declared.script_line.ScriptLine.{ScriptLine}
use Rattle.cq_script.specs.within.Played.{after_lines}
use Rattle.cq_events.specs.Events.{refusal_of, given_by, next, after}
use Rattle.cq_world.specs.Stands.{StandsFor}
use Rattle.cq_events.specs.Worlds.{World}
use Rattle.cq_events.specs.declared.event.Event.{Event}
use Rattle.cq_world.specs.declared.sim.Sim.{Sim}
use Rattle.cq_world.proofs.OfSim.RunSteps.{after-done, after-refused}

-- nothing refused the event
pub told_given : (n : ℕ) (w : World) (event : Event) (given : Option Answer) (sim : Sim) (text : List ℕ) → refusal_of w event ≡ None → given ≡ given_by w event
    → StandsFor sim (next w event) → text ≡ given_text n given → (text ≡ event_text n w event (refusal_of w event)) × StandsFor sim (after w event)
told_given n w event given sim text free is stands all = (
  all ∙ ap (given_text n) is ∙ sym (ap (event_text n w event) free),
  subst (λ v. StandsFor sim v) (sym (after-done w event free)) stands,
)

-- this fault refused it
pub told_refused : (n : ℕ) (w : World) (event : Event) (fault : WorldFault) (sim : Sim) (text : List ℕ) → refusal_of w event ≡ Some fault
    → StandsFor sim w → text ≡ refused_text n (code_of fault) (name_of fault) → (text ≡ event_text n w event (refusal_of w event)) × StandsFor sim (after w event)
told_refused n w event fault sim text refused stands all = (
  all ∙ sym (ap (event_text n w event) refused),
  subst (λ v. StandsFor sim v) (sym (after-refused w event fault refused)) stands,
)

-- ---- many lines

-- what is left to write begins with the text of the next line
pub line_next : (whole written text new : List ℕ) (w : World) (i : ℕ) (lines : List ScriptLine) (line : ScriptLine) → i < length lines → line ≡ get_or lines i line
    → whole ≡ (written ++ text) ++ text_from w (drop i lines) → new ≡ text ++ output w line
    → whole ≡ (written ++ new) ++ text_from (after_line w line.event) (drop (i + 1) lines)
unfolding text_from
line_next whole written text new w i lines line inside here so_far more =
    so_far ∙ ap (λ xs. (written ++ text) ++ text_from w xs) (drop_more lines i line inside)
    ∙ ap (λ x. (written ++ text) ++ text_from w (x ∷ drop (i + 1) lines)) (sym here)
    ∙ sym (append_assoc (written ++ text) (output w line) (text_from (after_line w line.event) (drop (i + 1) lines)))
    ∙ ap (λ t. t ++ text_from (after_line w line.event) (drop (i + 1) lines)) (append_assoc written text (output w line) ∙ ap (λ t. written ++ t) (sym more))

-- and the world goes on with it
pub world_next : (last w : World) (i : ℕ) (lines : List ScriptLine) (line : ScriptLine) → i < length lines → line ≡ get_or lines i line
    → last ≡ after_lines w (drop i lines) → last ≡ after_lines (after_line w line.event) (drop (i + 1) lines)
unfolding after_lines
world_next last w i lines line inside here is =
    is ∙ ap (after_lines w) (drop_more lines i line inside) ∙ ap (λ x. after_lines w (x ∷ drop (i + 1) lines)) (sym here)

-- behind the last line
pub text_last : (whole written text : List ℕ) (w : World) (i : ℕ) (lines : List ScriptLine) → length lines ≤ i
    → whole ≡ (written ++ text) ++ text_from w (drop i lines) → whole ≡ written ++ (text ++ [])
unfolding text_from
text_last whole written text w i lines past is =
    is ∙ ap (λ xs. (written ++ text) ++ text_from w xs) (drop_all i lines past) ∙ append_assoc written text []

pub world_last : (last w : World) (i : ℕ) (lines : List ScriptLine) → length lines ≤ i → last ≡ after_lines w (drop i lines) → w ≡ last
unfolding after_lines
world_last last w i lines past is = sym (is ∙ ap (after_lines w) (drop_all i lines past))

pub whole_written : (whole written text took : List ℕ) → whole ≡ written ++ (text ++ []) → took ≡ text → written ++ took ≡ whole
whole_written whole written text took is all = ap (λ t. written ++ t) (all ∙ sym (append-nil text)) ∙ sym is

pub on_any : {E P : Type 0} (r : Result (Unit {0}) E) → P → OnOk r P
on_any (Ok _) p = p
on_any (Err e) p = tt

-- the text that is kept comes next
pub split_text : (whole written text new later : List ℕ) → new ≡ text → whole ≡ (written ++ text) ++ later → whole ≡ written ++ (new ++ later)
split_text whole written text new later is so_far = so_far ∙ append_assoc written text later ∙ ap (λ t. written ++ (t ++ later)) (sym is)
