-- What a session writes of some lines is the front of what it writes of more.
use Rattle.std.proofs.Common.{◌≡◌, ℕ, ◌+◌, ◌∙◌, ◌++◌, List, [], ◌∷◌, ap, sym, refl, subst, length, append_assoc, suc, arith}
use Rattle.cq_base.specs.Relations.{IsPrefix}
use Rattle.cq_lines.specs.Lines.{ended_part, lines_of}
use Rattle.cq_lines.specs.Grammars.{Grammar, parse_line, values_from, values_or_none}
use Rattle.cq_lines.specs.declared.limits.TheConstants.{LINE_LIMIT}
use Rattle.cq_script.specs.Lines.{session_grammar, session_lines}
use Rattle.cq_script.specs.Output.{text_from, text_of}
use Rattle.cq_script.specs.Sessions.{session_text}
use Rattle.cq_script.specs.declared.script_line.ScriptLine.{ScriptLine}
use Rattle.cq_script.proofs.Prefixes.{text_of-append}
use Rattle.cq_watching.specs.Watching.{ended_text}

-- behind these bytes a line begins
abbrev pub Parts : List ℕ → Type 0
Parts xs = (ys : List ℕ) → lines_of (xs ++ ys) ≡ lines_of xs ++ lines_of ys

values-append : (grammar : Grammar ScriptLine) (limit n : ℕ) (xs ys : List (List ℕ)) → values_from grammar limit n (xs ++ ys) ≡ values_from grammar limit n xs ++ values_from grammar limit (n + length xs) ys
unfolding values_from
values-append grammar limit n [] ys =
    let same : n ≡ n + 0 = omega arith in
    ap (λ k. values_from grammar limit k ys) same
values-append grammar limit n (x ∷ xs) ys =
    let same : n + 1 + length xs ≡ n + suc (length xs) = omega arith in
    ap (λ t. values_or_none (parse_line grammar limit n x) ++ t) (values-append grammar limit (n + 1) xs ys ∙ ap (λ k. values_from grammar limit (n + 1) xs ++ values_from grammar limit k ys) same)
    ∙ sym (append_assoc (values_or_none (parse_line grammar limit n x)) (values_from grammar limit (n + 1) xs) (values_from grammar limit (n + suc (length xs)) ys))

session-more : (size : ℕ) (xs ys : List ℕ) → Parts xs → IsPrefix (session_text size xs) (session_text size (xs ++ ys))
unfolding session_lines
session-more size xs ys parts =
    subst (λ lines. IsPrefix (text_of size (session_lines xs)) (text_of size lines))
    (sym (ap (values_from session_grammar LINE_LIMIT 1) (parts ys) ∙ values-append session_grammar LINE_LIMIT 1 (lines_of xs) (lines_of ys)))
    (text_of-append size (session_lines xs) (values_from session_grammar LINE_LIMIT (1 + length (lines_of xs)) (lines_of ys)))

pub text-more : (size : ℕ) (xs ys : List ℕ) → Parts xs → ended_part xs ≡ xs → ended_part (xs ++ ys) ≡ xs ++ ys → IsPrefix (ended_text size xs) (ended_text size (xs ++ ys))
text-more size xs ys parts all more = rw (all, more) (session-more size xs ys parts)

pub nothing-answered : (size : ℕ) → ended_text size [] ≡ []
unfolding session_lines text_of text_from values_from lines_of ended_part
nothing-answered size = refl
