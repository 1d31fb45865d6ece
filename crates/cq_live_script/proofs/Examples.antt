-- Worked lines, each computed by the definitions to what the rules of live scripts give. The results were worked out by
-- hand.
use Rattle.std.proofs.Common.{◌≡◌, ℕ, List, [], ◌∷◌, ◌++◌, map, Option, None, Some, cond, nat_eq, codes, refl}
use Rattle.std.specs.Prelude.{⊤}
use Rattle.std.specs.Fmt.{digits}
use Rattle.std.specs.Str.{chars, is_utf8}
use Rattle.serde_json.proofs.OnLiterals.{serde_json_on_literals}
use Rattle.cq_base.specs.declared.ask.Ask.TheVariants.{Remove}
use Rattle.cq_json.specs.Asks.{create_in, remove_in, send_in, receive_in, delete_in, change_in, ask_in}
use Rattle.cq_json.specs.Receipts.{handle_in, receipt_handle}
use Rattle.cq_live_plan.specs.declared.step.LiveStep.{LiveStep}
use Rattle.cq_live_plan.specs.declared.step.LiveStep.TheVariants.{Client, Crash, Join}
use Rattle.cq_lines.specs.Grammars.{parse_from, parse_text}
use Rattle.cq_lines.specs.Lines.{lines_of}
use Rattle.cq_lines.specs.declared.fault.ScriptFault.TheVariants.{BadLine, TooManyLines}
use Rattle.cq_live_script.specs.Line.{step_line}
use Rattle.cq_live_script.specs.Lines.{live_limits, live_of, step_grammar}
use Rattle.cq_live_script.specs.Steps.{client_in, server_in, step_in}

-- what a row unfolds to compute a line
unfoldable lines_on_literals : ⊤
unfolding step_line step_in client_in server_in ask_in create_in remove_in send_in receive_in delete_in change_in receipt_handle handle_in is_utf8 chars digits serde_json_on_literals
lines_on_literals = tt

-- the bytes of a line, which is written here with ' for "
abbrev json : List ℕ → List ℕ
json text = map (λ b. cond (nat_eq b 39) 34 b) text

-- what the line says
abbrev says : List ℕ → Option (Option LiveStep)
says text = step_line (json text)

abbrev says_step : LiveStep → Option (Option LiveStep)
says_step step = Some (Some step)

-- each of the lines is a bad one
abbrev AreBad : List (List ℕ) → Type 0
AreBad lines = map says lines ≡ map (λ _. None) lines

-- ---- lines

blank_lines : map step_line ([] ∷ (32 ∷ 9 ∷ 13 ∷ []) ∷ []) ≡ Some None ∷ Some None ∷ []
unfolding lines_on_literals
blank_lines = refl

-- no other byte is blank, and what is no JSON, no object or no step is bad
bad_lines :
    AreBad (
    (11 ∷ []) ∷ (12 ∷ []) ∷ codes "x" ∷ codes "[]" ∷ codes "1" ∷ codes "{}" ∷ codes "{'op':'detect','server':1}" ∷ codes "{'op':1}"
    ∷ codes "{'op':'join','server':1,'after':0}{}" ∷ []
    )
unfolding lines_on_literals
bad_lines = refl

-- ---- clients

clients :
    map says (
    codes "{'op':'client','client':1,'ask':{'kind':'remove','queue':'q.fifo'}}" ∷ codes "{'ask':{'queue':'q.fifo','kind':'remove'},'client':2,'op':'client'}" ∷ []
    )
    ≡ says_step (Client 1 (Remove (codes "q.fifo"))) ∷ says_step (Client 2 (Remove (codes "q.fifo"))) ∷ []
unfolding lines_on_literals
clients = refl

-- another client, a key that is missing, a key too many, and an ask that is none
bad_clients :
    AreBad (
    codes "{'op':'client','client':0,'ask':{'kind':'remove','queue':'q.fifo'}}" ∷ codes "{'op':'client','client':3,'ask':{'kind':'remove','queue':'q.fifo'}}"
    ∷ codes "{'op':'client','client':'1','ask':{'kind':'remove','queue':'q.fifo'}}" ∷ codes "{'op':'client','client':1}"
    ∷ codes "{'op':'client','ask':{'kind':'remove','queue':'q.fifo'}}" ∷ codes "{'client':1,'ask':{'kind':'remove','queue':'q.fifo'}}"
    ∷ codes "{'op':'client','client':1,'number':1,'ask':{'kind':'remove','queue':'q.fifo'}}" ∷ codes "{'op':'client','client':1,'ask':[]}"
    ∷ codes "{'op':'client','client':1,'ask':{'kind':'remove'}}" ∷ codes "{'op':'client','client':1,'ask':{'kind':'remove','queue':'q.fifo','size':1}}" ∷ []
    )
unfolding lines_on_literals
bad_clients = refl

-- a text that breaks its rule
client_of_a_bad_name : says (codes "{'op':'client','client':1,'ask':{'kind':'remove','queue':'q'}}") ≡ None
unfolding lines_on_literals
client_of_a_bad_name = refl

-- ---- servers

servers :
    map says (
    codes "{'op':'crash','server':1,'after':0}" ∷ codes "{'op':'crash','server':4294967295,'after':4611686018427387904}"
    ∷ codes "{'after':7,'server':4,'op':'join'}" ∷ codes "{'op':'join','server':1,'after':4611686018427387904}" ∷ []
    )
    ≡ says_step (Crash 1 0) ∷ says_step (Crash 4294967295 4611686018427387904) ∷ says_step (Join 4 7) ∷ says_step (Join 1 4611686018427387904) ∷ []
unfolding lines_on_literals
servers = refl

bad_servers :
    AreBad (
    codes "{'op':'crash','server':0,'after':0}" ∷ codes "{'op':'crash','server':4294967296,'after':0}" ∷ codes "{'op':'crash','server':1.0,'after':0}"
    ∷ codes "{'op':'crash','server':1}" ∷ codes "{'op':'crash','after':1}" ∷ codes "{'op':'crash','server':1,'after':0,'ask':1}"
    ∷ codes "{'op':'join','server':1}" ∷ codes "{'op':'join','after':1}" ∷ codes "{'op':'join','server':1,'after':0,'client':1}" ∷ []
    )
unfolding lines_on_literals
bad_servers = refl

-- a wait is a whole number of at most 2 ^ 62, written in digits alone
bad_waits :
    AreBad (
    codes "{'op':'crash','server':1,'after':4611686018427387905}" ∷ codes "{'op':'join','server':1,'after':4611686018427387905}"
    ∷ codes "{'op':'crash','server':1,'after':18446744073709551616}" ∷ codes "{'op':'crash','server':1,'after':-1}"
    ∷ codes "{'op':'join','server':1,'after':1.0}" ∷ codes "{'op':'join','server':1,'after':'1'}" ∷ []
    )
unfolding lines_on_literals
bad_waits = refl

-- of a key that stands twice the last value counts
twice : says (codes "{'op':'crash','server':1,'server':2,'after':0}") ≡ says_step (Crash 2 0)
unfolding lines_on_literals
twice = refl

-- ---- live scripts

-- lines are counted from 1, blank ones too, and the live script ends at its first fault
numbers_of_lines :
    live_of (10 ∷ (json (codes "{'op':'crash','server':1,'after':5}") ++ (10 ∷ (codes "x" ++ (10 ∷ json (codes "{'op':'join','server':4,'after':6}"))))))
    ≡ record { values = Crash 1 5 ∷ []; fault = Some (BadLine 3) }
unfolding parse_text parse_from lines_of lines_on_literals
numbers_of_lines = refl

-- the last line may lack its line feed
last_lines :
    live_of (json (codes "{'op':'crash','server':1,'after':5}") ++ (10 ∷ json (codes "{'op':'join','server':4,'after':6}"))) ≡ record { values = Crash 1 5 ∷ Join 4 6 ∷ []; fault = None }
unfolding parse_text parse_from lines_of lines_on_literals
last_lines = refl

last_line : parse_from step_grammar live_limits 1000000 ([] ∷ []) ≡ record { values = []; fault = None }
unfolding parse_from lines_on_literals
last_line = refl

line_too_many : parse_from step_grammar live_limits 1000001 ([] ∷ []) ≡ record { values = []; fault = Some TooManyLines }
unfolding parse_from lines_on_literals
line_too_many = refl
