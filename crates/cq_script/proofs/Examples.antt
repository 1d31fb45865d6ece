-- Worked lines and texts, each computed by the definitions to what the rules of the scripts give. The results were
-- worked out by hand.
use Rattle.std.proofs.Common.{◌≡◌, ℕ, List, [], ◌∷◌, ◌++◌, map, Option, None, Some, Ok, Err, cond, nat_eq, codes, refl}
use Rattle.std.specs.Prelude.{⊤}
use Rattle.std.specs.Fmt.{digits}
use Rattle.std.specs.Str.{chars, is_utf8}
use Rattle.serde_json.proofs.OnLiterals.{serde_json_on_literals}
use Rattle.cq_base.specs.queue.History.{history, reply_to, last_moment, counts_after}
use Rattle.cq_base.specs.queue.Outcomes.{about}
use Rattle.cq_base.specs.queue.Effects.{effect_of}
use Rattle.cq_base.specs.queue.Lifetimes.{live, creations}
use Rattle.cq_base.specs.declared.ask.Ask.TheVariants.{Remove}
use Rattle.cq_base.specs.declared.fault.BaseFault.TheVariants.{BadQueueName, BadGroup}
use Rattle.cq_base.specs.declared.party.Party.TheVariants.{Master, Clients, Server}
use Rattle.cq_chain.specs.Refusals.{refusal_of_query}
use Rattle.cq_chain.specs.Steps.{asked}
use Rattle.cq_events.specs.declared.event.Event.{Event as WorldEvent}
use Rattle.cq_events.specs.declared.event.Event.TheVariants as events
use Rattle.cq_events.specs.Events.{refusal_of, next, after, given_by}
use Rattle.cq_events.specs.Worlds.{first_world, numbers_from}
use Rattle.cq_answers.specs.Answers.{answer_data, refused_data}
use Rattle.cq_json.specs.Asks.{create_in, remove_in, send_in, receive_in, delete_in, change_in, ask_in}
use Rattle.cq_script.specs.Events.{arrive_in, query_in, ends_in, server_in, event_in}
use Rattle.cq_lines.specs.Lines.{lines_of}
use Rattle.cq_lines.specs.Grammars.{parse_from, parse_text, values_from}
use Rattle.cq_lines.specs.declared.limits.TheConstants.{LINE_LIMIT}
use Rattle.cq_script.specs.Line.{line_of}
use Rattle.cq_script.specs.Lines.{script_grammar, script_limits, script_of, session_grammar, session_lines}
use Rattle.cq_script.specs.Output.{output, text_from, text_of}
use Rattle.cq_json.specs.Receipts.{handle_in, receipt_handle}
use Rattle.cq_script.specs.declared.event_line.Line.{Line}
use Rattle.cq_script.specs.declared.event_line.Line.TheVariants.{Blank, Event, Refused}
use Rattle.cq_script.specs.declared.fault.LineRefusal.TheVariants.{Text, Bad, TooLong}
use Rattle.cq_lines.specs.declared.fault.ScriptFault.TheVariants.{BadLine, TooManyLines}
use Rattle.cq_script.specs.declared.script_line.ScriptLine.{ScriptLine}

-- what a row unfolds to compute a line
unfoldable lines_on_literals : ⊤
unfolding line_of event_in arrive_in query_in ends_in server_in ask_in create_in remove_in send_in receive_in delete_in change_in receipt_handle handle_in is_utf8 chars digits serde_json_on_literals
lines_on_literals = tt

-- the bytes of a line, which is written here with ' for "
abbrev json : List ℕ → List ℕ
json text = map (λ b. cond (nat_eq b 39) 34 b) text

-- what the line says
abbrev says : List ℕ → Option Line
says text = line_of (json text)

abbrev says_event : WorldEvent → Option Line
says_event event = Some (Event event)

-- each of the lines is a bad one
abbrev AreBad : List (List ℕ) → Type 0
AreBad lines = map says lines ≡ map (λ _. None) lines

-- ---- lines

blank_lines : map line_of ([] ∷ (32 ∷ 9 ∷ 13 ∷ []) ∷ []) ≡ Some Blank ∷ Some Blank ∷ []
unfolding lines_on_literals
blank_lines = refl

-- no other byte is blank, and what is no JSON, no object or no event is bad
bad_lines : AreBad ((11 ∷ []) ∷ (12 ∷ []) ∷ codes "x" ∷ codes "[]" ∷ codes "1" ∷ codes "{}" ∷ codes "{'op':'purge'}" ∷ codes "{'op':1}" ∷ [])
unfolding lines_on_literals
bad_lines = refl

-- ---- operations

operations :
    map says (
    codes "{'op':'put','from':1,'to':'clients'}" ∷ codes "{'op':'take','from':'master','to':4294967295}"
    ∷ codes "{'op':'crash','server':1}" ∷ codes "{'op':'detect','server':2}" ∷ codes "{'server':3,'op':'join'}"
    ∷ codes "{'op':'ask','at':2,'client':7,'tag':9,'queue':'q.fifo'}" ∷ []
    )
    ≡ says_event (events.Put (Server 1) Clients) ∷ says_event (events.Take Master (Server 4294967295))
    ∷ says_event (events.Crash 1) ∷ says_event (events.Detect 2) ∷ says_event (events.Join 3)
    ∷ says_event (events.Ask 2 (record { client = 7; tag = 9; queue = codes "q.fifo" })) ∷ []
unfolding lines_on_literals
operations = refl

-- a server is a whole number from 1 to 2 ^ 32 - 1, written in digits alone
servers :
    AreBad (
    codes "{'op':'crash','server':0}" ∷ codes "{'op':'crash','server':4294967296}" ∷ codes "{'op':'crash','server':1.0}"
    ∷ codes "{'op':'crash','server':1e0}" ∷ codes "{'op':'crash','server':-1}" ∷ codes "{'op':'crash','server':'1'}"
    ∷ codes "{'op':'crash'}" ∷ codes "{'op':'crash','server':1,'x':0}" ∷ []
    )
unfolding lines_on_literals
servers = refl

-- an end of a link is a server's number, or one of two names
ends :
    AreBad (
    codes "{'op':'put','from':0,'to':1}" ∷ codes "{'op':'put','from':'server','to':1}" ∷ codes "{'op':'put','from':'1','to':1}"
    ∷ codes "{'op':'put','from':1,'to':4294967296}" ∷ codes "{'op':'put','from':1}" ∷ codes "{'op':'put','to':1}"
    ∷ codes "{'op':'put','from':1,'to':2,'server':1}" ∷ []
    )
unfolding lines_on_literals
ends = refl

-- of a key that stands twice the last value counts
twice : says (codes "{'op':'crash','server':1,'server':2}") ≡ says_event (events.Crash 2)
unfolding lines_on_literals
twice = refl

-- ---- queries

most_of_a_query :
    says (codes "{'op':'ask','at':4294967295,'client':4294967295,'tag':18446744073709551615,'queue':'q.fifo'}")
    ≡ says_event (events.Ask 4294967295 (record { client = 4294967295; tag = 18446744073709551615; queue = codes "q.fifo" }))
unfolding lines_on_literals
most_of_a_query = refl

least_of_a_query : says (codes "{'op':'ask','at':1,'client':0,'tag':0,'queue':'q.fifo'}") ≡ says_event (events.Ask 1 (record { client = 0; tag = 0; queue = codes "q.fifo" }))
unfolding lines_on_literals
least_of_a_query = refl

-- a bad text is told only where nothing else is wrong
bad_queries :
    AreBad (
    codes "{'op':'ask','at':0,'client':7,'tag':9,'queue':'q'}" ∷ codes "{'op':'ask','at':4294967296,'client':7,'tag':9,'queue':'q.fifo'}"
    ∷ codes "{'op':'ask','at':1,'client':4294967296,'tag':9,'queue':'q.fifo'}"
    ∷ codes "{'op':'ask','at':1,'client':7,'tag':18446744073709551616,'queue':'q.fifo'}"
    ∷ codes "{'op':'ask','client':7,'tag':9,'queue':'q.fifo'}" ∷ codes "{'op':'ask','at':1,'tag':9,'queue':'q.fifo'}"
    ∷ codes "{'op':'ask','at':1,'client':7,'queue':'q.fifo'}" ∷ codes "{'op':'ask','at':1,'client':7,'tag':9}"
    ∷ codes "{'op':'ask','at':1,'client':7,'tag':9,'queue':null}" ∷ codes "{'op':'ask','at':1,'client':7,'tag':9,'queue':'q','clock':5}" ∷ []
    )
unfolding lines_on_literals
bad_queries = refl

query_of_a_bad_name : says (codes "{'op':'ask','at':1,'client':7,'tag':9,'queue':'q'}") ≡ Some (Refused BadQueueName)
unfolding lines_on_literals
query_of_a_bad_name = refl

-- ---- requests

-- a request at that moment
abbrev says_clock : List ℕ → Option Line
says_clock clock = says (codes "{'op':'arrive','at':1,'client':2,'number':3,'ask':{'kind':'remove','queue':'q.fifo'},'clock':" ++ (clock ++ codes "}"))

clocks :
    map says_clock (codes "0" ∷ codes "1152921504606846976" ∷ codes "1152921504606846977" ∷ codes "-1" ∷ codes "-0" ∷ [])
    ≡ says_event (events.Arrive 1 0 (record { client = 2; number = 3; ask = Remove (codes "q.fifo") }))
    ∷ says_event (events.Arrive 1 1152921504606846976 (record { client = 2; number = 3; ask = Remove (codes "q.fifo") })) ∷ None ∷ None ∷ None ∷ []
unfolding lines_on_literals
clocks = refl

most_of_a_request :
    says (codes "{'op':'arrive','at':4294967295,'clock':0,'client':4294967295,'number':18446744073709551615,'ask':{'kind':'remove','queue':'q.fifo'}}")
    ≡ says_event (events.Arrive 4294967295 0 (record { client = 4294967295; number = 18446744073709551615; ask = Remove (codes "q.fifo") }))
unfolding lines_on_literals
most_of_a_request = refl

-- a bad text in its ask is told
request_of_a_bad_name :
    says (codes "{'op':'arrive','at':1,'clock':0,'client':0,'number':0,'ask':{'kind':'remove','queue':'q'}}") ≡ Some (Refused BadQueueName)
unfolding lines_on_literals
request_of_a_bad_name = refl

bad_requests :
    AreBad (
    codes "{'op':'arrive','at':0,'clock':0,'client':0,'number':0,'ask':{'kind':'remove','queue':'q.fifo'}}"
    ∷ codes "{'op':'arrive','at':4294967296,'clock':0,'client':0,'number':0,'ask':{'kind':'remove','queue':'q.fifo'}}"
    ∷ codes "{'op':'arrive','at':1,'clock':0,'client':4294967296,'number':0,'ask':{'kind':'remove','queue':'q.fifo'}}"
    ∷ codes "{'op':'arrive','at':1,'clock':0,'client':0,'number':18446744073709551616,'ask':{'kind':'remove','queue':'q.fifo'}}"
    ∷ codes "{'op':'arrive','at':1,'clock':0,'client':0,'number':0}"
    ∷ codes "{'op':'arrive','at':1,'clock':0,'client':0,'number':0,'ask':[]}"
    ∷ codes "{'op':'arrive','at':1,'clock':0,'client':0,'number':0,'tag':0,'ask':{'kind':'remove','queue':'q.fifo'}}" ∷ []
    )
unfolding lines_on_literals
bad_requests = refl

-- ---- scripts

-- lines are counted from 1, blank ones too, and the script ends at its first fault
numbers_of_lines :
    script_of (10 ∷ (json (codes "{'op':'crash','server':1}") ++ (10 ∷ (json (codes "{'op':'ask','at':1,'client':7,'tag':9,'queue':'q'}") ++ (10 ∷ (codes "x" ++ (10 ∷ json (codes "{'op':'crash','server':2}"))))))))
    ≡ record { values = record { number = 2; event = Ok (events.Crash 1) } ∷ record { number = 3; event = Err (Text BadQueueName) } ∷ []; fault = Some (BadLine 4) }
unfolding parse_text parse_from lines_of lines_on_literals
numbers_of_lines = refl

-- a session goes on behind a bad line, as the last one is here
lines_of_a_session :
    session_lines (10 ∷ (json (codes "{'op':'crash','server':1}") ++ (10 ∷ (codes "x" ++ (10 ∷ (json (codes "{'op':'ask','at':1,'client':7,'tag':9,'queue':'q'}") ++ (10 ∷ codes "y")))))))
    ≡ record { number = 2; event = Ok (events.Crash 1) } ∷ record { number = 3; event = Err Bad } ∷ record { number = 4; event = Err (Text BadQueueName) } ∷ record { number = 5; event = Err Bad } ∷ []
unfolding session_lines values_from lines_of lines_on_literals
lines_of_a_session = refl

-- and counts them on behind the most that a script may have
line_of_a_session : values_from session_grammar LINE_LIMIT 1000001 (codes "x" ∷ [] ∷ []) ≡ record { number = 1000001; event = Err Bad } ∷ []
unfolding values_from lines_on_literals
line_of_a_session = refl

last_line : parse_from script_grammar script_limits 1000000 ([] ∷ []) ≡ record { values = []; fault = None }
unfolding parse_from lines_on_literals
last_line = refl

line_too_many : parse_from script_grammar script_limits 1000001 ([] ∷ []) ≡ record { values = []; fault = Some TooManyLines }
unfolding parse_from lines_on_literals
line_too_many = refl

-- ---- what a script writes

-- the line of output that says so, with ' for "
abbrev line : List ℕ → List ℕ
line text = json text ++ (10 ∷ [])

abbrev script_line : ℕ → WorldEvent → ScriptLine
script_line number event = record { number = number; event = Ok event }

-- A text that breaks its rule does nothing, and a crash is for good; neither gives a line but of its refusal.
refusals :
    text_of 2 (record { number = 2; event = Err (Text BadGroup) } ∷ script_line 3 (events.Crash 2) ∷ script_line 5 (events.Crash 2) ∷ script_line 6 (events.Crash 3) ∷ [])
    ≡ line (codes "{'line':2,'name':'BadGroup','refused':12}") ++ (line (codes "{'line':5,'name':'ServerDown','refused':32}") ++ line (codes "{'line':6,'name':'NoSuchServer','refused':31}"))
unfolding text_of text_from output first_world numbers_from refusal_of after next given_by refused_data digits serde_json_on_literals
refusals = refl

-- the lines that only a session goes on behind
refused_lines :
    text_of 1 (record { number = 3; event = Err Bad } ∷ record { number = 4; event = Err TooLong } ∷ [])
    ≡ line (codes "{'line':3,'name':'BadLine','refused':61}") ++ line (codes "{'line':4,'name':'LineTooLong','refused':62}")
unfolding text_of text_from output first_world refused_data digits serde_json_on_literals
refused_lines = refl

-- a put to the clients gives what waits for them, once
given :
    text_of 1 (script_line 1 (events.Ask 1 (record { client = 7; tag = 10; queue = codes "q.fifo" })) ∷ script_line 2 (events.Put (Server 1) Clients) ∷ script_line 3 (events.Put (Server 1) Clients) ∷ [])
    ≡ line (codes "{'client':7,'length':0,'line':2,'reply':{'code':1,'kind':'refused','name':'QueueDoesNotExist'},'tag':10}") ++ line (codes "{'line':3,'name':'OutboxEmpty','refused':34}")
unfolding text_of text_from output first_world numbers_from refusal_of refusal_of_query after next given_by asked history live creations last_moment counts_after about reply_to effect_of answer_data refused_data digits serde_json_on_literals
given = refl
