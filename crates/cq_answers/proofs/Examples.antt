-- Worked lines, each computed by the definitions to what the rules give. The results were worked out by hand.
use Rattle.std.proofs.Common.{◌≡◌, ℕ, List, [], ◌∷◌, ◌++◌, map, true, false, cond, nat_eq, codes, refl}
use Rattle.std.specs.Fmt.{digits}
use Rattle.serde_json.proofs.OnLiterals.{serde_json_on_literals}
use Rattle.cq_base.specs.Handle.{Handle}
use Rattle.cq_base.specs.declared.reply.Refusal.TheVariants.{QueueDoesNotExist}
use Rattle.cq_base.specs.declared.reply.Reply.{Reply}
use Rattle.cq_base.specs.declared.reply.Reply.TheVariants.{Created, Removed, Sent, Received, Deleted, Changed, Counts, Refused as Denied}
use Rattle.cq_answers.specs.Answers.{answer_data, answer_text, refused_data, refused_text}

abbrev receipt : Handle
receipt = record { incarnation = 1; sequence = 2; handing = 3 }

-- the line that says so, with ' for "
abbrev line : List ℕ → List ℕ
line text = map (λ b. cond (nat_eq b 39) 34 b) text ++ (10 ∷ [])

-- a request's answer, at line 9
abbrev told : Reply → List ℕ
told reply = answer_text 9 (record { client = 7; number = 10; is_query = false; length = 8; reply = reply })

abbrev request_line : List ℕ → List ℕ
request_line reply = line (codes "{'client':7,'length':8,'line':9,'number':10,'reply':" ++ (reply ++ codes "}"))

created : told (Created 1) ≡ request_line (codes "{'incarnation':1,'kind':'created'}")
unfolding answer_data digits serde_json_on_literals
created = refl

removed : told Removed ≡ request_line (codes "{'kind':'removed'}")
unfolding answer_data digits serde_json_on_literals
removed = refl

sent : told (Sent 5) ≡ request_line (codes "{'kind':'sent','sequence':5}")
unfolding answer_data digits serde_json_on_literals
sent = refl

received_none : told (Received []) ≡ request_line (codes "{'kind':'received','messages':[]}")
unfolding answer_data digits serde_json_on_literals
received_none = refl

received :
    told (Received (record { receipt = receipt; group = codes "a"; body = codes "hello" } ∷ record { receipt = receipt; group = codes "b"; body = codes "ho" } ∷ []))
    ≡ request_line (codes "{'kind':'received','messages':[{'body':'hello','group':'a','receipt':'1-2-3'},{'body':'ho','group':'b','receipt':'1-2-3'}]}")
unfolding answer_data digits serde_json_on_literals
received = refl

deleted : told (Deleted true) ≡ request_line (codes "{'kind':'deleted','removed':true}")
unfolding answer_data digits serde_json_on_literals
deleted = refl

deleted_nothing : told (Deleted false) ≡ request_line (codes "{'kind':'deleted','removed':false}")
unfolding answer_data digits serde_json_on_literals
deleted_nothing = refl

changed : told Changed ≡ request_line (codes "{'kind':'changed'}")
unfolding answer_data digits serde_json_on_literals
changed = refl

denied : told (Denied QueueDoesNotExist) ≡ request_line (codes "{'code':1,'kind':'refused','name':'QueueDoesNotExist'}")
unfolding answer_data digits serde_json_on_literals
denied = refl

-- an answer to a query has a tag, and no number
counted :
    answer_text 9 (record { client = 7; number = 10; is_query = true; length = 8; reply = Counts 1 3 })
    ≡ line (codes "{'client':7,'length':8,'line':9,'reply':{'in_flight':3,'kind':'counts','visible':1},'tag':10}")
unfolding answer_data digits serde_json_on_literals
counted = refl

refused_event : refused_text 1 31 (codes "NoSuchServer") ≡ line (codes "{'line':1,'name':'NoSuchServer','refused':31}")
unfolding refused_data digits serde_json_on_literals
refused_event = refl
