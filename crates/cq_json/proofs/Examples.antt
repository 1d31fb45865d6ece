-- Worked objects, each computed by the definitions to what the rules give. The results were worked out by hand.
use Rattle.std.proofs.Common.{◌≡◌, ℕ, List, [], ◌∷◌, ◌++◌, map, None, Some, Result, Ok, Err, true, false, cond, nat_eq, codes, refl}
use Rattle.std.specs.Prelude.{⊤}
use Rattle.std.specs.Fmt.{digits}
use Rattle.std.specs.Str.{chars, is_utf8}
use Rattle.serde_json.proofs.OnLiterals.{serde_json_on_literals}
use Rattle.cq_base.specs.Handle.{Handle}
use Rattle.cq_base.specs.declared.ask.Ask.{Ask}
use Rattle.cq_base.specs.declared.ask.Ask.TheVariants.{Create, Remove, Send, Receive, Delete, Change}
use Rattle.cq_base.specs.declared.fault.BaseFault.TheVariants.{BadQueueName, BadGroup, BadDedup, InvalidMessageContents, BodyLength}
use Rattle.cq_json.specs.Asks.{create_in, remove_in, send_in, receive_in, delete_in, change_in, ask_in}
use Rattle.cq_json.specs.Fields.{Reason, bad, refused, ◌>>=◌, or_bad, json_of}
use Rattle.cq_json.specs.Receipts.{handle_in, receipt_handle}

-- what a row unfolds to compute an ask
unfoldable asks_on_literals : ⊤
unfolding ask_in create_in remove_in send_in receive_in delete_in change_in receipt_handle handle_in is_utf8 chars digits serde_json_on_literals
asks_on_literals = tt

-- the bytes of a text, which is written here with ' for "
abbrev json : List ℕ → List ℕ
json text = map (λ b. cond (nat_eq b 39) 34 b) text

-- ---- asks

-- the ask that the text says
abbrev says_ask : List ℕ → Result Ask Reason
says_ask text = or_bad (json_of (json text)) >>= ask_in

-- each of the texts says none
abbrev AreBadAsks : List (List ℕ) → Type 0
AreBadAsks asks = map says_ask asks ≡ map (λ _. Err bad) asks

create_asks :
    map says_ask (
    codes "{'kind':'create','queue':'q.fifo'}" ∷ codes "{'kind':'create','queue':'q.fifo','visibility':0}"
    ∷ codes "{'kind':'create','queue':'q.fifo','visibility':43200}" ∷ codes "{'kind':'create','queue':'q'}" ∷ []
    )
    ≡ Ok (Create (codes "q.fifo") 30 false) ∷ Ok (Create (codes "q.fifo") 0 false) ∷ Ok (Create (codes "q.fifo") 43200 false) ∷ Err (refused BadQueueName) ∷ []
unfolding asks_on_literals
create_asks = refl

create_asks_for_made_ids :
    map says_ask (
    codes "{'kind':'create','queue':'q.fifo','content_dedup':true}" ∷ codes "{'kind':'create','queue':'q.fifo','content_dedup':false}"
    ∷ codes "{'content_dedup':true,'visibility':0,'kind':'create','queue':'q.fifo'}" ∷ codes "{'kind':'create','queue':'q','content_dedup':true}" ∷ []
    )
    ≡ Ok (Create (codes "q.fifo") 30 true) ∷ Ok (Create (codes "q.fifo") 30 false) ∷ Ok (Create (codes "q.fifo") 0 true) ∷ Err (refused BadQueueName) ∷ []
unfolding asks_on_literals
create_asks_for_made_ids = refl

bad_create_asks :
    AreBadAsks (
    codes "{'kind':'create','queue':'q','visibility':43201}" ∷ codes "{'kind':'create','queue':'q.fifo','visibility':null}"
    ∷ codes "{'kind':'create','queue':'q.fifo','size':1}" ∷ codes "{'kind':'create'}" ∷ codes "{'queue':'q.fifo'}"
    ∷ codes "{'kind':'purge','queue':'q.fifo'}" ∷ codes "{'kind':'create','queue':'q','content_dedup':1}"
    ∷ codes "{'kind':'create','queue':'q','content_dedup':null}" ∷ codes "{'kind':'create','queue':'q','content_dedup':'true'}" ∷ []
    )
unfolding asks_on_literals
bad_create_asks = refl

removals : map says_ask (codes "{'kind':'remove','queue':'q.fifo'}" ∷ codes "{'kind':'remove','queue':'q'}" ∷ []) ≡ Ok (Remove (codes "q.fifo")) ∷ Err (refused BadQueueName) ∷ []
unfolding asks_on_literals
removals = refl

bad_removals : AreBadAsks (codes "{'kind':'remove'}" ∷ codes "{'kind':'remove','queue':1}" ∷ codes "{'kind':'remove','queue':'q','visibility':30}" ∷ [])
unfolding asks_on_literals
bad_removals = refl

receives :
    map says_ask (
    codes "{'kind':'receive','queue':'q.fifo'}" ∷ codes "{'kind':'receive','queue':'q.fifo','size':1,'visibility':0}"
    ∷ codes "{'kind':'receive','queue':'q.fifo','size':10,'visibility':43200}" ∷ codes "{'kind':'receive','queue':'q'}" ∷ []
    )
    ≡ Ok (Receive (codes "q.fifo") 1 None) ∷ Ok (Receive (codes "q.fifo") 1 (Some 0)) ∷ Ok (Receive (codes "q.fifo") 10 (Some 43200)) ∷ Err (refused BadQueueName) ∷ []
unfolding asks_on_literals
receives = refl

bad_receives :
    AreBadAsks (
    codes "{'kind':'receive','queue':'q','size':0}" ∷ codes "{'kind':'receive','queue':'q','size':11}"
    ∷ codes "{'kind':'receive','queue':'q','visibility':43201}" ∷ codes "{'kind':'receive'}" ∷ codes "{'kind':'receive','queue':'q','body':'x'}" ∷ []
    )
unfolding asks_on_literals
bad_receives = refl

abbrev receipt : Handle
receipt = record { incarnation = 1; sequence = 2; handing = 3 }

deletes :
    map says_ask (codes "{'receipt':'1-2-3','queue':'q.fifo','kind':'delete'}" ∷ codes "{'kind':'delete','queue':'q','receipt':'1-2-3'}" ∷ [])
    ≡ Ok (Delete (codes "q.fifo") receipt) ∷ Err (refused BadQueueName) ∷ []
unfolding asks_on_literals
deletes = refl

bad_deletes :
    AreBadAsks (
    codes "{'kind':'delete','queue':'q','receipt':'1-2'}" ∷ codes "{'kind':'delete','queue':'q'}" ∷ codes "{'kind':'delete','receipt':'1-2-3'}"
    ∷ codes "{'kind':'delete','queue':'q','receipt':123}" ∷ codes "{'kind':'delete','queue':'q','receipt':'1-2-3','visibility':0}" ∷ []
    )
unfolding asks_on_literals
bad_deletes = refl

changes :
    map says_ask (
    codes "{'kind':'change','queue':'q.fifo','receipt':'1-2-3','visibility':0}" ∷ codes "{'kind':'change','queue':'q.fifo','receipt':'1-2-3','visibility':43200}"
    ∷ codes "{'kind':'change','queue':'q','receipt':'1-2-3','visibility':0}" ∷ []
    )
    ≡ Ok (Change (codes "q.fifo") receipt 0) ∷ Ok (Change (codes "q.fifo") receipt 43200) ∷ Err (refused BadQueueName) ∷ []
unfolding asks_on_literals
changes = refl

bad_changes :
    AreBadAsks (
    codes "{'kind':'change','queue':'q','receipt':'1-2-3'}" ∷ codes "{'kind':'change','queue':'q','receipt':'1-2-3','visibility':43201}"
    ∷ codes "{'kind':'change','queue':'q','receipt':'1-2-3','visibility':null}" ∷ codes "{'kind':'change','queue':'q','visibility':0}"
    ∷ codes "{'kind':'change','receipt':'1-2-3','visibility':0}" ∷ codes "{'kind':'change','queue':'q','receipt':'0-2-3','visibility':0}"
    ∷ codes "{'kind':'change','queue':'q','receipt':'1-2-3','visibility':0,'size':1}" ∷ []
    )
unfolding asks_on_literals
bad_changes = refl

-- ---- sends, and the order in which the faults of their texts are told

abbrev says_send : List ℕ → List ℕ → List ℕ → List ℕ → Result Ask Reason
says_send queue group dedup body =
    says_ask (codes "{'kind':'send','queue':'" ++ (queue ++ (codes "','group':'" ++ (group ++ (codes "','dedup':'" ++ (dedup ++ (codes "','body':'" ++ (body ++ codes "'}"))))))))

send : says_send (codes "q.fifo") (codes "a") (codes "d") (codes "hello") ≡ Ok (Send (codes "q.fifo") (codes "a") (Some (codes "d")) (codes "hello"))
unfolding asks_on_literals
send = refl

send_without_dedup : says_ask (codes "{'kind':'send','queue':'q.fifo','group':'a','body':'hello'}") ≡ Ok (Send (codes "q.fifo") (codes "a") None (codes "hello"))
unfolding asks_on_literals
send_without_dedup = refl

send_of_an_empty_dedup : says_send (codes "q.fifo") (codes "a") [] (codes "x") ≡ Err (refused BadDedup)
unfolding asks_on_literals
send_of_an_empty_dedup = refl

abbrev zero : List ℕ
zero = 92 ∷ codes "u0000"

queue_before_group : says_send (codes "q") (codes "a b") (codes "d") (codes "x") ≡ Err (refused BadQueueName)
unfolding asks_on_literals
queue_before_group = refl

queue_before_dedup : says_send (codes "q") (codes "a") [] (codes "x") ≡ Err (refused BadQueueName)
unfolding asks_on_literals
queue_before_dedup = refl

queue_before_body : says_send (codes "q") (codes "a") (codes "d") zero ≡ Err (refused BadQueueName)
unfolding asks_on_literals
queue_before_body = refl

group_before_dedup : says_send (codes "q.fifo") (codes "a b") [] (codes "x") ≡ Err (refused BadGroup)
unfolding asks_on_literals
group_before_dedup = refl

group_before_body : says_send (codes "q.fifo") (codes "a b") (codes "d") zero ≡ Err (refused BadGroup)
unfolding asks_on_literals
group_before_body = refl

dedup_before_body : says_send (codes "q.fifo") (codes "a") [] zero ≡ Err (refused BadDedup)
unfolding asks_on_literals
dedup_before_body = refl

character_of_a_body : says_send (codes "q.fifo") (codes "a") (codes "d") zero ≡ Err (refused InvalidMessageContents)
unfolding asks_on_literals
character_of_a_body = refl

empty_body : says_send (codes "q.fifo") (codes "a") (codes "d") [] ≡ Err (refused BodyLength)
unfolding asks_on_literals
empty_body = refl

-- bytes that are no UTF-8 are no JSON
no_utf8 : says_send (codes "q.fifo") (codes "a") (codes "d") (255 ∷ []) ≡ Err bad
unfolding asks_on_literals
no_utf8 = refl

bad_sends :
    AreBadAsks (
    codes "{'kind':'send','queue':'q','group':'a b','dedup':'d','body':'x','size':1}" ∷ codes "{'kind':'send','queue':'q','group':'a b','dedup':'d'}"
    ∷ codes "{'kind':'send','queue':'q','group':'a','body':'x','content_dedup':true}" ∷ codes "{'kind':'send','queue':'q','dedup':'d','body':'x'}"
    ∷ codes "{'kind':'send','group':'a','dedup':'d','body':'x'}" ∷ codes "{'kind':'send','queue':'q','group':'a','dedup':null,'body':'x'}"
    ∷ codes "{'kind':'send','queue':'q','group':'a','dedup':1,'body':'x'}" ∷ []
    )
unfolding asks_on_literals
bad_sends = refl

-- ---- receipts

abbrev most : ℕ
most = 18446744073709551615

receipt_of_most : receipt_handle (codes "18446744073709551615-1-18446744073709551615") ≡ Ok (record { incarnation = most; sequence = 1; handing = most })
unfolding receipt_handle handle_in digits
receipt_of_most = refl

abbrev bad_receipts : List (List ℕ)
bad_receipts =
    [] ∷ codes "--" ∷ codes "1-2" ∷ codes "1-2-" ∷ codes "-2-3" ∷ codes "1--3" ∷ codes "1-2-3-4" ∷ codes "1-2-3 " ∷ codes " 1-2-3" ∷ codes "0-2-3" ∷ codes "1-0-3"
    ∷ codes "1-2-0" ∷ codes "01-2-3" ∷ codes "1-02-3" ∷ codes "1-2-03" ∷ codes "+1-2-3" ∷ codes "1_2_3" ∷ codes "18446744073709551616-1-1"
    ∷ codes "1-18446744073709551616-1" ∷ codes "1-1-18446744073709551616" ∷ []

are_bad_receipts : map receipt_handle bad_receipts ≡ map (λ _. Err bad) bad_receipts
unfolding receipt_handle handle_in digits
are_bad_receipts = refl
