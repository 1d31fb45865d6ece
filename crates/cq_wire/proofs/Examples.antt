-- Worked layouts, one for each kind of value, and what is read of bytes that are none.
use Rattle.std.proofs.Common.{◌≡◌, ℕ, true, List, [], ◌∷◌, ◌++◌, Some, None, Err, refl}
use Rattle.std.specs.Prelude.{codes}
use Rattle.cq_base.specs.declared.ask.Ask.TheVariants.{Create, Remove, Send, Receive, Delete, Change}
use Rattle.cq_base.specs.declared.ask.Entry.{Entry}
use Rattle.cq_base.specs.declared.reply.Reply.TheVariants.{Created, Removed, Sent, Received, Deleted, Changed, Counts, Refused}
use Rattle.cq_base.specs.declared.reply.Refusal.TheVariants.{StaleNumber}
use Rattle.cq_base.specs.Handle.{Handle}
use Rattle.cq_wire.specs.declared.fault.WireFault.TheVariants.{Truncated, BadTag, BytesLeft, OtherVersion}
use Rattle.cq_wire.specs.Layout.{number32, number64, text, flag, optional, listed, receipt, ask, request, entry, query, delivery, reply, whole}
use Rattle.cq_wire.specs.Reading.{reply_at, whole_at, all_of}

q : List ℕ
q = codes "q.fifo"

-- its length, and its bytes
q_bytes : List ℕ
q_bytes = 6 ∷ 0 ∷ 0 ∷ 0 ∷ 113 ∷ 46 ∷ 102 ∷ 105 ∷ 102 ∷ 111 ∷ []

handle : Handle
handle = record { incarnation = 1; sequence = 2; handing = 3 }

handle_bytes : List ℕ
handle_bytes = 1 ∷ 0 ∷ 0 ∷ 0 ∷ 0 ∷ 0 ∷ 0 ∷ 0 ∷ 2 ∷ 0 ∷ 0 ∷ 0 ∷ 0 ∷ 0 ∷ 0 ∷ 0 ∷ 3 ∷ 0 ∷ 0 ∷ 0 ∷ 0 ∷ 0 ∷ 0 ∷ 0 ∷ []

the_create : ask (Create q 30 true) ≡ 0 ∷ (q_bytes ++ (30 ∷ 0 ∷ 0 ∷ 0 ∷ 1 ∷ []))
unfolding ask text number32 flag q q_bytes
the_create = refl

the_remove : ask (Remove q) ≡ 1 ∷ q_bytes
unfolding ask text number32 q q_bytes
the_remove = refl

the_send : ask (Send q (codes "g") (Some (codes "d")) (codes "hi")) ≡ 2 ∷ (q_bytes ++ (1 ∷ 0 ∷ 0 ∷ 0 ∷ 103 ∷ 1 ∷ 1 ∷ 0 ∷ 0 ∷ 0 ∷ 100 ∷ 2 ∷ 0 ∷ 0 ∷ 0 ∷ 104 ∷ 105 ∷ []))
unfolding ask text number32 optional q q_bytes
the_send = refl

the_receive : ask (Receive q 10 None) ≡ 3 ∷ (q_bytes ++ (10 ∷ 0 ∷ 0 ∷ 0 ∷ 0 ∷ []))
unfolding ask text number32 optional q q_bytes
the_receive = refl

the_receive_with_a_timeout : ask (Receive q 1 (Some 43200)) ≡ 3 ∷ (q_bytes ++ (1 ∷ 0 ∷ 0 ∷ 0 ∷ 1 ∷ 192 ∷ 168 ∷ 0 ∷ 0 ∷ []))
unfolding ask text number32 optional q q_bytes
the_receive_with_a_timeout = refl

the_delete : ask (Delete q handle) ≡ 4 ∷ (q_bytes ++ handle_bytes)
unfolding ask text number32 number64 receipt q q_bytes handle handle_bytes
the_delete = refl

the_change : ask (Change q handle 0) ≡ 5 ∷ (q_bytes ++ (handle_bytes ++ (0 ∷ 0 ∷ 0 ∷ 0 ∷ [])))
unfolding ask text number32 number64 receipt q q_bytes handle handle_bytes
the_change = refl

an_entry : Entry
an_entry = record { moment = 258; request = record { client = 7; number = 9; ask = Remove q } }

entry_bytes : List ℕ
entry_bytes = 1 ∷ 2 ∷ 1 ∷ 0 ∷ 0 ∷ 0 ∷ 0 ∷ 0 ∷ 0 ∷ 7 ∷ 0 ∷ 0 ∷ 0 ∷ 9 ∷ 0 ∷ 0 ∷ 0 ∷ 0 ∷ 0 ∷ 0 ∷ 0 ∷ 1 ∷ q_bytes

the_entry : whole entry an_entry ≡ entry_bytes
unfolding whole entry request ask text number32 number64 q q_bytes an_entry entry_bytes
the_entry = refl

the_query : whole query (record { client = 7; tag = 9; queue = q }) ≡ 1 ∷ 7 ∷ 0 ∷ 0 ∷ 0 ∷ 9 ∷ 0 ∷ 0 ∷ 0 ∷ 0 ∷ 0 ∷ 0 ∷ 0 ∷ q_bytes
unfolding whole query text number32 number64 q q_bytes
the_query = refl

the_created : reply (Created 256) ≡ 0 ∷ 0 ∷ 1 ∷ 0 ∷ 0 ∷ 0 ∷ 0 ∷ 0 ∷ 0 ∷ []
unfolding reply number64
the_created = refl

the_removed : reply Removed ≡ 1 ∷ []
unfolding reply
the_removed = refl

the_sent : reply (Sent 5) ≡ 2 ∷ 5 ∷ 0 ∷ 0 ∷ 0 ∷ 0 ∷ 0 ∷ 0 ∷ 0 ∷ []
unfolding reply number64
the_sent = refl

nothing_received : reply (Received []) ≡ 3 ∷ 0 ∷ 0 ∷ 0 ∷ 0 ∷ 0 ∷ 0 ∷ 0 ∷ 0 ∷ []
unfolding reply listed number64
nothing_received = refl

one_received : reply (Received (record { receipt = handle; group = codes "g"; body = codes "hi" } ∷ [])) ≡ 3 ∷ 1 ∷ 0 ∷ 0 ∷ 0 ∷ 0 ∷ 0 ∷ 0 ∷ 0 ∷ (handle_bytes ++ (1 ∷ 0 ∷ 0 ∷ 0 ∷ 103 ∷ 2 ∷ 0 ∷ 0 ∷ 0 ∷ 104 ∷ 105 ∷ []))
unfolding reply listed delivery receipt text number32 number64 handle handle_bytes
one_received = refl

the_deleted : reply (Deleted true) ≡ 4 ∷ 1 ∷ []
unfolding reply flag
the_deleted = refl

the_changed : reply Changed ≡ 5 ∷ []
unfolding reply
the_changed = refl

the_counts : reply (Counts 1 2) ≡ 6 ∷ 1 ∷ 0 ∷ 0 ∷ 0 ∷ 0 ∷ 0 ∷ 0 ∷ 0 ∷ 2 ∷ 0 ∷ 0 ∷ 0 ∷ 0 ∷ 0 ∷ 0 ∷ 0 ∷ []
unfolding reply number64
the_counts = refl

the_refused : reply (Refused StaleNumber) ≡ 7 ∷ 7 ∷ 0 ∷ 0 ∷ 0 ∷ []
unfolding reply number32
the_refused = refl

nothing_is_truncated : whole_at reply_at [] ≡ Err Truncated
unfolding whole_at
nothing_is_truncated = refl

another_version : whole_at reply_at (2 ∷ 1 ∷ []) ≡ Err OtherVersion
unfolding whole_at
another_version = refl

no_such_reply : whole_at reply_at (1 ∷ 8 ∷ []) ≡ Err BadTag
unfolding whole_at all_of reply_at
no_such_reply = refl

bytes_left : whole_at reply_at (1 ∷ 1 ∷ 0 ∷ []) ≡ Err BytesLeft
unfolding whole_at all_of reply_at
bytes_left = refl
