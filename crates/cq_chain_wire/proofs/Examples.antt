-- Worked layouts, one for each kind of message, and what is read of bytes that are none; the pieces of a snapshot, and of what isn't one.
use Rattle.std.proofs.Common.{◌≡◌, ℕ, false, List, [], ◌∷◌, ◌++◌, map, Some, None, Ok, Err, refl}
use Rattle.std.specs.Prelude.{codes}
use Rattle.cq_base.specs.declared.ask.Ask.TheVariants.{Remove}
use Rattle.cq_base.specs.declared.reply.Reply.TheVariants.{Sent}
use Rattle.cq_chain.specs.declared.message.Message.TheVariants as kinds
use Rattle.cq_store.specs.Stands.{StoreKept}
use Rattle.cq_store_wire.specs.declared.part.Part.TheVariants as parts
use Rattle.cq_store_wire.specs.Building.{closed, fed, put, put_end, put_start, read_into}
use Rattle.cq_store_wire.specs.Layout.{chunk, part}
use Rattle.cq_store_wire.specs.Order.{all_clients, all_names, parts_of}
use Rattle.cq_store_wire.specs.Reading.{part_at, start_at}
use Rattle.cq_wire.specs.declared.fault.WireFault.TheVariants.{BadTag, BadNumber, BytesLeft, Truncated}
use Rattle.cq_wire.specs.Layout.{number32, number64, text, flag, optional, ask, request, entry, reply}
use Rattle.cq_wire.specs.Reading.{number_at, server_at, moment_at, whole_at, all_of}
use Rattle.cq_chain_wire.specs.declared.reader.Progress.TheVariants.{More, Whole}
use Rattle.cq_chain_wire.specs.Feeding.{all_fed, chunk_fed, end_fed, kind_fed, piece_fed, plain_fed}
use Rattle.cq_chain_wire.specs.Layout.{answer, message}
use Rattle.cq_chain_wire.specs.Pieces.{snapshot_end, snapshot_piece}
use Rattle.cq_chain_wire.specs.Reading.{report_at, message_at}

-- the number 7 in four bytes, and 258 in eight
seven : List ℕ
seven = 7 ∷ 0 ∷ 0 ∷ 0 ∷ []

many : List ℕ
many = 2 ∷ 1 ∷ 0 ∷ 0 ∷ 0 ∷ 0 ∷ 0 ∷ 0 ∷ []

-- the entry of moment 258 with request 258 of client 7, which removes q.fifo
entry_bytes : List ℕ
entry_bytes = many ++ (seven ++ (many ++ (1 ∷ 6 ∷ 0 ∷ 0 ∷ 0 ∷ 113 ∷ 46 ∷ 102 ∷ 105 ∷ 102 ∷ 111 ∷ [])))

the_fwd : message (kinds.Fwd 258 (record { moment = 258; request = record { client = 7; number = 258; ask = Remove (codes "q.fifo") } })) ≡ 0 ∷ (many ++ entry_bytes)
unfolding message entry request ask text number32 number64 seven many entry_bytes
the_fwd = refl

the_ack : message (kinds.Ack 258) ≡ 2 ∷ many
unfolding message number64 many
the_ack = refl

the_be_head : message kinds.BeHead ≡ 3 ∷ []
unfolding message
the_be_head = refl

the_report : message (kinds.Report 7) ≡ 4 ∷ seven
unfolding message number32 seven
the_report = refl

the_adopt : message (kinds.Adopt 7 258) ≡ 5 ∷ (seven ++ many)
unfolding message number32 number64 seven many
the_adopt = refl

the_be_tail : message (kinds.BeTail 258) ≡ 6 ∷ many
unfolding message number64 many
the_be_tail = refl

the_feed : message (kinds.Feed (Some 7)) ≡ 7 ∷ 1 ∷ seven
unfolding message optional number32 seven
the_feed = refl

the_feed_of_nobody : message (kinds.Feed None) ≡ 7 ∷ 0 ∷ []
unfolding message optional
the_feed_of_nobody = refl

the_have : message (kinds.Have 7 258) ≡ 8 ∷ (seven ++ many)
unfolding message number32 number64 seven many
the_have = refl

the_adopted : message (kinds.Adopted 7 258) ≡ 9 ∷ (seven ++ many)
unfolding message number32 number64 seven many
the_adopted = refl

the_caught : message (kinds.Caught 7 258) ≡ 10 ∷ (seven ++ many)
unfolding message number32 number64 seven many
the_caught = refl

the_ready : message kinds.Ready ≡ 11 ∷ []
unfolding message
the_ready = refl

the_answer : message (kinds.Answer (record { client = 7; number = 258; is_query = false; length = 258; reply = Sent 258 })) ≡ 12 ∷ (seven ++ (many ++ (0 ∷ (many ++ (2 ∷ many)))))
unfolding message answer reply flag number32 number64 seven many
the_answer = refl

-- a snapshot's byte is read as no message
no_snapshot : whole_at message_at (1 ∷ 1 ∷ []) ≡ Err BadTag
unfolding whole_at all_of message_at
no_snapshot = refl

no_server_0 : whole_at message_at (1 ∷ 4 ∷ 0 ∷ 0 ∷ 0 ∷ 0 ∷ []) ≡ Err BadNumber
unfolding whole_at all_of message_at report_at server_at number_at
no_server_0 = refl

-- ---- pieces

-- a store that took 258 entries, the last at moment 258, and has no client and no name
few : StoreKept
few = record { count = 258; last = 258; clients = []; queues = [] }

-- its parts, in one chunk and in two
its_parts : parts_of few ≡ parts.Start 258 258 ∷ parts.End ∷ []
unfolding parts_of all_clients all_names few
its_parts = refl

the_whole_store : snapshot_piece (parts.Start 258 258 ∷ parts.End ∷ []) ≡ 1 ∷ 1 ∷ 1 ∷ 0 ∷ (many ++ (many ++ (5 ∷ [])))
unfolding snapshot_piece chunk part number64 many
the_whole_store = refl

the_two_chunks : map snapshot_piece ((parts.Start 258 258 ∷ []) ∷ (parts.End ∷ []) ∷ []) ≡ (1 ∷ 1 ∷ 1 ∷ 0 ∷ (many ++ many)) ∷ (1 ∷ 1 ∷ 1 ∷ 5 ∷ []) ∷ []
unfolding snapshot_piece chunk part number64 many
the_two_chunks = refl

the_end : snapshot_end ≡ 1 ∷ 13 ∷ []
unfolding snapshot_end
the_end = refl

-- both are read as the snapshot
started : List ℕ
started = 1 ∷ 1 ∷ 1 ∷ 0 ∷ (many ++ many)

read_whole : all_fed ((started ++ 5 ∷ []) ∷ (1 ∷ 13 ∷ []) ∷ []) (More None) ≡ Ok (Whole (kinds.Snap few))
unfolding all_fed piece_fed kind_fed chunk_fed end_fed fed read_into part_at start_at number_at moment_at put put_start put_end closed started many few
read_whole = refl

read_in_two : all_fed (started ∷ (1 ∷ 1 ∷ 1 ∷ 5 ∷ []) ∷ (1 ∷ 13 ∷ []) ∷ []) (More None) ≡ Ok (Whole (kinds.Snap few))
unfolding all_fed piece_fed kind_fed chunk_fed end_fed fed read_into part_at start_at number_at moment_at put put_start put_end closed started many few
read_in_two = refl

-- no plain message is within a snapshot, no end before its store's, and none without one
no_plain_within : all_fed (started ∷ (1 ∷ 3 ∷ []) ∷ []) (More None) ≡ Err BadTag
unfolding all_fed piece_fed kind_fed chunk_fed plain_fed fed read_into part_at start_at number_at moment_at put put_start started many
no_plain_within = refl

no_end_within : all_fed (started ∷ (1 ∷ 13 ∷ []) ∷ []) (More None) ≡ Err Truncated
unfolding all_fed piece_fed kind_fed chunk_fed end_fed fed read_into part_at start_at number_at moment_at put put_start started many
no_end_within = refl

no_end_alone : all_fed ((1 ∷ 13 ∷ []) ∷ []) (More None) ≡ Err BadTag
unfolding all_fed piece_fed kind_fed end_fed
no_end_alone = refl

-- no piece is behind a whole message
nothing_behind : all_fed ((1 ∷ 3 ∷ []) ∷ (1 ∷ 3 ∷ []) ∷ []) (More None) ≡ Err BytesLeft
unfolding all_fed piece_fed kind_fed plain_fed all_of message_at
nothing_behind = refl
