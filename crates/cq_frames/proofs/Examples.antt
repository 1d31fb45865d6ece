-- Worked layouts, one for each kind of command and of response, and what is read of bytes that are none.
use Rattle.std.proofs.Common.{◌≡◌, ℕ, true, false, Some, None, List, [], ◌∷◌, ◌++◌, Ok, Err, refl}
use Rattle.std.specs.Prelude.{codes}
use Rattle.cq_base.specs.declared.ask.Ask.TheVariants.{Remove}
use Rattle.cq_base.specs.declared.party.Party.TheVariants.{Master, Clients, Server}
use Rattle.cq_frames.specs.declared.command.Command.TheVariants as commands
use Rattle.cq_frames.specs.declared.response.Response.TheVariants as responses
use Rattle.cq_frames.specs.Frames.{frame_at}
use Rattle.cq_frames.specs.Layout.{party, piece_number, command, response, standing}
use Rattle.cq_frames.specs.Reading.{party_at, more_at, command_at, response_at}
use Rattle.cq_frames.specs.Streams.{stream_at, stream_of}
use Rattle.cq_wire.specs.declared.fault.WireFault.TheVariants.{BadTag, BytesLeft, Truncated}
use Rattle.cq_wire.specs.Layout.{number32, number64, text, flag, ask, request, query}
use Rattle.cq_wire.specs.Reading.{whole_at, all_of, number_at, bytes_at}

-- the number 7 in four bytes, and 258 and 3 in eight
seven : List ℕ
seven = 7 ∷ 0 ∷ 0 ∷ 0 ∷ []

many : List ℕ
many = 2 ∷ 1 ∷ 0 ∷ 0 ∷ 0 ∷ 0 ∷ 0 ∷ 0 ∷ []

three : List ℕ
three = 3 ∷ 0 ∷ 0 ∷ 0 ∷ 0 ∷ 0 ∷ 0 ∷ 0 ∷ []

-- a name behind its length
name : List ℕ
name = 6 ∷ 0 ∷ 0 ∷ 0 ∷ 113 ∷ 46 ∷ 102 ∷ 105 ∷ 102 ∷ 111 ∷ []

the_arrival : command (commands.Arrive 3 258 (record { client = 7; number = 258; ask = Remove (codes "q.fifo") })) ≡ 0 ∷ (three ++ (many ++ (seven ++ (many ++ (1 ∷ name)))))
unfolding command request ask text number32 number64 seven many three name
the_arrival = refl

-- the stream of an arrival is there before the rest of it, where its number is whole
the_stream : stream_of (1 ∷ 0 ∷ (three ++ (9 ∷ []))) ≡ Some 3
unfolding stream_of stream_at number_at three
the_stream = refl

half_a_stream : stream_of (1 ∷ 0 ∷ 3 ∷ 0 ∷ 0 ∷ []) ≡ None
unfolding stream_of stream_at number_at
half_a_stream = refl

no_stream_of_a_query : stream_of (1 ∷ 1 ∷ many) ≡ None
unfolding stream_of stream_at many
no_stream_of_a_query = refl

no_stream_of_version_2 : stream_of (2 ∷ 0 ∷ three) ≡ None
unfolding stream_of three
no_stream_of_version_2 = refl

the_query : command (commands.Ask (record { client = 7; tag = 258; queue = codes "q.fifo" })) ≡ 1 ∷ (seven ++ (many ++ name))
unfolding command query text number32 number64 seven many name
the_query = refl

the_take : command (commands.Take (Server 7) (record { message = 258; index = 3 }) (1 ∷ 2 ∷ [])) ≡ 2 ∷ 2 ∷ (seven ++ (many ++ (three ++ (2 ∷ 0 ∷ 0 ∷ 0 ∷ 1 ∷ 2 ∷ []))))
unfolding command party piece_number text number32 number64 seven many three
the_take = refl

the_detection : command (commands.Detect 7) ≡ 3 ∷ seven
unfolding command number32 seven
the_detection = refl

the_join : command (commands.Join 7) ≡ 4 ∷ seven
unfolding command number32 seven
the_join = refl

the_more : command (commands.More Clients) ≡ 5 ∷ 1 ∷ []
unfolding command party
the_more = refl

the_gone : command (commands.Gone 7) ≡ 6 ∷ seven
unfolding command number32 seven
the_gone = refl

the_save : command commands.Save ≡ 7 ∷ []
unfolding command
the_save = refl

the_load : command (commands.Load (1 ∷ 2 ∷ [])) ≡ 8 ∷ 2 ∷ 0 ∷ 0 ∷ 0 ∷ 1 ∷ 2 ∷ []
unfolding command text number32
the_load = refl

the_put : response (responses.Put Master (record { message = 258; index = 3 }) (1 ∷ 2 ∷ [])) ≡ 0 ∷ 0 ∷ (many ++ (three ++ (2 ∷ 0 ∷ 0 ∷ 0 ∷ 1 ∷ 2 ∷ [])))
unfolding response party piece_number text number32 number64 many three
the_put = refl

the_refusal : response (responses.Refused 7) ≡ 1 ∷ seven
unfolding response number32 seven
the_refusal = refl

the_unread : response (responses.Unread 7) ≡ 2 ∷ seven
unfolding response number32 seven
the_unread = refl

the_waiting : response (responses.Waiting (Server 7)) ≡ 3 ∷ 2 ∷ seven
unfolding response party number32 seven
the_waiting = refl

the_saved : response (responses.Saved 258 (1 ∷ 2 ∷ [])) ≡ 4 ∷ (many ++ (2 ∷ 0 ∷ 0 ∷ 0 ∷ 1 ∷ 2 ∷ []))
unfolding response text number32 number64 many
the_saved = refl

the_done : response (responses.Done (record { count = 258; acked = 258; last = 258; is_head = true; is_acting = false; is_full = true })) ≡ 5 ∷ (many ++ (many ++ (many ++ (1 ∷ 0 ∷ 1 ∷ []))))
unfolding response standing flag number64 many
the_done = refl

the_heard : response responses.Heard ≡ 6 ∷ []
unfolding response
the_heard = refl

-- bytes that are of none
no_command_9 : whole_at command_at (1 ∷ 9 ∷ []) ≡ Err BadTag
unfolding whole_at all_of command_at
no_command_9 = refl

no_party_3 : whole_at command_at (1 ∷ 5 ∷ 3 ∷ []) ≡ Err BadTag
unfolding whole_at all_of command_at more_at party_at
no_party_3 = refl

nothing_behind_save : whole_at command_at (1 ∷ 7 ∷ 0 ∷ []) ≡ Err BytesLeft
unfolding whole_at all_of command_at
nothing_behind_save = refl

no_response_7 : whole_at response_at (1 ∷ 7 ∷ []) ≡ Err BadTag
unfolding whole_at all_of response_at
no_response_7 = refl

-- a frame of two bytes, and one that isn't whole
a_frame : frame_at (2 ∷ 0 ∷ 0 ∷ 0 ∷ 8 ∷ 9 ∷ 5 ∷ []) ≡ Ok (8 ∷ 9 ∷ [], 5 ∷ [])
unfolding frame_at number_at bytes_at
a_frame = refl

half_a_frame : frame_at (2 ∷ 0 ∷ 0 ∷ 0 ∷ 8 ∷ []) ≡ Err Truncated
unfolding frame_at number_at bytes_at
half_a_frame = refl
