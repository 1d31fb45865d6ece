-- Short lists of deeds, and what is read off them by the definitions.
use Rattle.std.proofs.Common.{◌≡◌, List, [], ◌∷◌, None, Some, refl}
use Rattle.cq_base.specs.declared.party.Party.TheVariants.{Master, Clients, Server}
use Rattle.cq_chain.specs.declared.message.Message.TheVariants as stored
use Rattle.cq_events.specs.Actions.{Put, Took, put_to, taken_from}
use Rattle.cq_frames.specs.declared.response.Response.TheVariants as responses
use Rattle.cq_process_laws.specs.Deeds.{Came, Deed, Ended, Missed, Read, Rested, Threw, Told, actions_in, responses_in}
use Rattle.cq_process_laws.specs.Passing.{number_at, of_message, pieces_for, placed, refusal_of}
use Rattle.cq_process_laws.proofs.Coming.{pieces_from}

-- A piece comes from server 1 and is read, one is out of turn, and the next one is taken when it comes again. To server 3 a message of two
-- pieces is put, and another one is begun. The master is put a message of one piece. What is for server 4, which is gone, is thrown away.
some : List Deed
some = Rested ∷ Came (Server 1) (number_at 1 0) (7 ∷ []) ∷ Missed (Server 1) (number_at 1 2) (8 ∷ []) 45 ∷ Missed (Server 1) (number_at 1 1) (9 ∷ []) 20 ∷ Read (Server 1) (number_at 1 1) (9 ∷ []) stored.BeHead
    ∷ Told (Server 3) (number_at 1 0) (4 ∷ []) ∷ Ended Master (number_at 1 0) (5 ∷ []) stored.Ready ∷ Ended (Server 3) (number_at 1 1) (6 ∷ []) stored.BeHead
    ∷ Threw (Server 4) (stored.Ready ∷ stored.BeHead ∷ []) ∷ Told (Server 3) (number_at 2 0) (4 ∷ []) ∷ []

-- the message that was taken, then all that were put, those too that were thrown away
actions-some : actions_in some ≡ Took (Server 1) stored.BeHead ∷ Put Master stored.Ready ∷ Put (Server 3) stored.BeHead ∷ Put (Server 4) stored.Ready ∷ Put (Server 4) stored.BeHead ∷ []
unfolding some
actions-some = refl

puts-some : put_to (Server 3) (actions_in some) ≡ stored.BeHead ∷ []
unfolding some
puts-some = refl

takes-some : taken_from (Server 1) (actions_in some) ≡ stored.BeHead ∷ []
unfolding some
takes-some = refl

-- no piece is told of what was thrown away
responses-some : responses_in some
    ≡ responses.Put (Server 3) (number_at 1 0) (4 ∷ []) ∷ responses.Put Master (number_at 1 0) (5 ∷ []) ∷ responses.Put (Server 3) (number_at 1 1) (6 ∷ []) ∷ responses.Put (Server 3) (number_at 2 0) (4 ∷ []) ∷ []
unfolding some
responses-some = refl

-- the pieces of one message for one party, and the first of the next one
whole-some : of_message 1 (pieces_for (Server 3) (responses_in some)) ≡ (0, 4 ∷ []) ∷ (1, 6 ∷ []) ∷ []
unfolding some
whole-some = refl

front-some : of_message 2 (pieces_for (Server 3) (responses_in some)) ≡ (0, 4 ∷ []) ∷ []
unfolding some
front-some = refl

-- what came from a server in turn; one piece came again behind a refusal
came-some : pieces_from (Server 1) some ≡ (number_at 1 0, 7 ∷ []) ∷ (number_at 1 1, 9 ∷ []) ∷ (number_at 1 1, 9 ∷ []) ∷ []
unfolding some
came-some = refl

-- two texts at their places
placed-two : placed 0 ((7 ∷ []) ∷ (9 ∷ []) ∷ []) ≡ (0, 7 ∷ []) ∷ (1, 9 ∷ []) ∷ []
placed-two = refl

-- a command that was refused, one that wasn't read, and one behind which a party waits
refused-so : refusal_of None (responses.Refused 45 ∷ []) ≡ Some 45
refused-so = refl

unread-so : refusal_of None (responses.Unread 92 ∷ []) ≡ Some 92
unread-so = refl

waiting-so : refusal_of None (responses.Put Master (number_at 1 0) (5 ∷ []) ∷ responses.Waiting Clients ∷ []) ≡ None
waiting-so = refl
