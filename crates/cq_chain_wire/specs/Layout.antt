-- The bytes of each message but a snapshot, which comes in pieces (`Pieces`).
use Rattle.std.specs.Prelude.{ℕ, List, [], ◌∷◌, ◌++◌}
use Rattle.cq_chain.specs.declared.message.Answer.{Answer}
use Rattle.cq_chain.specs.declared.message.Message.{Message}
use Rattle.cq_chain.specs.declared.message.Message.TheVariants as kinds
use Rattle.cq_wire.specs.Layout.{number32, number64, flag, optional, entry, reply}

unfoldable pub answer : Answer → List ℕ
answer a = number32 a.client ++ (number64 a.number ++ (flag a.is_query ++ (number64 a.length ++ reply a.reply)))

-- A byte for the kind, and the parts in their order. A snapshot has no bytes here: 1 and 13 are kept for its pieces.
unfoldable pub message : Message → List ℕ
message (kinds.Fwd place one) = 0 ∷ (number64 place ++ entry one)
message (kinds.Snap state) = []
message (kinds.Ack place) = 2 ∷ number64 place
message kinds.BeHead = 3 ∷ []
message (kinds.Report pred) = 4 ∷ number32 pred
message (kinds.Adopt succ have) = 5 ∷ (number32 succ ++ number64 have)
message (kinds.BeTail least) = 6 ∷ number64 least
message (kinds.Feed succ) = 7 ∷ optional number32 succ
message (kinds.Have pred count) = 8 ∷ (number32 pred ++ number64 count)
message (kinds.Adopted succ count) = 9 ∷ (number32 succ ++ number64 count)
message (kinds.Caught pred count) = 10 ∷ (number32 pred ++ number64 count)
message kinds.Ready = 11 ∷ []
message (kinds.Answer a) = 12 ∷ answer a
