-- Messages that are put for servers, and what is told of them.
use Rattle.std.specs.Prelude.{◌≡◌, ℕ, ◌+◌, ◌<◌, ◌≤◌, List, [], ◌∷◌, ◌++◌, map, Bool, true, false, ⊤}
use Rattle.cq_base.specs.declared.party.Party.{Party}
use Rattle.cq_base.specs.declared.party.Party.TheVariants as parties
use Rattle.cq_chain.specs.declared.message.Message as rust
use Rattle.cq_chain.specs.Messages.{Message}
use Rattle.cq_chain.specs.Stands.{drained}
use Rattle.cq_chain_wire.specs.Limits.{IsMessage}
use Rattle.cq_events.specs.Actions.{Action, Put}
use Rattle.cq_frames.specs.declared.number.PieceNumber.{PieceNumber}
use Rattle.cq_frames.specs.declared.response.Response.{Response}
use Rattle.cq_frames.specs.declared.response.Response.TheVariants as responses
use Rattle.cq_frames.specs.Limits.{IsResponse}
use Rattle.cq_master_process.specs.declared.process.MasterProcess.{MasterProcess}
use Rattle.cq_master_process.specs.Cores.{ActsAll, piece_of}
use Rattle.cq_master_process.specs.Links.{counted, gone_of, put_of, taken_of}
use Rattle.cq_process.specs.declared.outgoing.TheConstants.{LINK_LIMIT}
use Rattle.cq_process_frames.specs.Frames.{frame}

-- A message that is put for a server.
pub record Sent : Type 0 where
  pub to : ℕ
  pub message : rust.Message

abbrev pub sent_to : ℕ → rust.Message → Sent
sent_to to message = record { to = to; message = message }

-- the action that it is
abbrev pub action_of : Sent → Action
action_of x = Put (parties.Server x.to) x.message

-- the number of the only piece of the message of that number
abbrev pub only_piece : ℕ → PieceNumber
only_piece number = record { message = number; index = 0 }

-- the response that tells of it, by its number
abbrev pub response_of : Sent → ℕ → Response
response_of x number = responses.Put (parties.Server x.to) (only_piece number) (piece_of x.message)

-- what is told of it: nothing, where the server is gone
abbrev pub told_of : Bool → Sent → ℕ → List ℕ
told_of true x number = []
told_of false x number = frame (response_of x number)

-- what is told has bytes that are read as just that
abbrev pub IsTold : Bool → Sent → ℕ → Type 0
IsTold true x number = ⊤
IsTold false x number = IsMessage x.message × IsResponse (response_of x number)

-- ---- one after another, from the numbers that were before them

-- each counts
abbrev pub counted_all : (ℕ → ℕ) → List Sent → ℕ → ℕ
counted_all numbers [] = numbers
counted_all numbers (x ∷ xs) = counted_all (counted numbers x.to) xs

-- each is told under its number, which is one above the last
abbrev pub told_all : (ℕ → Bool) → (ℕ → ℕ) → List Sent → List ℕ
told_all are_gone numbers [] = []
told_all are_gone numbers (x ∷ xs) = told_of (are_gone x.to) x (numbers x.to + 1) ++ told_all are_gone (counted numbers x.to) xs

-- no link has more messages than it has numbers
abbrev pub AllFit : (ℕ → Bool) → (ℕ → ℕ) → List Sent → Type 0
AllFit are_gone numbers [] = ⊤
AllFit are_gone numbers (x ∷ xs) = (numbers x.to < LINK_LIMIT) × (IsTold (are_gone x.to) x (numbers x.to + 1) × AllFit are_gone (counted numbers x.to) xs)

-- they are for servers in the order of their numbers, from one number on to another
abbrev pub AreInOrder : ℕ → List Sent → ℕ → Type 0
AreInOrder least [] most = least ≤ most
AreInOrder least (x ∷ xs) most = (least ≤ x.to) × AreInOrder x.to xs most

-- what still waits for each party behind them
abbrev pub left_of : (Party → List Message) → List Sent → Party → List Message
left_of outbox [] = outbox
left_of outbox (x ∷ xs) = left_of (drained outbox (parties.Server x.to)) xs

-- Messages are put one after another, and told.
pub record Puts (p q : MasterProcess) (messages : List Sent) (told : List ℕ) : Type 0 where
  pub done : ActsAll (map action_of messages) p.core q.core
  pub put : put_of q.links ≡ counted_all (put_of p.links) messages
  pub is : told ≡ told_all (gone_of p.links) (put_of p.links) messages
  pub fits : AllFit (gone_of p.links) (put_of p.links) messages
  pub taken : taken_of q.links ≡ taken_of p.links
  pub gone : gone_of q.links ≡ gone_of p.links
