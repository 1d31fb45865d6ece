-- Responses as frames.
use Rattle.std.specs.Prelude.{◌≡◌, ℕ, List, [], ◌∷◌, ◌++◌, Result, Ok, Err}
use Rattle.cq_base.specs.declared.party.Party.{Party}
use Rattle.cq_chain.specs.declared.server.Server.{Server}
use Rattle.cq_frames.specs.declared.response.Response.{Response}
use Rattle.cq_frames.specs.declared.response.Response.TheVariants.{Put}
use Rattle.cq_frames.specs.Layout.{party, response}
use Rattle.cq_process.specs.declared.outgoing.PutFault.{PutFault}
use Rattle.cq_process.specs.declared.outgoing.Written.{Written}
use Rattle.cq_process.specs.declared.outgoing.Written.TheVariants as written_as
use Rattle.cq_process.specs.Links.{PutsAt}
use Rattle.cq_process.specs.Outgoing.{End}
use Rattle.cq_wire.specs.declared.version.TheConstants.{VERSION}
use Rattle.cq_wire.specs.Layout.{text, whole}

-- a response as a frame
abbrev pub frame : Response → List ℕ
frame one = text (whole response one)

-- what stands in a piece's frame between its length and its number
abbrev pub mark : Party → List ℕ
mark to = VERSION ∷ 0 ∷ party to

-- what stands before a piece, with zeros for its lengths and its number
abbrev pub front : Party → List ℕ
front to = 0 ∷ 0 ∷ 0 ∷ 0 ∷ (mark to ++ 0 ∷ 0 ∷ 0 ∷ 0 ∷ 0 ∷ 0 ∷ 0 ∷ 0 ∷ 0 ∷ 0 ∷ 0 ∷ 0 ∷ 0 ∷ 0 ∷ 0 ∷ 0 ∷ 0 ∷ 0 ∷ 0 ∷ 0 ∷ [])

-- what is told of a piece for a party: nothing, where none is written
abbrev pub told_of : Party → Result Written PutFault → List ℕ → List ℕ
told_of to (Ok written_as.Nothing) piece = []
told_of to (Ok (written_as.Piece number)) piece = frame (Put to number piece)
told_of to (Ok (written_as.Message number)) piece = frame (Put to number piece)
told_of to (Err fault) piece = []

-- A piece for the party is written, if one is, and told behind the bytes as a frame.
pub record PutsFrame (before after : List (Party × End)) (a b : Server) (to : Party) (old new : List ℕ) (result : Result Written PutFault) : Type 0 where
  pub piece : List ℕ
  pub puts : PutsAt before after a b to [] piece result
  pub told : new ≡ old ++ told_of to result piece
