-- The master of the chain, which does not fail: it learns of crashes, and tells servers their neighbours.
use Rattle.std.specs.Prelude.{ℕ, zero, suc, ◌+◌, ◌==◌, ◌&&◌, ◌||◌, List, [], ◌∷◌, ◌++◌, length, Bool, true, false, not, nat_lt, if◌then◌else◌, Option, None, Some, is_none}
use Rattle.std.specs.List.{filter, list_any}
use Rattle.cq_base.specs.declared.party.Party.{Party}
use Rattle.cq_base.specs.declared.party.Party.TheVariants as parties
use Rattle.cq_chain.specs.declared.fault.WorldFault.{WorldFault}
use Rattle.cq_chain.specs.declared.fault.WorldFault.TheVariants.{NoSuchServer, LastFull, JoinPending, IdUsed, ChainFull}
use Rattle.cq_chain.specs.Messages.{Message, BeHead, Report, Adopt, BeTail, Feed, Have, Adopted, Caught, Ready}
use Rattle.cq_chain.specs.Parties.{is_that}

-- What the master knows (van Renesse and Schneider, section 3; that a member is told and gets ready in two steps, and
-- that a server which joins becomes a member once it holds the state, are choices of this project).
pub record Master : Type 0 where
  -- the members of the chain, head first
  pub chain : List ℕ
  -- the last member was told that it is the tail
  pub told : Bool
  -- the last member acts
  pub ready : Bool
  -- a server that joins, and isn't a member yet
  pub joiner : Option ℕ
  -- all numbers that a server ever had
  pub used : List ℕ

-- so many numbers from that one on
unfoldable pub numbers_from : ℕ → ℕ → List ℕ
numbers_from k zero = []
numbers_from k (suc n) = k ∷ numbers_from (k + 1) n

-- the master of the first chain, of so many servers
abbrev pub first_master : ℕ → Master
first_master size = record { chain = numbers_from 1 size; told = true; ready = true; joiner = None; used = numbers_from 1 size }

-- What the master does: what it knows afterwards, and what it says.
pub record Order : Type 0 where
  pub master : Master
  pub said : List (Party × Message)

-- it says nothing, and nothing changes
abbrev pub no_order : Master → Order
no_order m = record { master = m; said = [] }

-- whether a number is one of these
abbrev pub is_in : List ℕ → ℕ → Bool
is_in ids id = list_any (λ other. other == id) ids

-- whether it is the last of these
abbrev pub is_last : List ℕ → ℕ → Bool
is_last [] id = false
is_last (a ∷ []) id = a == id
is_last (a ∷ b ∷ rest) id = is_last (b ∷ rest) id

-- whether one stands directly before another
abbrev pub stands_before : ℕ → ℕ → List ℕ → Bool
stands_before p s [] = false
stands_before p s (a ∷ []) = false
stands_before p s (a ∷ b ∷ rest) = a == p && b == s || stands_before p s (b ∷ rest)

-- ---- detections

-- without one of them
abbrev pub without : ℕ → List ℕ → List ℕ
without id ids = filter (λ other. not (other == id)) ids

-- what is said when a member that stands behind p is gone: its successor is told its new predecessor, and where it was
-- the last, p is told that it is the tail
abbrev pub closing : ℕ → ℕ → List ℕ → List (Party × Message)
closing p id [] = []
closing p id (a ∷ []) = if a == id then (parties.Server p, BeTail 0) ∷ [] else []
closing p id (a ∷ b ∷ rest) = if a == id then (parties.Server b, Report p) ∷ [] else closing a id (b ∷ rest)

-- what is said when a member is gone: where it was the head, the next one is told that it is the head
abbrev pub said_of_loss : ℕ → List ℕ → List (Party × Message)
said_of_loss id [] = []
said_of_loss id (a ∷ []) = []
said_of_loss id (a ∷ b ∷ rest) = if a == id then (parties.Server b, BeHead) ∷ [] else closing a id (b ∷ rest)

-- what is said to the last member
abbrev pub to_last : Message → List ℕ → List (Party × Message)
to_last m [] = []
to_last m (a ∷ []) = (parties.Server a, m) ∷ []
to_last m (a ∷ b ∷ rest) = to_last m (b ∷ rest)

-- The server that joins is lost: the last member is told to feed nobody any more.
abbrev pub dropped : Master → Order
dropped m = record { master = record m { joiner = None }; said = to_last (Feed None) m.chain }

-- A member is lost. A new last member is told in this step, and isn't ready yet; a server that joined behind the old one
-- is dropped for good.
abbrev pub closed_up : ℕ → Master → Order
closed_up id m = record {
  master = record m {
    chain = without id m.chain;
    told = is_last m.chain id || m.told;
    ready = not (is_last m.chain id) && m.ready;
    joiner = if is_last m.chain id then None else m.joiner;
  };
  said = said_of_loss id m.chain;
}

-- The master learns that the server that joins has crashed, or that a member has, while others remain.
unfoldable pub detected : ℕ → Master → Order
detected id m = if is_that m.joiner id then dropped m else closed_up id m

-- why a detection is refused, if it is
unfoldable pub refusal_of_detection : ℕ → Master → Option WorldFault
refusal_of_detection id m = if is_that m.joiner id then None else if not (is_in m.chain id) then Some NoSuchServer else if nat_lt 1 (length m.chain) then None else Some LastFull

-- ---- joins

-- a new server is told the last member as its predecessor
abbrev pub said_of_join : ℕ → List ℕ → List (Party × Message)
said_of_join id [] = []
said_of_join id (a ∷ []) = (parties.Server id, Report a) ∷ []
said_of_join id (a ∷ b ∷ rest) = said_of_join id (b ∷ rest)

-- A new server joins behind the last member. It is no member before it holds the state.
unfoldable pub joined : ℕ → Master → Order
joined id m = record {
  master = record m { joiner = Some id; used = m.used ++ id ∷ [] };
  said = said_of_join id m.chain;
}

-- the most members of a chain
abbrev pub most_members : ℕ
most_members = 8

-- why a join is refused, if it is
unfoldable pub refusal_of_join : ℕ → Master → Option WorldFault
refusal_of_join id m = if is_in m.used id then Some IdUsed else if not (nat_lt (length m.chain) most_members) then Some ChainFull else if m.ready && is_none m.joiner then None else Some JoinPending

-- ---- messages

-- the server joins behind that one, which is the last member
abbrev pub joins_behind : ℕ → ℕ → Master → Bool
joins_behind p from m = is_that m.joiner from && is_last m.chain p

-- The server that joins is put at the end of the chain, and the old last member hands over to it.
abbrev pub admitted : ℕ → ℕ → ℕ → Master → Order
admitted p from count m = record {
  master = record m { chain = m.chain ++ from ∷ []; told = false; ready = false; joiner = None };
  said = (parties.Server p, Adopt from count) ∷ [];
}

-- What the master does with a message of that server. It ignores what is out of date.
unfoldable pub hears : ℕ → Message → Master → Order
hears from (Have p count) m =
    if stands_before p from m.chain then record { master = m; said = (parties.Server p, Adopt from count) ∷ [] }
    else if joins_behind p from m then record { master = m; said = (parties.Server p, Feed (Some from)) ∷ [] } else no_order m
hears from (Caught p count) m = if joins_behind p from m then admitted p from count m else no_order m
hears from (Adopted s count) m = if is_last m.chain s && not m.told then record { master = record m { told = true }; said = (parties.Server s, BeTail count) ∷ [] } else no_order m
hears from Ready m = if is_last m.chain from then record { master = record m { ready = true }; said = [] } else no_order m
hears from other m = no_order m

-- the same for a message of any party: it hears servers alone
abbrev pub hears_from : Party → Message → Master → Order
hears_from (parties.Server from) message m = hears from message m
hears_from parties.Master message m = no_order m
hears_from parties.Clients message m = no_order m
