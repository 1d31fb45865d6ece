-- The parties at the places of a node's ends, and the messages that wait there.
use Rattle.std.specs.Prelude.{◌==◌, ◌+◌, ℕ, List, [], ◌∷◌, ◌++◌, length, map, slice_get, Bool, true, false, if◌then◌else◌, Option, None, Some}
use Rattle.cq_base.specs.declared.party.Party.{Party}
use Rattle.cq_base.specs.declared.party.Party.TheVariants as parties
use Rattle.cq_chain.specs.declared.message.Message.{Message}
use Rattle.cq_chain.specs.declared.message.Message.TheVariants as stored
use Rattle.cq_chain.specs.Parties.{same}
use Rattle.cq_nodes.specs.declared.ends.In.{In}
use Rattle.cq_nodes.specs.declared.ends.Out.{Out}

-- the master is at place 0, and each server at its number
abbrev pub party_at : ℕ → Party
party_at place = if place == 0 then parties.Master else parties.Server place

-- a message, if there is one
abbrev pub listed : Option Message → List Message
listed None = []
listed (Some x) = x ∷ []

-- with that handed back for one party
abbrev pub with_back : (Party → Option Message) → Party → Option Message → Party → Option Message
with_back back to o p = if same p to then o else back p

-- the second of the two clients is that of id 2
abbrev pub is_for_second : Message → Bool
is_for_second (stored.Answer answer) = answer.client == 2
is_for_second message = false

-- a message if it goes to the second client, or if it goes to the first
abbrev pub if_for : Bool → Message → List Message
if_for true x = if is_for_second x then x ∷ [] else []
if_for false x = if is_for_second x then [] else x ∷ []

-- what goes to the second client, or what goes to the first, in order
abbrev pub of_client : Bool → List Message → List Message
of_client second [] = []
of_client second (x ∷ xs) = if_for second x ++ of_client second xs

-- how many messages were taken at these ends and not read
abbrev pub unread_in : {T : Type 0} → List (In T) → ℕ
unread_in [] = 0
unread_in (end ∷ ins) = length (listed end.unread) + unread_in ins

-- the ends alone
abbrev pub in_ends_of : {T : Type 0} → List (In T) → List T
in_ends_of ins = map (λ end. end.end) ins

module _ {P : Type 0} where
  abbrev pub ends_of : List (Out P) → List P
  ends_of outs = map (λ out. out.end) outs

  -- what was handed back at an end, if there is that end
  abbrev pub kept_at : Option (Out P) → Option Message
  kept_at None = None
  kept_at (Some out) = out.kept

  -- what was handed back for each party, of these ends and of the links to the clients
  abbrev pub back_of : List (Out P) → Option Message → Party → Option Message
  back_of outs kept parties.Master = kept_at (slice_get outs 0)
  back_of outs kept parties.Clients = kept
  back_of outs kept (parties.Server id) = if id == 0 then None else kept_at (slice_get outs id)
