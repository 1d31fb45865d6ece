-- The line that tells what a chain holds: JSON with no space, the keys of an object in the order of their bytes, and a line
-- feed at the end.
use Rattle.std.specs.Prelude.{ℕ, List, [], ◌∷◌, ◌++◌, Bool, codes, map, Option, None, Some}
use Rattle.serde_json.specs.Data.{Data, null, boolean, number, unsigned, string, array, object, no_members, member}
use Rattle.serde_json.specs.View.{items_of}
use Rattle.serde_json.specs.Written.{compact_text}
use Rattle.cq_base.specs.declared.party.Party.{Party}
use Rattle.cq_base.specs.declared.party.Party.TheVariants.{Master, Clients, Server}
use Rattle.cq_show_line.specs.declared.shown.MessageKind.{MessageKind}
use Rattle.cq_show_line.specs.declared.shown.MessageKind.TheVariants as kinds
use Rattle.cq_show_line.specs.declared.shown.NextMessage.{NextMessage}
use Rattle.cq_show_line.specs.declared.shown.ShownServer.{ShownServer}
use Rattle.cq_show_line.specs.declared.shown.Way.{Way}

-- the name of a kind of message
abbrev pub kind_name : MessageKind → List ℕ
kind_name kinds.Fwd = codes "Fwd"
kind_name kinds.Snap = codes "Snap"
kind_name kinds.Ack = codes "Ack"
kind_name kinds.BeHead = codes "BeHead"
kind_name kinds.Report = codes "Report"
kind_name kinds.Adopt = codes "Adopt"
kind_name kinds.BeTail = codes "BeTail"
kind_name kinds.Feed = codes "Feed"
kind_name kinds.Have = codes "Have"
kind_name kinds.Adopted = codes "Adopted"
kind_name kinds.Caught = codes "Caught"
kind_name kinds.Ready = codes "Ready"
kind_name kinds.Answer = codes "Answer"

-- a number, if there is one
abbrev pub number_or_null : Option ℕ → Data
number_or_null None = null
number_or_null (Some n) = number (unsigned n)

-- a server by its number, and each other party by its name
abbrev pub party_data : Party → Data
party_data Master = string (codes "master")
party_data Clients = string (codes "clients")
party_data (Server id) = number (unsigned id)

-- a message that leaves an outbox next
abbrev pub message_data : NextMessage → Data
message_data m = object
    (member (codes "kind") (string (kind_name m.kind))
    (member (codes "number") (number (unsigned m.number)) no_members))

-- the same, if there is one
abbrev pub next_data : Option NextMessage → Data
next_data None = null
next_data (Some m) = message_data m

-- what is on its way from one party to another
abbrev pub way_data : Way → Data
way_data p = object
    (member (codes "from") (party_data p.from)
    (member (codes "next") (next_data p.next)
    (member (codes "stands") (number (unsigned p.stands))
    (member (codes "to") (party_data p.to)
    (member (codes "waits") (number (unsigned p.waits)) no_members)))))

-- all that is on its way
abbrev pub ways_data : List Way → Data
ways_data ps = array (items_of (map way_data ps))

-- one server
abbrev pub server_data : ShownServer → Data
server_data s = object
    (member (codes "acked") (number (unsigned s.acked))
    (member (codes "acts") (boolean s.is_acting)
    (member (codes "count") (number (unsigned s.count))
    (member (codes "down") (boolean s.is_down)
    (member (codes "full") (boolean s.is_full)
    (member (codes "head") (boolean s.is_head)
    (member (codes "server") (number (unsigned s.id)) no_members)))))))

-- all servers
abbrev pub servers_data : List ShownServer → Data
servers_data ss = array (items_of (map server_data ss))

-- a number
abbrev pub id_data : ℕ → Data
id_data id = number (unsigned id)

-- the members of a chain by their numbers, head first
abbrev pub chain_data : List ℕ → Data
chain_data ids = array (items_of (map id_data ids))

-- all that is told of a chain: its members, the server that joins, whether the master knows that the last member acts, the servers,
-- and what is on its way
unfoldable pub shown_data : List ℕ → Option ℕ → Bool → List ShownServer → List Way → Data
shown_data chain joiner ready servers ways = object
    (member (codes "chain") (chain_data chain)
    (member (codes "joins") (number_or_null joiner)
    (member (codes "kind") (string (codes "show"))
    (member (codes "ready") (boolean ready)
    (member (codes "servers") (servers_data servers)
    (member (codes "ways") (ways_data ways) no_members))))))

-- the line that tells it
abbrev pub shown_text : List ℕ → Option ℕ → Bool → List ShownServer → List Way → List ℕ
shown_text chain joiner ready servers ways = compact_text (shown_data chain joiner ready servers ways) ++ 10 ∷ []
