-- What is shown of a world.
use Rattle.std.specs.Prelude.{ℕ, List, [], ◌∷◌, ◌++◌, Bool, length, map, nat_lt, ◌||◌, if◌then◌else◌, Option, None, Some}
use Rattle.std.specs.List.{flat_map}
use Rattle.cq_base.specs.declared.party.Party.{Party}
use Rattle.cq_base.specs.declared.party.Party.TheVariants as parties
use Rattle.cq_chain.specs.Messages.{Message, Fwd, Snap, Ack, BeHead, Report, Adopt, BeTail, Feed, Have, Adopted, Caught, Ready, Answers}
use Rattle.cq_chain.specs.Masters.{numbers_from}
use Rattle.cq_chain.specs.Servers.{Server, acts}
use Rattle.cq_events.specs.Worlds.{World, is_in}
use Rattle.cq_show.specs.declared.servers.TheConstants.{SHOWN_NUMBERS}
use Rattle.cq_show_line.specs.Lines.{shown_text}
use Rattle.cq_show_line.specs.declared.shown.MessageKind.{MessageKind}
use Rattle.cq_show_line.specs.declared.shown.MessageKind.TheVariants as kinds
use Rattle.cq_show_line.specs.declared.shown.NextMessage.{NextMessage}
use Rattle.cq_show_line.specs.declared.shown.ShownServer.{ShownServer}
use Rattle.cq_show_line.specs.declared.shown.Way.{Way}

-- ---- messages

-- the number of a server; 0 for none
abbrev pub id_or_zero : Option ℕ → ℕ
id_or_zero None = 0
id_or_zero (Some id) = id

-- a message of that kind, which bears that number first
abbrev pub bearing : MessageKind → ℕ → NextMessage
bearing kind number = record { kind = kind; number = number }

-- a message by its kind and the first number that it bears; of a snapshot that is how many entries it has, and of an answer its length
abbrev pub message_of : Message → NextMessage
message_of (Fwd place entry) = bearing kinds.Fwd place
message_of (Snap entries) = bearing kinds.Snap (length entries)
message_of (Ack place) = bearing kinds.Ack place
message_of BeHead = bearing kinds.BeHead 0
message_of (Report pred) = bearing kinds.Report pred
message_of (Adopt succ have) = bearing kinds.Adopt succ
message_of (BeTail least) = bearing kinds.BeTail least
message_of (Feed succ) = bearing kinds.Feed (id_or_zero succ)
message_of (Have pred count) = bearing kinds.Have pred
message_of (Adopted succ count) = bearing kinds.Adopted succ
message_of (Caught pred count) = bearing kinds.Caught pred
message_of Ready = bearing kinds.Ready 0
message_of (Answers answer) = bearing kinds.Answer answer.length

-- the first of some messages, if there is one
abbrev pub next_of : List Message → Option NextMessage
next_of [] = None
next_of (m ∷ ms) = Some (message_of m)

-- ---- servers

-- a server, by its number and its state
abbrev pub server_of : ℕ → Server → ShownServer
server_of id s = record {
  id = id;
  is_down = s.down;
  is_head = s.head;
  is_acting = acts s;
  is_full = s.full;
  count = length s.entries;
  acked = s.acked;
}

-- the server of that number, if there is one
abbrev pub servers_at : World → ℕ → List ShownServer
servers_at w id = if is_in w.master.used id then server_of id (w.server id) ∷ [] else []

-- the servers of the numbers from 1 on, so many
unfoldable pub servers_upto : World → ℕ → List ShownServer
servers_upto w count = flat_map (servers_at w) (numbers_from 1 count)

-- the servers that are shown
abbrev pub servers_of : World → List ShownServer
servers_of w = servers_upto w SHOWN_NUMBERS

-- ---- ways

-- a server as a party
abbrev pub party_of : ShownServer → Party
party_of s = parties.Server s.id

-- the parties of which ways are shown
abbrev pub parties_of : List ShownServer → List Party
parties_of ss = parties.Master ∷ parties.Clients ∷ map party_of ss

-- the way from one party to another
abbrev pub way_of : World → Party → Party → Way
way_of w from to = record {
  from = from;
  to = to;
  waits = length (w.outbox from to);
  stands = length (w.link from to);
  next = next_of (w.outbox from to);
}

-- a way is shown if something waits or stands on it
abbrev pub if_used : Way → List Way
if_used way = if nat_lt 0 way.waits || nat_lt 0 way.stands then way ∷ [] else []

-- the ways from one party that are shown
abbrev pub ways_from : World → List Party → Party → List Way
ways_from w tos from = flat_map (λ to. if_used (way_of w from to)) tos

-- the ways that are shown
abbrev pub ways_of : World → List Party → List Way
ways_of w parties = flat_map (ways_from w parties) parties

-- ---- all

-- the line that tells what a world holds
unfoldable pub world_text : World → List ℕ
world_text w = shown_text w.master.chain w.master.joiner w.master.ready (servers_of w) (ways_of w (parties_of (servers_of w)))
