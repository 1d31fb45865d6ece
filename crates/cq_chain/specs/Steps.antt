-- What a server does when a request, a query or a message comes to it.
use Rattle.std.specs.Prelude.{ℕ, ◌+◌, ◌==◌, ◌&&◌, List, [], ◌∷◌, ◌++◌, length, drop, is_none, Bool, true, false, not, min, max, nat_lt, nat_le, if◌then◌else◌, Option, None, Some}
use Rattle.cq_base.specs.declared.ask.Entry.{Entry}
use Rattle.cq_base.specs.declared.ask.Query.{Query}
use Rattle.cq_base.specs.declared.ask.Request.{Request}
use Rattle.cq_base.specs.declared.party.Party.{Party}
use Rattle.cq_base.specs.declared.party.Party.TheVariants as parties
use Rattle.cq_base.specs.queue.History.{reply_to, last_moment, counts_after}
use Rattle.cq_chain.specs.declared.message.Answer.{Answer}
use Rattle.cq_chain.specs.Messages.{Message, Fwd, Snap, Ack, BeHead, Report, Adopt, BeTail, Feed, Have, Adopted, Caught, Ready, Answers}
use Rattle.cq_chain.specs.Servers.{Server, acts, is_that}

-- What a server does: its state afterwards, and what it puts into its outboxes, in order.
pub record Step : Type 0 where
  pub server : Server
  pub sent : List (Party × Message)

-- it becomes so, and sends nothing
abbrev pub silent : Server → Step
silent s = record { server = s; sent = [] }

-- a message to a server, if there is one
abbrev pub to_server : Option ℕ → Message → List (Party × Message)
to_server None m = []
to_server (Some id) m = (parties.Server id, m) ∷ []

-- something, if that is so
abbrev pub when : {A : Type 0} → Bool → List A → List A
when true xs = xs
when false xs = []

-- what a server that acts has no more to send to others one by one
abbrev pub settled : Server → Server
settled s = if acts s then record s { acked = length s.entries; floor = length s.entries; full = true } else s

-- with one more entry
abbrev pub appended : Server → Entry → Server
appended s e = record s { entries = s.entries ++ e ∷ [] }

-- the server acts after a step, and did not before
abbrev pub begins_to_act : Server → Server → Bool
begins_to_act before now = acts now && not (acts before)

-- The answer to an entry that comes after these: it bears its place in the history.
abbrev pub answer_to : List Entry → Entry → Answer
answer_to entries e = record {
  client = e.request.client;
  number = e.request.number;
  is_query = false;
  length = length entries + 1;
  reply = reply_to entries e;
}

-- What a server sends on when it takes an entry: the entry to its successor, and, if it acts, the answer to
-- the clients.
abbrev pub passed_on : Server → Entry → List (Party × Message)
passed_on s e = to_server s.succ (Fwd (length s.entries + 1) e) ++ when (acts (appended s e)) ((parties.Clients, Answers (answer_to s.entries e)) ∷ [])

-- ---- requests and queries

-- A request that arrives is stamped with the larger of the server's clock and the moment of the entry before
-- it (a choice of this project).
abbrev pub stamped : List Entry → ℕ → Request → Entry
stamped entries clock request = record { moment = max clock (last_moment entries); request = request }

-- A request arrives at the head.
unfoldable pub arrived : ℕ → Request → Server → Step
arrived clock request s = record {
  server = settled (appended s (stamped s.entries clock request));
  sent = passed_on s (stamped s.entries clock request);
}

-- The answer to a query: the counts of its queue after the entries so far, with how many these are.
abbrev pub answer_to_query : List Entry → Query → Answer
answer_to_query entries query = record {
  client = query.client;
  number = query.tag;
  is_query = true;
  length = length entries;
  reply = counts_after entries query.queue;
}

-- A query comes to a server that acts.
unfoldable pub asked : Query → Server → Step
asked query s = record { server = s; sent = (parties.Clients, Answers (answer_to_query s.entries query)) ∷ [] }

-- ---- messages of other servers

-- A forwarded entry is the next one of its predecessor.
abbrev pub is_next : Server → ℕ → ℕ → Entry → Bool
is_next s from place e = is_that s.pred from && place == length s.entries + 1 && nat_le (last_moment s.entries) e.moment

-- After a server took what its predecessor sent, so that it has so many entries: if it acts, it acknowledges
-- them, and if it did not before, it tells the master.
abbrev pub tail_news : Server → Server → List (Party × Message)
tail_news before now = when (acts now) (to_server before.pred (Ack (length now.entries))) ++ when (begins_to_act before now) ((parties.Master, Ready) ∷ [])

-- a forwarded entry
abbrev pub forwarded : Entry → Server → Step
forwarded e s = record {
  server = settled (appended s e);
  sent = passed_on s e ++ tail_news s (appended s e);
}

-- A snapshot comes from the predecessor, no entry is lost by it, and there is nobody to whom it would have
-- to be forwarded.
abbrev pub is_restoring : Server → ℕ → List Entry → Bool
is_restoring s from entries = is_that s.pred from && is_none s.succ && nat_le (length s.entries) (length entries)

-- with the history of a snapshot
abbrev pub with_history : Server → List Entry → Server
with_history s entries = record s { entries = entries; floor = length entries }

-- A snapshot of that predecessor. A server that is no tail, nor to be it, tells the master.
abbrev pub restored : ℕ → List Entry → Server → Step
restored from entries s = record {
  server = settled (with_history s entries);
  sent = tail_news s (with_history s entries) ++ when (is_none s.at_least) ((parties.Master, Caught from (length entries)) ∷ []);
}

-- an acknowledgement, of no more entries than the server has
abbrev pub acknowledged : ℕ → Server → Step
acknowledged n s = if nat_lt s.acked n then record {
  server = record s { acked = n; floor = max s.floor n };
  sent = to_server s.pred (Ack n);
} else silent s

-- ---- messages of the master

-- it is the head
abbrev pub headed : Server → Step
headed s = silent (record s { head = true; pred = None })

-- Its predecessor is that one. The server tells the master how many entries it has, and the predecessor
-- which are acknowledged.
abbrev pub reported : ℕ → Server → Step
reported pred s = record {
  server = record s { pred = Some pred };
  sent = (parties.Master, Have pred (length s.entries)) ∷ (parties.Server pred, Ack s.acked) ∷ [];
}

-- entries from that place on, each as a message
unfoldable pub forwards : ℕ → ℕ → List Entry → List (Party × Message)
forwards to place [] = []
forwards to place (e ∷ es) = (parties.Server to, Fwd place e) ∷ forwards to (place + 1) es

-- What a new successor that has so many entries is sent: the entries that it lacks, or the whole history where
-- the server may not send some of these one by one any more.
abbrev pub repair : ℕ → ℕ → Server → List (Party × Message)
repair to have s = if nat_le s.floor have then forwards to (have + 1) (drop have s.entries) else (parties.Server to, Snap s.entries) ∷ []

-- Its successor is that one, which has so many entries. The server acts no more. One that it feeds already lacks
-- nothing that isn't on its way.
abbrev pub adopting : ℕ → ℕ → Server → Step
adopting succ have s = record {
  server = record s { at_least = None; succ = Some succ };
  sent = when (not (is_that s.succ succ)) (repair succ have s) ++ (parties.Master, Adopted succ (length s.entries)) ∷ [];
}

-- It feeds that one from now on, if there is one, which gets its whole history, and it goes on acting.
abbrev pub feeding : Option ℕ → Server → Step
feeding succ s = record { server = record s { succ = succ }; sent = to_server succ (Snap s.entries) }

-- as the tail, which acts once it has so many entries
abbrev pub as_tail : ℕ → Server → Server
as_tail least s = record s { at_least = Some least; succ = None }

-- it is the tail
abbrev pub tailed : ℕ → Server → Step
tailed least s = record {
  server = settled (as_tail least s);
  sent = when (acts (as_tail least s)) (to_server s.pred (Ack (length s.entries)) ++ (parties.Master, Ready) ∷ []);
}

-- ---- crashes

-- It crashes: what it has stays as it is, and nothing comes to it any more.
abbrev pub crashed : Server → Step
crashed s = silent (record s { down = true })

-- ---- all messages

-- What a server does with a message from that party. It ignores what is none of these.
unfoldable pub takes : Party → Message → Server → Step
takes (parties.Server from) (Fwd place e) s = if is_next s from place e then forwarded e s else silent s
takes (parties.Server from) (Snap entries) s = if is_restoring s from entries then restored from entries s else silent s
takes (parties.Server from) (Ack n) s = acknowledged (min n (length s.entries)) s
takes parties.Master BeHead s = headed s
takes parties.Master (Report pred) s = reported pred s
takes parties.Master (Adopt succ have) s = adopting succ have s
takes parties.Master (BeTail least) s = tailed least s
takes parties.Master (Feed succ) s = if acts s then feeding succ s else silent s
takes from m s = silent s
