-- The state of a server of the chain.
use Rattle.std.specs.Prelude.{ℕ, ◌+◌, ◌-◌, ◌==◌, List, [], length, Bool, true, false, nat_le, if◌then◌else◌, Option, None, Some}
use Rattle.cq_base.specs.declared.ask.Entry.{Entry}
pub use Rattle.cq_chain.specs.Parties.{is_that}

-- What a server has of its own (van Renesse and Schneider, "Chain Replication for Supporting High
-- Throughput and Availability", section 3; how it takes up a place in the chain is a choice of this project).
pub record Server : Type 0 where
  -- its history: the entries that it has taken, in order
  pub entries : List Entry
  -- so many of these are known to have reached the tail
  pub acked : ℕ
  -- so many of these it has to send to nobody any more, one by one
  pub floor : ℕ
  -- its predecessor, from which it takes entries, and its successor, to which it forwards them
  pub pred : Option ℕ
  pub succ : Option ℕ
  -- it is the head: requests arrive here
  pub head : Bool
  -- it is the tail, and acts as such once it has so many entries
  pub at_least : Option ℕ
  -- it was a member of the first chain, or has acted as tail
  pub full : Bool
  -- it has crashed
  pub down : Bool

-- the number of entries is not below this one, if there is one
abbrev pub reaches : ℕ → Option ℕ → Bool
reaches count None = false
reaches count (Some least) = nat_le least count

-- The server acts as tail: it answers.
abbrev pub acts : Server → Bool
acts s = reaches (length s.entries) s.at_least

-- So many entries it keeps one by one, since it may have to send them once more.
abbrev pub kept : Server → ℕ
kept s = length s.entries - s.floor

-- A member of the first chain, of so many servers: 1 is the head, and each forwards to the next one.
abbrev pub first_member : ℕ → ℕ → Server
first_member size id = record {
  entries = [];
  acked = 0;
  floor = 0;
  pred = if id == 1 then None else Some (id - 1);
  succ = if id == size then None else Some (id + 1);
  head = id == 1;
  at_least = if id == size then Some 0 else None;
  full = true;
  down = false;
}

-- the server of a chain of one, at rest behind these entries
abbrev pub alone : List Entry → Server
alone entries = record {
  entries = entries;
  acked = length entries;
  floor = length entries;
  pred = None;
  succ = None;
  head = true;
  at_least = Some 0;
  full = true;
  down = false;
}

-- a server that joins the chain later
abbrev pub joining : Server
joining = record {
  entries = [];
  acked = 0;
  floor = 0;
  pred = None;
  succ = None;
  head = false;
  at_least = None;
  full = false;
  down = false;
}
