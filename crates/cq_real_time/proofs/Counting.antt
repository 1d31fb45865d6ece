-- What one event changes: how many messages stand in links, who is down, and which servers were used.
use Rattle.std.proofs.Common.{◌≡◌, ℕ, suc, ◌+◌, arith, ◌∙◌, ap, sym, refl, subst, cond, List, [], ◌∷◌, ◌++◌, length, length-append, drop, nat_lt, min, max, Bool, true, false, ◌&&◌, eqb}
use Rattle.std.proofs.lemmas.Bool.{eqb-true, false≢true}
use Rattle.cq_base.specs.declared.ask.Query.{Query}
use Rattle.cq_base.specs.declared.ask.Request.{Request}
use Rattle.cq_base.specs.declared.party.Party.{Party}
use Rattle.cq_base.specs.declared.party.Party.TheVariants as parties
use Rattle.cq_chain.specs.Masters.{is_in, joined}
use Rattle.cq_chain.specs.Messages.{Message, Fwd, Snap, Ack, BeHead, Report, Adopt, BeTail, Feed, Have, Adopted, Caught, Ready, Answers}
use Rattle.cq_chain.specs.Parties.{same}
use Rattle.cq_chain.specs.Servers.{Server, acts}
use Rattle.cq_chain.specs.Steps.{Step, silent, to_server, settled, appended, stamped, with_history, as_tail, forwarded, restored, feeding, is_next, is_restoring, arrived, asked, takes, crashed}
use Rattle.cq_events.proofs.Parties.{same-true, same-turned}
use Rattle.cq_events.specs.Events.{next, after_put, after_take, taken_by, without_first, first_of}
use Rattle.cq_events.specs.Worlds.{World, set_pair, stepped}
use Rattle.cq_events.specs.declared.event.Event.{Event}
use Rattle.cq_events.specs.declared.event.Event.TheVariants as events
use Rattle.cq_world.proofs.ExtendedChains.{in_end}
use Rattle.cq_world.proofs.Prefixes.{Prefixes}
use Rattle.cq_world.proofs.Views.{view}
use Rattle.cq_real_time.specs.Interleavings.{put_once, taken_once, puts_on, takes_on}
use Rattle.cq_real_time.proofs.Ordering.{detected_sound, joined_sound, heard_sound, members_used, joiner_used}

-- ---- counts

-- with one event more
pub puts_more : (from to : Party) (before : List Event) (event : Event) → puts_on from to (before ++ event ∷ []) ≡ puts_on from to before + put_once from to event
puts_more from to [] event = omega arith
puts_more from to (e ∷ before) event = let rest = puts_more from to before event in omega arith

pub takes_more : (from to : Party) (before : List Event) (event : Event) → takes_on from to (before ++ event ∷ []) ≡ takes_on from to before + taken_once from to event
takes_more from to [] event = omega arith
takes_more from to (e ∷ before) event = let rest = takes_more from to before event in omega arith

-- one of two
abbrev one_if : Bool → ℕ
one_if t = cond t 1 0

-- a message stands first where an event moves one
abbrev pub Moves : World → Event → Type 0
Moves w (events.Put from to) = (m : Message) × (ms : List Message) × (w.outbox from to ≡ m ∷ ms)
Moves w (events.Take from to) = (m : Message) × (ms : List Message) × (w.link from to ≡ m ∷ ms)
Moves w event = Unit {0}

longer_by_one : (xs box ms : List Message) (m : Message) → box ≡ m ∷ ms → length (xs ++ first_of box) ≡ length xs + 1
longer_by_one xs box ms m is = length-append xs (first_of box) ∙ ap (λ us. length xs + length (first_of us)) is

set_longer : (w : World) (from to x y : Party) (m : Message) (ms : List Message) → w.outbox from to ≡ m ∷ ms
    → length (set_pair w.link from to (w.link from to ++ first_of (w.outbox from to)) x y) ≡ length (w.link x y) + one_if (same x from && same y to)
set_longer w from to x y m ms is = go (same x from) (same y to) refl refl where
  go : (s t : Bool) → same x from ≡ s → same y to ≡ t → length (cond (s && t) (w.link from to ++ first_of (w.outbox from to)) (w.link x y)) ≡ length (w.link x y) + one_if (s && t)
  go true true e f = longer_by_one (w.link from to) (w.outbox from to) ms m is ∙ ap (λ us. length us + 1) (ap (λ a. w.link a to) (sym (same-true x from e)) ∙ ap (λ b. w.link x b) (sym (same-true y to f)))
  go true false e f = omega arith
  go false t e f = omega arith

put_longer : (w : World) (from to x y : Party) (m : Message) (ms : List Message) → w.outbox from to ≡ m ∷ ms → same parties.Clients y ≡ false → length ((after_put w from to).link x y) ≡ length (w.link x y) + one_if (same x from && same y to)
put_longer w from parties.Master x y m ms is other = set_longer w from parties.Master x y m ms is
put_longer w from (parties.Server k) x y m ms is other = set_longer w from (parties.Server k) x y m ms is
put_longer w from parties.Clients x y m ms is other = go (same x from) (same y parties.Clients) (sym (same-turned parties.Clients y) ∙ other) where
  go : (s t : Bool) → t ≡ false → length (w.link x y) ≡ length (w.link x y) + one_if (s && t)
  go true false e = omega arith
  go false t e = omega arith
  go true true e = absurd (false≢true (sym e))

-- a link that lost its first message
set_shorter : (w : World) (from to x y : Party) (m : Message) (ms : List Message) → w.link from to ≡ m ∷ ms
    → length (set_pair w.link from to (drop 1 (w.link from to)) x y) + one_if (same x from && same y to) ≡ length (w.link x y)
set_shorter w from to x y m ms is = go (same x from) (same y to) refl refl where
  go : (s t : Bool) → same x from ≡ s → same y to ≡ t → length (cond (s && t) (drop 1 (w.link from to)) (w.link x y)) + one_if (s && t) ≡ length (w.link x y)
  go true true e f =
      let here : w.link x y ≡ m ∷ ms = ap (λ a. w.link a y) (same-true x from e) ∙ ap (λ b. w.link from b) (same-true y to f) ∙ is in
      let long : length (w.link x y) ≡ suc (length ms) = ap length here in
      let short : length (drop 1 (w.link from to)) ≡ length ms = ap (λ us. length (drop 1 us)) is in
      omega arith
  go true false e f = omega arith
  go false t e f = omega arith

taken_link : (w : World) (from to : Party) (m : Message) (x y : Party) → (taken_by (without_first w from to) from to m).link x y ≡ set_pair w.link from to (drop 1 (w.link from to)) x y
taken_link w from parties.Master m x y = refl
taken_link w from parties.Clients m x y = refl
taken_link w from (parties.Server id) m x y = refl

take_shorter : (w : World) (from to x y : Party) (m : Message) (ms : List Message) → w.link from to ≡ m ∷ ms → length ((after_take w from to (w.link from to)).link x y) + one_if (same x from && same y to) ≡ length (w.link x y)
take_shorter w from to x y m ms is = subst (λ us. length ((after_take w from to us).link x y) + one_if (same x from && same y to) ≡ length (w.link x y)) (sym is)
    (ap (λ us. length us + one_if (same x from && same y to)) (taken_link w from to m x y) ∙ set_shorter w from to x y m ms is)

-- How many messages stand in a link after an event.
pub link_next : (w : World) (event : Event) → Moves w event → (x y : Party) → same parties.Clients y ≡ false → length ((next w event).link x y) + taken_once x y event ≡ length (w.link x y) + put_once x y event
unfolding next
link_next w (events.Arrive at clock request) moves x y other = refl
link_next w (events.Ask at query) moves x y other = refl
link_next w (events.Put from to) moves x y other = let longer = put_longer w from to x y moves.0 moves.1 moves.2 other in omega arith
link_next w (events.Take from to) moves x y other = let shorter = take_shorter w from to x y moves.0 moves.1 moves.2 in omega arith
link_next w (events.Crash id) moves x y other = refl
link_next w (events.Detect id) moves x y other = refl
link_next w (events.Join id) moves x y other = refl

-- ---- who is down

settled_down : (s : Server) → (settled s).down ≡ s.down
settled_down s = go (acts s) where
  go : (t : Bool) → (cond t (record s { acked = length s.entries; floor = length s.entries; full = true }) s).down ≡ s.down
  go true = refl
  go false = refl

either_down : (t : Bool) (a b : Step) (d : Bool) → a.server.down ≡ d → b.server.down ≡ d → (cond t a b).server.down ≡ d
either_down true a b d h k = h
either_down false a b d h k = k

arrived_down : (clock : ℕ) (request : Request) (s : Server) → (arrived clock request s).server.down ≡ s.down
unfolding arrived
arrived_down clock request s = settled_down (appended s (stamped s.entries clock request))

asked_down : (query : Query) (s : Server) → (asked query s).server.down ≡ s.down
unfolding asked
asked_down query s = refl

takes_down : (from : Party) (m : Message) (s : Server) → (takes from m s).server.down ≡ s.down
unfolding takes
takes_down (parties.Server from) (Fwd place e) s = either_down (is_next s from place e) (forwarded e s) (silent s) s.down (settled_down (appended s e)) refl
takes_down (parties.Server from) (Snap entries) s = either_down (is_restoring s from entries) (restored from entries s) (silent s) s.down (settled_down (with_history s entries)) refl
takes_down (parties.Server from) (Ack n) s = either_down (nat_lt s.acked (min n (length s.entries))) (record { server = record s { acked = min n (length s.entries); floor = max s.floor (min n (length s.entries)) }; sent = to_server s.pred (Ack (min n (length s.entries))) }) (silent s) s.down refl refl
takes_down parties.Master BeHead s = refl
takes_down parties.Master (Report p) s = refl
takes_down parties.Master (Adopt t have) s = refl
takes_down parties.Master (BeTail least) s = settled_down (as_tail least s)
takes_down parties.Master (Feed other) s = either_down (acts s) (feeding other s) (silent s) s.down refl refl
takes_down parties.Clients (Fwd place e) s = refl
takes_down parties.Clients (Snap entries) s = refl
takes_down parties.Clients (Ack n) s = refl
takes_down parties.Clients BeHead s = refl
takes_down parties.Clients (Report p) s = refl
takes_down parties.Clients (Adopt t n) s = refl
takes_down parties.Clients (BeTail least) s = refl
takes_down parties.Clients (Feed other) s = refl
takes_down parties.Clients (Have p n) s = refl
takes_down parties.Clients (Adopted t n) s = refl
takes_down parties.Clients (Caught p n) s = refl
takes_down parties.Clients Ready s = refl
takes_down parties.Clients (Answers a) s = refl
takes_down (parties.Server from) BeHead s = refl
takes_down (parties.Server from) (Report p) s = refl
takes_down (parties.Server from) (Adopt t n) s = refl
takes_down (parties.Server from) (BeTail least) s = refl
takes_down (parties.Server from) (Feed other) s = refl
takes_down (parties.Server from) (Have p n) s = refl
takes_down (parties.Server from) (Adopted t n) s = refl
takes_down (parties.Server from) (Caught p n) s = refl
takes_down (parties.Server from) Ready s = refl
takes_down (parties.Server from) (Answers a) s = refl
takes_down parties.Master (Fwd place e) s = refl
takes_down parties.Master (Snap entries) s = refl
takes_down parties.Master (Ack n) s = refl
takes_down parties.Master (Have p n) s = refl
takes_down parties.Master (Adopted t n) s = refl
takes_down parties.Master (Caught p n) s = refl
takes_down parties.Master Ready s = refl
takes_down parties.Master (Answers a) s = refl

-- whether a server is down after an event
abbrev pub fallen : Event → ℕ → Bool → Bool
fallen (events.Crash k) id down = cond (eqb id k) true down
fallen event id down = down

stepped_down : (w : World) (k : ℕ) (step : Step) → step.server.down ≡ (w.server k).down → (id : ℕ) → ((stepped w k step).server id).down ≡ (w.server id).down
stepped_down w k step same_down id = go (eqb id k) refl where
  go : (t : Bool) → eqb id k ≡ t → (cond t step.server (w.server id)).down ≡ (w.server id).down
  go true e = same_down ∙ ap (λ i. (w.server i).down) (sym (eqb-true id k e))
  go false e = refl

taken_down : (w : World) (from to : Party) (ms : List Message) (id : ℕ) → ((after_take w from to ms).server id).down ≡ (w.server id).down
taken_down w from to [] id = refl
taken_down w from parties.Master (m ∷ ms) id = refl
taken_down w from parties.Clients (m ∷ ms) id = refl
taken_down w from (parties.Server k) (m ∷ ms) id = stepped_down (without_first w from (parties.Server k)) k (takes from m (w.server k)) (takes_down from m (w.server k)) id

put_down : (w : World) (from to : Party) (id : ℕ) → ((after_put w from to).server id).down ≡ (w.server id).down
put_down w from to id = refl

crash_down : (w : World) (k id : ℕ) → ((stepped w k (crashed (w.server k))).server id).down ≡ cond (eqb id k) true (w.server id).down
crash_down w k id = go (eqb id k) where
  go : (t : Bool) → (cond t (record (w.server k) { down = true }) (w.server id)).down ≡ cond t true (w.server id).down
  go true = refl
  go false = refl

pub down_next : (w : World) (event : Event) (id : ℕ) → ((next w event).server id).down ≡ fallen event id (w.server id).down
unfolding next
down_next w (events.Arrive at clock request) id = stepped_down w at (arrived clock request (w.server at)) (arrived_down clock request (w.server at)) id
down_next w (events.Ask at query) id = stepped_down w at (asked query (w.server at)) (asked_down query (w.server at)) id
down_next w (events.Put from to) id = put_down w from to id
down_next w (events.Take from to) id = taken_down w from to (w.link from to) id
down_next w (events.Crash k) id = crash_down w k id
down_next w (events.Detect k) id = refl
down_next w (events.Join k) id = refl

-- ---- who was used

taken_used : (w : World) (from to : Party) (ms : List Message) (id : ℕ) → Prefixes (view w) → is_in w.master.used id ≡ true → is_in (after_take w from to ms).master.used id ≡ true
taken_used w from to [] id g h = h
taken_used w from parties.Master (m ∷ ms) id g h = (heard_sound from m w.master (members_used (view w) g) (joiner_used (view w) g)).more id h
taken_used w from parties.Clients (m ∷ ms) id g h = h
taken_used w from (parties.Server k) (m ∷ ms) id g h = h

pub used_next : (w : World) (event : Event) (id : ℕ) → Prefixes (view w) → is_in w.master.used id ≡ true → is_in (next w event).master.used id ≡ true
unfolding next
used_next w (events.Arrive at clock request) id g h = h
used_next w (events.Ask at query) id g h = h
used_next w (events.Put from to) id g h = h
used_next w (events.Take from to) id g h = taken_used w from to (w.link from to) id g h
used_next w (events.Crash k) id g h = h
used_next w (events.Detect k) id g h = (detected_sound k w.master (members_used (view w) g)).more id h
used_next w (events.Join k) id g h = (joined_sound k w.master (members_used (view w) g)).more id h

-- who joins is used
pub join_used : (w : World) (id : ℕ) → is_in (next w (events.Join id)).master.used id ≡ true
unfolding next joined
join_used w id = in_end w.master.used id
