-- Only answers that were made are given.
use Rattle.std.proofs.Common.{◌≡◌, ℕ, ◌+◌, ◌∙◌, ap, sym, List, [], ◌∷◌, ◌++◌, drop, Option, Some, None, Bool, true, false, cond, ◌&&◌, not, eqb, inl, inr, subst, refl, append-nil, append_assoc}
use Rattle.cq_base.specs.declared.party.Party.{Party}
use Rattle.cq_base.specs.declared.party.Party.TheVariants as parties
use Rattle.cq_base.specs.Relations.{Among}
use Rattle.cq_base.proofs.Among.{among-append, among-left, among-right}
use Rattle.cq_chain.specs.declared.fault.WorldFault.{WorldFault}
use Rattle.cq_chain.specs.declared.message.Answer.{Answer}
use Rattle.cq_chain.specs.Messages.{Message, BeHead, Report, Adopt, BeTail, Feed, Have, Adopted, Caught, Ready, Answers}
use Rattle.cq_chain.specs.Masters.{Master, Order, is_last, stands_before, closing, said_of_loss, said_of_join, to_last, dropped, closed_up, no_order, detected, joined, joins_behind, admitted, hears, hears_from}
use Rattle.cq_chain.specs.Parties.{same, addressed, is_that}
use Rattle.cq_chain.specs.Steps.{Step, takes, arrived, asked, crashed}
use Rattle.cq_events.specs.Worlds.{World, first_world, stepped, ordered}
use Rattle.cq_events.specs.Events.{refusal_of, after, next, unless_refused, answers_in, first_of, head_of, given_to, given_by, after_put, after_take, without_first}
use Rattle.cq_events.specs.Runs.{world_after, numbered, given_if, given_from, sent_by_taking, made_if, made_from, made}
use Rattle.cq_events.specs.declared.event.Event.{Event}
use Rattle.cq_events.specs.declared.event.Event.TheVariants.{Arrive, Ask, Put, Take, Crash, Detect, Join}
use Rattle.cq_world.proofs.Eaches.{Each, each-append, each-follows, each-drop, some_none}
use Rattle.cq_events.proofs.Parties.{by_pair, same-true}

-- an answer that waits is one of these
abbrev pub IsOf : List Answer → Message → Type 0
IsOf made (Answers a) = Among a made
IsOf made m = Unit {0}

-- all answers that wait for the clients were made
abbrev pub Waiting : List Answer → World → Type 0
Waiting made w = (from : Party) → Each (IsOf made) (w.outbox from parties.Clients)

-- with more answers made it stays so
of_more : (xs ys : List Answer) → ((a : Answer) → Among a xs → Among a ys) → (m : Message) → IsOf xs m → IsOf ys m
of_more xs ys h (Answers a) i = h a i
of_more xs ys h m i = i

-- with one message more, answers stay among those in it
in_more : (m : Message) (ms : List Message) (a : Answer) → Among a (answers_in ms) → Among a (answers_in (m ∷ ms))
in_more (Answers b) ms a h = inr h
in_more m ms a h = h

-- the first is among the answers, if it is one
in_first : (m : Message) (ms : List Message) → IsOf (answers_in (m ∷ ms)) m
in_first (Answers a) ms = inl refl
in_first m ms = tt

-- answers are among those of all messages
answers_of : (ms : List Message) → Each (IsOf (answers_in ms)) ms
answers_of [] = tt
answers_of (m ∷ ms) = (in_first m ms, each-follows (IsOf (answers_in ms)) (IsOf (answers_in (m ∷ ms))) ms (of_more (answers_in ms) (answers_in (m ∷ ms)) (in_more m ms)) (answers_of ms))

-- ---- steps

sends_keep : (t : Bool) (made new : List Answer) (ms : List Message) (sent : List (Party × Message)) → new ≡ made ++ answers_in (addressed parties.Clients sent) → Each (IsOf made) ms → Each (IsOf new) (cond t (ms ++ addressed parties.Clients sent) ms)
sends_keep t made new ms sent is h = go t where
  old : Each (IsOf new) ms
  old = each-follows (IsOf made) (IsOf new) ms (of_more made new (λ a among. subst (λ us. Among a us) (sym is) (among-left a made (answers_in (addressed parties.Clients sent)) among))) h

  fresh : Each (IsOf new) (addressed parties.Clients sent)
  fresh = each-follows (IsOf (answers_in (addressed parties.Clients sent))) (IsOf new) (addressed parties.Clients sent)
      (of_more (answers_in (addressed parties.Clients sent)) new (λ a among. subst (λ us. Among a us) (sym is) (among-right a made (answers_in (addressed parties.Clients sent)) among))) (answers_of (addressed parties.Clients sent))

  go : (b : Bool) → Each (IsOf new) (cond b (ms ++ addressed parties.Clients sent) ms)
  go true = each-append (IsOf new) ms (addressed parties.Clients sent) old fresh
  go false = old

-- after a step what was made and what the step makes are all that waits
waiting_step : (made : List Answer) (w : World) (k : ℕ) (step : Step) → Waiting made w → Waiting (made ++ answers_in (addressed parties.Clients step.sent)) (stepped w k step)
waiting_step made w k step h from = sends_keep (same from (parties.Server k)) made (made ++ answers_in (addressed parties.Clients step.sent)) (w.outbox from parties.Clients) step.sent refl (h from)

-- where nothing is made
waiting_same : (made : List Answer) (w : World) → Waiting made w → Waiting (made ++ []) w
waiting_same made w h = subst (λ us. Waiting us w) (sym (append-nil made)) h

-- an order of the master that says nothing to the clients
waiting_ordered : (made : List Answer) (w : World) (order : Order) → addressed parties.Clients order.said ≡ [] → Waiting made w → Waiting (made ++ []) (ordered w order)
waiting_ordered made w order none h from = subst (λ us. Each (IsOf us) ((ordered w order).outbox from parties.Clients)) (sym (append-nil made)) (go (same from parties.Master)) where
  go : (t : Bool) → Each (IsOf made) (cond t (w.outbox from parties.Clients ++ addressed parties.Clients order.said) (w.outbox from parties.Clients))
  go true = subst (λ us. Each (IsOf made) us) (sym (ap (λ us. w.outbox from parties.Clients ++ us) none ∙ append-nil (w.outbox from parties.Clients))) (h from)
  go false = h from

-- the master says nothing to the clients
closing_silent : (p id : ℕ) (us : List ℕ) → addressed parties.Clients (closing p id us) ≡ []
closing_silent p id [] = refl
closing_silent p id (a ∷ []) = go (eqb a id) where
  go : (t : Bool) → addressed parties.Clients (cond t ((parties.Server p, BeTail 0) ∷ []) []) ≡ []
  go true = refl
  go false = refl
closing_silent p id (a ∷ b ∷ rest) = go (eqb a id) (closing_silent a id (b ∷ rest)) where
  go : (t : Bool) → addressed parties.Clients (closing a id (b ∷ rest)) ≡ [] → addressed parties.Clients (cond t ((parties.Server b, Report p) ∷ []) (closing a id (b ∷ rest))) ≡ []
  go true e = refl
  go false e = e

loss_silent : (id : ℕ) (chain : List ℕ) → addressed parties.Clients (said_of_loss id chain) ≡ []
loss_silent id [] = refl
loss_silent id (a ∷ []) = refl
loss_silent id (a ∷ b ∷ rest) = go (eqb a id) where
  go : (t : Bool) → addressed parties.Clients (cond t ((parties.Server b, BeHead) ∷ []) (closing a id (b ∷ rest))) ≡ []
  go true = refl
  go false = closing_silent a id (b ∷ rest)

last_silent : (m : Message) (chain : List ℕ) → addressed parties.Clients (to_last m chain) ≡ []
last_silent m [] = refl
last_silent m (a ∷ []) = refl
last_silent m (a ∷ b ∷ rest) = last_silent m (b ∷ rest)

detected_silent : (id : ℕ) (m : Master) → addressed parties.Clients (detected id m).said ≡ []
unfolding detected
detected_silent id m = go (is_that m.joiner id) where
  go : (t : Bool) → addressed parties.Clients (cond t (dropped m) (closed_up id m)).said ≡ []
  go true = last_silent (Feed None) m.chain
  go false = loss_silent id m.chain

join_silent : (id : ℕ) (chain : List ℕ) → addressed parties.Clients (said_of_join id chain) ≡ []
join_silent id [] = refl
join_silent id (a ∷ []) = refl
join_silent id (a ∷ b ∷ rest) = join_silent id (b ∷ rest)

joined_silent : (id : ℕ) (m : Master) → addressed parties.Clients (joined id m).said ≡ []
unfolding joined
joined_silent id m = join_silent id m.chain

hears_silent : (from : ℕ) (m : Message) (master : Master) → addressed parties.Clients (hears from m master).said ≡ []
unfolding hears
hears_silent from (Have p count) master = go (stands_before p from master.chain) (joins_behind p from master) where
  go : (t u : Bool) → addressed parties.Clients (cond t (record { master = master; said = (parties.Server p, Adopt from count) ∷ [] }) (cond u (record { master = master; said = (parties.Server p, Feed (Some from)) ∷ [] }) (no_order master))).said ≡ []
  go true u = refl
  go false true = refl
  go false false = refl
hears_silent from (Caught p count) master = go (joins_behind p from master) where
  go : (t : Bool) → addressed parties.Clients (cond t (admitted p from count master) (no_order master)).said ≡ []
  go true = refl
  go false = refl
hears_silent from (Adopted s count) master = go (is_last master.chain s && not master.told) where
  go : (t : Bool) → addressed parties.Clients (cond t (record { master = record master { told = true }; said = (parties.Server s, BeTail count) ∷ [] }) (no_order master)).said ≡ []
  go true = refl
  go false = refl
hears_silent from Ready master = go (is_last master.chain from) where
  go : (t : Bool) → addressed parties.Clients (cond t (record { master = record master { ready = true }; said = [] }) (no_order master)).said ≡ []
  go true = refl
  go false = refl
hears_silent from m master = refl

heard_silent : (from : Party) (m : Message) (w : World) → addressed parties.Clients (hears_from from m w.master).said ≡ []
heard_silent parties.Master m w = refl
heard_silent parties.Clients m w = refl
heard_silent (parties.Server p) m w = hears_silent p m w.master

waiting_taken : (made : List Answer) (w : World) (from to : Party) (ms : List Message) → Waiting made w → Waiting (made ++ answers_in (addressed parties.Clients (sent_by_taking w from to ms))) (after_take w from to ms)
waiting_taken made w from to [] h = waiting_same made w h
waiting_taken made w from parties.Master (m ∷ ms) h = waiting_ordered made (without_first w from parties.Master) (hears_from from m w.master) (heard_silent from m w) h
waiting_taken made w from parties.Clients (m ∷ ms) h = waiting_same made (without_first w from parties.Clients) h
waiting_taken made w from (parties.Server id) (m ∷ ms) h = waiting_step made (without_first w from (parties.Server id)) id (takes from m (w.server id)) h

-- an event that isn't refused
waiting_next : (made : List Answer) (w : World) (event : Event) → Waiting made w → Waiting (made ++ made_if w event None) (next w event)
unfolding next
waiting_next made w (Arrive at clock request) h = waiting_step made w at (arrived clock request (w.server at)) h
waiting_next made w (Ask at query) h = waiting_step made w at (asked query (w.server at)) h
waiting_next made w (Put from to) h = waiting_same made (after_put w from to)
    (λ x. by_pair (λ a b ms. same b parties.Clients ≡ true → Each (IsOf made) ms) w.outbox from to (drop 1 (w.outbox from to))
    (λ is. subst (λ p. Each (IsOf made) (drop 1 (w.outbox from p))) (sym (same-true to parties.Clients is)) (each-drop (IsOf made) (w.outbox from parties.Clients) (h from)))
    (λ a b is. subst (λ p. Each (IsOf made) (w.outbox a p)) (sym (same-true b parties.Clients is)) (h a)) x parties.Clients refl)
waiting_next made w (Take from to) h = waiting_taken made w from to (w.link from to) h
waiting_next made w (Crash id) h = waiting_step made w id (crashed (w.server id)) h
waiting_next made w (Detect id) h = waiting_ordered made w (detected id w.master) (detected_silent id w.master) h
waiting_next made w (Join id) h = waiting_ordered made w (joined id w.master) (joined_silent id w.master) h

waiting_unless : (made : List Answer) (w : World) (event : Event) (refusal : Option WorldFault) → Waiting made w → Waiting (made ++ made_if w event refusal) (unless_refused w event refusal)
waiting_unless made w event None h = waiting_next made w event h
waiting_unless made w event (Some fault) h = waiting_same made w h

-- after any event
waiting_after : (made : List Answer) (w : World) (event : Event) → Waiting made w → Waiting (made ++ made_if w event (refusal_of w event)) (after w event)
unfolding after
waiting_after made w event h = waiting_unless made w event (refusal_of w event) h

-- ---- what is given

some_same : (a b : Answer) → Some a ≡ Some b → a ≡ b
some_same a b h = cc

given_first : (made : List Answer) (m : Message) (a : Answer) → IsOf made m → head_of (answers_in (m ∷ [])) ≡ Some a → Among a made
given_first made (Answers b) a is e = subst (λ x. Among x made) (some_same b a e) is
given_first made m a is e = absurd (some_none a (sym e))

given_put : (made : List Answer) (ms : List Message) (a : Answer) → Each (IsOf made) ms → head_of (answers_in (first_of ms)) ≡ Some a → Among a made
given_put made [] a h e = absurd (some_none a (sym e))
given_put made (m ∷ ms) a h e = given_first made m a h.0 e

given_to_party : (made : List Answer) (w : World) (from to : Party) (a : Answer) → Waiting made w → given_to to (first_of (w.outbox from to)) ≡ Some a → Among a made
given_to_party made w from parties.Master a h e = absurd (some_none a (sym e))
given_to_party made w from parties.Clients a h e = given_put made (w.outbox from parties.Clients) a (h from) e
given_to_party made w from (parties.Server id) a h e = absurd (some_none a (sym e))

given_event : (made : List Answer) (w : World) (event : Event) (refusal : Option WorldFault) (a : Answer) → Waiting made w → given_if w event refusal ≡ Some a → Among a made
unfolding given_by
given_event made w (Arrive at clock request) None a h e = absurd (some_none a (sym e))
given_event made w (Ask at query) None a h e = absurd (some_none a (sym e))
given_event made w (Put from to) None a h e = given_to_party made w from to a h e
given_event made w (Take from to) None a h e = absurd (some_none a (sym e))
given_event made w (Crash id) None a h e = absurd (some_none a (sym e))
given_event made w (Detect id) None a h e = absurd (some_none a (sym e))
given_event made w (Join id) None a h e = absurd (some_none a (sym e))
given_event made w event (Some fault) a h e = absurd (some_none a (sym e))

given_numbered : (made : List Answer) (n k : ℕ) (given : Option Answer) (a : Answer) → ((b : Answer) → given ≡ Some b → Among b made) → Among (k, a) (numbered n given) → Among a made
given_numbered made n k None a h none = absurd none
given_numbered made n k (Some b) a h (inl e) = subst (λ x. Among x made) (sym (ap (λ p. p.1) e)) (h b refl)
given_numbered made n k (Some b) a h (inr none) = absurd none

-- all answers that are given were made
pub given-made : (events : List Event) (before : List Answer) (n k : ℕ) (w : World) (a : Answer) → Waiting before w → Among (k, a) (given_from n w events) → Among a (before ++ made_from w events)
unfolding given_from made_from
given-made [] before n k w a h none = absurd none
given-made (event ∷ events) before n k w a h among = elim (among-append (k, a) (numbered n (given_if w event (refusal_of w event))) (given_from (n + 1) (after w event) events) among) [
  | inl here ↦ among-left a before (made_if w event (refusal_of w event) ++ made_from (after w event) events)
      (given_numbered before n k (given_if w event (refusal_of w event)) a (λ b e. given_event before w event (refusal_of w event) b h e) here)
  | inr later ↦ subst (λ us. Among a us) (append_assoc before (made_if w event (refusal_of w event)) (made_from (after w event) events))
      (given-made events (before ++ made_if w event (refusal_of w event)) (n + 1) k (after w event) a (waiting_after before w event h) later)
]

-- the same from the first world on
pub given-of-run : (size : ℕ) (events : List Event) (n : ℕ) (a : Answer) → Among (n, a) (given_from 1 (first_world size) events) → Among a (made size events)
unfolding made first_world
given-of-run size events n a among = given-made events [] 1 n (first_world size) a (λ from. tt) among

-- ---- what is given later

renumbered : (given : Option Answer) (n m k : ℕ) (a : Answer) → Among (k, a) (numbered n given) → Among (m, a) (numbered m given)
renumbered None n m k a none = absurd none
renumbered (Some b) n m k a (inl e) = inl (ap (λ p. (m, p.1)) e)
renumbered (Some b) n m k a (inr none) = absurd none

-- what is given is the same whatever the number of the first event
any-number : (events : List Event) (n m k : ℕ) (w : World) (a : Answer) → Among (k, a) (given_from n w events) → (j : ℕ) × Among (j, a) (given_from m w events)
unfolding given_from
any-number [] n m k w a none = absurd none
any-number (event ∷ events) n m k w a among =
    let own = given_if w event (refusal_of w event) in
    elim (among-append (k, a) (numbered n own) (given_from (n + 1) (after w event) events) among) [
      | inl here ↦ (m, among-left (m, a) (numbered m own) (given_from (m + 1) (after w event) events) (renumbered own n m k a here))
      | inr later ↦ let rest = any-number events (n + 1) (m + 1) k (after w event) a later in (rest.0, among-right (rest.0, a) (numbered m own) (given_from (m + 1) (after w event) events) rest.1)
    ]

-- what is given after other events is given by the whole run
pub given-after : (before events : List Event) (n m k : ℕ) (w : World) (a : Answer) → Among (k, a) (given_from n (world_after w before) events) → (j : ℕ) × Among (j, a) (given_from m w (before ++ events))
unfolding given_from world_after
given-after [] events n m k w a among = any-number events n m k w a among
given-after (event ∷ before) events n m k w a among =
    let rest = given-after before events n (m + 1) k (after w event) a among in
    (rest.0, among-right (rest.0, a) (numbered m (given_if w event (refusal_of w event))) (given_from (m + 1) (after w event) (before ++ events)) rest.1)
