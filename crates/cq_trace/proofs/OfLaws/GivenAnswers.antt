-- The answers that a run gives are those that it puts to the clients.
use Rattle.std.proofs.Common.{◌≡◌, ℕ, ◌+◌, ap, sym, refl, subst, cond, List, [], ◌∷◌, ◌++◌, Bool, true, false, ◌⊎◌, None, inl, inr}
use Rattle.cq_base.specs.declared.party.Party.{Party}
use Rattle.cq_base.specs.declared.party.Party.TheVariants as parties
use Rattle.cq_base.specs.declared.ask.Entry.{Entry}
use Rattle.cq_base.specs.Relations.{Among}
use Rattle.cq_base.proofs.Among.{among-append, among-left, among-right}
use Rattle.cq_chain.specs.declared.message.Answer.{Answer}
use Rattle.cq_chain.specs.declared.message.Message as rust
use Rattle.cq_chain.specs.declared.message.Message.TheVariants as stored
use Rattle.cq_chain.specs.Messages.{Message, Snap, Answers}
use Rattle.cq_chain.specs.Parties.{same}
use Rattle.cq_chain.specs.Stands.{Means, AllMean}
use Rattle.cq_events.specs.Events.{refusal_of, given_by, answers_in, head_of, next, after, first_of}
use Rattle.cq_events.specs.Orders.{AreEnabled, put_by_event, put_by}
use Rattle.cq_events.specs.Runs.{given_from, given_if, numbered}
use Rattle.cq_events.specs.Worlds.{World}
use Rattle.cq_events.specs.declared.event.Event.{Event}
use Rattle.cq_events.specs.declared.event.Event.TheVariants as events
use Rattle.cq_events.proofs.Parties.{same-refl}
use Rattle.cq_trace.proofs.OfLaws.Moments.{enabled_parts, put_none, put_first}

-- the answers that mean the same
mean_right : (a : Answer) (x : rust.Message) (m : Message) → stored.Answer a ≡ x → Means x m → m ≡ Answers a
mean_right a x m is h = subst (λ z. Means z m) (sym is) h

-- a message that stands for an answer is that answer
mean_left : (a : Answer) (x : rust.Message) → Means x (Answers a) → stored.Answer a ≡ x
mean_left a (stored.Answer b) h = ap stored.Answer (same_answer h) where
  same_answer : {b : Answer} → Answers a ≡ Answers b → a ≡ b
  same_answer e = cc
mean_left a (stored.Fwd place entry) h = absurd cc
mean_left a (stored.Snap state) h = absurd (differs h.is) where
  differs : {es : List Entry} → Answers a ≡ Snap es → ⊥
  differs e = cc
mean_left a (stored.Ack place) h = absurd cc
mean_left a stored.BeHead h = absurd cc
mean_left a (stored.Report pred) h = absurd cc
mean_left a (stored.Adopt succ have) h = absurd cc
mean_left a (stored.BeTail least) h = absurd cc
mean_left a (stored.Feed succ) h = absurd cc
mean_left a (stored.Have pred count) h = absurd cc
mean_left a (stored.Adopted succ count) h = absurd cc
mean_left a (stored.Caught pred count) h = absurd cc
mean_left a stored.Ready h = absurd cc

-- an answer among kept messages is among those that they stand for
pub among_right : (a : Answer) (xs : List rust.Message) (ms : List Message) → AllMean xs ms → Among (stored.Answer a) xs → Among (Answers a) ms
among_right a [] ms h i = absurd i
among_right a (x ∷ xs) [] h i = absurd h
among_right a (x ∷ xs) (m ∷ ms) h (inl e) = inl (sym (mean_right a x m e h.0))
among_right a (x ∷ xs) (m ∷ ms) h (inr i) = inr (among_right a xs ms h.1 i)

-- and the other way
pub among_left : (a : Answer) (xs : List rust.Message) (ms : List Message) → AllMean xs ms → Among (Answers a) ms → Among (stored.Answer a) xs
among_left a xs [] h i = absurd i
among_left a [] (m ∷ ms) h i = absurd h
among_left a (x ∷ xs) (m ∷ ms) h (inl e) = inl (mean_left a x (subst (Means x) (sym e) h.0))
among_left a (x ∷ xs) (m ∷ ms) h (inr i) = inr (among_left a xs ms h.1 i)

-- what is given, by the first event
given_first : (n : ℕ) (w : World) (event : Event) (order : List Event) → refusal_of w event ≡ None → given_from n w (event ∷ order) ≡ numbered n (given_by w event) ++ given_from (n + 1) (after w event) order
unfolding given_from
given_first n w event order ok = ap (λ r. numbered n (given_if w event r) ++ given_from (n + 1) (after w event) order) ok

-- no event gives nothing
given_none : (n : ℕ) (w : World) → given_from n w [] ≡ []
unfolding given_from
given_none n w = refl

-- the answer that an event gives is one that it puts
event_gives : (n k : ℕ) (a : Answer) (w : World) (event : Event) → Among (k, a) (numbered n (given_by w event)) → (from : Party) × Among (Answers a) (put_by_event w event from parties.Clients)
unfolding given_by
event_gives n k a w (events.Put from parties.Clients) i = (from, subst (λ t. Among (Answers a) (cond t (cond true (first_of (w.outbox from parties.Clients)) []) [])) (sym (same-refl from)) (go (w.outbox from parties.Clients) i)) where
  go : (ms : List Message) → Among (k, a) (numbered n (head_of (answers_in (first_of ms)))) → Among (Answers a) (first_of ms)
  go [] j = absurd j
  go (Answers b ∷ ms) (inl e) = inl (ap Answers (ap (λ z. z.1) e))
  go (Answers b ∷ ms) (inr e) = absurd e
  go (m ∷ ms) j = absurd j
event_gives n k a w (events.Put from parties.Master) i = absurd i
event_gives n k a w (events.Put from (parties.Server id)) i = absurd i
event_gives n k a w (events.Arrive at clock request) i = absurd i
event_gives n k a w (events.Ask at query) i = absurd i
event_gives n k a w (events.Take from to) i = absurd i
event_gives n k a w (events.Crash id) i = absurd i
event_gives n k a w (events.Detect id) i = absurd i
event_gives n k a w (events.Join id) i = absurd i

-- an answer that it puts to the clients is given
event_given : (n : ℕ) (a : Answer) (w : World) (event : Event) (from : Party) → Among (Answers a) (put_by_event w event from parties.Clients) → Among (n, a) (numbered n (given_by w event))
unfolding given_by
event_given n a w (events.Put b parties.Clients) from i = go (same from b) (w.outbox b parties.Clients) i where
  one : (ms : List Message) → Among (Answers a) (first_of ms) → Among (n, a) (numbered n (head_of (answers_in (first_of ms))))
  one [] j = absurd j
  one (m ∷ ms) (inl e) = subst (λ z. Among (n, a) (numbered n (head_of (answers_in (z ∷ []))))) e (inl refl)
  one (m ∷ ms) (inr e) = absurd e

  go : (t : Bool) (ms : List Message) → Among (Answers a) (cond t (cond true (first_of ms) []) []) → Among (n, a) (numbered n (head_of (answers_in (first_of ms))))
  go true ms j = one ms j
  go false ms j = absurd j
event_given n a w (events.Put b parties.Master) from i = absurd (go (same from b) i) where
  go : (t : Bool) → Among (Answers a) (cond t (cond false (first_of (w.outbox b parties.Master)) []) []) → ⊥
  go true j = absurd j
  go false j = absurd j
event_given n a w (events.Put b (parties.Server id)) from i = absurd (go (same from b) i) where
  go : (t : Bool) → Among (Answers a) (cond t (cond false (first_of (w.outbox b (parties.Server id))) []) []) → ⊥
  go true j = absurd j
  go false j = absurd j
event_given n a w (events.Arrive at clock request) from i = absurd i
event_given n a w (events.Ask at query) from i = absurd i
event_given n a w (events.Take b to) from i = absurd i
event_given n a w (events.Crash id) from i = absurd i
event_given n a w (events.Detect id) from i = absurd i
event_given n a w (events.Join id) from i = absurd i

-- each answer that is given was put to the clients
pub all_given : (order : List Event) (n k : ℕ) (a : Answer) (w : World) → AreEnabled w order → Among (k, a) (given_from n w order) → (from : Party) × Among (Answers a) (put_by w order from parties.Clients)
all_given [] n k a w enabled i = absurd (subst (Among (k, a)) (given_none n w) i)
all_given (event ∷ order) n k a w enabled i =
    let parts = enabled_parts w event order enabled in
    go (among-append (k, a) (numbered n (given_by w event)) (given_from (n + 1) (after w event) order) (subst (Among (k, a)) (given_first n w event order parts.0) i)) (all_given order (n + 1) k a (after w event) parts.1)
  where
    go : Among (k, a) (numbered n (given_by w event)) ⊎ Among (k, a) (given_from (n + 1) (after w event) order)
        → (Among (k, a) (given_from (n + 1) (after w event) order) → (from : Party) × Among (Answers a) (put_by (after w event) order from parties.Clients))
        → (from : Party) × Among (Answers a) (put_by w (event ∷ order) from parties.Clients)
    go (inl now) rest = let found = event_gives n k a w event now in
        (found.0, subst (Among (Answers a)) (sym (put_first w event order found.0 parties.Clients)) (among-left (Answers a) (put_by_event w event found.0 parties.Clients) (put_by (after w event) order found.0 parties.Clients) found.1))
    go (inr next) rest = let found = rest next in
        (found.0, subst (Among (Answers a)) (sym (put_first w event order found.0 parties.Clients)) (among-right (Answers a) (put_by_event w event found.0 parties.Clients) (put_by (after w event) order found.0 parties.Clients) found.1))

-- each answer that is put to the clients is given
pub all_heard : (order : List Event) (n : ℕ) (a : Answer) (w : World) (from : Party) → AreEnabled w order → Among (Answers a) (put_by w order from parties.Clients) → (k : ℕ) × Among (k, a) (given_from n w order)
all_heard [] n a w from enabled i = absurd (subst (Among (Answers a)) (put_none w from parties.Clients) i)
all_heard (event ∷ order) n a w from enabled i =
    let parts = enabled_parts w event order enabled in
    go parts.0 (all_heard order (n + 1) a (after w event) from parts.1) (among-append (Answers a) (put_by_event w event from parties.Clients) (put_by (after w event) order from parties.Clients) (subst (Among (Answers a)) (put_first w event order from parties.Clients) i))
  where
    go : refusal_of w event ≡ None → (Among (Answers a) (put_by (after w event) order from parties.Clients) → (k : ℕ) × Among (k, a) (given_from (n + 1) (after w event) order))
        → Among (Answers a) (put_by_event w event from parties.Clients) ⊎ Among (Answers a) (put_by (after w event) order from parties.Clients) → (k : ℕ) × Among (k, a) (given_from n w (event ∷ order))
    go ok rest (inl now) = (n, subst (Among (n, a)) (sym (given_first n w event order ok)) (among-left (n, a) (numbered n (given_by w event)) (given_from (n + 1) (after w event) order) (event_given n a w event from now)))
    go ok rest (inr next) = let found = rest next in
        (found.0, subst (Among (found.0, a)) (sym (given_first n w event order ok)) (among-right (found.0, a) (numbered n (given_by w event)) (given_from (n + 1) (after w event) order) found.1))
