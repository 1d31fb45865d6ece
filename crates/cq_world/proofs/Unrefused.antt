-- What it tells that an event isn't refused.
use Rattle.std.proofs.Common.{◌≡◌, ℕ, Option, Some, None, Bool, true, false, cond, refl}
use Rattle.cq_chain.specs.declared.fault.WorldFault.{WorldFault}
use Rattle.cq_chain.specs.declared.fault.WorldFault.TheVariants.{NoSuchServer, ServerDown, NotHead, NotTail}
use Rattle.cq_chain.specs.Refusals.{refusal_of_arrival, refusal_of_query, unless_full}
use Rattle.cq_chain.specs.Servers.{Server, acts}
use Rattle.cq_events.specs.Events.{if_known, unless_down, if_lives}
use Rattle.cq_events.specs.Worlds.{World, is_in}
use Rattle.cq_world.proofs.Eaches.{some_none}

-- what isn't refused where a server may be unknown names a known one, and isn't refused by it
pub known-parts : (known : Bool) (refusal : Option WorldFault) → if_known known refusal ≡ None → (known ≡ true) × (refusal ≡ None)
known-parts true refusal h = (refl, h)
known-parts false refusal h = absurd (some_none NoSuchServer h)

head_by : (b : Bool) (other : Option WorldFault) → cond b other (Some NotHead) ≡ None → b ≡ true
head_by true other h = refl
head_by false other h = absurd (some_none NotHead h)

-- an arrival that isn't refused is at the head
pub at-head : (s : Server) → refusal_of_arrival s ≡ None → s.head ≡ true
unfolding refusal_of_arrival
at-head s h = head_by s.head (unless_full s.entries) h

tail_by : (b : Bool) → cond b None (Some NotTail) ≡ None → b ≡ true
tail_by true h = refl
tail_by false h = absurd (some_none NotTail h)

-- a query that isn't refused is at a server that acts
pub at-tail : (s : Server) → refusal_of_query s ≡ None → acts s ≡ true
unfolding refusal_of_query
at-tail s h = tail_by (acts s) h

-- what isn't refused where a party may be down names one that lives
pub lives-parts : (down : Bool) (refusal : Option WorldFault) → unless_down down refusal ≡ None → (down ≡ false) × (refusal ≡ None)
lives-parts false refusal h = (refl, h)
lives-parts true refusal h = absurd (some_none ServerDown h)

-- both
pub server-parts : (w : World) (id : ℕ) (refusal : Option WorldFault) → if_lives w id refusal ≡ None → (is_in w.master.used id ≡ true) × ((w.server id).down ≡ false) × (refusal ≡ None)
server-parts w id refusal h =
    let known = known-parts (is_in w.master.used id) (unless_down (w.server id).down refusal) h in
    let lives = lives-parts (w.server id).down refusal known.1 in
    (known.0, lives.0, lives.1)
