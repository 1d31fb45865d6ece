-- What is found of links after one of them changed.
use Rattle.std.proofs.Common.{◌≡◌, ◌<◌, ◌∙◌, ap, sym, refl, ◌&&◌, List, Option, Some, None, cond, inl, inr, arith}
use Rattle.std.proofs.lemmas.Bool.{cases_Bool}
use Rattle.cq_base.specs.declared.party.Party.{Party}
use Rattle.cq_chain.specs.declared.message.Message.{Message}
use Rattle.cq_chain.specs.Fifos.{Fifo, messages_of, room_of}
use Rattle.cq_chain.specs.Parties.{same}
use Rattle.cq_world.specs.within.Kept.{fifo_at, messages_at}
use Rattle.cq_events.specs.Worlds.{set_pair}
use Rattle.cq_world.specs.declared.links.LinkKey.{LinkKey}
use Rattle.cq_world.proofs.OfSim.LinkKeys.{IsWritten}
use Rattle.cq_events.proofs.Parties.{same-true, both}

-- what is found then
pub written : (old new : List (LinkKey × Fifo)) (from to : Party) (fifo : Fifo) (ms : List Message) → IsWritten old new from to fifo → fifo.messages ≡ ms → (x y : Party) → messages_at new x y ≡ set_pair (messages_at old) from to ms x y
written old new from to fifo ms h is x y = elim (cases_Bool (same x from && same y to)) [
  | inl own ↦ ap messages_of (h x y) ∙ ap (λ b. messages_of (cond b (Some fifo) (fifo_at old x y))) own ∙ is ∙ sym (ap (λ b. cond b ms (messages_at old x y)) own)
  | inr other ↦ ap messages_of (h x y) ∙ ap (λ b. messages_of (cond b (Some fifo) (fifo_at old x y))) other ∙ sym (ap (λ b. cond b ms (messages_at old x y)) other)
]

-- the same messages, set where they are, are no change
pub set-same : {A : Type 0} (link : Party → Party → A) (from to : Party) (ms : A) → link from to ≡ ms → (x y : Party) → set_pair link from to ms x y ≡ link x y
set-same link from to ms is x y = elim (cases_Bool (same x from && same y to)) [
  | inl own ↦ ap (λ b. cond b ms (link x y)) own ∙ sym is ∙ ap (λ a. link a to) (sym (same-true x from (both (same x from) (same y to) own).0)) ∙ ap (λ b. link x b) (sym (same-true y to (both (same x from) (same y to) own).1))
  | inr other ↦ ap (λ b. cond b ms (link x y)) other
]

-- a fifo that keeps its messages
pub kept : (old new : List (LinkKey × Fifo)) (from to : Party) (fifo : Fifo) → IsWritten old new from to fifo → fifo.messages ≡ messages_at old from to → (x y : Party) → messages_at new x y ≡ messages_at old x y
kept old new from to fifo h is x y = written old new from to fifo (messages_at old from to) h is x y ∙ set-same (messages_at old) from to (messages_at old from to) refl x y

-- where nothing is kept there is no room
some-none : {fifo : Fifo} → Some fifo ≡ None → ⊥
some-none h = cc

pub no-room : (o : Option Fifo) → o ≡ None → 0 < room_of o → ⊥
no-room None h room = omega (arith, room)
no-room (Some fifo) h room = absurd (some-none h)
