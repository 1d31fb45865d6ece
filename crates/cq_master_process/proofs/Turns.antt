-- The turns of servers, in the order of their numbers.
use Rattle.std.proofs.Common.{◌≡◌, ◌∙◌, ℕ, ◌+◌, ◌-◌, ◌^◌, ◌<◌, ◌≤◌, sym, refl, subst, List, true, false, Option, Some, None, inl, inr, ◌⊎◌, arith}
use Rattle.std.specs.Prelude.{nat_lt}
use Rattle.std.proofs.lemmas.Bool.{cases_Bool, true≢false}
use Rattle.cq_base.specs.declared.party.Party.{Party}
use Rattle.cq_chain.specs.declared.master.Master as rust_master
use Rattle.cq_chain.specs.Masters.{Master}
use Rattle.cq_chain.specs.Messages.{Message}
use Rattle.cq_chain.specs.Next.{IsNext, is_above}
use Rattle.cq_chain.specs.Stands.{MasterStandsFor}
use Rattle.cq_master_process.specs.Turns.{HasNoMore, IsLeft}
use Rattle.cq_master_process.specs.within.Behind.{last_of}
use Rattle.cq_process.specs.declared.outgoing.TheConstants.{LINK_LIMIT}
use Rattle.cq_wire.specs.Limits.{IsServer}

-- how many numbers are left above that one
abbrev pub left_above : Option ℕ → ℕ
left_above None = 2 ^ 32 + 1
left_above (Some id) = 2 ^ 32 - id

pub above-last : (after : Option ℕ) (id : ℕ) → is_above after id ≡ true → last_of after ≤ id
above-last None id h = omega arith
above-last (Some other) id h = grind arith

pub fewer-above : (after : Option ℕ) (id : ℕ) → is_above after id ≡ true → IsServer id → left_above (Some id) < left_above after
fewer-above None id h fits = let some = fits.0 in let few = fits.1 in omega arith
fewer-above (Some other) id h fits = let few = fits.1 in let more : other < id = grind arith in omega arith

-- each server up to that one is done
abbrev pub AreDone : (Party → List Message) → (ℕ → ℕ) → Option ℕ → Type 0
AreDone outbox numbers after = (id : ℕ) → is_above after id ≡ false → HasNoMore outbox numbers id

-- of whatever the core stands for
abbrev pub AreDoneUpTo : rust_master.Master → (ℕ → ℕ) → Option ℕ → Type 0
AreDoneUpTo core numbers after = (m : Master) (outbox : Party → List Message) → MasterStandsFor core m outbox → AreDone outbox numbers after

pub none-done : (core : rust_master.Master) (numbers : ℕ → ℕ) → AreDoneUpTo core numbers None
none-done core numbers m outbox h id below = absurd (true≢false below)

-- a server below the next one is done
below-done : (outbox : Party → List Message) (numbers : ℕ → ℕ) (after : Option ℕ) (next : ℕ) → AreDone outbox numbers after → IsNext after outbox (Some next) → (id : ℕ) → id < next → HasNoMore outbox numbers id
below-done outbox numbers after next done is id below = elim (cases_Bool (is_above after id)) [
  | inl above ↦ inl (is.1.1 id above below)
  | inr behind ↦ done id behind
]

pub not-above : (next id : ℕ) → nat_lt next id ≡ false → id ≤ next
not-above next id h = grind arith

pub at-most : (id next : ℕ) → id ≤ next → (id < next) ⊎ (id ≡ next)
at-most id next h = elim (cases_Bool (nat_lt id next)) [
  | inl less ↦ inl (grind arith)
  | inr more ↦ inr (grind arith)
]

one-done : (outbox : Party → List Message) (numbers : ℕ → ℕ) (after : Option ℕ) (next : ℕ) → AreDone outbox numbers after → IsNext after outbox (Some next) → LINK_LIMIT ≤ numbers next → AreDone outbox numbers (Some next)
one-done outbox numbers after next done is spent id below = elim (at-most id next (not-above next id below)) [
  | inl less ↦ below-done outbox numbers after next done is id less
  | inr same ↦ inr (subst (λ n. LINK_LIMIT ≤ numbers n) (sym same) spent)
]

-- the next one is done where its link is spent
pub more-done : (core : rust_master.Master) (numbers : ℕ → ℕ) (after : Option ℕ) (next : ℕ) → AreDoneUpTo core numbers after → ((m : Master) (outbox : Party → List Message) → MasterStandsFor core m outbox → IsNext after outbox (Some next)) → LINK_LIMIT ≤ numbers next
    → AreDoneUpTo core numbers (Some next)
more-done core numbers after next done is spent m outbox h = one-done outbox numbers after next (done m outbox h) (is m outbox h) spent

-- or it is the first that is left
pub first-is-left : (core : rust_master.Master) (numbers : ℕ → ℕ) (after : Option ℕ) (next : ℕ) → AreDoneUpTo core numbers after → ((m : Master) (outbox : Party → List Message) → MasterStandsFor core m outbox → IsNext after outbox (Some next)) → numbers next < LINK_LIMIT
    → IsLeft core numbers (Some next)
first-is-left core numbers after next done is unspent m outbox h = ((is m outbox h).1.0, (unspent, below-done outbox numbers after next (done m outbox h) (is m outbox h)))

all-done : (outbox : Party → List Message) (numbers : ℕ → ℕ) (after : Option ℕ) → AreDone outbox numbers after → IsNext after outbox None → (id : ℕ) → HasNoMore outbox numbers id
all-done outbox numbers after done is id = elim (cases_Bool (is_above after id)) [
  | inl above ↦ inl (is id above)
  | inr behind ↦ done id behind
]

-- and behind the last one none is
pub none-is-left : (core : rust_master.Master) (numbers : ℕ → ℕ) (after next : Option ℕ) → AreDoneUpTo core numbers after → ((id : ℕ) → next ≡ Some id → ⊥) → ((m : Master) (outbox : Party → List Message) → MasterStandsFor core m outbox → IsNext after outbox next)
    → IsLeft core numbers None
none-is-left core numbers after None done none is m outbox h = all-done outbox numbers after (done m outbox h) (is m outbox h)
none-is-left core numbers after (Some id) done none is m outbox h = absurd (none id refl)

-- a server that isn't above that one isn't the next one
pub never-next : (core : rust_master.Master) (after : Option ℕ) (next : ℕ) → ((m : Master) (outbox : Party → List Message) → MasterStandsFor core m outbox → IsNext after outbox (Some next)) → is_above after next ≡ false
    → (m : Master) (outbox : Party → List Message) → MasterStandsFor core m outbox → IsNext after outbox None
never-next core after next is below m outbox h = absurd (true≢false (sym (is m outbox h).0 ∙ below))
