-- The servers for which something waits, in the order of their numbers.
use Rattle.std.specs.Prelude.{◌≡◌, ℕ, ◌<◌, nat_lt, List, [], Option, None, Some, Bool, true}
use Rattle.cq_base.specs.declared.party.Party.{Party}
use Rattle.cq_base.specs.declared.party.Party.TheVariants.{Server}

-- whether a number is above that one; behind none each is
abbrev pub is_above : Option ℕ → ℕ → Bool
is_above None id = true
is_above (Some other) id = nat_lt other id

-- whether a number is below that one; before none each is
abbrev pub is_below : Option ℕ → ℕ → Bool
is_below None id = true
is_below (Some other) id = nat_lt id other

-- That is the first server behind that one for which something waits, if there is one.
abbrev pub IsNext : {M : Type 0} → Option ℕ → (Party → List M) → Option ℕ → Type 0
IsNext after outbox None = (id : ℕ) → is_above after id ≡ true → outbox (Server id) ≡ []
IsNext after outbox (Some next) = (is_above after next ≡ true) × ((outbox (Server next) ≡ [] → ⊥)
    × ((id : ℕ) → is_above after id ≡ true → id < next → outbox (Server id) ≡ []))
