-- Parties, and what is sent to them.
use Rattle.std.specs.Prelude.{ℕ, ◌==◌, List, [], ◌∷◌, Bool, true, false, if◌then◌else◌, Option, None, Some}
use Rattle.cq_base.specs.declared.party.Party.{Party}
use Rattle.cq_base.specs.declared.party.Party.TheVariants.{Master, Clients, Server}

-- whether two parties are the same
abbrev pub same : Party → Party → Bool
same Master Master = true
same Master Clients = false
same Master (Server b) = false
same Clients Master = false
same Clients Clients = true
same Clients (Server b) = false
same (Server a) Master = false
same (Server a) Clients = false
same (Server a) (Server b) = a == b

-- whether it is that server
abbrev pub is_that : Option ℕ → ℕ → Bool
is_that None id = false
is_that (Some other) id = other == id

-- of what is sent, that which is for one party, in order
abbrev pub addressed : {M : Type 0} → Party → List (Party × M) → List M
addressed to [] = []
addressed to (x ∷ xs) = if same to x.0 then x.1 ∷ addressed to xs else addressed to xs
