-- What is known of the links from and to each server.
use Rattle.std.specs.Prelude.{ℕ, ◌+◌, ◌==◌, List, Bool, true, false, Option, None, Some, is_some, if◌then◌else◌}
use Rattle.std.specs.Map.{lookup}
use Rattle.cq_master_process.specs.declared.link.Link.{Link}

-- what is known of the links of a server, if anything is
abbrev pub link_of : List (ℕ × Link) → ℕ → Option Link
link_of links id = lookup (λ other. id == other) links

-- something is, so a message of the server is counted without memory
abbrev pub is_open : List (ℕ × Link) → ℕ → Bool
is_open links id = is_some (link_of links id)

abbrev pub taken_in : Option Link → ℕ
taken_in None = 0
taken_in (Some link) = link.taken

abbrev pub put_in : Option Link → ℕ
put_in None = 0
put_in (Some link) = link.put

abbrev pub gone_in : Option Link → Bool
gone_in None = false
gone_in (Some link) = link.is_gone

-- the number of the last message that was taken from each server, 0 where there was none
abbrev pub taken_of : List (ℕ × Link) → ℕ → ℕ
taken_of links id = taken_in (link_of links id)

-- and of the last one that was put for it
abbrev pub put_of : List (ℕ × Link) → ℕ → ℕ
put_of links id = put_in (link_of links id)

-- whether it is gone
abbrev pub gone_of : List (ℕ × Link) → ℕ → Bool
gone_of links id = gone_in (link_of links id)

-- one message more on the link of that server
abbrev pub counted : (ℕ → ℕ) → ℕ → ℕ → ℕ
counted numbers id other = if id == other then numbers other + 1 else numbers other

-- one server more
abbrev pub with_one : (ℕ → Bool) → ℕ → ℕ → Bool
with_one are id other = if id == other then true else are other
