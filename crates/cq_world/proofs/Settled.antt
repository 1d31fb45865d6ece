-- What a server keeps when it settles.
use Rattle.std.proofs.Common.{◌≡◌, ℕ, ap, Option, Some, None, Bool, true, false, if◌then◌else◌, length, refl}
use Rattle.std.proofs.lemmas.Bool.{eqb-true, false≢true}
use Rattle.cq_chain.specs.Servers.{Server, acts, is_that}
use Rattle.cq_chain.specs.Steps.{settled}

-- what a server keeps when it settles: all but how far it is acknowledged
pub record IsSettled (old new : Server) : Type 0 where
  pub entries : new.entries ≡ old.entries
  pub pred : new.pred ≡ old.pred
  pub succ : new.succ ≡ old.succ
  pub head : new.head ≡ old.head
  pub at_least : new.at_least ≡ old.at_least
  pub down : new.down ≡ old.down

settled_by : (b : Bool) (s : Server) (n m : ℕ) → IsSettled s (if b then record s { acked = n; floor = m; full = true } else s)
settled_by true s n m = record { entries = refl; pred = refl; succ = refl; head = refl; at_least = refl; down = refl }
settled_by false s n m = record { entries = refl; pred = refl; succ = refl; head = refl; at_least = refl; down = refl }

pub is_settled : (s : Server) → IsSettled s (settled s)
is_settled s = settled_by (acts s) s (length s.entries) (length s.entries)

-- the number that something is
pub that_some : (o : Option ℕ) (p : ℕ) → is_that o p ≡ true → o ≡ Some p
that_some None p h = absurd (false≢true h)
that_some (Some other) p h = ap (λ n. Some n) (eqb-true other p h)
