-- What is sent of an array, one value after the other.
use Rattle.std.proofs.Common.{◌≡◌, suc, List, [], ◌∷◌, ◌++◌, length, ap, refl, subst}
use Rattle.serde.specs.Event.{Log, Logs, seq_ends}
use Rattle.serde_json.specs.Data.{Data}
use Rattle.serde_json.specs.Events.{SendsValue, SendsItems, items_len}
use Rattle.serde_json.specs.View.{items_of}
use Rattle.cq_show_line.specs.within.Parts.{SendsEach}

-- one value more
pub each-more : (ds : List Data) (d : Data) (old mid new : Log) → SendsEach ds old mid → SendsValue d mid new → SendsEach (ds ++ d ∷ []) old new
each-more [] d old mid new same sent = (new, subst (λ l. SendsValue d l new) same sent, refl)
each-more (e ∷ ds) d old mid new rest sent = (rest.0, rest.1, each-more ds d rest.0 mid new rest.2 sent)

-- the values, and then the end of the array
pub items-sent : (ds : List Data) (old mid new : Log) → SendsEach ds old mid → Logs mid new seq_ends → SendsItems (items_of ds) old new
items-sent [] old mid new same ends = subst (λ l. Logs l new seq_ends) same ends
items-sent (d ∷ ds) old mid new rest ends = (rest.0, rest.1, items-sent ds rest.0 mid new rest.2 ends)

pub items-counted : (ds : List Data) → items_len (items_of ds) ≡ length ds
items-counted [] = refl
items-counted (d ∷ ds) = ap suc (items-counted ds)
