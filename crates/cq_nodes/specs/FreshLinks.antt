-- Ends of links that nobody used.
use Rattle.std.specs.Prelude.{◌≡◌, List, [], map, None}
use Rattle.std.specs.List.{All}
use Rattle.cq_chain.specs.declared.message.Message.{Message}
use Rattle.cq_nodes.specs.declared.ends.In.{In}
use Rattle.cq_nodes.specs.declared.ends.Out.{Out}

-- The ends of a node's links, in the order of their places.
pub record Ends (P T : Type 0) : Type 0 where
  pub outs : List P
  pub ins : List T

module _ {P T : Type 0} where
  -- without the messages that wait at them
  abbrev pub ends_of : List (Out P) → List (In T) → Ends P T
  ends_of outs ins = record { outs = map (λ out. out.end) outs; ins = map (λ end. end.end) ins }

-- nothing was put on any of these, and nothing was handed back
abbrev pub AreUnput : {P : Type 0} → (P → List Message) → List (Out P) → Type 0
AreUnput list outs = All (λ out. (list out.end ≡ []) × (out.kept ≡ None)) outs

-- nothing was taken from any of these, read or not
abbrev pub AreUntaken : {T : Type 0} → (T → List Message) → List (In T) → Type 0
AreUntaken list ins = All (λ end. (list end.end ≡ []) × (end.unread ≡ None)) ins
