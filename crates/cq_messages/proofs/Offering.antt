-- The messages of the numbers that are handed out are those that are handed out.
use Rattle.std.proofs.Common.{◌≡◌, ℕ, ◌∙◌, ◌++◌, ap, sym, refl, List, [], ◌∷◌, Some, true, false, eqb, inl, inr, arith}
use Rattle.std.specs.Prelude.{option_to_list}
use Rattle.std.specs.List.{filter}
use Rattle.cq_base.specs.queue.Effects.{message_at}
use Rattle.cq_base.specs.queue.Messages.{Message}
use Rattle.cq_base.specs.queue.Receiving.{delivery_order, to_hand, leads, group_with}
use Rattle.cq_base.specs.Relations.{Among}
use Rattle.cq_base.proofs.Among.{among-filter, among-flat_map, among-take}
use Rattle.cq_messages.specs.Changes.{numbers_of}
use Rattle.cq_messages.specs.within.Offered.{numbered}
use Rattle.cq_messages.specs.Ordered.{IsRising}
use Rattle.cq_messages.proofs.Rising.{rising-above}

-- what is handed out is among the messages
pub handed-among : (size moment : ℕ) (ms : List Message) (m : Message) → Among m (to_hand size moment ms) → Among m ms
unfolding to_hand delivery_order
handed-among size moment ms m at =
    let turn = among-take size m (delivery_order moment ms) at in
    let group = among-flat_map (group_with ms) m (filter (leads moment ms) ms) turn in
    (among-filter _ m ms group.2).0

-- of messages in order of their numbers, each is found by its own
found-own : (b : ℕ) (ms : List Message) (m : Message) → IsRising b ms → Among m ms → message_at m.sequence ms ≡ Some m
found-own b [] m h a = absurd a
found-own b (x ∷ ms) m h (inl same) = let is : eqb x.sequence m.sequence ≡ true = rw same (grind arith) in rw is (ap (λ y. Some y) (sym same))
found-own b (x ∷ ms) m h (inr a) =
    let above = rising-above x.sequence ms m h.1 a in
    let other : eqb x.sequence m.sequence ≡ false = grind arith in
    rw other (found-own x.sequence ms m h.1 a)

-- so the messages of their numbers are they themselves
numbered-own : (b : ℕ) (ms xs : List Message) → IsRising b ms → ((m : Message) → Among m xs → Among m ms) → numbered ms (numbers_of xs) ≡ xs
numbered-own b ms [] h all = refl
numbered-own b ms (x ∷ xs) h all =
    ap (λ o. option_to_list o ++ numbered ms (numbers_of xs)) (found-own b ms x h (all x (inl refl)))
    ∙ ap (λ ys. x ∷ ys) (numbered-own b ms xs h (λ m a. all m (inr a)))

pub numbered-handed : (b size moment : ℕ) (ms : List Message) → IsRising b ms → numbered ms (numbers_of (to_hand size moment ms)) ≡ to_hand size moment ms
numbered-handed b size moment ms h = numbered-own b ms (to_hand size moment ms) h (handed-among size moment ms)
