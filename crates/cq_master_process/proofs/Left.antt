-- What still waits behind puts, and the turns of servers.
use Rattle.std.proofs.Common.{◌≡◌, ◌∙◌, ℕ, ◌+◌, ◌==◌, ◌≤◌, ap, sym, refl, subst, cond, List, [], ◌∷◌, ◌++◌, drop, map, append_assoc, append-nil, Bool, true, false, Option, Some, None, inl, inr, arith}
use Rattle.std.proofs.lemmas.Bool.{cases_Bool, true≢false}
use Rattle.cq_base.specs.declared.party.Party.{Party}
use Rattle.cq_base.specs.declared.party.Party.TheVariants.{Server}
use Rattle.cq_base.specs.Relations.{IsPrefix}
use Rattle.cq_chain.specs.declared.master.Master as rust_master
use Rattle.cq_chain.specs.Masters.{Master}
use Rattle.cq_chain.specs.Messages.{Message}
use Rattle.cq_chain.specs.Next.{IsNext, is_above}
use Rattle.cq_chain.specs.Parties.{same}
use Rattle.cq_chain.specs.Stands.{MasterStandsFor, drained}
use Rattle.cq_events.specs.Actions.{CoreState, IsMasterAs}
use Rattle.cq_events.specs.Acts.{MasterActs}
use Rattle.cq_master_process.specs.declared.process.MasterProcess.{MasterProcess}
use Rattle.cq_master_process.specs.Cores.{alone}
use Rattle.cq_master_process.specs.Links.{counted, gone_of, put_of}
use Rattle.cq_master_process.specs.Putting.{Puts, Sent, action_of, counted_all, left_of, sent_to}
use Rattle.cq_master_process.specs.Steps.{Keeps}
use Rattle.cq_master_process.specs.Turns.{HasNoMore}
use Rattle.cq_master_process.specs.within.Behind.{HasTurn, PutsFor, PutsInOrder, PutsUpTo, last_of}
use Rattle.cq_master_process.specs.within.Telling.{IsEmptyFor}
use Rattle.cq_master_process.proofs.Puts.{order-both, order-for, order-from, puts-both, puts-kept, puts-none}
use Rattle.cq_master_process.proofs.Turns.{above-last, at-most, not-above}
use Rattle.cq_process.specs.declared.outgoing.TheConstants.{LINK_LIMIT}

-- ---- outboxes

drained-empty : (box : Party → List Message) (to : Party) (id : ℕ) → box (Server id) ≡ [] → drained box to (Server id) ≡ []
drained-empty box to id empty = go (same to (Server id)) where
  go : (t : Bool) → cond t (drop 1 (box (Server id))) (box (Server id)) ≡ []
  go true = ap (λ ms. drop 1 ms) empty
  go false = empty

left-empty : (box : Party → List Message) (xs : List Sent) (id : ℕ) → box (Server id) ≡ [] → left_of box xs (Server id) ≡ []
left-empty box [] id empty = empty
left-empty box (x ∷ xs) id empty = left-empty (drained box (Server x.to)) xs id (drained-empty box (Server x.to) id empty)

left-both : (box : Party → List Message) (xs ys : List Sent) → left_of box (xs ++ ys) ≡ left_of (left_of box xs) ys
left-both box [] ys = refl
left-both box (x ∷ xs) ys = left-both (drained box (Server x.to)) xs ys

counted-more : (numbers : ℕ → ℕ) (to id : ℕ) → numbers id ≤ counted numbers to id
counted-more numbers to id = go (to == id) where
  go : (t : Bool) → numbers id ≤ cond t (numbers id + 1) (numbers id)
  go true = omega arith
  go false = omega arith

more-by : (a b n : ℕ) → n ≤ a → a ≤ b → n ≤ b
more-by a b n h k = omega arith

counted-all-more : (numbers : ℕ → ℕ) (xs : List Sent) (id n : ℕ) → n ≤ numbers id → n ≤ counted_all numbers xs id
counted-all-more numbers [] id n h = h
counted-all-more numbers (x ∷ xs) id n h = counted-all-more (counted numbers x.to) xs id n (more-by (numbers id) (counted numbers x.to id) n h (counted-more numbers x.to id))

no-more-behind : (box : Party → List Message) (numbers : ℕ → ℕ) (xs : List Sent) (id : ℕ) → HasNoMore box numbers id → HasNoMore (left_of box xs) (counted_all numbers xs) id
no-more-behind box numbers xs id (inl empty) = inl (left-empty box xs id empty)
no-more-behind box numbers xs id (inr spent) = inr (counted-all-more numbers xs id LINK_LIMIT spent)

-- what the core stands for behind puts
acts-stand : (xs : List Sent) (a b : CoreState rust_master.Master) (m : Master) (outbox : Party → List Message) → MasterActs a (map action_of xs) b → IsMasterAs a m outbox → IsMasterAs b m (left_of outbox xs)
acts-stand [] a b m outbox h i = h m outbox i
acts-stand (x ∷ xs) a b m outbox h i = acts-stand xs h.0 b m (drained outbox (Server x.to)) h.2 (h.1.0 m outbox i).1

puts-stand : (p q : MasterProcess) (xs : List Sent) (told : List ℕ) → Puts p q xs told → (m : Master) (outbox : Party → List Message) → MasterStandsFor p.core m outbox → MasterStandsFor q.core m (left_of outbox xs)
puts-stand p q xs told h m outbox i = (acts-stand xs (alone p.core) (alone q.core) m outbox h.done (i, λ to. tt)).0

-- ---- the turn of a server

-- nothing waits for it any more
pub turn-empty : (p q r : MasterProcess) (to : ℕ) (old mid new : List ℕ) → PutsFor p q to old mid → Keeps q r → new ≡ mid → IsEmptyFor q.core to → HasTurn p r to old new
turn-empty p q r to old mid new h k is empty = record {
  messages = h.messages;
  told = h.told;
  puts = puts-kept p q r (map (sent_to to) h.messages) h.told h.puts k;
  thrown = λ gone m outbox i. inl (empty m (left_of outbox (map (sent_to to) h.messages)) (puts-stand p q (map (sent_to to) h.messages) h.told h.puts m outbox i));
  bytes = is ∙ h.bytes;
}

-- it isn't gone
pub turn-here : (p q r : MasterProcess) (to : ℕ) (old mid new : List ℕ) → PutsFor p q to old mid → Keeps q r → new ≡ mid → gone_of q.links to ≡ false → HasTurn p r to old new
turn-here p q r to old mid new h k is here = record {
  messages = h.messages;
  told = h.told;
  puts = puts-kept p q r (map (sent_to to) h.messages) h.told h.puts k;
  thrown = λ gone. absurd (true≢false (sym (ap (λ (f : ℕ → Bool). f to) h.puts.gone ∙ gone) ∙ here));
  bytes = is ∙ h.bytes;
}

-- its link is spent
pub turn-spent : (p q : MasterProcess) (to : ℕ) (old new : List ℕ) → PutsFor p q to old new → LINK_LIMIT ≤ put_of q.links to → HasTurn p q to old new
turn-spent p q to old new h spent = record { messages = h.messages; told = h.told; puts = h.puts; thrown = λ gone m outbox i. inr spent; bytes = h.bytes }

-- behind a call that changes nothing
pub turn-behind : (p q r : MasterProcess) (to : ℕ) (old new : List ℕ) → Keeps p q → HasTurn q r to old new → HasTurn p r to old new
turn-behind p q r to old new k h = record {
  messages = h.messages;
  told = h.told;
  puts = puts-both p q r [] (map (sent_to to) h.messages) [] h.told (puts-kept p p q [] [] (puts-none p) k) h.puts;
  thrown = λ gone m outbox i. h.thrown (ap (λ (f : ℕ → Bool). f to) k.gone ∙ gone) m outbox (k.core m outbox i);
  bytes = h.bytes;
}

-- ---- the turns of servers in order

pub none-up-to : (p : MasterProcess) (old : List ℕ) → PutsUpTo p p None old old
none-up-to p old = record {
  messages = [];
  told = [];
  puts = puts-none p;
  order = omega arith;
  thrown = λ m outbox i id below. absurd (true≢false below);
  bytes = sym (append-nil old);
}

module _ (p q r : MasterProcess) (after : Option ℕ) (to : ℕ) (old mid new : List ℕ) (h : PutsUpTo p q after old mid) (k : HasTurn q r to mid new)
    (next : (m : Master) (outbox : Party → List Message) → MasterStandsFor q.core m outbox → IsNext after outbox (Some to)) where
  one-thrown : (m : Master) (outbox : Party → List Message) → MasterStandsFor p.core m outbox → (id : ℕ) → is_above (Some to) id ≡ false → gone_of p.links id ≡ true
      → HasNoMore (left_of (left_of outbox h.messages) (map (sent_to to) k.messages)) (put_of r.links) id
  one-thrown m outbox i id below gone = elim (cases_Bool (is_above after id)) [
    | inl above ↦ elim (at-most id to (not-above to id below)) [
      | inl less ↦ inl (left-empty box (map (sent_to to) k.messages) id ((next m box stands).1.1 id above less))
      | inr together ↦
          let there : gone_of q.links to ≡ true = ap (λ (f : ℕ → Bool). f to) h.puts.gone ∙ subst (λ n. gone_of p.links n ≡ true) together gone in
          subst (λ n. HasNoMore (left_of box (map (sent_to to) k.messages)) (put_of r.links) n) (sym together) (k.thrown there m box stands)
    ]
    | inr behind ↦
        subst (λ f. HasNoMore (left_of box (map (sent_to to) k.messages)) f id) (sym k.puts.put) (no-more-behind box (put_of q.links) (map (sent_to to) k.messages) id (h.thrown m outbox i id behind gone))
  ] where
    box : Party → List Message
    box = left_of outbox h.messages

    stands : MasterStandsFor q.core m box
    stands = puts-stand p q h.messages h.told h.puts m outbox i

  pub more-up-to : is_above after to ≡ true → PutsUpTo p r (Some to) old new
  more-up-to above = record {
    messages = h.messages ++ map (sent_to to) k.messages;
    told = h.told ++ k.told;
    puts = puts-both p q r h.messages (map (sent_to to) k.messages) h.told k.told h.puts k.puts;
    order = order-both 0 (last_of after) to h.messages (map (sent_to to) k.messages) h.order (order-from (last_of after) to to (map (sent_to to) k.messages) (above-last after to above) (order-for to k.messages));
    thrown = λ m outbox i id below gone. subst (λ box. HasNoMore box (put_of r.links) id) (sym (left-both outbox h.messages (map (sent_to to) k.messages))) (one-thrown m outbox i id below gone);
    bytes = k.bytes ∙ ap (λ u. u ++ k.told) h.bytes ∙ append_assoc old h.told k.told;
  }

pub front-up-to : (p q : MasterProcess) (after : Option ℕ) (old mid new : List ℕ) → PutsUpTo p q after old mid → IsPrefix mid new → IsPrefix old new
front-up-to p q after old mid new h front = (h.told ++ front.0, front.1 ∙ ap (λ u. u ++ front.0) h.bytes ∙ append_assoc old h.told front.0)

all-thrown : (p q : MasterProcess) (after next : Option ℕ) (old new : List ℕ) (h : PutsUpTo p q after old new) → ((id : ℕ) → next ≡ Some id → ⊥) → ((m : Master) (outbox : Party → List Message) → MasterStandsFor q.core m outbox → IsNext after outbox next)
    → (m : Master) (outbox : Party → List Message) → MasterStandsFor p.core m outbox → (id : ℕ) → gone_of p.links id ≡ true → HasNoMore (left_of outbox h.messages) (put_of q.links) id
all-thrown p q after (Some other) old new h none is m outbox i id gone = absurd (none other refl)
all-thrown p q after None old new h none is m outbox i id gone = elim (cases_Bool (is_above after id)) [
  | inl above ↦ inl (is m (left_of outbox h.messages) (puts-stand p q h.messages h.told h.puts m outbox i) id above)
  | inr behind ↦ h.thrown m outbox i id behind gone
]

-- behind the last one
pub all-up-to : (p q : MasterProcess) (after next : Option ℕ) (old new : List ℕ) → PutsUpTo p q after old new → ((id : ℕ) → next ≡ Some id → ⊥) → ((m : Master) (outbox : Party → List Message) → MasterStandsFor q.core m outbox → IsNext after outbox next)
    → PutsInOrder p q old new
all-up-to p q after next old new h none is = record {
  messages = h.messages;
  told = h.told;
  puts = h.puts;
  most = last_of after;
  order = h.order;
  thrown = all-thrown p q after next old new h none is;
  bytes = h.bytes;
}
