-- Which server is the next one for which something waits.
use Rattle.std.proofs.Common.{◌≡◌, ℕ, ◌<◌, ◌≤◌, ◌∙◌, ap, sym, List, [], ◌∷◌, ◌++◌, length, Option, Some, None, Bool, true, false, arith, inl, inr, subst, refl, if◌then◌else◌}
use Rattle.std.specs.Prelude.{nat_lt, ◌&&◌, ◌||◌, ⊤}
use Rattle.std.specs.List.{list_any}
use Rattle.std.specs.Map.{lookup, keys_of}
use Rattle.std.proofs.lemmas.Bool.{cases_Bool, true≢false}
use Rattle.cq_base.specs.declared.party.Party.{Party}
use Rattle.cq_base.specs.declared.party.Party.TheVariants.{Master, Clients, Server}
use Rattle.cq_chain.specs.declared.message.Message as rust
use Rattle.cq_chain.specs.Fifos.{Fifo, messages_of}
use Rattle.cq_chain.specs.Messages.{Message}
use Rattle.cq_chain.specs.Next.{IsNext, is_above, is_below}
use Rattle.cq_chain.specs.Parties.{same}
use Rattle.cq_chain.specs.Stands.{AllMean}
use Rattle.cq_chain.specs.within.Boxes.{messages_for, nearer, nearer_party}
use Rattle.cq_chain.specs.within.Waiting.{Waits}
use Rattle.cq_chain.proofs.Mailing.{none-mean, eqb-turned, same-equal}

-- something waits for that server, and it is behind the other one
abbrev pub Found : List (Party × Fifo) → Option ℕ → Option ℕ → Type 0
Found boxes after None = ⊤
Found boxes after (Some id) = (is_above after id ≡ true) × (nat_lt 0 (length (messages_for boxes (Server id))) ≡ true)

-- a server was found, with at most that number
abbrev pub AtMost : Option ℕ → ℕ → Type 0
AtMost None id = ⊥
AtMost (Some next) id = next ≤ id

-- Of these parties that is the first server behind that one for which something waits.
pub record Least (boxes : List (Party × Fifo)) (after next : Option ℕ) (seen : List Party) : Type 0 where
  pub found : Found boxes after next
  pub least : (id : ℕ) → list_any (same (Server id)) seen ≡ true → is_above after id ≡ true → nat_lt 0 (length (messages_for boxes (Server id))) ≡ true → AtMost next id

pub least-of-none : (boxes : List (Party × Fifo)) (after : Option ℕ) → Least boxes after None []
least-of-none boxes after = record { found = tt; least = λ id h. absurd (true≢false (sym h)) }

any-last : {A : Type 0} (f : A → Bool) (xs : List A) (y : A) → list_any f (xs ++ y ∷ []) ≡ true → list_any f xs ≡ false → f y ≡ true
any-last f [] y h e = grind arith
any-last f (x ∷ xs) y h e = elim (cases_Bool (f x)) [
  | inl is ↦ absurd (true≢false (sym (ap (λ b. b || list_any f xs) is) ∙ e))
  | inr is ↦ any-last f xs y (sym (ap (λ b. b || list_any f (xs ++ y ∷ [])) is) ∙ h) (sym (ap (λ b. b || list_any f xs) is) ∙ e)
]

-- the party isn't a server
least-beside : (boxes : List (Party × Fifo)) (after next : Option ℕ) (seen : List Party) (party : Party) → ((id : ℕ) → same (Server id) party ≡ false) → Least boxes after next seen → Least boxes after next (seen ++ party ∷ [])
least-beside boxes after next seen party other h = record {
  found = h.found;
  least = λ id any above waits. elim (cases_Bool (list_any (same (Server id)) seen)) [
    | inl is ↦ h.least id is above waits
    | inr is ↦ absurd (true≢false (sym (any-last (same (Server id)) seen party any is) ∙ other id))
  ];
}

both : (a b : Bool) → a && b ≡ true → (a ≡ true) × (b ≡ true)
both true true h = (refl, refl)
both true false h = absurd (true≢false (sym h))
both false b h = absurd (true≢false (sym h))

not-both : (a b : Bool) → a && b ≡ false → a ≡ true → b ≡ false
not-both true b h e = h
not-both false b h e = absurd (true≢false (sym e))

below-at_most : (next : Option ℕ) (k id : ℕ) → is_below next k ≡ true → AtMost next id → AtMost (Some k) id
below-at_most None k id below h = absurd h
below-at_most (Some n) k id below h = grind arith

at_most-below : (next : Option ℕ) (k : ℕ) → is_below next k ≡ false → AtMost next k
at_most-below None k h = absurd (true≢false h)
at_most-below (Some n) k h = grind arith

number-of : (id k : ℕ) → same (Server id) (Server k) ≡ true → id ≡ k
number-of id k h = grind arith

at-number : (boxes : List (Party × Fifo)) (after : Option ℕ) (id k : ℕ) → id ≡ k → is_above after id ≡ true → nat_lt 0 (length (messages_for boxes (Server id))) ≡ true → (is_above after k ≡ true) × (nat_lt 0 (length (messages_for boxes (Server k))) ≡ true)
at-number boxes after id k e above waits = subst (λ n. (is_above after n ≡ true) × (nat_lt 0 (length (messages_for boxes (Server n))) ≡ true)) e (above, waits)

-- it is one
least-chosen : (boxes : List (Party × Fifo)) (after next : Option ℕ) (seen : List Party) (k : ℕ) (waits above below : Bool) → nat_lt 0 (length (messages_for boxes (Server k))) ≡ waits → is_above after k ≡ above → is_below next k ≡ below
    → Least boxes after next seen → Least boxes after (if (waits && above) && below then Some k else next) (seen ++ Server k ∷ [])
least-chosen boxes after next seen k true true true w a b h = record {
  found = (a, w);
  least = λ id any above waits. elim (cases_Bool (list_any (same (Server id)) seen)) [
    | inl is ↦ below-at_most next k id b (h.least id is above waits)
    | inr is ↦ let e : id ≡ k = number-of id k (any-last (same (Server id)) seen (Server k) any is) in omega (arith, e)
  ];
}
least-chosen boxes after next seen k true true false w a b h = record {
  found = h.found;
  least = λ id any above waits. elim (cases_Bool (list_any (same (Server id)) seen)) [
    | inl is ↦ h.least id is above waits
    | inr is ↦ let e : id ≡ k = number-of id k (any-last (same (Server id)) seen (Server k) any is) in subst (λ n. AtMost next n) (sym e) (at_most-below next k b)
  ];
}
least-chosen boxes after next seen k true false below w a b h = record {
  found = h.found;
  least = λ id any above waits. elim (cases_Bool (list_any (same (Server id)) seen)) [
    | inl is ↦ h.least id is above waits
    | inr is ↦ let e : id ≡ k = number-of id k (any-last (same (Server id)) seen (Server k) any is) in absurd (true≢false (sym (at-number boxes after id k e above waits).0 ∙ a))
  ];
}
least-chosen boxes after next seen k false above below w a b h = record {
  found = h.found;
  least = λ id any above waits. elim (cases_Bool (list_any (same (Server id)) seen)) [
    | inl is ↦ h.least id is above waits
    | inr is ↦ let e : id ≡ k = number-of id k (any-last (same (Server id)) seen (Server k) any is) in absurd (true≢false (sym (at-number boxes after id k e above waits).1 ∙ w))
  ];
}

least-more : (boxes : List (Party × Fifo)) (after next : Option ℕ) (seen : List Party) (k : ℕ) → Least boxes after next seen → Least boxes after (nearer boxes after next k) (seen ++ Server k ∷ [])
least-more boxes after next seen k h = least-chosen boxes after next seen k (nat_lt 0 (length (messages_for boxes (Server k)))) (is_above after k) (is_below next k) refl refl refl h

pub least-party : (boxes : List (Party × Fifo)) (after next : Option ℕ) (seen : List Party) (party : Party) → Least boxes after next seen → Least boxes after (nearer_party boxes after next party) (seen ++ party ∷ [])
least-party boxes after next seen Master h = least-beside boxes after next seen Master (λ id. refl) h
least-party boxes after next seen Clients h = least-beside boxes after next seen Clients (λ id. refl) h
least-party boxes after next seen (Server k) h = least-more boxes after next seen k h

-- ---- of all parties

-- for a party that isn't there nothing waits
none-there : (boxes : List (Party × Fifo)) (to : Party) → list_any (same to) (keys_of boxes) ≡ false → messages_for boxes to ≡ []
none-there [] to h = refl
none-there (x ∷ xs) to h = elim (cases_Bool (same to x.0)) [
  | inl is ↦ absurd (true≢false (sym (ap (λ b. b || list_any (same to) (keys_of xs)) is) ∙ h))
  | inr is ↦ ap (λ b. messages_of (if b then Some x.1 else lookup (same to) xs)) is ∙ none-there xs to (sym (ap (λ b. b || list_any (same to) (keys_of xs)) is) ∙ h)
]

waits-none : (xs : List rust.Message) (ms : List Message) → nat_lt 0 (length xs) ≡ true → AllMean xs ms → ms ≡ [] → ⊥
waits-none [] ms h mean is = true≢false (sym h)
waits-none (x ∷ xs) [] h mean is = mean
waits-none (x ∷ xs) (m ∷ ms) h mean is = grind arith

some-waits : (x : rust.Message) (xs : List rust.Message) → nat_lt 0 (length (x ∷ xs)) ≡ true
some-waits x xs = grind arith

none-waits : (xs : List rust.Message) (ms : List Message) → (nat_lt 0 (length xs) ≡ true → ⊥) → AllMean xs ms → ms ≡ []
none-waits [] ms h mean = none-mean ms mean
none-waits (x ∷ xs) ms h mean = absurd (h (some-waits x xs))

-- what is not found isn't there
not-found : (boxes : List (Party × Fifo)) (outbox : Party → List Message) (id : ℕ) → Waits boxes outbox → (list_any (same (Server id)) (keys_of boxes) ≡ true → nat_lt 0 (length (messages_for boxes (Server id))) ≡ true → ⊥) → outbox (Server id) ≡ []
not-found boxes outbox id h none = elim (cases_Bool (list_any (same (Server id)) (keys_of boxes))) [
  | inl is ↦ none-waits (messages_for boxes (Server id)) (outbox (Server id)) (none is) (h (Server id))
  | inr is ↦ none-mean (outbox (Server id)) (subst (λ xs. AllMean xs (outbox (Server id))) (none-there boxes (Server id) is) (h (Server id)))
]

too-many : (n id : ℕ) → id < n → n ≤ id → ⊥
too-many n id h k = absurd (omega arith)

pub least-next : (boxes : List (Party × Fifo)) (after next : Option ℕ) (outbox : Party → List Message) → Least boxes after next (keys_of boxes) → Waits boxes outbox → IsNext after outbox next
least-next boxes after None outbox h waits = λ id above. not-found boxes outbox id waits (λ there some. h.least id there above some)
least-next boxes after (Some n) outbox h waits = (h.found.0, (waits-none (messages_for boxes (Server n)) (outbox (Server n)) h.found.1 (waits (Server n)), λ id above below. not-found boxes outbox id waits (λ there some. too-many n id below (h.least id there above some))))
