-- What waits in outboxes after a message is put into one of them, or taken out.
use Rattle.std.proofs.Common.{◌≡◌, ℕ, ◌+◌, ◌≤◌, ◌∙◌, ap, sym, List, [], ◌∷◌, ◌++◌, length, drop, Option, Some, None, Bool, true, false, cond, eqb, suc, append-nil, append_assoc, arith, inl, inr, subst, refl, if◌then◌else◌}
use Rattle.std.specs.Prelude.{IfSome, IfNone, slice_get}
use Rattle.std.proofs.lemmas.Bool.{cases_Bool, true≢false, eqb-true, eqb-false, eq-eqb, ne_eqb}
use Rattle.std.specs.Map.{lookup}
use Rattle.cq_base.specs.contracts.party.PartyPartialEq.TheImpl.{eq-value as derived}
use Rattle.cq_base.specs.declared.party.Party.{Party}
use Rattle.cq_base.specs.declared.party.Party.TheVariants.{Master, Clients, Server}
use Rattle.cq_chain.specs.declared.message.Message as rust
use Rattle.cq_chain.specs.Fifos.{Fifo, messages_of, room_of}
use Rattle.cq_chain.specs.within.Boxes.{fifo_for, messages_for}
use Rattle.cq_chain.specs.Messages.{Message}
use Rattle.cq_chain.specs.Parties.{same, addressed}
use Rattle.cq_chain.specs.Stands.{Means, AllMean, IsFirst, posted, drained}
use Rattle.cq_chain.specs.within.Waiting.{Waits, Posts, AllFor, KeepsAll, TakesOne}

-- messages that stand for messages, one after the other
pub means-append : (xs ys : List rust.Message) (ms ns : List Message) → AllMean xs ms → AllMean ys ns → AllMean (xs ++ ys) (ms ++ ns)
means-append [] ys [] ns h k = k
means-append [] ys (m ∷ ms) ns h k = absurd h
means-append (x ∷ xs) ys [] ns h k = absurd h
means-append (x ∷ xs) ys (m ∷ ms) ns h k = (h.0, means-append xs ys ms ns h.1 k)

-- they are as many
pub means-length : (xs : List rust.Message) (ms : List Message) → AllMean xs ms → length xs ≡ length ms
means-length [] [] h = refl
means-length [] (m ∷ ms) h = absurd h
means-length (x ∷ xs) [] h = absurd h
means-length (x ∷ xs) (m ∷ ms) h = ap suc (means-length xs ms h.1)

-- no messages stand for none
pub none-mean : (ms : List Message) → AllMean [] ms → ms ≡ []
none-mean [] h = refl
none-mean (m ∷ ms) h = absurd h

-- the first of them
first-mean : (x : rust.Message) (xs : List rust.Message) (ms : List Message) → AllMean (x ∷ xs) ms → IsFirst (Some x) ms
first-mean x xs [] h = absurd h
first-mean x xs (m ∷ ms) h = h.0

-- the one that a look shows
pub looked-first : (seen : Option rust.Message) (xs : List rust.Message) (ms : List Message) → seen ≡ slice_get xs 0 → AllMean xs ms → IsFirst seen ms
looked-first seen [] ms is h = subst (λ o. IsFirst o ms) (sym is) (none-mean ms h)
looked-first seen (x ∷ xs) ms is h = subst (λ o. IsFirst o ms) (sym is) (first-mean x xs ms h)

-- and the others
rest-mean : (x : rust.Message) (xs : List rust.Message) (ms : List Message) → AllMean (x ∷ xs) ms → AllMean xs (drop 1 ms)
rest-mean x xs [] h = absurd h
rest-mean x xs (m ∷ ms) h = h.1

-- ---- parties

-- parties that are the same are equal
pub same-equal : (a b : Party) → same a b ≡ true → a ≡ b
same-equal Master Master h = refl
same-equal Master Clients h = absurd (true≢false (sym h))
same-equal Master (Server b) h = absurd (true≢false (sym h))
same-equal Clients Master h = absurd (true≢false (sym h))
same-equal Clients Clients h = refl
same-equal Clients (Server b) h = absurd (true≢false (sym h))
same-equal (Server a) Master h = absurd (true≢false (sym h))
same-equal (Server a) Clients h = absurd (true≢false (sym h))
same-equal (Server a) (Server b) h = ap Server (eqb-true a b h)

pub eqb-turned : (a b : ℕ) → eqb a b ≡ eqb b a
eqb-turned a b = elim (cases_Bool (eqb a b)) [
  | inl e ↦ e ∙ sym (eq-eqb b a (sym (eqb-true a b e)))
  | inr e ↦ e ∙ sym (ne_eqb b a (λ k. eqb-false a b e (sym k)))
]

same-turned : (a b : Party) → same a b ≡ same b a
same-turned Master Master = refl
same-turned Master Clients = refl
same-turned Master (Server b) = refl
same-turned Clients Master = refl
same-turned Clients Clients = refl
same-turned Clients (Server b) = refl
same-turned (Server a) Master = refl
same-turned (Server a) Clients = refl
same-turned (Server a) (Server b) = eqb-turned a b

-- the equality that is derived for parties is that one
party-eq : (a b : Party) → derived.it a b ≡ same a b
party-eq Master Master = refl
party-eq Master Clients = refl
party-eq Master (Server b) = refl
party-eq Clients Master = refl
party-eq Clients Clients = refl
party-eq Clients (Server b) = refl
party-eq (Server a) Master = refl
party-eq (Server a) Clients = refl
party-eq (Server a) (Server b) = refl

lookup-agrees : {K X : Type 0} (f g : K → Bool) → ((k : K) → f k ≡ g k) → (es : List (K × X)) → lookup f es ≡ lookup g es
lookup-agrees f g h [] = refl
lookup-agrees f g h (e ∷ es) = ap (λ b. cond b (Some e.1) (lookup f es)) (h e.0) ∙ ap (λ o. cond (g e.0) (Some e.1) o) (lookup-agrees f g h es)

-- ---- fifos

-- The fifo for a party is that one now, and the others stay.
abbrev pub Rewrites : List (Party × Fifo) → List (Party × Fifo) → Party → Option Fifo → Type 0
Rewrites old new to fifo = (p : Party) → fifo_for new p ≡ cond (same to p) fifo (fifo_for old p)

-- what a map finds by the derived equality is the fifo for the party
pub found : (inside now : List (Party × Fifo)) (to : Party) (fifo : Option Fifo) → inside ≡ now → fifo ≡ lookup (derived.it to) inside → fifo_for now to ≡ fifo
found inside now to fifo view is = ap (λ es. fifo_for es to) (sym view) ∙ sym (lookup-agrees (derived.it to) (same to) (party-eq to) inside) ∙ sym is

-- and what it writes
pub written : (inside now new : List (Party × Fifo)) (to : Party) (fifo : Option Fifo) → inside ≡ now → ((p : Party) → lookup (derived.it p) new ≡ cond (derived.it to p) fifo (lookup (derived.it p) inside)) → Rewrites now new to fifo
written inside now new to fifo view writes p = sym (lookup-agrees (derived.it p) (same p) (party-eq p) new) ∙ writes p
    ∙ ap (λ b. cond b fifo (lookup (derived.it p) inside)) (party-eq to p) ∙ ap (λ o. cond (same to p) fifo o) (lookup-agrees (derived.it p) (same p) (party-eq p) inside ∙ ap (λ es. fifo_for es p) view)

replaced : (P : Bool → Option Fifo → Option Fifo → Type 0) (a b : Bool) (o p n m : Option Fifo) → a ≡ b → o ≡ p → n ≡ m → P b p m → P a o n
replaced P a b o p n m e f g h = subst (λ x. P x o n) (sym e) (subst (λ x. P b x n) (sym f) (subst (λ x. P b p x) (sym g) h))

-- what holds of the fifo that is written, and of each that stays, holds of all
by_fifo : (old new : List (Party × Fifo)) (to : Party) (before after : Option Fifo) (P : Bool → Option Fifo → Option Fifo → Type 0) → fifo_for old to ≡ before → Rewrites old new to after
    → P true before after → ((o : Option Fifo) → P false o o) → (p : Party) → P (same to p) (fifo_for old p) (fifo_for new p)
by_fifo old new to before after P was writes here there p = elim (cases_Bool (same to p)) [
  | inl e ↦ replaced P (same to p) true (fifo_for old p) before (fifo_for new p) after e (ap (λ q. fifo_for old q) (sym (same-equal to p e)) ∙ was) (writes p ∙ ap (λ b. cond b after (fifo_for old p)) e) here
  | inr e ↦ replaced P (same to p) false (fifo_for old p) (fifo_for old p) (fifo_for new p) (fifo_for old p) e refl (writes p ∙ ap (λ b. cond b after (fifo_for old p)) e) (there (fifo_for old p))
]

-- nothing is written
pub unwritten : (old : List (Party × Fifo)) (to : Party) (before : Option Fifo) → fifo_for old to ≡ before → Rewrites old old to before
unwritten old to before was p = elim (cases_Bool (same to p)) [
  | inl e ↦ ap (λ q. fifo_for old q) (sym (same-equal to p e)) ∙ was ∙ sym (ap (λ b. cond b before (fifo_for old p)) e)
  | inr e ↦ sym (ap (λ b. cond b before (fifo_for old p)) e)
]

-- a fifo with the same messages and no less room
pub fifo-kept : (old new : List (Party × Fifo)) (to : Party) (before : Option Fifo) (fifo : Fifo) → fifo_for old to ≡ before → Rewrites old new to (Some fifo) → fifo.messages ≡ messages_of before → room_of before ≤ fifo.room → KeepsAll old new
fifo-kept old new to before fifo was writes messages room = (by_fifo old new to before (Some fifo) (λ b o n. messages_of n ≡ messages_of o) was writes messages (λ o. refl), by_fifo old new to before (Some fifo) (λ b o n. room_of o ≤ room_of n) was writes room (λ o. omega arith))

-- a fifo with one more message
pub fifo-posts : (old new : List (Party × Fifo)) (to : Party) (before : Option Fifo) (fifo : Fifo) (message : rust.Message) → fifo_for old to ≡ before → Rewrites old new to (Some fifo) → fifo.messages ≡ messages_of before ++ message ∷ []
    → (m : Message) → Means message m → Posts old new ((to, m) ∷ [])
fifo-posts old new to before fifo message was writes messages m means outbox h p = subst (λ b. AllMean (messages_for new p) (outbox p ++ (if b then m ∷ [] else []))) (same-turned to p)
    (by_fifo old new to before (Some fifo) (λ b o n. AllMean (messages_of o) (outbox p) → AllMean (messages_of n) (outbox p ++ (if b then m ∷ [] else []))) was writes
    (λ k. subst (λ xs. AllMean xs (outbox p ++ m ∷ [])) (sym messages) (means-append (messages_of before) (message ∷ []) (outbox p) (m ∷ []) k (means, tt)))
    (λ o k. subst (λ ms. AllMean (messages_of o) ms) (sym (append-nil (outbox p))) k) p (h p))

-- what is sent to one party is addressed to that one
for-yes : (to p : Party) (ys : List rust.Message) (all : List (Party × Message)) → AllFor to ys all → same p to ≡ true → AllMean ys (addressed p all)
for-yes to p [] [] h e = tt
for-yes to p [] (x ∷ xs) h e = absurd h
for-yes to p (y ∷ ys) [] h e = absurd h
for-yes to p (y ∷ ys) (x ∷ xs) h e = subst (λ b. AllMean (y ∷ ys) (if b then x.1 ∷ addressed p xs else addressed p xs)) (sym (ap (λ q. same p q) h.0 ∙ e)) (h.1.0, for-yes to p ys xs h.1.1 e)

for-no : (to p : Party) (ys : List rust.Message) (all : List (Party × Message)) → AllFor to ys all → same p to ≡ false → addressed p all ≡ []
for-no to p [] [] h e = refl
for-no to p [] (x ∷ xs) h e = absurd h
for-no to p (y ∷ ys) [] h e = absurd h
for-no to p (y ∷ ys) (x ∷ xs) h e = ap (λ b. if b then x.1 ∷ addressed p xs else addressed p xs) (ap (λ q. same p q) h.0 ∙ e) ∙ for-no to p ys xs h.1.1 e

-- a fifo with these messages more
pub fifos-post : (old new : List (Party × Fifo)) (to : Party) (before : Option Fifo) (fifo : Fifo) (ys : List rust.Message) → fifo_for old to ≡ before → Rewrites old new to (Some fifo) → fifo.messages ≡ messages_of before ++ ys
    → (all : List (Party × Message)) → AllFor to ys all → Posts old new all
fifos-post old new to before fifo ys was writes messages all for outbox h p =
    by_fifo old new to before (Some fifo) (λ b o n. b ≡ same to p → AllMean (messages_of o) (outbox p) → AllMean (messages_of n) (outbox p ++ addressed p all)) was writes
    (λ e k. subst (λ xs. AllMean xs (outbox p ++ addressed p all)) (sym messages) (means-append (messages_of before) ys (outbox p) (addressed p all) k (for-yes to p ys all for (same-turned p to ∙ sym e))))
    (λ o e k. subst (λ ms. AllMean (messages_of o) (outbox p ++ ms)) (sym (for-no to p ys all for (same-turned p to ∙ sym e))) (subst (λ ms. AllMean (messages_of o) ms) (sym (append-nil (outbox p))) k))
    p refl (h p)

-- none is sent, where there is no room
pub none-post : (boxes : List (Party × Fifo)) (to : Party) (ys : List rust.Message) → fifo_for boxes to ≡ None → length ys ≤ room_of (fifo_for boxes to) → (all : List (Party × Message)) → AllFor to ys all → (outbox : Party → List Message) → Waits boxes outbox
    → Waits boxes (posted outbox all)
none-post boxes to [] was fits [] for outbox h = λ p. subst (λ ms. AllMean (messages_for boxes p) ms) (sym (append-nil (outbox p))) (h p)
none-post boxes to [] was fits (x ∷ xs) for outbox h = absurd for
none-post boxes to (y ∷ ys) was fits all for outbox h = let k : length (y ∷ ys) ≤ 0 = subst (λ o. length (y ∷ ys) ≤ room_of o) was fits in absurd (omega arith)

-- the fifos of others have as much room
pub fifos-others : (old new : List (Party × Fifo)) (to : Party) (before : Option Fifo) (fifo : Fifo) → fifo_for old to ≡ before → Rewrites old new to (Some fifo) → (p : Party) → same to p ≡ false → room_of (fifo_for old p) ≤ room_of (fifo_for new p)
fifos-others old new to before fifo was writes p other =
    by_fifo old new to before (Some fifo) (λ b o n. b ≡ false → room_of o ≤ room_of n) was writes (λ e. absurd (true≢false e)) (λ o e. omega arith) p other

pub fifo-takes_one : (old new : List (Party × Fifo)) (to : Party) (before : Option Fifo) (fifo : Fifo) → fifo_for old to ≡ before → Rewrites old new to (Some fifo) → room_of before ≤ fifo.room + 1 → TakesOne old new
fifo-takes_one old new to before fifo was writes room = by_fifo old new to before (Some fifo) (λ b o n. room_of o ≤ room_of n + 1) was writes room (λ o. omega arith)

-- the message that leaves a fifo is the first that waits
pub popped-first : (result : Option rust.Message) (old new : List rust.Message) (ms : List Message) → IfSome result (λ x. old ≡ x ∷ new) → IfNone result (old ≡ []) → AllMean old ms → IsFirst result ms
popped-first None old new ms some none h = none-mean ms (subst (λ xs. AllMean xs ms) none h)
popped-first (Some x) old new ms some none h = first-mean x new ms (subst (λ xs. AllMean xs ms) some h)

rest-means : (xs : List rust.Message) (ms : List Message) → AllMean xs ms → AllMean (drop 1 xs) (drop 1 ms)
rest-means [] [] h = tt
rest-means [] (m ∷ ms) h = absurd h
rest-means (x ∷ xs) ms h = rest-mean x xs ms h

-- and the others wait on
pub fifo-drained : (old new : List (Party × Fifo)) (to : Party) (before after : Option Fifo) → fifo_for old to ≡ before → Rewrites old new to after
    → messages_of after ≡ drop 1 (messages_of before) → (outbox : Party → List Message) → Waits old outbox → Waits new (drained outbox to)
fifo-drained old new to before after was writes rest outbox h p =
    by_fifo old new to before after (λ b o n. AllMean (messages_of o) (outbox p) → AllMean (messages_of n) (if b then drop 1 (outbox p) else outbox p)) was writes
    (λ k. subst (λ xs. AllMean xs (drop 1 (outbox p))) (sym rest) (rest-means (messages_of before) (outbox p) k)) (λ o k. k) p (h p)

-- ---- one after the other

chosen-append : (b : Bool) (m : Message) (all prefix back : List Message) → all ≡ prefix ++ back → (if b then m ∷ all else all) ≡ (if b then m ∷ prefix else prefix) ++ back
chosen-append true m all prefix back h = ap (λ ms. m ∷ ms) h
chosen-append false m all prefix back h = h

-- what is addressed to a party
addressed-append : (p : Party) (xs ys : List (Party × Message)) → addressed p (xs ++ ys) ≡ addressed p xs ++ addressed p ys
addressed-append p [] ys = refl
addressed-append p (x ∷ xs) ys = chosen-append (same p x.0) x.1 (addressed p (xs ++ ys)) (addressed p xs) (addressed p ys) (addressed-append p xs ys)

-- what is sent after something else
pub posted-append : (outbox : Party → List Message) (xs ys : List (Party × Message)) (p : Party) → posted (posted outbox xs) ys p ≡ posted outbox (xs ++ ys) p
posted-append outbox xs ys p = append_assoc (outbox p) (addressed p xs) (addressed p ys) ∙ ap (λ ms. outbox p ++ ms) (sym (addressed-append p xs ys))

-- nothing is sent
pub posts-none : (boxes : List (Party × Fifo)) → Posts boxes boxes []
posts-none boxes outbox h p = subst (λ ms. AllMean (messages_for boxes p) ms) (sym (append-nil (outbox p))) (h p)

-- one after the other
pub posts-then : (a b c : List (Party × Fifo)) (xs ys : List (Party × Message)) → Posts a b xs → Posts b c ys → Posts a c (xs ++ ys)
posts-then a b c xs ys h k outbox waits p = subst (λ ms. AllMean (messages_for c p) ms) (posted-append outbox xs ys p) (k (posted outbox xs) (h outbox waits) p)

-- the same messages wait
pub waits-kept : (old new : List (Party × Fifo)) → KeepsAll old new → (outbox : Party → List Message) → Waits old outbox → Waits new outbox
waits-kept old new keeps outbox h p = subst (λ xs. AllMean xs (outbox p)) (sym (keeps.0 p)) (h p)

pub posts-after : (a b c : List (Party × Fifo)) (xs : List (Party × Message)) → KeepsAll a b → Posts b c xs → Posts a c xs
posts-after a b c xs keeps posts outbox h = posts outbox (waits-kept a b keeps outbox h)
