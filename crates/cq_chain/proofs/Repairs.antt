-- What a new successor is sent.
use Rattle.std.proofs.Common.{◌≡◌, ℕ, ◌+◌, ◌-◌, ◌≤◌, ◌∙◌, ap, sym, subst, refl, List, [], ◌∷◌, ◌++◌, length, drop, nat_le, true, false, not, arith, take, get_or, ◌<◌, Result, Ok, Err, IfOk}
use Rattle.std.proofs.lemmas.List.{length-take-le, take_more, take_all, length-drop, get_or-drop}
use Rattle.cq_base.specs.declared.ask.Entry.{Entry}
use Rattle.cq_base.specs.declared.party.Party.{Party}
use Rattle.cq_base.specs.declared.party.Party.TheVariants as parties
use Rattle.cq_chain.specs.declared.message.Message as rust
use Rattle.cq_chain.specs.declared.message.Message.TheVariants as stored
use Rattle.cq_chain.specs.Fifos.{Fifo}
use Rattle.cq_chain.specs.Messages.{Message, Fwd, Snap}
use Rattle.cq_chain.specs.Servers.{Server, is_that}
use Rattle.cq_chain.specs.Stands.{Means}
use Rattle.cq_chain.specs.Steps.{forwards, repair, when}
use Rattle.cq_chain.specs.within.Waiting.{AllFor}

-- one more message
pub for-append : (to : Party) (ys : List rust.Message) (y : rust.Message) (xs : List (Party × Message)) (m : Message) → AllFor to ys xs → Means y m → AllFor to (ys ++ y ∷ []) (xs ++ (to, m) ∷ [])
for-append to [] y [] m h means = (refl, (means, tt))
for-append to [] y (x ∷ xs) m h means = absurd h
for-append to (z ∷ ys) y [] m h means = absurd h
for-append to (z ∷ ys) y (x ∷ xs) m h means = (h.0, (h.1.0, for-append to ys y xs m h.1.1 means))

-- one more entry
pub forwards-more : (to place : ℕ) (es : List Entry) (e : Entry) → forwards to place (es ++ e ∷ []) ≡ forwards to place es ++ (parties.Server to, Fwd (place + length es) e) ∷ []
unfolding forwards
forwards-more to place [] e = let i : place ≡ place + 0 = omega arith in ap (λ n. (parties.Server to, Fwd n e) ∷ []) i
forwards-more to place (x ∷ es) e = let i : place + 1 + length es ≡ place + length (x ∷ es) = omega arith in
    ap (λ xs. (parties.Server to, Fwd place x) ∷ xs) (forwards-more to (place + 1) es e ∙ ap (λ n. forwards to (place + 1) es ++ (parties.Server to, Fwd n e) ∷ []) i)

pub forwards-none : (to place : ℕ) → forwards to place [] ≡ []
unfolding forwards
forwards-none to place = refl

-- by entries, or whole
pub repair-by_entries : (to have : ℕ) (s : Server) → nat_le s.floor have ≡ true → repair to have s ≡ forwards to (have + 1) (drop have s.entries)
repair-by_entries to have s h = rw h

pub repair-whole : (to have : ℕ) (s : Server) → nat_le s.floor have ≡ false → repair to have s ≡ (parties.Server to, Snap s.entries) ∷ []
repair-whole to have s h = rw h

-- none to a successor that is fed already
pub handed-none : (to have : ℕ) (s : Server) (fifo : List rust.Message) → fifo ≡ [] → is_that s.succ to ≡ true → AllFor (parties.Server to) fifo (when (not (is_that s.succ to)) (repair to have s))
handed-none to have s fifo none h = rw (none, h) tt

pub handed-repair : (to have : ℕ) (s : Server) → is_that s.succ to ≡ false → repair to have s ≡ when (not (is_that s.succ to)) (repair to have s)
handed-repair to have s h = rw h

-- one more entry is sent
pub sent-more : (to have i place : ℕ) (es : List Entry) (e : Entry) (fifo new : List rust.Message) → i < length es → e ≡ get_or es i e → AllFor (parties.Server to) fifo (forwards to (have + 1) (take i es)) → place ≡ have + 1 + i
    → new ≡ fifo ++ stored.Fwd place e ∷ [] → AllFor (parties.Server to) new (forwards to (have + 1) (take (i + 1) es))
sent-more to have i place es e fifo new within is h at more =
    let n : have + 1 + length (take i es) ≡ place = ap (λ k. have + 1 + k) (length-take-le i es (omega arith)) ∙ sym at in
    let all : forwards to (have + 1) (take (i + 1) es) ≡ forwards to (have + 1) (take i es) ++ (parties.Server to, Fwd place e) ∷ [] =
    ap (λ xs. forwards to (have + 1) xs) (take_more es i e within) ∙ forwards-more to (have + 1) (take i es) (get_or es i e)
    ∙ ap (λ k. forwards to (have + 1) (take i es) ++ (parties.Server to, Fwd k (get_or es i e)) ∷ []) n
    ∙ ap (λ x. forwards to (have + 1) (take i es) ++ (parties.Server to, Fwd place x) ∷ []) (sym is) in
    subst (λ xs. AllFor (parties.Server to) new xs) (sym all) (subst (λ ys. AllFor (parties.Server to) ys (forwards to (have + 1) (take i es) ++ (parties.Server to, Fwd place e) ∷ [])) (sym more)
    (for-append (parties.Server to) fifo (stored.Fwd place e) (forwards to (have + 1) (take i es)) (Fwd place e) h refl))

-- nothing is sent
pub sent-none : (to place : ℕ) (es : List Entry) (fifo : List rust.Message) → fifo ≡ [] → es ≡ [] → AllFor (parties.Server to) fifo (forwards to place es)
sent-none to place es fifo empty none = subst (λ ys. AllFor (parties.Server to) ys (forwards to place es)) (sym empty) (subst (λ xs. AllFor (parties.Server to) [] (forwards to place xs)) (sym none)
    (subst (λ xs. AllFor (parties.Server to) [] xs) (sym (forwards-none to place)) tt))

-- the same by how many come before the next one

pub sent-start : (to have : ℕ) (history : List Entry) (fifo : List rust.Message) → fifo ≡ [] → AllFor (parties.Server to) fifo (forwards to (have + 1) (take (have - have) (drop have history)))
sent-start to have history fifo empty =
    let n : have - have ≡ 0 = omega arith in
    sent-none to (have + 1) (take (have - have) (drop have history)) fifo empty (ap (λ k. take k (drop have history)) n)

pub sent-next : (to have before place : ℕ) (history : List Entry) (e : Entry) (fifo new : List rust.Message) → have ≤ before → before < length history → e ≡ get_or history before e
    → AllFor (parties.Server to) fifo (forwards to (have + 1) (take (before - have) (drop have history))) → place ≡ before + 1 → new ≡ fifo ++ stored.Fwd place e ∷ []
    → AllFor (parties.Server to) new (forwards to (have + 1) (take (before + 1 - have) (drop have history)))
sent-next to have before place history e fifo new from within is h at more =
    let n : before - have + 1 ≡ before + 1 - have = omega (arith, from) in
    let i : have + (before - have) ≡ before = omega (arith, from) in
    let all = length-drop have history in
    subst (λ k. AllFor (parties.Server to) new (forwards to (have + 1) (take k (drop have history)))) n
    (sent-more to have (before - have) place (drop have history) e fifo new (omega (arith, all, from, within))
    (is ∙ ap (λ k. get_or history k e) (sym i) ∙ sym (get_or-drop have history (before - have) e)) h (at ∙ ap (λ k. k + 1) (sym i) ∙ omega arith) more)

pub sent-all : (to have before : ℕ) (history : List Entry) (fifo : List rust.Message) → length history ≤ before → AllFor (parties.Server to) fifo (forwards to (have + 1) (take (before - have) (drop have history)))
    → AllFor (parties.Server to) fifo (forwards to (have + 1) (drop have history))
sent-all to have before history fifo end h =
    let all = length-drop have history in
    subst (λ es. AllFor (parties.Server to) fifo (forwards to (have + 1) es)) (take_all (before - have) (drop have history) (omega (arith, all, end))) h

-- what is made is what is sent
pub made-by : {E : Type 0} (r : Result Fifo E) (all other : ℕ → List (Party × Message)) → ((to : ℕ) → all to ≡ other to) → IfOk r (λ fifo. (to : ℕ) → AllFor (parties.Server to) fifo.messages (all to)) → IfOk r (λ fifo. (to : ℕ) → AllFor (parties.Server to) fifo.messages (other to))
made-by (Ok fifo) all other same h = λ to. subst (λ xs. AllFor (parties.Server to) fifo.messages xs) (same to) (h to)
made-by (Err e) all other same h = tt

-- what is made for one is what is sent to it
pub handed-by : {E : Type 0} (r : Result Fifo E) (to : ℕ) (all : ℕ → List (Party × Message)) (other : List (Party × Message)) → all to ≡ other → IfOk r (λ fifo. (x : ℕ) → AllFor (parties.Server x) fifo.messages (all x))
    → IfOk r (λ fifo. AllFor (parties.Server to) fifo.messages other)
handed-by (Ok fifo) to all other same h = subst (λ xs. AllFor (parties.Server to) fifo.messages xs) same (h to)
handed-by (Err e) to all other same h = tt
