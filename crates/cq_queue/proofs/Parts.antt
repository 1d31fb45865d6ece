-- What is known of a queue's parts, and what may be put behind them.
use Rattle.std.proofs.Common.{◌≡◌, ℕ, ◌-◌, ◌<◌, ◌≤◌, ◌∙◌, ap, sym, subst, List, [], ◌∷◌, ◌++◌, length, get_or, Option, Some, None, Bool, true, false, cond, arith, refl, suc, inl, inr}
use Rattle.std.specs.Prelude.{nat_lt, IfSome}
use Rattle.std.proofs.Common.{Bor, true≢false}
use Rattle.std.specs.List.{All}
use Rattle.std.specs.Option.{option_map, is_some}
use Rattle.std.proofs.lemmas.Bool.Decides.{nat_tests}
use Rattle.std.proofs.lemmas.List.Elements.{All-head, All-tail, All-cons, All-nil, All-push, All-weaker}
use Rattle.std.proofs.lemmas.List.{length_push}
use Rattle.cq_base.specs.queue.Incarnations.{Accepted, Incarnation}
use Rattle.cq_base.specs.queue.Messages.{Message}
use Rattle.cq_base.specs.Relations.{Among}
use Rattle.cq_messages.specs.Ordered.{all_after}
use Rattle.cq_queue.specs.declared.accepted.Known.{Known}
use Rattle.cq_queue.specs.within.Sound.{IsHandedUpTo, IsNumberedUpTo, IsSound}
use Rattle.cq_queue.specs.within.Windows.{IsBy, IsRising, AreDistinct, known_of}
use Rattle.cq_queue.specs.Parts.{AreInOrder, IsNextMessage}

-- in order of moments, all are at least as late as the lower bound
rising_all : (b : ℕ) (xs : List Accepted) → IsRising b xs → All (λ x. b ≤ x.moment) xs
rising_all b [] h = All-nil (λ x. b ≤ x.moment)
rising_all b (x ∷ xs) h =
    let first = h.0 in
    All-cons (λ y. b ≤ y.moment) x xs h.0 (All-weaker (λ y. x.moment ≤ y.moment) (λ y. b ≤ y.moment) (λ y own. omega arith) xs (rising_all x.moment xs h.1))

pub in-order : (b : ℕ) (xs : List Accepted) → IsRising b xs → AreDistinct xs → AreInOrder xs
in-order b [] rising distinct = tt
in-order b (x ∷ xs) rising distinct = (rising_all x.moment xs rising.1, distinct.0, in-order x.moment xs rising.1 distinct.1)

-- none came after the last
pub rising-last : (b : ℕ) (xs : List Accepted) (d : Accepted) (moment : ℕ) → 0 < length xs → (get_or xs (length xs - 1) d).moment ≤ moment → IsRising b xs → All (IsBy moment) xs
rising-last b [] d moment some h rising = absurd (omega arith)
rising-last b (x ∷ []) d moment some h rising = All-cons (IsBy moment) x [] h (All-nil (IsBy moment))
rising-last b (x ∷ y ∷ ys) d moment some h rising =
    let same : length (x ∷ y ∷ ys) - 1 ≡ suc (length (y ∷ ys) - 1) = omega arith in
    let later : (get_or (y ∷ ys) (length (y ∷ ys) - 1) d).moment ≤ moment = subst (λ (k : ℕ). (get_or (x ∷ y ∷ ys) k d).moment ≤ moment) same h in
    let rest = rising-last x.moment (y ∷ ys) d moment (omega arith) later rising.1 in
    let next = All-head (IsBy moment) y ys rest in
    let order : x.moment ≤ y.moment = rising.1.0 in
    All-cons (IsBy moment) x (y ∷ ys) (omega arith) rest

-- nothing is known of what isn't found, and something of what is
pub unknown-none : (found : Option Accepted) → None ≡ option_map known_of found → found ≡ None
unknown-none None e = refl
unknown-none (Some a) e = absurd cc

pub known-some : (found : Option Accepted) (known : Known) → Some known ≡ option_map known_of found → found ≡ None → ⊥
known-some found known e none = let wrong : Some known ≡ None = e ∙ ap (option_map known_of) none in cc

-- where no message is behind the number before one, all are before it
pub all-before : (n : ℕ) (ms : List Message) → 0 < n → all_after (n - 1) ms ≡ [] → All (λ x. x.sequence < n) ms
all-before n [] some none = All-nil (λ x. x.sequence < n)
all-before n (m ∷ ms) some none = by (nat_lt (n - 1) m.sequence) refl (all-before n ms some) none
  where
    by : (c : Bool) → nat_lt (n - 1) m.sequence ≡ c → (all_after (n - 1) ms ≡ [] → All (λ x. x.sequence < n) ms) → cond c (m ∷ all_after (n - 1) ms) (all_after (n - 1) ms) ≡ [] → All (λ x. x.sequence < n) (m ∷ ms)
    by true t rest e = absurd cc
    by false t rest e = All-cons (λ x. x.sequence < n) m ms (let least : m.sequence ≤ n - 1 = grind (arith, nat_tests) in omega arith) (rest e)

-- where all are before a number, none is behind the one before it
pub none-before : (n : ℕ) (ms : List Message) (m : Message) (rest : List Message) → All (λ x. x.sequence < n) ms → all_after (n - 1) ms ≡ m ∷ rest → ⊥
none-before n [] m rest h e = cc
none-before n (x ∷ xs) m rest h e = by (nat_lt (n - 1) x.sequence) refl (none-before n xs m rest (All-tail (λ y. y.sequence < n) x xs h)) e
  where
    by : (c : Bool) → nat_lt (n - 1) x.sequence ≡ c → (all_after (n - 1) xs ≡ m ∷ rest → ⊥) → cond c (x ∷ all_after (n - 1) xs) (all_after (n - 1) xs) ≡ m ∷ rest → ⊥
    by true t later e' =
        let before = All-head (λ y. y.sequence < n) x xs h in
        let over : n - 1 < x.sequence = grind (arith, nat_tests) in
        omega arith
    by false t later e' = later e'

-- a list that is in order gives an order by membership
pub among-before : (n : ℕ) (ms : List Message) → All (λ x. x.sequence < n) ms → (m : Message) → Among m ms → m.sequence < n
among-before n [] h m a = absurd a
among-before n (x ∷ xs) h m (inl e) = subst (λ y. y.sequence < n) (sym e) (All-head (λ y. y.sequence < n) x xs h)
among-before n (x ∷ xs) h m (inr a) = among-before n xs (All-tail (λ y. y.sequence < n) x xs h) m a

-- what is known stays so with one more message
pub sound-message : (number sent used : ℕ) (messages : List Message) (m : Message) (last : ℕ) (accepted : List Accepted) → m.sequence ≤ sent → m.handings ≤ used → IsSound number sent used messages last accepted → IsSound number sent used (messages ++ m ∷ []) last accepted
sound-message number sent used messages m last accepted within few h = record {
  positive = h.positive;
  sends = h.sends;
  numbers = All-push (IsNumberedUpTo sent) messages m h.numbers within;
  handings = All-push (IsHandedUpTo used) messages m h.handings few;
  uses = h.uses;
  latest = h.latest;
  fewer = h.fewer;
}

-- and with one more accepted send
pub sound-kept : (number sent used : ℕ) (messages : List Message) (last : ℕ) (accepted : List Accepted) (a : Accepted) → a.moment ≤ last → length accepted < sent → IsSound number sent used messages last accepted → IsSound number sent used messages last (accepted ++ a ∷ [])
sound-kept number sent used messages last accepted a past fewer h = record {
  positive = h.positive;
  sends = h.sends;
  numbers = h.numbers;
  handings = h.handings;
  uses = h.uses;
  latest = All-push (IsBy last) accepted a h.latest past;
  fewer = omega (arith, length_push accepted a, fewer);
}

-- the first message behind the number before one isn't there where all are before that one
pub none-behind : (n : ℕ) (ms : List Message) (o : Option (Bor Message)) → true ≡ is_some o → IfSome o (λ m. all_after (n - 1) ms ≡ m.now ∷ all_after m.now.sequence ms) → All (λ x. x.sequence < n) ms → ⊥
none-behind n ms None e h all = true≢false e
none-behind n ms (Some m) e h all = none-before n ms m.now (all_after m.now.sequence ms) all h

-- a message that is behind all others and within what the queue has done may be the next one
pub next-message : (q kept : Incarnation) (m one : Message) → q ≡ kept → m ≡ one → All (λ x. x.sequence < m.sequence) q.messages → m.sequence ≤ q.sent → m.handings ≤ q.used → IsNextMessage kept one
next-message q kept m one is same later sent handed =
    let next : IsNextMessage q m = record { later = later; sent = sent; handed = handed } in
    subst (λ (r : Incarnation). IsNextMessage r one) is (subst (λ (y : Message). IsNextMessage q y) same next)
