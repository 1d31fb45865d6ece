-- Messages that are kept, and the messages that they stand for.
use Rattle.std.proofs.Common.{◌≡◌, ap, refl, subst, List, [], ◌∷◌, ◌++◌, drop, length, Some, None, suc, arith, slice_get}
use Rattle.cq_chain.specs.declared.message.Message as rust
use Rattle.cq_chain.specs.Messages.{Message}
use Rattle.cq_chain.specs.Stands.{Means, AllMean, IsFirst}
use Rattle.cq_events.specs.Events.{first_of, refusal_of_put}
use Rattle.cq_world.specs.within.Kept.{IsFilled}

-- one list after the other
pub all-append : (xs ys : List rust.Message) (ms ns : List Message) → AllMean xs ms → AllMean ys ns → AllMean (xs ++ ys) (ms ++ ns)
all-append [] ys [] ns h k = k
all-append [] ys (m ∷ ms) ns h k = absurd h
all-append (x ∷ xs) ys [] ns h k = absurd h
all-append (x ∷ xs) ys (m ∷ ms) ns h k = (h.0, all-append xs ys ms ns h.1 k)

-- without the first of them
pub all-drop : (xs : List rust.Message) (ms : List Message) → AllMean xs ms → AllMean (drop 1 xs) (drop 1 ms)
all-drop [] [] h = tt
all-drop [] (m ∷ ms) h = absurd h
all-drop (x ∷ xs) [] h = absurd h
all-drop (x ∷ xs) (m ∷ ms) h = h.1

-- they are as many
pub all-length : (xs : List rust.Message) (ms : List Message) → AllMean xs ms → length xs ≡ length ms
all-length [] [] h = refl
all-length [] (m ∷ ms) h = absurd h
all-length (x ∷ xs) [] h = absurd h
all-length (x ∷ xs) (m ∷ ms) h = ap suc (all-length xs ms h.1)

-- no messages stand for none
pub none-mean : (ms : List Message) → AllMean [] ms → ms ≡ []
none-mean [] h = refl
none-mean (m ∷ ms) h = absurd h

none_some : {A : Type 0} {x : A} → None ≡ Some x → ⊥
none_some h = cc

some_none : {A : Type 0} {x : A} → Some x ≡ None → ⊥
some_none h = cc

some_same : {A : Type 0} {x y : A} → Some x ≡ Some y → x ≡ y
some_same h = cc

-- the first of them
pub first-mean : (x : rust.Message) (xs : List rust.Message) (ms : List Message) → AllMean xs ms → slice_get xs 0 ≡ Some x → IsFirst (Some x) ms
first-mean x [] ms h is = absurd (none_some is)
first-mean x (y ∷ ys) [] h is = absurd h
first-mean x (y ∷ ys) (m ∷ ms) h is = subst (λ z. Means z m) (some_same is) h.0

-- there is none
pub first-none : (xs : List rust.Message) (ms : List Message) → AllMean xs ms → slice_get xs 0 ≡ None → ms ≡ []
first-none [] ms h is = none-mean ms h
first-none (y ∷ ys) ms h is = absurd (some_none is)

-- the first of messages stands for the first alone
pub first-alone : (x : rust.Message) (ms : List Message) → IsFirst (Some x) ms → AllMean (x ∷ []) (first_of ms)
first-alone x [] h = absurd h
first-alone x (m ∷ ms) h = (h, tt)

-- by how many there are
pub none-of : (ms : List Message) → length ms ≡ 0 → ms ≡ []
none-of [] h = refl
none-of (m ∷ ms) h = absurd (omega (arith, h))

pub filled-of : (ms : List Message) → (length ms ≡ 0 → ⊥) → IsFilled ms
filled-of [] h = h refl
filled-of (m ∷ ms) h = tt

-- what isn't refused
pub put-filled : (ms : List Message) → (length ms ≡ 0 → ⊥) → refusal_of_put ms ≡ None
put-filled [] h = absurd (h refl)
put-filled (m ∷ ms) h = refl

pub put-first : (x : rust.Message) (ms : List Message) → IsFirst (Some x) ms → refusal_of_put ms ≡ None
put-first x [] h = absurd h
put-first x (m ∷ ms) h = refl
