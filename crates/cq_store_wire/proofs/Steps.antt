-- Chunks are read a part after another.
use Rattle.std.proofs.Common.{◌≡◌, ℕ, zero, suc, ◌+◌, ◌<◌, ◌≤◌, Bool, true, false, eqb, List, [], ◌∷◌, length, Result, Ok, Err, refl, sym, ap, ◌∙◌, arith}
use Rattle.std.proofs.lemmas.Bool.{eqb-true}
use Rattle.std.proofs.lemmas.List.{length-append}
use Rattle.cq_wire.specs.declared.fault.WireFault.{WireFault}
use Rattle.cq_wire.specs.declared.fault.ReadFault.{ReadFault}
use Rattle.cq_wire.specs.declared.fault.ReadFault.TheVariants as faults
use Rattle.cq_wire.specs.Reading.{◌>>=◌, Fails}
use Rattle.cq_wire.proofs.Fronts.{IsBytes}
use Rattle.cq_store_wire.specs.declared.part.Part.{Part}
use Rattle.cq_store_wire.specs.declared.part.Part.TheVariants as parts
use Rattle.cq_store_wire.specs.declared.build.State.{State}
use Rattle.cq_store_wire.specs.Building.{put, read_into}
use Rattle.cq_store_wire.specs.Layout.{part}
use Rattle.cq_store_wire.specs.Reading.{part_at}
use Rattle.cq_store_wire.proofs.PartLaws.{part_reads}

-- two steps behind one are the same where they are the same of what it gives
pub bind-same : {A B : Type 0} (r : Result A WireFault) (f g : A → Result B WireFault) → ((x : A) → r ≡ Ok x → f x ≡ g x) → (r >>= f) ≡ (r >>= g)
bind-same (Ok x) f g same = same x refl
bind-same (Err e) f g same = refl

-- each part has a byte
pub some-bytes : (p : Part) → 0 < length (part p)
unfolding part
some-bytes (parts.Start count last) = omega arith
some-bytes (parts.Client client number one) = omega arith
some-bytes (parts.Name n) = omega arith
some-bytes (parts.Message m) = omega arith
some-bytes (parts.Accepted a) = omega arith
some-bytes parts.End = omega arith

-- so what is behind a part is shorter
pub shorter : (bytes : List ℕ) (x : Part × List ℕ) → IsBytes bytes → part_at bytes ≡ Ok x → length x.1 < length bytes
shorter bytes x fits e =
    let t = (part_reads bytes x fits e).0 in
    let sum : length bytes ≡ length (part x.0) + length x.1 = ap length t.parts ∙ length-append (part x.0) x.1 in
    omega (arith, sum, some-bytes x.0)

abbrev step : ℕ → List ℕ → State → Result State WireFault
step fuel bytes state = part_at bytes >>= λ p. put p.0 state >>= λ next. read_into fuel p.1 next

pub one-step : (fuel : ℕ) (bytes : List ℕ) (state : State) → 0 < length bytes → read_into (suc fuel) bytes state ≡ step fuel bytes state
unfolding read_into
one-step fuel [] state some = absurd (omega (arith, some))
one-step fuel (b ∷ bytes) state some = refl

-- more fuel than bytes changes nothing
pub fuel-same : (n m : ℕ) (bytes : List ℕ) (state : State) → IsBytes bytes → length bytes ≤ n → length bytes ≤ m → read_into n bytes state ≡ read_into m bytes state
unfolding read_into
fuel-same n m [] state fits hn hm = refl
fuel-same zero m (b ∷ bytes) state fits hn hm = absurd (omega (arith, hn))
fuel-same (suc n) zero (b ∷ bytes) state fits hn hm = absurd (omega (arith, hm))
fuel-same (suc n) (suc m) (b ∷ bytes) state fits hn hm =
    bind-same (part_at (b ∷ bytes)) (λ p. put p.0 state >>= λ next. read_into n p.1 next) (λ p. put p.0 state >>= λ next. read_into m p.1 next)
    (λ p e. let less = shorter (b ∷ bytes) p fits e in let rest = (part_reads (b ∷ bytes) p fits e).0.rest_fits in
    bind-same (put p.0 state) (λ next. read_into n p.1 next) (λ next. read_into m p.1 next) (λ next f. fuel-same n m p.1 next rest (omega (arith, less, hn)) (omega (arith, less, hm))))

-- ---- one turn of the loop

abbrev all-of : List ℕ → State → Result State WireFault
all-of bytes state = read_into (length bytes) bytes state

turn : (bytes : List ℕ) (state : State) → IsBytes bytes → 0 < length bytes → all-of bytes state ≡ (part_at bytes >>= λ p. put p.0 state >>= λ next. all-of p.1 next)
turn [] state fits some = absurd (omega (arith, some))
turn (b ∷ bytes) state fits some =
    one-step (length bytes) (b ∷ bytes) state some
    ∙ bind-same (part_at (b ∷ bytes)) (λ p. put p.0 state >>= λ next. read_into (length bytes) p.1 next) (λ p. put p.0 state >>= λ next. all-of p.1 next)
    (λ p e. let less = shorter (b ∷ bytes) p fits e in let rest = (part_reads (b ∷ bytes) p fits e).0.rest_fits in
    bind-same (put p.0 state) (λ next. read_into (length bytes) p.1 next) (λ next. all-of p.1 next) (λ next f. fuel-same (length bytes) (length p.1) p.1 next rest (omega (arith, less)) (omega arith)))

pub turn-ok : (bytes rest : List ℕ) (state next : State) (p : Part) → IsBytes bytes → 0 < length bytes → part_at bytes ≡ Ok (p, rest) → put p state ≡ Ok next → all-of bytes state ≡ all-of rest next
turn-ok bytes rest state next p fits some e f =
    turn bytes state fits some ∙ ap (λ (r : Result (Part × List ℕ) WireFault). r >>= λ x. put x.0 state >>= λ n. all-of x.1 n) e ∙ ap (λ (r : Result State WireFault). r >>= λ n. all-of rest n) f

-- a part that isn't read fails it all
pub turn-unread : (bytes : List ℕ) (state : State) (fault : ReadFault) → IsBytes bytes → 0 < length bytes → Fails fault (part_at bytes) → Fails fault (all-of bytes state)
turn-unread bytes state faults.NoMemory fits some e = e
turn-unread bytes state (faults.Bad f) fits some e = turn bytes state fits some ∙ ap (λ (r : Result (Part × List ℕ) WireFault). r >>= λ x. put x.0 state >>= λ n. all-of x.1 n) e

-- and so does one that isn't put
pub turn-unput : (bytes rest : List ℕ) (state : State) (p : Part) (fault : ReadFault) → IsBytes bytes → 0 < length bytes → part_at bytes ≡ Ok (p, rest) → Fails fault (put p state) → Fails fault (all-of bytes state)
turn-unput bytes rest state p faults.NoMemory fits some e f = f
turn-unput bytes rest state p (faults.Bad d) fits some e f =
    turn bytes state fits some ∙ ap (λ (r : Result (Part × List ℕ) WireFault). r >>= λ x. put x.0 state >>= λ n. all-of x.1 n) e ∙ ap (λ (r : Result State WireFault). r >>= λ n. all-of rest n) f

pub turn-rest : (bytes : List ℕ) (x : Part × List ℕ) → IsBytes bytes → part_at bytes ≡ Ok x → IsBytes x.1
turn-rest bytes x fits e = (part_reads bytes x fits e).0.rest_fits

pub not-empty : (bytes : List ℕ) (is : Bool) → is ≡ eqb (length bytes) 0 → is ≡ false → 0 < length bytes
not-empty [] is e never = absurd cc
not-empty (b ∷ bytes) is e never = omega arith

pub of-nothing : (bytes : List ℕ) (state : State) (is : Bool) → is ≡ eqb (length bytes) 0 → is ≡ true → all-of bytes state ≡ Ok state
unfolding read_into
of-nothing [] state is e there = refl
of-nothing (b ∷ bytes) state is e there = let none = eqb-true (length (b ∷ bytes)) 0 (sym e ∙ there) in absurd (omega (arith, none))
