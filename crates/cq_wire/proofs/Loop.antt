-- Reading values one after the other, as a loop does.
use Rattle.std.proofs.Common.{◌≡◌, ℕ, suc, ◌-◌, ◌+◌, ◌≤◌, ◌<◌, List, [], ◌∷◌, ◌++◌, Result, Ok, Err, refl, sym, ap, ◌∙◌, append_assoc, arith}
use Rattle.std.proofs.lemmas.List.{append-nil}
use Rattle.cq_wire.specs.declared.fault.WireFault.{WireFault}
use Rattle.cq_wire.specs.declared.fault.ReadFault.{ReadFault}
use Rattle.cq_wire.specs.declared.fault.ReadFault.TheVariants as faults
use Rattle.cq_wire.specs.Reading.{◌>>=◌, Reader, Fails, several_at}

-- what was read before, and what is still to be read
abbrev pub behind : {A : Type 0} → List A → Result (List A × List ℕ) WireFault → Result (List A × List ℕ) WireFault
behind before read = read >>= λ x. Ok (before ++ x.0, x.1)

grouped : {A : Type 0} (before : List A) (x : A) (read : Result (List A × List ℕ) WireFault) → behind before (read >>= λ y. Ok (x ∷ y.0, y.1)) ≡ behind (before ++ x ∷ []) read
grouped {A} before x (Ok y) = ap (λ (xs : List A). Ok (xs, y.1)) (simp append_assoc)
grouped before x (Err f) = refl

pub goes_on : {A : Type 0} (one : Reader A) (before : List A) (count i : ℕ) (bytes : List ℕ) (x : A) (after : List ℕ) (total : Result (List A × List ℕ) WireFault) → i < count → one bytes ≡ Ok (x, after)
    → behind before (several_at one (count - i) bytes) ≡ total → behind (before ++ x ∷ []) (several_at one (count - (i + 1)) after) ≡ total
unfolding several_at
goes_on one before count i bytes x after total lt h so_far =
    let k : count - i ≡ suc (count - (i + 1)) = omega arith in
    let e : behind before (several_at one (count - i) bytes) ≡ behind (before ++ x ∷ []) (several_at one (count - (i + 1)) after) = rw (k, h) (grouped before x (several_at one (count - (i + 1)) after)) in
    sym e ∙ so_far

pub fails : {A : Type 0} (one : Reader A) (fault : ReadFault) (before : List A) (count i : ℕ) (bytes : List ℕ) (total : Result (List A × List ℕ) WireFault) → i < count → Fails fault (one bytes)
    → behind before (several_at one (count - i) bytes) ≡ total → Fails fault total
unfolding several_at
fails one faults.NoMemory before count i bytes total lt h so_far = tt
fails one (faults.Bad f) before count i bytes total lt h so_far =
    let k : count - i ≡ suc (count - (i + 1)) = omega arith in
    let e : behind before (several_at one (count - i) bytes) ≡ Err f = rw (k, h) refl in
    sym so_far ∙ e

pub ends : {A : Type 0} (one : Reader A) (before : List A) (count i : ℕ) (bytes : List ℕ) (total : Result (List A × List ℕ) WireFault) → count ≤ i
    → behind before (several_at one (count - i) bytes) ≡ total → total ≡ Ok (before, bytes)
unfolding several_at
ends {A} one before count i bytes total le so_far =
    let k : count - i ≡ 0 = omega arith in
    let e : behind before (several_at one (count - i) bytes) ≡ Ok (before, bytes) = rw k (ap (λ (xs : List A). Ok (xs, bytes)) (append-nil before)) in
    sym so_far ∙ e
