-- What a reader takes from the front of bytes, and steps that don't fail.
use Rattle.std.proofs.Common.{◌≡◌, ℕ, suc, ◌+◌, ◌<◌, Bool, true, false, cond, List, [], ◌∷◌, ◌++◌, get_or, take, drop, Result, Ok, Err, refl, sym, ap, ◌∙◌, append_assoc, arith, inl, inr}
use Rattle.std.proofs.lemmas.Bool.{cases_lt}
use Rattle.std.proofs.lemmas.List.{get_or-drop, get_or-take, get_or_past, length-take}
use Rattle.cq_wire.specs.declared.fault.WireFault.{WireFault}
use Rattle.cq_wire.specs.Reading.{◌>>=◌, Reader, kept}

-- each is below 256
abbrev pub IsBytes : List ℕ → Type 0
IsBytes bytes = (i : ℕ) → get_or bytes i 0 < 256

pub IsBytes-drop : (n : ℕ) (bytes : List ℕ) → IsBytes bytes → IsBytes (drop n bytes)
IsBytes-drop n bytes h i = rw get_or-drop (h (n + i))

pub IsBytes-take : (n : ℕ) (bytes : List ℕ) → IsBytes bytes → IsBytes (take n bytes)
IsBytes-take n bytes h i =
    elim (cases_lt i n) [
      | inl lt ↦ rw (get_or-take n bytes i 0 lt) (h i)
      | inr le ↦ rw (get_or_past (take n bytes) i 0 (omega (arith, length-take n bytes))) (omega arith)
    ]

pub IsBytes-rest : (b : ℕ) (bytes : List ℕ) → IsBytes (b ∷ bytes) → IsBytes bytes
IsBytes-rest b bytes h i = h (suc i)

-- the bytes are these, and the rest, which are bytes, too
pub record Takes (bytes front rest : List ℕ) : Type 0 where
  pub parts : bytes ≡ front ++ rest
  pub rest_fits : IsBytes rest

pub Takes-nothing : (bytes : List ℕ) → IsBytes bytes → Takes bytes [] bytes
Takes-nothing bytes fits = record { parts = refl; rest_fits = fits }

pub Takes-then : (a x b y c : List ℕ) → Takes a x b → Takes b y c → Takes a (x ++ y) c
Takes-then a x b y c p q = record { parts = p.parts ∙ ap (λ (t : List ℕ). x ++ t) q.parts ∙ sym (append_assoc x y c); rest_fits = q.rest_fits }

-- a byte for the kind stands before it
pub Takes-tagged : (tag : ℕ) (bytes front rest : List ℕ) → Takes bytes front rest → Takes (tag ∷ bytes) (tag ∷ front) rest
Takes-tagged tag bytes front rest t = record { parts = ap (λ (w : List ℕ). tag ∷ w) t.parts; rest_fits = t.rest_fits }

-- What is read has that layout and passes that test.
abbrev pub Reads : {A : Type 0} → (A → List ℕ) → Reader A → (A → Type 0) → Type 0
Reads {A} layout read P = (bytes : List ℕ) (x : A × List ℕ) → IsBytes bytes → read bytes ≡ Ok x → Takes bytes (layout x.0) x.1 × P x.0

-- What has that layout is read, whatever follows it.
abbrev pub IsRead : {A : Type 0} → (A → List ℕ) → Reader A → (A → Type 0) → Type 0
IsRead {A} layout read P = (x : A) (rest : List ℕ) → P x → read (layout x ++ rest) ≡ Ok (x, rest)

-- ---- steps

-- the value of a step behind which all went well
pub bind_ok : {A B : Type 0} (r : Result A WireFault) (f : A → Result B WireFault) (y : B) → (r >>= f) ≡ Ok y → (x : A) × (r ≡ Ok x) × (f x ≡ Ok y)
bind_ok (Ok x) f y e = (x, refl, e)
bind_ok (Err d) f y e = absurd cc

abbrev done : {A : Type 0} → A → Result A WireFault
done x = Ok x

pub ok_is : {A : Type 0} (x y : A) → done x ≡ done y → x ≡ y
ok_is x y e = cc

-- a value that was kept
pub kept_ok : {A : Type 0} (b : Bool) (fault : WireFault) (x y : A × List ℕ) → kept b fault x ≡ Ok y → (b ≡ true) × (x ≡ y)
kept_ok true fault x y e = (refl, cc)
kept_ok false fault x y e = absurd cc

-- one of two steps
pub either : {A : Type 0} (b : Bool) (r s : Result A WireFault) (x : A) (G : Type 0) → cond b r s ≡ Ok x → (b ≡ true → r ≡ Ok x → G) → (s ≡ Ok x → G) → G
either true r s x G e f g = f refl e
either false r s x G e f g = g e

-- a value, and the bytes behind it
abbrev pub read_as : {A : Type 0} → A → List ℕ → Result (A × List ℕ) WireFault
read_as x rest = Ok (x, rest)
