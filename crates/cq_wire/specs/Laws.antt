-- The statements of the laws.
use Rattle.std.specs.Prelude.{◌≡◌, ℕ, List, Ok}
use Rattle.cq_wire.specs.Layout.{whole}
use Rattle.cq_wire.specs.Reading.{Reader, whole_at}

-- what is written of a value is read as that value
abbrev pub AreReadBack : {A : Type 0} → (A → List ℕ) → Reader A → (A → Type 0) → Type 0
AreReadBack {A} layout read P = (x : A) → P x → whole_at read (whole layout x) ≡ Ok x

-- no two values have the same bytes
abbrev pub Differ : {A : Type 0} → (A → List ℕ) → (A → Type 0) → Type 0
Differ {A} layout P = (x y : A) → P x → P y → whole layout x ≡ whole layout y → x ≡ y
