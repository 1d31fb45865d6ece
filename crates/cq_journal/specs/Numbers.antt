-- Numbers as bytes: five digits in base 254, the lowest first, each two above its value.
use Rattle.std.specs.Prelude.{ℕ, ◌+◌, ◌-◌, ◌*◌, ◌/◌, ◌%◌, List, [], ◌∷◌, slice_index}

abbrev pub digits : ℕ → List ℕ
digits n = (n % 254 + 2) ∷ (n / 254 % 254 + 2) ∷ (n / 64516 % 254 + 2) ∷ (n / 16387064 % 254 + 2) ∷ (n / 4162314256 + 2) ∷ []

-- the number that bytes begin with
abbrev pub number_of : List ℕ → ℕ
number_of bytes =
    (slice_index bytes 0 - 2) + (254 * (slice_index bytes 1 - 2) + (64516 * (slice_index bytes 2 - 2)
    + (16387064 * (slice_index bytes 3 - 2) + 4162314256 * (slice_index bytes 4 - 2))))
