-- Bytes among which no 0, no 1 and no line feed is, and which stand for any bytes.
use Rattle.std.specs.Prelude.{ℕ, ◌-◌, ◌==◌, Bool, true, false, List, [], ◌∷◌, ◌++◌, Result, Ok, Err, replicate, if◌then◌else◌}
use Rattle.cq_wire.specs.declared.fault.WireFault.{WireFault}
use Rattle.cq_wire.specs.declared.fault.WireFault.TheVariants.{Truncated}
use Rattle.cq_wire.specs.Reading.{◌>>=◌}

-- What a byte stands for behind a 3: 3 for itself, 2 for a line feed, 4 for a 1, and each other one for so many zeros, of which it is 10 more.
abbrev pub escaped : ℕ → List ℕ
escaped b = if b == 3 then 3 ∷ [] else (if b == 2 then 10 ∷ [] else (if b == 4 then 1 ∷ [] else replicate (b - 10) 0))

abbrev pub put_before : List ℕ → Result (List ℕ) WireFault → Result (List ℕ) WireFault
put_before front read = read >>= λ more. Ok (front ++ more)

-- The bytes for which they stand. Behind a 3 a byte is escaped, and any other one stands for itself.
abbrev pub unstuffed : Bool → List ℕ → Result (List ℕ) WireFault
unstuffed false [] = Ok []
unstuffed true [] = Err Truncated
unstuffed false (b ∷ bytes) = if b == 3 then unstuffed true bytes else put_before (b ∷ []) (unstuffed false bytes)
unstuffed true (b ∷ bytes) = put_before (escaped b) (unstuffed false bytes)
