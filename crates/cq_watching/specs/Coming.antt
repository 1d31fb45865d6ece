-- Bytes as they come: lines that have ended, and the line that has begun. A line that asks is a blank one to the session.
use Rattle.std.specs.Prelude.{ℕ, ◌==◌, List, [], ◌∷◌, ◌++◌, Bool, codes, if◌then◌else◌}
use Rattle.std.specs.Str.{bytes_eq}

-- whether a line asks what the world holds
abbrev pub asks : List ℕ → Bool
asks line = bytes_eq line (codes "{\"op\":\"show\"}")

-- a line as it is given to the session
abbrev pub plain : List ℕ → List ℕ
plain line = if asks line then [] else line

-- what has come: the lines that have ended, as they were given to the session, and the line that has begun
pub record Come : Type 0 where
  pub given : List ℕ
  pub line : List ℕ

-- before the first byte
abbrev pub nothing_yet : Come
nothing_yet = record { given = []; line = [] }

-- after the end of the line that has begun
abbrev pub after_end : Come → Come
after_end come = record { given = come.given ++ (plain come.line ++ 10 ∷ []); line = [] }

-- after a part of that line
abbrev pub after_part : Come → List ℕ → Come
after_part come part = record { given = come.given; line = come.line ++ part }

-- after one more byte
abbrev pub after_byte : Come → ℕ → Come
after_byte come b = if b == 10 then after_end come else after_part come (b ∷ [])

-- after more bytes
unfoldable pub after_bytes : Come → List ℕ → Come
after_bytes come [] = come
after_bytes come (b ∷ bs) = after_bytes (after_byte come b) bs

-- what is written at one more byte, where that is written at the end of each line
abbrev pub by_byte : (Come → List ℕ) → Come → ℕ → List ℕ
by_byte of_line come b = if b == 10 then of_line come else []

-- what is written of more bytes
unfoldable pub by_bytes : (Come → List ℕ) → Come → List ℕ → List ℕ
by_bytes of_line come [] = []
by_bytes of_line come (b ∷ bs) = by_byte of_line come b ++ by_bytes of_line (after_byte come b) bs
