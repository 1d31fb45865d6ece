-- The texts that are kept of a session.
use Rattle.std.specs.Prelude.{ℕ, ◌+◌, ◌-◌, Bool, List, [], ◌∷◌, ◌++◌, ◌==◌, ◌||◌, length, nat_le, slice_index_or, if◌then◌else◌}
use Rattle.std.specs.List.{list_any}
use Rattle.cq_records.specs.Frames.{joined}

-- What is kept in the place of a byte: 4 for 0 and 1, which no record can have, and for the marks.
abbrev pub kept_byte : ℕ → ℕ
kept_byte b = if nat_le b 3 then 4 else b

abbrev pub as_kept : List ℕ → List ℕ
as_kept [] = []
as_kept (b ∷ bytes) = kept_byte b ∷ as_kept bytes

-- a base begins with a byte of 2, and what says of how many servers a session is, with a byte of 3
abbrev pub is_mark : ℕ → Bool
is_mark b = b == 2 || b == 3

abbrev pub has_mark : List ℕ → Bool
has_mark bytes = list_any (λ b. is_mark b) bytes

-- the record with which the journal of a session on several servers begins
abbrev pub size_text : ℕ → List ℕ
size_text size = 3 ∷ (48 + size) ∷ 10 ∷ []

-- with what a journal begins that has nothing yet
abbrev pub size_records : ℕ → List (List ℕ)
size_records size = if size == 1 then [] else size_text size ∷ []

-- there is no byte, or the last one ends a line
abbrev pub is_ended : List ℕ → Bool
is_ended bytes = slice_index_or bytes (length bytes - 1) 10 == 10

-- records with the end of the last line, which may have been cut off
abbrev pub mended : List (List ℕ) → List (List ℕ)
mended rs = if is_ended (joined rs) then rs else rs ++ (10 ∷ []) ∷ []

-- records as they are behind an opening: without any byte they get what they begin with, and others the end of the last line
abbrev pub opened : ℕ → List (List ℕ) → List (List ℕ)
opened size rs = if length (joined rs) == 0 then rs ++ size_records size else mended rs
