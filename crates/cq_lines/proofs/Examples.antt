-- Worked texts, each computed by the definitions to what the rules give. The results were worked out by hand.
use Rattle.std.proofs.Common.{◌≡◌, ℕ, List, [], ◌∷◌, ◌++◌, length, map, Option, None, Some, true, cond, nat_eq, slice_index, codes, refl}
use Rattle.std.specs.List.{list_all}
use Rattle.cq_lines.specs.Faults.{code_of, name_of}
use Rattle.cq_lines.specs.Lines.{lines_of, ended_part, is_blank_byte}
use Rattle.cq_lines.specs.Grammars.{Grammar, Parsed, parse_text, parse_from, values_from}
use Rattle.cq_lines.specs.Progress.{Progress, parse_after, partial_of}
use Rattle.cq_lines.specs.declared.fault.ScriptFault.{ScriptFault}
use Rattle.cq_lines.specs.declared.fault.ScriptFault.TheVariants.{BadLine, LineTooLong, TooManyLines, ReadFailed, WriteFailed, NoMemory}
use Rattle.cq_lines.specs.declared.limits.Limits.{Limits}

-- ---- lines

cut_lines : map lines_of ([] ∷ codes "a" ∷ (97 ∷ 10 ∷ []) ∷ (97 ∷ 10 ∷ 10 ∷ 98 ∷ 99 ∷ []) ∷ []) ≡ [] ∷ (codes "a" ∷ []) ∷ (codes "a" ∷ []) ∷ (codes "a" ∷ [] ∷ codes "bc" ∷ []) ∷ []
unfolding lines_of
cut_lines = refl

ended_parts : map ended_part ([] ∷ codes "ab" ∷ (97 ∷ 10 ∷ 98 ∷ []) ∷ (97 ∷ 10 ∷ 98 ∷ 10 ∷ []) ∷ []) ≡ [] ∷ [] ∷ (97 ∷ 10 ∷ []) ∷ (97 ∷ 10 ∷ 98 ∷ 10 ∷ []) ∷ []
unfolding ended_part
ended_parts = refl

-- ---- texts

-- the value of a line is how many bytes it has; one that begins with an x is bad
abbrev size_of : List ℕ → Option (Option ℕ)
size_of bytes = cond (nat_eq (slice_index bytes 0) 120) None (cond (list_all is_blank_byte bytes) (Some None) (Some (Some (length bytes))))

abbrev strict : Grammar ℕ
strict = record { line_value = λ n bytes. size_of bytes; overlong_value = λ n. None }

-- the same, but that an overlong line has its number as its value
abbrev lenient : Grammar ℕ
lenient = record { line_value = λ n bytes. size_of bytes; overlong_value = λ n. Some (Some n) }

-- at most three lines, of at most four bytes
abbrev limits : Limits
limits = record { line_len = 4; line_count = 3 }

-- lines with a line feed behind each
abbrev ended : List ℕ → List ℕ
ended line = line ++ (10 ∷ [])

abbrev sizes : List ℕ → Option ScriptFault → Parsed ℕ
sizes values fault = record { values = values; fault = fault }

empty_text : parse_text strict limits [] ≡ sizes [] None
unfolding parse_text parse_from lines_of
empty_text = refl

-- the last line may lack its line feed
last_lines : map (parse_text strict limits) ((ended (codes "ab") ++ codes "c") ∷ (ended (codes "ab") ++ ended (codes "c")) ∷ []) ≡ sizes (2 ∷ 1 ∷ []) None ∷ sizes (2 ∷ 1 ∷ []) None ∷ []
unfolding parse_text parse_from lines_of
last_lines = refl

-- a blank line has no value, and counts
blank_lines : parse_text strict limits (ended [] ++ (ended (32 ∷ 9 ∷ 13 ∷ []) ++ codes "x")) ≡ sizes [] (Some (BadLine 3))
unfolding parse_text parse_from lines_of
blank_lines = refl

-- a text ends at its first fault
bad_line : parse_text strict limits (ended (codes "ab") ++ (ended (codes "x") ++ codes "abcde")) ≡ sizes (2 ∷ []) (Some (BadLine 2))
unfolding parse_text parse_from lines_of
bad_line = refl

-- four bytes are a line, and five are overlong
overlong_lines :
    map (parse_text strict limits) (ended (codes "abcd") ∷ ended (codes "abcde") ∷ codes "abcde" ∷ []) ≡ sizes (4 ∷ []) None ∷ sizes [] (Some (LineTooLong 1)) ∷ sizes [] (Some (LineTooLong 1)) ∷ []
unfolding parse_text parse_from lines_of
overlong_lines = refl

-- whose bytes don't count where it has a value
overlong_value : parse_text lenient limits (ended (codes "ab") ++ (ended (codes "xxxxx") ++ codes "c")) ≡ sizes (2 ∷ 2 ∷ 1 ∷ []) None
unfolding parse_text parse_from lines_of
overlong_value = refl

-- a line too many is a fault, whatever is in it
line_too_many :
    map (parse_text strict limits) ((ended [] ++ (ended [] ++ ended [])) ∷ (ended [] ++ (ended [] ++ (ended [] ++ ended []))) ∷ (ended [] ++ (ended [] ++ (ended [] ++ codes "x"))) ∷ [])
    ≡ sizes [] None ∷ sizes [] (Some TooManyLines) ∷ sizes [] (Some TooManyLines) ∷ []
unfolding parse_text parse_from lines_of
line_too_many = refl

-- the values of all lines have no such limit, and a fault has none
values_of_all : values_from strict 4 1 (lines_of (ended (codes "a") ++ (ended (codes "x") ++ (ended (codes "abcde") ++ (ended [] ++ codes "bc"))))) ≡ 1 ∷ 2 ∷ []
unfolding values_from lines_of
values_of_all = refl

-- ---- chunks

abbrev behind : List ℕ → Progress ℕ
behind partial = record { limits = limits; values = 7 ∷ []; lines = 1; partial = partial }

-- bytes go on with the partial line, which is line 2 here
partial_lines : map (parse_after lenient (behind (codes "ab"))) ([] ∷ codes "c" ∷ ended (codes "c") ∷ (ended [] ++ codes "c") ∷ []) ≡ sizes (7 ∷ 2 ∷ []) None ∷ sizes (7 ∷ 3 ∷ []) None ∷ sizes (7 ∷ 3 ∷ []) None ∷ sizes (7 ∷ 2 ∷ 1 ∷ []) None ∷ []
unfolding parse_after parse_from lines_of
partial_lines = refl

-- an overlong one stays so
partial_overlong : map (parse_after lenient (behind (partial_of 4 true []))) ([] ∷ codes "c" ∷ ended [] ∷ (ended [] ++ codes "abc") ∷ []) ≡ sizes (7 ∷ 2 ∷ []) None ∷ sizes (7 ∷ 2 ∷ []) None ∷ sizes (7 ∷ 2 ∷ []) None ∷ sizes (7 ∷ 2 ∷ 3 ∷ []) None ∷ []
unfolding parse_after parse_from lines_of
partial_overlong = refl

-- ---- faults

abbrev faults : List ScriptFault
faults = BadLine 3 ∷ LineTooLong 3 ∷ TooManyLines ∷ ReadFailed ∷ WriteFailed ∷ NoMemory ∷ []

numbers_of_faults : map code_of faults ≡ 61 ∷ 62 ∷ 63 ∷ 64 ∷ 65 ∷ 20 ∷ []
numbers_of_faults = refl

names_of_faults : map name_of faults ≡ codes "BadLine" ∷ codes "LineTooLong" ∷ codes "TooManyLines" ∷ codes "ReadFailed" ∷ codes "WriteFailed" ∷ codes "NoMemory" ∷ []
names_of_faults = refl
