-- Which frame bytes begin with, and what is passed over.
use Rattle.std.proofs.Common.{◌≡◌, ℕ, zero, suc, ◌+◌, ◌-◌, ◌<◌, ◌≤◌, Bool, true, false, cond, ltb, leb, List, [], ◌∷◌, ◌++◌, length, take, drop, Some, None, Result, Ok, Err, refl, sym, ap, ◌∙◌, append_assoc, arith}
use Rattle.std.specs.Int.{w32, from_le_bytes}
use Rattle.std.proofs.lemmas.Bool.{le-ltb, lt-ltb, le-leb, lt-leb}
use Rattle.std.proofs.lemmas.List.{length-append, length-drop, drop-append-le, take-append-le, take-append-drop, take-take, drop-take}
use Rattle.cq_frames.specs.declared.frame.TheConstants.{FRAME_LIMIT}
use Rattle.cq_frames.specs.Frames.{frame_at}
use Rattle.cq_wire.specs.declared.fault.WireFault.{WireFault}
use Rattle.cq_wire.specs.declared.fault.WireFault.TheVariants.{Truncated, BadNumber}
use Rattle.cq_wire.specs.Reading.{number_at, bytes_at}
use Rattle.cq_frame_loop.specs.Cutting.{frame_before, frames_behind, said_size}
use Rattle.cq_frame_loop.specs.within.Advances.{BeginsWith}

-- ---- what is passed over

pub passed : (count : ℕ) (bytes more : List ℕ) → frames_behind count (bytes ++ more) ≡ frames_behind (count - length bytes) (drop count bytes ++ more)
unfolding frames_behind
passed zero [] more = refl
passed zero (b ∷ bs) more = let none : 0 ≡ 0 - suc (length bs) = omega arith in ap (λ n. frames_behind n ((b ∷ bs) ++ more)) none
passed (suc count) [] more = let all : suc count ≡ suc count - 0 = omega arith in ap (λ n. frames_behind n more) all
passed (suc count) (b ∷ bs) more =
    let less : count - length bs ≡ suc count - suc (length bs) = omega arith in
    passed count bs more ∙ ap (λ n. frames_behind n (drop count bs ++ more)) less

-- ---- what is read of a frame

number-short : (bytes : List ℕ) → length bytes < 4 → number_at w32 bytes ≡ Err Truncated
unfolding number_at
number-short bytes few =
    let none : Result (ℕ × List ℕ) WireFault = Err Truncated in
    ap (λ (test : Bool). cond test none (Ok (from_le_bytes w32 (take 4 bytes), drop 4 bytes))) (lt-ltb (length bytes) 4 few)

number-said : (bytes : List ℕ) → 4 ≤ length bytes → number_at w32 bytes ≡ Ok (said_size bytes, drop 4 bytes)
unfolding number_at said_size
number-said bytes four =
    let none : Result (ℕ × List ℕ) WireFault = Err Truncated in
    ap (λ (test : Bool). cond test none (Ok (from_le_bytes w32 (take 4 bytes), drop 4 bytes))) (le-ltb (length bytes) 4 four)

frame-short : (bytes : List ℕ) → length bytes < 4 → frame_at bytes ≡ Err Truncated
unfolding frame_at
frame-short bytes few = rw (number-short bytes few) refl

frame-long : (bytes : List ℕ) → 4 ≤ length bytes → FRAME_LIMIT < said_size bytes → frame_at bytes ≡ Err BadNumber
unfolding frame_at
frame-long bytes four long =
    let test : leb (said_size bytes) FRAME_LIMIT ≡ false = lt-leb _ _ long in
    rw (number-said bytes four, test) refl

frame-cut : (bytes : List ℕ) → 4 ≤ length bytes → said_size bytes ≤ FRAME_LIMIT → length bytes < 4 + said_size bytes → frame_at bytes ≡ Err Truncated
unfolding frame_at bytes_at
frame-cut bytes four few less =
    let test : leb (said_size bytes) FRAME_LIMIT ≡ true = le-leb _ _ few in
    let short : ltb (length (drop 4 bytes)) (said_size bytes) ≡ true = lt-ltb _ _ (omega (arith, length-drop 4 bytes)) in
    rw (number-said bytes four, test, short) refl

frame-whole : (bytes : List ℕ) → 4 ≤ length bytes → said_size bytes ≤ FRAME_LIMIT → 4 + said_size bytes ≤ length bytes
    → frame_at bytes ≡ Ok (take (said_size bytes) (drop 4 bytes), drop (said_size bytes) (drop 4 bytes))
unfolding frame_at bytes_at
frame-whole bytes four few all =
    let test : leb (said_size bytes) FRAME_LIMIT ≡ true = le-leb _ _ few in
    let long : ltb (length (drop 4 bytes)) (said_size bytes) ≡ false = le-ltb _ _ (omega (arith, length-drop 4 bytes)) in
    rw (number-said bytes four, test, long) refl

-- the first frame, and then those behind it
first_frame : (bytes : List ℕ) → 1 ≤ length bytes → frames_behind 0 bytes ≡ frame_before (frame_at bytes) (frames_behind (4 + said_size bytes) bytes)
unfolding frames_behind
first_frame [] some = absurd (omega arith)
first_frame (b ∷ bs) some =
    let all : suc (3 + said_size (b ∷ bs)) ≡ 4 + said_size (b ∷ bs) = omega arith in
    ap (λ n. frame_before (frame_at (b ∷ bs)) (frames_behind n (b ∷ bs))) all

said_size-append : (bytes more : List ℕ) → 4 ≤ length bytes → said_size (bytes ++ more) ≡ said_size bytes
unfolding said_size
said_size-append bytes more four = ap (from_le_bytes w32) (take-append-le 4 bytes more four)

-- ---- what bytes begin with

pub begins_overlong : (bytes : List ℕ) (count : ℕ) → 4 ≤ length bytes → FRAME_LIMIT < said_size bytes → count ≡ 4 + said_size bytes → BeginsWith bytes None count
begins_overlong bytes count four long is = λ more.
    let all : List ℕ = bytes ++ more in
    let same : said_size (bytes ++ more) ≡ said_size bytes = said_size-append bytes more four in
    let grown : 4 ≤ length (bytes ++ more) = omega (arith, length-append bytes more) in
    let read : frame_at (bytes ++ more) ≡ Err BadNumber = frame-long (bytes ++ more) grown (omega arith) in
    let size : 4 + said_size (bytes ++ more) ≡ count = omega arith in
    first_frame (bytes ++ more) (omega arith)
    ∙ ap (λ x. frame_before x (frames_behind (4 + said_size (bytes ++ more)) (bytes ++ more))) read
    ∙ ap (λ n. None ∷ frames_behind n (bytes ++ more)) size

pub begins_whole : (bytes frame : List ℕ) (count : ℕ) → 4 ≤ length bytes → said_size bytes ≤ FRAME_LIMIT → 4 + said_size bytes ≤ length bytes
    → frame ≡ take (said_size bytes) (drop 4 bytes) → count ≡ 4 + said_size bytes → BeginsWith bytes (Some frame) count
begins_whole bytes frame count four few all is is_count = λ more.
    let same : said_size (bytes ++ more) ≡ said_size bytes = said_size-append bytes more four in
    let grown : length (bytes ++ more) ≡ length bytes + length more = length-append bytes more in
    let read = frame-whole (bytes ++ more) (omega arith) (omega arith) (omega arith) in
    let size : 4 + said_size (bytes ++ more) ≡ count = omega arith in
    let fits : said_size bytes ≤ length (drop 4 bytes) = omega (arith, length-drop 4 bytes) in
    let part : take (said_size (bytes ++ more)) (drop 4 (bytes ++ more)) ≡ frame =
    ap (λ n. take n (drop 4 (bytes ++ more))) same ∙ ap (take (said_size bytes)) (drop-append-le 4 bytes more four) ∙ take-append-le (said_size bytes) (drop 4 bytes) more fits ∙ sym is in
    first_frame (bytes ++ more) (omega arith)
    ∙ ap (λ x. frame_before x (frames_behind (4 + said_size (bytes ++ more)) (bytes ++ more))) read
    ∙ ap (λ (xs : List ℕ). Some xs ∷ frames_behind (4 + said_size (bytes ++ more)) (bytes ++ more)) part
    ∙ ap (λ n. Some frame ∷ frames_behind n (bytes ++ more)) size

-- ---- unfinished frames

pub unfinished_short : (bytes : List ℕ) → length bytes < 4 → frames_behind 0 bytes ≡ []
unfolding frames_behind
unfinished_short [] few = refl
unfinished_short (b ∷ bs) few = ap (λ x. frame_before x (frames_behind (3 + said_size (b ∷ bs)) bs)) (frame-short (b ∷ bs) few)

pub unfinished_cut : (bytes : List ℕ) → 4 ≤ length bytes → said_size bytes ≤ FRAME_LIMIT → length bytes < 4 + said_size bytes → frames_behind 0 bytes ≡ []
unfinished_cut bytes four few less = first_frame bytes (omega arith) ∙ ap (λ x. frame_before x (frames_behind (4 + said_size bytes) bytes)) (frame-cut bytes four few less)

pub unfinished_behind : (count : ℕ) (rest : List ℕ) → (1 ≤ length rest → count ≡ 0) → frames_behind 0 rest ≡ [] → frames_behind count rest ≡ []
unfolding frames_behind
unfinished_behind count [] none is = refl
unfinished_behind count (b ∷ bs) none is = let zeroed : count ≡ 0 = none (omega arith) in ap (λ n. frames_behind n (b ∷ bs)) zeroed ∙ is

pub unfinished_nothing : (count : ℕ) → frames_behind count [] ≡ []
unfolding frames_behind
unfinished_nothing count = refl

-- ---- the buffer

-- what was read behind the bytes that were there
pub grown : (len count : ℕ) (old new : List ℕ) → take len new ≡ take len old → take (len + count) new ≡ take len old ++ take count (drop len new)
grown len count old new same =
    sym (take-append-drop len (take (len + count) new))
    ∙ ap (λ xs. xs ++ drop len (take (len + count) new)) (take-take len (len + count) new (omega arith) ∙ same)
    ∙ ap (λ xs. take len old ++ xs) (drop-take len count new)

-- ---- the bytes that are left

pub nothing_passed : (count more : ℕ) (bytes rest : List ℕ) → rest ≡ drop count bytes → more ≡ count - length bytes → 1 ≤ length rest → more ≡ 0
nothing_passed count more bytes rest is_rest is_more some =
    let size : length rest ≡ length bytes - count = ap (λ (xs : List ℕ). length xs) is_rest ∙ length-drop count bytes in
    omega arith

pub parts : (count : ℕ) (bytes rest : List ℕ) → rest ≡ drop count bytes → bytes ≡ take count bytes ++ rest
parts count bytes rest is = sym (take-append-drop count bytes) ∙ ap (λ (xs : List ℕ). take count bytes ++ xs) (sym is)

pub parts_on : (count : ℕ) (bytes front rest later : List ℕ) → bytes ≡ front ++ rest → later ≡ drop count rest → bytes ≡ (front ++ take count rest) ++ later
parts_on count bytes front rest later before is = before ∙ ap (λ (xs : List ℕ). front ++ xs) (parts count rest later is) ∙ sym (append_assoc front (take count rest) later)

pub rest_fits : (bytes front rest : List ℕ) → bytes ≡ front ++ rest → length rest ≤ length bytes
rest_fits bytes front rest is =
    let size : length bytes ≡ length front + length rest = ap (λ (xs : List ℕ). length xs) is ∙ length-append front rest in
    omega arith
