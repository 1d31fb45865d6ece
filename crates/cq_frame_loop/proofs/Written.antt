-- What is written as frames is cut into them.
use Rattle.std.proofs.Common.{◌≡◌, ℕ, ◌+◌, ◌-◌, ◌<◌, ◌≤◌, ◌^◌, Bool, true, false, cond, leb, leb-true, List, [], ◌∷◌, ◌++◌, length, take, drop, map, Some, None, refl, sym, ap, ◌∙◌, inl, inr, append_assoc, arith}
use Rattle.std.specs.Int.{w32, to_le_bytes, from_le_bytes}
use Rattle.std.specs.List.{flat_map}
use Rattle.std.proofs.lemmas.Bool.{leb-false}
use Rattle.std.proofs.lemmas.List.{length-append, take_at, take_all, drop_at, drop_all}
use Rattle.std.proofs.lemmas.Nat.{from_le_bytes-to_le_bytes_4}
use Rattle.cq_base.specs.Relations.{Among}
use Rattle.cq_frames.specs.declared.frame.TheConstants.{FRAME_LIMIT}
use Rattle.cq_wire.specs.Layout.{number32, text}
use Rattle.cq_frame_loop.specs.Cutting.{frames_behind, frames_of, said_size}
use Rattle.cq_frame_loop.specs.Laws.{heard}
use Rattle.cq_frame_loop.specs.within.Advances.{BeginsWith}
use Rattle.cq_frame_loop.proofs.Cuts.{begins_overlong, begins_whole, passed}

length-text : (bytes : List ℕ) → length (text bytes) ≡ 4 + length bytes
unfolding text number32
length-text bytes = length-append (to_le_bytes w32 (length bytes)) bytes

drop-text : (bytes : List ℕ) → drop 4 (text bytes) ≡ bytes
unfolding text number32
drop-text bytes = drop_at (to_le_bytes w32 (length bytes)) bytes 4 refl

said_size-text : (bytes : List ℕ) → length bytes < 2 ^ 32 → said_size (text bytes) ≡ length bytes
unfolding said_size text number32
said_size-text bytes fits = ap (from_le_bytes w32) (take_at (to_le_bytes w32 (length bytes)) bytes 4 refl) ∙ from_le_bytes-to_le_bytes_4 (length bytes) fits

heard_by : (few : Bool) (bytes : List ℕ) → leb (length bytes) FRAME_LIMIT ≡ few → length bytes < 2 ^ 32 → BeginsWith (text bytes) (cond few (Some bytes) None) (4 + length bytes)
heard_by true bytes is fits =
    let few : length bytes ≤ FRAME_LIMIT = leb-true _ _ is in
    let size = length-text bytes in
    let said = said_size-text bytes fits in
    let part : bytes ≡ take (said_size (text bytes)) (drop 4 (text bytes)) =
    sym (ap (λ n. take n (drop 4 (text bytes))) said ∙ ap (take (length bytes)) (drop-text bytes) ∙ take_all (length bytes) bytes (omega arith)) in
    begins_whole (text bytes) bytes (4 + length bytes) (omega arith) (omega arith) (omega arith) part (omega arith)
heard_by false bytes is fits =
    let many : FRAME_LIMIT < length bytes = leb-false _ _ is in
    let size = length-text bytes in
    let said = said_size-text bytes fits in
    begins_overlong (text bytes) (4 + length bytes) (omega arith) (omega arith) (omega arith)

one_cut : (bytes rest : List ℕ) → length bytes < 2 ^ 32 → frames_of (text bytes ++ rest) ≡ heard bytes ∷ frames_of rest
one_cut bytes rest fits =
    let size = length-text bytes in
    let none : (4 + length bytes) - length (text bytes) ≡ 0 = omega arith in
    heard_by (leb (length bytes) FRAME_LIMIT) bytes refl fits rest
    ∙ ap (λ fs. heard bytes ∷ fs) (
    passed (4 + length bytes) (text bytes) rest
    ∙ ap (λ n. frames_behind n (drop (4 + length bytes) (text bytes) ++ rest)) none
    ∙ ap (λ (xs : List ℕ). frames_behind 0 (xs ++ rest)) (drop_all (4 + length bytes) (text bytes) (omega arith))
    )

pub all_cut : (frames : List (List ℕ)) (rest : List ℕ) → ((bytes : List ℕ) → Among bytes frames → length bytes < 2 ^ 32) → frames_of (flat_map text frames ++ rest) ≡ map heard frames ++ frames_of rest
all_cut [] rest fits = refl
all_cut (bytes ∷ frames) rest fits =
    ap frames_of (append_assoc (text bytes) (flat_map text frames) rest)
    ∙ one_cut bytes (flat_map text frames ++ rest) (fits bytes (inl refl))
    ∙ ap (λ fs. heard bytes ∷ fs) (all_cut frames rest (λ other among. fits other (inr among)))
