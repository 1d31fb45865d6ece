-- Chunks as they are told.
use Rattle.std.proofs.Common.{◌≡◌, ℕ, ◌+◌, ◌≤◌, ◌∙◌, ap, sym, refl, List, [], ◌∷◌, ◌++◌, append-nil, append_assoc, length, length-append, arith, Result, Ok, Err}
use Rattle.cq_base.specs.Relations.{IsPrefix}
use Rattle.cq_frames.specs.declared.frame.TheConstants.{FRAME_LIMIT}
use Rattle.cq_frames.specs.declared.piece.TheConstants.{PIECE_LIMIT}
use Rattle.cq_frames.specs.declared.response.Response.{Response}
use Rattle.cq_frames.specs.declared.response.Response.TheVariants.{Saved}
use Rattle.cq_frames.specs.Layout.{response}
use Rattle.cq_process_frames.specs.Frames.{frame}
use Rattle.cq_process_frames.proofs.Overwriting.{length32, length64}
use Rattle.cq_server_process.specs.Turns.{frames}
use Rattle.cq_wire.specs.Layout.{number32, number64, text, whole}

saved-length : (count : ℕ) (chunk : List ℕ) → length (whole response (Saved count chunk)) ≡ 14 + length chunk
unfolding whole response text
saved-length count chunk =
    let a = length-append (number64 count) (number32 (length chunk) ++ chunk) in
    let b = length-append (number32 (length chunk)) chunk in
    let c = length64 count in
    let d = length32 (length chunk) in
    omega arith

-- it fits into a frame
pub saved-fits : (count : ℕ) (chunk bytes : List ℕ) → length chunk ≤ PIECE_LIMIT → bytes ≡ [] ++ whole response (Saved count chunk) → length bytes ≤ FRAME_LIMIT
saved-fits count chunk bytes few is =
    let long : length bytes ≡ 14 + length chunk = ap (λ xs. length xs) is ∙ saved-length count chunk in
    omega arith

no-items : (xs : List ℕ) → length xs ≡ 0 → xs ≡ []
no-items [] h = refl
no-items (x ∷ xs) h = absurd (omega arith)

-- behind nothing
pub behind-nothing : (end new bytes : List ℕ) → length end ≡ 0 → new ≡ end ++ bytes → new ≡ bytes
behind-nothing end new bytes none is = is ∙ ap (λ xs. xs ++ bytes) (no-items end none)

pub one-told : (old mid end new : List ℕ) (one : Response) → mid ≡ old → length end ≡ 0 → new ≡ end ++ frame one → mid ++ new ≡ old ++ frames (one ∷ [])
one-told old mid end new one same none is = ap (λ xs. xs ++ new) same ∙ ap (λ xs. old ++ xs) (behind-nothing end new (frame one) none is ∙ sym (append-nil (frame one)))

pub two-told : (old mid end new : List ℕ) (one other : Response) → mid ≡ old ++ frame one → length end ≡ 0 → new ≡ end ++ frame other → mid ++ new ≡ old ++ frames (one ∷ other ∷ [])
two-told old mid end new one other first none is =
    ap (λ xs. xs ++ new) first ∙ append_assoc old (frame one) new ∙ ap (λ xs. old ++ (frame one ++ xs)) (behind-nothing end new (frame other) none is ∙ sym (append-nil (frame other)))

pub same-front : (old new : List ℕ) → new ≡ old → IsPrefix old new
same-front old new is = ([], is ∙ sym (append-nil old))
