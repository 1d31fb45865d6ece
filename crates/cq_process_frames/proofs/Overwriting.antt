-- Bytes that are written over others, and what they make of the front of a piece.
use Rattle.std.proofs.Common.{◌≡◌, ℕ, ◌+◌, ◌≤◌, ◌∙◌, ap, sym, refl, List, [], ◌∷◌, ◌++◌, length, take, drop, append_assoc, append-nil, length-append, arith}
use Rattle.std.proofs.Math.Seq.{take-append_seam, drop-append_seam, drop-append-add}
use Rattle.cq_base.specs.declared.party.Party.{Party}
use Rattle.cq_base.specs.declared.party.Party.TheVariants.{Master, Clients, Server}
use Rattle.cq_frames.specs.declared.number.PieceNumber.{PieceNumber}
use Rattle.cq_frames.specs.declared.response.Response.TheVariants.{Put}
use Rattle.cq_frames.specs.Layout.{party, piece_number, response}
use Rattle.cq_wire.specs.Layout.{number32, number64, text, whole}
use Rattle.cq_process_frames.specs.Frames.{frame, front, mark}

-- what stands there once those were written over these
pub overwritten : (a z n r : List ℕ) (place size : ℕ) → length a ≡ place → length z ≡ size → take place (a ++ (z ++ r)) ++ (n ++ drop (place + size) (a ++ (z ++ r))) ≡ a ++ (n ++ r)
overwritten a z n r place size at same =
    ap (λ p. take p (a ++ (z ++ r)) ++ (n ++ drop (p + size) (a ++ (z ++ r)))) (sym at)
    ∙ ap (λ xs. xs ++ (n ++ drop (length a + size) (a ++ (z ++ r)))) (take-append_seam a (z ++ r))
    ∙ ap (λ xs. a ++ (n ++ xs)) (drop-append-add a (z ++ r) size ∙ ap (λ k. drop k (z ++ r)) (sym same) ∙ drop-append_seam z r)

-- the same, where the bytes before them are in two
pub overwritten-behind : (a b z n r : List ℕ) (place size : ℕ) → length a + length b ≡ place → length z ≡ size → take place (a ++ (b ++ (z ++ r))) ++ (n ++ drop (place + size) (a ++ (b ++ (z ++ r)))) ≡ a ++ (b ++ (n ++ r))
overwritten-behind a b z n r place size at same =
    ap (λ xs. take place xs ++ (n ++ drop (place + size) xs)) (sym (append_assoc a b (z ++ r)))
    ∙ overwritten (a ++ b) z n r place size (length-append a b ∙ at) same
    ∙ append_assoc a b (n ++ r)

pub length32 : (n : ℕ) → length (number32 n) ≡ 4
unfolding number32
length32 n = refl

pub length64 : (n : ℕ) → length (number64 n) ≡ 8
unfolding number64
length64 n = refl

pub length-number : (n : PieceNumber) → length (piece_number n) ≡ 16
unfolding piece_number number64
length-number n = refl

-- two numbers of eight bytes, one behind the other
pub both-written : (old x y a m i r : List ℕ) (number : PieceNumber) (place : ℕ) → old ≡ a ++ (m ++ (i ++ r)) → x ≡ take place old ++ (number64 number.message ++ drop (place + 8) old)
    → y ≡ take (place + 8) x ++ (number64 number.index ++ drop (place + 8 + 8) x) → length a ≡ place → length m ≡ 8 → length i ≡ 8 → y ≡ a ++ (piece_number number ++ r)
unfolding piece_number
both-written old x y a m i r number place is-old is-x is-y la lm li =
    is-y ∙ ap (λ xs. take (place + 8) xs ++ (number64 number.index ++ drop (place + 8 + 8) xs)) first
    ∙ overwritten-behind a (number64 number.message) i (number64 number.index) r (place + 8) 8 behind li
    ∙ ap (λ xs. a ++ xs) (sym (append_assoc (number64 number.message) (number64 number.index) r))
  where
    first : x ≡ a ++ (number64 number.message ++ (i ++ r))
    first = is-x ∙ ap (λ xs. take place xs ++ (number64 number.message ++ drop (place + 8) xs)) is-old ∙ overwritten a m (number64 number.message) (i ++ r) place 8 la lm

    behind : length a + length (number64 number.message) ≡ place + 8
    behind = let eight = length64 number.message in omega arith

-- a length, a number and a length written over zeros, one after another
pub filled : (old x y w a z m n i k r t number count : List ℕ) (place size : ℕ) → old ≡ a ++ (z ++ (m ++ (n ++ (i ++ (k ++ r))))) → x ≡ take place old ++ (t ++ drop (place + 4) old)
    → ((b c d e : List ℕ) → x ≡ b ++ (c ++ (d ++ e)) → length b ≡ place + 4 + size → length c ≡ 8 → length d ≡ 8 → y ≡ b ++ (number ++ e)) → w ≡ take (place + 20 + size) y ++ (count ++ drop (place + 20 + size + 4) y)
    → length a ≡ place → length z ≡ 4 → length m ≡ size → length n ≡ 8 → length i ≡ 8 → length k ≡ 4 → length t ≡ 4 → length number ≡ 16 → w ≡ a ++ (t ++ (m ++ (number ++ (count ++ r))))
filled old x y w a z m n i k r t number count place size is-old is-x is-y is-w la lz lm ln li lk lt lnumber =
    is-w ∙ ap (λ xs. take (place + 20 + size) xs ++ (count ++ drop (place + 20 + size + 4) xs)) second
    ∙ overwritten-behind ((a ++ t) ++ m) number k count r (place + 20 + size) 4 third_place lk
    ∙ append_assoc (a ++ t) m (number ++ (count ++ r)) ∙ append_assoc a t (m ++ (number ++ (count ++ r)))
  where
    first : x ≡ a ++ (t ++ (m ++ (n ++ (i ++ (k ++ r)))))
    first = is-x ∙ ap (λ xs. take place xs ++ (t ++ drop (place + 4) xs)) is-old ∙ overwritten a z t (m ++ (n ++ (i ++ (k ++ r)))) place 4 la lz

    before : length ((a ++ t) ++ m) ≡ place + 4 + size
    before = let one = length-append a t in let two = length-append (a ++ t) m in omega arith

    second : y ≡ ((a ++ t) ++ m) ++ (number ++ (k ++ r))
    second = is-y ((a ++ t) ++ m) n i (k ++ r) (first ∙ sym (append_assoc a t (m ++ (n ++ (i ++ (k ++ r))))) ∙ sym (append_assoc (a ++ t) m (n ++ (i ++ (k ++ r))))) before ln li

    third_place : length ((a ++ t) ++ m) + length number ≡ place + 20 + size
    third_place = let one = before in omega arith

-- the front of a piece has from 27 to 31 bytes
pub front-short : (to : Party) → (length (front to) ≤ 31) × (27 ≤ length (front to))
unfolding party number32
front-short Master = (omega arith, omega arith)
front-short Clients = (omega arith, omega arith)
front-short (Server id) = (omega arith, omega arith)

-- the frame of a piece
pub frame-is : (to : Party) (number : PieceNumber) (piece : List ℕ) → frame (Put to number piece) ≡ number32 (length (mark to) + 20 + length piece) ++ (mark to ++ (piece_number number ++ (number32 (length piece) ++ piece)))
unfolding text whole response
frame-is to number piece = ap (λ n. number32 n ++ (mark to ++ (piece_number number ++ (number32 (length piece) ++ piece)))) long where
  long : length (mark to ++ (piece_number number ++ (number32 (length piece) ++ piece))) ≡ length (mark to) + 20 + length piece
  long = let one = length-append (mark to) (piece_number number ++ (number32 (length piece) ++ piece)) in
      let two = length-append (piece_number number) (number32 (length piece) ++ piece) in
      let three = length-append (number32 (length piece)) piece in
      let four = length-number number in
      let five = length32 (length piece) in
      omega arith

-- what is filled in makes the frame
pub sealed : (old piece : List ℕ) (to : Party) (number : PieceNumber) (size count : ℕ) → length (mark to) ≡ size → length piece ≡ count
    → old ++ (number32 (size + 20 + count) ++ (mark to ++ (piece_number number ++ (number32 count ++ piece)))) ≡ old ++ frame (Put to number piece)
sealed old piece to number size count is_size is_count =
    ap (λ m. old ++ (number32 (m + 20 + count) ++ (mark to ++ (piece_number number ++ (number32 count ++ piece))))) (sym is_size)
    ∙ ap (λ k. old ++ (number32 (length (mark to) + 20 + k) ++ (mark to ++ (piece_number number ++ (number32 k ++ piece))))) (sym is_count)
    ∙ ap (λ xs. old ++ xs) (sym (frame-is to number piece))

-- how long they are
pub parts-length : (all old piece : List ℕ) (to : Party) → all ≡ (old ++ front to) ++ piece → length all ≡ length old + length (front to) + length piece
parts-length all old piece to is = ap (λ xs. length xs) is ∙ (let one = length-append (old ++ front to) piece in let two = length-append old (front to) in omega arith)

-- the front and the piece, as what is filled in
pub front-parts : (old piece : List ℕ) (to : Party) → (old ++ front to) ++ piece ≡ old ++ ((0 ∷ 0 ∷ 0 ∷ 0 ∷ []) ++ (mark to ++ ((0 ∷ 0 ∷ 0 ∷ 0 ∷ 0 ∷ 0 ∷ 0 ∷ 0 ∷ []) ++ ((0 ∷ 0 ∷ 0 ∷ 0 ∷ 0 ∷ 0 ∷ 0 ∷ 0 ∷ []) ++ ((0 ∷ 0 ∷ 0 ∷ 0 ∷ []) ++ piece)))))
front-parts old piece to =
    append_assoc old (front to) piece
    ∙ ap (λ xs. old ++ (0 ∷ 0 ∷ 0 ∷ 0 ∷ xs)) (append_assoc (mark to) (0 ∷ 0 ∷ 0 ∷ 0 ∷ 0 ∷ 0 ∷ 0 ∷ 0 ∷ 0 ∷ 0 ∷ 0 ∷ 0 ∷ 0 ∷ 0 ∷ 0 ∷ 0 ∷ 0 ∷ 0 ∷ 0 ∷ 0 ∷ []) piece)

pub front-length : (to : Party) → length (front to) ≡ length (mark to) + 24
front-length to = let one = length-append (mark to) (0 ∷ 0 ∷ 0 ∷ 0 ∷ 0 ∷ 0 ∷ 0 ∷ 0 ∷ 0 ∷ 0 ∷ 0 ∷ 0 ∷ 0 ∷ 0 ∷ 0 ∷ 0 ∷ 0 ∷ 0 ∷ 0 ∷ 0 ∷ []) in omega arith

-- what is left where the front and what stands behind it are cut off
pub cut-back : (old behind piece all : List ℕ) (start : ℕ) → all ≡ (old ++ behind) ++ piece → length old ≡ start → take start all ≡ old ++ []
cut-back old behind piece all start is at =
    ap (λ xs. take start xs) (is ∙ append_assoc old behind piece) ∙ ap (λ n. take n (old ++ (behind ++ piece))) (sym at) ∙ take-append_seam old (behind ++ piece) ∙ sym (append-nil old)
