-- Lists of pieces with their numbers, and of what is put and taken.
use Rattle.std.proofs.Common.{◌≡◌, ℕ, ◌+◌, ◌==◌, ◌∙◌, ap, sym, refl, cond, List, [], ◌∷◌, ◌++◌, append_assoc, append-nil, length, map, Bool, true, false, arith}
use Rattle.std.proofs.lemmas.Bool.{eq-eqb, ne_eqb}
use Rattle.cq_base.specs.declared.party.Party.{Party}
use Rattle.cq_chain.specs.declared.message.Message.{Message}
use Rattle.cq_chain.specs.Parties.{same}
use Rattle.cq_events.specs.Actions.{Action, Put, put_in, put_to, taken_in, taken_from}
use Rattle.cq_frames.specs.declared.number.PieceNumber.{PieceNumber}
use Rattle.cq_process_laws.specs.Passing.{Numbered, of_message, placed}

pub message-both : (k : ℕ) (xs ys : List Numbered) → of_message k (xs ++ ys) ≡ of_message k xs ++ of_message k ys
message-both k [] ys = refl
message-both k (x ∷ xs) ys = ap (λ zs. cond (k == x.0.message) ((x.0.index, x.1) ∷ zs) zs) (message-both k xs ys) ∙ go (k == x.0.message) where
  go : (t : Bool) → cond t ((x.0.index, x.1) ∷ (of_message k xs ++ of_message k ys)) (of_message k xs ++ of_message k ys) ≡ cond t ((x.0.index, x.1) ∷ of_message k xs) (of_message k xs) ++ of_message k ys
  go true = refl
  go false = refl

-- with one more of that message
pub message-here : (k : ℕ) (n : PieceNumber) (xs : List Numbered) (piece : List ℕ) → k ≡ n.message → of_message k (xs ++ (n, piece) ∷ []) ≡ of_message k xs ++ (n.index, piece) ∷ []
message-here k n xs piece is = message-both k xs ((n, piece) ∷ []) ∙ ap (λ t. of_message k xs ++ cond t ((n.index, piece) ∷ []) []) (eq-eqb k n.message is)

-- or of another
pub message-there : (k : ℕ) (n : PieceNumber) (xs : List Numbered) (piece : List ℕ) → (k ≡ n.message → ⊥) → of_message k (xs ++ (n, piece) ∷ []) ≡ of_message k xs
message-there k n xs piece apart = message-both k xs ((n, piece) ∷ []) ∙ ap (λ t. of_message k xs ++ cond t ((n.index, piece) ∷ []) []) (ne_eqb k n.message apart) ∙ append-nil (of_message k xs)

-- one text more has the next place
pub placed-last : (index : ℕ) (texts : List (List ℕ)) (text : List ℕ) → placed index (texts ++ text ∷ []) ≡ placed index texts ++ (index + length texts, text) ∷ []
placed-last index [] text = let same : index ≡ index + 0 = omega arith in ap (λ n. (n, text) ∷ []) same
placed-last index (x ∷ texts) text =
    let same : (index + 1) + length texts ≡ index + length (x ∷ texts) = omega arith in
    ap (λ ps. (index, x) ∷ ps) (placed-last (index + 1) texts text ∙ ap (λ n. placed (index + 1) texts ++ (n, text) ∷ []) same)

pub length-last : {A : Type 0} (xs : List A) (x : A) → length (xs ++ x ∷ []) ≡ length xs + 1
length-last [] x = refl
length-last (y ∷ xs) x = let more = length-last xs x in omega arith

pub put-both : (to : Party) (xs ys : List Action) → put_to to (xs ++ ys) ≡ put_to to xs ++ put_to to ys
put-both to [] ys = refl
put-both to (x ∷ xs) ys = ap (λ zs. put_in to x ++ zs) (put-both to xs ys) ∙ sym (append_assoc (put_in to x) (put_to to xs) (put_to to ys))

pub taken-both : (from : Party) (xs ys : List Action) → taken_from from (xs ++ ys) ≡ taken_from from xs ++ taken_from from ys
taken-both from [] ys = refl
taken-both from (x ∷ xs) ys = ap (λ zs. taken_in from x ++ zs) (taken-both from xs ys) ∙ sym (append_assoc (taken_in from x) (taken_from from xs) (taken_from from ys))

-- puts of messages to one party
pub puts-here : (to other : Party) (ms : List Message) → same to other ≡ true → put_to to (map (λ x. Put other x) ms) ≡ ms
puts-here to other [] is = refl
puts-here to other (m ∷ ms) is = ap (λ t. cond t (m ∷ []) [] ++ put_to to (map (λ x. Put other x) ms)) is ∙ ap (λ xs. m ∷ xs) (puts-here to other ms is)

pub puts-there : (to other : Party) (ms : List Message) → same to other ≡ false → put_to to (map (λ x. Put other x) ms) ≡ []
puts-there to other [] is = refl
puts-there to other (m ∷ ms) is = ap (λ t. cond t (m ∷ []) [] ++ put_to to (map (λ x. Put other x) ms)) is ∙ puts-there to other ms is

pub puts-taken : (from other : Party) (ms : List Message) → taken_from from (map (λ x. Put other x) ms) ≡ []
puts-taken from other [] = refl
puts-taken from other (m ∷ ms) = puts-taken from other ms
