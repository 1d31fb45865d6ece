-- Inductions over lists, from their first element to their last.
use Rattle.std.proofs.Common.{List, [], ◌∷◌, ◌++◌, append-nil, append_assoc}

-- what stays with one more at the end stays with any number
joined_more : {X : Type 0} (P : List X → Type 0) → ((xs : List X) (x : X) → P xs → P (xs ++ x ∷ [])) → (before after : List X) → P before → P (before ++ after)
joined_more P more before [] h = rw append-nil h
joined_more P more before (x ∷ after) h = rw (← append_assoc before (x ∷ []) after) (joined_more P more (before ++ x ∷ []) after (more before x h))

-- what holds of the empty list, and stays with one more at the end, holds of every list
pub by_last : {X : Type 0} (P : List X → Type 0) → P [] → ((xs : List X) (x : X) → P xs → P (xs ++ x ∷ [])) → (xs : List X) → P xs
by_last P none more xs = joined_more P more [] xs none
