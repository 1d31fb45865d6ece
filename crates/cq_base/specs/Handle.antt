-- What a receipt handle names, and its text.
use Rattle.std.specs.Prelude.{ℕ, ◌<◌, ◌^◌, List, ◌∷◌, ◌++◌}
use Rattle.std.specs.Fmt.{decimal}

-- The handing of a message: the number of the queue's incarnation, the message's sequence number in
-- it, and which handing of that message it is, from 1.
pub record Handle : Type 0 where
  pub incarnation : ℕ
  pub sequence : ℕ
  pub handing : ℕ

-- a number of a handle: from 1 to 2 ^ 64 - 1
abbrev pub IsHandleNumber : ℕ → Type 0
IsHandleNumber n = (0 < n) × (n < 2 ^ 64)

-- each of the three numbers is from 1 to 2 ^ 64 - 1
pub record IsHandle (h : Handle) : Type 0 where
  pub incarnation : IsHandleNumber h.incarnation
  pub sequence : IsHandleNumber h.sequence
  pub handing : IsHandleNumber h.handing

-- the text of a receipt handle: the three numbers in decimal, with `-` between them
abbrev pub handle_text : Handle → List ℕ
handle_text h = decimal h.incarnation ++ 45 ∷ (decimal h.sequence ++ 45 ∷ decimal h.handing)
