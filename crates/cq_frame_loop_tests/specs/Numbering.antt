-- What a handler tells that numbers the frames.
use Rattle.std.specs.Prelude.{◌≡◌, ℕ, ◌+◌, List, [], ◌∷◌, ◌++◌, Option, None, Some}
use Rattle.cq_frame_loop_tests.specs.declared.numbering.Numbering.{Numbering}

-- the bytes of a frame; of one that is too long 255
abbrev pub bytes_told : Option (List ℕ) → List ℕ
bytes_told None = 255 ∷ []
bytes_told (Some bytes) = bytes

-- these, and then the number of the frame
abbrev pub numbers : Numbering → Option (List ℕ) → List ℕ → Numbering → Type 0
numbers s frame text t = (text ≡ bytes_told frame ++ s.count ∷ []) × (t.count ≡ s.count + 1)
