-- The bytes of a batch: whole frames and nothing else. No mark but the first one's is 1.
use Rattle.std.specs.Prelude.{◌≡◌, ℕ, ◌+◌, ◌<◌, ◌≤◌, true, List, [], ◌∷◌, ◌++◌, length, take, drop}
use Rattle.cq_records.specs.Frames.{frames, is_text, joined, all_sound, has_no_one, records}

pub record IsBatch (bytes : List ℕ) : Type 0 where
  pub whole : bytes ≡ joined (frames bytes)
  pub sound : all_sound (frames bytes) ≡ true
  pub one_mark : has_no_one (drop 9 bytes) ≡ true

-- The frame of the last record begins at this place, or no bytes come from there on. Before it there is a batch, too.
pub record HasLast (bytes : List ℕ) (last : ℕ) : Type 0 where
  pub front : IsBatch (take last bytes)
  pub head : last < length bytes → last + 9 ≤ length bytes
  pub text : last < length bytes → is_text (drop (last + 9) bytes) ≡ true
  pub records : last < length bytes → records bytes ≡ records (take last bytes) ++ drop (last + 9) bytes ∷ []
