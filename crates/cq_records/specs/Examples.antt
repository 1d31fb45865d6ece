-- What bytes of a log stand for, in rows that compute. Lengths and checksums were worked out by another program.
use Rattle.std.specs.Prelude.{◌≡◌, true, false, [], ◌∷◌}
use Rattle.cq_records.specs.declared.behind.Behind.TheVariants.{Zeros, TornBatch}
use Rattle.cq_records.specs.Frames.{records, is_sound, framed, ends_with}
use Rattle.cq_records.specs.Checksum.{checksum}

pub record Examples : Type 0 where
  -- the checksum of "123456789", which all descriptions of CRC-32 give
  pub check : checksum (49 ∷ 50 ∷ 51 ∷ 52 ∷ 53 ∷ 54 ∷ 55 ∷ 56 ∷ 57 ∷ []) ≡ 0xcbf4_3926
  -- the frame of "AB" with which a batch begins
  pub frame : framed 1 (65 ∷ 66 ∷ []) ≡ 2 ∷ 4 ∷ 2 ∷ 2 ∷ 203 ∷ 61 ∷ 145 ∷ 51 ∷ 1 ∷ 65 ∷ 66 ∷ []
  -- zeros alone
  pub blank : records (0 ∷ 0 ∷ 0 ∷ 0 ∷ 0 ∷ 0 ∷ 0 ∷ 0 ∷ 0 ∷ 0 ∷ []) ≡ []
  -- a batch of a record of two bytes and an empty one, and zeros
  pub two : records (2 ∷ 4 ∷ 2 ∷ 2 ∷ 203 ∷ 61 ∷ 145 ∷ 51 ∷ 1 ∷ 65 ∷ 66 ∷ 2 ∷ 2 ∷ 2 ∷ 2 ∷ 2 ∷ 2 ∷ 2 ∷ 2 ∷ 2 ∷ 0 ∷ 0 ∷ []) ≡ (65 ∷ 66 ∷ []) ∷ [] ∷ []
  -- the first lost a byte of its text, and the whole one behind it doesn't count
  pub torn_text : records (2 ∷ 4 ∷ 2 ∷ 2 ∷ 203 ∷ 61 ∷ 145 ∷ 51 ∷ 1 ∷ 65 ∷ 0 ∷ 2 ∷ 3 ∷ 2 ∷ 2 ∷ 249 ∷ 78 ∷ 82 ∷ 65 ∷ 2 ∷ 67 ∷ 0 ∷ []) ≡ []
  -- the second lost a byte of its length
  pub torn_length : records (2 ∷ 3 ∷ 2 ∷ 2 ∷ 249 ∷ 78 ∷ 82 ∷ 65 ∷ 1 ∷ 67 ∷ 2 ∷ 0 ∷ 2 ∷ 2 ∷ 249 ∷ 78 ∷ 82 ∷ 65 ∷ 2 ∷ 67 ∷ 0 ∷ []) ≡ (67 ∷ []) ∷ []
  -- the second lost a byte of its checksum
  pub torn_sum : records (2 ∷ 3 ∷ 2 ∷ 2 ∷ 249 ∷ 78 ∷ 82 ∷ 65 ∷ 1 ∷ 67 ∷ 2 ∷ 3 ∷ 2 ∷ 2 ∷ 249 ∷ 0 ∷ 82 ∷ 65 ∷ 2 ∷ 67 ∷ []) ≡ (67 ∷ []) ∷ []
  -- the second lost its mark
  pub torn_mark : records (2 ∷ 3 ∷ 2 ∷ 2 ∷ 249 ∷ 78 ∷ 82 ∷ 65 ∷ 1 ∷ 67 ∷ 2 ∷ 3 ∷ 2 ∷ 2 ∷ 249 ∷ 78 ∷ 82 ∷ 65 ∷ 0 ∷ 67 ∷ []) ≡ (67 ∷ []) ∷ []
  -- the second has its gate shut
  pub shut : records (2 ∷ 3 ∷ 2 ∷ 2 ∷ 249 ∷ 78 ∷ 82 ∷ 65 ∷ 1 ∷ 67 ∷ 0 ∷ 3 ∷ 2 ∷ 2 ∷ 249 ∷ 78 ∷ 82 ∷ 65 ∷ 2 ∷ 67 ∷ []) ≡ (67 ∷ []) ∷ []
  -- the gate of another format
  pub other_gate : records (1 ∷ 3 ∷ 2 ∷ 2 ∷ 249 ∷ 78 ∷ 82 ∷ 65 ∷ 1 ∷ 67 ∷ []) ≡ []
  -- a text with a byte of 1
  pub marked_text : records (2 ∷ 3 ∷ 2 ∷ 2 ∷ 249 ∷ 78 ∷ 82 ∷ 65 ∷ 1 ∷ 1 ∷ []) ≡ []
  -- the bytes end inside a record
  pub short : records (2 ∷ 4 ∷ 2 ∷ 2 ∷ 203 ∷ 61 ∷ 145 ∷ 51 ∷ 1 ∷ 65 ∷ []) ≡ []
  -- a text that is not the one of its checksum is a record, and not sound
  pub rotten : is_sound (2 ∷ 3 ∷ 2 ∷ 2 ∷ 249 ∷ 78 ∷ 82 ∷ 65 ∷ 1 ∷ 68 ∷ []) ≡ false
  pub fresh : is_sound (2 ∷ 3 ∷ 2 ∷ 2 ∷ 249 ∷ 78 ∷ 82 ∷ 65 ∷ 1 ∷ 67 ∷ []) ≡ true
  -- the second of a batch lost a byte, or all of them but its mark: so a crash may leave it
  pub torn : ends_with TornBatch (2 ∷ 3 ∷ 2 ∷ 2 ∷ 249 ∷ 78 ∷ 82 ∷ 65 ∷ 1 ∷ 67 ∷ 2 ∷ 0 ∷ 2 ∷ 2 ∷ 249 ∷ 78 ∷ 82 ∷ 65 ∷ 2 ∷ 67 ∷ 0 ∷ []) ≡ true
  pub mark_alone : ends_with TornBatch (2 ∷ 3 ∷ 2 ∷ 2 ∷ 249 ∷ 78 ∷ 82 ∷ 65 ∷ 1 ∷ 67 ∷ 0 ∷ 0 ∷ 0 ∷ 0 ∷ 0 ∷ 0 ∷ 0 ∷ 0 ∷ 2 ∷ 0 ∷ []) ≡ true
  -- the first of a batch has nothing but its mark
  pub first_mark : ends_with TornBatch (2 ∷ 3 ∷ 2 ∷ 2 ∷ 249 ∷ 78 ∷ 82 ∷ 65 ∷ 1 ∷ 67 ∷ 0 ∷ 0 ∷ 0 ∷ 0 ∷ 0 ∷ 0 ∷ 0 ∷ 0 ∷ 1 ∷ 0 ∷ []) ≡ true
  -- a batch comes behind the lost byte
  pub lost : ends_with TornBatch (2 ∷ 0 ∷ 2 ∷ 2 ∷ 249 ∷ 78 ∷ 82 ∷ 65 ∷ 1 ∷ 67 ∷ 2 ∷ 3 ∷ 2 ∷ 2 ∷ 249 ∷ 78 ∷ 82 ∷ 65 ∷ 1 ∷ 67 ∷ []) ≡ false
  -- gates and marks that none has
  pub rotten_gate : ends_with TornBatch (3 ∷ 3 ∷ 2 ∷ 2 ∷ 249 ∷ 78 ∷ 82 ∷ 65 ∷ 1 ∷ 67 ∷ []) ≡ false
  pub rotten_mark : ends_with TornBatch (2 ∷ 3 ∷ 2 ∷ 2 ∷ 249 ∷ 78 ∷ 82 ∷ 65 ∷ 5 ∷ 67 ∷ []) ≡ false
  -- where a log doesn't grow any more, all that isn't zero is lost records
  pub left : ends_with Zeros (2 ∷ 3 ∷ 2 ∷ 2 ∷ 249 ∷ 78 ∷ 82 ∷ 65 ∷ 1 ∷ 67 ∷ 2 ∷ 0 ∷ 2 ∷ 2 ∷ 249 ∷ 78 ∷ 82 ∷ 65 ∷ 2 ∷ 67 ∷ 0 ∷ []) ≡ false
  pub closed : ends_with Zeros (2 ∷ 3 ∷ 2 ∷ 2 ∷ 249 ∷ 78 ∷ 82 ∷ 65 ∷ 1 ∷ 67 ∷ 2 ∷ 3 ∷ 2 ∷ 2 ∷ 249 ∷ 78 ∷ 82 ∷ 65 ∷ 2 ∷ 67 ∷ 0 ∷ []) ≡ true
