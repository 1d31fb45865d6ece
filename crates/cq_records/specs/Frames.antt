-- What bytes of a log stand for. A record is a frame: a gate, which is 2; three digits of the length of its text and four of the text's
-- checksum modulo 254 to the fourth, each two above its value in base 254, the lowest first; a mark, which is 1 where a batch begins with the
-- frame, and 2 where it goes on; and the text. No byte of a frame is 0, and none but a mark is 1.
use Rattle.std.specs.Prelude.{◌≡◌, ℕ, zero, suc, ◌+◌, ◌-◌, ◌*◌, ◌/◌, ◌%◌, ◌==◌, ◌&&◌, ◌||◌, not, nat_le, Bool, true, false, List, [], ◌∷◌, ◌++◌, length, take, drop, map, slice_index, if◌then◌else◌}
use Rattle.std.specs.List.{list_all}
use Rattle.cq_records.specs.declared.behind.Behind.{Behind}
use Rattle.cq_records.specs.declared.behind.Behind.TheVariants.{Zeros, TornBatch, Anything}
use Rattle.cq_records.specs.declared.frame.TheConstants.{TEXT_LIMIT}
use Rattle.cq_records.specs.Checksum.{checksum}

-- no byte is 0 or 1
abbrev pub is_plain : List ℕ → Bool
is_plain [] = true
is_plain (b ∷ bytes) = nat_le 2 b && is_plain bytes

-- the text can be a record
abbrev pub is_text : List ℕ → Bool
is_text text = nat_le (length text) TEXT_LIMIT && is_plain text

-- the mark of the frame that comes behind these in a batch
abbrev pub next_mark : List ℕ → ℕ
next_mark [] = 1
next_mark (b ∷ batch) = 2

-- the checksum of a text as its frame has it
abbrev pub short_sum : List ℕ → ℕ
short_sum text = checksum text % 4162314256

abbrev pub framed : ℕ → List ℕ → List ℕ
framed mark text =
    let n = length text in
    let sum = short_sum text in
    2 ∷ (n % 254 + 2) ∷ (n / 254 % 254 + 2) ∷ (n / 64516 + 2)
    ∷ (sum % 254 + 2) ∷ (sum / 254 % 254 + 2) ∷ (sum / 64516 % 254 + 2) ∷ (sum / 16387064 + 2) ∷ mark ∷ text

-- of a frame: the length of its text, its own length, its text, and the checksum that stands in it
abbrev pub text_length : List ℕ → ℕ
text_length bytes = (slice_index bytes 1 - 2) + (254 * (slice_index bytes 2 - 2) + 64516 * (slice_index bytes 3 - 2))

abbrev pub frame_length : List ℕ → ℕ
frame_length bytes = 9 + text_length bytes

abbrev pub text_of : List ℕ → List ℕ
text_of frame = drop 9 frame

abbrev pub stored_sum : List ℕ → ℕ
stored_sum frame =
    (slice_index frame 4 - 2) + (254 * (slice_index frame 5 - 2) + (64516 * (slice_index frame 6 - 2) + 16387064 * (slice_index frame 7 - 2)))

abbrev pub is_mark : ℕ → Bool
is_mark mark = nat_le 1 mark && nat_le mark 2

-- the head of a frame begins here: its gate is open, its mark is one, and no byte between them is 0 or 1
abbrev pub is_head : List ℕ → Bool
is_head bytes = (slice_index bytes 0 == 2) && (is_mark (slice_index bytes 8) && is_plain (take 8 bytes))

-- a whole frame begins here: a head, and all of a text without a 0 or a 1
abbrev pub is_whole : List ℕ → Bool
is_whole bytes = is_head bytes && (nat_le (frame_length bytes) (length bytes) && is_plain (drop 9 (take (frame_length bytes) bytes)))

-- the frames, at most so many, up to the first that isn't whole
abbrev pub frames_in : ℕ → List ℕ → List (List ℕ)
frames_in zero bytes = []
frames_in (suc n) bytes = if is_whole bytes then take (frame_length bytes) bytes ∷ frames_in n (drop (frame_length bytes) bytes) else []

abbrev pub frames : List ℕ → List (List ℕ)
frames bytes = frames_in (length bytes) bytes

-- the records that bytes stand for
abbrev pub records : List ℕ → List (List ℕ)
records bytes = map text_of (frames bytes)

abbrev pub joined : List (List ℕ) → List ℕ
joined [] = []
joined (f ∷ fs) = f ++ joined fs

-- a frame whose text has the checksum that stands before it
abbrev pub is_sound : List ℕ → Bool
is_sound frame = stored_sum frame == short_sum (text_of frame)

abbrev pub all_sound : List (List ℕ) → Bool
all_sound [] = true
all_sound (f ∷ fs) = is_sound f && all_sound fs

abbrev pub are_zeros : List ℕ → Bool
are_zeros bytes = list_all (λ b. b == 0) bytes

-- where the last of the frames ends
abbrev pub frames_end : List ℕ → ℕ
frames_end bytes = length (joined (frames bytes))

abbrev pub has_no_one : List ℕ → Bool
has_no_one [] = true
has_no_one (b ∷ bytes) = not (b == 1) && has_no_one bytes

-- A crash in the write of a batch may leave this of the frames that aren't whole, where each byte is 0 or the batch's: a gate, a mark, and no
-- other mark behind that one. A mark behind it is that of a later batch, which was begun when all of this one was on the medium.
abbrev pub is_torn : List ℕ → Bool
is_torn rest = ((slice_index rest 0 == 0) || (slice_index rest 0 == 2)) && (nat_le (slice_index rest 8) 2 && has_no_one (drop 9 rest))

abbrev pub may_follow : Behind → List ℕ → Bool
may_follow Zeros rest = are_zeros rest
may_follow TornBatch rest = is_torn rest
may_follow Anything rest = true

-- what comes behind all frames may do so
abbrev pub ends_with : Behind → List ℕ → Bool
ends_with behind bytes = may_follow behind (drop (frames_end bytes) bytes)

-- bytes begin with a frame of this text
pub record BeginsWith (text bytes : List ℕ) : Type 0 where
  pub whole : frames bytes ≡ take (9 + length text) bytes ∷ frames (drop (9 + length text) bytes)
  pub reads : text ≡ text_of (take (9 + length text) bytes)
  pub sound : is_sound (take (9 + length text) bytes) ≡ true

-- they begin with a frame whose text has another checksum
pub record IsDamaged (bytes : List ℕ) : Type 0 where
  pub whole : is_whole bytes ≡ true
  pub unsound : is_sound (take (frame_length bytes) bytes) ≡ false

-- there is nothing but zeros behind the frames
abbrev pub is_closed : List ℕ → Bool
is_closed bytes = ends_with Zeros bytes

-- no whole frame begins at this place, behind all frames, and what comes there may not
pub record HasMore (behind : Behind) (at : ℕ) (bytes : List ℕ) : Type 0 where
  pub ends : at ≡ frames_end bytes
  pub more : may_follow behind (drop at bytes) ≡ false
