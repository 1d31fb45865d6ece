-- Worked inputs, and what is told of their frames. The results were worked out by hand.
use Rattle.std.proofs.Common.{◌≡◌, ℕ, ◌+◌, List, [], ◌∷◌, ◌++◌, map, Some, None, refl}
use Rattle.std.specs.List.{flat_map}
use Rattle.cq_frames.specs.Frames.{frame_at}
use Rattle.cq_wire.specs.Layout.{number32, text}
use Rattle.cq_wire.specs.Reading.{number_at, bytes_at}
use Rattle.cq_frame_loop.specs.Cutting.{frames_behind, frames_of, said_size}
use Rattle.cq_frame_loop.specs.Chains.{Relation, AnswersAll, AnswersFront, BreaksOff}

-- ---- frames

-- a frame of one byte, and one of none
abbrev seven : List ℕ
seven = 1 ∷ 0 ∷ 0 ∷ 0 ∷ 7 ∷ []

abbrev empty : List ℕ
empty = 0 ∷ 0 ∷ 0 ∷ 0 ∷ []

-- the lengths of the longest frame, and of one that has a byte more, which is too long
abbrev longest : List ℕ
longest = 0 ∷ 0 ∷ 64 ∷ 0 ∷ []

abbrev too_long : List ℕ
too_long = 1 ∷ 0 ∷ 64 ∷ 0 ∷ []

-- frames are cut off one after another, and an unfinished one is none
cut_frames : map frames_of ([] ∷ seven ∷ (empty ++ seven) ∷ (seven ++ (2 ∷ 0 ∷ 0 ∷ 0 ∷ 8 ∷ [])) ∷ (seven ++ (0 ∷ 0 ∷ 0 ∷ [])) ∷ [])
    ≡ [] ∷ (Some (7 ∷ []) ∷ []) ∷ (Some [] ∷ Some (7 ∷ []) ∷ []) ∷ (Some (7 ∷ []) ∷ []) ∷ (Some (7 ∷ []) ∷ []) ∷ []
unfolding frames_behind said_size frame_at number_at bytes_at
cut_frames = refl

-- one that is too long is known by its length, and its bytes are no frames
overlong_frames : map frames_of (longest ∷ too_long ∷ (seven ++ (too_long ++ (seven ++ seven))) ∷ []) ≡ [] ∷ (None ∷ []) ∷ (Some (7 ∷ []) ∷ None ∷ []) ∷ []
unfolding frames_behind said_size frame_at number_at bytes_at
overlong_frames = refl

-- bytes that are passed over, and frames behind them
frames_passed : map (frames_behind 6) ((9 ∷ 9 ∷ []) ∷ (9 ∷ (seven ++ empty)) ∷ (seven ++ (9 ∷ seven)) ∷ []) ≡ [] ∷ (Some [] ∷ []) ∷ (Some (7 ∷ []) ∷ []) ∷ []
unfolding frames_behind said_size frame_at number_at bytes_at
frames_passed = refl

-- the same two as they are written
written_frames : flat_map text ((7 ∷ []) ∷ [] ∷ []) ≡ seven ++ empty
unfolding text number32
written_frames = refl

-- ---- answers

-- it counts frames, and tells the number and the bytes of each; of one that is too long 255
abbrev counts : Relation ℕ
counts s None text t = (text ≡ 255 ∷ []) × (t ≡ s + 1)
counts s (Some bytes) text t = (text ≡ s ∷ bytes) × (t ≡ s + 1)

input : List ℕ
input = seven ++ (empty ++ too_long)

all_answered : AnswersAll counts 3 (frames_of input) (3 ∷ 7 ∷ 4 ∷ 255 ∷ []) 6
unfolding frames_behind said_size frame_at number_at bytes_at input
all_answered = record {
  steps = record { frame = Some (7 ∷ []); text = 3 ∷ 7 ∷ []; after = 4 } ∷ record { frame = Some []; text = 4 ∷ []; after = 5 } ∷ record { frame = None; text = 255 ∷ []; after = 6 } ∷ [];
  chain = ((refl, refl), ((refl, refl), ((refl, refl), refl)));
  all = refl;
  whole = refl;
}

-- two are answered, and the writing fails within the second text or behind it
front_answered : AnswersFront counts 3 (frames_of input) (3 ∷ 7 ∷ [])
unfolding frames_behind said_size frame_at number_at bytes_at input
front_answered = record {
  steps = record { frame = Some (7 ∷ []); text = 3 ∷ 7 ∷ []; after = 4 } ∷ record { frame = Some []; text = 4 ∷ []; after = 5 } ∷ [];
  last = 5;
  chain = ((refl, refl), ((refl, refl), refl));
  front = (None ∷ [], refl);
  prefix = (4 ∷ [], refl);
}

-- the second can't be answered
one_unanswered : BreaksOff counts 3 (frames_of input) (3 ∷ 7 ∷ [])
unfolding frames_behind said_size frame_at number_at bytes_at input
one_unanswered = record {
  steps = record { frame = Some (7 ∷ []); text = 3 ∷ 7 ∷ []; after = 4 } ∷ [];
  last = 4;
  chain = ((refl, refl), refl);
  unanswered = Some [];
  later = None ∷ [];
  front = refl;
  whole = refl;
}
