-- What is written of lines, of which some are kept and some refused.
use Rattle.std.specs.Prelude.{◌≡◌, ◌⊎◌, ℕ, List, [], ◌∷◌, ◌++◌, Option, IsTrue, codes}
use Rattle.std.specs.Io.KnownBytes.{Appends}
use Rattle.cq_base.specs.Relations.{IsPrefix}
use Rattle.cq_disk.specs.declared.device.Device.{Ghosts}
use Rattle.cq_journal.specs.Journal.{IsJournal}
use Rattle.cq_records.specs.Frames.{joined}
use Rattle.cq_answers.specs.Answers.{refused_text}
use Rattle.cq_kept_session.specs.declared.kept.KeptSession.{KeptSession}
use Rattle.cq_kept_session.specs.Kept.{IsKept, StandsFor, session_device, session_journal, session_size, told_text}
use Rattle.cq_kept_session.specs.Takes.{Taken, chunks, outputs}

-- lines that were kept, or a line that was refused, and the number that its refusal has
pub data Piece : Type 0 where
  took : Taken → Piece
  refused : ℕ → List ℕ → Piece

-- all lines, in order
abbrev pub texts : List Piece → List ℕ
texts [] = []
texts (took t ∷ ps) = t.chunk ++ texts ps
texts (refused n line ∷ ps) = line ++ texts ps

-- the line that tells that there is no room for a line
abbrev pub no_room_text : ℕ → List ℕ
no_room_text n = refused_text n 70 (codes "NoRoom")

-- what is written of them, each in its place
abbrev pub written : List Piece → List ℕ
written [] = []
written (took t ∷ ps) = t.output ++ written ps
written (refused n line ∷ ps) = no_room_text n ++ written ps

-- those that were kept
abbrev pub taken : List Piece → List Taken
taken [] = []
taken (took t ∷ ps) = t ∷ taken ps
taken (refused n line ∷ ps) = taken ps

-- some of the line that tells that there is no room for a line
abbrev pub Refuses : Option (List ℕ) → Option (List ℕ) → Type 0
Refuses before after = (n : ℕ) × (text : List ℕ) × Appends before after text × IsPrefix text (no_room_text n)

module _ {D : Type 0} {g : Ghosts D} where
  -- Where the records stood for these bytes: these lines were kept behind them and answered, or refused. Those that were refused change
  -- nothing, and nothing of them is kept.
  pub record ServesBehind (bytes : List ℕ) (old new : KeptSession D g) (before after : Option (List ℕ)) (lines : List ℕ) : Type 0 where
    pub pieces : List Piece
    pub are : texts pieces ≡ lines
    pub appends : Appends before after (written pieces)
    pub stands : StandsFor new (bytes ++ joined (chunks (taken pieces)))
    pub text : told_text new (bytes ++ joined (chunks (taken pieces))) ≡ told_text old bytes ++ outputs (taken pieces)

  -- So it is for all bytes for which the records stood.
  pub record Serves (old new : KeptSession D g) (before after : Option (List ℕ)) (lines : List ℕ) : Type 0 where
    pub size : session_size new ≡ session_size old
    pub honest : IsTrue (g.is_honest (session_device new)) → IsTrue (g.is_honest (session_device old))
    pub behind : IsTrue (g.is_honest (session_device new)) → (bytes : List ℕ) → StandsFor old bytes → ServesBehind bytes old new before after lines

  -- Lines were kept, and some of what is told of them is written, if not all.
  pub record KeptAndTold (old new : KeptSession D g) (before after : Option (List ℕ)) (chunk : List ℕ) : Type 0 where
    pub journal : IsJournal (session_journal new)
    pub stands : IsTrue (g.is_honest (session_device new)) → (bytes : List ℕ) → StandsFor old bytes → StandsFor new (bytes ++ chunk)
    pub told : IsTrue (g.is_honest (session_device new)) → (bytes : List ℕ) → StandsFor old bytes
        → (output : List ℕ) × Appends before after output × IsPrefix (told_text old bytes ++ output) (told_text new (bytes ++ chunk))

  -- What was written as a fault came at these lines: nothing, or some of what refuses one of them, or of what is told of the first ones,
  -- which are kept.
  abbrev pub TellsAtFault : KeptSession D g → KeptSession D g → Option (List ℕ) → Option (List ℕ) → List ℕ → Type 0
  TellsAtFault old new before after lines =
      Appends before after [] ⊎ (Refuses before after ⊎ ((chunk : List ℕ) × IsPrefix chunk lines × KeptAndTold old new before after chunk))

  -- A fault came as these lines were taken. The first of them were served, up to some session whose journal keeps all of it, and of the
  -- others no more is told than what `TellsAtFault` says.
  pub record StopsServing (old new : KeptSession D g) (before after : Option (List ℕ)) (lines : List ℕ) : Type 0 where
    pub mid : KeptSession D g
    pub kept : IsKept mid
    pub middle : Option (List ℕ)
    pub done : List ℕ
    pub rest : List ℕ
    pub are : lines ≡ done ++ rest
    pub served : Serves old mid before middle done
    pub honest : IsTrue (g.is_honest (session_device new)) → IsTrue (g.is_honest (session_device mid))
    pub tells : TellsAtFault mid new middle after rest

-- nothing, or a line feed
abbrev pub IsEnd : List ℕ → Type 0
IsEnd end = (end ≡ []) ⊎ (end ≡ 10 ∷ [])
