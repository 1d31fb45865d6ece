-- A session that was run on a device, to the end of its reader.
use Rattle.std.specs.Prelude.{◌⊎◌, ℕ, List, [], ◌++◌, Option, IsTrue}
use Rattle.std.specs.Io.KnownBytes.{Appends, Consumes, IsAtEnd}
use Rattle.cq_disk.specs.declared.device.Device.{Ghosts}
use Rattle.cq_kept_session.specs.declared.kept.KeptSession.{KeptSession}
use Rattle.cq_kept_session.specs.Served.{IsEnd, Serves}
use Rattle.cq_kept_session.specs.Kept.{StandsFor, session_device, session_lines, session_size}
use Rattle.cq_kept_session.specs.Texts.{as_kept}
use Rattle.cq_script.specs.Resumed.{IsBaseOf}
use Rattle.cq_store.specs.Stands.{StoreKept}
use Rattle.cq_kept_run.specs.within.Told.{TellsStore}

-- It told that it is ready. Then it served the lines of the reader, all of them, with the end of the last one.
pub record Serving {D : Type 0} {g : Ghosts D} (first last : KeptSession D g) (unread left before after : Option (List ℕ)) : Type 0 where
  pub input : List ℕ
  pub end : List ℕ
  pub read : Consumes unread left input × IsAtEnd left × IsEnd end
  pub ready : List ℕ
  pub told : Option (List ℕ)
  pub tells : Appends before told ready
  pub serves : Serves first last told after (as_kept (input ++ end))

module _ {D : Type 0} {g : Ghosts D} where
  -- By this store the session can be begun again, whatever lines the kept ones stand for.
  abbrev pub IsStoreOf : KeptSession D g → StoreKept → Type 0
  IsStoreOf k store = IsTrue (g.is_honest (session_device k)) → (bytes : List ℕ) → StandsFor k bytes → IsBaseOf (session_size k) store (session_lines k) bytes

  -- Such a store was told; or nothing was, of a session that isn't at rest.
  abbrev pub TellsRest : KeptSession D g → Option (List ℕ) → Option (List ℕ) → Type 0
  TellsRest k before after = ((store : StoreKept) × TellsStore store before after × IsStoreOf k store) ⊎ Appends before after []
