-- The lines of a journal as they are written.
use Rattle.std.specs.Prelude.{ℕ, List, [], Option, None, Some}
use Rattle.std.specs.Io.KnownBytes.{Appends}
use Rattle.cq_store.specs.Stands.{StoreKept}
use Rattle.cq_kept_session.specs.declared.base.Header.{Header}
use Rattle.cq_kept_session.specs.declared.contents.Contents.{Contents}
use Rattle.cq_kept_run.specs.within.Contents.{base_line}
use Rattle.cq_kept_run.specs.within.Told.{TellsStore}

-- the store of a base, and then its header
pub record DumpsBase (header : Header) (store : StoreKept) (before after : Option (List ℕ)) : Type 0 where
  pub told : Option (List ℕ)
  pub tells : TellsStore store before told
  pub behind : Appends told after (base_line header)

-- if there is a base
abbrev pub DumpsBaseOf : Option (Header × StoreKept) → Option (List ℕ) → Option (List ℕ) → Type 0
DumpsBaseOf None before after = Appends before after []
DumpsBaseOf (Some base) before after = DumpsBase base.0 base.1 before after

-- and then the lines
pub record Dumps (told : Contents) (before after : Option (List ℕ)) : Type 0 where
  pub based : Option (List ℕ)
  pub base : DumpsBaseOf told.base before based
  pub lines : Appends based after told.lines.items
