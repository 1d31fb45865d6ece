-- What was read, piece by piece.
use Rattle.std.proofs.Common.{◌≡◌, ℕ, List, [], ◌∷◌, ◌++◌, Ok, false, sym, ◌∙◌, ap, subst}
use Rattle.cq_base.specs.declared.ask.Entry.{Entry}
use Rattle.cq_kept_base.specs.Stuffed.{unstuffed}
use Rattle.cq_store.specs.Stands as stores
use Rattle.cq_wire.specs.Reading.{entry_at, whole_at}
use Rattle.cq_kept_entries.specs.declared.reader.EntriesReader.{EntriesReader}
use Rattle.cq_kept_entries.specs.Pieces.{At, Stage, at, ended}
use Rattle.cq_kept_entries.specs.within.Readers.{IsListed, IsMade, IsReader}
use Rattle.cq_kept_entries.proofs.Readings.{entries_back, entry_ended}

-- the piece that has begun goes on
pub grown : (a : At) (r s : EntriesReader) (front : List ℕ) → s.piece.items ≡ r.piece.items ++ front → s.progress ≡ r.progress → IsReader a r → IsReader (at (a.piece ++ front) a.stage) s
grown a r s front piece progress is = record { piece = ap (λ (l : List ℕ). l ++ front) is.piece ∙ sym piece; made = subst (λ p. IsMade a.stage p) (sym progress) is.made }

-- one entry more is listed
pub listed_on : (stage : Stage) (piece bytes : List ℕ) (entry : Entry) (old next : stores.StoreKept) → unstuffed false piece ≡ Ok bytes → whole_at entry_at bytes ≡ Ok entry
    → ((entries : List Entry) → stores.StandsFor old entries → stores.StandsFor next (entries ++ entry ∷ [])) → IsListed stage old → IsListed (ended piece stage) next
listed_on stage piece bytes entry old next is got step l = record {
  base = l.base;
  entries = l.entries ++ entry ∷ [];
  is = ap (λ s. ended piece s) l.is ∙ entry_ended piece bytes entry l.base l.entries is got;
  stands = λ all are.
      let back = entries_back l.base l.entries (entry ∷ []) all are in
      subst (λ (es : List Entry). stores.StandsFor next es) (sym back.1.1) (step back.0 (l.stands back.0 back.1.0));
}
