-- What has been read of a journal's contents.
use Rattle.std.proofs.Common.{◌≡◌, ℕ, List, ◌++◌, Option, None, Some, Result, Ok, Err, sym, ◌∙◌, ap, subst}
use Rattle.std.specs.Prelude.{IfOk, MatchOption}
use Rattle.cq_base.specs.declared.ask.Entry.{Entry}
use Rattle.cq_records.specs.Frames.{joined}
use Rattle.cq_records.proofs.Frames.{joined_append}
use Rattle.cq_store.specs.Stands as stores
use Rattle.cq_kept_entries.specs.Pieces.{AreOf, At, Stage, fresh, read, start}
use Rattle.cq_kept_entries.specs.within.Readers.{IsListed}
use Rattle.cq_kept_entries.proofs.Readings.{read_both}
use Rattle.cq_kept_entries.proofs.Restored.{stands_listed}

-- records more, whose texts these bytes are
pub read_more : (before more : List (List ℕ)) (text : List ℕ) → text ≡ joined more → read (read start (joined before)) text ≡ read start (joined (before ++ more))
read_more before more text is =
    ap (λ (l : List ℕ). read (read start (joined before)) l) is ∙ sym (read_both start (joined before) (joined more))
    ∙ ap (λ (l : List ℕ). read start l) (sym (joined_append before more))

-- the store that was made stands for the entries of all records
pub store_of_all : (all : List (List ℕ)) (store : Option stores.StoreKept) → MatchOption store ((read start (joined all)).stage ≡ fresh) (λ s. IsListed (read start (joined all)).stage s)
    → MatchOption store ((read start (joined all)).stage ≡ fresh) (λ s. (entries : List Entry) → AreOf (joined all) entries → stores.StandsFor s entries)
store_of_all all None is = is
store_of_all all (Some s) listed = λ entries are. stands_listed (joined all) s entries listed are

-- what an answer says where something holds
pub if_ok_where : {T E : Type 0} (Q : T → Type 0) (P : Type 0) (r : Result T E) → (P → IfOk r Q) → IfOk r (λ x. P → Q x)
if_ok_where Q P (Ok x) holds = holds
if_ok_where Q P (Err e) holds = tt
