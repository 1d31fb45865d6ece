-- What has been read of a journal's contents.
use Rattle.std.proofs.Common.{◌≡◌, ℕ, ◌+◌, List, [], ◌++◌, Option, None, Some, Result, Ok, Err, refl, sym, ◌∙◌, ap, subst, length-append}
use Rattle.std.specs.Prelude.{◌==◌, filter, length, IfOk}
use Rattle.std.proofs.lemmas.List.Elements.{filter-append}
use Rattle.cq_store.specs.Stands.{StoreKept}
use Rattle.cq_records.specs.Frames.{joined}
use Rattle.cq_records.proofs.Frames.{joined_append}
use Rattle.cq_kept_session.specs.Bases.{Stage, fresh, read, several}
use Rattle.cq_kept_session.specs.Contents.{IsOf, base_of, lines_in}
use Rattle.cq_kept_session.specs.declared.base.BaseReader.{BaseReader}
use Rattle.cq_kept_session.specs.declared.base.Header.{Header}
use Rattle.cq_kept_session.specs.declared.contents.Progress.{Progress}
use Rattle.cq_kept_session.specs.declared.contents.Progress.TheVariants.{Behind, Fresh, InBase, OfSeveral}
use Rattle.cq_kept_session.specs.within.Contents.{HasLines, progress_stage, start_of}
use Rattle.cq_kept_session.specs.within.Readers.{reader_stage}
use Rattle.cq_kept_session.proofs.Stages.{read_both, read_lines}

-- what reading on makes of it
abbrev pub ReadsOn : Progress → List ℕ → Progress → List ℕ → Type 0
ReadsOn self text next more = (lines : List ℕ) → HasLines self lines → HasLines next (lines ++ more) × (read (progress_stage self lines) text ≡ progress_stage next (lines ++ more))

-- where nothing but this is behind
behind_none : (stage : Stage) (next : Progress) (lines more : List ℕ) → lines ≡ [] → HasLines next more → stage ≡ progress_stage next more → HasLines next (lines ++ more) × (stage ≡ progress_stage next (lines ++ more))
behind_none stage next lines more none has is =
    subst (λ (l : List ℕ). HasLines next (l ++ more) × (stage ≡ progress_stage next (l ++ more))) (sym none) (has, is)

pub from_fresh : (self next : Progress) (text more : List ℕ) → self ≡ Fresh → HasLines next more × (read fresh text ≡ progress_stage next more) → ReadsOn self text next more
from_fresh self next text more is got =
    subst (λ p. ReadsOn p text next more) (sym is) (λ lines none. behind_none (read fresh text) next lines more none got.0 got.1)

pub from_base : (self next : Progress) (reader : BaseReader) (text more : List ℕ) → self ≡ InBase reader → HasLines next more × (read (reader_stage reader) text ≡ progress_stage next more) → ReadsOn self text next more
from_base self next reader text more is got =
    subst (λ p. ReadsOn p text next more) (sym is) (λ lines none. behind_none (read (reader_stage reader) text) next lines more none got.0 got.1)

pub from_lines : (self : Progress) (base : Option (Header × StoreKept)) (text : List ℕ) → self ≡ Behind base → ReadsOn self text (Behind base) text
from_lines self base text is =
    subst (λ p. ReadsOn p text (Behind base) text) (sym is) (λ lines any. (any, read_lines (start_of base) lines text))

pub from_several : (self : Progress) (servers : ℕ) (text : List ℕ) → self ≡ OfSeveral servers → ReadsOn self text (OfSeveral servers) text
from_several self servers text is =
    subst (λ p. ReadsOn p text (OfSeveral servers) text) (sym is) (λ lines any. (any, read_lines (several servers) lines text))

-- what was read is of the base, if there is one
pub is_of_fresh : (self : Progress) (lines : List ℕ) → self ≡ Fresh → HasLines self lines → IsOf (progress_stage self lines) None lines
is_of_fresh self lines is has =
    subst (λ p. HasLines p lines → IsOf (progress_stage p lines) None lines) (sym is) (λ none. (refl, none)) has

pub is_of_behind : (self : Progress) (base : Option (Header × StoreKept)) (lines : List ℕ) → self ≡ Behind base → IsOf (progress_stage self lines) base lines
is_of_behind self base lines is = subst (λ p. IsOf (progress_stage p lines) base lines) (sym is) (same base, refl)
  where
    same : (base : Option (Header × StoreKept)) → base_of (start_of base) ≡ base
    same None = refl
    same (Some base) = refl

-- ---- records more

pub lines_more : (lines more : List ℕ) → lines_in (lines ++ more) ≡ lines_in lines + lines_in more
lines_more lines more = ap (λ (l : List ℕ). length l) (filter-append (λ b. b == 10) lines more) ∙ length-append (filter (λ b. b == 10) lines) (filter (λ b. b == 10) more)

pub joined_more : (before more : List (List ℕ)) → joined (before ++ more) ≡ joined before ++ joined more
joined_more before more = joined_append before more

pub read_more : (before more : List (List ℕ)) (text : List ℕ) (stage next : Stage) → read fresh (joined before) ≡ stage → text ≡ joined more → read stage text ≡ next → read fresh (joined (before ++ more)) ≡ next
read_more before more text stage next at is on =
    ap (λ (l : List ℕ). read fresh l) (joined_append before more) ∙ read_both fresh (joined before) (joined more)
    ∙ (λ i. read (at i) (sym is i)) ∙ on

-- what an answer says where something holds
pub if_ok_where : {T E : Type 0} (Q : T → Type 0) (P : Type 0) (r : Result T E) → (P → IfOk r Q) → IfOk r (λ x. P → Q x)
if_ok_where Q P (Ok x) holds = holds
if_ok_where Q P (Err e) holds = tt
