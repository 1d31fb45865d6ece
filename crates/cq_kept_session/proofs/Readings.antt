-- What was read of what is kept, and run.
use Rattle.std.proofs.Common.{◌≡◌, arith, ℕ, List, [], ◌++◌, Option, None, Some, Result, Ok, Err, refl, sym, ◌∙◌, ap, subst}
use Rattle.std.specs.Prelude.{Bool, true, false, nat_eq, IfOk, MatchOption}
use Rattle.std.specs.Option.{option_map}
use Rattle.std.proofs.lemmas.Bool.{eqb-true}
use Rattle.std.proofs.lemmas.Bool.Decides.{nat_tests}
use Rattle.cq_store.specs.Stands.{StoreKept}
use Rattle.cq_script.specs.Resumed.{HasRun}
use Rattle.cq_script.specs.declared.resumed.ResumedSession.{ResumedSession}
use Rattle.cq_kept_session.specs.Bases.{AreLines, Means, Stage, Start, fresh, is_of, lined, read, resumed, starts}
use Rattle.cq_kept_session.specs.declared.base.Header.{Header}
use Rattle.cq_kept_session.specs.declared.base.Reading.{Reading}
use Rattle.cq_kept_session.specs.declared.base.Reading.TheVariants as readings
use Rattle.cq_kept_session.specs.within.Readers.{IsRead, IsRun, is_base, is_fresh}
use Rattle.cq_kept_session.proofs.Stages.{lines_back, read_lines}

pub run_more : (size : ℕ) (start : Start) (lines more : List ℕ) (session : ResumedSession) → starts size start ≡ true → ((bytes : List ℕ) → AreLines size start lines bytes → HasRun size (bytes ++ more) session)
    → IsRun size (lined start (lines ++ more)) session
run_more size start lines more session fits ran = record {
  start = start;
  lines = lines ++ more;
  is = refl;
  fits = fits;
  run = λ all is. let back = lines_back size start lines more all is in subst (λ (bytes : List ℕ). HasRun size bytes session) (sym back.2) (ran back.0 back.1);
}

pub run_behind : (size : ℕ) (header : Header) (kept : StoreKept) (stage : Stage) (session : ResumedSession) → nat_eq size 1 ≡ true → stage ≡ lined (resumed header kept) []
    → ((bytes : List ℕ) → AreLines size (resumed header kept) [] bytes → HasRun size bytes session) → IsRun size stage session
run_behind size header kept stage session one is ran = record { start = resumed header kept; lines = []; is = is; fits = one; run = ran }

-- lines were run behind a stage that had been run
pub read_on : (size : ℕ) (stage before : Stage) (behind : List ℕ) (next : Reading) (old new : ResumedSession) (r : IsRun size before old) → stage ≡ read before behind
    → IsRead size (lined r.start (r.lines ++ behind)) next new → IsRead size stage next new
read_on size stage before behind next old new r is got =
    subst (λ s. IsRead size s next new) (sym (is ∙ ap (λ s. read s behind) r.is ∙ read_lines r.start r.lines behind)) got

-- where neither nothing nor a part of a base was read, all that was read was run
pub all_run : (size : ℕ) (stage : Stage) (reading : Reading) (session : ResumedSession) → is_base reading ≡ false → is_fresh reading ≡ false → IsRead size stage reading session
    → (is_of size stage ≡ true) × ((bytes : List ℕ) → Means size stage bytes → HasRun size bytes session)
all_run size stage readings.Fresh session no_base some is = absurd cc
all_run size stage (readings.Base reader) session no_base some is = absurd cc
all_run size stage readings.Lines session no_base some is = (
  ap (is_of size) is.is ∙ is.fits,
  λ bytes means. is.run bytes (subst (λ s. Means size s bytes) is.is means),
)

pub none_read : (size : ℕ) (stage : Stage) (reading : Reading) (session : ResumedSession) → is_fresh reading ≡ true → IsRead size stage reading session → (stage ≡ fresh) × HasRun size [] session
none_read size stage readings.Fresh session new is = is
none_read size stage (readings.Base reader) session new is = absurd cc
none_read size stage readings.Lines session new is = absurd cc

-- ---- what calls answered

pub if_ok : {T E : Type 0} {P Q : T → Type 0} (r : Result T E) → IfOk r P → ((x : T) → P x → Q x) → IfOk r Q
if_ok (Ok x) p step = step x p
if_ok (Err e) p step = tt

pub none_fed : {B : Type 0} (P : Type 0) (Q : List ℕ → Type 0) (view : B → List ℕ) (o : Option B) → o ≡ None → MatchOption (option_map view o) P Q → P
none_fed P Q view None is m = m
none_fed P Q view (Some b) is m = absurd cc

pub some_fed : {B : Type 0} (P : Type 0) (Q : List ℕ → Type 0) (view : B → List ℕ) (o : Option B) (b : B) → o ≡ Some b → MatchOption (option_map view o) P Q → Q (view b)
some_fed P Q view o b is m = subst (λ x. MatchOption (option_map view x) P Q) is m

pub other_byte : (b n : ℕ) → (b ≡ n → ⊥) → nat_eq b n ≡ false
other_byte b n other = go (nat_eq b n) refl
  where
    go : (same : Bool) → nat_eq b n ≡ same → nat_eq b n ≡ false
    go true is = absurd (other (eqb-true b n is))
    go false is = is

-- ---- numbers of servers

same_test : (n m : ℕ) → n ≡ m → nat_eq n m ≡ true
same_test n m same = grind (arith, nat_tests, same)

-- a size that was asked for is that one
pub is_one : (size asked : ℕ) → asked ≡ size → asked ≡ 1 → nat_eq size 1 ≡ true
is_one size asked is one = same_test size 1 (sym is ∙ one)

pub is_same : (size servers asked : ℕ) → asked ≡ size → servers ≡ asked → nat_eq size servers ≡ true
is_same size servers asked is same = same_test size servers (sym is ∙ sym same)
