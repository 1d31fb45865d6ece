-- What a journal begins with, and how it is as it was opened.
use Rattle.std.proofs.Common.{◌≡◌, ℕ, suc, ◌+◌, ◌-◌, ◌≤◌, List, [], ◌∷◌, ◌++◌, length, Option, None, Some, Result, Ok, Err, refl, sym, ◌∙◌, ap, subst, append-nil, arith}
use Rattle.std.specs.Prelude.{◌==◌, ◌&&◌, Bool, true, false, nat_eq, nat_le, ⊤, if◌then◌else◌}
use Rattle.std.proofs.lemmas.Bool.Decides.{nat_tests}
use Rattle.cq_records.specs.Frames.{is_text, joined}
use Rattle.cq_records.specs.declared.frame.TheConstants.{TEXT_LIMIT}
use Rattle.cq_records.proofs.Frames.{if_false, if_true}
use Rattle.cq_wire.specs.Reading.{◌>>=◌}
use Rattle.cq_wire.specs.declared.fault.WireFault.{WireFault}
use Rattle.cq_store.specs.Stands.{StoreKept}
use Rattle.cq_store_wire.specs.declared.build.State.{State}
use Rattle.cq_store_wire.specs.Building.{fed, whole_of}
use Rattle.cq_kept_base.specs.Stuffed.{unstuffed}
use Rattle.cq_kept_session.specs.declared.base.Header.{Header}
use Rattle.cq_kept_session.specs.Bases.{Stage, bad, based, ended, fresh, header_of, is_of, lined, marked, or_bad, read, several, sized, step, whole, with_payload, with_store}
use Rattle.cq_kept_session.specs.Texts.{is_ended, mended, opened, size_records, size_text}

-- ---- a byte that was read is never forgotten

abbrev has_come : Stage → Bool
has_come fresh = false
has_come marked = true
has_come (sized servers) = true
has_come (based piece header state) = true
has_come (lined start lines) = true
has_come bad = true

abbrev AllCome : Result Stage WireFault → Type 0
AllCome (Ok stage) = has_come stage ≡ true
AllCome (Err fault) = ⊤

or_bad_come : (r : Result Stage WireFault) → AllCome r → has_come (or_bad r) ≡ true
or_bad_come (Ok stage) come = come
or_bad_come (Err fault) come = refl

bind_come : {A : Type 0} (r : Result A WireFault) (next : A → Result Stage WireFault) → ((a : A) → AllCome (next a)) → AllCome (r >>= next)
bind_come (Ok a) next come = come a
bind_come (Err fault) next come = tt

payload_come : (payload : List ℕ) (header : Option Header) (state : State) → AllCome (with_payload payload header state)
payload_come payload None state = bind_come (header_of payload) (λ header. Ok (based [] (Some header) state)) (λ header. refl)
payload_come payload (Some header) state = bind_come (fed payload state) (λ next. Ok (based [] (Some header) next)) (λ next. refl)

store_come : (header : Header) (store : Option StoreKept) → has_come (with_store header store) ≡ true
store_come header None = refl
store_come header (Some kept) = refl

whole_come : (header : Option Header) (state : State) → has_come (whole header state) ≡ true
whole_come None state = refl
whole_come (Some header) state = store_come header (whole_of state)

ended_come : (piece : List ℕ) (header : Option Header) (state : State) → has_come (ended piece header state) ≡ true
ended_come [] header state = whole_come header state
ended_come (b ∷ piece) header state =
    or_bad_come _ (bind_come (unstuffed false (b ∷ piece)) (λ payload. with_payload payload header state) (λ payload. payload_come payload header state))

either_come : (which : Bool) (a b : Stage) → has_come a ≡ true → has_come b ≡ true → has_come (if which then a else b) ≡ true
either_come true a b first second = first
either_come false a b first second = second

step_come : (stage : Stage) (b : ℕ) → has_come (step stage b) ≡ true
step_come fresh b = either_come (b == 2) _ _ refl (either_come (b == 3) _ _ refl refl)
step_come marked b = refl
step_come (sized servers) b = either_come (b == 10) _ _ refl refl
step_come (based piece header state) b = either_come (b == 10) _ _ (ended_come piece header state) refl
step_come (lined start lines) b = refl
step_come bad b = refl

read_come : (stage : Stage) (bytes : List ℕ) → has_come stage ≡ true → has_come (read stage bytes) ≡ true
read_come stage [] come = come
read_come stage (b ∷ bytes) come = read_come (step stage b) bytes (step_come stage b)

pub none_came : (bytes : List ℕ) → read fresh bytes ≡ fresh → bytes ≡ []
none_came [] is = refl
none_came (b ∷ bytes) is = let both : true ≡ false = sym (read_come (step fresh b) bytes (step_come fresh b)) ∙ ap has_come is in cc

-- ---- records behind an opening

pub opened_fresh : (size : ℕ) (rs : List (List ℕ)) → joined rs ≡ [] → opened size rs ≡ rs ++ size_records size
opened_fresh size rs none = if_true (length (joined rs) == 0) (rs ++ size_records size) (mended rs) (ap (λ (l : List ℕ). length l == 0) none)

some_long : (n : ℕ) → nat_eq (suc n) 0 ≡ false
some_long n = grind (arith, nat_tests)

-- where what is there is of a session on so many servers, the end of the last line alone may be missing
pub opened_other : (size : ℕ) (rs : List (List ℕ)) → is_of size (read fresh (joined rs)) ≡ true → opened size rs ≡ mended rs
opened_other size rs fits = go (joined rs) refl
  where
    go : (bytes : List ℕ) → joined rs ≡ bytes → opened size rs ≡ mended rs
    go [] is =
        let one : nat_eq size 1 ≡ true = subst (λ (l : List ℕ). is_of size (read fresh l) ≡ true) is fits in
        opened_fresh size rs is ∙ ap (λ (more : List (List ℕ)). rs ++ more) (if_true (nat_eq size 1) [] (size_text size ∷ []) one) ∙ append-nil rs
        ∙ sym (if_true (is_ended (joined rs)) rs (rs ++ (10 ∷ []) ∷ []) (ap is_ended is))
    go (b ∷ bytes) is = if_false (length (joined rs) == 0) (rs ++ size_records size) (mended rs) (ap (λ (l : List ℕ). length l == 0) is ∙ some_long (length bytes))

pub not_ended : (rs : List (List ℕ)) → is_ended (joined rs) ≡ false → mended rs ≡ rs ++ (10 ∷ []) ∷ []
not_ended rs not = if_false (is_ended (joined rs)) rs (rs ++ (10 ∷ []) ∷ []) not

pub are_ended : (rs : List (List ℕ)) → is_ended (joined rs) ≡ true → mended rs ≡ rs
are_ended rs ended = if_true (is_ended (joined rs)) rs (rs ++ (10 ∷ []) ∷ []) ended

-- it has one record at most
pub size_records_short : (size : ℕ) → length (size_records size) ≤ 1
size_records_short size = go (nat_eq size 1) refl
  where
    go : (one : Bool) → nat_eq size 1 ≡ one → length (size_records size) ≤ 1
    go true is = rw (if_true (nat_eq size 1) [] (size_text size ∷ []) is) (omega arith)
    go false is = rw (if_false (nat_eq size 1) [] (size_text size ∷ []) is) (omega arith)

-- ---- the record that says of how many servers a session is

pub size_is_read : (size : ℕ) → read fresh (size_text size) ≡ lined (several size) []
size_is_read size = let same : (48 + size) - 48 ≡ size = omega arith in ap (λ (n : ℕ). lined (several n) []) same

above_marks : (size : ℕ) → nat_le 2 (48 + size) ≡ true
above_marks size = grind (arith, nat_tests)

pub size_is_text : (size : ℕ) → is_text (size_text size) ≡ true
size_is_text size = ap (λ (digit : Bool). nat_le 3 TEXT_LIMIT && (nat_le 2 3 && (digit && (nat_le 2 10 && true)))) (above_marks size)

pub sized_alone : (size : ℕ) → nat_eq size 1 ≡ true → size_records size ≡ []
sized_alone size one = if_true (nat_eq size 1) [] (size_text size ∷ []) one

pub sized_several : (size : ℕ) → nat_eq size 1 ≡ false → size_records size ≡ size_text size ∷ []
sized_several size more = if_false (nat_eq size 1) [] (size_text size ∷ []) more
