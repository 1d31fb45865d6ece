-- Bytes that are refused, whatever comes behind them.
use Rattle.std.proofs.Common.{◌≡◌, ◌⊎◌, inl, inr, ⊎_elim, Bool, true, false, ℕ, ◌+◌, ◌<◌, ◌≤◌, List, [], ◌∷◌, ◌++◌, length, Option, None, Some, Result, Ok, Err, refl, sym, ◌∙◌, ap, subst, append_assoc, append-nil, arith, length-append}
use Rattle.std.specs.Prelude.{IfErr, cond, fold, nat_eq}
use Rattle.cq_base.specs.declared.ask.Entry.{Entry}
use Rattle.cq_base.specs.declared.limits.TheConstants.{HISTORY_LIMIT}
use Rattle.cq_base.specs.queue.History.{last_moment}
use Rattle.cq_base.specs.Relations.{Among}
use Rattle.cq_base.proofs.Pairs.{pairwise-apart}
use Rattle.cq_kept_base.specs.Stuffed.{unstuffed}
use Rattle.cq_store.specs.Laws.{Stamped}
use Rattle.cq_store.specs.Stands as stores
use Rattle.cq_store_wire.specs.declared.build.State.{State}
use Rattle.cq_store_wire.specs.Building.{fed, or_truncated, store_of, whole_of}
use Rattle.cq_wire.specs.declared.fault.ReadFault.{ReadFault}
use Rattle.cq_wire.specs.declared.fault.ReadFault.TheVariants as faults
use Rattle.cq_wire.specs.declared.fault.WireFault.{WireFault}
use Rattle.cq_wire.specs.Reading.{◌>>=◌, Fails, entry_at, whole_at}
use Rattle.cq_kept_entries.specs.Pieces.{AreEntries, AreTaken, At, Means, MeansAt, Stage, at, bad, ended, listing, or_bad, read, step, store_ended, storing, with_store}
use Rattle.cq_kept_entries.specs.within.Readers.{IfBad, IsListed, IsRefused}
use Rattle.cq_kept_entries.proofs.Readings.{entries_back, next_entry, read_both}

-- ---- faults

pub if_bad : (f : ReadFault) {P Q : Type 0} → IfBad f P → (P → Q) → IfBad f Q
if_bad faults.NoMemory p next = tt
if_bad (faults.Bad g) p next = next p

pub if_fails : {Y : Type 0} (f : ReadFault) (got : Result Y WireFault) {P : Type 0} → Fails f got → ((g : WireFault) → got ≡ Err g → P) → IfBad f P
if_fails faults.NoMemory got is next = tt
if_fails (faults.Bad g) got is next = next g is

pub on_bad : {T : Type 0} (r : Result T ReadFault) {P Q : Type 0} → IfErr r (λ f. IfBad f P) → (P → Q) → IfErr r (λ f. IfBad f Q)
on_bad (Ok x) p next = tt
on_bad (Err f) p next = if_bad f p next

pub of_no_length : (l : List ℕ) → length l ≡ 0 → l ≡ []
of_no_length [] is = refl
of_no_length (b ∷ l) is = absurd cc

-- ---- no pieces of this form

cond_both : {A : Type 0} (P : A → Type 0) (c : Bool) (x y : A) → P x → P y → P (cond c x y)
cond_both P true x y p q = p
cond_both P false x y p q = q

step_bad : (a : At) (b : ℕ) → a.stage ≡ bad → (step a b).stage ≡ bad
step_bad a b is = cond_both (λ (c : At). c.stage ≡ bad) (nat_eq b 10) (at [] (ended a.piece a.stage)) (at (a.piece ++ b ∷ []) a.stage) (ap (λ (s : Stage). ended a.piece s) is) is

stays_bad : (rest : List ℕ) (a : At) → a.stage ≡ bad → (read a rest).stage ≡ bad
stays_bad [] a is = is
stays_bad (b ∷ rest) a is = stays_bad rest (step a b) (step_bad a b is)

pub refused_bad : (a : At) → a.stage ≡ bad → IsRefused a
refused_bad a is = λ rest all means taken. subst (λ (s : Stage). Means s all) (stays_bad rest a is) means.1

pub refused_more : (a : At) (bytes : List ℕ) → IsRefused a → IsRefused (read a bytes)
refused_more a bytes never = λ rest all means taken. never (bytes ++ rest) all (subst (λ (b : At). MeansAt b all) (sym (read_both a bytes rest)) means) taken

-- all of them, with nothing behind them
pub refused_whole : (a : At) (all : List Entry) → IsRefused a → MeansAt a all → AreTaken all → ⊥
refused_whole a all never means taken = never [] all means taken

-- ---- entries to which more come

abbrev Goes : Option stores.StoreKept → List Entry → Stage → Type 0
Goes base entries stage = (stage ≡ bad) ⊎ ((more : List Entry) × (stage ≡ listing base (entries ++ more)))

next_goes : (base : Option stores.StoreKept) (entries more : List Entry) (r : Result Entry WireFault) → Goes base entries (or_bad (next_entry base (entries ++ more) r))
next_goes base entries more (Ok e) = inr (more ++ e ∷ [], ap (λ (es : List Entry). listing base es) (append_assoc entries more (e ∷ [])))
next_goes base entries more (Err f) = inl refl

bytes_go : (base : Option stores.StoreKept) (entries more : List Entry) (r : Result (List ℕ) WireFault) → Goes base entries (or_bad (r >>= λ b. next_entry base (entries ++ more) (whole_at entry_at b)))
bytes_go base entries more (Ok b) = next_goes base entries more (whole_at entry_at b)
bytes_go base entries more (Err f) = inl refl

ended_goes : (base : Option stores.StoreKept) (entries : List Entry) (piece : List ℕ) (stage : Stage) → Goes base entries stage → Goes base entries (ended piece stage)
ended_goes base entries piece stage goes = ⊎_elim
    (λ is. inl (ap (λ (s : Stage). ended piece s) is))
    (λ some. subst (λ (s : Stage). Goes base entries (ended piece s)) (sym some.1) (bytes_go base entries some.0 (unstuffed false piece)))
    goes

stays_listing : (base : Option stores.StoreKept) (entries : List Entry) (rest : List ℕ) (a : At) → Goes base entries a.stage → Goes base entries (read a rest).stage
stays_listing base entries [] a goes = goes
stays_listing base entries (b ∷ rest) a goes =
    stays_listing base entries rest (step a b)
    (cond_both (λ (c : At). Goes base entries c.stage) (nat_eq b 10) (at [] (ended a.piece a.stage)) (at (a.piece ++ b ∷ []) a.stage) (ended_goes base entries a.piece a.stage goes) goes)

-- ---- an entry that no store takes

-- the last moment is none, or that of one of them
last_of_some : (z : ℕ) (before : List Entry) → (fold (λ _ (e : Entry). e.moment) z before ≡ z) ⊎ ((d : Entry) × (Among d before × (fold (λ _ (e : Entry). e.moment) z before ≡ d.moment)))
last_of_some z [] = inl refl
last_of_some z (x ∷ before) = ⊎_elim (λ same. inr (x, (inl refl, same))) (λ some. inr (some.0, (inr some.1.0, some.1.1))) (last_of_some x.moment before)

last_below : (before more : List Entry) (e : Entry) → Stamped (before ++ e ∷ more) → last_moment before ≤ e.moment
unfolding last_moment
last_below before more e stamped = ⊎_elim
    (λ none. omega (arith, none))
    (λ some. let below : some.0.moment ≤ e.moment = pairwise-apart (λ (c d : Entry). c.moment ≤ d.moment) before (e ∷ more) some.0 e stamped some.1.0 (inl refl) in omega (arith, below, some.1.1))
    (last_of_some 0 before)

no_entry : (before more : List Entry) (e : Entry) (store : stores.StoreKept) → stores.StandsFor store before → AreTaken (before ++ e ∷ more) → (HISTORY_LIMIT ≤ store.count) ⊎ (e.moment < store.last) → ⊥
no_entry before more e store stands taken why = ⊎_elim
    (λ many. omega (arith, many, stands.count, taken.few, length-append before (e ∷ more)))
    (λ early. let below = last_below before more e taken.stamped in omega (arith, early, stands.last, below))
    why

pub refused_entry : (base : Option stores.StoreKept) (entries : List Entry) (e : Entry) (store : stores.StoreKept) (a : At) → a.stage ≡ listing base (entries ++ e ∷ [])
    → ((all : List Entry) → AreEntries base entries all → stores.StandsFor store all) → (HISTORY_LIMIT ≤ store.count) ⊎ (e.moment < store.last) → IsRefused a
refused_entry base entries e store a is stands why = λ rest all means taken.
    let goes = stays_listing base (entries ++ e ∷ []) rest a (inr ([], is ∙ ap (λ (es : List Entry). listing base es) (sym (append-nil (entries ++ e ∷ []))))) in
    ⊎_elim (λ none. subst (λ (s : Stage). Means s all) none means.1)
    (λ some.
    let are : AreEntries base ((entries ++ e ∷ []) ++ some.0) all = subst (λ (s : Stage). Means s all) some.1 means.1 in
    let behind : AreEntries base (entries ++ e ∷ some.0) all = subst (λ (es : List Entry). AreEntries base es all) (append_assoc entries (e ∷ []) some.0) are in
    let back = entries_back base entries (e ∷ some.0) all behind in
    no_entry back.0 some.0 e store (stands back.0 back.1.0) (subst (λ (es : List Entry). AreTaken es) back.1.1 taken) why)
    goes

-- ---- pieces

-- of an entry
pub bytes_refused : (f : ReadFault) (piece : List ℕ) (stage : Stage) (store : stores.StoreKept) → IsListed stage store → Fails f (unstuffed false piece) → IfBad f (IsRefused (at [] (ended piece stage)))
bytes_refused f piece stage store l fails = if_fails f (unstuffed false piece) fails (λ g is.
    refused_bad (at [] (ended piece stage)) (ap (λ (s : Stage). ended piece s) l.is ∙ ap (λ (r : Result (List ℕ) WireFault). or_bad (r >>= λ b. next_entry l.base l.entries (whole_at entry_at b))) is))

pub piece_refused : (f : ReadFault) (piece bytes : List ℕ) (stage : Stage) (store : stores.StoreKept) → IsListed stage store → unstuffed false piece ≡ Ok bytes → Fails f (whole_at entry_at bytes) → IfBad f (IsRefused (at [] (ended piece stage)))
piece_refused f piece bytes stage store l got fails = if_fails f (whole_at entry_at bytes) fails (λ g is.
    refused_bad (at [] (ended piece stage)) (ap (λ (s : Stage). ended piece s) l.is
    ∙ ap (λ (r : Result (List ℕ) WireFault). or_bad (r >>= λ b. next_entry l.base l.entries (whole_at entry_at b))) got
    ∙ ap (λ (r : Result Entry WireFault). or_bad (next_entry l.base l.entries r)) is))

-- of a store
not_whole : (found : Option stores.StoreKept) (g : WireFault) → or_truncated found ≡ Err g → with_store found ≡ bad
not_whole None g is = refl
not_whole (Some kept) g is = absurd cc

pub store_refused : (f : ReadFault) (piece : List ℕ) (state : State) → piece ≡ [] → Fails f (store_of state) → IfBad f (ended piece (storing state) ≡ bad)
store_refused f piece state none fails = if_fails f (store_of state) fails (λ g is. ap (λ (l : List ℕ). store_ended l state) none ∙ not_whole (whole_of state) g is)

stuffed_bad : (piece : List ℕ) (state : State) (g : WireFault) → (piece ≡ [] → ⊥) → unstuffed false piece ≡ Err g → store_ended piece state ≡ bad
stuffed_bad [] state g some is = absurd (some refl)
stuffed_bad (b ∷ piece) state g some is = ap (λ (r : Result (List ℕ) WireFault). or_bad (r >>= λ c. fed c state >>= λ s. Ok (storing s))) is

chunk_bad : (piece chunk : List ℕ) (state : State) (g : WireFault) → (piece ≡ [] → ⊥) → unstuffed false piece ≡ Ok chunk → fed chunk state ≡ Err g → store_ended piece state ≡ bad
chunk_bad [] chunk state g some is got = absurd (some refl)
chunk_bad (b ∷ piece) chunk state g some is got =
    ap (λ (r : Result (List ℕ) WireFault). or_bad (r >>= λ c. fed c state >>= λ s. Ok (storing s))) is ∙ ap (λ (r : Result State WireFault). or_bad (r >>= λ s. Ok (storing s))) got

pub stuffed_refused : (f : ReadFault) (piece : List ℕ) (state : State) → (piece ≡ [] → ⊥) → Fails f (unstuffed false piece) → IfBad f (ended piece (storing state) ≡ bad)
stuffed_refused f piece state some fails = if_fails f (unstuffed false piece) fails (λ g is. stuffed_bad piece state g some is)

pub chunk_refused : (f : ReadFault) (piece chunk : List ℕ) (state : State) → (piece ≡ [] → ⊥) → unstuffed false piece ≡ Ok chunk → Fails f (fed chunk state) → IfBad f (ended piece (storing state) ≡ bad)
chunk_refused f piece chunk state some got fails = if_fails f (fed chunk state) fails (λ g is. chunk_bad piece chunk state g some got is)
