-- What is kept, with more bytes behind it.
use Rattle.std.proofs.Common.{◌≡◌, ℕ, Bool, true, false, List, [], ◌∷◌, ◌++◌, Option, None, Some, Result, Ok, Err, refl, sym, ◌∙◌, ap, subst, append_assoc, append-nil}
use Rattle.std.specs.Prelude.{◌||◌, nat_eq, cond, IfOk}
use Rattle.std.proofs.lemmas.Bool.{true≢false}
use Rattle.cq_base.specs.declared.ask.Entry.{Entry}
use Rattle.cq_kept_base.specs.Stuffed.{unstuffed}
use Rattle.cq_kept_base.specs.Stuffing.{Stuffs}
use Rattle.cq_kept_base.proofs.Escapes.{stuffs_all, stuffs_clean}
use Rattle.cq_lines.specs.Lines.{has_line_feed}
use Rattle.cq_store.specs.Stands as stores
use Rattle.cq_store_wire.specs.declared.build.State.{State}
use Rattle.cq_store_wire.specs.Building.{fed, or_truncated, store_of, whole_of}
use Rattle.cq_wire.specs.declared.fault.WireFault.{WireFault}
use Rattle.cq_wire.specs.Reading.{◌>>=◌, entry_at, whole_at}
use Rattle.cq_wire.proofs.Fronts.{ok_is}
use Rattle.cq_kept_entries.specs.Pieces.{AreEntries, AreOf, ArePiecesOf, At, IsListing, Means, MeansAt, Stage, at, bad, ended, fresh, is_listing, listing, or_bad, read, start, step, store_ended, storing, with_store}

pub read_both : (a : At) (x y : List ℕ) → read a (x ++ y) ≡ read (read a x) y
read_both a [] y = refl
read_both a (b ∷ x) y = read_both (step a b) x y

choice : {A : Type 0} (b : Bool) (x y : A) → b ≡ false → cond b x y ≡ y
choice true x y is = absurd cc
choice false x y is = refl

neither : (here later : Bool) → (here || later) ≡ false → (here ≡ false) × (later ≡ false)
neither true later none = absurd (true≢false none)
neither false later none = (refl, none)

-- ---- a piece

pub piece_on : (piece front : List ℕ) (stage : Stage) → has_line_feed front ≡ false → read (at piece stage) front ≡ at (piece ++ front) stage
piece_on piece [] stage none = ap (λ (l : List ℕ). at l stage) (sym (append-nil piece))
piece_on piece (b ∷ front) stage none =
    let both = neither (nat_eq b 10) (has_line_feed front) none in
    ap (λ (a : At). read a front) (choice (nat_eq b 10) (at [] (ended piece stage)) (at (piece ++ b ∷ []) stage) both.0)
    ∙ piece_on (piece ++ b ∷ []) front stage both.1 ∙ ap (λ (l : List ℕ). at l stage) (append_assoc piece (b ∷ []) front)

-- at its line feed it ends
pub piece_ended : (piece front behind : List ℕ) (stage : Stage) → has_line_feed front ≡ false → read (at piece stage) (front ++ 10 ∷ behind) ≡ read (at [] (ended (piece ++ front) stage)) behind
piece_ended piece front behind stage none =
    read_both (at piece stage) front (10 ∷ behind) ∙ ap (λ (a : At). read a (10 ∷ behind)) (piece_on piece front stage none)

-- ---- an entry

abbrev pub next_entry : Option stores.StoreKept → List Entry → Result Entry WireFault → Result Stage WireFault
next_entry base entries got = got >>= λ entry. Ok (listing base (entries ++ entry ∷ []))

pub entry_ended : (piece bytes : List ℕ) (entry : Entry) (base : Option stores.StoreKept) (entries : List Entry) → unstuffed false piece ≡ Ok bytes → whole_at entry_at bytes ≡ Ok entry
    → ended piece (listing base entries) ≡ listing base (entries ++ entry ∷ [])
entry_ended piece bytes entry base entries is got =
    ap (λ (r : Result (List ℕ) WireFault). or_bad (r >>= λ b. next_entry base entries (whole_at entry_at b))) is ∙ ap (λ (r : Result Entry WireFault). or_bad (next_entry base entries r)) got

pub entry_piece : (text stuffed bytes : List ℕ) (entry : Entry) → Stuffs [] stuffed bytes → text ≡ stuffed ++ 10 ∷ [] → whole_at entry_at bytes ≡ Ok entry → ArePiecesOf text (entry ∷ [])
entry_piece text stuffed bytes entry s is got = λ base entries.
    ap (λ (l : List ℕ). read (at [] (listing base entries)) l) is ∙ piece_ended [] stuffed [] (listing base entries) (stuffs_clean stuffed bytes s)
    ∙ ap (λ (stage : Stage). at [] stage) (entry_ended stuffed bytes entry base entries (stuffs_all stuffed bytes s) got)

-- ---- a store

pub store_fed : (piece chunk : List ℕ) (state next : State) → (piece ≡ [] → ⊥) → unstuffed false piece ≡ Ok chunk → fed chunk state ≡ Ok next → store_ended piece state ≡ storing next
store_fed [] chunk state next some is got = absurd (some refl)
store_fed (b ∷ piece) chunk state next some is got =
    ap (λ (r : Result (List ℕ) WireFault). or_bad (r >>= λ c. fed c state >>= λ s. Ok (storing s))) is ∙ ap (λ (r : Result State WireFault). or_bad (r >>= λ s. Ok (storing s))) got

stored : (store : Option stores.StoreKept) (kept : stores.StoreKept) → or_truncated store ≡ Ok kept → with_store store ≡ listing (Some kept) []
stored None kept is = absurd cc
stored (Some store) kept is = ap (λ (k : stores.StoreKept). listing (Some k) []) (ok_is store kept is)

pub store_whole : (piece : List ℕ) (state : State) (kept : stores.StoreKept) → piece ≡ [] → store_of state ≡ Ok kept → store_ended piece state ≡ listing (Some kept) []
store_whole piece state kept none is = ap (λ (l : List ℕ). store_ended l state) none ∙ stored (whole_of state) kept is

-- ---- entries behind what stands for others

pub none_added : ArePiecesOf [] []
none_added = λ base entries. ap (λ (es : List Entry). at [] (listing base es)) (sym (append-nil entries))

pub both_added : (text piece : List ℕ) (more : List Entry) (entry : Entry) → ArePiecesOf text more → ArePiecesOf piece (entry ∷ []) → ArePiecesOf (text ++ piece) (more ++ entry ∷ [])
both_added text piece more entry are is = λ base entries.
    read_both (at [] (listing base entries)) text piece ∙ ap (λ (a : At). read a piece) (are base entries) ∙ is base (entries ++ more)
    ∙ ap (λ (es : List Entry). at [] (listing base es)) (append_assoc entries more (entry ∷ []))

entries_on : (base : Option stores.StoreKept) (entries all more : List Entry) → AreEntries base entries all → AreEntries base (entries ++ more) (all ++ more)
entries_on None entries all more is = ap (λ (es : List Entry). es ++ more) is
entries_on (Some base) entries all more is = record { before = is.before; stands = is.stands; are = ap (λ (es : List Entry). es ++ more) is.are ∙ append_assoc is.before entries more }

pub listing_on : (base : Option stores.StoreKept) (entries : List Entry) (text : List ℕ) (more : List Entry) → ArePiecesOf text more → IsListing (read (at [] (listing base entries)) text)
listing_on base entries text more are = subst (λ (a : At). IsListing a) (sym (are base entries)) (record { whole = refl; listing = refl })

-- of a stage to which entries come
means_on : (stage : Stage) (text : List ℕ) (all more : List Entry) → is_listing stage ≡ true → ArePiecesOf text more → Means stage all → MeansAt (read (at [] stage) text) (all ++ more)
means_on fresh text all more is are means = absurd cc
means_on (storing state) text all more is are means = absurd means
means_on (listing base entries) text all more is are means =
    subst (λ (a : At). MeansAt a (all ++ more)) (sym (are base entries)) (refl, entries_on base entries all more means)
means_on bad text all more is are means = absurd means

goes_listing : (stage : Stage) (text : List ℕ) (more : List Entry) → is_listing stage ≡ true → ArePiecesOf text more → IsListing (read (at [] stage) text)
goes_listing fresh text more is are = absurd cc
goes_listing (storing state) text more is are = absurd cc
goes_listing (listing base entries) text more is are = listing_on base entries text more are
goes_listing bad text more is are = absurd cc

abbrev whole_at_stage : At → At
whole_at_stage a = at [] a.stage

no_piece : (a : At) → a.piece ≡ [] → a ≡ whole_at_stage a
no_piece a none = ap (λ (l : List ℕ). at l a.stage) none

pub are_on : (kept text : List ℕ) (all more : List Entry) → IsListing (read start kept) → ArePiecesOf text more → AreOf kept all → AreOf (kept ++ text) (all ++ more)
are_on kept text all more is are means =
    let a = read start kept in
    subst (λ (b : At). MeansAt b (all ++ more)) (sym (read_both start kept text ∙ ap (λ (b : At). read b text) (no_piece a is.whole))) (means_on a.stage text all more is.listing are means.1)

pub still_listing : (kept text : List ℕ) (more : List Entry) → IsListing (read start kept) → ArePiecesOf text more → IsListing (read start (kept ++ text))
still_listing kept text more is are =
    let a = read start kept in
    subst (λ (b : At). IsListing b) (sym (read_both start kept text ∙ ap (λ (b : At). read b text) (no_piece a is.whole))) (goes_listing a.stage text more is.listing are)

-- ---- what calls answered

pub if_ok : {T E : Type 0} {P Q : T → Type 0} (r : Result T E) → IfOk r P → ((x : T) → P x → Q x) → IfOk r Q
if_ok (Ok x) p next = next x p
if_ok (Err e) p next = tt

abbrev entries_in : Stage → List Entry
entries_in fresh = []
entries_in (storing state) = []
entries_in (listing base entries) = entries
entries_in bad = []

-- no bytes are pieces of no entries
pub none_are : (more : List Entry) → ArePiecesOf [] more → more ≡ []
none_are more are = sym (ap (λ (a : At). entries_in a.stage) (are None []))

-- entries behind others
pub entries_back : (base : Option stores.StoreKept) (entries more all : List Entry) → AreEntries base (entries ++ more) all → (before : List Entry) × (AreEntries base entries before × (all ≡ before ++ more))
entries_back None entries more all is = (entries, (refl, is))
entries_back (Some base) entries more all is =
    (is.before ++ entries, (record { before = is.before; stands = is.stands; are = refl }, is.are ∙ sym (append_assoc is.before entries more)))
