-- Whether another server than one is full and lives.
use Rattle.std.proofs.Common.{◌≡◌, ℕ, ◌∙◌, ◌==◌, ◌&&◌, ◌||◌, ap, sym, refl, Bool, true, false, not, List, [], ◌∷◌, ◌++◌, None, Some, slice_get, inl, inr, if◌then◌else◌}
use Rattle.std.specs.List.{list_any}
use Rattle.std.specs.Map.{keys_of}
use Rattle.std.proofs.lemmas.Bool.{cases_Bool, eqb-true, eq-eqb}
use Rattle.std.proofs.lemmas.List.Folds.{list_any-append}
use Rattle.std.proofs.lemmas.Map.Keys.{any_passes_from_place}
use Rattle.std.proofs.lemmas.Map.Made.{is_some-lookup}
use Rattle.cq_base.specs.declared.party.Party.TheVariants as parties
use Rattle.cq_chain.specs.declared.fault.WorldFault.TheVariants.{LastFull}
use Rattle.cq_events.specs.Events.{another_full, refusal_of_crash}
use Rattle.cq_world.specs.within.Kept.{server_at}
use Rattle.cq_world.specs.Stands.{Holds, StandsFor}
use Rattle.cq_events.specs.Worlds.{World, is_in}
use Rattle.cq_world.specs.declared.sim.Sim.{Sim}
use Rattle.cq_world.proofs.OfSim.Stands.{holds, kept-known}

-- a server is another one than that, is full and lives
abbrev pub remains : World → ℕ → ℕ → Bool
remains w id other = not (other == id) && (w.server other).full && not (w.server other).down

-- ---- tests on lists

left_true : (a b : Bool) → a ≡ true → (a || b) ≡ true
left_true true b h = refl
left_true false b h = absurd cc

right_true : (a b : Bool) → b ≡ true → (a || b) ≡ true
right_true true b h = refl
right_true false b h = h

left_false : (a b : Bool) → (a || b) ≡ false → a ≡ false
left_false true b h = absurd cc
left_false false b h = refl

right_false : (a b : Bool) → (a || b) ≡ false → b ≡ false
right_false true b h = absurd cc
right_false false b h = h

-- one passes
some_passes : (test : ℕ → Bool) (ids : List ℕ) (id : ℕ) → is_in ids id ≡ true → test id ≡ true → list_any test ids ≡ true
some_passes test [] id there passes = absurd cc
some_passes test (x ∷ xs) id there passes = elim (cases_Bool (x == id)) [
  | inl own ↦ left_true (test x) (list_any test xs) (ap test (eqb-true x id own) ∙ passes)
  | inr other ↦ right_true (test x) (list_any test xs) (some_passes test xs id (sym (ap (λ b. b || is_in xs id) other) ∙ there) passes)
]

-- none does
none_passes : (test : ℕ → Bool) (ids : List ℕ) → ((id : ℕ) → is_in ids id ≡ true → test id ≡ false) → list_any test ids ≡ false
none_passes test [] fails = refl
none_passes test (x ∷ xs) fails = ap (λ b. b || list_any test xs) (fails x (left_true (x == x) (is_in xs x) (eq-eqb x x refl)))
    ∙ none_passes test xs (λ id there. fails id (right_true (x == id) (is_in xs id) there))

-- and so none of these
fails_of : (test : ℕ → Bool) (ids : List ℕ) (id : ℕ) → list_any (λ other. id == other) ids ≡ true → list_any test ids ≡ false → test id ≡ false
fails_of test [] id there none = absurd cc
fails_of test (x ∷ xs) id there none = elim (cases_Bool (id == x)) [
  | inl own ↦ ap test (eqb-true id x own) ∙ left_false (test x) (list_any test xs) none
  | inr other ↦ fails_of test xs id (sym (ap (λ b. b || list_any (λ y. id == y) xs) other) ∙ there) (right_false (test x) (list_any test xs) none)
]

-- ---- servers that are kept

-- a number is a server's if something is kept under it
kept-there : (sim : Sim) (w : World) (id : ℕ) → Holds sim w → list_any (λ other. id == other) (keys_of sim.servers.entries) ≡ is_in w.master.used id
kept-there sim w id h = sym (is_some-lookup (λ other. id == other) sim.servers.entries)
    ∙ kept-known (server_at sim.servers id) (is_in w.master.used id) (w.server id) (w.outbox (parties.Server id)) (h.servers id)

-- one of those that are kept is there
pub key-there : (sim : Sim) (w : World) (i id : ℕ) → Holds sim w → slice_get (keys_of sim.servers.entries) i ≡ Some id → is_in w.master.used id ≡ true
key-there sim w i id h is = sym (kept-there sim w id h) ∙ any_passes_from_place (λ other. id == other) (keys_of sim.servers.entries) i id is (eq-eqb id id refl)

-- ---- the search

-- none of these remains
abbrev pub NoneRemains : Sim → ℕ → List ℕ → Type 0
NoneRemains sim id others = (w : World) → StandsFor sim w → list_any (remains w id) others ≡ false

pub none-at-first : (sim : Sim) (id : ℕ) → NoneRemains sim id []
none-at-first sim id w h = refl

-- nor does one more
pub none-more : (sim : Sim) (id : ℕ) (others : List ℕ) (other : ℕ) → NoneRemains sim id others → ((w : World) → StandsFor sim w → remains w id other ≡ false) → NoneRemains sim id (others ++ other ∷ [])
none-more sim id others other none not_it w h = list_any-append (remains w id) others (other ∷ []) ∙ ap (λ b. b || (remains w id other || false)) (none w h) ∙ ap (λ b. b || false) (not_it w h)

-- that one doesn't, by its number
pub same-number : (w : World) (id other : ℕ) → not (other == id) ≡ false → remains w id other ≡ false
same-number w id other same = ap (λ b. b && (w.server other).full && not (w.server other).down) same

-- by what it is
pub serves-not : (w : World) (id other : ℕ) → is_in w.master.used other ≡ true → (is_in w.master.used other && (w.server other).full && not (w.server other).down) ≡ false → remains w id other ≡ false
serves-not w id other there not_it = by (not (other == id)) (w.server other).full (not (w.server other).down) (sym (ap (λ b. b && (w.server other).full && not (w.server other).down) there) ∙ not_it)
  where
    by : (a b c : Bool) → (true && b && c) ≡ false → (a && b && c) ≡ false
    by true b c h = h
    by false b c h = refl

-- none remains
pub none-remains : (sim : Sim) (w : World) (id : ℕ) → StandsFor sim w → NoneRemains sim id (keys_of sim.servers.entries) → another_full w id ≡ false
none-remains sim w id h none = none_passes (remains w id) w.master.used (λ other there. fails_of (remains w id) (keys_of sim.servers.entries) other (kept-there sim w other (holds sim w h) ∙ there) (none w h))

-- one does
pub one-remains : (w : World) (id other : ℕ) → not (other == id) ≡ true → (is_in w.master.used other && (w.server other).full && not (w.server other).down) ≡ true → another_full w id ≡ true
one-remains w id other apart serves = some_passes (remains w id) w.master.used other (first (is_in w.master.used other) (w.server other).full (not (w.server other).down) serves)
    (ap (λ b. b && (w.server other).full && not (w.server other).down) apart ∙ rest (is_in w.master.used other) (w.server other).full (not (w.server other).down) serves)
  where
    first : (a b c : Bool) → (a && b && c) ≡ true → a ≡ true
    first true b c h = refl
    first false b c h = absurd cc

    rest : (a b c : Bool) → (a && b && c) ≡ true → (true && b && c) ≡ true
    rest true b c h = h
    rest false b c h = absurd cc

-- ---- crashes

pub crash-allowed : (w : World) (id : ℕ) → another_full w id ≡ true → refusal_of_crash w id ≡ None
crash-allowed w id other = ap (λ b. if b then None else Some LastFull) other

pub crash-refused : (w : World) (id : ℕ) → another_full w id ≡ false → refusal_of_crash w id ≡ Some LastFull
crash-refused w id none = ap (λ b. if b then None else Some LastFull) none
