-- Chunks that are fed as they are written make the store.
use Rattle.std.proofs.Common.{◌≡◌, ℕ, List, [], ◌++◌, Some, Result, Ok, refl, sym, subst, ap, ◌∙◌, append_assoc}
use Rattle.std.proofs.lemmas.List.{append-nil}
use Rattle.cq_store.specs.Stands.{StoreKept}
use Rattle.cq_wire.specs.declared.fault.WireFault.{WireFault}
use Rattle.cq_wire.specs.Reading.{◌>>=◌}
use Rattle.cq_store_wire.specs.declared.part.Part.{Part}
use Rattle.cq_store_wire.specs.declared.build.State.{State}
use Rattle.cq_store_wire.specs.declared.build.State.TheVariants as states
use Rattle.cq_store_wire.specs.declared.writer.Place.{Place}
use Rattle.cq_store_wire.specs.declared.writer.Place.TheVariants as places
use Rattle.cq_store_wire.specs.Building.{built, fed, or_truncated, store_of}
use Rattle.cq_store_wire.specs.Chunks.{IsChunk}
use Rattle.cq_store_wire.specs.Laws.{IsStore}
use Rattle.cq_store_wire.specs.Order.{parts_from, parts_of}
use Rattle.cq_store_wire.proofs.Chunked.{built-append, chunk-fed}
use Rattle.cq_store_wire.proofs.Rebuilt.{store-built}

-- the state is made of the parts of the store but for these last ones
pub record IsPassed (kept : StoreKept) (left : List Part) (state : State) : Type 0 where
  pub before : List Part
  pub order : parts_of kept ≡ before ++ left
  pub make : built before states.Empty ≡ Ok state

pub none-passed : (kept : StoreKept) → IsPassed kept (parts_from kept [] places.Start) states.Empty
unfolding parts_from parts_of built
none-passed kept = record { before = []; order = refl; make = refl }

pub chunk-passed : (kept : StoreKept) (left after : List Part) (state next : State) (bytes : List ℕ) → IsPassed kept left state → IsChunk left after bytes → fed bytes state ≡ Ok next → IsPassed kept after next
chunk-passed kept left after state next bytes p c e = record {
  before = p.before ++ c.some;
  order = p.order ∙ ap (λ (ps : List Part). p.before ++ ps) c.order ∙ sym (append_assoc p.before c.some after);
  make = built-append p.before c.some states.Empty ∙ ap (λ (r : Result State WireFault). r >>= λ s. built c.some s) p.make
      ∙ sym (chunk-fed c.some state c.fit) ∙ ap (λ (t : List ℕ). fed t state) (sym c.written) ∙ e;
}

abbrev ready : State → Result State WireFault
ready s = Ok s

same-state : (x y : State) → ready x ≡ ready y → x ≡ y
same-state x y e = cc

pub all-passed : (kept : StoreKept) (known : List (List ℕ)) (place : Place) (state : State) → IsStore kept → place ≡ places.End → IsPassed kept (parts_from kept known place) state → state ≡ states.Whole kept
unfolding parts_from
all-passed kept known place state sound end p =
    let all : parts_of kept ≡ p.before = p.order ∙ ap (λ (q : Place). p.before ++ parts_from kept known q) end ∙ append-nil p.before in
    same-state state (states.Whole kept) (sym p.make ∙ ap (λ (ps : List Part). built ps states.Empty) (sym all) ∙ store-built kept sound)

-- ---- the same in the places of the loop

pub begun : (kept : StoreKept) (known : List (List ℕ)) (place : Place) (state : State) → place ≡ places.Start → known ≡ [] → state ≡ states.Empty → IsPassed kept (parts_from kept known place) state
begun kept known place state first none empty =
    subst (λ (q : Place). IsPassed kept (parts_from kept known q) state) (sym first)
    (subst (λ (ks : List (List ℕ)). IsPassed kept (parts_from kept ks places.Start) state) (sym none)
    (subst (λ (s : State). IsPassed kept (parts_from kept [] places.Start) s) (sym empty) (none-passed kept)))

-- the chunk is all that there is of the bytes
pub chunk-passed-on : (kept : StoreKept) (left after : List Part) (state next : State) (nothing one bytes : List ℕ) → nothing ≡ [] → bytes ≡ nothing ++ one → IsPassed kept left state → IsChunk left after one → fed bytes state ≡ Ok next
    → IsPassed kept after next
chunk-passed-on kept left after state next nothing one bytes none all p c e =
    let same : bytes ≡ one = all ∙ ap (λ (t : List ℕ). t ++ one) none in
    chunk-passed kept left after state next one p c (ap (λ (t : List ℕ). fed t state) (sym same) ∙ e)

same-store : (x y : StoreKept) → or_truncated (Some x) ≡ Ok y → x ≡ y
same-store x y e = cc

pub whole-passed : (kept other : StoreKept) (known : List (List ℕ)) (place : Place) (state : State) → IsStore kept → place ≡ places.End → IsPassed kept (parts_from kept known place) state → store_of state ≡ Ok other → other ≡ kept
whole-passed kept other known place state sound end p e =
    let is : state ≡ states.Whole kept = all-passed kept known place state sound end p in
    sym (same-store kept other (ap store_of (sym is) ∙ e))
