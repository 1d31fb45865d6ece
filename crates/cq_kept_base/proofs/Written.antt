-- Pieces and chunks as they are written.
use Rattle.std.proofs.Common.{◌≡◌, ℕ, List, [], ◌++◌, length, Result, Ok, Err, sym, ◌∙◌, ap, append_assoc, append-nil, arith}
use Rattle.std.specs.Prelude.{false, OnOk}
use Rattle.cq_store.specs.Stands.{StoreKept}
use Rattle.cq_wire.specs.declared.fault.WireFault.{WireFault}
use Rattle.cq_wire.specs.Reading.{◌>>=◌}
use Rattle.cq_wire.proofs.Fronts.{bind_ok, ok_is}
use Rattle.cq_store_wire.specs.declared.build.State.{State}
use Rattle.cq_store_wire.specs.declared.build.State.TheVariants as states
use Rattle.cq_store_wire.specs.declared.part.Part.{Part}
use Rattle.cq_store_wire.specs.Building.{built, fed}
use Rattle.cq_store_wire.specs.Chunks.{IsChunk}
use Rattle.cq_store_wire.specs.Layout.{chunk}
use Rattle.cq_store_wire.specs.Laws.{IsStore}
use Rattle.cq_store_wire.specs.Order.{parts_of}
use Rattle.cq_store_wire.proofs.Chunked.{built-append, chunk-fed}
use Rattle.cq_store_wire.proofs.Passing.{IsPassed, chunk-passed}
use Rattle.cq_store_wire.proofs.Rebuilt.{store-built}
use Rattle.cq_kept_base.specs.Stuffed.{unstuffed}
use Rattle.cq_kept_base.specs.Stuffing.{Stuffs}

pub if_ok : {T E P Q : Type 0} (r : Result T E) → OnOk r P → (P → Q) → OnOk r Q
if_ok (Ok x) p next = next p
if_ok (Err e) p next = tt

-- ---- pieces

abbrev plain : List ℕ → Result (List ℕ) WireFault
plain bytes = Ok bytes

-- what was added by itself stands for the payload
pub unit_reads : (old new payload : List ℕ) (s : Stuffs old new payload) → unstuffed false s.unit ≡ plain payload
unit_reads old new payload s = ap (λ (l : List ℕ). unstuffed false l) (sym (append-nil s.unit)) ∙ s.reads [] ∙ ap plain (append-nil payload)

pub some_unit : (old new payload : List ℕ) (s : Stuffs old new payload) → (payload ≡ [] → ⊥) → s.unit ≡ [] → ⊥
some_unit old new payload s some none = some (sym (ok_is [] payload (ap (λ (l : List ℕ). unstuffed false l) (sym none) ∙ unit_reads old new payload s)))

-- ---- chunks

pub record IsFed (kept : StoreKept) (after : List Part) (bytes : List ℕ) (state : State) : Type 0 where
  pub next : State
  pub is : fed bytes state ≡ Ok next
  pub passed : IsPassed kept after next

pub chunk_is_fed : (kept : StoreKept) (left after : List Part) (state : State) (bytes : List ℕ) → IsStore kept → IsPassed kept left state → IsChunk left after bytes → IsFed kept after bytes state
chunk_is_fed kept left after state bytes sound p c =
    let before : List Part = p.before ++ c.some in
    let order : parts_of kept ≡ before ++ after = p.order ∙ ap (λ (ps : List Part). p.before ++ ps) c.order ∙ sym (append_assoc p.before c.some after) in
    let whole : (built before states.Empty >>= λ next. built after next) ≡ Ok (states.Whole kept) =
    sym (built-append before after states.Empty) ∙ ap (λ (ps : List Part). built ps states.Empty) (sym order) ∙ store-built kept sound in
    let next = bind_ok (built before states.Empty) (λ s. built after s) (states.Whole kept) whole in
    let is : fed bytes state ≡ Ok next.0 =
    ap (λ (t : List ℕ). fed t state) c.written ∙ chunk-fed c.some state c.fit ∙ sym (ap (λ (r : Result State WireFault). r >>= λ s. built c.some s) p.make) ∙ sym (built-append p.before c.some states.Empty) ∙ next.1 in
    record { next = next.0; is = is; passed = chunk-passed kept left after state next.0 bytes p c is }

pub some_chunk : (before after : List Part) (bytes : List ℕ) → IsChunk before after bytes → bytes ≡ [] → ⊥
unfolding chunk
some_chunk before after bytes c none = absurd (omega (arith, ap length (sym c.written ∙ none)))
