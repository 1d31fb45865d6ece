-- A base, piece by piece.
use Rattle.std.proofs.Common.{◌≡◌, ℕ, List, [], ◌∷◌, ◌++◌, Option, None, Some, Result, Ok, refl, sym, ◌∙◌, ap, append_assoc, append-nil}
use Rattle.std.specs.Prelude.{nat_eq, false}
use Rattle.cq_store.specs.Stands.{StoreKept}
use Rattle.cq_wire.specs.declared.fault.WireFault.{WireFault}
use Rattle.cq_wire.specs.Reading.{◌>>=◌}
use Rattle.cq_wire.proofs.Fronts.{ok_is}
use Rattle.cq_store_wire.specs.declared.build.State.{State}
use Rattle.cq_store_wire.specs.Building.{fed, or_truncated, store_of, whole_of}
use Rattle.cq_lines.specs.Lines.{has_line_feed}
use Rattle.cq_kept_session.specs.Bases.{Stage, based, ended, header_of, lined, or_bad, read, resumed, whole, with_payload, with_store}
use Rattle.cq_kept_base.specs.Stuffed.{unstuffed}
use Rattle.cq_kept_session.specs.declared.base.Header.{Header}
use Rattle.cq_kept_session.proofs.Chunks.{neither}
use Rattle.cq_kept_session.proofs.Stages.{choice, read_both}

pub piece_on : (piece front : List ℕ) (header : Option Header) (state : State) → has_line_feed front ≡ false → read (based piece header state) front ≡ based (piece ++ front) header state
piece_on piece [] header state none = ap (λ (l : List ℕ). based l header state) (sym (append-nil piece))
piece_on piece (b ∷ front) header state none =
    let both = neither (nat_eq b 10) (has_line_feed front) none in
    ap (λ stage. read stage front) (choice (nat_eq b 10) (ended piece header state) (based (piece ++ b ∷ []) header state) both.0)
    ∙ piece_on (piece ++ b ∷ []) front header state both.1 ∙ ap (λ (l : List ℕ). based l header state) (append_assoc piece (b ∷ []) front)

-- at its line feed it ends
pub piece_ended : (piece front behind : List ℕ) (header : Option Header) (state : State) → has_line_feed front ≡ false
    → read (based piece header state) (front ++ 10 ∷ behind) ≡ read (ended (piece ++ front) header state) behind
piece_ended piece front behind header state none =
    read_both (based piece header state) front (10 ∷ behind) ∙ ap (λ stage. read stage (10 ∷ behind)) (piece_on piece front header state none)

pub ended_is : (piece payload : List ℕ) (header : Option Header) (state : State) (stage : Stage) → (piece ≡ [] → ⊥) → unstuffed false piece ≡ Ok payload
    → with_payload payload header state ≡ Ok stage → ended piece header state ≡ stage
ended_is [] payload header state stage some is gives = absurd (some refl)
ended_is (b ∷ piece) payload header state stage some is gives = ap (λ (r : Result (List ℕ) WireFault). or_bad (r >>= λ p. with_payload p header state)) is ∙ ap or_bad gives

pub with_header : (payload : List ℕ) (header : Header) (state : State) → header_of payload ≡ Ok header → with_payload payload None state ≡ Ok (based [] (Some header) state)
with_header payload header state is = ap (λ (r : Result Header WireFault). r >>= λ h. Ok (based [] (Some h) state)) is

pub with_chunk : (payload : List ℕ) (header : Header) (state next : State) → fed payload state ≡ Ok next → with_payload payload (Some header) state ≡ Ok (based [] (Some header) next)
with_chunk payload header state next is = ap (λ (r : Result State WireFault). r >>= λ s. Ok (based [] (Some header) s)) is

stored : (header : Header) (store : Option StoreKept) (kept : StoreKept) → or_truncated store ≡ Ok kept → with_store header store ≡ lined (resumed header kept) []
stored header None kept is = absurd cc
stored header (Some store) kept is = ap (λ (k : StoreKept). lined (resumed header k) []) (ok_is store kept is)

pub whole_is : (header : Header) (state : State) (kept : StoreKept) → store_of state ≡ Ok kept → whole (Some header) state ≡ lined (resumed header kept) []
whole_is header state kept is = stored header (whole_of state) kept is
