-- A base as it is written.
use Rattle.std.proofs.Common.{◌≡◌, ℕ, ◌-◌, ◌^◌, ◌<◌, List, [], ◌∷◌, ◌++◌, length, Option, Some, Ok, refl, sym, ◌∙◌, ap, append_assoc, append-nil, arith}
use Rattle.std.specs.Prelude.{◌==◌, true, slice_index_or}
use Rattle.std.proofs.Math.Seq.{get_or-append_seam}
use Rattle.std.proofs.lemmas.List.{length-append}
use Rattle.cq_records.specs.Frames.{joined}
use Rattle.cq_store.specs.Stands.{StoreKept}
use Rattle.cq_wire.specs.Layout.{number32, number64}
use Rattle.cq_wire.proofs.PartLaws.{is_read32, is_read64}
use Rattle.cq_store_wire.specs.declared.build.State.{State}
use Rattle.cq_store_wire.specs.declared.build.State.TheVariants as states
use Rattle.cq_kept_session.specs.Bases.{Stage, based, fresh, header_of, lined, read, resumed, with_payload}
use Rattle.cq_kept_session.specs.Texts.{is_ended}
use Rattle.cq_kept_session.specs.declared.base.Header.{Header}
use Rattle.cq_kept_base.specs.Stuffing.{Stuffs}
use Rattle.cq_kept_base.proofs.Written.{some_unit, unit_reads}
use Rattle.cq_kept_session.proofs.Bases.{ended_is, piece_ended}
use Rattle.cq_kept_session.proofs.Chunks.{joined_more}
use Rattle.cq_kept_session.proofs.Stages.{read_both}

-- ---- pieces

pub piece_added : (records : List (List ℕ)) (front first second third payload : List ℕ) (header : Option Header) (state : State) (stage : Stage) → (payload ≡ [] → ⊥) → first ≡ front
    → Stuffs first second payload → third ≡ second ++ 10 ∷ [] → read fresh (joined records ++ front) ≡ based [] header state → with_payload payload header state ≡ Ok stage → read fresh (joined (records ++ third ∷ [])) ≡ stage
piece_added records front first second third payload header state stage some is s are begun gives =
    let unit = s.unit in
    let all : joined (records ++ third ∷ []) ≡ (joined records ++ front) ++ (unit ++ 10 ∷ []) =
    joined_more records third ∙ ap (λ (l : List ℕ). joined records ++ l) (are ∙ ap (λ (l : List ℕ). l ++ 10 ∷ []) (s.added ∙ ap (λ (l : List ℕ). l ++ unit) is) ∙ append_assoc front unit (10 ∷ []))
    ∙ sym (append_assoc (joined records) front (unit ++ 10 ∷ [])) in
    ap (λ (l : List ℕ). read fresh l) all ∙ read_both fresh (joined records ++ front) (unit ++ 10 ∷ []) ∙ ap (λ st. read st (unit ++ 10 ∷ [])) begun
    ∙ piece_ended [] unit [] header state s.clean ∙ ended_is unit payload header state stage (some_unit first second payload s some) (unit_reads first second payload s) gives

-- a line feed alone ends the base
pub base_ended : (records : List (List ℕ)) (header : Header) (kept : StoreKept) → read fresh (joined records) ≡ based [] (Some header) (states.Whole kept) → read fresh (joined (records ++ (10 ∷ []) ∷ [])) ≡ lined (resumed header kept) []
base_ended records header kept begun = ap (λ (l : List ℕ). read fresh l) (joined_more records (10 ∷ [])) ∙ read_both fresh (joined records) (10 ∷ []) ∙ ap (λ st. read st (10 ∷ [])) begun

-- ---- headers

-- the bytes of a header
abbrev pub header_bytes : Header → List ℕ
header_bytes h = number64 h.lines ++ (number32 h.highest.clients ++ number32 h.highest.queriers)

pub header_is_read : (h : Header) → h.lines < 2 ^ 64 → h.highest.clients < 2 ^ 32 → h.highest.queriers < 2 ^ 32 → header_of (header_bytes h) ≡ Ok h
unfolding header_of
header_is_read h lines clients queriers =
    rw (is_read64 h.lines (number32 h.highest.clients ++ number32 h.highest.queriers) lines)
    (rw (is_read32 h.highest.clients (number32 h.highest.queriers) clients)
    (rw (sym (append-nil (number32 h.highest.queriers)))
    (rw (is_read32 h.highest.queriers [] queriers) refl)))

pub some_header : (h : Header) → header_bytes h ≡ [] → ⊥
unfolding number64
some_header h none = absurd (omega (arith, ap length none))

-- ---- ends

pub line_ended : (before : List ℕ) → is_ended (before ++ 10 ∷ []) ≡ true
line_ended before =
    let long : length (before ++ 10 ∷ []) - 1 ≡ length before = omega (arith, length-append before (10 ∷ [])) in
    ap (λ (n : ℕ). slice_index_or (before ++ 10 ∷ []) n 10 == 10) long ∙ ap (λ (b : ℕ). b == 10) (get_or-append_seam before 10 [] 10)
