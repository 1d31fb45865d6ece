-- Parties, pieces with their numbers, and frames that are read were written so, and what was written is read.
use Rattle.std.proofs.Common.{◌≡◌, ℕ, ◌^◌, ◌<◌, ◌≤◌, true, false, cond, eqb, leb, leb-true, le-leb, List, [], ◌∷◌, ◌++◌, length, take, drop, Result, Ok, Err, refl, sym, subst, append_assoc, ltb, arith}
use Rattle.std.specs.Prelude.{⊤}
use Rattle.std.specs.Int.{w32, w64}
use Rattle.std.proofs.lemmas.Bool.{eqb-true, le-ltb}
use Rattle.std.proofs.lemmas.List.{take_at, drop_at, length-append}
use Rattle.cq_base.specs.declared.party.Party.{Party}
use Rattle.cq_base.specs.declared.party.Party.TheVariants.{Master, Clients, Server}
use Rattle.cq_frames.specs.declared.frame.TheConstants.{FRAME_LIMIT}
use Rattle.cq_frames.specs.declared.number.PieceNumber.{PieceNumber}
use Rattle.cq_frames.specs.declared.piece.TheConstants.{PIECE_LIMIT}
use Rattle.cq_frames.specs.Frames.{frame_at}
use Rattle.cq_frames.specs.Layout.{party, piece_number}
use Rattle.cq_frames.specs.Limits.{IsParty, IsPiece, IsPieceNumber}
use Rattle.cq_frames.specs.Reading.{a_server_at, party_at, piece_at, piece_number_at}
use Rattle.cq_wire.specs.declared.fault.WireFault.{WireFault}
use Rattle.cq_wire.specs.declared.fault.WireFault.TheVariants.{BadTag, BadNumber}
use Rattle.cq_wire.specs.Layout.{number32, number64, text}
use Rattle.cq_wire.specs.Limits.{IsServer}
use Rattle.cq_wire.specs.Reading.{◌>>=◌, number_at, bytes_at, run_at, server_at}
use Rattle.cq_wire.proofs.Fronts.{IsBytes, IsBytes-rest, Takes, Takes-nothing, Takes-tagged, Reads, IsRead, ok_is, either, read_as}
use Rattle.cq_wire.proofs.Sequences.{kept_reads, kept_is_read, one, one_read, two, two_read}
use Rattle.cq_wire.proofs.PartLaws.{is_read32, is_read64, reads64, run_reads, run_is_read, server_reads, server_is_read}

-- ---- pieces

pub piece_reads : Reads text piece_at IsPiece
unfolding piece_at
piece_reads bytes x fits e = let r = kept_reads text run_at (λ t. length t < 2 ^ 32) (λ t. leb (length t) PIECE_LIMIT) BadNumber run_reads bytes x fits e in (r.0, leb-true _ _ r.1.1)

pub piece_is_read : IsRead text piece_at IsPiece
unfolding piece_at
piece_is_read t rest le = kept_is_read text run_at (λ t. length t < 2 ^ 32) (λ t. leb (length t) PIECE_LIMIT) BadNumber run_is_read t rest (omega (arith, le), le-leb _ _ le)

-- ---- their numbers

numbered : ℕ → ℕ → PieceNumber
numbered message index = record { message = message; index = index }

pub piece_number_reads : Reads piece_number piece_number_at IsPieceNumber
unfolding piece_number_at piece_number numbered
piece_number_reads bytes x fits e =
    two number64 (number_at w64) (λ n. n < 2 ^ 64) number64 (number_at w64) (λ n. n < 2 ^ 64) numbered reads64 reads64 bytes x fits e (λ y. Takes bytes (piece_number y.0) y.1 × IsPieceNumber y.0)
    (λ a b rest t f. (t, f))

pub piece_number_is_read : IsRead piece_number piece_number_at IsPieceNumber
unfolding piece_number_at piece_number numbered
piece_number_is_read n rest fits = two_read number64 (number_at w64) (λ n. n < 2 ^ 64) number64 (number_at w64) (λ n. n < 2 ^ 64) numbered is_read64 is_read64 n.message n.index rest fits

-- ---- parties

abbrev IsPartyRead : ℕ → List ℕ → Party × List ℕ → Type 0
IsPartyRead kind bytes x = Takes (kind ∷ bytes) (party x.0) x.1 × IsParty x.0

master_reads : (bytes : List ℕ) (x : Party × List ℕ) → IsBytes bytes → read_as Master bytes ≡ Ok x → IsPartyRead 0 bytes x
unfolding party
master_reads bytes x fits e = subst (IsPartyRead 0 bytes) (ok_is (Master, bytes) x e) (Takes-tagged 0 bytes [] bytes (Takes-nothing bytes fits), tt)

clients_reads : (bytes : List ℕ) (x : Party × List ℕ) → IsBytes bytes → read_as Clients bytes ≡ Ok x → IsPartyRead 1 bytes x
unfolding party
clients_reads bytes x fits e = subst (IsPartyRead 1 bytes) (ok_is (Clients, bytes) x e) (Takes-tagged 1 bytes [] bytes (Takes-nothing bytes fits), tt)

a_server_reads : (bytes : List ℕ) (x : Party × List ℕ) → IsBytes bytes → a_server_at bytes ≡ Ok x → IsPartyRead 2 bytes x
unfolding a_server_at party
a_server_reads bytes x fits e =
    one number32 server_at IsServer Server server_reads bytes x fits e (IsPartyRead 2 bytes)
    (λ id rest t f. (Takes-tagged 2 bytes (number32 id) rest t, f))

tagged : (tag kind : ℕ) (bytes : List ℕ) (x : Party × List ℕ) → eqb kind tag ≡ true → IsPartyRead tag bytes x → IsPartyRead kind bytes x
tagged tag kind bytes x is read = subst (λ (k : ℕ). IsPartyRead k bytes x) (sym (eqb-true kind tag is)) read

pub party_reads : Reads party party_at IsParty
unfolding party_at
party_reads [] x fits e = absurd cc
party_reads (kind ∷ rest) x fits e =
    let inner = IsBytes-rest kind rest fits in
    let G = IsPartyRead kind rest x in
    let none : Result (Party × List ℕ) WireFault = Err BadTag in
    let else1 = cond (eqb kind 2) (a_server_at rest) none in
    let else0 = cond (eqb kind 1) (read_as Clients rest) else1 in
    either (eqb kind 0) (read_as Master rest) else0 x G e (λ is read. tagged 0 kind rest x is (master_reads rest x inner read))
    (λ e0. either (eqb kind 1) (read_as Clients rest) else1 x G e0 (λ is read. tagged 1 kind rest x is (clients_reads rest x inner read))
    (λ e1. either (eqb kind 2) (a_server_at rest) none x G e1 (λ is read. tagged 2 kind rest x is (a_server_reads rest x inner read))
    (λ e2. absurd cc)))

pub party_is_read : IsRead party party_at IsParty
unfolding party party_at a_server_at
party_is_read Master rest fits = refl
party_is_read Clients rest fits = refl
party_is_read (Server id) rest fits = one_read number32 server_at IsServer Server server_is_read id rest fits

-- ---- frames

pub frame_is_cut : (t rest : List ℕ) → length t ≤ FRAME_LIMIT → frame_at (text t ++ rest) ≡ Ok (t, rest)
unfolding frame_at bytes_at text
frame_is_cut t rest le =
    let long : ltb (length (t ++ rest)) (length t) ≡ false = le-ltb _ _ (omega (arith, length-append t rest)) in
    let few : leb (length t) FRAME_LIMIT ≡ true = le-leb _ _ le in
    let grouped : (number32 (length t) ++ t) ++ rest ≡ number32 (length t) ++ (t ++ rest) = simp append_assoc in
    rw (grouped, is_read32 (length t) (t ++ rest) (omega (arith, le)), few, long, take_at t rest (length t) refl, drop_at t rest (length t) refl) refl
