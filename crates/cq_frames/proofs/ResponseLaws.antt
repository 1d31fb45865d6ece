-- Responses that are read were written so, and what was written is read.
use Rattle.std.proofs.Common.{◌≡◌, ℕ, ◌^◌, ◌<◌, ◌≤◌, Bool, true, cond, eqb, List, [], ◌∷◌, ◌++◌, Result, Ok, Err, refl, sym, subst, append_assoc}
use Rattle.std.specs.Prelude.{⊤}
use Rattle.std.specs.Int.{w32, w64}
use Rattle.std.proofs.lemmas.Bool.{eqb-true}
use Rattle.cq_base.specs.declared.limits.TheConstants.{MOMENT_LIMIT}
use Rattle.cq_frames.specs.declared.response.Response.{Response}
use Rattle.cq_frames.specs.declared.response.Response.TheVariants as responses
use Rattle.cq_frames.specs.declared.response.Standing.{Standing}
use Rattle.cq_frames.specs.Layout.{party, piece_number, response, standing}
use Rattle.cq_frames.specs.Limits.{IsParty, IsPiece, IsPieceNumber, IsResponse, IsStanding}
use Rattle.cq_frames.specs.Reading.{party_at, piece_at, piece_number_at, standing_at, put_at, refused_at, unread_at, waiting_at, saved_at, done_at, response_at}
use Rattle.cq_wire.specs.declared.fault.WireFault.{WireFault}
use Rattle.cq_wire.specs.declared.fault.WireFault.TheVariants.{BadTag}
use Rattle.cq_wire.specs.Layout.{number32, number64, flag, text}
use Rattle.cq_wire.specs.Reading.{◌>>=◌, number_at, flag_at, moment_at}
use Rattle.cq_wire.proofs.Fronts.{IsBytes, IsBytes-rest, Takes, Takes-then, Takes-nothing, Takes-tagged, Reads, IsRead, bind_ok, ok_is, either, read_as}
use Rattle.cq_wire.proofs.Sequences.{one, two, three, four, one_read, two_read, three_read, four_read}
use Rattle.cq_wire.proofs.PartLaws.{reads32, reads64, is_read32, is_read64, flag_reads, flag_is_read, moment_reads, moment_is_read}
use Rattle.cq_frames.proofs.PartLaws.{party_reads, party_is_read, piece_number_reads, piece_number_is_read, piece_reads, piece_is_read}

-- ---- where a server stands

made : ℕ → ℕ → ℕ → Bool → Bool → Bool → Standing
made count acked last is_head is_acting is_full = record { count = count; acked = acked; last = last; is_head = is_head; is_acting = is_acting; is_full = is_full }

standing_reads : Reads standing standing_at IsStanding
unfolding standing_at standing made
standing_reads bytes x fits e =
    let a = bind_ok (number_at w64 bytes) (λ a. number_at w64 a.1 >>= λ b. moment_at b.1 >>= λ c. flag_at c.1 >>= λ d. flag_at d.1 >>= λ f. flag_at f.1 >>= λ g. read_as (made a.0 b.0 c.0 d.0 f.0 g.0) g.1) x e in
    let t = reads64 bytes a.0 fits a.1 in
    let b = bind_ok (number_at w64 a.0.1) (λ b. moment_at b.1 >>= λ c. flag_at c.1 >>= λ d. flag_at d.1 >>= λ f. flag_at f.1 >>= λ g. read_as (made a.0.0 b.0 c.0 d.0 f.0 g.0) g.1) x a.2 in
    let u = reads64 a.0.1 b.0 t.0.rest_fits b.1 in
    four number64 moment_at (λ n. n ≤ MOMENT_LIMIT) flag flag_at (λ _. ⊤) flag flag_at (λ _. ⊤) flag flag_at (λ _. ⊤) (made a.0.0 b.0.0) moment_reads flag_reads flag_reads flag_reads b.0.1 x u.0.rest_fits b.2 (λ y. Takes bytes (standing y.0) y.1 × IsStanding y.0)
    (λ c d f g rest v h. (
      Takes-then bytes (number64 a.0.0) a.0.1 (number64 b.0.0 ++ (number64 c ++ (flag d ++ (flag f ++ flag g)))) rest t.0
          (Takes-then a.0.1 (number64 b.0.0) b.0.1 (number64 c ++ (flag d ++ (flag f ++ flag g))) rest u.0 v),
      (t.1, (u.1, h)),
    ))

standing_is_read : IsRead standing standing_at IsStanding
unfolding standing_at standing made
standing_is_read s rest fits =
    let inner : List ℕ = number64 s.last ++ (flag s.is_head ++ (flag s.is_acting ++ flag s.is_full)) in
    rw (append_assoc (number64 s.count) (number64 s.acked ++ inner) rest, is_read64 s.count ((number64 s.acked ++ inner) ++ rest) fits.0)
    (rw (append_assoc (number64 s.acked) inner rest, is_read64 s.acked (inner ++ rest) fits.1.0)
    (four_read number64 moment_at (λ n. n ≤ MOMENT_LIMIT) flag flag_at (λ _. ⊤) flag flag_at (λ _. ⊤) flag flag_at (λ _. ⊤) (made s.count s.acked) moment_is_read flag_is_read flag_is_read flag_is_read s.last s.is_head s.is_acting s.is_full rest fits.1.1))

-- ---- by their kinds

-- what is read of a response, with the byte for its kind
abbrev IsResponseRead : ℕ → List ℕ → Response × List ℕ → Type 0
IsResponseRead kind bytes x = Takes (kind ∷ bytes) (response x.0) x.1 × IsResponse x.0

put_reads : (bytes : List ℕ) (x : Response × List ℕ) → IsBytes bytes → put_at bytes ≡ Ok x → IsResponseRead 0 bytes x
unfolding put_at response
put_reads bytes x fits e =
    three party party_at IsParty piece_number piece_number_at IsPieceNumber text piece_at IsPiece responses.Put party_reads piece_number_reads piece_reads bytes x fits e (IsResponseRead 0 bytes)
    (λ a b c rest t f. (Takes-tagged 0 bytes (party a ++ (piece_number b ++ text c)) rest t, f))

refused_reads : (bytes : List ℕ) (x : Response × List ℕ) → IsBytes bytes → refused_at bytes ≡ Ok x → IsResponseRead 1 bytes x
unfolding refused_at response
refused_reads bytes x fits e =
    one number32 (number_at w32) (λ n. n < 2 ^ 32) responses.Refused reads32 bytes x fits e (IsResponseRead 1 bytes)
    (λ a rest t f. (Takes-tagged 1 bytes (number32 a) rest t, f))

unread_reads : (bytes : List ℕ) (x : Response × List ℕ) → IsBytes bytes → unread_at bytes ≡ Ok x → IsResponseRead 2 bytes x
unfolding unread_at response
unread_reads bytes x fits e =
    one number32 (number_at w32) (λ n. n < 2 ^ 32) responses.Unread reads32 bytes x fits e (IsResponseRead 2 bytes)
    (λ a rest t f. (Takes-tagged 2 bytes (number32 a) rest t, f))

waiting_reads : (bytes : List ℕ) (x : Response × List ℕ) → IsBytes bytes → waiting_at bytes ≡ Ok x → IsResponseRead 3 bytes x
unfolding waiting_at response
waiting_reads bytes x fits e =
    one party party_at IsParty responses.Waiting party_reads bytes x fits e (IsResponseRead 3 bytes)
    (λ a rest t f. (Takes-tagged 3 bytes (party a) rest t, f))

saved_reads : (bytes : List ℕ) (x : Response × List ℕ) → IsBytes bytes → saved_at bytes ≡ Ok x → IsResponseRead 4 bytes x
unfolding saved_at response
saved_reads bytes x fits e =
    two number64 (number_at w64) (λ n. n < 2 ^ 64) text piece_at IsPiece responses.Saved reads64 piece_reads bytes x fits e (IsResponseRead 4 bytes)
    (λ a b rest t f. (Takes-tagged 4 bytes (number64 a ++ text b) rest t, f))

done_reads : (bytes : List ℕ) (x : Response × List ℕ) → IsBytes bytes → done_at bytes ≡ Ok x → IsResponseRead 5 bytes x
unfolding done_at response
done_reads bytes x fits e =
    one standing standing_at IsStanding responses.Done standing_reads bytes x fits e (IsResponseRead 5 bytes)
    (λ a rest t f. (Takes-tagged 5 bytes (standing a) rest t, f))

heard_reads : (bytes : List ℕ) (x : Response × List ℕ) → IsBytes bytes → read_as responses.Heard bytes ≡ Ok x → IsResponseRead 6 bytes x
unfolding response
heard_reads bytes x fits e = subst (IsResponseRead 6 bytes) (ok_is (responses.Heard, bytes) x e) (Takes-tagged 6 bytes [] bytes (Takes-nothing bytes fits), tt)

-- the byte for the kind is the tag
tagged : (tag kind : ℕ) (bytes : List ℕ) (x : Response × List ℕ) → eqb kind tag ≡ true → IsResponseRead tag bytes x → IsResponseRead kind bytes x
tagged tag kind bytes x is read = subst (λ (k : ℕ). IsResponseRead k bytes x) (sym (eqb-true kind tag is)) read

pub response_reads : Reads response response_at IsResponse
unfolding response_at
response_reads [] x fits e = absurd cc
response_reads (kind ∷ rest) x fits e =
    let inner = IsBytes-rest kind rest fits in
    let G = IsResponseRead kind rest x in
    let none : Result (Response × List ℕ) WireFault = Err BadTag in
    let else5 = cond (eqb kind 6) (read_as responses.Heard rest) none in
    let else4 = cond (eqb kind 5) (done_at rest) else5 in
    let else3 = cond (eqb kind 4) (saved_at rest) else4 in
    let else2 = cond (eqb kind 3) (waiting_at rest) else3 in
    let else1 = cond (eqb kind 2) (unread_at rest) else2 in
    let else0 = cond (eqb kind 1) (refused_at rest) else1 in
    either (eqb kind 0) (put_at rest) else0 x G e (λ is read. tagged 0 kind rest x is (put_reads rest x inner read))
    (λ e0. either (eqb kind 1) (refused_at rest) else1 x G e0 (λ is read. tagged 1 kind rest x is (refused_reads rest x inner read))
    (λ e1. either (eqb kind 2) (unread_at rest) else2 x G e1 (λ is read. tagged 2 kind rest x is (unread_reads rest x inner read))
    (λ e2. either (eqb kind 3) (waiting_at rest) else3 x G e2 (λ is read. tagged 3 kind rest x is (waiting_reads rest x inner read))
    (λ e3. either (eqb kind 4) (saved_at rest) else4 x G e3 (λ is read. tagged 4 kind rest x is (saved_reads rest x inner read))
    (λ e4. either (eqb kind 5) (done_at rest) else5 x G e4 (λ is read. tagged 5 kind rest x is (done_reads rest x inner read))
    (λ e5. either (eqb kind 6) (read_as responses.Heard rest) none x G e5 (λ is read. tagged 6 kind rest x is (heard_reads rest x inner read))
    (λ e6. absurd cc)))))))

pub response_is_read : IsRead response response_at IsResponse
unfolding response response_at put_at refused_at unread_at waiting_at saved_at done_at
response_is_read (responses.Put a b c) rest fits = three_read party party_at IsParty piece_number piece_number_at IsPieceNumber text piece_at IsPiece responses.Put party_is_read piece_number_is_read piece_is_read a b c rest fits
response_is_read (responses.Refused a) rest fits = one_read number32 (number_at w32) (λ n. n < 2 ^ 32) responses.Refused is_read32 a rest fits
response_is_read (responses.Unread a) rest fits = one_read number32 (number_at w32) (λ n. n < 2 ^ 32) responses.Unread is_read32 a rest fits
response_is_read (responses.Waiting a) rest fits = one_read party party_at IsParty responses.Waiting party_is_read a rest fits
response_is_read (responses.Saved a b) rest fits = two_read number64 (number_at w64) (λ n. n < 2 ^ 64) text piece_at IsPiece responses.Saved is_read64 piece_is_read a b rest fits
response_is_read (responses.Done a) rest fits = one_read standing standing_at IsStanding responses.Done standing_is_read a rest fits
response_is_read responses.Heard rest fits = refl
