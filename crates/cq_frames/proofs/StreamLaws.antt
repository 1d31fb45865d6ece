-- What is read of bytes has the stream that they begin with.
use Rattle.std.proofs.Common.{◌≡◌, ℕ, ◌∙◌, Bool, true, false, cond, eqb, List, [], ◌∷◌, length, None, Some, Result, Ok, Err, ap, refl, subst}
use Rattle.std.specs.Int.{w64}
use Rattle.cq_frames.specs.declared.command.Command.{Command}
use Rattle.cq_frames.specs.declared.command.Command.TheVariants as commands
use Rattle.cq_frames.specs.Reading.{party_at, piece_at, piece_number_at, arrive_at, ask_at, take_at, detect_at, join_at, more_at, gone_at, load_at, command_at}
use Rattle.cq_frames.specs.Streams.{StreamsAreFirst, first_of, stream_at, stream_in, stream_of}
use Rattle.cq_wire.specs.declared.fault.WireFault.{WireFault}
use Rattle.cq_wire.specs.declared.fault.WireFault.TheVariants.{BadTag, BytesLeft, OtherVersion}
use Rattle.cq_wire.specs.declared.version.TheConstants.{VERSION}
use Rattle.cq_wire.specs.Reading.{◌>>=◌, Reader, all_of, number_at, server_at, moment_at, query_at, request_at, whole_at}
use Rattle.cq_wire.proofs.Fronts.{bind_ok, either, ok_is, read_as}

-- what was read is no arrival
abbrev HasNone : Command × List ℕ → Type 0
HasNone x = None ≡ stream_in x.0

one_none : {A : Type 0} (read : Reader A) (make : A → Command) (bytes : List ℕ) (x : Command × List ℕ) → ((a : A) → None ≡ stream_in (make a)) → (read bytes >>= λ a. read_as (make a.0) a.1) ≡ Ok x → HasNone x
one_none read make bytes x none e =
    let y = bind_ok (read bytes) (λ a. read_as (make a.0) a.1) x e in
    subst HasNone (ok_is (make y.0.0, y.0.1) x y.2) (none y.0.0)

ask_none : (bytes : List ℕ) (x : Command × List ℕ) → ask_at bytes ≡ Ok x → HasNone x
unfolding ask_at
ask_none bytes x e = one_none query_at commands.Ask bytes x (λ a. refl) e

take_none : (bytes : List ℕ) (x : Command × List ℕ) → take_at bytes ≡ Ok x → HasNone x
unfolding take_at
take_none bytes x e =
    let a = bind_ok (party_at bytes) (λ from. piece_number_at from.1 >>= λ number. piece_at number.1 >>= λ piece. read_as (commands.Take from.0 number.0 piece.0) piece.1) x e in
    let b = bind_ok (piece_number_at a.0.1) (λ number. piece_at number.1 >>= λ piece. read_as (commands.Take a.0.0 number.0 piece.0) piece.1) x a.2 in
    one_none piece_at (λ piece. commands.Take a.0.0 b.0.0 piece) b.0.1 x (λ piece. refl) b.2

detect_none : (bytes : List ℕ) (x : Command × List ℕ) → detect_at bytes ≡ Ok x → HasNone x
unfolding detect_at
detect_none bytes x e = one_none server_at commands.Detect bytes x (λ a. refl) e

join_none : (bytes : List ℕ) (x : Command × List ℕ) → join_at bytes ≡ Ok x → HasNone x
unfolding join_at
join_none bytes x e = one_none server_at commands.Join bytes x (λ a. refl) e

more_none : (bytes : List ℕ) (x : Command × List ℕ) → more_at bytes ≡ Ok x → HasNone x
unfolding more_at
more_none bytes x e = one_none party_at commands.More bytes x (λ a. refl) e

gone_none : (bytes : List ℕ) (x : Command × List ℕ) → gone_at bytes ≡ Ok x → HasNone x
unfolding gone_at
gone_none bytes x e = one_none server_at commands.Gone bytes x (λ a. refl) e

save_none : (bytes : List ℕ) (x : Command × List ℕ) → read_as commands.Save bytes ≡ Ok x → HasNone x
save_none bytes x e = subst HasNone (ok_is (commands.Save, bytes) x e) refl

load_none : (bytes : List ℕ) (x : Command × List ℕ) → load_at bytes ≡ Ok x → HasNone x
unfolding load_at
load_none bytes x e = one_none piece_at commands.Load bytes x (λ a. refl) e

-- an arrival has the number that was read first
arrival_first : (bytes : List ℕ) (x : Command × List ℕ) → arrive_at bytes ≡ Ok x → first_of (number_at w64 bytes) ≡ stream_in x.0
unfolding arrive_at
arrival_first bytes x e =
    let a = bind_ok (number_at w64 bytes) (λ stream. moment_at stream.1 >>= λ clock. request_at clock.1 >>= λ one. read_as (commands.Arrive stream.0 clock.0 one.0) one.1) x e in
    let b = bind_ok (moment_at a.0.1) (λ clock. request_at clock.1 >>= λ one. read_as (commands.Arrive a.0.0 clock.0 one.0) one.1) x a.2 in
    let c = bind_ok (request_at b.0.1) (λ one. read_as (commands.Arrive a.0.0 b.0.0 one.0) one.1) x b.2 in
    ap first_of a.1 ∙ subst (λ (y : Command × List ℕ). Some a.0.0 ≡ stream_in y.0) (ok_is (commands.Arrive a.0.0 b.0.0 c.0.0, c.0.1) x c.2) refl

-- by the byte for the kind
by_kind : (b : Bool) (rest : List ℕ) (others : Result (Command × List ℕ) WireFault) (x : Command × List ℕ) → (others ≡ Ok x → HasNone x) → cond b (arrive_at rest) others ≡ Ok x
    → cond b (first_of (number_at w64 rest)) None ≡ stream_in x.0
by_kind true rest others x none e = arrival_first rest x e
by_kind false rest others x none e = none e

kinds_first : (bytes : List ℕ) (x : Command × List ℕ) → command_at bytes ≡ Ok x → stream_at bytes ≡ stream_in x.0
unfolding command_at stream_at
kinds_first [] x e = absurd cc
kinds_first (kind ∷ rest) x e =
    let bad : Result (Command × List ℕ) WireFault = Err BadTag in
    let else7 = cond (eqb kind 8) (load_at rest) bad in
    let else6 = cond (eqb kind 7) (read_as commands.Save rest) else7 in
    let else5 = cond (eqb kind 6) (gone_at rest) else6 in
    let else4 = cond (eqb kind 5) (more_at rest) else5 in
    let else3 = cond (eqb kind 4) (join_at rest) else4 in
    let else2 = cond (eqb kind 3) (detect_at rest) else3 in
    let else1 = cond (eqb kind 2) (take_at rest) else2 in
    let else0 = cond (eqb kind 1) (ask_at rest) else1 in
    by_kind (eqb kind 0) rest else0 x
    (λ e0. either (eqb kind 1) (ask_at rest) else1 x (HasNone x) e0 (λ is read. ask_none rest x read)
    (λ e1. either (eqb kind 2) (take_at rest) else2 x (HasNone x) e1 (λ is read. take_none rest x read)
    (λ e2. either (eqb kind 3) (detect_at rest) else3 x (HasNone x) e2 (λ is read. detect_none rest x read)
    (λ e3. either (eqb kind 4) (join_at rest) else4 x (HasNone x) e3 (λ is read. join_none rest x read)
    (λ e4. either (eqb kind 5) (more_at rest) else5 x (HasNone x) e4 (λ is read. more_none rest x read)
    (λ e5. either (eqb kind 6) (gone_at rest) else6 x (HasNone x) e5 (λ is read. gone_none rest x read)
    (λ e6. either (eqb kind 7) (read_as commands.Save rest) else7 x (HasNone x) e6 (λ is read. save_none rest x read)
    (λ e7. either (eqb kind 8) (load_at rest) bad x (HasNone x) e7 (λ is read. load_none rest x read)
    (λ e8. absurd cc)))))))))
    e

-- behind the version
done : Command → Result Command WireFault
done x = Ok x

all_first : (bytes : List ℕ) (x : Command) → all_of command_at bytes ≡ done x → stream_at bytes ≡ stream_in x
unfolding all_of done
all_first bytes x e =
    let y = bind_ok (command_at bytes) (λ a. cond (eqb (length a.1) 0) (done a.0) (Err BytesLeft)) x e in
    either (eqb (length y.0.1) 0) (done y.0.0) (Err BytesLeft) x (stream_at bytes ≡ stream_in x) y.2 (λ is same. kinds_first bytes y.0 y.1 ∙ ap stream_in (ok_is y.0.0 x same)) (λ bad. absurd cc)

by_version : (b : Bool) (rest : List ℕ) (x : Command) → cond b (all_of command_at rest) (Err OtherVersion) ≡ done x → cond b (stream_at rest) None ≡ stream_in x
unfolding done
by_version true rest x e = all_first rest x e
by_version false rest x e = absurd cc

pub streams_are_first : StreamsAreFirst
unfolding whole_at stream_of done
streams_are_first [] x e = absurd cc
streams_are_first (version ∷ rest) x e = by_version (eqb version VERSION) rest x e
