-- Commands that are read were written so, and what was written is read.
use Rattle.std.proofs.Common.{◌≡◌, ℕ, ◌^◌, ◌<◌, ◌≤◌, true, cond, eqb, List, [], ◌∷◌, ◌++◌, Result, Ok, Err, refl, sym, subst}
use Rattle.std.specs.Int.{w64}
use Rattle.std.proofs.lemmas.Bool.{eqb-true}
use Rattle.cq_base.specs.declared.limits.TheConstants.{MOMENT_LIMIT}
use Rattle.cq_frames.specs.declared.command.Command.{Command}
use Rattle.cq_frames.specs.declared.command.Command.TheVariants as commands
use Rattle.cq_frames.specs.Layout.{party, piece_number, command}
use Rattle.cq_frames.specs.Limits.{IsParty, IsPiece, IsPieceNumber, IsCommand}
use Rattle.cq_frames.specs.Reading.{party_at, piece_at, piece_number_at, arrive_at, ask_at, take_at, detect_at, join_at, more_at, gone_at, load_at, command_at}
use Rattle.cq_wire.specs.declared.fault.WireFault.{WireFault}
use Rattle.cq_wire.specs.declared.fault.WireFault.TheVariants.{BadTag}
use Rattle.cq_wire.specs.Layout.{number32, number64, query, request, text}
use Rattle.cq_wire.specs.Limits.{IsQuery, IsRequest, IsServer}
use Rattle.cq_wire.specs.Reading.{◌>>=◌, number_at, server_at, moment_at, query_at, request_at}
use Rattle.cq_wire.proofs.Fronts.{IsBytes, IsBytes-rest, Takes, Takes-nothing, Takes-tagged, Reads, IsRead, ok_is, either, read_as}
use Rattle.cq_wire.proofs.Sequences.{one, three, one_read, three_read}
use Rattle.cq_wire.proofs.PartLaws.{reads64, is_read64, moment_reads, moment_is_read, server_reads, server_is_read}
use Rattle.cq_wire.proofs.AskLaws.{query_reads, query_is_read, request_reads, request_is_read}
use Rattle.cq_frames.proofs.PartLaws.{party_reads, party_is_read, piece_number_reads, piece_number_is_read, piece_reads, piece_is_read}

-- what is read of a command, with the byte for its kind
abbrev IsCommandRead : ℕ → List ℕ → Command × List ℕ → Type 0
IsCommandRead kind bytes x = Takes (kind ∷ bytes) (command x.0) x.1 × IsCommand x.0

arrive_reads : (bytes : List ℕ) (x : Command × List ℕ) → IsBytes bytes → arrive_at bytes ≡ Ok x → IsCommandRead 0 bytes x
unfolding arrive_at command
arrive_reads bytes x fits e =
    three number64 (number_at w64) (λ n. n < 2 ^ 64) number64 moment_at (λ n. n ≤ MOMENT_LIMIT) request request_at IsRequest commands.Arrive reads64 moment_reads request_reads bytes x fits e (IsCommandRead 0 bytes)
    (λ a b c rest t f. (Takes-tagged 0 bytes (number64 a ++ (number64 b ++ request c)) rest t, f))

ask_reads : (bytes : List ℕ) (x : Command × List ℕ) → IsBytes bytes → ask_at bytes ≡ Ok x → IsCommandRead 1 bytes x
unfolding ask_at command
ask_reads bytes x fits e =
    one query query_at IsQuery commands.Ask query_reads bytes x fits e (IsCommandRead 1 bytes)
    (λ a rest t f. (Takes-tagged 1 bytes (query a) rest t, f))

take_reads : (bytes : List ℕ) (x : Command × List ℕ) → IsBytes bytes → take_at bytes ≡ Ok x → IsCommandRead 2 bytes x
unfolding take_at command
take_reads bytes x fits e =
    three party party_at IsParty piece_number piece_number_at IsPieceNumber text piece_at IsPiece commands.Take party_reads piece_number_reads piece_reads bytes x fits e (IsCommandRead 2 bytes)
    (λ a b c rest t f. (Takes-tagged 2 bytes (party a ++ (piece_number b ++ text c)) rest t, f))

detect_reads : (bytes : List ℕ) (x : Command × List ℕ) → IsBytes bytes → detect_at bytes ≡ Ok x → IsCommandRead 3 bytes x
unfolding detect_at command
detect_reads bytes x fits e =
    one number32 server_at IsServer commands.Detect server_reads bytes x fits e (IsCommandRead 3 bytes)
    (λ a rest t f. (Takes-tagged 3 bytes (number32 a) rest t, f))

join_reads : (bytes : List ℕ) (x : Command × List ℕ) → IsBytes bytes → join_at bytes ≡ Ok x → IsCommandRead 4 bytes x
unfolding join_at command
join_reads bytes x fits e =
    one number32 server_at IsServer commands.Join server_reads bytes x fits e (IsCommandRead 4 bytes)
    (λ a rest t f. (Takes-tagged 4 bytes (number32 a) rest t, f))

more_reads : (bytes : List ℕ) (x : Command × List ℕ) → IsBytes bytes → more_at bytes ≡ Ok x → IsCommandRead 5 bytes x
unfolding more_at command
more_reads bytes x fits e =
    one party party_at IsParty commands.More party_reads bytes x fits e (IsCommandRead 5 bytes)
    (λ a rest t f. (Takes-tagged 5 bytes (party a) rest t, f))

gone_reads : (bytes : List ℕ) (x : Command × List ℕ) → IsBytes bytes → gone_at bytes ≡ Ok x → IsCommandRead 6 bytes x
unfolding gone_at command
gone_reads bytes x fits e =
    one number32 server_at IsServer commands.Gone server_reads bytes x fits e (IsCommandRead 6 bytes)
    (λ a rest t f. (Takes-tagged 6 bytes (number32 a) rest t, f))

save_reads : (bytes : List ℕ) (x : Command × List ℕ) → IsBytes bytes → read_as commands.Save bytes ≡ Ok x → IsCommandRead 7 bytes x
unfolding command
save_reads bytes x fits e = subst (IsCommandRead 7 bytes) (ok_is (commands.Save, bytes) x e) (Takes-tagged 7 bytes [] bytes (Takes-nothing bytes fits), tt)

load_reads : (bytes : List ℕ) (x : Command × List ℕ) → IsBytes bytes → load_at bytes ≡ Ok x → IsCommandRead 8 bytes x
unfolding load_at command
load_reads bytes x fits e =
    one text piece_at IsPiece commands.Load piece_reads bytes x fits e (IsCommandRead 8 bytes)
    (λ a rest t f. (Takes-tagged 8 bytes (text a) rest t, f))

-- the byte for the kind is the tag
tagged : (tag kind : ℕ) (bytes : List ℕ) (x : Command × List ℕ) → eqb kind tag ≡ true → IsCommandRead tag bytes x → IsCommandRead kind bytes x
tagged tag kind bytes x is read = subst (λ (k : ℕ). IsCommandRead k bytes x) (sym (eqb-true kind tag is)) read

pub command_reads : Reads command command_at IsCommand
unfolding command_at
command_reads [] x fits e = absurd cc
command_reads (kind ∷ rest) x fits e =
    let inner = IsBytes-rest kind rest fits in
    let G = IsCommandRead kind rest x in
    let none : Result (Command × List ℕ) WireFault = Err BadTag in
    let else7 = cond (eqb kind 8) (load_at rest) none in
    let else6 = cond (eqb kind 7) (read_as commands.Save rest) else7 in
    let else5 = cond (eqb kind 6) (gone_at rest) else6 in
    let else4 = cond (eqb kind 5) (more_at rest) else5 in
    let else3 = cond (eqb kind 4) (join_at rest) else4 in
    let else2 = cond (eqb kind 3) (detect_at rest) else3 in
    let else1 = cond (eqb kind 2) (take_at rest) else2 in
    let else0 = cond (eqb kind 1) (ask_at rest) else1 in
    either (eqb kind 0) (arrive_at rest) else0 x G e (λ is read. tagged 0 kind rest x is (arrive_reads rest x inner read))
    (λ e0. either (eqb kind 1) (ask_at rest) else1 x G e0 (λ is read. tagged 1 kind rest x is (ask_reads rest x inner read))
    (λ e1. either (eqb kind 2) (take_at rest) else2 x G e1 (λ is read. tagged 2 kind rest x is (take_reads rest x inner read))
    (λ e2. either (eqb kind 3) (detect_at rest) else3 x G e2 (λ is read. tagged 3 kind rest x is (detect_reads rest x inner read))
    (λ e3. either (eqb kind 4) (join_at rest) else4 x G e3 (λ is read. tagged 4 kind rest x is (join_reads rest x inner read))
    (λ e4. either (eqb kind 5) (more_at rest) else5 x G e4 (λ is read. tagged 5 kind rest x is (more_reads rest x inner read))
    (λ e5. either (eqb kind 6) (gone_at rest) else6 x G e5 (λ is read. tagged 6 kind rest x is (gone_reads rest x inner read))
    (λ e6. either (eqb kind 7) (read_as commands.Save rest) else7 x G e6 (λ is read. tagged 7 kind rest x is (save_reads rest x inner read))
    (λ e7. either (eqb kind 8) (load_at rest) none x G e7 (λ is read. tagged 8 kind rest x is (load_reads rest x inner read))
    (λ e8. absurd cc)))))))))

pub command_is_read : IsRead command command_at IsCommand
unfolding command command_at arrive_at ask_at take_at detect_at join_at more_at gone_at load_at
command_is_read (commands.Arrive a b c) rest fits = three_read number64 (number_at w64) (λ n. n < 2 ^ 64) number64 moment_at (λ n. n ≤ MOMENT_LIMIT) request request_at IsRequest commands.Arrive is_read64 moment_is_read request_is_read a b c rest fits
command_is_read (commands.Ask a) rest fits = one_read query query_at IsQuery commands.Ask query_is_read a rest fits
command_is_read (commands.Take a b c) rest fits = three_read party party_at IsParty piece_number piece_number_at IsPieceNumber text piece_at IsPiece commands.Take party_is_read piece_number_is_read piece_is_read a b c rest fits
command_is_read (commands.Detect a) rest fits = one_read number32 server_at IsServer commands.Detect server_is_read a rest fits
command_is_read (commands.Join a) rest fits = one_read number32 server_at IsServer commands.Join server_is_read a rest fits
command_is_read (commands.More a) rest fits = one_read party party_at IsParty commands.More party_is_read a rest fits
command_is_read (commands.Gone a) rest fits = one_read number32 server_at IsServer commands.Gone server_is_read a rest fits
command_is_read commands.Save rest fits = refl
command_is_read (commands.Load a) rest fits = one_read text piece_at IsPiece commands.Load piece_is_read a rest fits
