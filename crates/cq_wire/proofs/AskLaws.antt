-- Asks, requests, entries and queries that are read were written so, and what was written is read.
use Rattle.std.proofs.Common.{◌≡◌, ℕ, ◌^◌, ◌<◌, ◌≤◌, true, cond, eqb, List, [], ◌∷◌, ◌++◌, Result, Ok, Err, sym, subst}
use Rattle.std.specs.Prelude.{⊤}
use Rattle.std.specs.Int.{w32, w64}
use Rattle.std.proofs.lemmas.Bool.{eqb-true}
use Rattle.cq_base.specs.declared.limits.TheConstants.{MOMENT_LIMIT}
use Rattle.cq_base.specs.declared.ask.Ask.{Ask}
use Rattle.cq_base.specs.declared.ask.Ask.TheVariants.{Create, Remove, Send, Receive, Delete, Change}
use Rattle.cq_base.specs.declared.ask.Request.{Request}
use Rattle.cq_base.specs.declared.ask.Entry.{Entry}
use Rattle.cq_base.specs.declared.ask.Query.{Query}
use Rattle.cq_base.specs.Handle.{IsHandle}
use Rattle.cq_wire.specs.declared.fault.WireFault.{WireFault}
use Rattle.cq_wire.specs.declared.fault.WireFault.TheVariants.{BadTag}
use Rattle.cq_wire.specs.Layout.{number32, number64, text, flag, optional, receipt, ask, request, entry, query}
use Rattle.cq_wire.specs.Limits.{IsName, IsId, IsBody, IsSeconds, IsBatch, IfThere, IsAsk, IsRequest, IsEntry, IsQuery}
use Rattle.cq_wire.specs.Reading.{number_at, name_at, id_at, body_at, flag_at, seconds_at, batch_at, moment_at, optional_at, receipt_at, create_at, remove_at, send_at, receive_at, delete_at, change_at, ask_at, request_at, entry_at, query_at}
use Rattle.cq_wire.proofs.Fronts.{IsBytes, IsBytes-rest, Takes, Takes-tagged, Reads, IsRead, either}
use Rattle.cq_wire.proofs.Sequences.{one, two, three, four, one_read, two_read, three_read, four_read}
use Rattle.cq_wire.proofs.PartLaws.{reads32, reads64, is_read32, is_read64, name_reads, name_is_read, id_reads, id_is_read, body_reads, body_is_read, flag_reads, flag_is_read, optional_reads, optional_is_read, moment_reads, moment_is_read, seconds_reads, seconds_is_read, batch_reads, batch_is_read, receipt_reads, receipt_is_read}

-- what is read of an ask, with the byte for its kind
abbrev IsAskRead : ℕ → List ℕ → Ask × List ℕ → Type 0
IsAskRead kind bytes x = Takes (kind ∷ bytes) (ask x.0) x.1 × IsAsk x.0

create_reads : (bytes : List ℕ) (x : Ask × List ℕ) → IsBytes bytes → create_at bytes ≡ Ok x → IsAskRead 0 bytes x
unfolding create_at ask
create_reads bytes x fits e =
    three text name_at IsName number32 seconds_at IsSeconds flag flag_at (λ _. ⊤) Create name_reads seconds_reads flag_reads bytes x fits e (IsAskRead 0 bytes)
    (λ a b c rest t f. (Takes-tagged 0 bytes (text a ++ (number32 b ++ flag c)) rest t, (f.0, f.1.0)))

remove_reads : (bytes : List ℕ) (x : Ask × List ℕ) → IsBytes bytes → remove_at bytes ≡ Ok x → IsAskRead 1 bytes x
unfolding remove_at ask
remove_reads bytes x fits e =
    one text name_at IsName Remove name_reads bytes x fits e (IsAskRead 1 bytes)
    (λ a rest t f. (Takes-tagged 1 bytes (text a) rest t, f))

send_reads : (bytes : List ℕ) (x : Ask × List ℕ) → IsBytes bytes → send_at bytes ≡ Ok x → IsAskRead 2 bytes x
unfolding send_at ask
send_reads bytes x fits e =
    four text name_at IsName text id_at IsId (optional text) (optional_at id_at) (IfThere IsId) text body_at IsBody Send name_reads id_reads (optional_reads text id_at IsId id_reads) body_reads bytes x fits e (IsAskRead 2 bytes)
    (λ a b c d rest t f. (Takes-tagged 2 bytes (text a ++ (text b ++ (optional text c ++ text d))) rest t, f))

receive_reads : (bytes : List ℕ) (x : Ask × List ℕ) → IsBytes bytes → receive_at bytes ≡ Ok x → IsAskRead 3 bytes x
unfolding receive_at ask
receive_reads bytes x fits e =
    three text name_at IsName number32 batch_at IsBatch (optional number32) (optional_at seconds_at) (IfThere IsSeconds) Receive name_reads batch_reads (optional_reads number32 seconds_at IsSeconds seconds_reads) bytes x fits e (IsAskRead 3 bytes)
    (λ a b c rest t f. (Takes-tagged 3 bytes (text a ++ (number32 b ++ optional number32 c)) rest t, f))

delete_reads : (bytes : List ℕ) (x : Ask × List ℕ) → IsBytes bytes → delete_at bytes ≡ Ok x → IsAskRead 4 bytes x
unfolding delete_at ask
delete_reads bytes x fits e =
    two text name_at IsName receipt receipt_at IsHandle Delete name_reads receipt_reads bytes x fits e (IsAskRead 4 bytes)
    (λ a b rest t f. (Takes-tagged 4 bytes (text a ++ receipt b) rest t, f))

change_reads : (bytes : List ℕ) (x : Ask × List ℕ) → IsBytes bytes → change_at bytes ≡ Ok x → IsAskRead 5 bytes x
unfolding change_at ask
change_reads bytes x fits e =
    three text name_at IsName receipt receipt_at IsHandle number32 seconds_at IsSeconds Change name_reads receipt_reads seconds_reads bytes x fits e (IsAskRead 5 bytes)
    (λ a b c rest t f. (Takes-tagged 5 bytes (text a ++ (receipt b ++ number32 c)) rest t, f))

-- the byte for the kind is the tag
tagged : (tag kind : ℕ) (bytes : List ℕ) (x : Ask × List ℕ) → eqb kind tag ≡ true → IsAskRead tag bytes x → IsAskRead kind bytes x
tagged tag kind bytes x is read = subst (λ (k : ℕ). IsAskRead k bytes x) (sym (eqb-true kind tag is)) read

pub ask_reads : Reads ask ask_at IsAsk
unfolding ask_at
ask_reads [] x fits e = absurd cc
ask_reads (kind ∷ rest) x fits e =
    let inner = IsBytes-rest kind rest fits in
    let G = IsAskRead kind rest x in
    let no5 : Result (Ask × List ℕ) WireFault = Err BadTag in
    let no4 = cond (eqb kind 5) (change_at rest) no5 in
    let no3 = cond (eqb kind 4) (delete_at rest) no4 in
    let no2 = cond (eqb kind 3) (receive_at rest) no3 in
    let no1 = cond (eqb kind 2) (send_at rest) no2 in
    let no0 = cond (eqb kind 1) (remove_at rest) no1 in
    either (eqb kind 0) (create_at rest) no0 x G e (λ is read. tagged 0 kind rest x is (create_reads rest x inner read))
    (λ e0. either (eqb kind 1) (remove_at rest) no1 x G e0 (λ is read. tagged 1 kind rest x is (remove_reads rest x inner read))
    (λ e1. either (eqb kind 2) (send_at rest) no2 x G e1 (λ is read. tagged 2 kind rest x is (send_reads rest x inner read))
    (λ e2. either (eqb kind 3) (receive_at rest) no3 x G e2 (λ is read. tagged 3 kind rest x is (receive_reads rest x inner read))
    (λ e3. either (eqb kind 4) (delete_at rest) no4 x G e3 (λ is read. tagged 4 kind rest x is (delete_reads rest x inner read))
    (λ e4. either (eqb kind 5) (change_at rest) no5 x G e4 (λ is read. tagged 5 kind rest x is (change_reads rest x inner read))
    (λ e5. absurd cc))))))

pub ask_is_read : IsRead ask ask_at IsAsk
unfolding ask ask_at create_at remove_at send_at receive_at delete_at change_at
ask_is_read (Create queue visibility content) rest fits = three_read text name_at IsName number32 seconds_at IsSeconds flag flag_at (λ _. ⊤) Create name_is_read seconds_is_read flag_is_read queue visibility content rest (fits.0, (fits.1, tt))
ask_is_read (Remove queue) rest fits = one_read text name_at IsName Remove name_is_read queue rest fits
ask_is_read (Send queue group dedup body) rest fits = four_read text name_at IsName text id_at IsId (optional text) (optional_at id_at) (IfThere IsId) text body_at IsBody Send name_is_read id_is_read (optional_is_read text id_at IsId id_is_read) body_is_read queue group dedup body rest fits
ask_is_read (Receive queue size visibility) rest fits = three_read text name_at IsName number32 batch_at IsBatch (optional number32) (optional_at seconds_at) (IfThere IsSeconds) Receive name_is_read batch_is_read (optional_is_read number32 seconds_at IsSeconds seconds_is_read) queue size visibility rest fits
ask_is_read (Delete queue handle) rest fits = two_read text name_at IsName receipt receipt_at IsHandle Delete name_is_read receipt_is_read queue handle rest fits
ask_is_read (Change queue handle visibility) rest fits = three_read text name_at IsName receipt receipt_at IsHandle number32 seconds_at IsSeconds Change name_is_read receipt_is_read seconds_is_read queue handle visibility rest fits

made_request : ℕ → ℕ → Ask → Request
made_request client number one = record { client = client; number = number; ask = one }

pub request_reads : Reads request request_at IsRequest
unfolding request_at request made_request
request_reads bytes x fits e =
    three number32 (number_at w32) (λ n. n < 2 ^ 32) number64 (number_at w64) (λ n. n < 2 ^ 64) ask ask_at IsAsk made_request reads32 reads64 ask_reads bytes x fits e (λ y. Takes bytes (request y.0) y.1 × IsRequest y.0) (λ a b c rest t f. (t, f))

pub request_is_read : IsRead request request_at IsRequest
unfolding request_at request made_request
request_is_read r rest fits = three_read number32 (number_at w32) (λ n. n < 2 ^ 32) number64 (number_at w64) (λ n. n < 2 ^ 64) ask ask_at IsAsk made_request is_read32 is_read64 ask_is_read r.client r.number r.ask rest fits

made_entry : ℕ → Request → Entry
made_entry moment r = record { moment = moment; request = r }

pub entry_reads : Reads entry entry_at IsEntry
unfolding entry_at entry made_entry
entry_reads bytes x fits e =
    two number64 moment_at (λ n. n ≤ MOMENT_LIMIT) request request_at IsRequest made_entry moment_reads request_reads bytes x fits e (λ y. Takes bytes (entry y.0) y.1 × IsEntry y.0) (λ a b rest t f. (t, f))

pub entry_is_read : IsRead entry entry_at IsEntry
unfolding entry_at entry made_entry
entry_is_read x rest fits = two_read number64 moment_at (λ n. n ≤ MOMENT_LIMIT) request request_at IsRequest made_entry moment_is_read request_is_read x.moment x.request rest fits

made_query : ℕ → ℕ → List ℕ → Query
made_query client tag queue = record { client = client; tag = tag; queue = queue }

pub query_reads : Reads query query_at IsQuery
unfolding query_at query made_query
query_reads bytes x fits e =
    three number32 (number_at w32) (λ n. n < 2 ^ 32) number64 (number_at w64) (λ n. n < 2 ^ 64) text name_at IsName made_query reads32 reads64 name_reads bytes x fits e (λ y. Takes bytes (query y.0) y.1 × IsQuery y.0) (λ a b c rest t f. (t, f))

pub query_is_read : IsRead query query_at IsQuery
unfolding query_at query made_query
query_is_read q rest fits = three_read number32 (number_at w32) (λ n. n < 2 ^ 32) number64 (number_at w64) (λ n. n < 2 ^ 64) text name_at IsName made_query is_read32 is_read64 name_is_read q.client q.tag q.queue rest fits
