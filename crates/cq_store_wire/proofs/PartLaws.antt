-- Parts that are read were written so, and what was written is read.
use Rattle.std.proofs.Common.{◌≡◌, ℕ, ◌^◌, ◌<◌, ◌≤◌, Bool, true, false, cond, eqb, ltb, leb, leb-true, le-leb, ltb-true, lt-ltb, List, [], ◌∷◌, ◌++◌, Option, Result, Ok, Err, refl, sym, subst, arith, ◌∙◌, ap}
use Rattle.std.specs.Prelude.{⊤, ◌&&◌}
use Rattle.std.specs.Int.{w32, w64}
use Rattle.std.proofs.lemmas.Bool.{eqb-true}
use Rattle.cq_base.specs.declared.limits.TheConstants.{HISTORY_LIMIT, MOMENT_LIMIT}
use Rattle.cq_base.specs.queue.Incarnations.{Accepted, Incarnation}
use Rattle.cq_base.specs.queue.Messages.{Message}
use Rattle.cq_wire.specs.declared.fault.WireFault.{WireFault}
use Rattle.cq_wire.specs.declared.fault.WireFault.TheVariants.{BadTag, BadNumber}
use Rattle.cq_wire.specs.Layout.{number32, number64, text, flag, optional}
use Rattle.cq_wire.specs.Limits.{IfThere, IsName, IsId, IsBody, IsSeconds}
use Rattle.cq_wire.specs.Reading.{number_at, moment_at, seconds_at, flag_at, name_at, id_at, body_at, optional_at}
use Rattle.cq_wire.proofs.Fronts.{IsBytes, IsBytes-rest, Takes, Takes-nothing, Takes-tagged, Reads, IsRead, ok_is, either, read_as}
use Rattle.cq_wire.proofs.Sequences.{kept_reads, kept_is_read, one, two, three, four, one_read, two_read, three_read, four_read}
use Rattle.cq_wire.proofs.PartLaws.{reads32, reads64, is_read32, is_read64, flag_reads, flag_is_read, optional_reads, optional_is_read, moment_reads, moment_is_read, seconds_reads, seconds_is_read, name_reads, name_is_read, id_reads, id_is_read, body_reads, body_is_read}
use Rattle.cq_store_wire.specs.declared.part.NameRecord.{NameRecord}
use Rattle.cq_store_wire.specs.declared.part.Part.{Part}
use Rattle.cq_store_wire.specs.declared.part.Part.TheVariants as parts
use Rattle.cq_store_wire.specs.declared.reply.ReplyRecord.{ReplyRecord}
use Rattle.cq_store_wire.specs.Layout.{accepted, handings, message, name, part, queue, reply_record, uses}
use Rattle.cq_store_wire.specs.Limits.{IsAccepted, IsBare, IsMessage, IsMoment, IsNameRecord, IsPart, IsReplyRecord}
use Rattle.cq_store_wire.specs.Reading.{a_message_at, a_name_at, accepted_at, an_accepted_at, any_message_at, any_queue_at, bare, client_at, handings_at, is_message, is_queue, made, message_at, name_record_at, part_at, queue_at, reply_record_at, start_at, uses_at}
use Rattle.cq_store_wire.proofs.ReplyLaws.{reply_record_is_read, reply_record_reads}

-- ---- three numbers

abbrev Three : Type 0
Three = ℕ × (ℕ × ℕ)

is_moment : ℕ → Type 0
is_moment n = n ≤ MOMENT_LIMIT

below64 : ℕ → Type 0
below64 n = n < 2 ^ 64

three_numbers : Three → List ℕ
three_numbers t = number64 t.0 ++ (number64 t.1.0 ++ number64 t.1.1)

abbrev triple : ℕ → ℕ → ℕ → Three
triple a b c = (a, (b, c))

AreUses : Three → Type 0
AreUses t = below64 t.0 × (below64 t.1.0 × is_moment t.1.1)

AreHandings : Three → Type 0
AreHandings t = below64 t.0 × (is_moment t.1.0 × below64 t.1.1)

uses_reads : Reads three_numbers uses_at AreUses
unfolding uses_at three_numbers AreUses below64 is_moment
uses_reads bytes x fits e =
    three number64 (number_at w64) (λ n. n < 2 ^ 64) number64 (number_at w64) (λ n. n < 2 ^ 64) number64 moment_at (λ n. n ≤ MOMENT_LIMIT) triple reads64 reads64 moment_reads bytes x fits e
    (λ y. Takes bytes (number64 y.0.0 ++ (number64 y.0.1.0 ++ number64 y.0.1.1)) y.1 × ((y.0.0 < 2 ^ 64) × ((y.0.1.0 < 2 ^ 64) × (y.0.1.1 ≤ MOMENT_LIMIT)))) (λ a b c rest t f. (t, f))

uses_is_read : IsRead three_numbers uses_at AreUses
unfolding uses_at three_numbers AreUses below64 is_moment
uses_is_read t rest fits = three_read number64 (number_at w64) (λ n. n < 2 ^ 64) number64 (number_at w64) (λ n. n < 2 ^ 64) number64 moment_at (λ n. n ≤ MOMENT_LIMIT) triple is_read64 is_read64 moment_is_read t.0 t.1.0 t.1.1 rest fits

handings_reads : Reads three_numbers handings_at AreHandings
unfolding handings_at three_numbers AreHandings below64 is_moment
handings_reads bytes x fits e =
    three number64 (number_at w64) (λ n. n < 2 ^ 64) number64 moment_at (λ n. n ≤ MOMENT_LIMIT) number64 (number_at w64) (λ n. n < 2 ^ 64) triple reads64 moment_reads reads64 bytes x fits e
    (λ y. Takes bytes (number64 y.0.0 ++ (number64 y.0.1.0 ++ number64 y.0.1.1)) y.1 × ((y.0.0 < 2 ^ 64) × ((y.0.1.0 ≤ MOMENT_LIMIT) × (y.0.1.1 < 2 ^ 64)))) (λ a b c rest t f. (t, f))

handings_is_read : IsRead three_numbers handings_at AreHandings
unfolding handings_at three_numbers AreHandings below64 is_moment
handings_is_read t rest fits = three_read number64 (number_at w64) (λ n. n < 2 ^ 64) number64 moment_at (λ n. n ≤ MOMENT_LIMIT) number64 (number_at w64) (λ n. n < 2 ^ 64) triple is_read64 moment_is_read is_read64 t.0 t.1.0 t.1.1 rest fits

two_true : (a b : Bool) → (a && b) ≡ true → (a ≡ true) × (b ≡ true)
two_true true true e = (refl, refl)
two_true true false e = absurd cc
two_true false b e = absurd cc

-- ---- queues and names

record IsAnyQueue (q : Incarnation) : Type 0 where
  number : q.number < 2 ^ 64
  visibility : IsSeconds q.attributes.visibility
  sent : q.sent < 2 ^ 64
  used : q.used < 2 ^ 64
  last : q.last ≤ MOMENT_LIMIT
  messages : q.messages ≡ []
  accepted : q.accepted ≡ []

any_queue_reads : Reads queue any_queue_at IsAnyQueue
unfolding any_queue_at queue uses three_numbers AreUses below64 is_moment
any_queue_reads bytes x fits e =
    four number64 (number_at w64) (λ n. n < 2 ^ 64) number32 seconds_at IsSeconds flag flag_at (λ _. ⊤) three_numbers uses_at AreUses bare reads64 seconds_reads flag_reads uses_reads bytes x fits e
    (λ y. Takes bytes (number64 y.0.number ++ (number32 y.0.attributes.visibility ++ (flag y.0.attributes.content ++ (number64 y.0.sent ++ (number64 y.0.used ++ number64 y.0.last))))) y.1 × IsAnyQueue y.0)
    (λ number visibility content used rest t f. (t, record { number = f.0; visibility = f.1.0; sent = f.1.1.1.0; used = f.1.1.1.1.0; last = f.1.1.1.1.1; messages = refl; accepted = refl }))

is_bare : (q : Incarnation) → q.messages ≡ [] → q.accepted ≡ [] → bare q.number q.attributes.visibility q.attributes.content (q.sent, (q.used, q.last)) ≡ q
is_bare q no_messages no_accepted =
    let filled : List Message → List Accepted → Incarnation = λ ms xs. record { number = q.number; attributes = q.attributes; sent = q.sent; messages = ms; accepted = xs; last = q.last; used = q.used } in
    ap (λ (ms : List Message). filled ms []) (sym no_messages) ∙ ap (λ (xs : List Accepted). filled q.messages xs) (sym no_accepted)

any_queue_is_read : IsRead queue any_queue_at IsAnyQueue
unfolding any_queue_at queue uses three_numbers AreUses below64 is_moment
any_queue_is_read q rest fits =
    four_read number64 (number_at w64) (λ n. n < 2 ^ 64) number32 seconds_at IsSeconds flag flag_at (λ _. ⊤) three_numbers uses_at AreUses bare is_read64 seconds_is_read flag_is_read uses_is_read
    q.number q.attributes.visibility q.attributes.content (q.sent, (q.used, q.last)) rest (fits.number, (fits.visibility, (tt, (fits.sent, (fits.used, fits.last)))))
    ∙ ap (λ (r : Incarnation). read_as r rest) (is_bare q fits.messages fits.accepted)

queue_reads : Reads queue queue_at IsBare
unfolding queue_at
queue_reads bytes x fits e =
    let r = kept_reads queue any_queue_at IsAnyQueue is_queue BadNumber any_queue_reads bytes x fits e in
    let a = two_true (ltb 0 x.0.number) (leb x.0.sent x.0.used && leb x.0.used HISTORY_LIMIT) r.1.1 in
    let b = two_true (leb x.0.sent x.0.used) (leb x.0.used HISTORY_LIMIT) a.1 in
    let q = r.1.0 in
    (r.0, record { number = (ltb-true _ _ a.0, q.number); visibility = q.visibility; sent = leb-true _ _ b.0; used = leb-true _ _ b.1; last = q.last; messages = q.messages; accepted = q.accepted })

queue_is_read : IsRead queue queue_at IsBare
unfolding queue_at
queue_is_read q rest fits =
    kept_is_read queue any_queue_at IsAnyQueue is_queue BadNumber any_queue_is_read q rest (
      record { number = fits.number.1; visibility = fits.visibility; sent = omega (arith, fits.sent, fits.used); used = omega (arith, fits.used); last = fits.last; messages = fits.messages; accepted = fits.accepted },
      rw (lt-ltb 0 q.number fits.number.0, le-leb _ _ fits.sent, le-leb _ _ fits.used) refl,
    )

abbrev made_record : List ℕ → ℕ → Option ℕ → Option Incarnation → NameRecord
made_record n creations removed living = record { name = n; creations = creations; removed = removed; living = living }

name_record_reads : Reads name name_record_at IsNameRecord
unfolding name_record_at name
name_record_reads bytes x fits e =
    four text name_at IsName number64 (number_at w64) (λ n. n < 2 ^ 64) (optional number64) (optional_at moment_at) (IfThere IsMoment) (optional queue) (optional_at queue_at) (IfThere IsBare) made_record
    name_reads reads64 (optional_reads number64 moment_at IsMoment moment_reads) (optional_reads queue queue_at IsBare queue_reads) bytes x fits e
    (λ y. Takes bytes (text y.0.name ++ (number64 y.0.creations ++ (optional number64 y.0.removed ++ optional queue y.0.living))) y.1 × IsNameRecord y.0) (λ n creations removed living rest t f. (t, f))

name_record_is_read : IsRead name name_record_at IsNameRecord
unfolding name_record_at name
name_record_is_read n rest fits =
    four_read text name_at IsName number64 (number_at w64) (λ n. n < 2 ^ 64) (optional number64) (optional_at moment_at) (IfThere IsMoment) (optional queue) (optional_at queue_at) (IfThere IsBare) made_record
    name_is_read is_read64 (optional_is_read number64 moment_at IsMoment moment_is_read) (optional_is_read queue queue_at IsBare queue_is_read) n.name n.creations n.removed n.living rest fits

-- ---- messages and accepted sends

record IsAnyMessage (m : Message) : Type 0 where
  sequence : m.sequence < 2 ^ 64
  group : IsId m.group
  body : IsBody m.body
  handings : m.handings < 2 ^ 64
  handed_at : m.handed_at ≤ MOMENT_LIMIT
  until : m.until < 2 ^ 64

any_message_reads : Reads message any_message_at IsAnyMessage
unfolding any_message_at message handings three_numbers AreHandings below64 is_moment
any_message_reads bytes x fits e =
    four number64 (number_at w64) (λ n. n < 2 ^ 64) text id_at IsId text body_at IsBody three_numbers handings_at AreHandings made reads64 id_reads body_reads handings_reads bytes x fits e
    (λ y. Takes bytes (number64 y.0.sequence ++ (text y.0.group ++ (text y.0.body ++ (number64 y.0.handings ++ (number64 y.0.handed_at ++ number64 y.0.until))))) y.1 × IsAnyMessage y.0)
    (λ sequence group body handed rest t f. (t, record { sequence = f.0; group = f.1.0; body = f.1.1.0; handings = f.1.1.1.0; handed_at = f.1.1.1.1.0; until = f.1.1.1.1.1 }))

any_message_is_read : IsRead message any_message_at IsAnyMessage
unfolding any_message_at message handings three_numbers AreHandings below64 is_moment
any_message_is_read m rest fits =
    four_read number64 (number_at w64) (λ n. n < 2 ^ 64) text id_at IsId text body_at IsBody three_numbers handings_at AreHandings made is_read64 id_is_read body_is_read handings_is_read
    m.sequence m.group m.body (m.handings, (m.handed_at, m.until)) rest (fits.sequence, (fits.group, (fits.body, (fits.handings, (fits.handed_at, fits.until)))))

message_reads : Reads message message_at IsMessage
unfolding message_at
message_reads bytes x fits e =
    let r = kept_reads message any_message_at IsAnyMessage is_message BadNumber any_message_reads bytes x fits e in
    let a = two_true (ltb 0 x.0.sequence) (leb x.0.handings HISTORY_LIMIT) r.1.1 in
    let m = r.1.0 in
    (r.0, record { sequence = (ltb-true _ _ a.0, m.sequence); group = m.group; body = m.body; handings = leb-true _ _ a.1; handed_at = m.handed_at; until = m.until })

message_is_read : IsRead message message_at IsMessage
unfolding message_at
message_is_read m rest fits =
    kept_is_read message any_message_at IsAnyMessage is_message BadNumber any_message_is_read m rest (
      record { sequence = fits.sequence.1; group = fits.group; body = fits.body; handings = omega (arith, fits.handings); handed_at = fits.handed_at; until = fits.until },
      rw (lt-ltb 0 m.sequence fits.sequence.0, le-leb _ _ fits.handings) refl,
    )

abbrev made_accepted : List ℕ → ℕ → ℕ → Accepted
made_accepted dedup moment sequence = record { dedup = dedup; moment = moment; sequence = sequence }

accepted_reads : Reads accepted accepted_at IsAccepted
unfolding accepted_at accepted
accepted_reads bytes x fits e =
    three text id_at IsId number64 moment_at IsMoment number64 (number_at w64) (λ n. n < 2 ^ 64) made_accepted id_reads moment_reads reads64 bytes x fits e
    (λ y. Takes bytes (text y.0.dedup ++ (number64 y.0.moment ++ number64 y.0.sequence)) y.1 × IsAccepted y.0) (λ dedup moment sequence rest t f. (t, f))

accepted_is_read : IsRead accepted accepted_at IsAccepted
unfolding accepted_at accepted
accepted_is_read a rest fits = three_read text id_at IsId number64 moment_at IsMoment number64 (number_at w64) (λ n. n < 2 ^ 64) made_accepted id_is_read moment_is_read is_read64 a.dedup a.moment a.sequence rest fits

-- ---- parts by their kinds

-- what is read of a part, with the byte for its kind
abbrev IsPartRead : ℕ → List ℕ → Part × List ℕ → Type 0
IsPartRead kind bytes x = Takes (kind ∷ bytes) (part x.0) x.1 × IsPart x.0

abbrev made_client : ℕ → ℕ → ReplyRecord → Part
made_client client number one = parts.Client client number one

start_reads : (bytes : List ℕ) (x : Part × List ℕ) → IsBytes bytes → start_at bytes ≡ Ok x → IsPartRead 0 bytes x
unfolding start_at part
start_reads bytes x fits e =
    two number64 (number_at w64) (λ n. n < 2 ^ 64) number64 moment_at IsMoment parts.Start reads64 moment_reads bytes x fits e (IsPartRead 0 bytes)
    (λ count last rest t f. (Takes-tagged 0 bytes (number64 count ++ number64 last) rest t, f))

client_reads : (bytes : List ℕ) (x : Part × List ℕ) → IsBytes bytes → client_at bytes ≡ Ok x → IsPartRead 1 bytes x
unfolding client_at part
client_reads bytes x fits e =
    three number32 (number_at w32) (λ n. n < 2 ^ 32) number64 (number_at w64) (λ n. n < 2 ^ 64) reply_record reply_record_at IsReplyRecord made_client reads32 reads64 reply_record_reads bytes x fits e (IsPartRead 1 bytes)
    (λ client number r rest t f. (Takes-tagged 1 bytes (number32 client ++ (number64 number ++ reply_record r)) rest t, f))

a_name_reads : (bytes : List ℕ) (x : Part × List ℕ) → IsBytes bytes → a_name_at bytes ≡ Ok x → IsPartRead 2 bytes x
unfolding a_name_at part
a_name_reads bytes x fits e =
    one name name_record_at IsNameRecord parts.Name name_record_reads bytes x fits e (IsPartRead 2 bytes)
    (λ n rest t f. (Takes-tagged 2 bytes (name n) rest t, f))

a_message_reads : (bytes : List ℕ) (x : Part × List ℕ) → IsBytes bytes → a_message_at bytes ≡ Ok x → IsPartRead 3 bytes x
unfolding a_message_at part
a_message_reads bytes x fits e =
    one message message_at IsMessage parts.Message message_reads bytes x fits e (IsPartRead 3 bytes)
    (λ m rest t f. (Takes-tagged 3 bytes (message m) rest t, f))

an_accepted_reads : (bytes : List ℕ) (x : Part × List ℕ) → IsBytes bytes → an_accepted_at bytes ≡ Ok x → IsPartRead 4 bytes x
unfolding an_accepted_at part
an_accepted_reads bytes x fits e =
    one accepted accepted_at IsAccepted parts.Accepted accepted_reads bytes x fits e (IsPartRead 4 bytes)
    (λ a rest t f. (Takes-tagged 4 bytes (accepted a) rest t, f))

end_reads : (bytes : List ℕ) (x : Part × List ℕ) → IsBytes bytes → read_as parts.End bytes ≡ Ok x → IsPartRead 5 bytes x
unfolding part
end_reads bytes x fits e = subst (IsPartRead 5 bytes) (ok_is (parts.End, bytes) x e) (Takes-tagged 5 bytes [] bytes (Takes-nothing bytes fits), tt)

-- the byte for the kind is the tag
tagged : (tag kind : ℕ) (bytes : List ℕ) (x : Part × List ℕ) → eqb kind tag ≡ true → IsPartRead tag bytes x → IsPartRead kind bytes x
tagged tag kind bytes x is read = subst (λ (k : ℕ). IsPartRead k bytes x) (sym (eqb-true kind tag is)) read

pub part_reads : Reads part part_at IsPart
unfolding part_at
part_reads [] x fits e = absurd cc
part_reads (kind ∷ rest) x fits e =
    let inner = IsBytes-rest kind rest fits in
    let G = IsPartRead kind rest x in
    let none : Result (Part × List ℕ) WireFault = Err BadTag in
    let else4 = cond (eqb kind 5) (read_as parts.End rest) none in
    let else3 = cond (eqb kind 4) (an_accepted_at rest) else4 in
    let else2 = cond (eqb kind 3) (a_message_at rest) else3 in
    let else1 = cond (eqb kind 2) (a_name_at rest) else2 in
    let else0 = cond (eqb kind 1) (client_at rest) else1 in
    either (eqb kind 0) (start_at rest) else0 x G e (λ is read. tagged 0 kind rest x is (start_reads rest x inner read))
    (λ e0. either (eqb kind 1) (client_at rest) else1 x G e0 (λ is read. tagged 1 kind rest x is (client_reads rest x inner read))
    (λ e1. either (eqb kind 2) (a_name_at rest) else2 x G e1 (λ is read. tagged 2 kind rest x is (a_name_reads rest x inner read))
    (λ e2. either (eqb kind 3) (a_message_at rest) else3 x G e2 (λ is read. tagged 3 kind rest x is (a_message_reads rest x inner read))
    (λ e3. either (eqb kind 4) (an_accepted_at rest) else4 x G e3 (λ is read. tagged 4 kind rest x is (an_accepted_reads rest x inner read))
    (λ e4. either (eqb kind 5) (read_as parts.End rest) none x G e4 (λ is read. tagged 5 kind rest x is (end_reads rest x inner read))
    (λ e5. absurd cc))))))

pub part_is_read : IsRead part part_at IsPart
unfolding part part_at start_at client_at a_name_at a_message_at an_accepted_at
part_is_read (parts.Start count last) rest fits = two_read number64 (number_at w64) (λ n. n < 2 ^ 64) number64 moment_at IsMoment parts.Start is_read64 moment_is_read count last rest fits
part_is_read (parts.Client client number r) rest fits = three_read number32 (number_at w32) (λ n. n < 2 ^ 32) number64 (number_at w64) (λ n. n < 2 ^ 64) reply_record reply_record_at IsReplyRecord made_client is_read32 is_read64 reply_record_is_read client number r rest fits
part_is_read (parts.Name n) rest fits = one_read name name_record_at IsNameRecord parts.Name name_record_is_read n rest fits
part_is_read (parts.Message m) rest fits = one_read message message_at IsMessage parts.Message message_is_read m rest fits
part_is_read (parts.Accepted a) rest fits = one_read accepted accepted_at IsAccepted parts.Accepted accepted_is_read a rest fits
part_is_read parts.End rest fits = refl
