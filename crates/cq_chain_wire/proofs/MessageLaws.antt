-- Messages that are read were written so, and what was written is read.
use Rattle.std.proofs.Common.{◌≡◌, ℕ, ◌^◌, ◌<◌, Bool, true, cond, eqb, List, [], ◌∷◌, ◌++◌, Result, Ok, Err, refl, sym, subst, append_assoc}
use Rattle.std.specs.Prelude.{⊤}
use Rattle.std.specs.Int.{w32, w64}
use Rattle.std.proofs.lemmas.Bool.{eqb-true}
use Rattle.cq_base.specs.declared.reply.Reply.{Reply}
use Rattle.cq_chain.specs.declared.message.Answer.{Answer}
use Rattle.cq_chain.specs.declared.message.Message.{Message}
use Rattle.cq_chain.specs.declared.message.Message.TheVariants as kinds
use Rattle.cq_wire.specs.declared.fault.WireFault.{WireFault}
use Rattle.cq_wire.specs.declared.fault.WireFault.TheVariants.{BadTag}
use Rattle.cq_wire.specs.Layout.{number32, number64, flag, optional, entry, reply}
use Rattle.cq_wire.specs.Limits.{IfThere, IsServer, IsEntry, IsReply}
use Rattle.cq_wire.specs.Reading.{◌>>=◌, number_at, server_at, flag_at, optional_at, entry_at, reply_at}
use Rattle.cq_wire.proofs.Fronts.{IsBytes, IsBytes-rest, Takes, Takes-then, Takes-nothing, Takes-tagged, Reads, IsRead, bind_ok, ok_is, either, read_as}
use Rattle.cq_wire.proofs.Sequences.{one, two, four, one_read, two_read, four_read}
use Rattle.cq_wire.proofs.PartLaws.{reads32, reads64, is_read32, is_read64, server_reads, server_is_read, flag_reads, flag_is_read, optional_reads, optional_is_read}
use Rattle.cq_wire.proofs.AskLaws.{entry_reads, entry_is_read}
use Rattle.cq_wire.proofs.ReplyLaws.{reply_reads, reply_is_read}
use Rattle.cq_chain_wire.specs.Layout.{answer, message}
use Rattle.cq_chain_wire.specs.Limits.{IsAnswer, IsMessage}
use Rattle.cq_chain_wire.specs.Reading.{answer_at, fwd_at, ack_at, report_at, adopt_at, be_tail_at, feed_at, have_at, adopted_at, caught_at, answered_at, message_at}

-- ---- parts

made_answer : ℕ → ℕ → Bool → ℕ → Reply → Answer
made_answer client number is_query length r = record { client = client; number = number; is_query = is_query; length = length; reply = r }

answer_reads : Reads answer answer_at IsAnswer
unfolding answer_at answer made_answer
answer_reads bytes x fits e =
    let a = bind_ok (number_at w32 bytes) (λ a. number_at w64 a.1 >>= λ b. flag_at b.1 >>= λ c. number_at w64 c.1 >>= λ d. reply_at d.1 >>= λ r. read_as (made_answer a.0 b.0 c.0 d.0 r.0) r.1) x e in
    let t = reads32 bytes a.0 fits a.1 in
    four number64 (number_at w64) (λ n. n < 2 ^ 64) flag flag_at (λ _. ⊤) number64 (number_at w64) (λ n. n < 2 ^ 64) reply reply_at IsReply (made_answer a.0.0) reads64 flag_reads reads64 reply_reads a.0.1 x t.0.rest_fits a.2 (λ y. Takes bytes (answer y.0) y.1 × IsAnswer y.0)
    (λ b c d r rest u f. (Takes-then bytes (number32 a.0.0) a.0.1 (number64 b ++ (flag c ++ (number64 d ++ reply r))) rest t.0 u, (t.1, f)))

answer_is_read : IsRead answer answer_at IsAnswer
unfolding answer_at answer made_answer
answer_is_read a rest fits =
    rw (append_assoc (number32 a.client) (number64 a.number ++ (flag a.is_query ++ (number64 a.length ++ reply a.reply))) rest, is_read32 a.client ((number64 a.number ++ (flag a.is_query ++ (number64 a.length ++ reply a.reply))) ++ rest) fits.0)
    (four_read number64 (number_at w64) (λ n. n < 2 ^ 64) flag flag_at (λ _. ⊤) number64 (number_at w64) (λ n. n < 2 ^ 64) reply reply_at IsReply (made_answer a.client) is_read64 flag_is_read is_read64 reply_is_read a.number a.is_query a.length a.reply rest fits.1)

-- ---- by their kinds

-- what is read of a message, with the byte for its kind
abbrev IsMessageRead : ℕ → List ℕ → Message × List ℕ → Type 0
IsMessageRead kind bytes x = Takes (kind ∷ bytes) (message x.0) x.1 × IsMessage x.0

fwd_reads : (bytes : List ℕ) (x : Message × List ℕ) → IsBytes bytes → fwd_at bytes ≡ Ok x → IsMessageRead 0 bytes x
unfolding fwd_at message
fwd_reads bytes x fits e =
    two number64 (number_at w64) (λ n. n < 2 ^ 64) entry entry_at IsEntry kinds.Fwd reads64 entry_reads bytes x fits e (IsMessageRead 0 bytes)
    (λ place x rest t f. (Takes-tagged 0 bytes (number64 place ++ entry x) rest t, f))

ack_reads : (bytes : List ℕ) (x : Message × List ℕ) → IsBytes bytes → ack_at bytes ≡ Ok x → IsMessageRead 2 bytes x
unfolding ack_at message
ack_reads bytes x fits e =
    one number64 (number_at w64) (λ n. n < 2 ^ 64) kinds.Ack reads64 bytes x fits e (IsMessageRead 2 bytes)
    (λ place rest t f. (Takes-tagged 2 bytes (number64 place) rest t, f))

be_head_reads : (bytes : List ℕ) (x : Message × List ℕ) → IsBytes bytes → read_as kinds.BeHead bytes ≡ Ok x → IsMessageRead 3 bytes x
unfolding message
be_head_reads bytes x fits e = subst (IsMessageRead 3 bytes) (ok_is (kinds.BeHead, bytes) x e) (Takes-tagged 3 bytes [] bytes (Takes-nothing bytes fits), tt)

report_reads : (bytes : List ℕ) (x : Message × List ℕ) → IsBytes bytes → report_at bytes ≡ Ok x → IsMessageRead 4 bytes x
unfolding report_at message
report_reads bytes x fits e =
    one number32 server_at IsServer kinds.Report server_reads bytes x fits e (IsMessageRead 4 bytes)
    (λ pred rest t f. (Takes-tagged 4 bytes (number32 pred) rest t, f))

adopt_reads : (bytes : List ℕ) (x : Message × List ℕ) → IsBytes bytes → adopt_at bytes ≡ Ok x → IsMessageRead 5 bytes x
unfolding adopt_at message
adopt_reads bytes x fits e =
    two number32 server_at IsServer number64 (number_at w64) (λ n. n < 2 ^ 64) kinds.Adopt server_reads reads64 bytes x fits e (IsMessageRead 5 bytes)
    (λ succ have rest t f. (Takes-tagged 5 bytes (number32 succ ++ number64 have) rest t, f))

be_tail_reads : (bytes : List ℕ) (x : Message × List ℕ) → IsBytes bytes → be_tail_at bytes ≡ Ok x → IsMessageRead 6 bytes x
unfolding be_tail_at message
be_tail_reads bytes x fits e =
    one number64 (number_at w64) (λ n. n < 2 ^ 64) kinds.BeTail reads64 bytes x fits e (IsMessageRead 6 bytes)
    (λ least rest t f. (Takes-tagged 6 bytes (number64 least) rest t, f))

feed_reads : (bytes : List ℕ) (x : Message × List ℕ) → IsBytes bytes → feed_at bytes ≡ Ok x → IsMessageRead 7 bytes x
unfolding feed_at message
feed_reads bytes x fits e =
    one (optional number32) (optional_at server_at) (IfThere IsServer) kinds.Feed (optional_reads number32 server_at IsServer server_reads) bytes x fits e (IsMessageRead 7 bytes)
    (λ succ rest t f. (Takes-tagged 7 bytes ((optional number32) succ) rest t, f))

have_reads : (bytes : List ℕ) (x : Message × List ℕ) → IsBytes bytes → have_at bytes ≡ Ok x → IsMessageRead 8 bytes x
unfolding have_at message
have_reads bytes x fits e =
    two number32 server_at IsServer number64 (number_at w64) (λ n. n < 2 ^ 64) kinds.Have server_reads reads64 bytes x fits e (IsMessageRead 8 bytes)
    (λ pred count rest t f. (Takes-tagged 8 bytes (number32 pred ++ number64 count) rest t, f))

adopted_reads : (bytes : List ℕ) (x : Message × List ℕ) → IsBytes bytes → adopted_at bytes ≡ Ok x → IsMessageRead 9 bytes x
unfolding adopted_at message
adopted_reads bytes x fits e =
    two number32 server_at IsServer number64 (number_at w64) (λ n. n < 2 ^ 64) kinds.Adopted server_reads reads64 bytes x fits e (IsMessageRead 9 bytes)
    (λ succ count rest t f. (Takes-tagged 9 bytes (number32 succ ++ number64 count) rest t, f))

caught_reads : (bytes : List ℕ) (x : Message × List ℕ) → IsBytes bytes → caught_at bytes ≡ Ok x → IsMessageRead 10 bytes x
unfolding caught_at message
caught_reads bytes x fits e =
    two number32 server_at IsServer number64 (number_at w64) (λ n. n < 2 ^ 64) kinds.Caught server_reads reads64 bytes x fits e (IsMessageRead 10 bytes)
    (λ pred count rest t f. (Takes-tagged 10 bytes (number32 pred ++ number64 count) rest t, f))

ready_reads : (bytes : List ℕ) (x : Message × List ℕ) → IsBytes bytes → read_as kinds.Ready bytes ≡ Ok x → IsMessageRead 11 bytes x
unfolding message
ready_reads bytes x fits e = subst (IsMessageRead 11 bytes) (ok_is (kinds.Ready, bytes) x e) (Takes-tagged 11 bytes [] bytes (Takes-nothing bytes fits), tt)

answered_reads : (bytes : List ℕ) (x : Message × List ℕ) → IsBytes bytes → answered_at bytes ≡ Ok x → IsMessageRead 12 bytes x
unfolding answered_at message
answered_reads bytes x fits e =
    one answer answer_at IsAnswer kinds.Answer answer_reads bytes x fits e (IsMessageRead 12 bytes)
    (λ a rest t f. (Takes-tagged 12 bytes (answer a) rest t, f))

-- the byte for the kind is the tag
tagged : (tag kind : ℕ) (bytes : List ℕ) (x : Message × List ℕ) → eqb kind tag ≡ true → IsMessageRead tag bytes x → IsMessageRead kind bytes x
tagged tag kind bytes x is read = subst (λ (k : ℕ). IsMessageRead k bytes x) (sym (eqb-true kind tag is)) read

pub message_reads : Reads message message_at IsMessage
unfolding message_at
message_reads [] x fits e = absurd cc
message_reads (kind ∷ rest) x fits e =
    let inner = IsBytes-rest kind rest fits in
    let G = IsMessageRead kind rest x in
    let none : Result (Message × List ℕ) WireFault = Err BadTag in
    let else10 = cond (eqb kind 12) (answered_at rest) none in
    let else9 = cond (eqb kind 11) (read_as kinds.Ready rest) else10 in
    let else8 = cond (eqb kind 10) (caught_at rest) else9 in
    let else7 = cond (eqb kind 9) (adopted_at rest) else8 in
    let else6 = cond (eqb kind 8) (have_at rest) else7 in
    let else5 = cond (eqb kind 7) (feed_at rest) else6 in
    let else4 = cond (eqb kind 6) (be_tail_at rest) else5 in
    let else3 = cond (eqb kind 5) (adopt_at rest) else4 in
    let else2 = cond (eqb kind 4) (report_at rest) else3 in
    let else1 = cond (eqb kind 3) (read_as kinds.BeHead rest) else2 in
    let else0 = cond (eqb kind 2) (ack_at rest) else1 in
    either (eqb kind 0) (fwd_at rest) else0 x G e (λ is read. tagged 0 kind rest x is (fwd_reads rest x inner read))
    (λ e0. either (eqb kind 2) (ack_at rest) else1 x G e0 (λ is read. tagged 2 kind rest x is (ack_reads rest x inner read))
    (λ e1. either (eqb kind 3) (read_as kinds.BeHead rest) else2 x G e1 (λ is read. tagged 3 kind rest x is (be_head_reads rest x inner read))
    (λ e2. either (eqb kind 4) (report_at rest) else3 x G e2 (λ is read. tagged 4 kind rest x is (report_reads rest x inner read))
    (λ e3. either (eqb kind 5) (adopt_at rest) else4 x G e3 (λ is read. tagged 5 kind rest x is (adopt_reads rest x inner read))
    (λ e4. either (eqb kind 6) (be_tail_at rest) else5 x G e4 (λ is read. tagged 6 kind rest x is (be_tail_reads rest x inner read))
    (λ e5. either (eqb kind 7) (feed_at rest) else6 x G e5 (λ is read. tagged 7 kind rest x is (feed_reads rest x inner read))
    (λ e6. either (eqb kind 8) (have_at rest) else7 x G e6 (λ is read. tagged 8 kind rest x is (have_reads rest x inner read))
    (λ e7. either (eqb kind 9) (adopted_at rest) else8 x G e7 (λ is read. tagged 9 kind rest x is (adopted_reads rest x inner read))
    (λ e8. either (eqb kind 10) (caught_at rest) else9 x G e8 (λ is read. tagged 10 kind rest x is (caught_reads rest x inner read))
    (λ e9. either (eqb kind 11) (read_as kinds.Ready rest) else10 x G e9 (λ is read. tagged 11 kind rest x is (ready_reads rest x inner read))
    (λ e10. either (eqb kind 12) (answered_at rest) none x G e10 (λ is read. tagged 12 kind rest x is (answered_reads rest x inner read))
    (λ e11. absurd cc))))))))))))

pub message_is_read : IsRead message message_at IsMessage
unfolding message message_at fwd_at ack_at report_at adopt_at be_tail_at feed_at have_at adopted_at caught_at answered_at
message_is_read (kinds.Snap state) rest fits = absurd fits
message_is_read (kinds.Fwd place x) rest fits = two_read number64 (number_at w64) (λ n. n < 2 ^ 64) entry entry_at IsEntry kinds.Fwd is_read64 entry_is_read place x rest fits
message_is_read (kinds.Ack place) rest fits = one_read number64 (number_at w64) (λ n. n < 2 ^ 64) kinds.Ack is_read64 place rest fits
message_is_read kinds.BeHead rest fits = refl
message_is_read (kinds.Report pred) rest fits = one_read number32 server_at IsServer kinds.Report server_is_read pred rest fits
message_is_read (kinds.Adopt succ have) rest fits = two_read number32 server_at IsServer number64 (number_at w64) (λ n. n < 2 ^ 64) kinds.Adopt server_is_read is_read64 succ have rest fits
message_is_read (kinds.BeTail least) rest fits = one_read number64 (number_at w64) (λ n. n < 2 ^ 64) kinds.BeTail is_read64 least rest fits
message_is_read (kinds.Feed succ) rest fits = one_read (optional number32) (optional_at server_at) (IfThere IsServer) kinds.Feed (optional_is_read number32 server_at IsServer server_is_read) succ rest fits
message_is_read (kinds.Have pred count) rest fits = two_read number32 server_at IsServer number64 (number_at w64) (λ n. n < 2 ^ 64) kinds.Have server_is_read is_read64 pred count rest fits
message_is_read (kinds.Adopted succ count) rest fits = two_read number32 server_at IsServer number64 (number_at w64) (λ n. n < 2 ^ 64) kinds.Adopted server_is_read is_read64 succ count rest fits
message_is_read (kinds.Caught pred count) rest fits = two_read number32 server_at IsServer number64 (number_at w64) (λ n. n < 2 ^ 64) kinds.Caught server_is_read is_read64 pred count rest fits
message_is_read kinds.Ready rest fits = refl
message_is_read (kinds.Answer a) rest fits = one_read answer answer_at IsAnswer kinds.Answer answer_is_read a rest fits
