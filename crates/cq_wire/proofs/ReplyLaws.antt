-- Replies that are read were written so, and what was written is read.
use Rattle.std.proofs.Common.{◌≡◌, ℕ, zero, suc, ◌^◌, ◌<◌, true, cond, eqb, List, [], ◌∷◌, ◌++◌, length, Result, Ok, Err, refl, sym, ap, subst, ◌∙◌, append_assoc, arith}
use Rattle.std.specs.Prelude.{⊤}
use Rattle.std.specs.Int.{w32, w64}
use Rattle.std.specs.List.{flat_map, AllByRecursion}
use Rattle.std.proofs.lemmas.Bool.{eqb-true}
use Rattle.std.proofs.lemmas.List.Concat.{flat_map-cons}
use Rattle.cq_base.specs.declared.reply.Delivery.{Delivery}
use Rattle.cq_base.specs.declared.reply.Reply.{Reply}
use Rattle.cq_base.specs.declared.reply.Reply.TheVariants.{Created, Removed, Sent, Received, Deleted, Changed, Counts, Refused}
use Rattle.cq_base.specs.declared.reply.Refusal.{Refusal}
use Rattle.cq_base.specs.declared.reply.Refusal.TheVariants.{QueueDoesNotExist, QueueNameExists, QueueDeletedRecently, ReceiptHandleIsInvalid, MessageNotInflight, VisibilityBeyondLimit, StaleNumber, MissingDedupId}
use Rattle.cq_base.specs.Handle.{Handle, IsHandle}
use Rattle.cq_base.specs.Refusals.{refusal_code}
use Rattle.cq_wire.specs.declared.fault.WireFault.{WireFault}
use Rattle.cq_wire.specs.declared.fault.WireFault.TheVariants.{BadTag, BadNumber}
use Rattle.cq_wire.specs.Layout.{number32, number64, text, flag, receipt, listed, delivery, reply}
use Rattle.cq_wire.specs.Limits.{IsId, IsBody, IsDelivery, AreListed, IsReply}
use Rattle.cq_wire.specs.Reading.{◌>>=◌, Reader, number_at, flag_at, id_at, body_at, receipt_at, several_at, listed_at, delivery_at, refusal_of, created_at, sent_at, received_at, deleted_at, counts_at, refused_at, reply_at}
use Rattle.cq_wire.proofs.Fronts.{IsBytes, IsBytes-rest, Takes, Takes-then, Takes-nothing, Takes-tagged, Reads, IsRead, bind_ok, ok_is, either, read_as}
use Rattle.cq_wire.proofs.Sequences.{one, two, three, one_read, two_read, three_read}
use Rattle.cq_wire.proofs.PartLaws.{reads32, reads64, is_read32, is_read64, flag_reads, flag_is_read, id_reads, id_is_read, body_reads, body_is_read, receipt_reads, receipt_is_read}

-- ---- lists

several_read : {A : Type 0} (layout : A → List ℕ) (read : Reader A) (P : A → Type 0) → Reads layout read P → (n : ℕ) (bytes : List ℕ) (x : List A × List ℕ) → IsBytes bytes → several_at read n bytes ≡ Ok x
    → Takes bytes (flat_map layout x.0) x.1 × ((length x.0 ≡ n) × AllByRecursion P x.0)
unfolding several_at
several_read {A} layout read P reads zero bytes x fits e =
    subst (λ (y : List A × List ℕ). Takes bytes (flat_map layout y.0) y.1 × ((length y.0 ≡ 0) × AllByRecursion P y.0)) (ok_is ([], bytes) x e) (Takes-nothing bytes fits, (refl, tt))
several_read {A} layout read P reads (suc n) bytes x fits e =
    let a = bind_ok (read bytes) (λ first. several_at read n first.1 >>= λ others. Ok (first.0 ∷ others.0, others.1)) x e in
    let b = bind_ok (several_at read n a.0.1) (λ others. Ok (a.0.0 ∷ others.0, others.1)) x a.2 in
    let first = reads bytes a.0 fits a.1 in
    let second = several_read layout read P reads n a.0.1 b.0 first.0.rest_fits b.1 in
    let both = Takes-then bytes (layout a.0.0) a.0.1 (flat_map layout b.0.0) b.0.1 first.0 second.0 in
    let made : List A × List ℕ = (a.0.0 ∷ b.0.0, b.0.1) in
    subst (λ (y : List A × List ℕ). Takes bytes (flat_map layout y.0) y.1 × ((length y.0 ≡ suc n) × AllByRecursion P y.0)) (ok_is made x b.2) (rw flat_map-cons both, (ap suc second.1.0, (first.1, second.1.1)))

listed_reads : {A : Type 0} (layout : A → List ℕ) (read : Reader A) (P : A → Type 0) → Reads layout read P → Reads (listed layout) (listed_at read) (AreListed P)
unfolding listed_at listed
listed_reads layout read P reads bytes x fits e =
    let n = bind_ok (number_at w64 bytes) (λ n. several_at read n.0 n.1) x e in
    let number = reads64 bytes n.0 fits n.1 in
    let s = several_read layout read P reads n.0.0 n.0.1 x number.0.rest_fits n.2 in
    let both = Takes-then bytes (number64 n.0.0) n.0.1 (flat_map layout x.0) x.1 number.0 s.0 in
    (subst (λ (m : ℕ). Takes bytes (number64 m ++ flat_map layout x.0) x.1) (sym s.1.0) both, (omega (arith, s.1.0, number.1), s.1.1))

several_are_read : {A : Type 0} (layout : A → List ℕ) (read : Reader A) (P : A → Type 0) → IsRead layout read P → (xs : List A) (rest : List ℕ) → AllByRecursion P xs
    → several_at read (length xs) (flat_map layout xs ++ rest) ≡ Ok (xs, rest)
unfolding several_at
several_are_read layout read P is_read [] rest fits = refl
several_are_read layout read P is_read (x ∷ xs) rest fits =
    ap (several_at read (suc (length xs))) (ap (λ (b : List ℕ). b ++ rest) (flat_map-cons layout x xs) ∙ append_assoc (layout x) (flat_map layout xs) rest)
    ∙ rw (is_read x (flat_map layout xs ++ rest) fits.0, several_are_read layout read P is_read xs rest fits.1) refl

listed_is_read : {A : Type 0} (layout : A → List ℕ) (read : Reader A) (P : A → Type 0) → IsRead layout read P → IsRead (listed layout) (listed_at read) (AreListed P)
unfolding listed listed_at
listed_is_read layout read P is_read xs rest fits =
    ap (listed_at read) (append_assoc (number64 (length xs)) (flat_map layout xs) rest)
    ∙ rw (is_read64 (length xs) (flat_map layout xs ++ rest) fits.0, several_are_read layout read P is_read xs rest fits.1) refl

-- ---- deliveries

made_delivery : Handle → List ℕ → List ℕ → Delivery
made_delivery handle group body = record { receipt = handle; group = group; body = body }

delivery_reads : Reads delivery delivery_at IsDelivery
unfolding delivery_at delivery made_delivery
delivery_reads bytes x fits e =
    three receipt receipt_at IsHandle text id_at IsId text body_at IsBody made_delivery receipt_reads id_reads body_reads bytes x fits e (λ y. Takes bytes (delivery y.0) y.1 × IsDelivery y.0) (λ a b c rest t f. (t, f))

delivery_is_read : IsRead delivery delivery_at IsDelivery
unfolding delivery_at delivery made_delivery
delivery_is_read d rest fits = three_read receipt receipt_at IsHandle text id_at IsId text body_at IsBody made_delivery receipt_is_read id_is_read body_is_read d.receipt d.group d.body rest fits

-- ---- refusals

small : (r : Refusal) → refusal_code r < 2 ^ 32
small QueueDoesNotExist = omega arith
small QueueNameExists = omega arith
small QueueDeletedRecently = omega arith
small ReceiptHandleIsInvalid = omega arith
small MessageNotInflight = omega arith
small VisibilityBeyondLimit = omega arith
small StaleNumber = omega arith
small MissingDedupId = omega arith

known : (r : Refusal) → refusal_of (refusal_code r) ≡ Ok r
unfolding refusal_of
known QueueDoesNotExist = refl
known QueueNameExists = refl
known QueueDeletedRecently = refl
known ReceiptHandleIsInvalid = refl
known MessageNotInflight = refl
known VisibilityBeyondLimit = refl
known StaleNumber = refl
known MissingDedupId = refl

abbrev found : Refusal → Result Refusal WireFault
found r = Ok r

is_code : (n tag : ℕ) (r s : Refusal) → eqb n tag ≡ true → refusal_code s ≡ tag → found s ≡ found r → refusal_code r ≡ n
is_code n tag r s is code e = ap refusal_code (sym (ok_is s r e)) ∙ code ∙ sym (eqb-true n tag is)

-- a refusal has one number
coded : (n : ℕ) (r : Refusal) → refusal_of n ≡ Ok r → refusal_code r ≡ n
unfolding refusal_of
coded n r e =
    let G = refusal_code r ≡ n in
    let no8 : Result Refusal WireFault = Err BadNumber in
    let no7 = cond (eqb n 8) (Ok MissingDedupId) no8 in
    let no6 = cond (eqb n 7) (Ok StaleNumber) no7 in
    let no5 = cond (eqb n 6) (Ok VisibilityBeyondLimit) no6 in
    let no4 = cond (eqb n 5) (Ok MessageNotInflight) no5 in
    let no3 = cond (eqb n 4) (Ok ReceiptHandleIsInvalid) no4 in
    let no2 = cond (eqb n 3) (Ok QueueDeletedRecently) no3 in
    let no1 = cond (eqb n 2) (Ok QueueNameExists) no2 in
    either (eqb n 1) (Ok QueueDoesNotExist) no1 r G e (λ is y. is_code n 1 r QueueDoesNotExist is refl y)
    (λ e1. either (eqb n 2) (Ok QueueNameExists) no2 r G e1 (λ is y. is_code n 2 r QueueNameExists is refl y)
    (λ e2. either (eqb n 3) (Ok QueueDeletedRecently) no3 r G e2 (λ is y. is_code n 3 r QueueDeletedRecently is refl y)
    (λ e3. either (eqb n 4) (Ok ReceiptHandleIsInvalid) no4 r G e3 (λ is y. is_code n 4 r ReceiptHandleIsInvalid is refl y)
    (λ e4. either (eqb n 5) (Ok MessageNotInflight) no5 r G e4 (λ is y. is_code n 5 r MessageNotInflight is refl y)
    (λ e5. either (eqb n 6) (Ok VisibilityBeyondLimit) no6 r G e5 (λ is y. is_code n 6 r VisibilityBeyondLimit is refl y)
    (λ e6. either (eqb n 7) (Ok StaleNumber) no7 r G e6 (λ is y. is_code n 7 r StaleNumber is refl y)
    (λ e7. either (eqb n 8) (Ok MissingDedupId) no8 r G e7 (λ is y. is_code n 8 r MissingDedupId is refl y)
    (λ e8. absurd cc))))))))

-- ---- replies

-- what is read of a reply, with the byte for its kind
abbrev IsReplyRead : ℕ → List ℕ → Reply × List ℕ → Type 0
IsReplyRead kind bytes x = Takes (kind ∷ bytes) (reply x.0) x.1 × IsReply x.0

created_reads : (bytes : List ℕ) (x : Reply × List ℕ) → IsBytes bytes → created_at bytes ≡ Ok x → IsReplyRead 0 bytes x
unfolding created_at reply
created_reads bytes x fits e =
    one number64 (number_at w64) (λ n. n < 2 ^ 64) Created reads64 bytes x fits e (IsReplyRead 0 bytes)
    (λ a rest t f. (Takes-tagged 0 bytes (number64 a) rest t, f))

removed_reads : (bytes : List ℕ) (x : Reply × List ℕ) → IsBytes bytes → read_as Removed bytes ≡ Ok x → IsReplyRead 1 bytes x
unfolding reply
removed_reads bytes x fits e = subst (IsReplyRead 1 bytes) (ok_is (Removed, bytes) x e) (Takes-tagged 1 bytes [] bytes (Takes-nothing bytes fits), tt)

sent_reads : (bytes : List ℕ) (x : Reply × List ℕ) → IsBytes bytes → sent_at bytes ≡ Ok x → IsReplyRead 2 bytes x
unfolding sent_at reply
sent_reads bytes x fits e =
    one number64 (number_at w64) (λ n. n < 2 ^ 64) Sent reads64 bytes x fits e (IsReplyRead 2 bytes)
    (λ a rest t f. (Takes-tagged 2 bytes (number64 a) rest t, f))

received_reads : (bytes : List ℕ) (x : Reply × List ℕ) → IsBytes bytes → received_at bytes ≡ Ok x → IsReplyRead 3 bytes x
unfolding received_at reply
received_reads bytes x fits e =
    one (listed delivery) (listed_at delivery_at) (AreListed IsDelivery) Received (listed_reads delivery delivery_at IsDelivery delivery_reads) bytes x fits e (IsReplyRead 3 bytes)
    (λ a rest t f. (Takes-tagged 3 bytes (listed delivery a) rest t, f))

deleted_reads : (bytes : List ℕ) (x : Reply × List ℕ) → IsBytes bytes → deleted_at bytes ≡ Ok x → IsReplyRead 4 bytes x
unfolding deleted_at reply
deleted_reads bytes x fits e =
    one flag flag_at (λ _. ⊤) Deleted flag_reads bytes x fits e (IsReplyRead 4 bytes)
    (λ a rest t f. (Takes-tagged 4 bytes (flag a) rest t, tt))

changed_reads : (bytes : List ℕ) (x : Reply × List ℕ) → IsBytes bytes → read_as Changed bytes ≡ Ok x → IsReplyRead 5 bytes x
unfolding reply
changed_reads bytes x fits e = subst (IsReplyRead 5 bytes) (ok_is (Changed, bytes) x e) (Takes-tagged 5 bytes [] bytes (Takes-nothing bytes fits), tt)

counts_reads : (bytes : List ℕ) (x : Reply × List ℕ) → IsBytes bytes → counts_at bytes ≡ Ok x → IsReplyRead 6 bytes x
unfolding counts_at reply
counts_reads bytes x fits e =
    two number64 (number_at w64) (λ n. n < 2 ^ 64) number64 (number_at w64) (λ n. n < 2 ^ 64) Counts reads64 reads64 bytes x fits e (IsReplyRead 6 bytes)
    (λ a b rest t f. (Takes-tagged 6 bytes (number64 a ++ number64 b) rest t, f))

refused_reads : (bytes : List ℕ) (x : Reply × List ℕ) → IsBytes bytes → refused_at bytes ≡ Ok x → IsReplyRead 7 bytes x
unfolding refused_at reply
refused_reads bytes x fits e =
    let n = bind_ok (number_at w32 bytes) (λ n. refusal_of n.0 >>= λ r. read_as (Refused r) n.1) x e in
    let r = bind_ok (refusal_of n.0.0) (λ r. read_as (Refused r) n.0.1) x n.2 in
    let number = reads32 bytes n.0 fits n.1 in
    let code = coded n.0.0 r.0 r.1 in
    let takes : Takes bytes (number32 (refusal_code r.0)) n.0.1 = subst (λ (m : ℕ). Takes bytes (number32 m) n.0.1) (sym code) number.0 in
    subst (IsReplyRead 7 bytes) (ok_is (Refused r.0, n.0.1) x r.2) (Takes-tagged 7 bytes (number32 (refusal_code r.0)) n.0.1 takes, tt)

-- the byte for the kind is the tag
tagged : (tag kind : ℕ) (bytes : List ℕ) (x : Reply × List ℕ) → eqb kind tag ≡ true → IsReplyRead tag bytes x → IsReplyRead kind bytes x
tagged tag kind bytes x is read = subst (λ (k : ℕ). IsReplyRead k bytes x) (sym (eqb-true kind tag is)) read

pub reply_reads : Reads reply reply_at IsReply
unfolding reply_at
reply_reads [] x fits e = absurd cc
reply_reads (kind ∷ rest) x fits e =
    let inner = IsBytes-rest kind rest fits in
    let G = IsReplyRead kind rest x in
    let no7 : Result (Reply × List ℕ) WireFault = Err BadTag in
    let no6 = cond (eqb kind 7) (refused_at rest) no7 in
    let no5 = cond (eqb kind 6) (counts_at rest) no6 in
    let no4 = cond (eqb kind 5) (read_as Changed rest) no5 in
    let no3 = cond (eqb kind 4) (deleted_at rest) no4 in
    let no2 = cond (eqb kind 3) (received_at rest) no3 in
    let no1 = cond (eqb kind 2) (sent_at rest) no2 in
    let no0 = cond (eqb kind 1) (read_as Removed rest) no1 in
    either (eqb kind 0) (created_at rest) no0 x G e (λ is read. tagged 0 kind rest x is (created_reads rest x inner read))
    (λ e0. either (eqb kind 1) (read_as Removed rest) no1 x G e0 (λ is read. tagged 1 kind rest x is (removed_reads rest x inner read))
    (λ e1. either (eqb kind 2) (sent_at rest) no2 x G e1 (λ is read. tagged 2 kind rest x is (sent_reads rest x inner read))
    (λ e2. either (eqb kind 3) (received_at rest) no3 x G e2 (λ is read. tagged 3 kind rest x is (received_reads rest x inner read))
    (λ e3. either (eqb kind 4) (deleted_at rest) no4 x G e3 (λ is read. tagged 4 kind rest x is (deleted_reads rest x inner read))
    (λ e4. either (eqb kind 5) (read_as Changed rest) no5 x G e4 (λ is read. tagged 5 kind rest x is (changed_reads rest x inner read))
    (λ e5. either (eqb kind 6) (counts_at rest) no6 x G e5 (λ is read. tagged 6 kind rest x is (counts_reads rest x inner read))
    (λ e6. either (eqb kind 7) (refused_at rest) no7 x G e6 (λ is read. tagged 7 kind rest x is (refused_reads rest x inner read))
    (λ e7. absurd cc))))))))

pub reply_is_read : IsRead reply reply_at IsReply
unfolding reply reply_at created_at sent_at received_at deleted_at counts_at refused_at
reply_is_read (Created n) rest fits = one_read number64 (number_at w64) (λ n. n < 2 ^ 64) Created is_read64 n rest fits
reply_is_read Removed rest fits = refl
reply_is_read (Sent n) rest fits = one_read number64 (number_at w64) (λ n. n < 2 ^ 64) Sent is_read64 n rest fits
reply_is_read (Received ds) rest fits = one_read (listed delivery) (listed_at delivery_at) (AreListed IsDelivery) Received (listed_is_read delivery delivery_at IsDelivery delivery_is_read) ds rest fits
reply_is_read (Deleted b) rest fits = one_read flag flag_at (λ _. ⊤) Deleted flag_is_read b rest tt
reply_is_read Changed rest fits = refl
reply_is_read (Counts v f) rest fits = two_read number64 (number_at w64) (λ n. n < 2 ^ 64) number64 (number_at w64) (λ n. n < 2 ^ 64) Counts is_read64 is_read64 v f rest fits
reply_is_read (Refused r) rest fits = rw (is_read32 (refusal_code r) rest (small r), known r) refl
