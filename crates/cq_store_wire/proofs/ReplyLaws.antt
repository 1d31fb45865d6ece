-- Kept replies that are read were written so, and what was written is read.
use Rattle.std.proofs.Common.{◌≡◌, ℕ, zero, suc, ◌^◌, ◌<◌, Bool, true, false, cond, eqb, List, [], ◌∷◌, ◌++◌, length, None, Result, Ok, Err, refl, sym, ap, subst, ◌∙◌, append_assoc, arith}
use Rattle.std.specs.Int.{w64}
use Rattle.std.specs.List.{flat_map, AllByRecursion}
use Rattle.std.proofs.lemmas.Bool.{eqb-true}
use Rattle.std.proofs.lemmas.List.Concat.{flat_map-cons}
use Rattle.cq_base.specs.Handle.{Handle, IsHandle}
use Rattle.cq_base.specs.declared.reply.Reply.{Reply}
use Rattle.cq_base.specs.declared.reply.Reply.TheVariants as replies
use Rattle.cq_wire.specs.declared.fault.WireFault.{WireFault}
use Rattle.cq_wire.specs.declared.fault.WireFault.TheVariants.{BadTag}
use Rattle.cq_wire.specs.Layout.{number64, text, receipt, listed, reply}
use Rattle.cq_wire.specs.Limits.{IsId, IsBody, AreListed, IsReply}
use Rattle.cq_wire.specs.Reading.{◌>>=◌, Reader, number_at, id_at, body_at, receipt_at, several_at, listed_at, reply_at}
use Rattle.cq_wire.proofs.Fronts.{IsBytes, IsBytes-rest, Takes, Takes-then, Takes-nothing, Takes-tagged, Reads, IsRead, bind_ok, ok_is, either}
use Rattle.cq_wire.proofs.Sequences.{one, three, one_read, three_read}
use Rattle.cq_wire.proofs.PartLaws.{reads64, is_read64, id_reads, id_is_read, body_reads, body_is_read, receipt_reads, receipt_is_read}
use Rattle.cq_wire.proofs.ReplyLaws.{reply_reads, reply_is_read}
use Rattle.cq_store_wire.specs.declared.reply.Mention.{Mention}
use Rattle.cq_store_wire.specs.declared.reply.Mention.TheVariants.{First, Again}
use Rattle.cq_store_wire.specs.declared.reply.DeliveryRecord.{DeliveryRecord}
use Rattle.cq_store_wire.specs.declared.reply.ReplyRecord.{ReplyRecord}
use Rattle.cq_store_wire.specs.declared.reply.ReplyRecord.TheVariants as records
use Rattle.cq_store_wire.specs.Bodies.{deliveries_in}
use Rattle.cq_store_wire.specs.Layout.{delivery_record, mention, reply_record}
use Rattle.cq_store_wire.specs.Limits.{IsDeliveryRecord, IsMention, IsReplyRecord}
use Rattle.cq_store_wire.specs.Reading.{again_at, delivery_record_at, first_at, mention_at, other_at, received_at, reply_record_at}

-- ---- lists

several_read : {A : Type 0} (layout : A → List ℕ) (read : Reader A) (P : A → Type 0) → Reads layout read P → (n : ℕ) (bytes : List ℕ) (x : List A × List ℕ) → IsBytes bytes → several_at read n bytes ≡ Ok x
    → Takes bytes (flat_map layout x.0) x.1 × ((length x.0 ≡ n) × AllByRecursion P x.0)
unfolding several_at
several_read {A} layout read P reads zero bytes x fits e =
    subst (λ (y : List A × List ℕ). Takes bytes (flat_map layout y.0) y.1 × ((length y.0 ≡ 0) × AllByRecursion P y.0)) (ok_is ([], bytes) x e) (Takes-nothing bytes fits, (refl, tt))
several_read {A} layout read P reads (suc n) bytes x fits e =
    let a = bind_ok (read bytes) (λ first. several_at read n first.1 >>= λ others. Ok (first.0 ∷ others.0, others.1)) x e in
    let b = bind_ok (several_at read n a.0.1) (λ others. Ok (a.0.0 ∷ others.0, others.1)) x a.2 in
    let first = reads bytes a.0 fits a.1 in
    let second = several_read layout read P reads n a.0.1 b.0 first.0.rest_fits b.1 in
    let both = Takes-then bytes (layout a.0.0) a.0.1 (flat_map layout b.0.0) b.0.1 first.0 second.0 in
    let made : List A × List ℕ = (a.0.0 ∷ b.0.0, b.0.1) in
    subst (λ (y : List A × List ℕ). Takes bytes (flat_map layout y.0) y.1 × ((length y.0 ≡ suc n) × AllByRecursion P y.0)) (ok_is made x b.2) (rw flat_map-cons both, (ap suc second.1.0, (first.1, second.1.1)))

listed_reads : {A : Type 0} (layout : A → List ℕ) (read : Reader A) (P : A → Type 0) → Reads layout read P → Reads (listed layout) (listed_at read) (AreListed P)
unfolding listed_at listed
listed_reads layout read P reads bytes x fits e =
    let n = bind_ok (number_at w64 bytes) (λ n. several_at read n.0 n.1) x e in
    let number = reads64 bytes n.0 fits n.1 in
    let s = several_read layout read P reads n.0.0 n.0.1 x number.0.rest_fits n.2 in
    let both = Takes-then bytes (number64 n.0.0) n.0.1 (flat_map layout x.0) x.1 number.0 s.0 in
    (subst (λ (m : ℕ). Takes bytes (number64 m ++ flat_map layout x.0) x.1) (sym s.1.0) both, (omega (arith, s.1.0, number.1), s.1.1))

several_are_read : {A : Type 0} (layout : A → List ℕ) (read : Reader A) (P : A → Type 0) → IsRead layout read P → (xs : List A) (rest : List ℕ) → AllByRecursion P xs
    → several_at read (length xs) (flat_map layout xs ++ rest) ≡ Ok (xs, rest)
unfolding several_at
several_are_read layout read P is_read [] rest fits = refl
several_are_read layout read P is_read (x ∷ xs) rest fits =
    ap (several_at read (suc (length xs))) (ap (λ (b : List ℕ). b ++ rest) (flat_map-cons layout x xs) ∙ append_assoc (layout x) (flat_map layout xs) rest)
    ∙ rw (is_read x (flat_map layout xs ++ rest) fits.0, several_are_read layout read P is_read xs rest fits.1) refl

listed_is_read : {A : Type 0} (layout : A → List ℕ) (read : Reader A) (P : A → Type 0) → IsRead layout read P → IsRead (listed layout) (listed_at read) (AreListed P)
unfolding listed listed_at
listed_is_read layout read P is_read xs rest fits =
    ap (listed_at read) (append_assoc (number64 (length xs)) (flat_map layout xs) rest)
    ∙ rw (is_read64 (length xs) (flat_map layout xs ++ rest) fits.0, several_are_read layout read P is_read xs rest fits.1) refl

-- ---- mentions

-- what is read of a mention, with the byte for its kind
abbrev IsMentionRead : ℕ → List ℕ → Mention × List ℕ → Type 0
IsMentionRead kind bytes x = Takes (kind ∷ bytes) (mention x.0) x.1 × IsMention x.0

first_reads : (bytes : List ℕ) (x : Mention × List ℕ) → IsBytes bytes → first_at bytes ≡ Ok x → IsMentionRead 0 bytes x
unfolding first_at mention
first_reads bytes x fits e = one text body_at IsBody First body_reads bytes x fits e (IsMentionRead 0 bytes) (λ body rest t f. (Takes-tagged 0 bytes (text body) rest t, f))

again_reads : (bytes : List ℕ) (x : Mention × List ℕ) → IsBytes bytes → again_at bytes ≡ Ok x → IsMentionRead 1 bytes x
unfolding again_at mention
again_reads bytes x fits e = one number64 (number_at w64) (λ n. n < 2 ^ 64) Again reads64 bytes x fits e (IsMentionRead 1 bytes) (λ n rest t f. (Takes-tagged 1 bytes (number64 n) rest t, f))

tagged : (tag kind : ℕ) (bytes : List ℕ) (x : Mention × List ℕ) → eqb kind tag ≡ true → IsMentionRead tag bytes x → IsMentionRead kind bytes x
tagged tag kind bytes x is read = subst (λ (k : ℕ). IsMentionRead k bytes x) (sym (eqb-true kind tag is)) read

mention_reads : Reads mention mention_at IsMention
unfolding mention_at
mention_reads [] x fits e = absurd cc
mention_reads (kind ∷ rest) x fits e =
    let inner = IsBytes-rest kind rest fits in
    let G = IsMentionRead kind rest x in
    let none : Result (Mention × List ℕ) WireFault = Err BadTag in
    let else0 = cond (eqb kind 1) (again_at rest) none in
    either (eqb kind 0) (first_at rest) else0 x G e (λ is read. tagged 0 kind rest x is (first_reads rest x inner read))
    (λ e0. either (eqb kind 1) (again_at rest) none x G e0 (λ is read. tagged 1 kind rest x is (again_reads rest x inner read)) (λ e1. absurd cc))

mention_is_read : IsRead mention mention_at IsMention
unfolding mention mention_at first_at again_at
mention_is_read (First body) rest fits = one_read text body_at IsBody First body_is_read body rest fits
mention_is_read (Again n) rest fits = one_read number64 (number_at w64) (λ n. n < 2 ^ 64) Again is_read64 n rest fits

-- ---- deliveries

abbrev made : Handle → List ℕ → Mention → DeliveryRecord
made handle group body = record { receipt = handle; group = group; body = body }

record_reads : Reads delivery_record delivery_record_at IsDeliveryRecord
unfolding delivery_record_at delivery_record
record_reads bytes x fits e =
    three receipt receipt_at IsHandle text id_at IsId mention mention_at IsMention made receipt_reads id_reads mention_reads bytes x fits e
    (λ y. Takes bytes (receipt y.0.receipt ++ (text y.0.group ++ mention y.0.body)) y.1 × IsDeliveryRecord y.0) (λ a b c rest t f. (t, f))

record_is_read : IsRead delivery_record delivery_record_at IsDeliveryRecord
unfolding delivery_record_at delivery_record
record_is_read d rest fits = three_read receipt receipt_at IsHandle text id_at IsId mention mention_at IsMention made receipt_is_read id_is_read mention_is_read d.receipt d.group d.body rest fits

-- ---- replies

-- what is read of a kept reply, with the byte for its kind
abbrev IsRecordRead : ℕ → List ℕ → ReplyRecord × List ℕ → Type 0
IsRecordRead kind bytes x = Takes (kind ∷ bytes) (reply_record x.0) x.1 × IsReplyRecord x.0

received_reads : (bytes : List ℕ) (x : ReplyRecord × List ℕ) → IsBytes bytes → received_at bytes ≡ Ok x → IsRecordRead 3 bytes x
unfolding received_at reply_record
received_reads bytes x fits e =
    one (listed delivery_record) (listed_at delivery_record_at) (AreListed IsDeliveryRecord) records.Received (listed_reads delivery_record delivery_record_at IsDeliveryRecord record_reads) bytes x fits e (IsRecordRead 3 bytes)
    (λ ds rest t f. (Takes-tagged 3 bytes (listed delivery_record ds) rest t, f))

-- one whose byte isn't 3 has no deliveries
first_byte : List ℕ → ℕ
first_byte [] = 0
first_byte (b ∷ bytes) = b

none-there : (kind : ℕ) (rest behind : List ℕ) (one : Reply) → (eqb kind 3 ≡ true → ⊥) → kind ∷ rest ≡ reply one ++ behind → deliveries_in one ≡ None
unfolding reply first_byte
none-there kind rest behind (replies.Received ds) other e = let is : kind ≡ 3 = ap first_byte e in absurd (other (ap (λ (k : ℕ). eqb k 3) is))
none-there kind rest behind _ other e = refl

other_reads : (kind : ℕ) (rest : List ℕ) (x : ReplyRecord × List ℕ) → IsBytes (kind ∷ rest) → (eqb kind 3 ≡ true → ⊥) → other_at (kind ∷ rest) ≡ Ok x → IsRecordRead kind rest x
unfolding other_at reply_record
other_reads kind rest x fits other e =
    one reply reply_at IsReply records.Other reply_reads (kind ∷ rest) x fits e (IsRecordRead kind rest) (λ r behind t f. (t, (f, none-there kind rest behind r other t.parts)))

is_false : (b : Bool) (s r : Result (ReplyRecord × List ℕ) WireFault) (x : ReplyRecord × List ℕ) (G : Type 0) → cond b r s ≡ Ok x → (b ≡ true → r ≡ Ok x → G) → ((b ≡ true → ⊥) → s ≡ Ok x → G) → G
is_false true s r x G e f g = f refl e
is_false false s r x G e f g = g (λ h. absurd cc) e

pub reply_record_reads : Reads reply_record reply_record_at IsReplyRecord
unfolding reply_record_at
reply_record_reads [] x fits e = absurd cc
reply_record_reads (kind ∷ rest) x fits e =
    is_false (eqb kind 3) (other_at (kind ∷ rest)) (received_at rest) x (IsRecordRead kind rest x) e
    (λ is read. subst (λ (k : ℕ). IsRecordRead k rest x) (sym (eqb-true kind 3 is)) (received_reads rest x (IsBytes-rest kind rest fits) read))
    (λ other read. other_reads kind rest x fits other read)

-- one without deliveries is read as it is everywhere
as-other : (r : Reply) (rest : List ℕ) → deliveries_in r ≡ None → reply_record_at (reply r ++ rest) ≡ other_at (reply r ++ rest)
unfolding reply reply_record_at
as-other (replies.Received ds) rest none = absurd cc
as-other _ rest none = refl

other_is_read : (r : Reply) (rest : List ℕ) → IsReply r → other_at (reply r ++ rest) ≡ Ok (records.Other r, rest)
unfolding other_at
other_is_read r rest fits = one_read reply reply_at IsReply records.Other reply_is_read r rest fits

pub reply_record_is_read : IsRead reply_record reply_record_at IsReplyRecord
unfolding reply_record reply_record_at received_at
reply_record_is_read (records.Received ds) rest fits =
    one_read (listed delivery_record) (listed_at delivery_record_at) (AreListed IsDeliveryRecord) records.Received (listed_is_read delivery_record delivery_record_at IsDeliveryRecord record_is_read) ds rest fits
reply_record_is_read (records.Other r) rest fits = as-other r rest fits.1 ∙ other_is_read r rest fits.0
