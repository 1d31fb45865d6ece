-- Bodies are mentioned so that each mention means its body, and no other mention does.
use Rattle.std.proofs.Common.{◌≡◌, ℕ, zero, suc, ◌+◌, ◌<◌, ◌≤◌, ◌^◌, Bool, true, false, cond, List, [], ◌∷◌, ◌++◌, length, take, Option, None, Some, Result, Ok, Err, refl, sym, subst, ap, ◌∙◌, append_assoc, arith}
use Rattle.std.specs.Prelude.{◌||◌, IfOk, not, slice_get, unwrap_or}
use Rattle.std.specs.List.{AllByRecursion, IsDistinct, fold, position_or_len}
use Rattle.std.specs.Str.{bytes_eq}
use Rattle.std.proofs.Math.Seq.{take-append_seam}
use Rattle.std.proofs.lemmas.List.{append-nil, length-append}
use Rattle.std.proofs.lemmas.List.Sums.{fold-append}
use Rattle.std.proofs.lemmas.Option.{slice_get_within}
use Rattle.std.proofs.lemmas.Slice.Eq.{bytes_eq-Decides}
use Rattle.cq_base.specs.Relations.{IsPrefix}
use Rattle.cq_base.specs.declared.reply.Delivery.{Delivery}
use Rattle.cq_base.specs.declared.reply.Reply.{Reply}
use Rattle.cq_base.specs.declared.reply.Reply.TheVariants as replies
use Rattle.cq_store.specs.Stands.{ClientRecord}
use Rattle.cq_wire.specs.declared.fault.WireFault.{WireFault}
use Rattle.cq_wire.specs.declared.fault.WireFault.TheVariants.{BadNumber}
use Rattle.cq_wire.specs.Limits.{IsBody, IsDelivery, IsReply}
use Rattle.cq_wire.specs.declared.fault.ReadFault.{ReadFault}
use Rattle.cq_wire.specs.Reading.{◌>>=◌, Gives}
use Rattle.cq_wire.proofs.Fronts.{bind_ok, ok_is}
use Rattle.cq_store_wire.specs.declared.reply.Mention.{Mention}
use Rattle.cq_store_wire.specs.declared.reply.Mention.TheVariants.{First, Again}
use Rattle.cq_store_wire.specs.declared.reply.DeliveryRecord.{DeliveryRecord}
use Rattle.cq_store_wire.specs.declared.reply.ReplyRecord.{ReplyRecord}
use Rattle.cq_store_wire.specs.declared.reply.ReplyRecord.TheVariants as records
use Rattle.cq_store_wire.specs.Bodies.{all_recorded, all_resolved, and_bodies, and_body, and_reply, bodies_of, deliveries_in, is_known, mention, or_bad_number, other_resolved, recorded, recorded_by, reply_recorded, reply_resolved, resolve, resolved}
use Rattle.cq_store_wire.specs.Limits.{IsDeliveryRecord, IsMention, IsReplyRecord}

abbrev Bodies : Type 0
Bodies = List (List ℕ)

abbrev number_of : Bodies → List ℕ → ℕ
number_of known body = position_or_len (bytes_eq body) known

-- ---- equal texts

same : (x y : List ℕ) → bytes_eq x y ≡ true → x ≡ y
same x y e = (bytes_eq-Decides x y).0 e

itself : (x : List ℕ) → bytes_eq x x ≡ true
itself x = (bytes_eq-Decides x x).1 refl

other-way : (x y : List ℕ) → bytes_eq x y ≡ false → bytes_eq y x ≡ false
other-way x y e = by (bytes_eq y x) refl
  where
    by : (b : Bool) → bytes_eq y x ≡ b → bytes_eq y x ≡ false
    by false h = h
    by true h = let wrong : true ≡ false = sym (ap (λ (t : List ℕ). bytes_eq x t) (same y x h) ∙ itself x) ∙ e in absurd cc

-- ---- known bodies and their numbers

next-number : (n : ℕ) → 1 + n ≡ suc n
next-number n = omega arith

known-at : (body : List ℕ) (known : Bodies) → is_known known body ≡ true → slice_get known (number_of known body) ≡ Some body
known-at body [] e = absurd cc
known-at body (k ∷ ks) e = by (bytes_eq body k) refl (λ rest. known-at body ks rest)
  where
    by : (b : Bool) → bytes_eq body k ≡ b → (is_known ks body ≡ true → slice_get ks (number_of ks body) ≡ Some body) → slice_get (k ∷ ks) (number_of (k ∷ ks) body) ≡ Some body
    by true h more = ap (λ (b : Bool). slice_get (k ∷ ks) (cond (not b) (1 + number_of ks body) 0)) h ∙ ap (λ (t : List ℕ). Some t) (sym (same body k h))
    by false h more =
        ap (λ (b : Bool). slice_get (k ∷ ks) (cond (not b) (1 + number_of ks body) 0)) h ∙ ap (λ (n : ℕ). slice_get (k ∷ ks) n) (next-number (number_of ks body))
        ∙ more (sym (ap (λ (b : Bool). b || is_known ks body) h) ∙ e)

at-known : (known : Bodies) (n : ℕ) (body : List ℕ) → slice_get known n ≡ Some body → is_known known body ≡ true
at-known [] n body e = absurd cc
at-known (k ∷ ks) zero body e =
    let is : k ≡ body = cc in ap (λ (b : Bool). b || is_known ks body) (subst (λ (t : List ℕ). bytes_eq body t ≡ true) (sym is) (itself body))
at-known (k ∷ ks) (suc n) body e = by (bytes_eq body k) refl (at-known ks n body e)
  where
    by : (b : Bool) → bytes_eq body k ≡ b → is_known ks body ≡ true → is_known (k ∷ ks) body ≡ true
    by true h rest = ap (λ (b : Bool). b || is_known ks body) h
    by false h rest = ap (λ (b : Bool). b || is_known ks body) h ∙ rest

pub below : (known : Bodies) (body : List ℕ) → is_known known body ≡ true → number_of known body < length known
below known body e = slice_get_within known (number_of known body) body (known-at body known e)

-- each of the list differs
differs : (x : List ℕ) (ks : Bodies) (n : ℕ) (body : List ℕ) → AllByRecursion (λ y. bytes_eq x y ≡ false) ks → slice_get ks n ≡ Some body → bytes_eq x body ≡ false
differs x [] n body all e = absurd cc
differs x (k ∷ ks) zero body all e = let is : k ≡ body = cc in subst (λ (t : List ℕ). bytes_eq x t ≡ false) is all.0
differs x (k ∷ ks) (suc n) body all e = differs x ks n body all.1 e

-- where none is there twice, each has its own number
placed : (known : Bodies) (n : ℕ) (body : List ℕ) → IsDistinct bytes_eq known → slice_get known n ≡ Some body → number_of known body ≡ n
unfolding IsDistinct
placed [] n body distinct e = absurd cc
placed (k ∷ ks) zero body distinct e =
    let is : k ≡ body = cc in
    ap (λ (b : Bool). cond (not b) (1 + number_of ks body) 0) (subst (λ (t : List ℕ). bytes_eq body t ≡ true) (sym is) (itself body))
placed (k ∷ ks) (suc n) body distinct e =
    ap (λ (b : Bool). cond (not b) (1 + number_of ks body) 0) (other-way k body (differs k ks n body distinct.0 e))
    ∙ next-number (number_of ks body) ∙ ap suc (placed ks n body distinct.1 e)

-- ---- one more body

differ-more : (x : List ℕ) (ks : Bodies) (body : List ℕ) → AllByRecursion (λ y. bytes_eq x y ≡ false) ks → bytes_eq x body ≡ false → AllByRecursion (λ y. bytes_eq x y ≡ false) (ks ++ body ∷ [])
differ-more x [] body all other = (other, tt)
differ-more x (k ∷ ks) body all other = (all.0, differ-more x ks body all.1 other)

unknown-both : (b c : Bool) → (b || c) ≡ false → (b ≡ false) × (c ≡ false)
unknown-both true c e = absurd cc
unknown-both false c e = (refl, e)

distinct-more : (known : Bodies) (body : List ℕ) → IsDistinct bytes_eq known → is_known known body ≡ false → IsDistinct bytes_eq (known ++ body ∷ [])
unfolding IsDistinct
distinct-more [] body distinct new = (tt, tt)
distinct-more (k ∷ ks) body distinct new =
    let both = unknown-both (bytes_eq body k) (is_known ks body) new in
    (differ-more k ks body distinct.0 (other-way body k both.0), distinct-more ks body distinct.1 both.1)

and_body-distinct : (known : Bodies) (body : List ℕ) → IsDistinct bytes_eq known → IsDistinct bytes_eq (and_body known body)
unfolding and_body
and_body-distinct known body distinct = by (is_known known body) refl
  where
    by : (b : Bool) → is_known known body ≡ b → IsDistinct bytes_eq (cond b known (known ++ body ∷ []))
    by true h = distinct
    by false h = distinct-more known body distinct h

and_bodies-distinct : (known : Bodies) (ds : List Delivery) → IsDistinct bytes_eq known → IsDistinct bytes_eq (and_bodies known ds)
and_bodies-distinct known [] distinct = distinct
and_bodies-distinct known (d ∷ ds) distinct = and_bodies-distinct (and_body known d.body) ds (and_body-distinct known d.body distinct)

-- those of a reply
abbrev in_reply : Reply → List Delivery
in_reply (replies.Received ds) = ds
in_reply _ = []

and_reply-is : (known : Bodies) (reply : Reply) → and_reply known reply ≡ and_bodies known (in_reply reply)
and_reply-is known (replies.Received ds) = refl
and_reply-is known _ = refl

and_reply-distinct : (known : Bodies) (reply : Reply) → IsDistinct bytes_eq known → IsDistinct bytes_eq (and_reply known reply)
and_reply-distinct known reply distinct = subst (λ (ks : Bodies). IsDistinct bytes_eq ks) (sym (and_reply-is known reply)) (and_bodies-distinct known (in_reply reply) distinct)

-- those of clients, too
abbrev pub with_clients : List (List ℕ) → List (ℕ × ClientRecord) → List (List ℕ)
with_clients known clients = fold (λ so_far c. and_reply so_far c.1.reply) known clients

clients-distinct : (known : Bodies) (clients : List (ℕ × ClientRecord)) → IsDistinct bytes_eq known → IsDistinct bytes_eq (with_clients known clients)
clients-distinct known [] distinct = distinct
clients-distinct known (c ∷ cs) distinct = clients-distinct (and_reply known c.1.reply) cs (and_reply-distinct known c.1.reply distinct)

pub distinct-bodies : (clients : List (ℕ × ClientRecord)) → IsDistinct bytes_eq (bodies_of clients)
unfolding IsDistinct
distinct-bodies clients = clients-distinct [] clients tt

pub bodies-more : (clients : List (ℕ × ClientRecord)) (c : ℕ × ClientRecord) → bodies_of (clients ++ c ∷ []) ≡ and_reply (bodies_of clients) c.1.reply
bodies-more clients c = fold-append (λ so_far c. and_reply so_far c.1.reply) [] clients (c ∷ [])

-- a body that is known changes nothing
known-stays : (known : Bodies) (n : ℕ) (body : List ℕ) → slice_get known n ≡ Some body → known ≡ and_body known body
unfolding and_body
known-stays known n body e = sym (ap (λ (b : Bool). cond b known (known ++ body ∷ [])) (at-known known n body e))

pub copy-known : (r : Result (List ℕ) ReadFault) (known : Bodies) (n : ℕ) (body : List ℕ) → Some body ≡ slice_get known n → Gives (λ b. b) r (Ok body) → IfOk r (λ b. known ≡ and_body known b)
copy-known (Ok b) known n body there gives = subst (λ (x : List ℕ). known ≡ and_body known x) (ok_is body b gives) (known-stays known n body (sym there))
copy-known (Err f) known n body there gives = tt

-- a reply without deliveries, too
pub none-more : (r : Result Reply ReadFault) (known : Bodies) → IfOk r (λ reply. deliveries_in reply ≡ None) → IfOk r (λ reply. known ≡ and_reply known reply)
none-more (Ok reply) known without = sym (ap (λ (o : Option (List Delivery)). and_bodies known (unwrap_or o [])) without)
none-more (Err f) known without = tt

-- ---- what known bodies begin with

pub prefix-same : (xs : Bodies) → IsPrefix xs xs
prefix-same xs = ([], sym (append-nil xs))

pub prefix-then : (xs ys zs : Bodies) → IsPrefix xs ys → IsPrefix ys zs → IsPrefix xs zs
prefix-then xs ys zs p q = (p.0 ++ q.0, q.1 ∙ ap (λ (t : Bodies). t ++ q.0) p.1 ∙ append_assoc xs p.0 q.0)

pub and_body-prefix : (known : Bodies) (body : List ℕ) → IsPrefix known (and_body known body)
unfolding and_body
and_body-prefix known body = by (is_known known body)
  where
    by : (b : Bool) → IsPrefix known (cond b known (known ++ body ∷ []))
    by true = prefix-same known
    by false = (body ∷ [], refl)

pub prefix-and : (known more : Bodies) (body : List ℕ) → more ≡ and_body known body → IsPrefix known more
prefix-and known more body is = subst (λ (ks : Bodies). IsPrefix known ks) (sym is) (and_body-prefix known body)

-- what begins so is that, once the rest is forgotten
pub prefix-taken : (xs ys : Bodies) (n : ℕ) → n ≡ length xs → IsPrefix xs ys → take n ys ≡ xs
prefix-taken xs ys n is p = ap (λ (k : ℕ). take k ys) is ∙ ap (λ (t : Bodies). take (length xs) t) p.1 ∙ take-append_seam xs p.0

longer : (xs ys : Bodies) → IsPrefix xs ys → length xs ≤ length ys
longer xs ys p = let sum : length ys ≡ length xs + length p.0 = ap length p.1 ∙ length-append xs p.0 in omega (arith, sum)

bodies-longer : (known : Bodies) (ds : List Delivery) → length known ≤ length (and_bodies known ds)
bodies-longer known [] = omega arith
bodies-longer known (d ∷ ds) =
    let one = longer known (and_body known d.body) (and_body-prefix known d.body) in
    let rest = bodies-longer (and_body known d.body) ds in
    omega (arith, one, rest)

-- ---- a mention means its body

pub mention-means : (known : Bodies) (body : List ℕ) → resolve known (mention known body) ≡ Ok body
unfolding resolve mention
mention-means known body = by (is_known known body) refl
  where
    by : (b : Bool) → is_known known body ≡ b → resolve known (cond b (Again (number_of known body)) (First body)) ≡ Ok body
    by true h = ap or_bad_number (known-at body known h)
    by false h = ap (λ (b : Bool). cond b (Err BadNumber) (Ok body)) h

found : (o : Option (List ℕ)) (body : List ℕ) → or_bad_number o ≡ Ok body → o ≡ Some body
found None body e = absurd cc
found (Some b) body e = ap (λ (t : List ℕ). Some t) (ok_is b body e)

new-one : (b : Bool) (x body : List ℕ) → cond {A = Result (List ℕ) WireFault} b (Err BadNumber) (Ok x) ≡ Ok body → (b ≡ false) × (x ≡ body)
new-one true x body e = absurd cc
new-one false x body e = (refl, ok_is x body e)

pub means-mention : (known : Bodies) (m : Mention) (body : List ℕ) → IsDistinct bytes_eq known → resolve known m ≡ Ok body → mention known body ≡ m
unfolding resolve mention
means-mention known (First x) body distinct e =
    let new = new-one (is_known known x) x body e in
    subst (λ (t : List ℕ). cond (is_known known t) (Again (number_of known t)) (First t) ≡ First x) new.1
    (ap (λ (b : Bool). cond b (Again (number_of known x)) (First x)) new.0)
means-mention known (Again n) body distinct e =
    let there = found (slice_get known n) body e in
    ap (λ (b : Bool). cond b (Again (number_of known body)) (First body)) (at-known known n body there)
    ∙ ap (λ (k : ℕ). Again k) (placed known n body distinct there)

-- ---- and so of deliveries

abbrev ready : {A : Type 0} → A → Result A WireFault
ready x = Ok x

pub all-mean : (known : Bodies) (ds : List Delivery) → all_resolved known (all_recorded known ds) ≡ Ok ds
unfolding all_resolved all_recorded resolved
all-mean known [] = refl
all-mean known (d ∷ ds) = rw (mention-means known d.body, all-mean (and_body known d.body) ds) refl

recorded-back : (known : Bodies) (m : DeliveryRecord) (d : Delivery) → IsDistinct bytes_eq known → resolved known m ≡ Ok d → recorded known d ≡ m
unfolding resolved
recorded-back known m d distinct e =
    let x = bind_ok (resolve known m.body) (λ body. ready (record { receipt = m.receipt; group = m.group; body = body })) d e in
    let made : Delivery = record { receipt = m.receipt; group = m.group; body = x.0 } in
    subst (λ (y : Delivery). recorded known y ≡ m) (ok_is made d x.2)
    (ap (λ (b : Mention). record { receipt = m.receipt; group = m.group; body = b }) (means-mention known m.body x.0 distinct x.1))

pub mean-all : (known : Bodies) (ms : List DeliveryRecord) (ds : List Delivery) → IsDistinct bytes_eq known → all_resolved known ms ≡ Ok ds → all_recorded known ds ≡ ms
unfolding all_resolved all_recorded
mean-all known [] ds distinct e = subst (λ (xs : List Delivery). all_recorded known xs ≡ []) (ok_is [] ds e) refl
mean-all known (m ∷ ms) ds distinct e =
    let x = bind_ok (resolved known m) (λ first. all_resolved (and_body known first.body) ms >>= λ others. ready (first ∷ others)) ds e in
    let y = bind_ok (all_resolved (and_body known x.0.body) ms) (λ others. ready (x.0 ∷ others)) ds x.2 in
    let rest = mean-all (and_body known x.0.body) ms y.0 (and_body-distinct known x.0.body distinct) y.1 in
    subst (λ (xs : List Delivery). all_recorded known xs ≡ m ∷ ms) (ok_is (x.0 ∷ y.0) ds y.2)
    (ap (λ (r : DeliveryRecord). r ∷ all_recorded (and_body known x.0.body) y.0) (recorded-back known m x.0 distinct x.1) ∙ ap (λ (rs : List DeliveryRecord). m ∷ rs) rest)

-- ---- and of replies

pub reply-means : (known : Bodies) (reply : Reply) → reply_resolved known (reply_recorded known reply) ≡ Ok reply
unfolding reply_resolved
reply-means known (replies.Received ds) = ap (λ (r : Result (List Delivery) WireFault). r >>= λ xs. ready (replies.Received xs)) (all-mean known ds)
reply-means known _ = refl

pub means-reply : (known : Bodies) (m : ReplyRecord) (reply : Reply) → IsDistinct bytes_eq known → IsReplyRecord m → reply_resolved known m ≡ Ok reply → reply_recorded known reply ≡ m
unfolding reply_resolved
means-reply known (records.Received ms) reply distinct fits e =
    let x = bind_ok (all_resolved known ms) (λ ds. ready (replies.Received ds)) reply e in
    subst (λ (r : Reply). reply_recorded known r ≡ records.Received ms) (ok_is (replies.Received x.0) reply x.2) (ap (λ (rs : List DeliveryRecord). records.Received rs) (mean-all known ms x.0 distinct x.1))
means-reply known (records.Other one) reply distinct fits e =
    subst (λ (r : Reply). reply_recorded known r ≡ records.Other one) (ok_is one reply (sym (ap (other_resolved one) fits.1) ∙ e)) (ap (recorded_by known one) fits.1)

-- ---- what is mentioned has bytes

mention-fits : (known : Bodies) (body : List ℕ) → length known < 2 ^ 64 → IsBody body → IsMention (mention known body)
unfolding mention
mention-fits known body small fits = by (is_known known body) refl
  where
    by : (b : Bool) → is_known known body ≡ b → IsMention (cond b (Again (number_of known body)) (First body))
    by true h = let less = below known body h in omega (arith, small, less)
    by false h = fits

pub recorded-length : (known : Bodies) (ds : List Delivery) → length (all_recorded known ds) ≡ length ds
unfolding all_recorded
recorded-length known [] = refl
recorded-length known (d ∷ ds) = ap suc (recorded-length (and_body known d.body) ds)

all-fit : (known : Bodies) (ds : List Delivery) → length (and_bodies known ds) < 2 ^ 64 → AllByRecursion IsDelivery ds → AllByRecursion IsDeliveryRecord (all_recorded known ds)
unfolding all_recorded
all-fit known [] small fit = tt
all-fit known (d ∷ ds) small fit =
    let less = bodies-longer known (d ∷ ds) in
    ((fit.0.0, (fit.0.1.0, mention-fits known d.body (omega (arith, small, less)) fit.0.1.1)), all-fit (and_body known d.body) ds small fit.1)

pub reply-fits : (known : Bodies) (reply : Reply) → length (and_reply known reply) < 2 ^ 64 → IsReply reply → IsReplyRecord (reply_recorded known reply)
reply-fits known (replies.Received ds) small fits = let same-length = recorded-length known ds in (omega (arith, same-length, fits.0), all-fit known ds small fits.1)
reply-fits known (replies.Created n) small fits = (fits, refl)
reply-fits known replies.Removed small fits = (fits, refl)
reply-fits known (replies.Sent n) small fits = (fits, refl)
reply-fits known (replies.Deleted b) small fits = (fits, refl)
reply-fits known replies.Changed small fits = (fits, refl)
reply-fits known (replies.Counts a b) small fits = (fits, refl)
reply-fits known (replies.Refused r) small fits = (fits, refl)
