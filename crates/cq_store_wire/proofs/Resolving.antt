-- Deliveries one after another, as loops come to them.
use Rattle.std.proofs.Common.{◌≡◌, ℕ, suc, ◌+◌, ◌<◌, List, [], ◌∷◌, ◌++◌, length, drop, get_or, Result, Ok, Err, refl, sym, ap, ◌∙◌, append_assoc, drop-cons, arith}
use Rattle.std.specs.Prelude.{OnOk}
use Rattle.std.specs.List.{flat_map}
use Rattle.std.proofs.lemmas.List.{append-nil}
use Rattle.std.proofs.lemmas.List.Sums.{fold-append}
use Rattle.cq_base.specs.declared.reply.Delivery.{Delivery}
use Rattle.cq_wire.specs.declared.fault.WireFault.{WireFault}
use Rattle.cq_wire.specs.declared.fault.ReadFault.{ReadFault}
use Rattle.cq_wire.specs.declared.fault.ReadFault.TheVariants as faults
use Rattle.cq_wire.specs.Layout.{listed, number64}
use Rattle.cq_wire.specs.Reading.{◌>>=◌, Fails}
use Rattle.cq_store_wire.specs.declared.reply.DeliveryRecord.{DeliveryRecord}
use Rattle.cq_store_wire.specs.Bodies.{all_recorded, all_resolved, and_bodies, and_body, recorded, resolved}
use Rattle.cq_store_wire.specs.declared.reply.ReplyRecord.TheVariants as records
use Rattle.cq_store_wire.specs.Layout.{delivery_record, reply_record}
use Rattle.cq_store_wire.proofs.Mentions.{recorded-length}

-- ---- deliveries that are resolved

-- what was made before, and what is still to be
abbrev pub after : List Delivery → Result (List Delivery) WireFault → Result (List Delivery) WireFault
after before rest = rest >>= λ ds. Ok (before ++ ds)

pub next-one : (xs : List DeliveryRecord) (i : ℕ) (x : DeliveryRecord) → i < length xs → x ≡ get_or xs i x → drop i xs ≡ x ∷ drop (i + 1) xs
next-one xs i x less is = drop-cons xs i x less ∙ ap (λ (y : DeliveryRecord). y ∷ drop (suc i) xs) (sym is) ∙ ap (λ (k : ℕ). x ∷ drop k xs) (let k : suc i ≡ i + 1 = omega arith in k)

pub after-nothing : (rest : Result (List Delivery) WireFault) → after [] rest ≡ rest
after-nothing (Ok ds) = refl
after-nothing (Err f) = refl

grouped : (before : List Delivery) (d : Delivery) (rest : Result (List Delivery) WireFault) → after before (rest >>= λ ds. Ok (d ∷ ds)) ≡ after (before ++ d ∷ []) rest
grouped before d (Ok ds) = ap (λ (xs : List Delivery). Ok xs) (sym (append_assoc before (d ∷ []) ds))
grouped before d (Err f) = refl

pub goes-on : (before : List Delivery) (known more : List (List ℕ)) (left rest : List DeliveryRecord) (m : DeliveryRecord) (d : Delivery) (total : Result (List Delivery) WireFault) → left ≡ m ∷ rest → resolved known m ≡ Ok d
    → more ≡ and_body known d.body → after before (all_resolved known left) ≡ total → after (before ++ d ∷ []) (all_resolved more rest) ≡ total
unfolding all_resolved
goes-on before known more left rest m d total next e is so_far =
    ap (λ (ks : List (List ℕ)). after (before ++ d ∷ []) (all_resolved ks rest)) is
    ∙ sym (grouped before d (all_resolved (and_body known d.body) rest))
    ∙ ap (λ (r : Result Delivery WireFault). after before (r >>= λ first. all_resolved (and_body known first.body) rest >>= λ ds. Ok (first ∷ ds))) (sym e)
    ∙ ap (λ (ms : List DeliveryRecord). after before (all_resolved known ms)) (sym next)
    ∙ so_far

pub fails : (before : List Delivery) (known : List (List ℕ)) (left rest : List DeliveryRecord) (m : DeliveryRecord) (fault : ReadFault) (total : Result (List Delivery) WireFault) → left ≡ m ∷ rest → Fails fault (resolved known m)
    → after before (all_resolved known left) ≡ total → Fails fault total
unfolding all_resolved
fails before known left rest m faults.NoMemory total next e so_far = tt
fails before known left rest m (faults.Bad f) total next e so_far =
    sym so_far ∙ ap (λ (ms : List DeliveryRecord). after before (all_resolved known ms)) next
    ∙ ap (λ (r : Result Delivery WireFault). after before (r >>= λ first. all_resolved (and_body known first.body) rest >>= λ ds. Ok (first ∷ ds))) e

pub ends : (before : List Delivery) (known : List (List ℕ)) (left : List DeliveryRecord) (total : Result (List Delivery) WireFault) → left ≡ [] → after before (all_resolved known left) ≡ total → total ≡ Ok before
unfolding all_resolved
ends before known left total none so_far =
    sym so_far ∙ ap (λ (ms : List DeliveryRecord). after before (all_resolved known ms)) none ∙ ap (λ (xs : List Delivery). Ok xs) (append-nil before)

-- ---- one more delivery

pub bodies-and : (known : List (List ℕ)) (ds : List Delivery) (d : Delivery) → and_bodies known (ds ++ d ∷ []) ≡ and_body (and_bodies known ds) d.body
bodies-and known ds d = fold-append (λ so_far e. and_body so_far e.body) known ds (d ∷ [])

recorded-more : (known : List (List ℕ)) (ds : List Delivery) (d : Delivery) → all_recorded known (ds ++ d ∷ []) ≡ all_recorded known ds ++ recorded (and_bodies known ds) d ∷ []
unfolding all_recorded
recorded-more known [] d = refl
recorded-more known (x ∷ xs) d = ap (λ (ms : List DeliveryRecord). recorded known x ∷ ms) (recorded-more (and_body known x.body) xs d)

flat-more : (ms : List DeliveryRecord) (m : DeliveryRecord) → flat_map delivery_record (ms ++ m ∷ []) ≡ flat_map delivery_record ms ++ delivery_record m
flat-more [] m = append-nil (delivery_record m)
flat-more (x ∷ xs) m = ap (λ (t : List ℕ). delivery_record x ++ t) (flat-more xs m) ∙ sym (append_assoc (delivery_record x) (flat_map delivery_record xs) (delivery_record m))

pub written-more : (known : List (List ℕ)) (ds all : List Delivery) (d : Delivery) (start old new : List ℕ) (now : List (List ℕ)) → all ≡ ds ++ d ∷ [] → old ≡ start ++ flat_map delivery_record (all_recorded known ds) → now ≡ and_bodies known ds
    → new ≡ old ++ delivery_record (recorded now d) → new ≡ start ++ flat_map delivery_record (all_recorded known all)
written-more known ds all d start old new now is so_far known_is written =
    written
    ∙ ap (λ (ks : List (List ℕ)). old ++ delivery_record (recorded ks d)) known_is
    ∙ ap (λ (t : List ℕ). t ++ delivery_record (recorded (and_bodies known ds) d)) so_far
    ∙ append_assoc start (flat_map delivery_record (all_recorded known ds)) (delivery_record (recorded (and_bodies known ds) d))
    ∙ ap (λ (t : List ℕ). start ++ t) (sym (flat-more (all_recorded known ds) (recorded (and_bodies known ds) d)))
    ∙ ap (λ (ms : List DeliveryRecord). start ++ flat_map delivery_record ms) (sym (recorded-more known ds d))
    ∙ ap (λ (xs : List Delivery). start ++ flat_map delivery_record (all_recorded known xs)) (sym is)

-- ---- and all of them

pub received-written : {A E : Type 0} (r : Result A E) (known : List (List ℕ)) (ds : List Delivery) (start tagged counted end : List ℕ) → tagged ≡ start ++ 3 ∷ [] → counted ≡ tagged ++ number64 (length ds)
    → OnOk r (end ≡ counted ++ flat_map delivery_record (all_recorded known ds)) → OnOk r (end ≡ start ++ reply_record (records.Received (all_recorded known ds)))
unfolding reply_record listed
received-written (Err e) known ds start tagged counted end tag count all = tt
received-written (Ok x) known ds start tagged counted end tag count all =
    let flat : List ℕ = flat_map delivery_record (all_recorded known ds) in
    all
    ∙ ap (λ (t : List ℕ). t ++ flat) (count ∙ ap (λ (t : List ℕ). t ++ number64 (length ds)) tag)
    ∙ append_assoc (start ++ 3 ∷ []) (number64 (length ds)) flat
    ∙ append_assoc start (3 ∷ []) (number64 (length ds) ++ flat)
    ∙ ap (λ (n : ℕ). start ++ 3 ∷ (number64 n ++ flat)) (sym (recorded-length known ds))
