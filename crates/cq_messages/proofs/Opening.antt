-- The leading messages, from slot to slot.
use Rattle.std.proofs.Common.{◌≡◌, ℕ, ◌+◌, ◌≤◌, ◌∙◌, ap, sym, List, [], ◌∷◌, ◌++◌, length, get_or, take, drop, true, cond, Option, Some, None, arith, suc, zero, refl}
use Rattle.std.specs.List.{filter, flat_map}
use Rattle.std.proofs.lemmas.List.{take-map, map-append, append-nil, take-append-drop, take_all}
use Rattle.std.proofs.lemmas.List.Elements.{filter-append}
use Rattle.std.proofs.lemmas.Grind.{flat_map-append}
use Rattle.cq_base.specs.queue.Messages.{Message}
use Rattle.cq_base.specs.queue.Receiving.{leads, group_with, delivery_order, to_hand}
use Rattle.cq_messages.specs.declared.slot.Slot.{Slot}
use Rattle.cq_messages.specs.Changes.{numbers_of, numbers_to_hand}
use Rattle.cq_messages.specs.Slots.{live, kept_before, gone, passes}
use Rattle.cq_messages.specs.within.Opened.{numbers_for, numbers_led, leaders_upto}
use Rattle.cq_messages.specs.within.Passing.{NonePasses, IsNext}
use Rattle.cq_messages.proofs.Passing.{live-append, passing-more, passing-skip}

pub led-append : (ms xs ys : List Message) → numbers_led ms (xs ++ ys) ≡ numbers_led ms xs ++ numbers_led ms ys
led-append ms xs ys = ap numbers_of (flat_map-append (group_with ms) xs ys) ∙ map-append (λ m. m.sequence) (flat_map (group_with ms) xs) (flat_map (group_with ms) ys)

-- a message that leads adds its group
led_open : (t : ℕ) (ms : List Message) (o : Option Message) → passes (leads t ms) o ≡ true → numbers_led ms (filter (leads t ms) (kept_before o [])) ≡ numbers_for ms o
led_open t ms None h = absurd cc
led_open t ms (Some m) h = ap (λ b. numbers_led ms (cond b (m ∷ []) [])) h ∙ ap numbers_of (append-nil (group_with ms m))

-- a leading message adds its group
pub led-next : (t : ℕ) (ss : List Slot) (from i : ℕ) → IsNext (leads t (live ss)) ss from i
    → numbers_led (live ss) (leaders_upto t ss (i + 1)) ≡ numbers_led (live ss) (leaders_upto t ss from) ++ numbers_for (live ss) (get_or ss i gone).message
led-next t ss from i n =
    let ms = live ss in
    let o = (get_or ss i gone).message in
    ap (numbers_led ms) (passing-more (leads t ms) ss i n.within)
    ∙ led-append ms (leaders_upto t ss i) (filter (leads t ms) (kept_before o []))
    ∙ ap (λ xs. numbers_led ms xs ++ numbers_led ms (filter (leads t ms) (kept_before o []))) (passing-skip (leads t ms) ss from i n.after (let w = n.within in omega arith) n.before)
    ∙ ap (λ xs. numbers_led ms (leaders_upto t ss from) ++ xs) (led_open t ms o n.passing)

pub take-twice : {X : Type 0} (n : ℕ) (xs ys : List X) → take n (take n xs ++ ys) ≡ take n (xs ++ ys)
take-twice zero xs ys = refl
take-twice (suc n) [] ys = refl
take-twice (suc n) (x ∷ xs) ys = ap (λ zs. x ∷ zs) (take-twice n xs ys)

take_prefix : {X : Type 0} (n m : ℕ) (ys : List X) → n ≤ m → take n (take m ys) ≡ take n ys
take_prefix zero m ys h = refl
take_prefix (suc n) zero ys h = absurd (omega arith)
take_prefix (suc n) (suc m) [] h = refl
take_prefix (suc n) (suc m) (y ∷ ys) h = ap (λ zs. y ∷ zs) (take_prefix n m ys (omega arith))

take_enough : {X : Type 0} (n m : ℕ) (xs ys : List X) → n ≤ m → take n (xs ++ take m ys) ≡ take n (xs ++ ys)
take_enough zero m xs ys h = refl
take_enough (suc n) m [] ys h = take_prefix (suc n) m ys h
take_enough (suc n) m (x ∷ xs) ys h = ap (λ zs. x ∷ zs) (take_enough n m xs ys (omega arith))

pub take-within : {X : Type 0} (n : ℕ) (xs ys : List X) → take n (xs ++ take n ys) ≡ take n (xs ++ ys)
take-within n xs ys = take_enough n n xs ys (omega arith)

pub take-full : {X : Type 0} (n : ℕ) (xs ys : List X) → n ≤ length (take n xs) → take n (xs ++ ys) ≡ take n xs
take-full zero xs ys h = refl
take-full (suc n) [] ys h = absurd (omega arith)
take-full (suc n) (x ∷ xs) ys h = ap (λ zs. x ∷ zs) (take-full n xs ys (omega arith))

-- what is handed out is a prefix of what the leading messages' groups have
pub handed-led : (size t : ℕ) (ss : List Slot) → numbers_to_hand size t (live ss) ≡ take size (numbers_led (live ss) (leaders_upto t ss (length ss)))
unfolding delivery_order to_hand
handed-led size t ss = sym (take-map (λ m. m.sequence) size (delivery_order t (live ss))) ∙ ap (λ xs. take size (numbers_led (live ss) (filter (leads t (live ss)) (live xs)))) (sym (take_all (length ss) ss (omega arith)))

-- none leads from `from` on
pub handed-rest : (size t : ℕ) (ss : List Slot) (from : ℕ) → from ≤ length ss → NonePasses (leads t (live ss)) ss from (length ss) → numbers_to_hand size t (live ss) ≡ take size (numbers_led (live ss) (leaders_upto t ss from))
handed-rest size t ss from l none = handed-led size t ss ∙ ap (λ xs. take size (numbers_led (live ss) xs)) (passing-skip (leads t (live ss)) ss from (length ss) l (omega arith) none)

-- as many as are wanted are there
pub handed-full : (size t : ℕ) (ss : List Slot) (from : ℕ) → size ≤ length (take size (numbers_led (live ss) (leaders_upto t ss from))) → numbers_to_hand size t (live ss) ≡ take size (numbers_led (live ss) (leaders_upto t ss from))
handed-full size t ss from full =
    let ms = live ss in
    let p = leads t ms in
    let split : live ss ≡ live (take from ss) ++ live (drop from ss) = ap live (sym (take-append-drop from ss)) ∙ live-append (take from ss) (drop from ss) in
    handed-led size t ss
    ∙ ap (λ xs. take size (numbers_led ms (filter p (live xs)))) (take_all (length ss) ss (omega arith))
    ∙ ap (λ xs. take size (numbers_led ms xs)) (ap (filter p) split ∙ filter-append p (live (take from ss)) (live (drop from ss)))
    ∙ ap (take size) (led-append ms (leaders_upto t ss from) (filter p (live (drop from ss))))
    ∙ take-full size (numbers_led ms (leaders_upto t ss from)) (numbers_led ms (filter p (live (drop from ss)))) full
