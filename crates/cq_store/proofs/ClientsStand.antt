-- What is kept of clients still stands after an entry more.
use Rattle.std.proofs.Common.{◌≡◌, ℕ, ◌<◌, ◌≤◌, ◌∙◌, ◌&&◌, ◌||◌, ap, sym, List, [], ◌∷◌, ◌++◌, Option, Some, None, Bool, true, false, cond, eqb, arith, inl, inr, refl}
use Rattle.std.specs.Prelude.{nat_lt, option_map}
use Rattle.std.specs.List.{filter, find, list_all, list_any}
use Rattle.std.proofs.lemmas.Bool.{cases_Bool, and_from, and_right, both_ways, eq-eqb, eqb-true, lt-ltb, le-ltb, ltb-true, ltb-false}
use Rattle.std.proofs.lemmas.List.Folds.{list_all-append, list_any-append}
use Rattle.cq_base.specs.declared.ask.Entry.{Entry}
use Rattle.cq_base.specs.declared.reply.Reply.{Reply}
use Rattle.cq_base.specs.queue.Clients.{is_of_client, is_numbered_below, is_numbered_above, is_fresh_with, of_client, is_fresh, is_stale, kept_reply}
use Rattle.cq_base.specs.queue.Outcomes.{Outcome}
use Rattle.cq_base.specs.declared.reply.Reply.TheVariants.{Refused}
use Rattle.cq_base.specs.declared.reply.Refusal.TheVariants.{StaleNumber}
use Rattle.cq_base.specs.queue.History.{outcome_of, reply_again}
use Rattle.cq_base.proofs.Ends.{filter-passes, filter-fails}
use Rattle.cq_base.proofs.Finds.{find-one}
use Rattle.cq_base.proofs.Histories.{told, entry-outcome_of}
use Rattle.cq_store.specs.Stands.{ClientRecord, ClientStands, ClientKnown}
use Rattle.cq_store.proofs.OfLaws.Repeats.{fresh-outcome_of, none_with}

-- what is known of a client follows from the outcomes of its entries
same_known : (client : ℕ) (kept : Option ClientRecord) (xs ys : List Outcome) → of_client client ys ≡ of_client client xs → ClientKnown client kept xs → ClientKnown client kept ys
unfolding is_fresh is_stale kept_reply
same_known client None xs ys same h = same ∙ h
same_known client (Some kept) xs ys same h = record {
  fresh = λ number. ap (λ fs. list_all (is_numbered_below number) fs) same ∙ h.fresh number;
  stale = λ number. ap (λ fs. list_any (is_numbered_above number) fs) same ∙ h.stale number;
  reply = ap (λ fs. option_map (λ f. f.reply) (find (is_fresh_with kept.number) fs)) same ∙ h.reply;
}

-- the outcomes of another client's entries stay
of_other : (client : ℕ) (outcomes : List Outcome) (e : Entry) → eqb e.request.client client ≡ false → of_client client (told outcomes e) ≡ of_client client outcomes
unfolding of_client
of_other client outcomes e other = filter-fails (is_of_client client) outcomes (outcome_of outcomes e) (ap (λ d. eqb d.request.client client) (entry-outcome_of outcomes e) ∙ other)

-- the client's have one more
of_own : (client : ℕ) (outcomes : List Outcome) (e : Entry) → eqb e.request.client client ≡ true → of_client client (told outcomes e) ≡ of_client client outcomes ++ outcome_of outcomes e ∷ []
unfolding of_client
of_own client outcomes e own = filter-passes (is_of_client client) outcomes (outcome_of outcomes e) (ap (λ d. eqb d.request.client client) (entry-outcome_of outcomes e) ∙ own)

-- what is kept of another client still stands
pub client-other : (client : ℕ) (kept : Option ClientRecord) (outcomes : List Outcome) (e : Entry) → eqb e.request.client client ≡ false → ClientKnown client kept outcomes → ClientKnown client kept (told outcomes e)
client-other client kept outcomes e other h = same_known client kept outcomes (told outcomes e) (of_other client outcomes e other) h

-- above the smaller of two numbers, if above the greater
above_both : (a b n : ℕ) → a < b → (nat_lt a n && nat_lt b n) ≡ nat_lt b n
above_both a b n less = elim (cases_Bool (nat_lt b n)) [
  | inl above ↦ let more = ltb-true b n above in and_from (nat_lt a n) (nat_lt b n) (lt-ltb a n (omega arith)) above ∙ sym above
  | inr below ↦ and_right (nat_lt a n) (nat_lt b n) below ∙ sym below
]

-- below one of two numbers, if below the greater
below_both : (a b n : ℕ) → a < b → (nat_lt n a || nat_lt n b) ≡ nat_lt n b
below_both a b n less = elim (cases_Bool (nat_lt n a)) [
  | inl below ↦ let more = ltb-true n a below in ap (λ c. c || nat_lt n b) below ∙ sym (lt-ltb n b (omega arith))
  | inr above ↦ ap (λ c. c || nat_lt n b) above
]

-- above both numbers, if above the first, which is the greater
above_first : (a b n : ℕ) → b ≤ a → (nat_lt a n && nat_lt b n) ≡ nat_lt a n
above_first a b n most = elim (cases_Bool (nat_lt a n)) [
  | inl above ↦ let more = ltb-true a n above in and_from (nat_lt a n) (nat_lt b n) above (lt-ltb b n (omega arith)) ∙ sym above
  | inr below ↦ ap (λ c. c && nat_lt b n) below ∙ sym below
]

-- below one of them, if below the first
below_first : (a b n : ℕ) → b ≤ a → (nat_lt n a || nat_lt n b) ≡ nat_lt n a
below_first a b n most = elim (cases_Bool (nat_lt n a)) [
  | inl below ↦ ap (λ c. c || nat_lt n b) below ∙ sym below
  | inr above ↦ ap (λ c. c || nat_lt n b) above ∙ (let more = ltb-false n a above in le-ltb n b (omega arith)) ∙ sym above
]

-- a test and no more
and_alone : (b : Bool) → (b && true) ≡ b
and_alone true = refl
and_alone false = refl

pub or_alone : (b : Bool) → (b || false) ≡ b
or_alone true = refl
or_alone false = refl

-- whether a number is fresh after an entry more of the client
fresh-told : (client number : ℕ) (outcomes : List Outcome) (e : Entry) → eqb e.request.client client ≡ true → is_fresh client number (told outcomes e) ≡ (is_fresh client number outcomes && nat_lt e.request.number number)
unfolding is_fresh
fresh-told client number outcomes e own =
    ap (λ fs. list_all (is_numbered_below number) fs) (of_own client outcomes e own)
    ∙ list_all-append (is_numbered_below number) (of_client client outcomes) (outcome_of outcomes e ∷ [])
    ∙ ap (λ d. list_all (is_numbered_below number) (of_client client outcomes) && (nat_lt d.request.number number && true)) (entry-outcome_of outcomes e)
    ∙ ap (λ b. list_all (is_numbered_below number) (of_client client outcomes) && b) (and_alone (nat_lt e.request.number number))

-- whether it is stale
stale-told : (client number : ℕ) (outcomes : List Outcome) (e : Entry) → eqb e.request.client client ≡ true → is_stale client number (told outcomes e) ≡ (is_stale client number outcomes || nat_lt number e.request.number)
unfolding is_stale
stale-told client number outcomes e own =
    ap (λ fs. list_any (is_numbered_above number) fs) (of_own client outcomes e own)
    ∙ list_any-append (is_numbered_above number) (of_client client outcomes) (outcome_of outcomes e ∷ [])
    ∙ ap (λ d. list_any (is_numbered_above number) (of_client client outcomes) || (nat_lt number d.request.number || false)) (entry-outcome_of outcomes e)
    ∙ ap (λ b. list_any (is_numbered_above number) (of_client client outcomes) || b) (or_alone (nat_lt number e.request.number))

-- a fresh entry's reply is kept
kept-fresh : (client : ℕ) (outcomes : List Outcome) (e : Entry) → eqb e.request.client client ≡ true → is_fresh client e.request.number outcomes ≡ true → (outcome_of outcomes e).fresh ≡ true → kept_reply client e.request.number (told outcomes e) ≡ Some (outcome_of outcomes e).reply
unfolding is_fresh kept_reply
kept-fresh client outcomes e own fresh made = let f = outcome_of outcomes e in
    let p = is_fresh_with e.request.number in
    let mine = of_client client outcomes in
    let passes = and_from f.fresh (eqb f.entry.request.number e.request.number) made (eq-eqb f.entry.request.number e.request.number (ap (λ d. d.request.number) (entry-outcome_of outcomes e))) in
    let alone : filter p (mine ++ f ∷ []) ≡ f ∷ [] = filter-passes p mine f passes ∙ ap (λ fs. fs ++ f ∷ []) (none_with e.request.number mine fresh) in
    ap (λ fs. option_map (λ g. g.reply) (find p fs)) (of_own client outcomes e own)
    ∙ ap (λ o. option_map (λ g. g.reply) o) (find-one p (mine ++ f ∷ []) f alone)

-- what is kept of a client after a fresh entry of it
abbrev pub latest : Entry → Reply → ClientRecord
latest e reply = record { number = e.request.number; reply = reply }

-- the kept number is below a fresh one
known_below : (client : ℕ) (kept : ClientRecord) (outcomes : List Outcome) (e : Entry) → ClientStands client kept outcomes → is_fresh client e.request.number outcomes ≡ true → kept.number < e.request.number
known_below client kept outcomes e h fresh = ltb-true kept.number e.request.number (sym (h.fresh e.request.number) ∙ fresh)

-- of a client without entries each number is fresh, and none stale
pub none_fresh : (client number : ℕ) (outcomes : List Outcome) → of_client client outcomes ≡ [] → is_fresh client number outcomes ≡ true
unfolding is_fresh
none_fresh client number outcomes none = ap (λ fs. list_all (is_numbered_below number) fs) none

none_stale : (client number : ℕ) (outcomes : List Outcome) → of_client client outcomes ≡ [] → is_stale client number outcomes ≡ false
unfolding is_stale
none_stale client number outcomes none = ap (λ fs. list_any (is_numbered_above number) fs) none

-- whether a number is fresh once this one is the largest
now_fresh : (client : ℕ) (kept : Option ClientRecord) (outcomes : List Outcome) (e : Entry) (number : ℕ) → ClientKnown client kept outcomes → is_fresh client e.request.number outcomes ≡ true → (is_fresh client number outcomes && nat_lt e.request.number number) ≡ nat_lt e.request.number number
now_fresh client None outcomes e number h fresh = ap (λ b. b && nat_lt e.request.number number) (none_fresh client number outcomes h)
now_fresh client (Some kept) outcomes e number h fresh = ap (λ b. b && nat_lt e.request.number number) (h.fresh number) ∙ above_both kept.number e.request.number number (known_below client kept outcomes e h fresh)

now_stale : (client : ℕ) (kept : Option ClientRecord) (outcomes : List Outcome) (e : Entry) (number : ℕ) → ClientKnown client kept outcomes → is_fresh client e.request.number outcomes ≡ true → (is_stale client number outcomes || nat_lt number e.request.number) ≡ nat_lt number e.request.number
now_stale client None outcomes e number h fresh = ap (λ b. b || nat_lt number e.request.number) (none_stale client number outcomes h)
now_stale client (Some kept) outcomes e number h fresh = ap (λ b. b || nat_lt number e.request.number) (h.stale number) ∙ below_both kept.number e.request.number number (known_below client kept outcomes e h fresh)

-- a fresh entry's number and reply stand for its client
pub client-fresh : (client : ℕ) (kept : Option ClientRecord) (outcomes : List Outcome) (e : Entry) → eqb e.request.client client ≡ true → is_fresh client e.request.number outcomes ≡ true → ClientKnown client kept outcomes → ClientStands client (latest e (outcome_of outcomes e).reply) (told outcomes e)
client-fresh client kept outcomes e own fresh h = record {
  fresh = λ number. fresh-told client number outcomes e own ∙ now_fresh client kept outcomes e number h fresh;
  stale = λ number. stale-told client number outcomes e own ∙ now_stale client kept outcomes e number h fresh;
  reply = kept-fresh client outcomes e own fresh (fresh-outcome_of outcomes e ∙ ap (λ c. is_fresh c e.request.number outcomes) (eqb-true e.request.client client own) ∙ fresh);
}

-- nothing isn't something
none_some : (reply : Reply) → None ≡ Some reply → ⊥
none_some reply h = cc

-- what was found first is found first with one more
found_more : (p : Outcome → Bool) (xs : List Outcome) (f : Outcome) (reply : Reply) → option_map (λ g. g.reply) (find p xs) ≡ Some reply → option_map (λ g. g.reply) (find p (xs ++ f ∷ [])) ≡ Some reply
found_more p [] f reply h = absurd (none_some reply h)
found_more p (x ∷ xs) f reply h = elim (cases_Bool (p x)) [
  | inl own ↦ ap (λ b. option_map (λ g. g.reply) (cond b (Some x) (find p (xs ++ f ∷ [])))) own ∙ sym (ap (λ b. option_map (λ g. g.reply) (cond b (Some x) (find p xs))) own) ∙ h
  | inr other ↦ ap (λ b. option_map (λ g. g.reply) (cond b (Some x) (find p (xs ++ f ∷ [])))) other ∙ found_more p xs f reply (sym (ap (λ b. option_map (λ g. g.reply) (cond b (Some x) (find p xs))) other) ∙ h)
]

-- the kept reply stays with an entry more
kept-told : (client number : ℕ) (outcomes : List Outcome) (e : Entry) (reply : Reply) → eqb e.request.client client ≡ true → kept_reply client number outcomes ≡ Some reply → kept_reply client number (told outcomes e) ≡ Some reply
unfolding kept_reply
kept-told client number outcomes e reply own h = ap (λ fs. option_map (λ f. f.reply) (find (is_fresh_with number) fs)) (of_own client outcomes e own) ∙ found_more (is_fresh_with number) (of_client client outcomes) (outcome_of outcomes e) reply h

-- an entry that isn't fresh changes nothing of what is kept of its client
pub client-idle : (client : ℕ) (kept : Option ClientRecord) (outcomes : List Outcome) (e : Entry) → eqb e.request.client client ≡ true → is_fresh client e.request.number outcomes ≡ false → ClientKnown client kept outcomes → ClientKnown client kept (told outcomes e)
client-idle client None outcomes e own idle h = absurd (both_ways (is_fresh client e.request.number outcomes) idle (none_fresh client e.request.number outcomes h))
client-idle client (Some kept) outcomes e own idle h = let most = ltb-false kept.number e.request.number (sym (h.fresh e.request.number) ∙ idle) in record {
  fresh = λ number. fresh-told client number outcomes e own ∙ ap (λ b. b && nat_lt e.request.number number) (h.fresh number) ∙ above_first kept.number e.request.number number most;
  stale = λ number. stale-told client number outcomes e own ∙ ap (λ b. b || nat_lt number e.request.number) (h.stale number) ∙ below_first kept.number e.request.number number most;
  reply = kept-told client kept.number outcomes e kept.reply own h.reply;
}

-- what an entry that isn't fresh is answered with
pub idle-reply : (outcomes : List Outcome) (e : Entry) → is_fresh e.request.client e.request.number outcomes ≡ false → (outcome_of outcomes e).reply ≡ reply_again e outcomes
unfolding outcome_of
idle-reply outcomes e idle = rw idle

-- one with a smaller number than the kept one is stale
pub stale-reply : (kept : ClientRecord) (outcomes : List Outcome) (e : Entry) → ClientStands e.request.client kept outcomes → e.request.number < kept.number → reply_again e outcomes ≡ Refused StaleNumber
unfolding reply_again
stale-reply kept outcomes e h less = let stale = h.stale e.request.number ∙ lt-ltb e.request.number kept.number less in rw stale

-- one with the same number is a repeat
pub repeat-reply : (kept : ClientRecord) (outcomes : List Outcome) (e : Entry) → ClientStands e.request.client kept outcomes → e.request.number ≡ kept.number → reply_again e outcomes ≡ kept.reply
unfolding reply_again
repeat-reply kept outcomes e h same = let fails = h.stale e.request.number ∙ le-ltb e.request.number kept.number (omega (arith, same)) in
    let found : kept_reply e.request.client e.request.number outcomes ≡ Some kept.reply = ap (λ n. kept_reply e.request.client n outcomes) same ∙ h.reply in
    rw (fails, found)
