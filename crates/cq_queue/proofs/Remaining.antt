-- How the messages stand after one more entry.
use Rattle.std.proofs.Common.{◌≡◌, ℕ, ◌+◌, ◌∙◌, ◌&&◌, ◌||◌, ap, sym, List, [], ◌∷◌, ◌++◌, length, map, None, Bool, true, false, not, cond, eqb, refl, length-append}
use Rattle.std.specs.List.{filter, list_any, last_or}
use Rattle.std.proofs.lemmas.List.{map-append}
use Rattle.std.proofs.lemmas.List.Elements.{filter_agree}
use Rattle.std.proofs.lemmas.List.Folds.{list_any-append}
use Rattle.std.proofs.lemmas.Simd.{map-map}
use Rattle.cq_base.specs.queue.Asks.{group_of, body_of}
use Rattle.cq_base.specs.queue.Outcomes.{Outcome}
use Rattle.cq_base.specs.queue.Messages.{Message, messages, is_accepted, hands, hands_it, moment_of, touches, touches_it, changes_it, deletes_it, end_of, last_end, until, is_deleted, is_kept, message_of, remaining}
use Rattle.cq_base.proofs.Ends.{filter-passes, any-fails}
use Rattle.cq_base.proofs.Filters.{filter-filter, filter-map}
use Rattle.cq_base.proofs.Numbers.{messages-next, messages-same}
use Rattle.cq_messages.specs.Changes.{new_message}
use Rattle.cq_queue.proofs.Maps.{map-agrees, map-same, filter-same, filter-more, last_or-more}
use Rattle.cq_queue.proofs.Told.{IsNew}

-- the message after an entry that hands it out or gives it a timeout, if it does
abbrev pub touched_by : ℕ → Outcome → Bool → Bool → Message → Message
touched_by own f handed touched m = record {
  sequence = m.sequence;
  group = m.group;
  body = m.body;
  handings = cond handed (m.handings + 1) m.handings;
  handed_at = cond handed f.entry.moment m.handed_at;
  until = cond touched (end_of own f) m.until;
}

-- the message after an entry
abbrev pub after_outcome : ℕ → Outcome → Message → Message
after_outcome own f m = touched_by own f (hands_it m.sequence f) (touches_it m.sequence f) m

-- the entry doesn't delete the message
abbrev pub is_left_by : Outcome → Message → Bool
is_left_by f m = not (deletes_it m.sequence f)

-- the message of an accepted send, by the entries that handed it out and that gave it a timeout
abbrev made_of : ℕ → Outcome → List Outcome → List Outcome → Message
made_of own y hs ts = record {
  sequence = y.count;
  group = group_of y.entry.request.ask;
  body = body_of y.entry.request.ask;
  handings = length hs;
  handed_at = moment_of (last_or None hs);
  until = last_end own (last_or None ts);
}

made_more : (own : ℕ) (y f : Outcome) (hs ts : List Outcome) (b c : Bool) → made_of own y (cond b (hs ++ f ∷ []) hs) (cond c (ts ++ f ∷ []) ts) ≡ touched_by own f b c (made_of own y hs ts)
made_more own y f hs ts true true = rw (last_or-more None hs f, last_or-more None ts f, length-append hs (f ∷ []))
made_more own y f hs ts true false = rw (last_or-more None hs f, length-append hs (f ∷ []))
made_more own y f hs ts false true = rw (last_or-more None ts f)
made_more own y f hs ts false false = refl

-- a message after one more entry
message-more : (own : ℕ) (xs : List Outcome) (f y : Outcome) → message_of own (xs ++ f ∷ []) y ≡ after_outcome own f (message_of own xs y)
unfolding message_of hands touches until
message-more own xs f y = ap (λ hs. made_of own y hs (touches y.count (xs ++ f ∷ []))) (filter-more (hands_it y.count) xs f)
    ∙ ap (λ ts. made_of own y (cond (hands_it y.count f) (hands y.count xs ++ f ∷ []) (hands y.count xs)) ts) (filter-more (touches_it y.count) xs f)
    ∙ made_more own y f (hands y.count xs) (touches y.count xs) (hands_it y.count f) (touches_it y.count f)

not_either : (a b : Bool) → not (a || (b || false)) ≡ (not a && not b)
not_either true b = refl
not_either false true = refl
not_either false false = refl

-- which messages are left after one more entry
kept-more : (xs : List Outcome) (f y : Outcome) → is_kept (xs ++ f ∷ []) y ≡ (is_kept xs y && not (deletes_it y.count f))
unfolding is_deleted
kept-more xs f y = ap not (list_any-append (deletes_it y.count) xs (f ∷ [])) ∙ not_either (is_deleted y.count xs) (deletes_it y.count f)

-- after an entry that is no accepted send
pub remaining-more : (own : ℕ) (xs : List Outcome) (f : Outcome) → is_accepted f ≡ false → remaining own (xs ++ f ∷ []) ≡ map (after_outcome own f) (filter (is_left_by f) (remaining own xs))
unfolding remaining message_of
remaining-more own xs f rejected =
    let sends = messages xs in
    let left = λ (y : Outcome). not (deletes_it y.count f) in
    ap (λ ys. map (message_of own (xs ++ f ∷ [])) (filter (is_kept (xs ++ f ∷ [])) ys)) (messages-same xs f rejected)
    ∙ ap (map (message_of own (xs ++ f ∷ []))) (filter_agree (is_kept (xs ++ f ∷ [])) (λ y. is_kept xs y && left y) (λ y. kept-more xs f y) sends ∙ sym (filter-filter (is_kept xs) left sends))
    ∙ map-agrees (message_of own (xs ++ f ∷ [])) (λ y. after_outcome own f (message_of own xs y)) (filter left (filter (is_kept xs) sends)) (λ y. message-more own xs f y)
    ∙ sym (map-map (after_outcome own f) (message_of own xs) (filter left (filter (is_kept xs) sends)))
    ∙ ap (map (after_outcome own f)) (sym (filter-map (is_left_by f) (message_of own xs) (filter (is_kept xs) sends)))

-- after an entry that neither accepts nor hands out nor deletes nor changes anything
pub record IsQuiet (f : Outcome) : Type 0 where
  pub rejects : is_accepted f ≡ false
  pub handed : f.handed ≡ []
  pub changes : (n : ℕ) → changes_it n f ≡ false
  pub deletes : (n : ℕ) → deletes_it n f ≡ false

-- it hands out no message
quiet_hands : (n : ℕ) (f : Outcome) → f.handed ≡ [] → hands_it n f ≡ false
quiet_hands n f none = ap (λ ns. list_any (λ k. eqb k n) ns) none

pub remaining-quiet : (own : ℕ) (xs : List Outcome) (f : Outcome) → IsQuiet f → remaining own (xs ++ f ∷ []) ≡ remaining own xs
remaining-quiet own xs f quiet =
    remaining-more own xs f quiet.rejects
    ∙ ap (map (after_outcome own f)) (filter-same (is_left_by f) (remaining own xs) (λ m. ap not (quiet.deletes m.sequence)))
    ∙ map-same (after_outcome own f) (remaining own xs) (λ m. ap (λ b. touched_by own f b (b || changes_it m.sequence f) m) (quiet_hands m.sequence f quiet.handed) ∙ ap (λ c. touched_by own f false c m) (quiet.changes m.sequence))

-- an entry that doesn't delete the message doesn't change whether it is kept
same_kept : (xs : List Outcome) (f y : Outcome) → deletes_it y.count f ≡ false → is_kept (xs ++ f ∷ []) y ≡ is_kept xs y
unfolding is_deleted
same_kept xs f y h = ap not (any-fails (deletes_it y.count) xs f h)

-- nor does such an entry change how a message stands
same_message : (own : ℕ) (xs : List Outcome) (f y : Outcome) → f.handed ≡ [] → changes_it y.count f ≡ false → message_of own (xs ++ f ∷ []) y ≡ message_of own xs y
unfolding message_of
same_message own xs f y handed h = message-more own xs f y ∙ ap (λ b. touched_by own f b (b || changes_it y.count f) (message_of own xs y)) (quiet_hands y.count f handed) ∙ ap (λ c. touched_by own f false c (message_of own xs y)) h

-- the message of a new number
message_new : (own : ℕ) (xs : List Outcome) (f : Outcome) → IsNew f.count xs → message_of own xs f ≡ new_message f.count (group_of f.entry.request.ask) (body_of f.entry.request.ask)
unfolding message_of until
message_new own xs f new = ap (λ hs. made_of own f hs (touches f.count xs)) new.handed ∙ ap (λ ts. made_of own f [] ts) new.touched

-- after an accepted send
pub remaining-next : (own : ℕ) (xs : List Outcome) (f : Outcome) → is_accepted f ≡ true → f.handed ≡ [] → ((n : ℕ) → changes_it n f ≡ false) → ((n : ℕ) → deletes_it n f ≡ false) → IsNew f.count xs
    → remaining own (xs ++ f ∷ []) ≡ remaining own xs ++ new_message f.count (group_of f.entry.request.ask) (body_of f.entry.request.ask) ∷ []
unfolding remaining
remaining-next own xs f accepted handed changes deletes new =
    let sends = messages xs in
    ap (λ ys. map (message_of own (xs ++ f ∷ [])) (filter (is_kept (xs ++ f ∷ [])) ys)) (messages-next xs f accepted)
    ∙ ap (map (message_of own (xs ++ f ∷ []))) (filter_agree (is_kept (xs ++ f ∷ [])) (is_kept xs) (λ y. same_kept xs f y (deletes y.count)) (sends ++ f ∷ []))
    ∙ map-agrees (message_of own (xs ++ f ∷ [])) (message_of own xs) (filter (is_kept xs) (sends ++ f ∷ [])) (λ y. same_message own xs f y handed (changes y.count))
    ∙ ap (map (message_of own xs)) (filter-passes (is_kept xs) sends f (ap not new.deleted))
    ∙ map-append (message_of own xs) (filter (is_kept xs) sends) (f ∷ [])
    ∙ ap (λ m. map (message_of own xs) (filter (is_kept xs) sends) ++ m ∷ []) (message_new own xs f new)
