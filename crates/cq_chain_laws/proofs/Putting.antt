-- What a process of a master puts to one server, and the pieces that it tells for it.
use Rattle.std.proofs.Common.{◌≡◌, ◌∙◌, ℕ, ◌+◌, ◌<◌, ◌==◌, ap, sym, refl, subst, cond, List, [], ◌∷◌, ◌++◌, length, map, append-nil, append_assoc, Bool, true, false, inl, arith}
use Rattle.std.proofs.lemmas.Bool.{eqb-true, true≢false}
use Rattle.std.proofs.lemmas.List.Concat.{flat_map-append}
use Rattle.cq_base.specs.declared.party.Party.TheVariants as parties
use Rattle.cq_chain.specs.declared.message.Message.{Message}
use Rattle.cq_chain.specs.declared.message.Message.TheVariants as kinds
use Rattle.cq_chain.specs.Parties.{same}
use Rattle.cq_chain_wire.specs.declared.writer.MessageWriter.{MessageWriter}
use Rattle.cq_chain_wire.specs.Laws.{IsSound}
use Rattle.cq_chain_wire.specs.Limits.{IsMessage}
use Rattle.cq_chain_wire.specs.Pieces.{IsNextPiece}
use Rattle.cq_events.specs.Actions.{put_to}
use Rattle.cq_events.proofs.Parties.{same-turned}
use Rattle.cq_master_process.specs.Cores.{piece_of}
use Rattle.cq_master_process.specs.Links.{counted}
use Rattle.cq_master_process.specs.Putting.{AllFit, IsTold, Sent, action_of, counted_all, only_piece}
use Rattle.cq_process_laws.specs.Passing.{AreAllOf, ArePutAsTold, AreWhole, Numbered, of_message, piece_for, pieces_for}
use Rattle.cq_process_laws.proofs.Numbering.{length-last, message-here, message-there, put-both}
use Rattle.cq_store_wire.specs.declared.writer.Place.TheVariants as places
use Rattle.cq_chain_laws.proofs.Mastering.{responses_all, told_once}

-- ---- one message as one piece

-- where a writer begins, and where it is done
start : MessageWriter
start = record { store = record { bodies = []; place = places.Start }; is_done = false }

end : MessageWriter
end = record { store = record { bodies = []; place = places.Start }; is_done = true }

plain-next : (m : Message) → IsMessage m → IsNextPiece m start end (piece_of m)
unfolding end
plain-next (kinds.Fwd place one) fits = (refl, refl)
plain-next (kinds.Snap state) fits = absurd fits
plain-next (kinds.Ack place) fits = (refl, refl)
plain-next kinds.BeHead fits = (refl, refl)
plain-next (kinds.Report pred) fits = (refl, refl)
plain-next (kinds.Adopt succ have) fits = (refl, refl)
plain-next (kinds.BeTail least) fits = (refl, refl)
plain-next (kinds.Feed succ) fits = (refl, refl)
plain-next (kinds.Have pred count) fits = (refl, refl)
plain-next (kinds.Adopted succ count) fits = (refl, refl)
plain-next (kinds.Caught pred count) fits = (refl, refl)
plain-next kinds.Ready fits = (refl, refl)
plain-next (kinds.Answer answer) fits = (refl, refl)

pub plain-sound : (m : Message) → IsMessage m → IsSound m
plain-sound (kinds.Fwd place one) fits = fits
plain-sound (kinds.Snap state) fits = absurd fits
plain-sound (kinds.Ack place) fits = fits
plain-sound kinds.BeHead fits = fits
plain-sound (kinds.Report pred) fits = fits
plain-sound (kinds.Adopt succ have) fits = fits
plain-sound (kinds.BeTail least) fits = fits
plain-sound (kinds.Feed succ) fits = fits
plain-sound (kinds.Have pred count) fits = fits
plain-sound (kinds.Adopted succ count) fits = fits
plain-sound (kinds.Caught pred count) fits = fits
plain-sound kinds.Ready fits = fits
plain-sound (kinds.Answer answer) fits = fits

all-of : (m : Message) (pieces : List (ℕ × List ℕ)) → IsMessage m → pieces ≡ (0, piece_of m) ∷ [] → AreAllOf m pieces
unfolding start end
all-of m pieces fits is = record {
  start = start;
  fresh = record { start = refl; bodies = refl; begins = refl };
  front = [];
  mid = start;
  first = refl;
  last = piece_of m;
  end = end;
  next = plain-next m fits;
  done = refl;
  are = is;
  sound = plain-sound m fits;
}

-- ---- what was put and told so far for one server

-- So many messages were put, of which the last ones may have been thrown away, if the server is gone.
pub record Left (is_gone : Bool) (count : ℕ) (messages : List Message) (pieces : List Numbered) : Type 0 where
  pub whole : List Message
  pub thrown : List Message
  pub are : messages ≡ whole ++ thrown
  pub lives : is_gone ≡ false → (thrown ≡ []) × (count ≡ length whole)
  pub each : AreWhole 1 whole pieces
  pub before : of_message 0 pieces ≡ []
  pub behind : (k : ℕ) → length whole < k → of_message k pieces ≡ []

pub left-none : (is_gone : Bool) → Left is_gone 0 [] []
left-none is_gone = record { whole = []; thrown = []; are = refl; lives = λ here. (refl, refl); each = tt; before = refl; behind = λ k above. refl }

pub left-told : (is_gone : Bool) (count : ℕ) (messages : List Message) (pieces : List Numbered) → Left is_gone count messages pieces → ArePutAsTold is_gone messages pieces
left-told is_gone count messages pieces h = record {
  whole = h.whole;
  thrown = h.thrown;
  are = h.are;
  lives = λ here. (h.lives here).0;
  each = h.each;
  front = inl (h.behind (length h.whole + 1) (omega arith));
  before = h.before;
  behind = λ k above. h.behind k (omega (arith, above));
}

-- it is gone now, or stays so
pub left-gone : (old new : Bool) (count : ℕ) (messages : List Message) (pieces : List Numbered) → (new ≡ false → old ≡ false) → Left old count messages pieces → Left new count messages pieces
left-gone old new count messages pieces lives h = record { whole = h.whole; thrown = h.thrown; are = h.are; lives = λ here. h.lives (lives here); each = h.each; before = h.before; behind = h.behind }

whole-same : (k : ℕ) (ms : List Message) (old new : List Numbered) → ((j : ℕ) → j < k + length ms → of_message j new ≡ of_message j old) → AreWhole k ms old → AreWhole k ms new
whole-same k [] old new same h = tt
whole-same k (m ∷ ms) old new same h = (subst (AreAllOf m) (sym (same k (omega arith))) h.0, whole-same (k + 1) ms old new (λ j below. same j (omega (arith, below))) h.1)

whole-last : (k : ℕ) (ms : List Message) (m : Message) (pieces : List Numbered) → AreWhole k ms pieces → AreAllOf m (of_message (k + length ms) pieces) → AreWhole k (ms ++ m ∷ []) pieces
whole-last k [] m pieces h all = let same : k + 0 ≡ k = omega arith in (subst (λ n. AreAllOf m (of_message n pieces)) same all, tt)
whole-last k (x ∷ ms) m pieces h all =
    let same : k + length (x ∷ ms) ≡ (k + 1) + length ms = omega arith in
    (h.0, whole-last (k + 1) ms m pieces h.1 (subst (λ n. AreAllOf m (of_message n pieces)) same all))

-- one message more is told
left-more : (count : ℕ) (messages : List Message) (pieces : List Numbered) (m : Message) → IsMessage m → Left false count messages pieces → Left false (count + 1) (messages ++ m ∷ []) (pieces ++ (only_piece (count + 1), piece_of m) ∷ [])
left-more count messages pieces m fits h =
    let number = only_piece (count + 1) in
    let all = pieces ++ (number, piece_of m) ∷ [] in
    let here = h.lives refl in
    let many = length-last h.whole m in
    let turned : 1 + length h.whole ≡ count + 1 = let same = here.1 in omega arith in
    let none : of_message (count + 1) pieces ≡ [] = h.behind (count + 1) (let same = here.1 in omega arith) in
    record {
      whole = h.whole ++ m ∷ [];
      thrown = [];
      are = ap (λ xs. xs ++ m ∷ []) (h.are ∙ ap (λ xs. h.whole ++ xs) here.0 ∙ append-nil h.whole) ∙ sym (append-nil (h.whole ++ m ∷ []));
      lives = λ so. (refl, ap (λ n. n + 1) here.1 ∙ sym many);
      each = whole-last 1 h.whole m all (whole-same 1 h.whole pieces all (λ j below. message-there j number pieces (piece_of m) (λ is. omega (arith, below, is, here.1))) h.each)
          (subst (λ n. AreAllOf m (of_message n all)) (sym turned) (all-of m (of_message (count + 1) all) fits (message-here (count + 1) number pieces (piece_of m) refl ∙ ap (λ xs. xs ++ (0, piece_of m) ∷ []) none)));
      before = message-there 0 number pieces (piece_of m) (λ is. omega (arith, is)) ∙ h.before;
      behind = λ k above. message-there k number pieces (piece_of m) (λ is. omega (arith, above, is, many, here.1)) ∙ h.behind k (omega (arith, above, many));
    }

-- or thrown away
left-threw : (count later : ℕ) (messages : List Message) (pieces : List Numbered) (m : Message) → Left true count messages pieces → Left true later (messages ++ m ∷ []) (pieces ++ [])
left-threw count later messages pieces m h = subst (λ ps. Left true later (messages ++ m ∷ []) ps) (sym (append-nil pieces)) (record {
  whole = h.whole;
  thrown = h.thrown ++ m ∷ [];
  are = ap (λ xs. xs ++ m ∷ []) h.are ∙ append_assoc h.whole h.thrown (m ∷ []);
  lives = λ here. absurd (true≢false here);
  each = h.each;
  before = h.before;
  behind = h.behind;
})

-- ---- messages one after another

-- the piece that is told for a server of a message, by whether it is for that server, and for one that is gone
abbrev pub piece_if : Bool → Bool → Sent → ℕ → List Numbered
piece_if is_for true x number = []
piece_if is_for false x number = cond is_for ((only_piece number, piece_of x.message) ∷ []) [] ++ []

piece-is : (to : ℕ) (is_gone : Bool) (x : Sent) (number : ℕ) → piece_if (to == x.to) is_gone x number ≡ pieces_for (parties.Server to) (told_once is_gone x number)
piece-is to true x number = refl
piece-is to false x number = refl

module _ (are_gone : ℕ → Bool) (numbers : ℕ → ℕ) (messages : List Message) (pieces : List Numbered) (x : Sent) where
  abbrev pub Becomes : ℕ → Bool → Bool → Type 0
  Becomes to is_for is_gone = Left (are_gone to) (cond is_for (numbers to + 1) (numbers to)) (messages ++ (cond is_for (x.message ∷ []) [] ++ [])) (pieces ++ piece_if is_for is_gone x (numbers x.to + 1))

  -- the message is for another server
  there : (to : ℕ) (is_gone : Bool) → Left (are_gone to) (numbers to) messages pieces → Becomes to false is_gone
  there to true h = subst (λ ms. Left (are_gone to) (numbers to) ms (pieces ++ [])) (sym (append-nil messages)) (subst (λ ps. Left (are_gone to) (numbers to) messages ps) (sym (append-nil pieces)) h)
  there to false h = subst (λ ms. Left (are_gone to) (numbers to) ms (pieces ++ [])) (sym (append-nil messages)) (subst (λ ps. Left (are_gone to) (numbers to) messages ps) (sym (append-nil pieces)) h)

  -- or for this one
  here : (is_gone : Bool) → are_gone x.to ≡ is_gone → (is_gone ≡ false → IsMessage x.message) → Left (are_gone x.to) (numbers x.to) messages pieces → Becomes x.to true is_gone
  here true is fits h = subst (λ g. Left g (numbers x.to + 1) (messages ++ x.message ∷ []) (pieces ++ [])) (sym is)
      (left-threw (numbers x.to) (numbers x.to + 1) messages pieces x.message (subst (λ g. Left g (numbers x.to) messages pieces) is h))
  here false is fits h = subst (λ g. Left g (numbers x.to + 1) (messages ++ x.message ∷ []) (pieces ++ (only_piece (numbers x.to + 1), piece_of x.message) ∷ [])) (sym is)
      (left-more (numbers x.to) messages pieces x.message (fits refl) (subst (λ g. Left g (numbers x.to) messages pieces) is h))

  either : (to : ℕ) (is_for : Bool) → to == x.to ≡ is_for → (are_gone x.to ≡ false → IsMessage x.message) → Left (are_gone to) (numbers to) messages pieces → Becomes to is_for (are_gone x.to)
  either to true e fits h =
      let is = eqb-true to x.to e in
      subst (λ id. Becomes id true (are_gone x.to)) (sym is) (here (are_gone x.to) refl fits (subst (λ id. Left (are_gone id) (numbers id) messages pieces) is h))
  either to false e fits h = there to (are_gone x.to) h

  -- what is put to a server by one message, and told for it
  one-left : (to : ℕ) → (are_gone x.to ≡ false → IsMessage x.message) → Left (are_gone to) (numbers to) messages pieces
      → Left (are_gone to) (counted numbers x.to to) (messages ++ put_to (parties.Server to) (action_of x ∷ [])) (pieces ++ pieces_for (parties.Server to) (told_once (are_gone x.to) x (numbers x.to + 1)))
  one-left to fits h =
      subst (λ ps. Left (are_gone to) (counted numbers x.to to) (messages ++ put_to (parties.Server to) (action_of x ∷ [])) (pieces ++ ps)) (piece-is to (are_gone x.to) x (numbers x.to + 1))
      (subst (λ t. Left (are_gone to) (cond t (numbers to + 1) (numbers to)) (messages ++ put_to (parties.Server to) (action_of x ∷ [])) (pieces ++ piece_if (to == x.to) (are_gone x.to) x (numbers x.to + 1))) (same-turned (parties.Server to) (parties.Server x.to))
      (either to (to == x.to) refl fits h))

-- what is told has bytes, so it is a plain message
plain-told : (is_gone : Bool) (x : Sent) (number : ℕ) → IsTold is_gone x number → is_gone ≡ false → IsMessage x.message
plain-told true x number h e = absurd (true≢false e)
plain-told false x number h e = h.0

pub all-left : (are_gone : ℕ → Bool) (to : ℕ) (xs : List Sent) (numbers : ℕ → ℕ) (messages : List Message) (pieces : List Numbered) → AllFit are_gone numbers xs → Left (are_gone to) (numbers to) messages pieces
    → Left (are_gone to) (counted_all numbers xs to) (messages ++ put_to (parties.Server to) (map action_of xs)) (pieces ++ pieces_for (parties.Server to) (responses_all are_gone numbers xs))
all-left are_gone to [] numbers messages pieces fits h = subst (λ ms. Left (are_gone to) (numbers to) ms (pieces ++ [])) (sym (append-nil messages)) (subst (λ ps. Left (are_gone to) (numbers to) messages ps) (sym (append-nil pieces)) h)
all-left are_gone to (x ∷ xs) numbers messages pieces fits h =
    let told = told_once (are_gone x.to) x (numbers x.to + 1) in
    let later = responses_all are_gone (counted numbers x.to) xs in
    let one = one-left are_gone numbers messages pieces x to (plain-told (are_gone x.to) x (numbers x.to + 1) fits.1.0) h in
    let rest = all-left are_gone to xs (counted numbers x.to) (messages ++ put_to (parties.Server to) (action_of x ∷ [])) (pieces ++ pieces_for (parties.Server to) told) fits.1.1 one in
    subst (λ ms. Left (are_gone to) (counted_all (counted numbers x.to) xs to) ms (pieces ++ pieces_for (parties.Server to) (told ++ later)))
    (append_assoc messages (put_to (parties.Server to) (action_of x ∷ [])) (put_to (parties.Server to) (map action_of xs)) ∙ ap (λ ys. messages ++ ys) (sym (put-both (parties.Server to) (action_of x ∷ []) (map action_of xs))))
    (subst (λ ps. Left (are_gone to) (counted_all (counted numbers x.to) xs to) ((messages ++ put_to (parties.Server to) (action_of x ∷ [])) ++ put_to (parties.Server to) (map action_of xs)) ps)
    (append_assoc pieces (pieces_for (parties.Server to) told) (pieces_for (parties.Server to) later) ∙ ap (λ ys. pieces ++ ys) (sym (flat_map-append (piece_for (parties.Server to)) told later))) rest)
