-- What deeds put to a party, and the pieces that they tell for it.
use Rattle.std.proofs.Common.{◌≡◌, ℕ, ◌+◌, ◌<◌, ◌∙◌, ap, sym, refl, subst, cond, List, [], ◌∷◌, ◌++◌, append_assoc, append-nil, length, map, Bool, true, false, Option, Some, None, inl, inr, arith}
use Rattle.std.proofs.lemmas.Bool.{true≢false}
use Rattle.std.proofs.lemmas.List.Concat.{flat_map-append}
use Rattle.cq_base.specs.declared.party.Party.{Party}
use Rattle.cq_chain.specs.declared.message.Message.{Message}
use Rattle.cq_chain.specs.Parties.{same}
use Rattle.cq_chain_wire.specs.declared.writer.MessageWriter.{MessageWriter}
use Rattle.cq_chain_wire.specs.Laws.{IsSound}
use Rattle.cq_chain_wire.specs.Pieces.{IsNextPiece}
use Rattle.cq_events.specs.Actions.{Action, Arrived, Asked, Crashed, Detected, Joined, Put, Took, put_to}
use Rattle.cq_events.proofs.Parties.{same-true, same-turned}
use Rattle.cq_frames.specs.declared.number.PieceNumber.{PieceNumber}
use Rattle.cq_process.specs.Links.{end_of, is_gone}
use Rattle.cq_process.specs.Outgoing.{End, IsFresh}
use Rattle.cq_process.specs.Putting.{IsHeld, WritesPiece, number_next}
use Rattle.cq_process_laws.specs.Deeds.{Acted, Came, Deed, Ended, Lost, Missed, Read, Rested, Threw, Told, actions_in, actions_of, responses_in, responses_of}
use Rattle.cq_process_laws.specs.Passing.{AreAllOf, AreFirst, ArePutAsTold, AreWhole, IsFront, Numbered, of_message, piece_for, pieces_for, placed}
use Rattle.cq_process_laws.proofs.Moments.{Did, DidAll, Ends, IsOwn, Now, OnlyTo, Rests, Tells}
use Rattle.cq_process_laws.proofs.Numbering.{length-last, message-here, message-there, placed-last, put-both, puts-here, puts-there}
use Rattle.cq_process_laws.proofs.Turning.{rests-same}

-- ---- at the end of a link

-- the pieces that were told of the message that is held
abbrev pub WrittenSo : Option Message → MessageWriter → List (List ℕ) → MessageWriter → Type 0
WrittenSo None start front writer = (front ≡ []) × (start ≡ writer)
WrittenSo (Some m) start front writer = AreFirst m start front writer

pub record IsAtEnd (end : End) (count : ℕ) (pieces : List (ℕ × List ℕ)) : Type 0 where
  pub put : end.put ≡ count
  pub texts : List (List ℕ)
  pub are : pieces ≡ placed 0 texts
  pub told : end.pieces ≡ length texts
  pub start : MessageWriter
  pub fresh : IsFresh start
  pub written : WrittenSo end.held start texts end.writer

abbrev pub IsAt : Option End → ℕ → List (ℕ × List ℕ) → Type 0
IsAt None count pieces = (count ≡ 0) × (pieces ≡ [])
IsAt (Some end) count pieces = IsAtEnd end count pieces

-- an end where a message begins
at-start : (end : End) (count : ℕ) (pieces : List (ℕ × List ℕ)) → end.put ≡ count → end.pieces ≡ 0 → IsFresh end.writer → pieces ≡ [] → IsAtEnd end count pieces
at-start end count pieces put told fresh none = record { put = put; texts = []; are = none; told = told; start = end.writer; fresh = fresh; written = go end.held } where
  go : (o : Option Message) → WrittenSo o end.writer [] end.writer
  go None = (refl, refl)
  go (Some m) = refl

held-rests : (o u : Option Message) (start w v : MessageWriter) (front : List (List ℕ)) → ((x : Message) → o ≡ Some x → u ≡ Some x) → v ≡ w → WrittenSo o start front w → WrittenSo u start front v
held-rests None None start w v front same e h = (h.0, h.1 ∙ sym e)
held-rests None (Some m) start w v front same e h = subst (λ f. AreFirst m start f v) (sym h.0) (h.1 ∙ sym e)
held-rests (Some x) u start w v front same e h = subst (λ o. WrittenSo o start front v) (sym (same x refl)) (subst (λ z. AreFirst x start front z) (sym e) h)

at-rests : (o u : Option End) (count : ℕ) (pieces : List (ℕ × List ℕ)) → Rests o u → IsAt o count pieces → IsAt u count pieces
at-rests None None count pieces rests h = h
at-rests None (Some after) count pieces rests h = at-start after count pieces (rests.0 ∙ sym h.0) rests.1.0 rests.1.1 h.1
at-rests (Some before) None count pieces rests h = absurd rests
at-rests (Some before) (Some after) count pieces rests h = record {
  put = rests.0 ∙ h.put;
  texts = h.texts;
  are = h.are;
  told = rests.1.0 ∙ h.told;
  start = h.start;
  fresh = h.fresh;
  written = held-rests before.held after.held h.start before.writer after.writer h.texts rests.1.1.1 rests.1.1.0 h.written;
}

front-so : (o : Option Message) (end : End) (count : ℕ) (pieces : List (ℕ × List ℕ)) (h : IsAtEnd end count pieces) → WrittenSo o h.start h.texts end.writer → IsFront pieces
front-so None end count pieces h written = inl (h.are ∙ ap (placed 0) written.0)
front-so (Some m) end count pieces h written = inr (m, record { start = h.start; fresh = h.fresh; texts = h.texts; end = end.writer; first = written; are = h.are })

at-front : (end : End) (count : ℕ) (pieces : List (ℕ × List ℕ)) → IsAtEnd end count pieces → IsFront pieces
at-front end count pieces h = front-so end.held end count pieces h h.written

-- ---- pieces

first-last : (m : Message) (a b c : MessageWriter) (texts : List (List ℕ)) (text : List ℕ) → AreFirst m a texts b → IsNextPiece m b c text → c.is_done ≡ false → AreFirst m a (texts ++ text ∷ []) c
first-last m a b c [] text h next more = (c, subst (λ w. IsNextPiece m w c text) (sym h) next, more, refl)
first-last m a b c (t ∷ texts) text h next more = (h.0, h.1, h.2, first-last m h.0 b c texts text h.3 next more)

held-first : (m : Message) (o : Option Message) (start writer : MessageWriter) (front : List (List ℕ)) → IsHeld o m → WrittenSo o start front writer → AreFirst m start front writer
held-first m None start writer front same h = subst (λ f. AreFirst m start f writer) (sym h.0) h.1
held-first m (Some x) start writer front same h = subst (λ y. AreFirst y start front writer) (sym (same x refl)) h

-- the piece that is written
next-piece : (m : Message) (before after : MessageWriter) (is_last : Bool) (piece : List ℕ) → WritesPiece m before after is_last [] piece → IsNextPiece m before after piece
next-piece m before after is_last piece w = subst (λ t. IsNextPiece m before after t) (sym w.bytes) w.piece

whole-same : (k : ℕ) (ms : List Message) (old new : List Numbered) → ((j : ℕ) → j < k + length ms → of_message j new ≡ of_message j old) → AreWhole k ms old → AreWhole k ms new
whole-same k [] old new same h = tt
whole-same k (m ∷ ms) old new same h = (subst (AreAllOf m) (sym (same k (omega arith))) h.0, whole-same (k + 1) ms old new (λ j below. same j (omega (arith, below))) h.1)

whole-last : (k : ℕ) (ms : List Message) (m : Message) (pieces : List Numbered) → AreWhole k ms pieces → AreAllOf m (of_message (k + length ms) pieces) → AreWhole k (ms ++ m ∷ []) pieces
whole-last k [] m pieces h all = let same : k + 0 ≡ k = omega arith in (subst (λ n. AreAllOf m (of_message n pieces)) same all, tt)
whole-last k (x ∷ ms) m pieces h all =
    let same : k + length (x ∷ ms) ≡ (k + 1) + length ms = omega arith in
    (h.0, whole-last (k + 1) ms m pieces h.1 (subst (λ n. AreAllOf m (of_message n pieces)) same all))

-- ---- what was put and told so far

pub record Left (to : Party) (a : Now) (messages : List Message) (pieces : List Numbered) : Type 0 where
  pub whole : List Message
  pub thrown : List Message
  pub are : messages ≡ whole ++ thrown
  pub lives : is_gone a.gone to ≡ false → (thrown ≡ []) × IsAt (end_of a.outgoing to) (length whole) (of_message (length whole + 1) pieces)
  pub each : AreWhole 1 whole pieces
  pub front : IsFront (of_message (length whole + 1) pieces)
  pub before : of_message 0 pieces ≡ []
  pub behind : (k : ℕ) → length whole + 1 < k → of_message k pieces ≡ []

-- nothing more of either
same-lists : (to : Party) (a : Now) (ms : List Message) (ps : List Numbered) → Left to a ms ps → Left to a (ms ++ []) (ps ++ [])
same-lists to a ms ps h = subst (λ xs. Left to a xs (ps ++ [])) (sym (append-nil ms)) (subst (λ xs. Left to a ms xs) (sym (append-nil ps)) h)

module _ (to : Party) (a b : Now) (ms : List Message) (ps : List Numbered) (h : Left to a ms ps) where
  left-rests : (is_gone b.gone to ≡ false → is_gone a.gone to ≡ false) → Rests (end_of a.outgoing to) (end_of b.outgoing to) → Left to b (ms ++ []) (ps ++ [])
  left-rests lives rests = same-lists to b ms ps (record {
    whole = h.whole;
    thrown = h.thrown;
    are = h.are;
    lives = λ here. let k = h.lives (lives here) in (k.0, at-rests (end_of a.outgoing to) (end_of b.outgoing to) (length h.whole) (of_message (length h.whole + 1) ps) rests k.1);
    each = h.each;
    front = h.front;
    before = h.before;
    behind = h.behind;
  })

  -- nothing happens to the link
  left-same : b.gone ≡ a.gone → b.outgoing ≡ a.outgoing → Left to b (ms ++ []) (ps ++ [])
  left-same gone outgoing = left-rests (λ here. subst (λ g. is_gone g to ≡ false) gone here) (subst (λ ends. Rests (end_of a.outgoing to) (end_of ends to)) (sym outgoing) (rests-same (end_of a.outgoing to)))

  left-other : (other : Party) → same other to ≡ false → OnlyTo other a b → Left to b (ms ++ []) (ps ++ [])
  left-other other apart only = left-rests (λ here. subst (λ g. is_gone g to ≡ false) only.gone here) (subst (λ o. Rests (end_of a.outgoing to) o) (sym (only.others to apart)) (rests-same (end_of a.outgoing to)))

  -- a piece more is told
  module _ (number : PieceNumber) (piece : List ℕ) where
    abbrev all : List Numbered
    all = ps ++ (number, piece) ∷ []

    -- of other messages there are no more
    told-there : (k : ℕ) → (k ≡ number.message → ⊥) → of_message k all ≡ of_message k ps
    told-there k apart = message-there k number ps piece apart

    -- of its message it is the next one
    told-here : (was : End) (at : IsAtEnd was (length h.whole) (of_message (length h.whole + 1) ps)) → number ≡ number_next was → of_message (length h.whole + 1) all ≡ placed 0 (at.texts ++ piece ∷ [])
    told-here was at is =
        let message_is : length h.whole + 1 ≡ number.message = ap (λ n. n + 1) (sym at.put) ∙ ap (λ (n : PieceNumber). n.message) (sym is) in
        let told : number.index ≡ length at.texts = ap (λ (n : PieceNumber). n.index) is ∙ at.told in
        let index_is : number.index ≡ 0 + length at.texts = omega (arith, told) in
        message-here (length h.whole + 1) number ps piece message_is ∙ ap (λ xs. xs ++ (number.index, piece) ∷ []) at.are ∙ ap (λ n. placed 0 at.texts ++ (n, piece) ∷ []) index_is ∙ sym (placed-last 0 at.texts piece)

    left-told : Tells to number piece a b → Left to b (ms ++ []) all
    left-told t = subst (λ xs. Left to b xs all) (sym (append-nil ms)) (record {
      whole = h.whole;
      thrown = h.thrown;
      are = h.are;
      lives = λ here. (k.0, subst (λ o. IsAt o (length h.whole) (of_message (length h.whole + 1) all)) (sym t.is_new) now);
      each = whole-same 1 h.whole ps all (λ j below. told-there j (λ is. omega (arith, below, is, message_is))) h.each;
      front = at-front t.becomes (length h.whole) (of_message (length h.whole + 1) all) now;
      before = told-there 0 (λ is. omega (arith, is, message_is)) ∙ h.before;
      behind = λ j above. told-there j (λ is. omega (arith, above, is, message_is)) ∙ h.behind j above;
    }) where
      k : (h.thrown ≡ []) × IsAt (end_of a.outgoing to) (length h.whole) (of_message (length h.whole + 1) ps)
      k = h.lives t.lives

      was : IsAtEnd t.was (length h.whole) (of_message (length h.whole + 1) ps)
      was = subst (λ o. IsAt o (length h.whole) (of_message (length h.whole + 1) ps)) t.is_old k.1

      message_is : number.message ≡ length h.whole + 1
      message_is = ap (λ (n : PieceNumber). n.message) t.number_is ∙ ap (λ n. n + 1) was.put

      now : IsAtEnd t.becomes (length h.whole) (of_message (length h.whole + 1) all)
      now = record {
        put = t.put ∙ was.put;
        texts = was.texts ++ piece ∷ [];
        are = told-here t.was was t.number_is;
        told = t.pieces ∙ ap (λ n. n + 1) was.told ∙ sym (length-last was.texts piece);
        start = was.start;
        fresh = was.fresh;
        written = subst (λ o. WrittenSo o was.start (was.texts ++ piece ∷ []) t.becomes.writer) (sym t.writes.held)
            (first-last t.writes.message was.start t.was.writer t.becomes.writer was.texts piece (held-first t.writes.message t.was.held was.start t.was.writer was.texts t.writes.same was.written)
            (next-piece t.writes.message t.was.writer t.becomes.writer false piece t.writes.written) t.writes.written.last);
      }

    -- the last piece is told, and the message is put
    left-ended : (message : Message) → Ends to number piece message a b → Left to b (ms ++ message ∷ []) all
    left-ended message t = record {
      whole = h.whole ++ message ∷ [];
      thrown = [];
      are = ap (λ xs. xs ++ message ∷ []) (h.are ∙ ap (λ xs. h.whole ++ xs) k.0 ∙ append-nil h.whole) ∙ sym (append-nil (h.whole ++ message ∷ []));
      lives = λ here. (
        refl,
        subst (λ o. IsAt o (length (h.whole ++ message ∷ [])) (of_message (length (h.whole ++ message ∷ []) + 1) all)) (sym t.is_new)
            (at-start t.becomes (length (h.whole ++ message ∷ [])) (of_message (length (h.whole ++ message ∷ []) + 1) all) (t.put ∙ ap (λ n. n + 1) was.put ∙ sym (length-last h.whole message)) t.pieces t.writes.fresh next),
      );
      each = whole-last 1 h.whole message all (whole-same 1 h.whole ps all (λ j below. told-there j (λ is. omega (arith, below, is, message_is))) h.each) (subst (λ n. AreAllOf message (of_message n all)) turned ended);
      front = inl next;
      before = told-there 0 (λ is. omega (arith, is, message_is)) ∙ h.before;
      behind = λ j above. told-there j (λ is. omega (arith, above, is, message_is, length-last h.whole message)) ∙ h.behind j (omega (arith, above, length-last h.whole message));
    } where
      k : (h.thrown ≡ []) × IsAt (end_of a.outgoing to) (length h.whole) (of_message (length h.whole + 1) ps)
      k = h.lives t.lives

      was : IsAtEnd t.was (length h.whole) (of_message (length h.whole + 1) ps)
      was = subst (λ o. IsAt o (length h.whole) (of_message (length h.whole + 1) ps)) t.is_old k.1

      message_is : number.message ≡ length h.whole + 1
      message_is = ap (λ (n : PieceNumber). n.message) t.number_is ∙ ap (λ n. n + 1) was.put

      turned : length h.whole + 1 ≡ 1 + length h.whole
      turned = omega arith

      next : of_message (length (h.whole ++ message ∷ []) + 1) all ≡ []
      next = told-there (length (h.whole ++ message ∷ []) + 1) (λ is. omega (arith, is, message_is, length-last h.whole message)) ∙ h.behind (length (h.whole ++ message ∷ []) + 1) (omega (arith, length-last h.whole message))

      ended : AreAllOf message (of_message (length h.whole + 1) all)
      ended = record {
        start = was.start;
        fresh = was.fresh;
        front = was.texts;
        mid = t.was.writer;
        first = subst (λ m. AreFirst m was.start was.texts t.was.writer) t.message_is (held-first t.writes.message t.was.held was.start t.was.writer was.texts t.writes.same was.written);
        last = piece;
        end = t.writes.writer;
        next = subst (λ m. IsNextPiece m t.was.writer t.writes.writer piece) t.message_is (next-piece t.writes.message t.was.writer t.writes.writer true piece t.writes.written);
        done = t.writes.written.last;
        are = told-here t.was was t.number_is;
        sound = subst (λ m. IsSound m) t.message_is t.writes.written.sound;
      }

  -- messages are thrown away
  left-threw : (messages : List Message) → is_gone a.gone to ≡ true → b.gone ≡ a.gone → Left to b (ms ++ messages) (ps ++ [])
  left-threw messages away gone = subst (λ xs. Left to b (ms ++ messages) xs) (sym (append-nil ps)) (record {
    whole = h.whole;
    thrown = h.thrown ++ messages;
    are = ap (λ xs. xs ++ messages) h.are ∙ append_assoc h.whole h.thrown messages;
    lives = λ here. absurd (true≢false (sym away ∙ subst (λ g. is_gone g to ≡ false) gone here));
    each = h.each;
    front = h.front;
    before = h.before;
    behind = h.behind;
  })

-- ---- deeds

left-acted : (to : Party) (a b : Now) (ms : List Message) (ps : List Numbered) (action : Action) → IsOwn action → Left to b (ms ++ []) (ps ++ []) → Left to b (ms ++ put_to to (action ∷ [])) (ps ++ [])
left-acted to a b ms ps (Arrived clock request) own h = h
left-acted to a b ms ps (Asked query) own h = h
left-acted to a b ms ps (Put other x) own h = absurd own
left-acted to a b ms ps (Took from x) own h = absurd own
left-acted to a b ms ps (Crashed count) own h = absurd own
left-acted to a b ms ps (Detected id) own h = absurd own
left-acted to a b ms ps (Joined id) own h = absurd own

-- who isn't gone then wasn't before
pub lived : (to party : Party) (old new : List Party) → (is_gone new to ≡ (cond (same party to) true (is_gone old to))) → is_gone new to ≡ false → is_gone old to ≡ false
lived to party old new is here = go (same party to) (sym is ∙ here) where
  go : (t : Bool) → cond t true (is_gone old to) ≡ false → is_gone old to ≡ false
  go true e = absurd (true≢false e)
  go false e = e

left-by : (to : Party) (deed : Deed) (a b : Now) (ms : List Message) (ps : List Numbered) → Did deed a b → Left to a ms ps → Left to b (ms ++ put_to to (actions_of deed)) (ps ++ pieces_for to (responses_of deed))
left-by to Rested a b ms ps d h = left-rests to a b ms ps h (λ here. subst (λ g. is_gone g to ≡ false) d.gone here) (d.outgoing to)
left-by to (Acted action) a b ms ps d h = left-acted to a b ms ps action d.own (left-same to a b ms ps h d.gone d.outgoing)
left-by to (Came from number piece) a b ms ps d h = left-same to a b ms ps h d.only.gone d.only.outgoing
left-by to (Read from number piece message) a b ms ps d h = left-same to a b ms ps h d.only.gone d.only.outgoing
left-by to (Missed from number piece code) a b ms ps d h = left-same to a b ms ps h d.only.gone d.only.outgoing
left-by to (Lost party) a b ms ps d h = left-rests to a b ms ps h (lived to party a.gone b.gone (d.gone to)) (subst (λ ends. Rests (end_of a.outgoing to) (end_of ends to)) (sym d.outgoing) (rests-same (end_of a.outgoing to)))
left-by to (Told other number piece) a b ms ps d h = go (same to other) refl where
  go : (t : Bool) → same to other ≡ t → Left to b (ms ++ []) (ps ++ (cond t ((number, piece) ∷ []) [] ++ []))
  go true e = left-told to a b ms ps h number piece (subst (λ x. Tells x number piece a b) (sym (same-true to other e)) d)
  go false e = left-other to a b ms ps h other (same-turned other to ∙ e) d.only
left-by to (Ended other number piece message) a b ms ps d h = go (same to other) refl where
  go : (t : Bool) → same to other ≡ t → Left to b (ms ++ (cond t (message ∷ []) [] ++ [])) (ps ++ (cond t ((number, piece) ∷ []) [] ++ []))
  go true e = left-ended to a b ms ps h number piece message (subst (λ x. Ends x number piece message a b) (sym (same-true to other e)) d)
  go false e = left-other to a b ms ps h other (same-turned other to ∙ e) d.only
left-by to (Threw other messages) a b ms ps d h = go (same to other) refl where
  go : (t : Bool) → same to other ≡ t → Left to b (ms ++ put_to to (map (λ x. Put other x) messages)) (ps ++ [])
  go true e = subst (λ xs. Left to b (ms ++ xs) (ps ++ [])) (sym (puts-here to other messages e)) (left-threw to a b ms ps h messages (subst (λ x. is_gone a.gone x ≡ true) (sym (same-true to other e)) d.gone) d.only.gone)
  go false e = subst (λ xs. Left to b (ms ++ xs) (ps ++ [])) (sym (puts-there to other messages e)) (left-other to a b ms ps h other (same-turned other to ∙ e) d.only)

-- those of one and of the others behind it are those of all
left-joined : (to : Party) (b : Now) (deed : Deed) (deeds : List Deed) (ms : List Message) (ps : List Numbered) → Left to b ((ms ++ put_to to (actions_of deed)) ++ put_to to (actions_in deeds)) ((ps ++ pieces_for to (responses_of deed)) ++ pieces_for to (responses_in deeds))
    → Left to b (ms ++ put_to to (actions_in (deed ∷ deeds))) (ps ++ pieces_for to (responses_in (deed ∷ deeds)))
left-joined to b deed deeds ms ps h =
    subst (λ xs. Left to b xs (ps ++ pieces_for to (responses_in (deed ∷ deeds)))) puts (subst (λ xs. Left to b ((ms ++ put_to to (actions_of deed)) ++ put_to to (actions_in deeds)) xs) pieces h)
  where
    puts : (ms ++ put_to to (actions_of deed)) ++ put_to to (actions_in deeds) ≡ ms ++ put_to to (actions_in (deed ∷ deeds))
    puts = append_assoc ms (put_to to (actions_of deed)) (put_to to (actions_in deeds)) ∙ ap (λ xs. ms ++ xs) (sym (put-both to (actions_of deed) (actions_in deeds)))

    pieces : (ps ++ pieces_for to (responses_of deed)) ++ pieces_for to (responses_in deeds) ≡ ps ++ pieces_for to (responses_in (deed ∷ deeds))
    pieces = append_assoc ps (pieces_for to (responses_of deed)) (pieces_for to (responses_in deeds)) ∙ ap (λ xs. ps ++ xs) (sym (flat_map-append (piece_for to) (responses_of deed) (responses_in deeds)))

left-all : (to : Party) (deeds : List Deed) (a b : Now) (ms : List Message) (ps : List Numbered) → DidAll a deeds b → Left to a ms ps → Left to b (ms ++ put_to to (actions_in deeds)) (ps ++ pieces_for to (responses_in deeds))
left-all to [] a b ms ps d h = subst (λ n. Left to n (ms ++ []) (ps ++ [])) d (same-lists to a ms ps h)
left-all to (deed ∷ deeds) a b ms ps d h =
    left-joined to b deed deeds ms ps (left-all to deeds d.0 b (ms ++ put_to to (actions_of deed)) (ps ++ pieces_for to (responses_of deed)) d.1.1 (left-by to deed a d.0 ms ps d.1.0 h))

-- from a process on that put nothing
pub put-as-told : (to : Party) (deeds : List Deed) (a b : Now) → end_of a.outgoing to ≡ None → DidAll a deeds b → ArePutAsTold (is_gone b.gone to) (put_to to (actions_in deeds)) (pieces_for to (responses_in deeds))
put-as-told to deeds a b none d =
    let h = left-all to deeds a b [] [] d first in
    record { whole = h.whole; thrown = h.thrown; are = h.are; lives = λ here. (h.lives here).0; each = h.each; front = h.front; before = h.before; behind = h.behind }
  where
    first : Left to a [] []
    first = record {
      whole = [];
      thrown = [];
      are = refl;
      lives = λ here. (refl, subst (λ o. IsAt o 0 []) (sym none) (refl, refl));
      each = tt;
      front = inl refl;
      before = refl;
      behind = λ k above. refl;
    }
