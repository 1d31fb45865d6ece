-- What deeds take from a party, and the pieces that came from it.
use Rattle.std.proofs.Common.{◌≡◌, ℕ, ◌+◌, ◌∙◌, ap, sym, refl, subst, cond, List, [], ◌∷◌, ◌++◌, append_assoc, append-nil, length, Bool, true, false, Option, None, inl, inr, Ok, arith, Some}
use Rattle.std.specs.Prelude.{◌⊎◌, flat_map, if◌then◌else◌}
use Rattle.std.proofs.lemmas.Bool.{ne_eqb, true≢false}
use Rattle.cq_base.specs.declared.party.Party.{Party}
use Rattle.cq_base.specs.Relations.{Among}
use Rattle.cq_chain.specs.declared.message.Message.{Message}
use Rattle.cq_chain.specs.Parties.{same}
use Rattle.cq_chain_wire.specs.declared.reader.Progress.{Progress}
use Rattle.cq_chain_wire.specs.declared.reader.Progress.TheVariants.{More, Whole}
use Rattle.cq_chain_wire.specs.Feeding.{all_fed}
use Rattle.cq_events.specs.Actions.{Action, Arrived, Asked, Crashed, Detected, Joined, Put, Took, taken_from}
use Rattle.cq_events.proofs.Parties.{same-true, same-turned}
use Rattle.cq_frames.specs.declared.number.PieceNumber.{PieceNumber}
use Rattle.cq_process.specs.declared.incoming.TakeFault.TheVariants.{NotNext}
use Rattle.cq_process.specs.Faults.{take_code}
use Rattle.cq_process.specs.Links.{Received, end_of, is_gone, received}
use Rattle.cq_process.specs.Taking.{nothing, read_on}
use Rattle.cq_process.proofs.Pieces.{are-read-on}
use Rattle.cq_store_wire.specs.declared.build.State.{State}
use Rattle.cq_wire.proofs.Fronts.{ok_is}
use Rattle.cq_process_laws.specs.Deeds.{Acted, Came, Deed, Ended, Lost, Missed, Read, Rested, Threw, Told, actions_in, actions_of}
use Rattle.cq_process_laws.specs.Passing.{AreThere, Numbered, WasRead, WereRead, in_turn, number_at}
use Rattle.cq_process_laws.proofs.Moments.{Comes, Did, DidAll, IsLetGo, IsNext, IsOutOfTurn, IsOwn, IsRead, Misses, Now, OnlyFrom, came_to}
use Rattle.cq_process_laws.proofs.Leaving.{lived}
use Rattle.cq_process_laws.proofs.Numbering.{length-last, puts-taken, taken-both}

-- the piece from a party that a deed is, but where it was out of turn
abbrev pub piece_from : Party → Deed → List Numbered
piece_from from Rested = []
piece_from from (Acted action) = []
piece_from from (Came other number piece) = if same from other then in_turn number piece None else []
piece_from from (Read other number piece message) = if same from other then in_turn number piece None else []
piece_from from (Missed other number piece code) = if same from other then in_turn number piece (Some code) else []
piece_from from (Lost party) = []
piece_from from (Told to number piece) = []
piece_from from (Ended to number piece message) = []
piece_from from (Threw to messages) = []

abbrev pub pieces_from : Party → List Deed → List Numbered
pieces_from from deeds = flat_map (piece_from from) deeds

-- ---- pieces that came

pub among-more : {A : Type 0} (x : A) (xs ys : List A) → Among x xs → Among x (xs ++ ys)
among-more x [] ys h = absurd h
among-more x (y ∷ xs) ys (inl is) = inl is
among-more x (y ∷ xs) ys (inr h) = inr (among-more x xs ys h)

pub among-behind : {A : Type 0} (x : A) (xs ys : List A) → Among x ys → Among x (xs ++ ys)
among-behind x [] ys h = h
among-behind x (y ∷ xs) ys h = inr (among-behind x xs ys h)

-- all of these are among those
abbrev pub Holds : List Numbered → List Numbered → Type 0
Holds all some = (one : Numbered) → Among one some → Among one all

there-in : (k index : ℕ) (texts : List (List ℕ)) (some all : List Numbered) → Holds all some → AreThere k index texts some → AreThere k index texts all
there-in k index [] some all holds h = tt
there-in k index (text ∷ texts) some all holds h = (holds (number_at k index, text) h.0, there-in k (index + 1) texts some all holds h.1)

pub was-in : (k : ℕ) (m : Message) (some all : List Numbered) → Holds all some → WasRead k m some → WasRead k m all
was-in k m some all holds h = record { texts = h.texts; there = there-in k 0 h.texts some all holds h.there; whole = h.whole }

pub were-in : (k : ℕ) (ms : List Message) (some all : List Numbered) → Holds all some → WereRead k ms some → WereRead k ms all
were-in k [] some all holds h = tt
were-in k (m ∷ ms) some all holds h = (was-in k m some all holds h.0, were-in (k + 1) ms some all holds h.1)

more-holds : (some more : List Numbered) → Holds (some ++ more) some
more-holds some more one h = among-more one some more h

-- one text more, at the next place
there-last : (k index : ℕ) (texts : List (List ℕ)) (text : List ℕ) (came : List Numbered) → AreThere k index texts came → Among (number_at k (index + length texts), text) came → AreThere k index (texts ++ text ∷ []) came
there-last k index [] text came h last = let same : index + 0 ≡ index = omega arith in (subst (λ n. Among (number_at k n, text) came) same last, tt)
there-last k index (x ∷ texts) text came h last =
    let same : index + length (x ∷ texts) ≡ (index + 1) + length texts = omega arith in
    (h.0, there-last k (index + 1) texts text came h.1 (subst (λ n. Among (number_at k n, text) came) same last))

-- ---- what was read of the next message

-- so far it was read of these texts, one for each piece
pub record IsGoing (k count : ℕ) (so_far : Option State) (came : List Numbered) : Type 0 where
  pub texts : List (List ℕ)
  pub many : count ≡ length texts
  pub there : AreThere k 0 texts came
  pub fed : all_fed texts nothing ≡ Ok (More so_far)

abbrev pub IsReading : ℕ → ℕ → Progress → List Numbered → Type 0
IsReading k count (More so_far) came = IsGoing k count so_far came
IsReading k count (Whole m) came = WasRead k m came

-- nothing was read where a message begins
going-first : (k count : ℕ) (came : List Numbered) → count ≡ 0 → IsGoing k count None came
unfolding all_fed
going-first k count came none = record { texts = []; many = none; there = tt; fed = refl }

reading-in : (k count : ℕ) (p : Progress) (some all : List Numbered) → Holds all some → IsReading k count p some → IsReading k count p all
reading-in k count (More so_far) some all holds h = record { texts = h.texts; many = h.many; there = there-in k 0 h.texts some all holds h.there; fed = h.fed }
reading-in k count (Whole m) some all holds h = was-in k m some all holds h

are-read : (texts : List (List ℕ)) (piece : List ℕ) (so_far : Option State) → all_fed texts nothing ≡ Ok (More so_far) → all_fed (texts ++ piece ∷ []) nothing ≡ read_on piece (More so_far)
are-read texts piece so_far h = are-read-on texts piece so_far h

whole-is : (m one : Message) → Whole one ≡ Whole m → one ≡ m
whole-is m one e = cc

-- a piece more is read
going-on : (k count : ℕ) (p : Progress) (came : List Numbered) (piece : List ℕ) (so_far : Option State) → Among (number_at k count, piece) came → IsReading k count p came → read_on piece p ≡ Ok (More so_far) → IsGoing k (count + 1) so_far came
going-on k count (More old) came piece so_far here h read =
    let place : count ≡ 0 + length h.texts = let many = h.many in omega (arith, many) in
    record {
      texts = h.texts ++ piece ∷ [];
      many = ap (λ n. n + 1) h.many ∙ sym (length-last h.texts piece);
      there = there-last k 0 h.texts piece came h.there (subst (λ n. Among (number_at k n, piece) came) place here);
      fed = are-read h.texts piece old h.fed ∙ read;
    }
going-on k count (Whole one) came piece so_far here h read = let wrong = ok_is (Whole one) (More so_far) read in absurd cc

-- and all of the message
going-whole : (k count : ℕ) (p : Progress) (came : List Numbered) (piece : List ℕ) (m : Message) → Among (number_at k count, piece) came → IsReading k count p came → read_on piece p ≡ Ok (Whole m) → WasRead k m came
going-whole k count (More old) came piece m here h read =
    let place : count ≡ 0 + length h.texts = let many = h.many in omega (arith, many) in
    record {
      texts = h.texts ++ piece ∷ [];
      there = there-last k 0 h.texts piece came h.there (subst (λ n. Among (number_at k n, piece) came) place here);
      whole = are-read h.texts piece old h.fed ∙ read;
    }
going-whole k count (Whole one) came piece m here h read = subst (λ x. WasRead k x came) (whole-is m one (ok_is (Whole one) (Whole m) read)) h

-- ---- what was taken so far

were-last : (k : ℕ) (ms : List Message) (m : Message) (came : List Numbered) → WereRead k ms came → WasRead (k + length ms) m came → WereRead k (ms ++ m ∷ []) came
were-last k [] m came h was = let same : k + 0 ≡ k = omega arith in (subst (λ n. WasRead n m came) same was, tt)
were-last k (x ∷ ms) m came h was =
    let same : k + length (x ∷ ms) ≡ (k + 1) + length ms = omega arith in
    (h.0, were-last (k + 1) ms m came h.1 (subst (λ n. WasRead n m came) same was))

pub record Taken (from : Party) (a : Now) (messages : List Message) (came : List Numbered) : Type 0 where
  pub each : WereRead 1 messages came
  pub count : (came_to a from).taken ≡ length messages
  pub next : is_gone a.gone from ≡ false → IsReading (length messages + 1) (came_to a from).pieces (came_to a from).next came

same-lists : (from : Party) (a : Now) (ms : List Message) (ps : List Numbered) → Taken from a ms ps → Taken from a (ms ++ []) (ps ++ [])
same-lists from a ms ps h = subst (λ xs. Taken from a xs (ps ++ [])) (sym (append-nil ms)) (subst (λ xs. Taken from a ms xs) (sym (append-nil ps)) h)

module _ (from : Party) (a b : Now) (ms : List Message) (ps : List Numbered) (h : Taken from a ms ps) where
  -- no piece came
  taken-rests : (is_gone b.gone from ≡ false → (is_gone a.gone from ≡ false) × (came_to b from ≡ came_to a from)) → (came_to b from).taken ≡ (came_to a from).taken → Taken from b (ms ++ []) (ps ++ [])
  taken-rests lives count = same-lists from b ms ps (record {
    each = h.each;
    count = count ∙ h.count;
    next = λ here. let k = lives here in subst (λ (r : Received). IsReading (length ms + 1) r.pieces r.next ps) (sym k.1) (h.next k.0);
  })

  taken-same : b.gone ≡ a.gone → b.incoming ≡ a.incoming → Taken from b (ms ++ []) (ps ++ [])
  taken-same gone incoming =
      let came : came_to b from ≡ came_to a from = ap (λ ends. received (end_of ends from)) incoming in
      taken-rests (λ here. (subst (λ g. is_gone g from ≡ false) gone here, came)) (ap (λ (r : Received). r.taken) came)

  taken-other : (other : Party) → same other from ≡ false → OnlyFrom other a b → Taken from b (ms ++ []) (ps ++ [])
  taken-other other apart only =
      let came : came_to b from ≡ came_to a from = ap (λ o. received o) (only.others from apart) in
      taken-rests (λ here. (subst (λ g. is_gone g from ≡ false) only.gone here, came)) (ap (λ (r : Received). r.taken) came)

  module _ (number : PieceNumber) (piece : List ℕ) where
    abbrev all : List Numbered
    all = ps ++ (number, piece) ∷ []

    -- it is there, as the next one
    came-here : IsNext number (came_to a from) → Among (number_at (length ms + 1) (came_to a from).pieces, piece) all
    came-here next =
        let message_is : number.message ≡ length ms + 1 = next.0 ∙ ap (λ n. n + 1) h.count in
        let is : number ≡ number_at (length ms + 1) (came_to a from).pieces = λ i. record { message = message_is i; index = next.1 i } in
        subst (λ n. Among (n, piece) all) is (among-behind (number, piece) ps ((number, piece) ∷ []) (inl refl))

    all-holds : Holds all ps
    all-holds = more-holds ps ((number, piece) ∷ [])

    before : is_gone a.gone from ≡ false → IsReading (length ms + 1) (came_to a from).pieces (came_to a from).next all
    before lives = reading-in (length ms + 1) (came_to a from).pieces (came_to a from).next ps all all-holds (h.next lives)

    taken-came : Comes from number piece a b → Taken from b (ms ++ []) all
    taken-came c = subst (λ xs. Taken from b xs all) (sym (append-nil ms)) (record {
      each = were-in 1 ms ps all all-holds h.each;
      count = c.taken ∙ h.count;
      next = λ here. subst (λ p. IsReading (length ms + 1) (came_to b from).pieces p all) (sym c.left)
          (subst (λ n. IsGoing (length ms + 1) n c.so_far all) (sym c.pieces) (going-on (length ms + 1) (came_to a from).pieces (came_to a from).next all piece c.so_far (came-here c.next) (before c.lives) c.read));
    })

    taken-read : (message : Message) → IsRead from number piece message a b → Taken from b (ms ++ message ∷ []) all
    taken-read message c = record {
      each = were-last 1 ms message all (were-in 1 ms ps all all-holds h.each)
          (subst (λ n. WasRead n message all) turned (going-whole (length ms + 1) (came_to a from).pieces (came_to a from).next all piece message (came-here c.next) (before c.lives) c.read));
      count = c.taken ∙ ap (λ n. n + 1) h.count ∙ sym (length-last ms message);
      next = λ here. subst (λ p. IsReading (length (ms ++ message ∷ []) + 1) (came_to b from).pieces p all) (sym c.left) (going-first (length (ms ++ message ∷ []) + 1) (came_to b from).pieces all c.pieces);
    } where
      turned : length ms + 1 ≡ 1 + length ms
      turned = omega arith

  -- a piece is refused in its turn
  taken-let-go : (number : PieceNumber) (piece : List ℕ) (code : ℕ) → is_gone a.gone from ≡ false → IsNext number (came_to a from) → IsLetGo (came_to a from) piece code (came_to b from)
      → IsReading (length ms + 1) (came_to b from).pieces (came_to b from).next (ps ++ in_turn number piece (Some code))
  taken-let-go number piece code lives next (inl none) =
      subst (λ p. IsReading (length ms + 1) (came_to b from).pieces p (ps ++ in_turn number piece (Some code))) (sym none.0) (going-first (length ms + 1) (came_to b from).pieces (ps ++ in_turn number piece (Some code)) none.1)
  taken-let-go number piece code lives next (inr one) =
      let there : in_turn number piece (Some code) ≡ (number, piece) ∷ [] = ap (λ t. cond t [] ((number, piece) ∷ [])) (ne_eqb code (take_code NotNext) one.0) in
      subst (λ p. IsReading (length ms + 1) (came_to b from).pieces p (ps ++ in_turn number piece (Some code))) (sym one.1.1.1)
      (subst (λ xs. WasRead (length ms + 1) one.1.0 (ps ++ xs)) (sym there)
      (going-whole (length ms + 1) (came_to a from).pieces (came_to a from).next (all number piece) piece one.1.0 (came-here number piece next) (before number piece lives) one.1.1.0))

  -- or out of turn
  taken-missed : (number : PieceNumber) (piece : List ℕ) (code : ℕ) → Misses from number piece code a b → Taken from b (ms ++ []) (ps ++ in_turn number piece (Some code))
  taken-missed number piece code c = subst (λ xs. Taken from b xs (ps ++ in_turn number piece (Some code))) (sym (append-nil ms)) (record {
    each = were-in 1 ms ps (ps ++ in_turn number piece (Some code)) (more-holds ps (in_turn number piece (Some code))) h.each;
    count = c.taken ∙ h.count;
    next = λ here. let lives = subst (λ g. is_gone g from ≡ false) c.only.gone here in left lives (c.left lives);
  }) where
    left : is_gone a.gone from ≡ false → IsOutOfTurn code (came_to a from) (came_to b from) ⊎ (IsNext number (came_to a from) × IsLetGo (came_to a from) piece code (came_to b from))
        → IsReading (length ms + 1) (came_to b from).pieces (came_to b from).next (ps ++ in_turn number piece (Some code))
    left lives (inl out) =
        subst (λ p. IsReading (length ms + 1) (came_to b from).pieces p (ps ++ in_turn number piece (Some code))) (sym out.1.0)
        (subst (λ n. IsReading (length ms + 1) n (came_to a from).next (ps ++ in_turn number piece (Some code))) (sym out.1.1)
        (reading-in (length ms + 1) (came_to a from).pieces (came_to a from).next ps (ps ++ in_turn number piece (Some code)) (more-holds ps (in_turn number piece (Some code))) (h.next lives)))
    left lives (inr turn) = taken-let-go number piece code lives turn.0 turn.1

-- ---- deeds

taken-acted : (from : Party) (b : Now) (ms : List Message) (ps : List Numbered) (action : Action) → IsOwn action → Taken from b (ms ++ []) (ps ++ []) → Taken from b (ms ++ taken_from from (action ∷ [])) (ps ++ [])
taken-acted from b ms ps (Arrived clock request) own h = h
taken-acted from b ms ps (Asked query) own h = h
taken-acted from b ms ps (Put other x) own h = absurd own
taken-acted from b ms ps (Took other x) own h = absurd own
taken-acted from b ms ps (Crashed count) own h = absurd own
taken-acted from b ms ps (Detected id) own h = absurd own
taken-acted from b ms ps (Joined id) own h = absurd own

taken-by : (from : Party) (deed : Deed) (a b : Now) (ms : List Message) (ps : List Numbered) → Did deed a b → Taken from a ms ps → Taken from b (ms ++ taken_from from (actions_of deed)) (ps ++ piece_from from deed)
taken-by from Rested a b ms ps d h = taken-same from a b ms ps h d.gone d.incoming
taken-by from (Acted action) a b ms ps d h = taken-acted from b ms ps action d.own (taken-same from a b ms ps h d.gone d.incoming)
taken-by from (Came other number piece) a b ms ps d h = go (same from other) refl where
  go : (t : Bool) → same from other ≡ t → Taken from b (ms ++ []) (ps ++ cond t (in_turn number piece None) [])
  go true e = taken-came from a b ms ps h number piece (subst (λ x. Comes x number piece a b) (sym (same-true from other e)) d)
  go false e = taken-other from a b ms ps h other (same-turned other from ∙ e) d.only
taken-by from (Read other number piece message) a b ms ps d h = go (same from other) refl where
  go : (t : Bool) → same from other ≡ t → Taken from b (ms ++ (cond t (message ∷ []) [] ++ [])) (ps ++ cond t (in_turn number piece None) [])
  go true e = taken-read from a b ms ps h number piece message (subst (λ x. IsRead x number piece message a b) (sym (same-true from other e)) d)
  go false e = taken-other from a b ms ps h other (same-turned other from ∙ e) d.only
taken-by from (Missed other number piece code) a b ms ps d h = go (same from other) refl where
  go : (t : Bool) → same from other ≡ t → Taken from b (ms ++ []) (ps ++ cond t (in_turn number piece (Some code)) [])
  go true e = taken-missed from a b ms ps h number piece code (subst (λ x. Misses x number piece code a b) (sym (same-true from other e)) d)
  go false e = taken-other from a b ms ps h other (same-turned other from ∙ e) d.only
taken-by from (Lost party) a b ms ps d h = go (same party from) refl where
  go : (t : Bool) → same party from ≡ t → Taken from b (ms ++ []) (ps ++ [])
  go true e = taken-rests from a b ms ps h (λ here. absurd (true≢false (ap (λ s. cond s true (is_gone a.gone from)) (sym e) ∙ sym (d.gone from) ∙ here))) (subst (λ x. (came_to b x).taken ≡ (came_to a x).taken) (same-true party from e) d.taken)
  go false e =
      let came : came_to b from ≡ came_to a from = ap (λ o. received o) (d.others from e) in
      taken-rests from a b ms ps h (λ here. (lived from party a.gone b.gone (d.gone from) here, came)) (ap (λ (r : Received). r.taken) came)
taken-by from (Told to number piece) a b ms ps d h = taken-same from a b ms ps h d.only.gone d.only.incoming
taken-by from (Ended to number piece message) a b ms ps d h = taken-same from a b ms ps h d.only.gone d.only.incoming
taken-by from (Threw to messages) a b ms ps d h = subst (λ xs. Taken from b (ms ++ xs) (ps ++ [])) (sym (puts-taken from to messages)) (taken-same from a b ms ps h d.only.gone d.only.incoming)

-- those of one and of the others behind it are those of all
taken-joined : (from : Party) (b : Now) (deed : Deed) (deeds : List Deed) (ms : List Message) (ps : List Numbered) → Taken from b ((ms ++ taken_from from (actions_of deed)) ++ taken_from from (actions_in deeds)) ((ps ++ piece_from from deed) ++ pieces_from from deeds)
    → Taken from b (ms ++ taken_from from (actions_in (deed ∷ deeds))) (ps ++ pieces_from from (deed ∷ deeds))
taken-joined from b deed deeds ms ps h =
    subst (λ xs. Taken from b xs (ps ++ pieces_from from (deed ∷ deeds))) took (subst (λ xs. Taken from b ((ms ++ taken_from from (actions_of deed)) ++ taken_from from (actions_in deeds)) xs) (append_assoc ps (piece_from from deed) (pieces_from from deeds)) h)
  where
    took : (ms ++ taken_from from (actions_of deed)) ++ taken_from from (actions_in deeds) ≡ ms ++ taken_from from (actions_in (deed ∷ deeds))
    took = append_assoc ms (taken_from from (actions_of deed)) (taken_from from (actions_in deeds)) ∙ ap (λ xs. ms ++ xs) (sym (taken-both from (actions_of deed) (actions_in deeds)))

taken-all : (from : Party) (deeds : List Deed) (a b : Now) (ms : List Message) (ps : List Numbered) → DidAll a deeds b → Taken from a ms ps → Taken from b (ms ++ taken_from from (actions_in deeds)) (ps ++ pieces_from from deeds)
taken-all from [] a b ms ps d h = subst (λ n. Taken from n (ms ++ []) (ps ++ [])) d (same-lists from a ms ps h)
taken-all from (deed ∷ deeds) a b ms ps d h =
    taken-joined from b deed deeds ms ps (taken-all from deeds d.0 b (ms ++ taken_from from (actions_of deed)) (ps ++ piece_from from deed) d.1.1 (taken-by from deed a d.0 ms ps d.1.0 h))

-- from a process on to which nothing came
pub were-read : (from : Party) (deeds : List Deed) (a b : Now) → end_of a.incoming from ≡ None → DidAll a deeds b → WereRead 1 (taken_from from (actions_in deeds)) (pieces_from from deeds)
were-read from deeds a b none d = (taken-all from deeds a b [] [] d first).each where
  came : came_to a from ≡ record { taken = 0; pieces = 0; next = nothing }
  came = ap (λ o. received o) none

  first : Taken from a [] []
  first = record {
    each = tt;
    count = ap (λ (r : Received). r.taken) came;
    next = λ here. subst (λ (r : Received). IsReading 1 r.pieces r.next []) (sym came) (going-first 1 0 [] refl);
  }
