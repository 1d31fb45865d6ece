-- Pieces that go from one process to another.
use Rattle.std.proofs.Common.{◌≡◌, ℕ, ◌+◌, ◌<◌, ◌==◌, ◌∙◌, ap, sym, refl, subst, cond, List, [], ◌∷◌, ◌++◌, append_assoc, append-nil, drop, length, Bool, true, false, Option, Some, None, inl, inr, Result, Ok, Err, arith}
use Rattle.std.specs.Prelude.{⊤}
use Rattle.std.proofs.lemmas.Bool.{eq-eqb, true≢false}
use Rattle.cq_base.specs.Relations.{Among, IsPrefix}
use Rattle.cq_chain.specs.declared.message.Message.{Message}
use Rattle.cq_chain.specs.declared.message.Message.TheVariants as kinds
use Rattle.cq_chain_wire.specs.declared.reader.Progress.{Progress}
use Rattle.cq_chain_wire.specs.declared.reader.Progress.TheVariants.{More, Whole}
use Rattle.cq_chain_wire.specs.declared.writer.MessageWriter.{MessageWriter}
use Rattle.cq_chain_wire.specs.Feeding.{all_fed, kind_fed, piece_fed}
use Rattle.cq_chain_wire.specs.Pieces.{IsNextOfSnapshot, IsNextPiece, parts_left}
use Rattle.cq_chain_wire.proofs.PieceLaws.{chunk-ok}
use Rattle.cq_process.specs.Laws.{AreWritten}
use Rattle.cq_process.specs.Taking.{nothing}
use Rattle.cq_process.proofs.Pieces.{read-as-written}
use Rattle.cq_store_wire.specs.declared.build.State.{State}
use Rattle.cq_store_wire.specs.declared.part.Part.{Part}
use Rattle.cq_wire.specs.declared.fault.WireFault.{WireFault}
use Rattle.cq_wire.specs.Reading.{◌>>=◌}
use Rattle.cq_wire.proofs.Fronts.{ok_is}
use Rattle.cq_process_laws.specs.Laws.{LinksHandOver}
use Rattle.cq_process_laws.specs.Passing.{AreAllOf, AreAsTold, AreFirst, AreThere, AreWhole, IsFront, Numbered, WasRead, WereRead, number_at, of_message, placed}

-- ---- pieces of which more are left

snapshot-not : (left after : List Part) (is_done : Bool) (so_far : Option State) (text : List ℕ) (other : Message) → IsNextOfSnapshot left after is_done text → is_done ≡ false → piece_fed text so_far ≡ Ok (Whole other) → ⊥
unfolding piece_fed kind_fed
snapshot-not [] after is_done so_far text other n more e = true≢false (sym n.0 ∙ more)
snapshot-not (x ∷ xs) after is_done so_far text other n more e =
    let c = chunk-ok n.1.0 so_far (Whole other) (ap (λ (t : List ℕ). piece_fed t so_far) (sym n.1.1.1) ∙ e) in
    let is : Whole other ≡ More (Some c.0) = c.2 in
    absurd cc

-- such a piece doesn't make a message whole
piece-not : (m other : Message) (before after : MessageWriter) (so_far : Option State) (text : List ℕ) → IsNextPiece m before after text → after.is_done ≡ false → piece_fed text so_far ≡ Ok (Whole other) → ⊥
piece-not (kinds.Snap kept) other before after so_far text n more e = snapshot-not (parts_left kept before.store) (parts_left kept after.store) after.is_done so_far text other n more e
piece-not m other before after so_far text n more e = true≢false (sym n.0 ∙ more)

-- nor do several
first-not : (m other : Message) (a b : MessageWriter) (texts : List (List ℕ)) (so_far : Option State) → AreFirst m a texts b → all_fed texts (More so_far) ≡ Ok (Whole other) → ⊥
unfolding all_fed
first-not m other a b [] so_far first h = let wrong = ok_is (More so_far) (Whole other) h in absurd cc
first-not m other a b (text ∷ texts) so_far first h = by (piece_fed text so_far) refl (λ next rest. first-not m other first.0 b texts next first.3 rest) h where
  by : (r : Result Progress WireFault) → piece_fed text so_far ≡ r → ((next : Option State) → all_fed texts (More next) ≡ Ok (Whole other) → ⊥) → (r >>= λ n. all_fed texts n) ≡ Ok (Whole other) → ⊥
  by (Ok (More next)) is more k = more next k
  by (Ok (Whole one)) is more k = piece-not m one a first.0 so_far text first.1 first.2 is
  by (Err e) is more k = absurd cc

first-front : (m : Message) (a b : MessageWriter) (xs ys : List (List ℕ)) → AreFirst m a (xs ++ ys) b → (mid : MessageWriter) × AreFirst m a xs mid
first-front m a b [] ys h = (a, refl)
first-front m a b (x ∷ xs) ys h = let rest = first-front m h.0 b xs ys h.3 in (rest.0, (h.0, h.1, h.2, rest.1))

first-written : (m : Message) (a b c : MessageWriter) (texts : List (List ℕ)) (last : List ℕ) → AreFirst m a texts b → IsNextPiece m b c last → AreWritten m a (texts ++ last ∷ []) c
first-written m a b c [] last h next = (c, subst (λ w. IsNextPiece m w c last) (sym h) next, refl)
first-written m a b c (x ∷ texts) last h next = (h.0, h.1, first-written m h.0 b c texts last h.3 next)

-- ---- places

-- what stands at no place isn't there
placed-above : (index low : ℕ) (text : List ℕ) (texts : List (List ℕ)) → index < low → Among (index, text) (placed low texts) → ⊥
placed-above index low text [] below h = h
placed-above index low text (t ∷ texts) below (inl is) = let same = ap (λ (x : ℕ × List ℕ). x.0) is in omega (arith, below, same)
placed-above index low text (t ∷ texts) below (inr h) = placed-above index (low + 1) text texts (omega (arith, below)) h

-- these texts stand there, from that place on
abbrev pub StandFrom : ℕ → List (List ℕ) → List (ℕ × List ℕ) → Type 0
StandFrom index [] pieces = ⊤
StandFrom index (text ∷ texts) pieces = Among (index, text) pieces × StandFrom (index + 1) texts pieces

stand-behind : (index low : ℕ) (t : List ℕ) (texts : List (List ℕ)) (pieces : List (ℕ × List ℕ)) → low < index → StandFrom index texts ((low, t) ∷ pieces) → StandFrom index texts pieces
stand-behind index low t [] pieces below h = tt
stand-behind index low t (text ∷ texts) pieces below h = (here h.0, stand-behind (index + 1) low t texts pieces (omega (arith, below)) h.1) where
  here : Among (index, text) ((low, t) ∷ pieces) → Among (index, text) pieces
  here (inl is) = let same = ap (λ (x : ℕ × List ℕ). x.0) is in absurd (omega (arith, below, same))
  here (inr k) = k

-- where all of these stand at their places, they are the first ones of those
first-of : (index : ℕ) (texts all : List (List ℕ)) → StandFrom index texts (placed index all) → IsPrefix texts all
first-of index [] all h = (all, refl)
first-of index (text ∷ texts) [] h = absurd h.0
first-of index (text ∷ texts) (a ∷ all) h =
    let rest = first-of (index + 1) texts all (stand-behind (index + 1) index a texts (placed (index + 1) all) (omega arith) h.1) in
    (rest.0, ap (λ xs. a ∷ xs) rest.1 ∙ ap (λ x. x ∷ (texts ++ rest.0)) (sym (here h.0)))
  where
    here : Among (index, text) ((index, a) ∷ placed (index + 1) all) → text ≡ a
    here (inl is) = ap (λ (x : ℕ × List ℕ). x.1) is
    here (inr k) = absurd (placed-above index (index + 1) text all (omega arith) k)

-- what was told of a message, as its pieces
of-told : (k index : ℕ) (text : List ℕ) (told : List Numbered) → Among (number_at k index, text) told → Among (index, text) (of_message k told)
of-told k index text [] h = h
of-told k index text (x ∷ told) (inl is) =
    subst (λ (y : Numbered). Among (index, text) (cond (k == y.0.message) ((y.0.index, y.1) ∷ of_message k told) (of_message k told))) is
    (subst (λ t. Among (index, text) (cond t ((index, text) ∷ of_message k told) (of_message k told))) (sym (eq-eqb k k refl)) (inl refl))
of-told k index text (x ∷ told) (inr h) = go (k == x.0.message) (of-told k index text told h) where
  go : (t : Bool) → Among (index, text) (of_message k told) → Among (index, text) (cond t ((x.0.index, x.1) ∷ of_message k told) (of_message k told))
  go true there = inr there
  go false there = there

all-stand : (k index : ℕ) (texts : List (List ℕ)) (told came : List Numbered) → AreAsTold told came → AreThere k index texts came → StandFrom index texts (of_message k told)
all-stand k index [] told came as_told h = tt
all-stand k index (text ∷ texts) told came as_told h = (of-told k index text told (as_told (number_at k index, text) h.0), all-stand k (index + 1) texts told came as_told h.1)

-- the texts of which a message was read are the first ones that were told of it
read-first : (k : ℕ) (m : Message) (told came : List Numbered) (was : WasRead k m came) (all : List (List ℕ)) → AreAsTold told came → of_message k told ≡ placed 0 all → IsPrefix was.texts all
read-first k m told came was all as_told is = first-of 0 was.texts all (subst (StandFrom 0 was.texts) is (all-stand k 0 was.texts told came as_told was.there))

-- ---- lists

nil-no : {A : Type 0} (xs ys : List A) (y : A) → [] ≡ xs ++ y ∷ ys → ⊥
nil-no [] ys y e = absurd cc
nil-no (x ∷ xs) ys y e = absurd cc

head-is : {A : Type 0} (x y : A) (xs ys : List A) → x ∷ xs ≡ y ∷ ys → x ≡ y
head-is x y xs ys e = cc

-- a prefix that isn't all is one of all but the last
split : {A : Type 0} (fed front rest : List A) (r last : A) → front ++ last ∷ [] ≡ fed ++ r ∷ rest → (more : List A) × (front ≡ fed ++ more)
split [] front rest r last e = (front, refl)
split (x ∷ fed) [] rest r last e = absurd (nil-no fed rest r (ap (drop 1) e))
split (x ∷ fed) (y ∷ front) rest r last e =
    let more = split fed front rest r last (ap (drop 1) e) in
    (more.0, ap (λ zs. y ∷ zs) more.1 ∙ ap (λ z. z ∷ (fed ++ more.0)) (head-is y x (front ++ last ∷ []) (fed ++ r ∷ rest) e))

-- ---- one message

-- what is read whole of the first pieces of a message is that message
whole-read : (m other : Message) (pieces : List (ℕ × List ℕ)) (fed : List (List ℕ)) (h : AreAllOf m pieces) → IsPrefix fed (h.front ++ h.last ∷ []) → all_fed fed nothing ≡ Ok (Whole other) → other ≡ m
whole-read m other pieces fed h prefix read = go prefix.0 prefix.1 where
  go : (rest : List (List ℕ)) → h.front ++ h.last ∷ [] ≡ fed ++ rest → other ≡ m
  go [] is = read-as-written m other h.start h.end fed h.sound h.fresh
      (subst (λ texts. AreWritten m h.start texts h.end) (is ∙ append-nil fed) (first-written m h.start h.mid h.end h.front h.last h.first h.next)) read
  go (r ∷ rest) is =
      let s = split fed h.front rest r h.last is in
      let front = first-front m h.start h.mid fed s.0 (subst (λ texts. AreFirst m h.start texts h.mid) s.1 h.first) in
      absurd (first-not m other h.start front.0 fed None front.1 read)

-- nothing is read whole of no pieces
nothing-read : (other : Message) (texts : List (List ℕ)) → IsPrefix texts [] → all_fed texts nothing ≡ Ok (Whole other) → ⊥
unfolding all_fed
nothing-read other [] prefix read = let wrong = ok_is (More None) (Whole other) read in absurd cc
nothing-read other (text ∷ texts) prefix read = nil-no [] (texts ++ prefix.0) text prefix.1

-- nothing is read whole of a front of pieces
front-not : (k : ℕ) (other : Message) (told came : List Numbered) → IsFront (of_message k told) → AreAsTold told came → WasRead k other came → ⊥
front-not k other told came (inl none) as_told was = nothing-read other was.texts (read-first k other told came was [] as_told none) was.whole
front-not k other told came (inr one) as_told was =
    let prefix = read-first k other told came was one.1.texts as_told one.1.are in
    let front = first-front one.0 one.1.start one.1.end was.texts prefix.0 (subst (λ texts. AreFirst one.0 one.1.start texts one.1.end) prefix.1 one.1.first) in
    first-not one.0 other one.1.start front.0 was.texts None front.1 was.whole

-- ---- all messages

handed : (k : ℕ) (whole takes : List Message) (told came : List Numbered) → AreWhole k whole told → IsFront (of_message (k + length whole) told) → WereRead k takes came → AreAsTold told came → IsPrefix takes whole
handed k whole [] told came each front read as_told = (whole, refl)
handed k [] (m ∷ ms) told came each front read as_told = let same : k + 0 ≡ k = omega arith in absurd (front-not k m told came (subst (λ n. IsFront (of_message n told)) same front) as_told read.0)
handed k (w ∷ ws) (m ∷ ms) told came each front read as_told =
    let same : k + length (w ∷ ws) ≡ (k + 1) + length ws = omega arith in
    let prefix = read-first k m told came read.0 (each.0.front ++ each.0.last ∷ []) as_told each.0.are in
    let one : m ≡ w = whole-read w m (of_message k told) read.0.texts each.0 prefix read.0.whole in
    let rest = handed (k + 1) ws ms told came each.1 (subst (λ n. IsFront (of_message n told)) same front) read.1 as_told in
    (rest.0, ap (λ xs. w ∷ xs) rest.1 ∙ ap (λ x. x ∷ (ms ++ rest.0)) (sym one))

pub links-hand-over : LinksHandOver
links-hand-over is_gone puts takes told came put read as_told =
    let turned : length put.whole + 1 ≡ 1 + length put.whole = omega arith in
    let prefix = handed 1 put.whole takes told came put.each (subst (λ n. IsFront (of_message n told)) turned put.front) read as_told in
    (prefix.0 ++ put.thrown, put.are ∙ ap (λ xs. xs ++ put.thrown) prefix.1 ∙ append_assoc takes prefix.0 put.thrown)
