-- What becomes of the entries of a server as it answers frames and settles what it has answered, and what a crash at each moment leaves of
-- them.
use Rattle.std.specs.Prelude.{◌≡◌, ℕ, List, [], ◌∷◌, ◌++◌, Option, None, Some, ◌⊎◌, IsTrue, refl}
use mathlib.Core.Path.{◌∙◌}
use Rattle.std.proofs.Common.{sym, ap, subst, append_assoc, append-nil}
use Rattle.cq_base.specs.declared.ask.Entry.{Entry}
use Rattle.cq_base.specs.declared.ask.Request.{Request}
use Rattle.cq_base.specs.Relations.{IsPrefix}
use Rattle.cq_chain.specs.Steps.{stamped}
use Rattle.cq_disk.specs.Device.{LeavesOnly}
use Rattle.cq_disk.specs.declared.device.Device.{Ghosts}
use Rattle.cq_disk.proofs.Moments.{runs_on, weakened}
use Rattle.cq_kept_entries.specs.Classes.{class_of}
use Rattle.cq_journal.proofs.Copies.{rests_self}
use Rattle.cq_kept_entries.specs.Kept.{BytesStandFor, IsKept}
use Rattle.cq_kept_entries.proofs.Rewritten.{moments_rest}
use Rattle.cq_kept_server.specs.declared.server.KeptServer.{KeptServer}
use Rattle.cq_kept_server.specs.Commands.{room_for}
use Rattle.cq_kept_server.specs.Servers.{Has, HasRoom, IsReady, State, device_of, half_of, len_of, state_of}
use Rattle.cq_kept_server.specs.Telling as telling

-- The bytes stand for entries that begin with the first ones of these, and then have some of the rest, in order.
pub record LeavesFront (half len : ℕ) (first all : List Entry) (bytes : List ℕ) : Type 0 where
  pub left : List Entry
  pub stands : BytesStandFor half len bytes left
  pub has_first : IsPrefix first left
  pub has_no_others : IsPrefix left all

-- no entry comes
abbrev pub none_comes : List Entry → List Entry → Type 0
none_comes all new = new ≡ []

module _ {D : Type 0} {g : Ghosts D} where
  -- a crash at each moment since the one state leaves so much of these entries
  abbrev pub LeavesAtLeast : State D g → State D g → List Entry → List Entry → Type 0
  LeavesAtLeast p q first all = LeavesOnly g.moment g.left_since (device_of p) (device_of q) (LeavesFront (half_of p) (len_of p) first all)

  -- ---- which entries come of a frame

  -- The entry of an arrival, for which there was room: it has the request, and is stamped as the head of a chain does it.
  pub record Arrives (p : State D g) (bytes : List ℕ) (all new : List Entry) : Type 0 where
    pub stream : ℕ
    pub clock : ℕ
    pub request : Request
    pub arrival : telling.IsArrival bytes stream clock request
    pub room : HasRoom p.kept (class_of request.ask) (room_for bytes)
    pub is : new ≡ stamped all clock request ∷ []

  -- none but that of an arrival
  abbrev pub Brings : State D g → Option (List ℕ) → List Entry → List Entry → Type 0
  Brings p None all new = new ≡ []
  Brings p (Some bytes) all new = (new ≡ []) ⊎ Arrives p bytes all new

  -- ---- what becomes of all entries

  -- Where the first of these were kept, and the rest added, the server has these and the new ones behind them. No fewer are kept, and a crash
  -- at each moment leaves all that were kept.
  pub record Grows (p q : State D g) (first rest new : List Entry) : Type 0 where
    pub kept : List Entry
    pub added : List Entry
    pub has : Has q kept added
    pub all : kept ++ added ≡ (first ++ rest) ++ new
    pub more : IsPrefix first kept
    pub moments : LeavesAtLeast p q first (kept ++ added)

  -- So it is whatever entries the server has, with new ones of that kind.
  pub record GrowsBy (p q : State D g) (comes : List Entry → List Entry → Type 0) : Type 0 where
    pub half : half_of q ≡ half_of p
    pub len : len_of q ≡ len_of p
    pub honest : IsTrue (g.is_honest (device_of q)) → IsTrue (g.is_honest (device_of p))
    pub grows : IsTrue (g.is_honest (device_of q)) → (first rest : List Entry) → Has p first rest → (new : List Entry) × (comes (first ++ rest) new × Grows p q first rest new)

  -- ---- answers

  -- What is told of a frame, and which entry comes of it.
  pub record AnswersFrame (p : State D g) (frame : Option (List ℕ)) (text : List ℕ) (q : State D g) : Type 0 where
    pub ready : IsKept q.kept
    pub tells : telling.Tells frame p.process q.process p.ended q.ended text
    pub goes : GrowsBy p q (Brings p frame)

  abbrev pub Answers : KeptServer D g → Option (List ℕ) → List ℕ → KeptServer D g → Type 0
  Answers p frame text q = AnswersFrame (state_of p) frame text (state_of q)

  -- All that was added is kept; the server stays as it is.
  pub record RestsAt (p q : State D g) : Type 0 where
    pub ready : IsKept q.kept
    pub process : q.process ≡ p.process
    pub ended : q.ended ≡ p.ended
    pub goes : GrowsBy p q none_comes

  abbrev pub Rests : KeptServer D g → KeptServer D g → Type 0
  Rests p q = RestsAt (state_of p) (state_of q)

  -- A fault leaves what was kept, and maybe what was added behind it, on the medium: at each moment of it.
  pub record StopsAt (p q : State D g) : Type 0 where
    pub honest : IsTrue (g.is_honest (device_of q)) → IsTrue (g.is_honest (device_of p))
    pub leaves : IsTrue (g.is_honest (device_of q)) → (first rest : List Entry) → Has p first rest → LeavesAtLeast p q first (first ++ rest)

  abbrev pub Stops : KeptServer D g → KeptServer D g → Type 0
  Stops p q = IsReady p → StopsAt (state_of p) (state_of q)

  -- ---- and the bytes

  abbrev pub TellsAnswer : Option (List ℕ) → KeptServer D g → KeptServer D g → List ℕ → List ℕ → List ℕ → Type 0
  TellsAnswer frame p q old new end = (text : List ℕ) × ((new ++ end ≡ old ++ text) × Answers p frame text q)

-- ---- what is settled behind an answer is as if it had come with it

pub prefix_on : {X : Type 0} (a b c : List X) → IsPrefix a b → IsPrefix b c → IsPrefix a c
prefix_on a b c p q = (p.0 ++ q.0, q.1 ∙ ap (λ l. l ++ q.0) p.1 ∙ append_assoc a p.0 q.0)

-- the same bytes leave more of fewer entries, and no more than these of more
pub front_of : (half len : ℕ) (first kept all more : List Entry) → IsPrefix first kept → IsPrefix all more → (c : List ℕ) → LeavesFront half len kept all c → LeavesFront half len first more c
front_of half len first kept all more early late c f = record { left = f.left; stands = f.stands; has_first = prefix_on first kept f.left early f.has_first; has_no_others = prefix_on f.left all more f.has_no_others late }

module _ {D : Type 0} {g : Ghosts D} where
  pub moments_on : (p q r : State D g) (first kept all more : List Entry) → half_of q ≡ half_of p → len_of q ≡ len_of p → IsPrefix first kept → IsPrefix all more
      → LeavesAtLeast p q first all → LeavesAtLeast q r kept more → LeavesAtLeast p r first more
  moments_on p q r first kept all more half len early late one two =
      let P : List ℕ → Type 0 = LeavesFront (half_of p) (len_of p) first more in
      runs_on g.moment g.left_since (device_of p) (device_of q) (device_of r) P
      (weakened g.moment g.left_since (device_of p) (device_of q) (LeavesFront (half_of p) (len_of p) first all) P one
      (front_of (half_of p) (len_of p) first first all more ([], sym (append-nil first)) late))
      (weakened g.moment g.left_since (device_of q) (device_of r) (LeavesFront (half_of q) (len_of q) kept more) P two
      (λ c f. front_of (half_of p) (len_of p) first kept more more early ([], sym (append-nil more)) c (subst (λ h. LeavesFront h (len_of p) kept more c) half (subst (λ l. LeavesFront (half_of q) l kept more c) len f))))

  pub grows_on : (p q r : State D g) (first rest new : List Entry) → half_of q ≡ half_of p → len_of q ≡ len_of p → (a : Grows p q first rest new) → Grows q r a.kept a.added [] → Grows p r first rest new
  grows_on p q r first rest new half len a b =
      let same : b.kept ++ b.added ≡ a.kept ++ a.added = b.all ∙ append-nil (a.kept ++ a.added) in
      record {
        kept = b.kept;
        added = b.added;
        has = b.has;
        all = same ∙ a.all;
        more = prefix_on first a.kept b.kept a.more b.more;
        moments = moments_on p q r first a.kept (a.kept ++ a.added) (b.kept ++ b.added) half len a.more ([], same ∙ sym (append-nil (a.kept ++ a.added))) a.moments b.moments;
      }

  pub goes_on : (p q r : State D g) (comes : List Entry → List Entry → Type 0) → GrowsBy p q comes → GrowsBy q r none_comes → GrowsBy p r comes
  goes_on p q r comes a b = record {
    half = b.half ∙ a.half;
    len = b.len ∙ a.len;
    honest = λ honest. a.honest (b.honest honest);
    grows = λ honest first rest has.
        let one = a.grows (b.honest honest) first rest has in
        let two = b.grows honest one.1.1.kept one.1.1.added one.1.1.has in
        (one.0, (one.1.0, grows_on p q r first rest one.0 a.half a.len one.1.1 (subst (λ (l : List Entry). Grows q r one.1.1.kept one.1.1.added l) two.1.0 two.1.1)));
  }

  pub answers_rest : (p q r : State D g) (frame : Option (List ℕ)) (text : List ℕ) → AnswersFrame p frame text q → RestsAt q r → AnswersFrame p frame text r
  answers_rest p q r frame text a b = record {
    ready = b.ready;
    tells = subst (λ it. telling.Tells frame p.process it p.ended r.ended text) (sym b.process) (subst (λ it. telling.Tells frame p.process q.process p.ended it text) (sym b.ended) a.tells);
    goes = goes_on p q r (Brings p frame) a.goes b.goes;
  }

  -- where no fault has come
  pub stops_none : ((device : D) (c : List ℕ) → g.left_since device (g.moment device) c → g.may_leave device c) → (p : State D g) → IsKept p.kept → StopsAt p p
  stops_none only p ready = record {
    honest = λ honest. honest;
    leaves = λ honest first rest has.
        weakened g.moment g.left_since (device_of p) (device_of p) _ (LeavesFront (half_of p) (len_of p) first (first ++ rest))
        (moments_rest p.kept p.kept.journal (rests_self p.kept.journal (only (device_of p)) ready.journal.regions) honest first has.kept)
        (λ c stands. record { left = first; stands = stands; has_first = ([], sym (append-nil first)); has_no_others = (rest, refl) });
  }
