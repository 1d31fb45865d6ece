-- A fault as lines are taken.
use Rattle.std.proofs.Common.{◌≡◌, ◌⊎◌, inl, inr, ℕ, List, [], ◌∷◌, ◌++◌, Option, Result, Ok, Err, refl, sym, ◌∙◌, ap, subst, append_assoc, append-nil}
use Rattle.std.specs.Prelude.{IsTrue, OnErr}
use Rattle.std.specs.Io.KnownBytes.{Appends, Keeps}
use Rattle.std.proofs.KnownBytes.{Appends-kept, Appends-nil}
use Rattle.cq_base.specs.Relations.{IsPrefix}
use Rattle.cq_disk.specs.declared.device.Device.{Ghosts}
use Rattle.cq_journal.specs.Journal.{IsJournal}
use Rattle.cq_lines.specs.declared.fault.ScriptFault.{ScriptFault}
use Rattle.cq_lines.specs.declared.fault.ScriptFault.TheVariants.{BadLine, LineTooLong, NoMemory, ReadFailed, TooManyLines, WriteFailed}
use Rattle.cq_script.specs.Runs.{Takes, WritesPrefix}
use Rattle.cq_kept_session.specs.declared.fault.TakeFault.{TakeFault}
use Rattle.cq_kept_session.specs.declared.fault.TakeFault.TheVariants.{NotKept, NotTold}
use Rattle.cq_kept_session.specs.declared.kept.KeptSession.{KeptSession}
use Rattle.cq_kept_session.specs.Kept.{IsKept, StandsFor, session_device, session_journal, told_text}
use Rattle.cq_kept_session.specs.Outcomes.{OnKept, OnNotKept}
use Rattle.cq_kept_session.specs.Served.{Refuses, Serves, StopsServing, TellsAtFault, no_room_text}
use Rattle.cq_kept_session.specs.Texts.{as_kept}
use Rattle.cq_kept_session.proofs.Pieces.{kept_both, serves_both, serves_none}

pub if_err : {T E P Q : Type 0} (r : Result T E) → OnErr r P → (P → Q) → OnErr r Q
if_err (Ok x) p step = tt
if_err (Err e) p step = step p

pub on_err : {T E P : Type 0} (r : Result T E) → P → OnErr r P
on_err (Ok x) p = tt
on_err (Err e) p = p

abbrev pub faulty : TakeFault → Result (Unit {0}) TakeFault
faulty fault = Err fault

-- parts as they are kept
pub kept_parts : (x y z all : List ℕ) → x ++ (y ++ z) ≡ all → (as_kept x ++ as_kept y) ++ as_kept z ≡ as_kept all
kept_parts x y z all is = ap (λ l. l ++ as_kept z) (sym (kept_both x y)) ∙ sym (kept_both (x ++ y) z) ∙ ap as_kept (append_assoc x y z ∙ is)

pub kept_two : (x y all : List ℕ) → x ++ y ≡ all → as_kept x ++ as_kept y ≡ as_kept all
kept_two x y all is = sym (kept_both x y) ∙ ap as_kept is

-- ---- refusals

front_written : (fault : ScriptFault) (text output : List ℕ) → WritesPrefix (Err fault) text output → IsPrefix output text
front_written (BadLine n) text output is = absurd is
front_written (LineTooLong n) text output is = absurd is
front_written TooManyLines text output is = absurd is
front_written ReadFailed text output is = absurd is
front_written WriteFailed text output is = is
front_written NoMemory text output is = is

-- nothing of a refusal was written
pub refuses_nothing : (a : Option (List ℕ)) → Refuses a a
refuses_nothing a = (0, [], Appends-nil a, (no_room_text 0, refl))

-- a front of it
pub refuses_front : (fault : ScriptFault) (n : ℕ) (text : List ℕ) (a b : Option (List ℕ)) → text ≡ no_room_text n → Takes (Err fault) text a b → Refuses a b
refuses_front fault n text a b is took = (n, took.0, took.1, subst (λ (t : List ℕ). IsPrefix took.0 t) is (front_written fault text took.0 took.2))

-- all of it, and it may not have been passed on
pub refuses_all : (n : ℕ) (text output : List ℕ) (a b c : Option (List ℕ)) → text ≡ no_room_text n → output ≡ text → Appends a b output → Keeps b c → Refuses a c
refuses_all n text output a b c is all wrote kept = (n, output, Appends-kept a b c output wrote kept, ([], sym is ∙ sym all ∙ sym (append-nil output)))

-- ---- sessions

module _ {D : Type 0} {g : Ghosts D} where
  abbrev Honest : KeptSession D g → Type 0
  Honest k = IsTrue (g.is_honest (session_device k))

  -- nothing was told behind what was served
  pub stops_untold : (old mid new : KeptSession D g) (a b : Option (List ℕ)) (done rest lines : List ℕ) → IsKept mid → lines ≡ done ++ rest → Serves old mid a b done → (Honest new → Honest mid) → StopsServing old new a b lines
  stops_untold old mid new a b done rest lines kept are served honest = record { mid = mid; kept = kept; middle = b; done = done; rest = rest; are = are; served = served; honest = honest; tells = inl (Appends-nil b) }

  -- nothing was served
  pub stops_unserved : (old new : KeptSession D g) (a : Option (List ℕ)) (lines : List ℕ) → IsKept old → (Honest new → Honest old) → StopsServing old new a a lines
  stops_unserved old new a lines kept honest = stops_untold old old new a a [] lines lines kept refl (serves_none old a) honest

  pub stops_none : (k : KeptSession D g) (a : Option (List ℕ)) (lines : List ℕ) → IsKept k → StopsServing k k a a lines
  stops_none k a lines kept = stops_unserved k k a lines kept (λ honest. honest)

  -- a line's refusal wasn't written to its end
  pub stops_refusing : (k : KeptSession D g) (a b : Option (List ℕ)) (lines : List ℕ) → IsKept k → Refuses a b → StopsServing k k a b lines
  stops_refusing k a b lines kept refused = record { mid = k; kept = kept; middle = a; done = []; rest = lines; are = refl; served = serves_none k a; honest = λ honest. honest; tells = inr (inl refused) }

  -- a chunk wasn't kept, or not told to its end
  pub stops_took : {W : Type 0} (X : List ℕ → List ℕ → Type 0) (fault : TakeFault) (old new : KeptSession D g) (a b : Option (List ℕ)) (chunk : List ℕ) → IsKept old → (Honest new → Honest old)
      → OnKept (faulty fault) (IsJournal (session_journal new))
      → OnKept (faulty fault) (Honest new → (bytes : List ℕ) → StandsFor old bytes → StandsFor new (bytes ++ chunk))
      → OnKept (faulty fault) (Honest new → (bytes : List ℕ) → StandsFor old bytes → (output : List ℕ) × Appends a b output × IsPrefix (told_text old bytes ++ output) (told_text new (bytes ++ chunk)) × X bytes output)
      → OnNotKept (faulty fault) W → (W → b ≡ a) → StopsServing old new a b chunk
  stops_took X (NotKept fault) old new a b chunk kept honest journal stands told untold same = record {
    mid = old;
    kept = kept;
    middle = a;
    done = [];
    rest = chunk;
    are = refl;
    served = serves_none old a;
    honest = honest;
    tells = inl (subst (λ (c : Option (List ℕ)). Appends a c []) (sym (same untold)) (Appends-nil a));
  }
  stops_took X (NotTold fault) old new a b chunk kept honest journal stands told untold same = record {
    mid = old;
    kept = kept;
    middle = a;
    done = [];
    rest = chunk;
    are = refl;
    served = serves_none old a;
    honest = honest;
    tells = inr (inr (chunk, ([], sym (append-nil chunk)), record { journal = journal; stands = stands; told = λ honest bytes stood. let w = told honest bytes stood in (w.0, w.1, w.2) }));
  }

  -- behind lines that were served
  pub stops_behind : (one two three : KeptSession D g) (a b c : Option (List ℕ)) (x y : List ℕ) → Serves one two a b x → StopsServing two three b c y → StopsServing one three a c (x ++ y)
  stops_behind one two three a b c x y first s = record {
    mid = s.mid;
    kept = s.kept;
    middle = s.middle;
    done = x ++ s.done;
    rest = s.rest;
    are = ap (λ l. x ++ l) s.are ∙ sym (append_assoc x s.done s.rest);
    served = serves_both one two s.mid a b s.middle x s.done first s.served;
    honest = s.honest;
    tells = s.tells;
  }

  -- with more lines behind these
  tells_more : (old new : KeptSession D g) (a b : Option (List ℕ)) (lines more : List ℕ) → TellsAtFault old new a b lines → TellsAtFault old new a b (lines ++ more)
  tells_more old new a b lines more (inl none) = inl none
  tells_more old new a b lines more (inr (inl refused)) = inr (inl refused)
  tells_more old new a b lines more (inr (inr told)) = inr (inr (told.0, (told.1.0 ++ more, ap (λ l. l ++ more) told.1.1 ∙ append_assoc told.0 told.1.0 more), told.2))

  pub stops_more : (old new : KeptSession D g) (a b : Option (List ℕ)) (lines more all : List ℕ) → lines ++ more ≡ all → StopsServing old new a b lines → StopsServing old new a b all
  stops_more old new a b lines more all is s = record {
    mid = s.mid;
    kept = s.kept;
    middle = s.middle;
    done = s.done;
    rest = s.rest ++ more;
    are = sym is ∙ ap (λ l. l ++ more) s.are ∙ append_assoc s.done s.rest more;
    served = s.served;
    honest = s.honest;
    tells = tells_more s.mid new s.middle b s.rest more s.tells;
  }

  pub stops_is : (old new : KeptSession D g) (a b : Option (List ℕ)) (lines all : List ℕ) → lines ≡ all → StopsServing old new a b lines → StopsServing old new a b all
  stops_is old new a b lines all is s = subst (λ (l : List ℕ). StopsServing old new a b l) is s
