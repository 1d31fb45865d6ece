-- A session that has run all that its journal has, as it is opened.
use Rattle.std.proofs.Common.{◌≡◌, ◌∙◌, ℕ, ◌+◌, List, [], ◌∷◌, ◌++◌, refl, sym, ap, subst}
use Rattle.std.specs.Prelude.{IsTrue, Bool, true, false, nat_eq}
use Rattle.cq_disk.specs.declared.device.Device.{Ghosts}
use Rattle.cq_journal.specs.Journal.{IsJournal}
use Rattle.cq_records.specs.Frames.{joined}
use Rattle.cq_script.specs.Resumed.{HasRun}
use Rattle.cq_kept_session.specs.declared.base.Reading.{Reading}
use Rattle.cq_kept_session.specs.declared.kept.KeptSession.{KeptSession}
use Rattle.cq_kept_session.specs.Bases.{AreOf, Means, Stage, fresh, is_of, read, several}
use Rattle.cq_kept_session.specs.Kept.{IsKept, kept_bytes, kept_records, session_device}
use Rattle.cq_kept_session.specs.Texts.{is_ended, size_text}
use Rattle.cq_kept_session.specs.within.Begun.{HasBegun, IsFresh}
use Rattle.cq_kept_session.specs.within.Readers.{IsRead, is_base, is_fresh}
use Rattle.cq_kept_session.proofs.Chunks.{joined_more}
use Rattle.cq_kept_session.proofs.Openings.{none_came, size_is_read}
use Rattle.cq_kept_session.proofs.Readings.{all_run, is_same, none_read}
use Rattle.cq_kept_session.proofs.Written.{line_ended}

module _ {D : Type 0} {g : Ghosts D} (k : KeptSession D g) (reading : Reading) where
  pub begun : (is_new : Bool) → is_new ≡ is_fresh reading → (text : List ℕ) (size : ℕ) → text ≡ kept_bytes k → IsJournal k.journal → k.size ≡ size → is_base reading ≡ false
      → (IsTrue (g.is_honest (session_device k)) → IsRead size (read fresh text) reading k.session) → (IsTrue (g.is_honest (session_device k)) → k.ended ≡ is_ended text) → HasBegun k is_new
  begun true is text size all journal size_is no_base ran ended = record {
    journal = journal;
    none = λ honest. sym all ∙ none_came text (none_read size (read fresh text) reading k.session (sym is) (ran honest)).0;
    run = λ honest. subst (λ (n : ℕ). HasRun n [] k.session) (sym size_is) (none_read size (read fresh text) reading k.session (sym is) (ran honest)).1;
    ended = λ honest. ended honest ∙ ap is_ended (none_came text (none_read size (read fresh text) reading k.session (sym is) (ran honest)).0);
  }
  begun false is text size all journal size_is no_base ran ended = record {
    journal = journal;
    fits = λ honest. (λ i. is_of (size_is i) (read fresh (sym all i))) ∙ (all_run size (read fresh text) reading k.session no_base (sym is) (ran honest)).0;
    run = λ honest bytes stands. subst (λ (n : ℕ). HasRun n bytes k.session) (sym size_is)
        ((all_run size (read fresh text) reading k.session no_base (sym is) (ran honest)).1 bytes (subst (λ (l : List ℕ). Means size (read fresh l) bytes) (sym all) (subst (λ (n : ℕ). AreOf n (kept_bytes k) bytes) size_is stands)));
    ended = λ honest. ended honest ∙ ap is_ended all;
  }

-- ---- a journal gets what it begins with

module _ {D : Type 0} {g : Ghosts D} where
  -- that of a session on one server begins with its first line
  pub begun_alone : (k : KeptSession D g) → IsFresh k → nat_eq k.size 1 ≡ true → IsKept k
  begun_alone k is one = record {
    journal = is.journal;
    fits = λ honest. ap (λ (l : List ℕ). is_of k.size (read fresh l)) (is.none honest) ∙ one;
    run = λ honest bytes stands.
        let none : bytes ≡ [] = subst (λ (l : List ℕ). AreOf k.size l bytes) (is.none honest) stands in
        subst (λ (l : List ℕ). HasRun k.size l k.session) (sym none) (is.run honest);
    ended = λ honest. is.ended honest ∙ sym (ap is_ended (is.none honest));
  }

  -- that of a session on several says of how many
  pub begun_sized : (old new : KeptSession D g) → IsFresh old → (IsTrue (g.is_honest (session_device new)) → IsTrue (g.is_honest (session_device old))) → IsJournal new.journal
      → kept_records new ≡ kept_records old ++ size_text old.size ∷ [] → new.session ≡ old.session → new.size ≡ old.size → new.ended ≡ old.ended → IsKept new
  begun_sized old new is back journal records session size ended = record {
    journal = journal;
    fits = λ honest. ap (λ (l : List ℕ). is_of new.size (read fresh l)) (bytes_are honest) ∙ ap (is_of new.size) (size_is_read old.size) ∙ is_same new.size old.size old.size (sym size) refl;
    run = λ honest bytes stands.
        let of_size : Means new.size (read fresh (size_text old.size)) bytes = subst (λ (l : List ℕ). AreOf new.size l bytes) (bytes_are honest) stands in
        let none : bytes ≡ [] = subst (λ (stage : Stage). Means new.size stage bytes) (size_is_read old.size) of_size in
        subst (λ (l : List ℕ). HasRun new.size l new.session) (sym none)
        (subst (λ s. HasRun new.size [] s) (sym session) (subst (λ (n : ℕ). HasRun n [] old.session) (sym size) (is.run (back honest))));
    ended = λ honest. ended ∙ is.ended (back honest) ∙ sym (ap is_ended (bytes_are honest) ∙ line_ended (3 ∷ (48 + old.size) ∷ []));
  }
    where
      bytes_are : IsTrue (g.is_honest (session_device new)) → kept_bytes new ≡ size_text old.size
      bytes_are honest = ap joined records ∙ joined_more (kept_records old) (size_text old.size) ∙ ap (λ (l : List ℕ). l ++ size_text old.size) (is.none (back honest))
