-- A base in the place of what a session has kept.
use Rattle.std.proofs.Common.{◌≡◌, ℕ, List, [], refl, sym, ◌∙◌, ap, subst, append-nil}
use Rattle.std.specs.Prelude.{IsTrue, nat_eq, true, Option}
use Rattle.std.proofs.KnownBytes.{Appends-nil}
use Rattle.cq_disk.specs.declared.device.Device.{Ghosts}
use Rattle.cq_journal.specs.Journal.{IsJournal, journal_device, journal_records}
use Rattle.cq_lines.specs.Lines.{ended_part}
use Rattle.cq_records.specs.Frames.{joined}
use Rattle.cq_script.specs.Resumed.{HasRun, IsBaseOf}
use Rattle.cq_script.specs.Sessions.{session_text}
use Rattle.cq_script.specs.declared.resumed.ResumedSession.{ResumedSession}
use Rattle.cq_store.specs.Stands.{StoreKept}
use Rattle.cq_kept_session.specs.declared.kept.KeptSession.{KeptSession}
use Rattle.cq_kept_session.specs.declared.base.Header.{Header}
use Rattle.cq_kept_session.specs.Bases.{AreLines, AreOf, Means, Stage, fresh, is_of, lined, read, resumed}
use Rattle.cq_kept_session.specs.Kept.{IsKept, StandsFor, kept_bytes, kept_records, session_device, session_size, told_text}
use Rattle.cq_kept_session.specs.Served.{Serves}
use Rattle.cq_kept_session.specs.Texts.{is_ended}

-- ---- the bytes of a base

-- they stand for whatever bytes the session has run
pub means_base : (size : ℕ) (header : Header) (kept : StoreKept) (text bytes : List ℕ) → read fresh text ≡ lined (resumed header kept) [] → IsBaseOf size kept header.lines bytes → AreOf size text bytes
means_base size header kept text bytes is base =
    subst (λ (stage : Stage). Means size stage bytes) (sym is) (record { before = bytes; is_base = base; are = sym (append-nil bytes) })

-- and whatever they stand for was run
pub base_means : (size : ℕ) (header : Header) (kept : StoreKept) (text bytes : List ℕ) (session : ResumedSession) → read fresh text ≡ lined (resumed header kept) []
    → ((before : List ℕ) → IsBaseOf size kept header.lines before → HasRun size before session) → AreOf size text bytes → HasRun size bytes session
base_means size header kept text bytes session is again means =
    let behind : AreLines size (resumed header kept) [] bytes = subst (λ (stage : Stage). Means size stage bytes) is means in
    subst (λ (l : List ℕ). HasRun size l session) (sym (behind.are ∙ append-nil behind.before)) (again behind.before behind.is_base)

-- ---- sessions

module _ {D : Type 0} {g : Ghosts D} where
  -- what is kept is the same, and so is what was run
  pub kept_same : (a b : KeptSession D g) → b.journal ≡ a.journal → b.session ≡ a.session → b.size ≡ a.size → b.ended ≡ a.ended → IsKept a → IsKept b
  kept_same a b journal session size ended k =
      let back : IsTrue (g.is_honest (session_device b)) → IsTrue (g.is_honest (session_device a)) = λ honest. subst (λ j. IsTrue (g.is_honest (journal_device j))) journal honest in
      record {
        journal = subst IsJournal (sym journal) k.journal;
        fits = λ honest. (λ i. is_of (size i) (read fresh (joined (journal_records (journal i))))) ∙ k.fits (back honest);
        run = λ honest bytes stands. subst (λ s. HasRun b.size bytes s) (sym session) (subst (λ (n : ℕ). HasRun n bytes a.session) (sym size)
            (k.run (back honest) bytes (subst (λ j. AreOf a.size (joined (journal_records j)) bytes) journal (subst (λ (n : ℕ). AreOf n (kept_bytes b) bytes) size stands))));
        ended = λ honest. ended ∙ k.ended (back honest) ∙ ap (λ j. is_ended (joined (journal_records j))) (sym journal);
      }

  -- its journal has the same records
  pub kept_beside : (a b : KeptSession D g) → kept_records b ≡ kept_records a → (IsTrue (g.is_honest (session_device b)) → IsTrue (g.is_honest (session_device a))) → IsJournal b.journal
      → b.session ≡ a.session → b.size ≡ a.size → b.ended ≡ a.ended → IsKept a → IsKept b
  kept_beside a b records back journal session size ended k = record {
    journal = journal;
    fits = λ honest. (λ i. is_of (size i) (read fresh (joined (records i)))) ∙ k.fits (back honest);
    run = λ honest bytes stands. subst (λ s. HasRun b.size bytes s) (sym session) (subst (λ (n : ℕ). HasRun n bytes a.session) (sym size)
        (k.run (back honest) bytes (subst (λ rs. AreOf a.size (joined rs) bytes) records (subst (λ (n : ℕ). AreOf n (kept_bytes b) bytes) size stands))));
    ended = λ honest. ended ∙ k.ended (back honest) ∙ ap (λ rs. is_ended (joined rs)) (sym records);
  }

  -- a base has taken the place of all
  pub kept_rewritten : (a b : KeptSession D g) (header : Header) (kept : StoreKept) → IsJournal b.journal → b.session ≡ a.session → b.size ≡ a.size → nat_eq b.size 1 ≡ true → b.ended ≡ true → is_ended (kept_bytes b) ≡ true
      → read fresh (kept_bytes b) ≡ lined (resumed header kept) [] → ((size : ℕ) (before : List ℕ) → IsBaseOf size kept header.lines before → HasRun size before a.session) → IsKept b
  kept_rewritten a b header kept journal session size one ended line is again = record {
    journal = journal;
    fits = λ _. ap (is_of b.size) is ∙ one;
    run = λ _ bytes stands. subst (λ s. HasRun b.size bytes s) (sym session) (base_means b.size header kept (kept_bytes b) bytes a.session is (again b.size) stands);
    ended = λ _. ended ∙ sym line;
  }

  -- ---- what is served

  pub serves_rewritten : (old new : KeptSession D g) (contents : Option (List ℕ)) → session_size new ≡ session_size old → (IsTrue (g.is_honest (session_device new)) → IsTrue (g.is_honest (session_device old)))
      → (IsTrue (g.is_honest (session_device new)) → (bytes : List ℕ) → StandsFor old bytes → StandsFor new bytes) → Serves old new contents contents []
  serves_rewritten old new contents size honest goes = record {
    size = size;
    honest = honest;
    behind = λ is_honest bytes stands. record {
      pieces = [];
      are = refl;
      appends = Appends-nil contents;
      stands = subst (λ (l : List ℕ). StandsFor new l) (sym (append-nil bytes)) (goes is_honest bytes stands);
      text = (λ i. session_text (size i) (ended_part (append-nil bytes i))) ∙ sym (append-nil (told_text old bytes));
    };
  }
