-- A chunk is kept, and then run.
use Rattle.std.proofs.Common.{◌≡◌, ℕ, List, [], ◌∷◌, ◌++◌, sym, ◌∙◌, ap, subst}
use Rattle.std.specs.Prelude.{IsTrue, false}
use Rattle.cq_base.specs.Relations.{IsPrefix}
use Rattle.cq_disk.specs.declared.device.Device.{Ghosts}
use Rattle.cq_journal.specs.Journal.{IsJournal, journal_device, journal_records}
use Rattle.cq_records.specs.Frames.{joined}
use Rattle.cq_lines.specs.Lines.{ended_part}
use Rattle.cq_script.specs.Resumed.{HasRun}
use Rattle.cq_script.specs.Sessions.{session_text}
use Rattle.cq_kept_session.specs.declared.kept.KeptSession.{KeptSession}
use Rattle.cq_kept_session.specs.Bases.{AreOf, fresh, is_of, read}
use Rattle.cq_kept_session.specs.Kept.{IsKept, StandsFor, kept_bytes, kept_records, session_device, told_text}
use Rattle.cq_kept_session.specs.Texts.{has_mark, is_ended}
use Rattle.cq_kept_session.specs.Settled.{IsSettled}
use Rattle.cq_kept_session.proofs.Chunks.{joined_more}
use Rattle.cq_kept_session.proofs.Stages.{are_back, are_on, fits_on}

-- The first one has run what it has, the second one has the chunk in its journal, too, and the third one has run it.
module _ {D : Type 0} {g : Ghosts D} (first second third : KeptSession D g) (chunk : List ℕ) (unmarked : has_mark chunk ≡ false) (is_kept : IsKept first)
    (session_is : second.session ≡ first.session) (size_is : second.size ≡ first.size) (ended_is : second.ended ≡ first.ended)
    (records_are : kept_records second ≡ kept_records first ++ chunk ∷ []) (honest_back : IsTrue (g.is_honest (session_device second)) → IsTrue (g.is_honest (session_device first))) where
  pub ran_before : IsTrue (g.is_honest (session_device second)) → (bytes : List ℕ) → StandsFor first bytes → HasRun second.size bytes second.session
  ran_before honest bytes stands =
      subst (λ s. HasRun second.size bytes s) (sym session_is) (subst (λ (n : ℕ). HasRun n bytes first.session) (sym size_is) (is_kept.run (honest_back honest) bytes stands))

  pub settled : IsJournal second.journal → IsSettled second chunk
  settled journal = record {
    journal = journal;
    before = kept_records first;
    records = records_are;
    run = λ honest bytes stands. ran_before honest bytes (subst (λ (n : ℕ). AreOf n (kept_bytes first) bytes) size_is stands);
  }

  module _ (journal_is : third.journal ≡ second.journal) (size_same : third.size ≡ second.size) where
    pub honest_on : IsTrue (g.is_honest (session_device third)) → IsTrue (g.is_honest (session_device second))
    honest_on honest = subst (λ j. IsTrue (g.is_honest (journal_device j))) journal_is honest

    pub records_on : kept_records third ≡ kept_records first ++ chunk ∷ []
    records_on = ap journal_records journal_is ∙ records_are

    bytes_are : kept_bytes third ≡ kept_bytes first ++ chunk
    bytes_are = ap joined records_on ∙ joined_more (kept_records first) chunk

    all_size : third.size ≡ first.size
    all_size = size_same ∙ size_is

    pub stands_on : (bytes : List ℕ) → StandsFor first bytes → StandsFor third (bytes ++ chunk)
    stands_on bytes stands = subst (λ (n : ℕ). AreOf n (kept_bytes third) (bytes ++ chunk)) (sym all_size)
        (subst (λ (kept : List ℕ). AreOf first.size kept (bytes ++ chunk)) (sym bytes_are) (are_on first.size (kept_bytes first) chunk bytes unmarked stands))

    stood : (all : List ℕ) → StandsFor third all → AreOf first.size (kept_bytes first ++ chunk) all
    stood all stands = subst (λ (kept : List ℕ). AreOf first.size kept all) bytes_are (subst (λ (n : ℕ). AreOf n (kept_bytes third) all) all_size stands)

    honest_first : IsTrue (g.is_honest (session_device third)) → IsTrue (g.is_honest (session_device first))
    honest_first honest = honest_back (honest_on honest)

    ran_all : (IsTrue (g.is_honest (session_device second)) → (bytes : List ℕ) → StandsFor first bytes → HasRun second.size (bytes ++ chunk) third.session)
        → IsTrue (g.is_honest (session_device third)) → (all : List ℕ) → StandsFor third all → HasRun third.size all third.session
    ran_all ran honest all stands =
        let back = are_back first.size (kept_bytes first) chunk all (is_kept.fits (honest_first honest)) unmarked (stood all stands) in
        subst (λ (bytes : List ℕ). HasRun third.size bytes third.session) (sym back.2)
        (subst (λ (n : ℕ). HasRun n (back.0 ++ chunk) third.session) (sym size_same) (ran (honest_on honest) back.0 back.1))

    pub kept_on : IsJournal second.journal → (IsTrue (g.is_honest (session_device second)) → (bytes : List ℕ) → StandsFor first bytes → HasRun second.size (bytes ++ chunk) third.session)
        → (second.ended ≡ is_ended (kept_bytes first) → third.ended ≡ is_ended (kept_bytes first ++ chunk)) → IsKept third
    kept_on journal ran ends = record {
      journal = subst IsJournal (sym journal_is) journal;
      fits = λ honest. (λ i. is_of (all_size i) (read fresh (bytes_are i))) ∙ fits_on first.size (kept_bytes first) chunk (is_kept.fits (honest_first honest)) unmarked;
      run = ran_all ran;
      ended = λ honest. ends (ended_is ∙ is_kept.ended (honest_first honest)) ∙ ap is_ended (sym bytes_are);
    }

    module _ (bytes : List ℕ) where
      before_is : session_text second.size (ended_part bytes) ≡ told_text first bytes
      before_is = λ i. session_text (size_is i) (ended_part bytes)

      all_is : session_text second.size (ended_part (bytes ++ chunk)) ≡ told_text third (bytes ++ chunk)
      all_is = λ i. session_text (sym size_same i) (ended_part (bytes ++ chunk))

      pub told_so_far : (output : List ℕ) → IsPrefix (session_text second.size (ended_part bytes) ++ output) (session_text second.size (ended_part (bytes ++ chunk)))
          → IsPrefix (told_text first bytes ++ output) (told_text third (bytes ++ chunk))
      told_so_far output prefix = (prefix.0, sym all_is ∙ prefix.1 ∙ ap (λ (text : List ℕ). (text ++ output) ++ prefix.0) before_is)

      pub told_all : (output : List ℕ) → session_text second.size (ended_part (bytes ++ chunk)) ≡ session_text second.size (ended_part bytes) ++ output
          → told_text third (bytes ++ chunk) ≡ told_text first bytes ++ output
      told_all output is = sym all_is ∙ is ∙ ap (λ (text : List ℕ). text ++ output) before_is
