-- One chunk after another.
use Rattle.std.proofs.Common.{◌≡◌, ℕ, List, [], ◌∷◌, ◌++◌, sym, ◌∙◌, ap, subst, append_assoc, append-nil}
use Rattle.std.specs.Prelude.{IsTrue}
use Rattle.cq_disk.specs.declared.device.Device.{Ghosts}
use Rattle.cq_records.specs.Frames.{joined}
use Rattle.cq_kept_session.specs.declared.kept.KeptSession.{KeptSession}
use Rattle.cq_kept_session.specs.Kept.{StandsFor, session_device, session_size, told_text}
use Rattle.cq_kept_session.specs.Takes.{Continues, Taken, TakesAll, chunks, outputs}

module _ {D : Type 0} {g : Ghosts D} where
  same_size : (bytes : List ℕ) (ts : List Taken) (old new : KeptSession D g) → TakesAll bytes ts old new → session_size new ≡ session_size old
  same_size bytes [] old new is = ap session_size is
  same_size bytes (t ∷ ts) old new all = same_size (bytes ++ t.chunk) ts all.0 new all.2 ∙ all.1.size

  honest_before : (bytes : List ℕ) (ts : List Taken) (old new : KeptSession D g) → TakesAll bytes ts old new → IsTrue (g.is_honest (session_device new)) → IsTrue (g.is_honest (session_device old))
  honest_before bytes [] old new is honest = subst (λ (k : KeptSession D g). IsTrue (g.is_honest (session_device k))) is honest
  honest_before bytes (t ∷ ts) old new all honest = all.1.honest (honest_before (bytes ++ t.chunk) ts all.0 new all.2 honest)

  all_told : (bytes : List ℕ) (ts : List Taken) (old new : KeptSession D g) → StandsFor old bytes → TakesAll bytes ts old new → IsTrue (g.is_honest (session_device new))
      → StandsFor new (bytes ++ joined (chunks ts)) × (told_text new (bytes ++ joined (chunks ts)) ≡ told_text old bytes ++ outputs ts)
  all_told bytes [] old new stands is honest = (
    subst (λ (k : KeptSession D g). StandsFor k (bytes ++ [])) (sym is) (subst (λ (l : List ℕ). StandsFor old l) (sym (append-nil bytes)) stands),
    (λ i. told_text (is i) (append-nil bytes i)) ∙ sym (append-nil (told_text old bytes)),
  )
  all_told bytes (t ∷ ts) old new stands all honest =
      let mid = all.0 in
      let here = all.1 in
      let honest_mid = honest_before (bytes ++ t.chunk) ts mid new all.2 honest in
      let more = all_told (bytes ++ t.chunk) ts mid new (here.stands honest_mid) all.2 honest in
      let assoc = append_assoc bytes t.chunk (joined (chunks ts)) in (
        subst (λ (l : List ℕ). StandsFor new l) assoc more.0,
        ap (λ (l : List ℕ). told_text new l) (sym assoc) ∙ more.1 ∙ ap (λ (text : List ℕ). text ++ outputs ts) (here.text honest_mid) ∙ append_assoc (told_text old bytes) t.output (outputs ts),
      )

  pub continues : (bytes : List ℕ) (ts : List Taken) (old new : KeptSession D g) → StandsFor old bytes → TakesAll bytes ts old new → Continues bytes ts old new
  continues bytes ts old new stands all = record {
    size = same_size bytes ts old new all;
    honest = honest_before bytes ts old new all;
    stands = λ honest. (all_told bytes ts old new stands all honest).0;
    text = λ honest. (all_told bytes ts old new stands all honest).1;
  }
