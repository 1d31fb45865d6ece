-- Lines that are kept or refused, one behind the other.
use Rattle.std.proofs.Common.{◌≡◌, ℕ, List, [], ◌∷◌, ◌++◌, length, Option, refl, sym, ◌∙◌, ap, subst, append_assoc, append-nil, arith}
use Rattle.std.specs.Prelude.{◌==◌, true, IsTrue, Result, Ok, Err, OnOk}
use Rattle.std.specs.Io.KnownBytes.{Appends}
use Rattle.std.proofs.lemmas.Bool.{eqb-true}
use Rattle.std.proofs.KnownBytes.{Appends-nil, Appends-trans}
use Rattle.cq_disk.specs.declared.device.Device.{Ghosts}
use Rattle.cq_records.specs.Frames.{joined}
use Rattle.cq_records.proofs.Frames.{joined_append}
use Rattle.cq_lines.specs.Lines.{ended_part}
use Rattle.cq_script.specs.Sessions.{session_text}
use Rattle.cq_kept_session.specs.declared.kept.KeptSession.{KeptSession}
use Rattle.cq_kept_session.specs.Bases.{AreOf}
use Rattle.cq_kept_session.specs.Kept.{StandsFor, kept_bytes, kept_records, session_device, session_size, told_text}
use Rattle.cq_kept_session.specs.Served.{Piece, Serves, ServesBehind, no_room_text, refused, taken, texts, took, written}
use Rattle.cq_kept_session.specs.Takes.{Taken, chunks, outputs}
use Rattle.cq_kept_session.specs.Texts.{as_kept}

pub if_ok : {T E P Q : Type 0} (r : Result T E) → OnOk r P → (P → Q) → OnOk r Q
if_ok (Ok x) p step = step p
if_ok (Err e) p step = tt

pub no_bytes : (bytes : List ℕ) → (length bytes == 0) ≡ true → bytes ≡ []
no_bytes [] is = refl
no_bytes (b ∷ bytes) is =
    let none : length (b ∷ bytes) ≡ 0 = eqb-true _ _ is in
    absurd (omega (arith, none))

-- ---- pieces

texts_both : (ps qs : List Piece) → texts (ps ++ qs) ≡ texts ps ++ texts qs
texts_both [] qs = refl
texts_both (took t ∷ ps) qs = ap (λ (more : List ℕ). t.chunk ++ more) (texts_both ps qs) ∙ sym (append_assoc t.chunk (texts ps) (texts qs))
texts_both (refused n line ∷ ps) qs = ap (λ (more : List ℕ). line ++ more) (texts_both ps qs) ∙ sym (append_assoc line (texts ps) (texts qs))

written_both : (ps qs : List Piece) → written (ps ++ qs) ≡ written ps ++ written qs
written_both [] qs = refl
written_both (took t ∷ ps) qs = ap (λ (more : List ℕ). t.output ++ more) (written_both ps qs) ∙ sym (append_assoc t.output (written ps) (written qs))
written_both (refused n line ∷ ps) qs = ap (λ (more : List ℕ). no_room_text n ++ more) (written_both ps qs) ∙ sym (append_assoc (no_room_text n) (written ps) (written qs))

taken_both : (ps qs : List Piece) → taken (ps ++ qs) ≡ taken ps ++ taken qs
taken_both [] qs = refl
taken_both (took t ∷ ps) qs = ap (λ (more : List Taken). t ∷ more) (taken_both ps qs)
taken_both (refused n line ∷ ps) qs = taken_both ps qs

chunks_both : (ts us : List Taken) → chunks (ts ++ us) ≡ chunks ts ++ chunks us
chunks_both [] us = refl
chunks_both (t ∷ ts) us = ap (λ (more : List (List ℕ)). t.chunk ∷ more) (chunks_both ts us)

outputs_both : (ts us : List Taken) → outputs (ts ++ us) ≡ outputs ts ++ outputs us
outputs_both [] us = refl
outputs_both (t ∷ ts) us = ap (λ (more : List ℕ). t.output ++ more) (outputs_both ts us) ∙ sym (append_assoc t.output (outputs ts) (outputs us))

joined_taken : (ps qs : List Piece) → joined (chunks (taken (ps ++ qs))) ≡ joined (chunks (taken ps)) ++ joined (chunks (taken qs))
joined_taken ps qs = ap (λ (ts : List Taken). joined (chunks ts)) (taken_both ps qs) ∙ ap joined (chunks_both (taken ps) (taken qs)) ∙ joined_append (chunks (taken ps)) (chunks (taken qs))

outputs_taken : (ps qs : List Piece) → outputs (taken (ps ++ qs)) ≡ outputs (taken ps) ++ outputs (taken qs)
outputs_taken ps qs = ap outputs (taken_both ps qs) ∙ outputs_both (taken ps) (taken qs)

-- ---- bytes as they are kept

pub kept_both : (a b : List ℕ) → as_kept (a ++ b) ≡ as_kept a ++ as_kept b
kept_both [] b = refl
kept_both (x ∷ a) b = ap (λ (more : List ℕ). (as_kept (x ∷ [])) ++ more) (kept_both a b)

-- ---- sessions

module _ {D : Type 0} {g : Ghosts D} where
  behind_both : (bytes : List ℕ) (one two three : KeptSession D g) (a b c : Option (List ℕ)) (x y : List ℕ) (first : ServesBehind bytes one two a b x)
      → ServesBehind (bytes ++ joined (chunks (taken first.pieces))) two three b c y → ServesBehind bytes one three a c (x ++ y)
  behind_both bytes one two three a b c x y first second =
      let here = joined (chunks (taken first.pieces)) in
      let there = joined (chunks (taken second.pieces)) in
      let all : (bytes ++ here) ++ there ≡ bytes ++ joined (chunks (taken (first.pieces ++ second.pieces))) = append_assoc bytes here there ∙ ap (λ (l : List ℕ). bytes ++ l) (sym (joined_taken first.pieces second.pieces)) in
      record {
        pieces = first.pieces ++ second.pieces;
        are = texts_both first.pieces second.pieces ∙ (λ i. (first.are i) ++ (second.are i));
        appends = subst (λ text. Appends a c text) (sym (written_both first.pieces second.pieces)) (Appends-trans a b c _ _ first.appends second.appends);
        stands = subst (λ (l : List ℕ). StandsFor three l) all second.stands;
        text = ap (λ (l : List ℕ). told_text three l) (sym all) ∙ second.text ∙ ap (λ (text : List ℕ). text ++ outputs (taken second.pieces)) first.text
            ∙ append_assoc (told_text one bytes) (outputs (taken first.pieces)) (outputs (taken second.pieces))
            ∙ ap (λ (text : List ℕ). told_text one bytes ++ text) (sym (outputs_taken first.pieces second.pieces));
      }

  pub serves_both : (one two three : KeptSession D g) (a b c : Option (List ℕ)) (x y : List ℕ) → Serves one two a b x → Serves two three b c y → Serves one three a c (x ++ y)
  serves_both one two three a b c x y first second = record {
    size = second.size ∙ first.size;
    honest = λ honest. first.honest (second.honest honest);
    behind = λ honest bytes stands.
        let here = first.behind (second.honest honest) bytes stands in
        behind_both bytes one two three a b c x y here (second.behind honest (bytes ++ joined (chunks (taken here.pieces))) here.stands);
  }

  -- nothing was taken, and nothing has changed
  behind_same : (bytes : List ℕ) (old new : KeptSession D g) (a b : Option (List ℕ)) (ps : List Piece) (lines : List ℕ) → texts ps ≡ lines → Appends a b (written ps) → taken ps ≡ []
      → session_size new ≡ session_size old → kept_bytes new ≡ kept_bytes old → StandsFor old bytes → ServesBehind bytes old new a b lines
  behind_same bytes old new a b ps lines are appends none size kept stands =
      let same : bytes ++ joined (chunks (taken ps)) ≡ bytes = ap (λ (ts : List Taken). bytes ++ joined (chunks ts)) none ∙ append-nil bytes in
      record {
        pieces = ps;
        are = are;
        appends = appends;
        stands = subst (λ (l : List ℕ). StandsFor new l) (sym same) (subst (λ (l : List ℕ). AreOf new.size l bytes) (sym kept) (subst (λ (n : ℕ). AreOf n (kept_bytes old) bytes) (sym size) stands));
        text = (λ i. session_text (size i) (ended_part (same i))) ∙ sym (append-nil (told_text old bytes)) ∙ ap (λ (ts : List Taken). told_text old bytes ++ outputs ts) (sym none);
      }

  pub serves_nothing : (old new : KeptSession D g) (a b : Option (List ℕ)) → b ≡ a → session_size new ≡ session_size old → kept_records new ≡ kept_records old
      → (IsTrue (g.is_honest (session_device new)) → IsTrue (g.is_honest (session_device old))) → Serves old new a b []
  serves_nothing old new a b same size records honest = record {
    size = size;
    honest = honest;
    behind = λ _ bytes stands. behind_same bytes old new a b [] [] refl (subst (λ (after : Option (List ℕ)). Appends a after []) (sym same) (Appends-nil a)) refl size (ap joined records) stands;
  }

  pub serves_none : (k : KeptSession D g) (a : Option (List ℕ)) → Serves k k a a []
  serves_none k a = serves_nothing k k a a refl refl refl (λ honest. honest)

  pub serves_refused : (k : KeptSession D g) (a b : Option (List ℕ)) (n : ℕ) (line : List ℕ) → Appends a b (no_room_text n) → Serves k k a b line
  serves_refused k a b n line appends = record {
    size = refl;
    honest = λ honest. honest;
    behind = λ _ bytes stands. behind_same bytes k k a b (refused n line ∷ []) line (append-nil line) (subst (λ (text : List ℕ). Appends a b text) (sym (append-nil (no_room_text n))) appends) refl refl refl stands;
  }

  -- What was told of a chunk that was taken.
  abbrev pub ToldBehind : List ℕ → KeptSession D g → KeptSession D g → Option (List ℕ) → Option (List ℕ) → List ℕ → Type 0
  ToldBehind bytes old new a b chunk = (output : List ℕ) × Appends a b output × (told_text new (bytes ++ chunk) ≡ told_text old bytes ++ output)

  pub serves_took : (old new : KeptSession D g) (a b : Option (List ℕ)) (chunk : List ℕ) → session_size new ≡ session_size old
      → (IsTrue (g.is_honest (session_device new)) → IsTrue (g.is_honest (session_device old)))
      → (IsTrue (g.is_honest (session_device new)) → (bytes : List ℕ) → StandsFor old bytes → StandsFor new (bytes ++ chunk))
      → (IsTrue (g.is_honest (session_device new)) → (bytes : List ℕ) → StandsFor old bytes → ToldBehind bytes old new a b chunk) → Serves old new a b chunk
  serves_took old new a b chunk size honest goes told = record {
    size = size;
    honest = honest;
    behind = λ is_honest bytes stands.
        let w = told is_honest bytes stands in
        let t : Taken = record { chunk = chunk; output = w.0 } in
        record {
          pieces = took t ∷ [];
          are = append-nil chunk;
          appends = subst (λ (text : List ℕ). Appends a b text) (sym (append-nil w.0)) w.1;
          stands = subst (λ (l : List ℕ). StandsFor new (bytes ++ l)) (sym (append-nil chunk)) (goes is_honest bytes stands);
          text = ap (λ (l : List ℕ). told_text new (bytes ++ l)) (append-nil chunk) ∙ w.2 ∙ ap (λ (l : List ℕ). told_text old bytes ++ l) (sym (append-nil w.0));
        };
  }
