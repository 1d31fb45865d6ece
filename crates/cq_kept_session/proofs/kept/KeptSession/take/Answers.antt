-- A chunk that can be kept is kept as it is, and another one with 1 in the place of its zeros and marks.
use Rattle.std.proofs.Common.{◌≡◌, ℕ, List, [], ◌∷◌, ◌++◌, refl, sym, ◌∙◌, subst}
use Rattle.std.specs.Prelude.{IsTrue, OnOk}
use Rattle.std.specs.Io.KnownBytes.{Appends}
use Rattle.cq_base.specs.Relations.{IsPrefix}
use Rattle.cq_journal.specs.Changes.{adds}
use Rattle.cq_journal.specs.Histories.{Tries}
use Rattle.cq_journal.proofs.Appends.{none_at_rest}
use Rattle.cq_kept_session.specs.Kept.{StandsFor, kept_records, session_device, told_text}
use Rattle.cq_kept_session.specs.Outcomes.{OnKept}
use Rattle.cq_kept_session.specs.Texts.{as_kept}
use Rattle.cq_kept_session.proofs.Chunks.{text_is_same}
use Rattle.cq_kept_session.proofs.kept.KeptSession.take.Goals as goal

pub returns-then-is_unmarked-clause-records : goal.returns-then-is_unmarked-clause-records
returns-then-is_unmarked-clause-records g c =
    let same : as_kept c.args.chunk.now ≡ c.args.chunk.now = text_is_same c.args.chunk.now (sym c.if-is_text.ensures) (c.if-is_unmarked.ensures refl) in
    subst (λ (text : List ℕ). OnKept c.take_text.result (kept_records c.take_text.new.self ≡ kept_records c.args.self.now ++ text ∷ [])) (sym same) c.take_text.ensures.records

pub returns-then-is_unmarked-clause-stands : goal.returns-then-is_unmarked-clause-stands
returns-then-is_unmarked-clause-stands g c =
    let same : as_kept c.args.chunk.now ≡ c.args.chunk.now = text_is_same c.args.chunk.now (sym c.if-is_text.ensures) (c.if-is_unmarked.ensures refl) in
    subst (λ (text : List ℕ). OnKept c.take_text.result (IsTrue (g.D.Device.is_honest (session_device c.take_text.new.self)) → (bytes : List ℕ) → StandsFor c.args.self.now bytes → StandsFor c.take_text.new.self (bytes ++ text)))
    (sym same) c.take_text.ensures.stands

pub returns-then-is_unmarked-clause-told : goal.returns-then-is_unmarked-clause-told
returns-then-is_unmarked-clause-told g c =
    let same : as_kept c.args.chunk.now ≡ c.args.chunk.now = text_is_same c.args.chunk.now (sym c.if-is_text.ensures) (c.if-is_unmarked.ensures refl) in
    subst (λ (text : List ℕ). OnKept c.take_text.result (IsTrue (g.D.Device.is_honest (session_device c.take_text.new.self)) → (bytes : List ℕ) → StandsFor c.args.self.now bytes → (output : List ℕ)
    × Appends (g.W.KeptSink.taken c.args.writer.now) (g.W.KeptSink.taken c.take_text.new.writer) output
    × IsPrefix (told_text c.args.self.now bytes ++ output) (told_text c.take_text.new.self (bytes ++ text))
    × OnOk c.take_text.result (told_text c.take_text.new.self (bytes ++ text) ≡ told_text c.args.self.now bytes ++ output)))
    (sym same) c.take_text.ensures.told

pub returns-then-is_unmarked-clause-tries : goal.returns-then-is_unmarked-clause-tries
returns-then-is_unmarked-clause-tries g c =
    let same : as_kept c.args.chunk.now ≡ c.args.chunk.now = text_is_same c.args.chunk.now (sym c.if-is_text.ensures) (c.if-is_unmarked.ensures refl) in
    subst (λ (text : List ℕ). Tries (adds (text ∷ [])) c.args.self.now.journal c.take_text.new.self.journal) (sym same) c.take_text.ensures.tries

pub returns-in_err-text-clause-tries : goal.returns-in_err-text-clause-tries
returns-in_err-text-clause-tries g c =
    let j = c.args.self.now.journal in
    record { honest = λ honest. honest; moments = λ honest. none_at_rest j (as_kept c.args.chunk.now ∷ []) (λ f. g.met.D.Device.only_now j.root.log.device.device f) c.requires.kept.journal.regions honest }

pub returns-clause-told : goal.returns-clause-told
returns-clause-told g c =
    subst (λ (text : List ℕ). OnKept c.take_text-2.result (IsTrue (g.D.Device.is_honest (session_device c.take_text-2.new.self)) → (bytes : List ℕ) → StandsFor c.args.self.now bytes → (output : List ℕ)
    × Appends (g.W.KeptSink.taken c.args.writer.now) (g.W.KeptSink.taken c.take_text-2.new.writer) output
    × IsPrefix (told_text c.args.self.now bytes ++ output) (told_text c.take_text-2.new.self (bytes ++ text))
    × OnOk c.take_text-2.result (told_text c.take_text-2.new.self (bytes ++ text) ≡ told_text c.args.self.now bytes ++ output)))
    (c.deref.ensures.value ∙ c.in_ok-text.ensures.text) c.take_text-2.ensures.told
