-- A process that is given the chunks of a copy begins with the store that was copied.
use Rattle.std.proofs.Common.{◌≡◌, ◌≤◌, ℕ, ◌∙◌, ap, sym, refl, subst, List, [], ◌∷◌, length, Option, Some, inl, inr, Result, Ok, Err}
use Rattle.cq_base.specs.declared.ask.Entry.{Entry}
use Rattle.cq_base.specs.declared.limits.TheConstants.{HISTORY_LIMIT}
use Rattle.cq_chain.specs.declared.server.Server as rust_server
use Rattle.cq_frame_loop.specs.Chains.{IsChain, Step}
use Rattle.cq_frames.specs.declared.command.Command.{Command}
use Rattle.cq_frames.specs.declared.command.Command.TheVariants as commands
use Rattle.cq_frames.specs.Reading.{command_at}
use Rattle.cq_real_time.specs.Loading.{loaded}
use Rattle.cq_real_time.proofs.FromStores.{loaded_worlds_are_starts}
use Rattle.cq_server_copies.specs.declared.copy.StoreCopy.{StoreCopy}
use Rattle.cq_server_copies.specs.declared.loading.LoadingProcess.{LoadingProcess}
use Rattle.cq_server_copies.specs.declared.loading.Stage.{Stage}
use Rattle.cq_server_copies.specs.declared.loading.Stage.TheVariants as stages
use Rattle.cq_server_copies.specs.declared.saving.SavingProcess.{SavingProcess}
use Rattle.cq_server_copies.specs.Loading as loading
use Rattle.cq_server_copies.specs.Saving as saving
use Rattle.cq_store.specs.Laws.{Stamped}
use Rattle.cq_store.specs.Stands as stores
use Rattle.cq_store_wire.specs.declared.build.State.{State}
use Rattle.cq_store_wire.specs.declared.build.State.TheVariants as readers
use Rattle.cq_store_wire.specs.declared.part.Part.{Part}
use Rattle.cq_store_wire.specs.declared.writer.Place.TheVariants as places
use Rattle.cq_store_wire.specs.Building.{fed}
use Rattle.cq_store_wire.specs.Chunks.{IsChunk}
use Rattle.cq_store_wire.specs.Laws.{IsStore}
use Rattle.cq_store_wire.specs.Layout.{chunk}
use Rattle.cq_store_wire.specs.Order.{parts_from}
use Rattle.cq_store_wire.proofs.Passing.{IsPassed, begun, chunk-passed, whole-passed}
use Rattle.cq_wire.specs.declared.fault.WireFault.{WireFault}
use Rattle.cq_wire.specs.Reading.{whole_at}
use Rattle.cq_chain_laws.specs.Copies.{BeginsAt, BringAll, Brings, CopiesAreLoaded, TellsChunk, TellsOn}
use Rattle.cq_chain_laws.proofs.Serving.{no_copy}

-- ---- chunks

-- a chunk of parts has a version at least
no-empty : (some : List Part) → [] ≡ chunk some → ⊥
unfolding chunk
no-empty some is = absurd cc

-- The empty chunk comes where all is told.
at-end : (before after : StoreCopy) → saving.IsNextChunk before after [] → before.writer.place ≡ places.End
at-end before after h = elim h.parts [ inl end ↦ end.0 | inr more ↦ absurd (no-empty more.1.0.some more.1.0.written) ]

-- Any other one is the next parts.
as-parts : (before after : StoreCopy) (byte : ℕ) (bytes : List ℕ) → saving.IsNextChunk before after (byte ∷ bytes) → IsChunk (saving.parts_left before) (saving.parts_left after) (byte ∷ bytes)
as-parts before after byte bytes h = elim h.parts [ inl end ↦ let none : byte ∷ bytes ≡ [] = end.1.0 in absurd cc | inr more ↦ more.1.0 ]

-- ---- what is loaded

-- the command that a frame was read as
same-command : (bytes : List ℕ) (x y : Command) → whole_at command_at bytes ≡ Ok x → whole_at command_at bytes ≡ Ok y → x ≡ y
same-command bytes x y e f = let both : ok x ≡ ok y = sym e ∙ f in cc where
  ok : Command → Result Command WireFault
  ok z = Ok z

not-bad : (bytes : List ℕ) (x : Command) (fault : WireFault) → whole_at command_at bytes ≡ Ok x → whole_at command_at bytes ≡ Err fault → ⊥
not-bad bytes x fault e f = let both : ok x ≡ Err fault = sym e ∙ f in absurd cc where
  ok : Command → Result Command WireFault
  ok z = Ok z

-- what a process makes of a frame that brings a chunk
loads : (p : LoadingProcess) (step : Step LoadingProcess) (reader : State) (piece : List ℕ) → p.stage ≡ stages.Loading reader → Brings step.frame piece → loading.Answers p step.frame step.text step.after
    → loading.LoadsChunk piece reader step.after.stage step.text
loads p step reader piece at (bytes, (is, read)) h =
    let one : loading.LoadsFrame step.frame reader step.after.stage step.text = subst (λ (s : Stage). loading.AnswersAt s step.frame step.text step.after.stage) at h in
    let two : loading.LoadsBytes bytes reader step.after.stage step.text = subst (λ (frame : Option (List ℕ)). loading.LoadsFrame frame reader step.after.stage step.text) is one in
    elim two [
      | inl bad ↦ absurd (not-bad bytes (commands.Load piece) bad.0 read bad.1.0)
      | inr command ↦ subst (λ (c : Command). loading.LoadsCommand c reader step.after.stage step.text) (same-command bytes command.0 (commands.Load piece) command.1.0 read) command.1.1
    ]

-- The process stands on that store.
record StandsOn (kept : stores.StoreKept) (stage : Stage) : Type 0 where
  reader : State
  text : List ℕ
  whole : loading.IsLoaded reader stage text
  same : whole.kept ≡ kept

-- the empty chunk
ends : (kept : stores.StoreKept) (before after : StoreCopy) (reader : State) (p : LoadingProcess) (steps : List (Step LoadingProcess)) (last : LoadingProcess) → IsStore kept → before.store ≡ kept → saving.IsNextChunk before after []
    → IsPassed kept (saving.parts_left before) reader → p.stage ≡ stages.Loading reader → IsChain loading.Answers p steps last → BringAll [] steps → StandsOn kept last.stage
ends kept before after reader p [] last sound same next passed at chain brings = absurd brings
ends kept before after reader p (step ∷ other ∷ steps) last sound same next passed at chain brings = absurd brings
ends kept before after reader p (step ∷ []) last sound same next passed at chain brings =
    let whole : loading.IsLoaded reader step.after.stage step.text = loads p step reader [] at brings chain.0 in
    let left : IsPassed kept (parts_from kept before.writer.bodies before.writer.place) reader = subst (λ (k : stores.StoreKept). IsPassed kept (parts_from k before.writer.bodies before.writer.place) reader) same passed in
    subst (λ (q : LoadingProcess). StandsOn kept q.stage) chain.1 (record {
      reader = reader;
      text = step.text;
      whole = whole;
      same = whole-passed kept whole.kept before.writer.bodies before.writer.place reader sound (at-end before after next) left whole.whole;
    })

-- ---- chunk by chunk

-- the copy of a chunk is the one that was there
of-copy : (core : rust_server.Server) (there : Option StoreCopy) (copy before : StoreCopy) → there ≡ Some copy → saving.Begins core there before → before ≡ copy
of-copy core there copy before is begins = subst (λ (o : Option StoreCopy). saving.Begins core o before) is begins

module _ (kept : stores.StoreKept) (sound : IsStore kept) (end : LoadingProcess) where
  -- Where what was told of a copy is loaded, the rest is given, and the process stands on the store.
  abbrev Goes : SavingProcess → List (List ℕ) → Type 0
  Goes p chunks = (copy : StoreCopy) (reader : State) (q : LoadingProcess) (steps : List (Step LoadingProcess)) → p.copy ≡ Some copy → copy.store ≡ kept → IsPassed kept (saving.parts_left copy) reader → q.stage ≡ stages.Loading reader
      → IsChain loading.Answers q steps end → BringAll chunks steps → StandsOn kept end.stage

  -- one chunk more, of that copy
  one-more : (p : SavingProcess) (step : Step SavingProcess) (byte : ℕ) (bytes : List ℕ) (chunks : List (List ℕ)) → Goes step.after chunks → (tells : TellsChunk p step (byte ∷ bytes)) → tells.saves.before.store ≡ kept
      → (reader : State) (q : LoadingProcess) (steps : List (Step LoadingProcess)) → IsPassed kept (saving.parts_left tells.saves.before) reader → q.stage ≡ stages.Loading reader → IsChain loading.Answers q steps end
      → BringAll ((byte ∷ bytes) ∷ chunks) steps → StandsOn kept end.stage
  one-more p step byte bytes chunks rest tells same reader q [] passed at chain brings = absurd brings
  one-more p step byte bytes chunks rest tells same reader q (load ∷ steps) passed at chain brings =
      let before = tells.saves.before in
      let after = tells.saves.after in
      let next : saving.IsNextChunk before after (byte ∷ bytes) = subst (λ (c : List ℕ). saving.IsNextChunk before after c) tells.is tells.saves.next in
      let fed_on : loading.IsFed (byte ∷ bytes) reader load.after.stage load.text = loads q load reader (byte ∷ bytes) at brings.0 chain.0 in
      rest after fed_on.next load.after steps (tells.saves.copy ∙ ap (λ (c : List ℕ). saving.left_behind c after) tells.is) (next.store ∙ same)
      (chunk-passed kept (saving.parts_left before) (saving.parts_left after) reader fed_on.next (byte ∷ bytes) passed (as-parts before after byte bytes next) fed_on.fed) fed_on.is chain.1 brings.1

  going : (saves : List (Step SavingProcess)) (p last : SavingProcess) (chunks : List (List ℕ)) → IsChain saving.Answers p saves last → TellsOn p saves chunks → Goes p chunks
  going [] p last chunks chain tells copy reader q steps there same passed at loading_chain brings = absurd tells
  going (step ∷ saves) p last [] chain (inl tells) copy reader q steps there same passed at loading_chain brings =
      let is : tells.saves.before ≡ copy = of-copy p.process.core p.copy copy tells.saves.before there tells.saves.begins in
      let next : saving.IsNextChunk tells.saves.before tells.saves.after [] = subst (λ (c : List ℕ). saving.IsNextChunk tells.saves.before tells.saves.after c) tells.is tells.saves.next in
      ends kept tells.saves.before tells.saves.after reader q steps end sound (ap (λ (c : StoreCopy). c.store) is ∙ same) next
      (subst (λ (c : StoreCopy). IsPassed kept (saving.parts_left c) reader) (sym is) passed) at loading_chain brings
  going (step ∷ saves) p last [] chain (inr other) copy reader q steps there same passed at loading_chain brings =
      going saves step.after last [] chain.1 other.1 copy reader q steps ((chain.0.others (no_copy step.frame other.0)).1 ∙ there) same passed at loading_chain brings
  going (step ∷ saves) p last ([] ∷ chunks) chain tells copy reader q steps there same passed at loading_chain brings = absurd tells
  going (step ∷ saves) p last ((byte ∷ bytes) ∷ chunks) chain (inl (tells, more)) copy reader q steps there same passed at loading_chain brings =
      let is : tells.saves.before ≡ copy = of-copy p.process.core p.copy copy tells.saves.before there tells.saves.begins in
      one-more p step byte bytes chunks (going saves step.after last chunks chain.1 more) tells (ap (λ (c : StoreCopy). c.store) is ∙ same) reader q steps
      (subst (λ (c : StoreCopy). IsPassed kept (saving.parts_left c) reader) (sym is) passed) at loading_chain brings
  going (step ∷ saves) p last ((byte ∷ bytes) ∷ chunks) chain (inr other) copy reader q steps there same passed at loading_chain brings =
      going saves step.after last ((byte ∷ bytes) ∷ chunks) chain.1 other.1 copy reader q steps ((chain.0.others (no_copy step.frame other.0)).1 ∙ there) same passed at loading_chain brings

-- ---- from the first one on

stands-begin : (kept : stores.StoreKept) (stage : Stage) (s : StandsOn kept stage) (entries : List Entry) → stores.StandsFor kept entries → Stamped entries → length entries ≤ HISTORY_LIMIT → BeginsAt entries s.whole.process
unfolding loaded
stands-begin kept stage s entries stands stamped few = record {
  start = (loaded_worlds_are_starts entries stamped few).0;
  new = s.whole.new entries (subst (λ (k : stores.StoreKept). stores.StandsFor k entries) (sym s.same) stands);
}

pub copies_are_loaded : CopiesAreLoaded
copies_are_loaded first last saves [] start end steps chain tells at loading_chain brings = absurd tells
copies_are_loaded first last [] (one ∷ chunks) start end steps chain tells at loading_chain brings = absurd tells
copies_are_loaded first last (step ∷ saves) ([] ∷ chunks) start end steps chain tells at loading_chain brings = absurd tells
copies_are_loaded first last (step ∷ saves) ((byte ∷ bytes) ∷ chunks) start end steps chain (none, (tells, more)) at loading_chain brings =
    let copy = tells.saves.before in
    let new = subst (λ (o : Option StoreCopy). saving.Begins first.process.core o copy) none tells.saves.begins in
    let s = one-more copy.store new.0.sound end first step byte bytes chunks (going copy.store new.0.sound end saves step.after last chunks chain.1 more) tells refl readers.Empty start steps
    (begun copy.store copy.writer.bodies copy.writer.place readers.Empty new.0.start new.0.bodies refl) at loading_chain brings in
    record {
      kept = copy.store;
      copied = λ server outbox stands. (new.1 server outbox stands).stands;
      process = s.whole.process;
      is = s.whole.is;
      begins = stands-begin copy.store end.stage s;
    }
