-- Pieces that are read as they are written make the message.
use Rattle.std.proofs.Common.{◌≡◌, ℕ, Bool, List, [], ◌∷◌, ◌++◌, Option, None, Some, Result, Ok, sym, subst, ap, ◌∙◌}
use Rattle.std.specs.Prelude.{unwrap_or, ⊤}
use Rattle.std.proofs.lemmas.List.{append-nil}
use Rattle.cq_chain.specs.declared.message.Message.{Message}
use Rattle.cq_chain.specs.declared.message.Message.TheVariants as kinds
use Rattle.cq_store.specs.Stands.{StoreKept}
use Rattle.cq_store_wire.specs.declared.part.Part.{Part}
use Rattle.cq_store_wire.specs.declared.build.State.{State}
use Rattle.cq_store_wire.specs.declared.build.State.TheVariants as states
use Rattle.cq_store_wire.specs.declared.writer.Place.TheVariants as places
use Rattle.cq_store_wire.specs.Building.{built, store_of}
use Rattle.cq_store_wire.specs.Laws.{IsStore}
use Rattle.cq_store_wire.specs.Order.{parts_of}
use Rattle.cq_store_wire.proofs.Passing.{IsPassed, begun, chunk-passed}
use Rattle.cq_store_wire.proofs.Rebuilt.{store-built}
use Rattle.cq_wire.specs.declared.fault.WireFault.{WireFault}
use Rattle.cq_wire.proofs.Fronts.{ok_is}
use Rattle.cq_chain_wire.specs.declared.reader.Progress.{Progress}
use Rattle.cq_chain_wire.specs.declared.reader.Progress.TheVariants.{More, Whole}
use Rattle.cq_chain_wire.specs.declared.writer.MessageWriter.{MessageWriter}
use Rattle.cq_chain_wire.specs.Feeding.{kind_fed, piece_fed}
use Rattle.cq_chain_wire.specs.Laws.{IsSound}
use Rattle.cq_chain_wire.specs.Layout.{message}
use Rattle.cq_chain_wire.specs.Limits.{IsMessage}
use Rattle.cq_chain_wire.specs.Pieces.{IsNextOfSnapshot, IsNextPiece, parts_left, snapshot_end}
use Rattle.cq_chain_wire.proofs.PieceLaws.{chunk-ok, end-ok, plain-fed, plain-within, same-message}
use Rattle.cq_wire.specs.Layout.{whole}

-- of a snapshot the parts were read that aren't left
abbrev pub IsPassedOn : Message → MessageWriter → Option State → Type 0
IsPassedOn (kinds.Snap kept) writer so_far = IsPassed kept (parts_left kept writer.store) (unwrap_or so_far states.Empty)
IsPassedOn plain writer so_far = ⊤

pub none-passed : (m : Message) (writer : MessageWriter) (so_far : Option State) → writer.store.place ≡ places.Start → writer.store.bodies ≡ [] → so_far ≡ None → IsPassedOn m writer so_far
none-passed (kinds.Snap kept) writer so_far first none empty = begun kept writer.store.bodies writer.store.place (unwrap_or so_far states.Empty) first none (ap (λ (s : Option State). unwrap_or s states.Empty) empty)
none-passed m writer so_far first none empty = tt

-- ---- snapshots

same-progress : (so_far : Option State) (next : State) → More so_far ≡ More (Some next) → so_far ≡ Some next
same-progress so_far next e = cc

snapshot-on : (kept : StoreKept) (left after : List Part) (is_done : Bool) (so_far next : Option State) (text : List ℕ) → IsPassed kept left (unwrap_or so_far states.Empty) → IsNextOfSnapshot left after is_done text → piece_fed text so_far ≡ Ok (More next)
    → IsPassed kept after (unwrap_or next states.Empty)
unfolding piece_fed kind_fed snapshot_end
snapshot-on kept [] after is_done so_far next text p n e =
    let end = end-ok [] so_far (More next) (ap (λ (t : List ℕ). piece_fed t so_far) (sym n.1) ∙ e) in
    let is : More next ≡ Whole (kinds.Snap end.kept) = end.is in
    absurd cc
snapshot-on kept (x ∷ xs) after is_done so_far next text p n e =
    let c = chunk-ok n.1.0 so_far (More next) (ap (λ (t : List ℕ). piece_fed t so_far) (sym n.1.1.1) ∙ e) in
    subst (λ (s : Option State). IsPassed kept after (unwrap_or s states.Empty)) (sym (same-progress next c.0 c.2))
    (chunk-passed kept (x ∷ xs) after (unwrap_or so_far states.Empty) c.0 n.1.0 p n.1.1.0 c.1)

-- where no part is left, the store is whole
store-whole : (kept other : StoreKept) (state : State) → IsStore kept → IsPassed kept [] state → store_of state ≡ Ok other → other ≡ kept
store-whole kept other state sound p e =
    let all : parts_of kept ≡ p.before = p.order ∙ append-nil p.before in
    let is : state ≡ states.Whole kept = ok_is state (states.Whole kept) (sym p.make ∙ ap (λ (ps : List Part). built ps states.Empty) (sym all) ∙ store-built kept sound) in
    ok_is other kept (sym e ∙ ap store_of is)

snapshot-whole : (kept : StoreKept) (other : Message) (left after : List Part) (is_done : Bool) (so_far : Option State) (text : List ℕ) → IsStore kept → IsPassed kept left (unwrap_or so_far states.Empty) → IsNextOfSnapshot left after is_done text
    → piece_fed text so_far ≡ Ok (Whole other) → other ≡ kinds.Snap kept
unfolding piece_fed kind_fed snapshot_end
snapshot-whole kept other [] after is_done so_far text sound p n e =
    let end = end-ok [] so_far (Whole other) (ap (λ (t : List ℕ). piece_fed t so_far) (sym n.1) ∙ e) in
    let passed : IsPassed kept [] end.state = subst (λ (s : Option State). IsPassed kept [] (unwrap_or s states.Empty)) end.within p in
    same-message other (kinds.Snap kept) (ap (λ (q : Progress). read_as q) end.is ∙ ap (λ (k : StoreKept). read_as (Whole (kinds.Snap k))) (store-whole kept end.kept end.state sound passed end.store))
  where
    read_as : Progress → Result Progress WireFault
    read_as q = Ok q
snapshot-whole kept other (x ∷ xs) after is_done so_far text sound p n e =
    let c = chunk-ok n.1.0 so_far (Whole other) (ap (λ (t : List ℕ). piece_fed t so_far) (sym n.1.1.1) ∙ e) in
    let is : Whole other ≡ More (Some c.0) = c.2 in
    absurd cc

-- ---- plain messages

plain-whole : (m other : Message) (so_far : Option State) (text : List ℕ) → IsMessage m → text ≡ whole message m → piece_fed text so_far ≡ Ok (Whole other) → other ≡ m
plain-whole m other None text fits is e = same-message other m (sym e ∙ ap (λ (t : List ℕ). piece_fed t None) is ∙ plain-fed m fits)
plain-whole m other (Some state) text fits is e =
    let wrong = sym e ∙ ap (λ (t : List ℕ). piece_fed t (Some state)) is ∙ plain-within m state fits in
    absurd cc

-- ---- the same in the places of the loop

only : (nothing text bytes : List ℕ) → nothing ≡ [] → bytes ≡ nothing ++ text → text ≡ bytes
only nothing text bytes none all = sym (all ∙ ap (λ (t : List ℕ). t ++ text) none)

piece-on : (m : Message) (before after : MessageWriter) (so_far next : Option State) (text : List ℕ) → IsPassedOn m before so_far → IsNextPiece m before after text → piece_fed text so_far ≡ Ok (More next) → IsPassedOn m after next
piece-on (kinds.Snap kept) before after so_far next text p n e = snapshot-on kept (parts_left kept before.store) (parts_left kept after.store) after.is_done so_far next text p n e
piece-on m before after so_far next text p n e = tt

pub passed-on : (m : Message) (before after : MessageWriter) (so_far next : Option State) (nothing text bytes : List ℕ) → nothing ≡ [] → bytes ≡ nothing ++ text → IsPassedOn m before so_far → IsNextPiece m before after text
    → piece_fed bytes so_far ≡ Ok (More next) → IsPassedOn m after next
passed-on m before after so_far next nothing text bytes none all p n e = piece-on m before after so_far next text p n (ap (λ (t : List ℕ). piece_fed t so_far) (only nothing text bytes none all) ∙ e)

piece-whole : (m other : Message) (before after : MessageWriter) (so_far : Option State) (text : List ℕ) → IsSound m → IsPassedOn m before so_far → IsNextPiece m before after text → piece_fed text so_far ≡ Ok (Whole other) → other ≡ m
piece-whole (kinds.Snap kept) other before after so_far text sound p n e = snapshot-whole kept other (parts_left kept before.store) (parts_left kept after.store) after.is_done so_far text sound p n e
piece-whole m other before after so_far text sound p n e = plain-whole m other so_far text sound n.1 e

pub whole-passed : (m other : Message) (before after : MessageWriter) (so_far : Option State) (nothing text bytes : List ℕ) → IsSound m → nothing ≡ [] → bytes ≡ nothing ++ text → IsPassedOn m before so_far → IsNextPiece m before after text
    → piece_fed bytes so_far ≡ Ok (Whole other) → other ≡ m
whole-passed m other before after so_far nothing text bytes sound none all p n e = piece-whole m other before after so_far text sound p n (ap (λ (t : List ℕ). piece_fed t so_far) (only nothing text bytes none all) ∙ e)
