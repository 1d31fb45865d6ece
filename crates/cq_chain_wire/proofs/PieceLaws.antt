-- Pieces that are read were written so, and what was written is read.
use Rattle.std.proofs.Common.{◌≡◌, ℕ, zero, suc, ◌<◌, Bool, true, false, cond, eqb, List, [], ◌∷◌, ◌++◌, length, map, Option, None, Some, Result, Ok, Err, refl, sym, subst, ap, ◌∙◌, arith}
use Rattle.std.specs.Prelude.{unwrap_or}
use Rattle.std.specs.List.{AllByRecursion}
use Rattle.std.proofs.lemmas.Bool.{eqb-true}
use Rattle.std.proofs.lemmas.List.{nil_from_length}
use Rattle.cq_chain.specs.declared.message.Message.{Message}
use Rattle.cq_chain.specs.declared.message.Message.TheVariants as kinds
use Rattle.cq_store.specs.Stands.{StoreKept}
use Rattle.cq_store_wire.specs.declared.part.Part.{Part}
use Rattle.cq_store_wire.specs.declared.build.State.{State}
use Rattle.cq_store_wire.specs.declared.build.State.TheVariants as states
use Rattle.cq_store_wire.specs.Building.{all_fed as chunks_fed, built, fed, store_of}
use Rattle.cq_store_wire.specs.Laws.{AreChunksOf, IsStore}
use Rattle.cq_store_wire.specs.Layout.{chunk}
use Rattle.cq_store_wire.specs.Limits.{IsPart}
use Rattle.cq_store_wire.specs.Order.{parts_of}
use Rattle.cq_store_wire.proofs.Chunked.{chunks-fed, chunks-found}
use Rattle.cq_store_wire.proofs.Rebuilt.{store-built}
use Rattle.cq_store_wire.proofs.Spelled.{whole-spelled}
use Rattle.cq_wire.specs.declared.version.TheConstants.{VERSION}
use Rattle.cq_wire.specs.declared.fault.WireFault.{WireFault}
use Rattle.cq_wire.specs.declared.fault.WireFault.TheVariants.{BadTag, BytesLeft, OtherVersion}
use Rattle.cq_wire.specs.Layout.{whole}
use Rattle.cq_wire.specs.Reading.{◌>>=◌, all_of, whole_at}
use Rattle.cq_wire.proofs.Fronts.{IsBytes, bind_ok, either, ok_is}
use Rattle.cq_wire.proofs.Wholes.{whole_is_read, whole_reads}
use Rattle.cq_chain_wire.specs.declared.reader.Progress.{Progress}
use Rattle.cq_chain_wire.specs.declared.reader.Progress.TheVariants.{More, Whole}
use Rattle.cq_chain_wire.specs.Feeding.{all_fed, chunk_fed, end_fed, kind_fed, piece_fed, plain_fed}
use Rattle.cq_chain_wire.specs.Laws.{ArePiecesOfOne, IsReadBack, IsWrittenSo}
use Rattle.cq_chain_wire.specs.Layout.{message}
use Rattle.cq_chain_wire.specs.Limits.{IsMessage}
use Rattle.cq_chain_wire.specs.Pieces.{ArePieces, AreSnapshotPieces, snapshot_end, snapshot_piece}
use Rattle.cq_chain_wire.specs.Reading.{message_at}
use Rattle.cq_chain_wire.proofs.MessageLaws.{message_is_read, message_reads}

-- ---- what was written is read

-- pieces within a snapshot make of its store what their chunks make of it
pieces-fed : (chunks : List (List Part)) (rest : List (List ℕ)) (state : State)
    → all_fed (map snapshot_piece chunks ++ rest) (More (Some state)) ≡ (chunks_fed (map chunk chunks) state >>= λ last. all_fed rest (More (Some last)))
unfolding all_fed chunks_fed piece_fed kind_fed chunk_fed snapshot_piece
pieces-fed [] rest state = refl
pieces-fed (c ∷ cs) rest state = by (fed (chunk c) state) (λ next. pieces-fed cs rest next)
  where
    by : (r : Result State WireFault) → ((next : State) → all_fed (map snapshot_piece cs ++ rest) (More (Some next)) ≡ (chunks_fed (map chunk cs) next >>= λ last. all_fed rest (More (Some last))))
        → ((r >>= λ next. Ok (More (Some next))) >>= λ p. all_fed (map snapshot_piece cs ++ rest) p) ≡ ((r >>= λ next. chunks_fed (map chunk cs) next) >>= λ last. all_fed rest (More (Some last)))
    by (Ok next) more = more next
    by (Err e) more = refl

from-chunks : (kept : StoreKept) (chunks : List (List Part)) → IsStore kept → AllByRecursion (AllByRecursion IsPart) chunks → AreChunksOf kept chunks
    → all_fed (map snapshot_piece chunks ++ snapshot_end ∷ []) (More None) ≡ Ok (Whole (kinds.Snap kept))
unfolding all_fed piece_fed kind_fed chunk_fed end_fed snapshot_piece snapshot_end parts_of
from-chunks kept [] sound fit order = absurd cc
from-chunks kept (c ∷ cs) sound fit order =
    let store : chunks_fed (map chunk (c ∷ cs)) states.Empty ≡ Ok (states.Whole kept) = chunks-fed (c ∷ cs) states.Empty fit ∙ ap (λ (ps : List Part). built ps states.Empty) order ∙ store-built kept sound in
    pieces-fed (c ∷ cs) (snapshot_end ∷ []) states.Empty
    ∙ ap (λ (r : Result State WireFault). r >>= λ last. all_fed (snapshot_end ∷ []) (More (Some last))) store

snapshot-read : (kept : StoreKept) (texts : List (List ℕ)) → IsStore kept → AreSnapshotPieces kept texts → all_fed texts (More None) ≡ Ok (Whole (kinds.Snap kept))
snapshot-read kept texts sound are = ap (λ (ts : List (List ℕ)). all_fed ts (More None)) are.written ∙ from-chunks kept are.chunks sound are.fit are.order

-- a plain message has none of the bytes of a snapshot
plain-kind : (m : Message) → IsMessage m → piece_fed (whole message m) None ≡ (all_of message_at (message m) >>= λ x. Ok (Whole x))
unfolding piece_fed kind_fed plain_fed whole message
plain-kind (kinds.Snap kept) fits = absurd fits
plain-kind m fits = refl

-- so it isn't read within one
pub plain-within : (m : Message) (state : State) → IsMessage m → piece_fed (whole message m) (Some state) ≡ Err BadTag
unfolding piece_fed kind_fed plain_fed whole message
plain-within (kinds.Snap kept) state fits = absurd fits
plain-within m state fits = refl

plain-all : (m : Message) → IsMessage m → all_of message_at (message m) ≡ Ok m
unfolding whole_at whole
plain-all m fits = whole_is_read message message_at IsMessage message_is_read m fits

pub plain-fed : (m : Message) → IsMessage m → piece_fed (whole message m) None ≡ Ok (Whole m)
plain-fed m fits = plain-kind m fits ∙ ap (λ (r : Result Message WireFault). r >>= λ x. Ok (Whole x)) (plain-all m fits)

plain-read : (m : Message) (texts : List (List ℕ)) → IsMessage m → texts ≡ whole message m ∷ [] → all_fed texts (More None) ≡ Ok (Whole m)
unfolding all_fed
plain-read m texts fits e =
    ap (λ (ts : List (List ℕ)). all_fed ts (More None)) e ∙ ap (λ (r : Result Progress WireFault). r >>= λ p. all_fed [] p) (plain-fed m fits)

pub read-back : IsReadBack
read-back (kinds.Snap kept) texts sound are = snapshot-read kept texts sound are
read-back m texts sound are = plain-read m texts sound are

abbrev whole_read : Message → Result Progress WireFault
whole_read m = Ok (Whole m)

pub same-message : (x y : Message) → whole_read x ≡ whole_read y → x ≡ y
same-message x y e = cc

pub of-one : ArePiecesOfOne
of-one x y texts first second these those = same-message x y (sym (read-back x texts first these) ∙ read-back y texts second those)

-- ---- what a piece is that was read

pub chunk-ok : (bytes : List ℕ) (so_far : Option State) (p : Progress) → chunk_fed bytes so_far ≡ Ok p → (next : State) × (fed bytes (unwrap_or so_far states.Empty) ≡ Ok next) × (p ≡ More (Some next))
unfolding chunk_fed
chunk-ok bytes so_far p e =
    let x = bind_ok (fed bytes (unwrap_or so_far states.Empty)) (λ next. Ok (More (Some next))) p e in
    (x.0, x.1, sym (ok_is (More (Some x.0)) p x.2))

nothing_left : {A : Type 0} (b : Bool) (x y : A) → cond b (Ok x) (Err BytesLeft) ≡ Ok y → (b ≡ true) × (x ≡ y)
nothing_left true x y e = (refl, cc)
nothing_left false x y e = absurd cc

-- the store was whole, and nothing is left
pub record IsEnd (bytes : List ℕ) (so_far : Option State) (p : Progress) : Type 0 where
  pub state : State
  pub kept : StoreKept
  pub within : so_far ≡ Some state
  pub nothing : bytes ≡ []
  pub store : store_of state ≡ Ok kept
  pub is : p ≡ Whole (kinds.Snap kept)

pub end-ok : (bytes : List ℕ) (so_far : Option State) (p : Progress) → end_fed bytes so_far ≡ Ok p → IsEnd bytes so_far p
unfolding end_fed
end-ok bytes None p e = absurd cc
end-ok bytes (Some state) p e =
    let x = bind_ok (store_of state) (λ kept. cond (eqb (length bytes) 0) (Ok (Whole (kinds.Snap kept))) (Err BytesLeft)) p e in
    let k = nothing_left (eqb (length bytes) 0) (Whole (kinds.Snap x.0)) p x.2 in
    record { state = state; kept = x.0; within = refl; nothing = nil_from_length bytes (eqb-true _ _ k.0); store = x.1; is = sym k.1 }

plain-ok : (bytes : List ℕ) (so_far : Option State) (p : Progress) → plain_fed bytes so_far ≡ Ok p → (m : Message) × (so_far ≡ None) × (all_of message_at bytes ≡ Ok m) × (p ≡ Whole m)
unfolding plain_fed
plain-ok bytes None p e = let x = bind_ok (all_of message_at bytes) (λ m. Ok (Whole m)) p e in (x.0, refl, x.1, sym (ok_is (Whole x.0) p x.2))
plain-ok bytes (Some state) p e = absurd cc

behind-version : (version : ℕ) (rest : List ℕ) (m : Message) → eqb version VERSION ≡ true → all_of message_at rest ≡ Ok m → whole_at message_at (version ∷ rest) ≡ Ok m
unfolding whole_at
behind-version version rest m is e = ap (λ (b : Bool). cond b (all_of message_at rest) (Err OtherVersion)) is ∙ e

tagged-so : (version kind tag : ℕ) (rest : List ℕ) → eqb version VERSION ≡ true → eqb kind tag ≡ true → version ∷ kind ∷ rest ≡ VERSION ∷ tag ∷ rest
tagged-so version kind tag rest v k = ap (λ (n : ℕ). n ∷ kind ∷ rest) (eqb-true version VERSION v) ∙ ap (λ (n : ℕ). VERSION ∷ n ∷ rest) (eqb-true kind tag k)

-- It is a chunk of a snapshot, the end of one, or a plain message.
piece-cases : (bytes : List ℕ) (so_far : Option State) (p : Progress) (G : Type 0) → IsBytes bytes → piece_fed bytes so_far ≡ Ok p
    → ((one : List ℕ) (next : State) → bytes ≡ VERSION ∷ 1 ∷ one → fed one (unwrap_or so_far states.Empty) ≡ Ok next → p ≡ More (Some next) → G)
    → ((rest : List ℕ) → bytes ≡ VERSION ∷ 13 ∷ rest → IsEnd rest so_far p → G)
    → ((m : Message) → so_far ≡ None → IsMessage m → bytes ≡ whole message m → p ≡ Whole m → G)
    → G
unfolding piece_fed kind_fed
piece-cases [] so_far p G fits e f g h = absurd cc
piece-cases (version ∷ []) so_far p G fits e f g h = either (eqb version VERSION) (kind_fed [] so_far) (Err OtherVersion) p G e (λ is got. absurd cc) (λ other. absurd cc)
piece-cases (version ∷ kind ∷ rest) so_far p G fits e f g h =
    let plain = plain_fed (kind ∷ rest) so_far in
    let later = cond (eqb kind 13) (end_fed rest so_far) plain in
    either (eqb version VERSION) (cond (eqb kind 1) (chunk_fed rest so_far) later) (Err OtherVersion) p G e
    (λ v got. either (eqb kind 1) (chunk_fed rest so_far) later p G got
    (λ k read. let x = chunk-ok rest so_far p read in f rest x.0 (tagged-so version kind 1 rest v k) x.1 x.2)
    (λ next. either (eqb kind 13) (end_fed rest so_far) plain p G next
    (λ k read. g rest (tagged-so version kind 13 rest v k) (end-ok rest so_far p read))
    (λ read.
    let x = plain-ok (kind ∷ rest) so_far p read in
    let w = whole_reads message message_at IsMessage message_reads (version ∷ kind ∷ rest) x.0 fits (behind-version version (kind ∷ rest) x.0 v x.2) in
    h x.0 x.1 w.0 w.1 x.3)))
    (λ other. absurd cc)

-- ---- what is read was written so

abbrev ByteTexts : List (List ℕ) → Type 0
ByteTexts texts = AllByRecursion (λ text. AllByRecursion (λ byte. byte < 256) text) texts

are-bytes : (text : List ℕ) → AllByRecursion (λ byte. byte < 256) text → IsBytes text
are-bytes [] h i = omega arith
are-bytes (b ∷ bytes) h zero = h.0
are-bytes (b ∷ bytes) h (suc i) = are-bytes bytes h.1 i

abbrev tagged : List ℕ → List ℕ
tagged one = VERSION ∷ 1 ∷ one

-- The texts are chunks that make the state the store, and an end.
record IsSnapshotRead (texts : List (List ℕ)) (state : State) (m : Message) : Type 0 where
  kept : StoreKept
  is : m ≡ kinds.Snap kept
  inner : List (List ℕ)
  bytes : ByteTexts inner
  are : texts ≡ map tagged inner ++ snapshot_end ∷ []
  make : chunks_fed inner state ≡ Ok (states.Whole kept)

whole-state : (state : State) (kept : StoreKept) → store_of state ≡ Ok kept → state ≡ states.Whole kept
whole-state states.Empty kept e = absurd cc
whole-state (states.Begun store newest) kept e = absurd cc
whole-state (states.Whole store) kept e = ap states.Whole (ok_is store kept e)

behind-whole : (texts : List (List ℕ)) (x m : Message) → all_fed texts (Whole x) ≡ Ok (Whole m) → (texts ≡ []) × (x ≡ m)
unfolding all_fed
behind-whole [] x m e = (refl, same-message x m e)
behind-whole (text ∷ texts) x m e = absurd cc

abbrev ready : State → Result State WireFault
ready s = Ok s

one-more : (text one : List ℕ) (texts : List (List ℕ)) (state next : State) (m : Message) → AllByRecursion (λ byte. byte < 256) text → text ≡ tagged one → fed one state ≡ Ok next → IsSnapshotRead texts next m → IsSnapshotRead (text ∷ texts) state m
unfolding chunks_fed
one-more text one texts state next m fits is made rest =
    let inside : AllByRecursion (λ byte. byte < 256) (tagged one) = subst (λ (t : List ℕ). AllByRecursion (λ byte. byte < 256) t) is fits in
    record {
      kept = rest.kept;
      is = rest.is;
      inner = one ∷ rest.inner;
      bytes = (inside.1.1, rest.bytes);
      are = ap (λ (t : List ℕ). t ∷ texts) is ∙ ap (λ (ts : List (List ℕ)). tagged one ∷ ts) rest.are;
      make = ap (λ (r : Result State WireFault). r >>= λ n. chunks_fed rest.inner n) made ∙ rest.make;
    }

last-one : (text rest : List ℕ) (texts : List (List ℕ)) (state : State) (p : Progress) (m : Message) → text ≡ VERSION ∷ 13 ∷ rest → IsEnd rest (Some state) p → all_fed texts p ≡ Ok (Whole m) → IsSnapshotRead (text ∷ texts) state m
unfolding chunks_fed snapshot_end
last-one text rest texts state p m is end e =
    let b = behind-whole texts (kinds.Snap end.kept) m (ap (λ (q : Progress). all_fed texts q) (sym end.is) ∙ e) in
    let same : state ≡ end.state = let within = end.within in cc in
    record {
      kept = end.kept;
      is = sym b.1;
      inner = [];
      bytes = tt;
      are = ap (λ (t : List ℕ). t ∷ texts) (is ∙ ap (λ (r : List ℕ). VERSION ∷ 13 ∷ r) end.nothing) ∙ ap (λ (ts : List (List ℕ)). snapshot_end ∷ ts) b.0;
      make = ap ready (same ∙ whole-state end.state end.kept end.store);
    }

snapshot-found : (texts : List (List ℕ)) (state : State) (m : Message) → ByteTexts texts → all_fed texts (More (Some state)) ≡ Ok (Whole m) → IsSnapshotRead texts state m
unfolding all_fed
snapshot-found [] state m fits e = absurd cc
snapshot-found (text ∷ texts) state m fits e =
    let x = bind_ok (piece_fed text (Some state)) (λ p. all_fed texts p) (Whole m) e in
    piece-cases text (Some state) x.0 (IsSnapshotRead (text ∷ texts) state m) (are-bytes text fits.0) x.1
    (λ one next is made p. one-more text one texts state next m fits.0 is made (snapshot-found texts next m fits.1 (ap (λ (q : Progress). all_fed texts q) (sym p) ∙ x.2)))
    (λ rest is end. last-one text rest texts state x.0 m is end x.2)
    (λ y no f w p. absurd cc)

tagged-chunks : (chunks : List (List Part)) → map tagged (map chunk chunks) ≡ map snapshot_piece chunks
unfolding snapshot_piece
tagged-chunks [] = refl
tagged-chunks (c ∷ cs) = ap (λ (ts : List (List ℕ)). snapshot_piece c ∷ ts) (tagged-chunks cs)

of-snapshot : (m : Message) (texts : List (List ℕ)) → IsSnapshotRead texts states.Empty m → ArePieces m texts
of-snapshot m texts r =
    let found = chunks-found r.inner states.Empty (states.Whole r.kept) r.bytes r.make in
    let pieces : AreSnapshotPieces r.kept texts = record {
      chunks = found.chunks;
      fit = found.fit;
      order = whole-spelled r.kept found.chunks found.fit found.make;
      written = r.are ∙ ap (λ (ts : List (List ℕ)). map tagged ts ++ snapshot_end ∷ []) found.are ∙ ap (λ (ts : List (List ℕ)). ts ++ snapshot_end ∷ []) (tagged-chunks found.chunks);
    } in
    subst (λ (x : Message). ArePieces x texts) (sym r.is) pieces

plain-pieces : (m : Message) (texts : List (List ℕ)) → IsMessage m → texts ≡ whole message m ∷ [] → ArePieces m texts
plain-pieces (kinds.Snap kept) texts fits e = absurd fits
plain-pieces m texts fits e = e

pub written-so : IsWrittenSo
unfolding all_fed
written-so m [] fits e = absurd cc
written-so m (text ∷ texts) fits e =
    let x = bind_ok (piece_fed text None) (λ p. all_fed texts p) (Whole m) e in
    piece-cases text None x.0 (ArePieces m (text ∷ texts)) (are-bytes text fits.0) x.1
    (λ one next is made p. of-snapshot m (text ∷ texts) (one-more text one texts states.Empty next m fits.0 is made (snapshot-found texts next m fits.1 (ap (λ (q : Progress). all_fed texts q) (sym p) ∙ x.2))))
    (λ rest is end. let none = end.within in absurd cc)
    (λ y no f w p.
    let b = behind-whole texts y m (ap (λ (q : Progress). all_fed texts q) (sym p) ∙ x.2) in
    subst (λ (z : Message). ArePieces z (text ∷ texts)) b.1 (plain-pieces y (text ∷ texts) f (ap (λ (t : List ℕ). t ∷ texts) w ∙ ap (λ (ts : List (List ℕ)). whole message y ∷ ts) b.0)))
