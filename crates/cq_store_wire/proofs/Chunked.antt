-- Chunks are read as their parts, and what is read are chunks.
use Rattle.std.proofs.Common.{◌≡◌, ℕ, zero, suc, ◌+◌, ◌<◌, ◌≤◌, eqb, List, [], ◌∷◌, ◌++◌, length, map, Result, Ok, Err, refl, sym, ap, ◌∙◌, arith}
use Rattle.std.specs.List.{AllByRecursion, flat_map}
use Rattle.std.proofs.lemmas.Bool.{eqb-true}
use Rattle.std.proofs.lemmas.List.{length-append}
use Rattle.cq_wire.specs.declared.version.TheConstants.{VERSION}
use Rattle.cq_wire.specs.declared.fault.WireFault.{WireFault}
use Rattle.cq_wire.specs.declared.fault.WireFault.TheVariants.{OtherVersion}
use Rattle.cq_wire.specs.Reading.{◌>>=◌}
use Rattle.cq_wire.proofs.Fronts.{IsBytes, IsBytes-rest, bind_ok, either}
use Rattle.cq_store_wire.specs.declared.part.Part.{Part}
use Rattle.cq_store_wire.specs.declared.build.State.{State}
use Rattle.cq_store_wire.specs.Building.{all_fed, built, fed, put, read_into}
use Rattle.cq_store_wire.specs.Layout.{chunk, part}
use Rattle.cq_store_wire.specs.Limits.{IsPart}
use Rattle.cq_store_wire.specs.Reading.{part_at}
use Rattle.cq_store_wire.proofs.PartLaws.{part_is_read, part_reads}
use Rattle.cq_store_wire.proofs.Steps.{bind-same, one-step, some-bytes}

bind-bind : {A B C : Type 0} (r : Result A WireFault) (f : A → Result B WireFault) (g : B → Result C WireFault) → ((r >>= f) >>= g) ≡ (r >>= λ x. f x >>= g)
bind-bind (Ok x) f g = refl
bind-bind (Err e) f g = refl

-- ---- what was written is read

parts-read : (ps : List Part) (n : ℕ) (state : State) → AllByRecursion IsPart ps → length (flat_map part ps) ≤ n → read_into n (flat_map part ps) state ≡ built ps state
unfolding read_into built
parts-read [] n state fit h = refl
parts-read (p ∷ ps) zero state fit h = absurd (omega (arith, h, length-append (part p) (flat_map part ps), some-bytes p))
parts-read (p ∷ ps) (suc n) state fit h =
    let rest : List ℕ = flat_map part ps in
    let sum : length (part p ++ rest) ≡ length (part p) + length rest = length-append (part p) rest in
    one-step n (part p ++ rest) state (omega (arith, sum, some-bytes p))
    ∙ ap (λ (r : Result (Part × List ℕ) WireFault). r >>= λ x. put x.0 state >>= λ next. read_into n x.1 next) (part_is_read p rest fit.0)
    ∙ bind-same (put p state) (λ next. read_into n rest next) (λ next. built ps next) (λ next e. parts-read ps n next fit.1 (omega (arith, sum, h, some-bytes p)))

pub chunk-fed : (ps : List Part) (state : State) → AllByRecursion IsPart ps → fed (chunk ps) state ≡ built ps state
unfolding fed chunk
chunk-fed ps state fit = parts-read ps (length (flat_map part ps)) state fit (omega arith)

pub built-append : (ps qs : List Part) (state : State) → built (ps ++ qs) state ≡ (built ps state >>= λ next. built qs next)
unfolding built
built-append [] qs state = refl
built-append (p ∷ ps) qs state =
    bind-same (put p state) (λ next. built (ps ++ qs) next) (λ next. built ps next >>= λ last. built qs last) (λ next e. built-append ps qs next)
    ∙ sym (bind-bind (put p state) (λ next. built ps next) (λ last. built qs last))

pub chunks-fed : (chunks : List (List Part)) (state : State) → AllByRecursion (AllByRecursion IsPart) chunks → all_fed (map chunk chunks) state ≡ built (flat_map (λ some. some) chunks) state
unfolding all_fed built
chunks-fed [] state fit = refl
chunks-fed (ps ∷ more) state fit =
    ap (λ (r : Result State WireFault). r >>= λ next. all_fed (map chunk more) next) (chunk-fed ps state fit.0)
    ∙ bind-same (built ps state) (λ next. all_fed (map chunk more) next) (λ next. built (flat_map (λ some. some) more) next) (λ next e. chunks-fed more next fit.1)
    ∙ sym (built-append ps (flat_map (λ some. some) more) state)

-- ---- what is read was written so

record AreParts (bytes : List ℕ) (state after : State) : Type 0 where
  parts : List Part
  fit : AllByRecursion IsPart parts
  are : bytes ≡ flat_map part parts
  make : built parts state ≡ Ok after

parts-found : (n : ℕ) (bytes : List ℕ) (state after : State) → IsBytes bytes → read_into n bytes state ≡ Ok after → AreParts bytes state after
unfolding read_into built
parts-found n [] state after fits e = record { parts = []; fit = tt; are = refl; make = e }
parts-found zero (b ∷ bytes) state after fits e = absurd cc
parts-found (suc n) (b ∷ bytes) state after fits e =
    let x = bind_ok (part_at (b ∷ bytes)) (λ p. put p.0 state >>= λ next. read_into n p.1 next) after e in
    let r = part_reads (b ∷ bytes) x.0 fits x.1 in
    let s = bind_ok (put x.0.0 state) (λ next. read_into n x.0.1 next) after x.2 in
    let rest = parts-found n x.0.1 s.0 after r.0.rest_fits s.2 in
    record {
      parts = x.0.0 ∷ rest.parts;
      fit = (r.1, rest.fit);
      are = r.0.parts ∙ ap (λ (t : List ℕ). part x.0.0 ++ t) rest.are;
      make = ap (λ (q : Result State WireFault). q >>= λ next. built rest.parts next) s.1 ∙ rest.make;
    }

record IsOneChunk (bytes : List ℕ) (state after : State) : Type 0 where
  parts : List Part
  fit : AllByRecursion IsPart parts
  is : bytes ≡ chunk parts
  make : built parts state ≡ Ok after

chunk-found : (bytes : List ℕ) (state after : State) → IsBytes bytes → fed bytes state ≡ Ok after → IsOneChunk bytes state after
unfolding fed chunk
chunk-found [] state after fits e = absurd cc
chunk-found (version ∷ rest) state after fits e =
    either (eqb version VERSION) (read_into (length rest) rest state) (Err OtherVersion) after (IsOneChunk (version ∷ rest) state after) e
    (λ is found. let p = parts-found (length rest) rest state after (IsBytes-rest version rest fits) found in
    record { parts = p.parts; fit = p.fit; is = ap (λ (v : ℕ). v ∷ rest) (eqb-true version VERSION is) ∙ ap (λ (t : List ℕ). VERSION ∷ t) p.are; make = p.make })
    (λ other. absurd cc)

pub record AreChunks (texts : List (List ℕ)) (state after : State) : Type 0 where
  pub chunks : List (List Part)
  pub fit : AllByRecursion (AllByRecursion IsPart) chunks
  pub are : texts ≡ map chunk chunks
  pub make : built (flat_map (λ some. some) chunks) state ≡ Ok after

are-bytes : (text : List ℕ) → AllByRecursion (λ byte. byte < 256) text → IsBytes text
are-bytes [] h i = omega arith
are-bytes (b ∷ bytes) h zero = h.0
are-bytes (b ∷ bytes) h (suc i) = are-bytes bytes h.1 i

pub chunks-found : (texts : List (List ℕ)) (state after : State) → AllByRecursion (λ text. AllByRecursion (λ byte. byte < 256) text) texts → all_fed texts state ≡ Ok after → AreChunks texts state after
unfolding all_fed built
chunks-found [] state after fits e = record { chunks = []; fit = tt; are = refl; make = e }
chunks-found (text ∷ texts) state after fits e =
    let x = bind_ok (fed text state) (λ next. all_fed texts next) after e in
    let one = chunk-found text state x.0 (are-bytes text fits.0) x.1 in
    let rest = chunks-found texts x.0 after fits.1 x.2 in
    record {
      chunks = one.parts ∷ rest.chunks;
      fit = (one.fit, rest.fit);
      are = ap (λ (t : List ℕ). t ∷ texts) one.is ∙ ap (λ (ts : List (List ℕ)). chunk one.parts ∷ ts) rest.are;
      make = built-append one.parts (flat_map (λ some. some) rest.chunks) state ∙ ap (λ (q : Result State WireFault). q >>= λ next. built (flat_map (λ some. some) rest.chunks) next) one.make ∙ rest.make;
    }
