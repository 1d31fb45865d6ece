-- What was told so far of a store.
use Rattle.std.proofs.Common.{◌≡◌, ℕ, List, [], ◌∷◌, ◌++◌, map, Option, Ok, refl, sym, ◌∙◌, ap, subst, append_assoc, append-nil}
use Rattle.std.specs.List.{AllByRecursion, flat_map}
use Rattle.std.specs.Io.KnownBytes.{Appends}
use Rattle.std.proofs.KnownBytes.{Appends-nil, Appends-trans}
use Rattle.cq_store.specs.Stands.{StoreKept}
use Rattle.cq_store_wire.specs.declared.part.Part.{Part}
use Rattle.cq_store_wire.specs.declared.build.State.TheVariants as states
use Rattle.cq_store_wire.specs.declared.writer.Place.{Place}
use Rattle.cq_store_wire.specs.declared.writer.Place.TheVariants as places
use Rattle.cq_store_wire.specs.Building.{all_fed, built}
use Rattle.cq_store_wire.specs.Chunks.{IsChunk}
use Rattle.cq_store_wire.specs.Laws.{IsStore}
use Rattle.cq_store_wire.specs.Layout.{chunk}
use Rattle.cq_store_wire.specs.Limits.{IsPart}
use Rattle.cq_store_wire.specs.Order.{parts_from, parts_of}
use Rattle.cq_store_wire.proofs.Chunked.{chunks-fed}
use Rattle.cq_store_wire.proofs.Rebuilt.{store-built}
use Rattle.cq_kept_run.specs.within.Told.{TellsStore, chunk_line, chunk_lines}

-- these chunks were, and the parts from this place on are left
pub record IsToldSoFar (kept : StoreKept) (known : List (List ℕ)) (place : Place) (before now : Option (List ℕ)) : Type 0 where
  pub chunks : List (List Part)
  pub fit : AllByRecursion (AllByRecursion IsPart) chunks
  pub order : parts_of kept ≡ flat_map (λ some. some) chunks ++ parts_from kept known place
  pub text : Appends before now (chunk_lines (map chunk chunks))

flat_more : (chunks : List (List Part)) (some : List Part) → flat_map (λ ps. ps) (chunks ++ some ∷ []) ≡ flat_map (λ ps. ps) chunks ++ some
flat_more [] some = append-nil some
flat_more (c ∷ chunks) some = ap (λ (ps : List Part). c ++ ps) (flat_more chunks some) ∙ sym (append_assoc c (flat_map (λ ps. ps) chunks) some)

fit_more : (chunks : List (List Part)) (some : List Part) → AllByRecursion (AllByRecursion IsPart) chunks → AllByRecursion IsPart some → AllByRecursion (AllByRecursion IsPart) (chunks ++ some ∷ [])
fit_more [] some fit here = (here, tt)
fit_more (c ∷ chunks) some fit here = (fit.0, fit_more chunks some fit.1 here)

lines_more : (chunks : List (List Part)) (some : List Part) → chunk_lines (map chunk (chunks ++ some ∷ [])) ≡ chunk_lines (map chunk chunks) ++ chunk_line (chunk some)
lines_more [] some = append-nil (chunk_line (chunk some))
lines_more (c ∷ chunks) some = ap (λ (l : List ℕ). chunk_line (chunk c) ++ l) (lines_more chunks some) ∙ sym (append_assoc (chunk_line (chunk c)) (chunk_lines (map chunk chunks)) (chunk_line (chunk some)))

none_told : (kept : StoreKept) (before : Option (List ℕ)) → IsToldSoFar kept [] places.Start before before
unfolding parts_from parts_of
none_told kept before = record { chunks = []; fit = tt; order = refl; text = Appends-nil before }

pub begun : (kept : StoreKept) (known : List (List ℕ)) (place : Place) (before : Option (List ℕ)) → place ≡ places.Start → known ≡ [] → IsToldSoFar kept known place before before
begun kept known place before first none =
    subst (λ (q : Place). IsToldSoFar kept known q before before) (sym first)
    (subst (λ (ks : List (List ℕ)). IsToldSoFar kept ks places.Start before before) (sym none) (none_told kept before))

-- a chunk more was told
pub chunk_told : (kept : StoreKept) (known later : List (List ℕ)) (place next : Place) (before now then : Option (List ℕ)) (nothing one bytes : List ℕ) → nothing ≡ [] → bytes ≡ nothing ++ one
    → IsToldSoFar kept known place before now → IsChunk (parts_from kept known place) (parts_from kept later next) one → Appends now then (chunk_line bytes) → IsToldSoFar kept later next before then
chunk_told kept known later place next before now then nothing one bytes none all t c more =
    let is : bytes ≡ chunk c.some = all ∙ ap (λ (l : List ℕ). l ++ one) none ∙ c.written in
    record {
      chunks = t.chunks ++ c.some ∷ [];
      fit = fit_more t.chunks c.some t.fit c.fit;
      order = t.order ∙ ap (λ (ps : List Part). flat_map (λ some. some) t.chunks ++ ps) c.order
          ∙ sym (append_assoc (flat_map (λ some. some) t.chunks) c.some (parts_from kept later next))
          ∙ ap (λ (ps : List Part). ps ++ parts_from kept later next) (sym (flat_more t.chunks c.some));
      text = subst (λ (l : List ℕ). Appends before then l) (sym (lines_more t.chunks c.some))
          (Appends-trans before now then _ _ t.text (subst (λ (l : List ℕ). Appends now then (chunk_line l)) is more));
    }

-- all were
pub all_told : (kept : StoreKept) (known : List (List ℕ)) (place : Place) (before now : Option (List ℕ)) → IsStore kept → place ≡ places.End → IsToldSoFar kept known place before now → TellsStore kept before now
unfolding parts_from
all_told kept known place before now sound end t =
    let are : flat_map (λ some. some) t.chunks ≡ parts_of kept =
    sym (t.order ∙ ap (λ (q : Place). flat_map (λ some. some) t.chunks ++ parts_from kept known q) end ∙ append-nil (flat_map (λ some. some) t.chunks)) in
    record {
      chunks = t.chunks;
      text = t.text;
      reads = chunks-fed t.chunks states.Empty t.fit ∙ ap (λ (ps : List Part). built ps states.Empty) are ∙ store-built kept sound;
    }
