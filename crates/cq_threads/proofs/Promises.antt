-- What comes back from threads that kept what they promised.
use Rattle.std.proofs.Common.{◌≡◌, ◌<◌, ℕ, ◌∙◌, ap, sym, refl, subst, List, length, map, slice_get, Option, Some, None}
use Rattle.std.proofs.lemmas.List.{length-map}
use Rattle.std.proofs.lemmas.Option.{same_Some, none-some, slice_get_within, slice_get-map, get_or_from_slice_get}
use Rattle.std.specs.declared.thread.Promise as Promise
use Rattle.std.specs.declared.thread.PromisedHandle.{PromisedHandle}
use Rattle.std.specs.Option.{option_map}
use Rattle.std.specs.PromisedHandle.{KeepsEach}
use Rattle.cq_nodes.specs.Nodes.{Held, IsSameServer}
use Rattle.cq_threads.specs.SameNodes.{AreSame}

-- the result at a place keeps the promise of the thread there
pub kept_at : {T P : Type 0} (g : Promise.Ghosts P T) (n : ℕ) (threads : List (PromisedHandle T P)) (results : List T) → n ≡ length threads → KeepsEach g n threads results
    → (place : ℕ) (thread : PromisedHandle T P) (result : T) → slice_get threads place ≡ Some thread → slice_get results place ≡ Some result → g.kept_by thread.promise result
kept_at g n threads results count each place thread result here there =
    let one = (each place result (subst (λ m. place < m) (sym count) (slice_get_within threads place thread here))).1 in
    subst (λ t. g.kept_by t.promise result) (one.handle_is ∙ get_or_from_slice_get threads place thread one.handle here)
    (subst (λ r. g.kept_by one.handle.promise r) (get_or_from_slice_get results place result result there) one.kept)

-- so the nodes are the same at each place
pub same_each : {H P T I L M N : Type 0} (put : P → L) (taken : T → M) (got : I → N) (was : H → Held P T I) (threads : List H) (nodes : List (Held P T I)) → length nodes ≡ length threads
    → ((place : ℕ) (thread : H) (node : Held P T I) → slice_get threads place ≡ Some thread → slice_get nodes place ≡ Some node → IsSameServer put taken got (was thread) node)
    → AreSame put taken got (map was threads) nodes
same_each {H} {P} {T} {I} put taken got was threads nodes count each = record {
  all = count ∙ sym (length-map threads was);
  each = λ place a b here there. go place a b (slice_get threads place) refl (sym (slice_get-map was threads place) ∙ here) there;
} where
  go : (place : ℕ) (a b : Held P T I) (o : Option H) → slice_get threads place ≡ o → option_map was o ≡ Some a → slice_get nodes place ≡ Some b → IsSameServer put taken got a b
  go place a b None none here there = absurd (none-some a here)
  go place a b (Some thread) is here there = subst (λ x. IsSameServer put taken got x b) (same_Some (was thread) a here) (each place thread b is there)
