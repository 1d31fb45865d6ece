-- Nodes that come back with ends of the links that they were made with.
use Rattle.std.specs.Prelude.{◌≡◌, ℕ, List, length, slice_get, Some}
use Rattle.cq_nodes.specs.Nodes.{Held, IsSameServer}

module _ {P T I L M N : Type 0} (put : P → L) (taken : T → M) (got : I → N) where
  -- at each place the node of the same server
  pub record AreSame (old new : List (Held P T I)) : Type 0 where
    pub all : length new ≡ length old
    pub each : (place : ℕ) (a b : Held P T I) → slice_get old place ≡ Some a → slice_get new place ≡ Some b → IsSameServer put taken got a b
