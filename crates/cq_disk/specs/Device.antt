-- What the calls of a device do to its bytes, and what a crash may leave of them.
use Rattle.std.specs.Prelude.{◌≡◌, ◌⊎◌, ◌<◌, ◌≤◌, ℕ, ◌+◌, List, [], ◌∷◌, ◌++◌, length, take, drop, Result, IsErrOf, ⊤}
use Rattle.cq_disk.specs.declared.fault.DeviceFault.{DeviceFault}
use Rattle.cq_disk.specs.declared.fault.DeviceFault.TheVariants.{Failed}
use Rattle.cq_disk.specs.declared.device.TornWrites.{TornWrites}
use Rattle.cq_disk.specs.declared.device.TornWrites.TheVariants.{OldOrNew}

-- new is old with these bytes from this place on
abbrev pub Overlaid : List ℕ → ℕ → List ℕ → List ℕ → Type 0
Overlaid old at bytes new = new ≡ take at old ++ (bytes ++ drop (at + length bytes) old)

-- each byte is the one that was there, or the one that was written
abbrev pub EachOldOrNew : List ℕ → List ℕ → List ℕ → Type 0
EachOldOrNew [] [] [] = ⊤
EachOldOrNew (o ∷ os) (b ∷ bs) (c ∷ cs) = ((c ≡ o) ⊎ (c ≡ b)) × EachOldOrNew os bs cs
EachOldOrNew os bs cs = ⊥

-- After a write that a crash cuts short: nothing changes but its range, which has what is supposed of torn writes.
pub record Torn (tearing : TornWrites) (at : ℕ) (bytes old new : List ℕ) : Type 0 where
  pub within : at + length bytes ≤ length old
  pub range : List ℕ
  pub long : length range ≡ length bytes
  pub each : tearing ≡ OldOrNew → EachOldOrNew (take (length bytes) (drop at old)) bytes range
  pub is : new ≡ take at old ++ (range ++ drop (at + length bytes) old)

-- each outcome of a crash after the step comes from an outcome before it
abbrev pub Follows : (List ℕ → List ℕ → Type 0) → (List ℕ → Type 0) → (List ℕ → Type 0) → Type 0
Follows step old new = (c : List ℕ) → new c → (d : List ℕ) × old d × step d c

-- a crash leaves these bytes and no others
abbrev pub Only : List ℕ → (List ℕ → Type 0) → Type 0
Only bytes outcomes = (c : List ℕ) → outcomes c → c ≡ bytes

-- Time goes on: since t a crash might have left what it might have left before, or what it may leave now.
pub record Elapses (before now : ℕ) (past since : ℕ → List ℕ → Type 0) (may_leave : List ℕ → Type 0) : Type 0 where
  pub later : before ≤ now
  pub nothing_else : (t : ℕ) (c : List ℕ) → t ≤ before → since t c → past t c ⊎ may_leave c
  pub keeps : (t : ℕ) (c : List ℕ) → t ≤ before → past t c → since t c

-- A crash at any moment since old leaves bytes that have P.
pub record LeavesOnly {D : Type 0} (moment : D → ℕ) (left_since : D → ℕ → List ℕ → Type 0) (old new : D) (P : List ℕ → Type 0) : Type 0 where
  pub later : moment old ≤ moment new
  pub each : (c : List ℕ) → left_since new (moment old) c → P c
  -- of a run of calls that began before old
  pub before : (t : ℕ) (c : List ℕ) → t ≤ moment old → left_since new t c → left_since old t c ⊎ P c

-- `Failed` is told only where a call has failed
pub record HasCause {T : Type 0} (before now : ℕ) (result : Result T DeviceFault) : Type 0 where
  pub later : before ≤ now
  pub failed : IsErrOf result Failed → before < now
