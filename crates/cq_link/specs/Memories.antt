-- What a contract sees of the ends over memory.
use Rattle.std.specs.Prelude.{List, map}
use Rattle.cq_link.specs.declared.memory.MemoryPut.{MemoryPut}
use Rattle.cq_link.specs.declared.memory.MemoryTake.{MemoryTake}

module _ {T : Type 0} where
  -- what was put so far, in order
  abbrev pub memory_put : MemoryPut T → List T
  memory_put end = map (λ seen. seen.value) end.log.items

  -- what was taken so far, in order
  abbrev pub memory_taken : MemoryTake T → List T
  memory_taken end = map (λ seen. seen.value) end.log.items
