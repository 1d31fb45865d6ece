-- So far as many entries as turns are taken from the front.
use Rattle.std.proofs.Common.{◌≡◌, ◌≤◌, drop}
use Rattle.std.specs.VecDeque.{deque_len}
use Rattle.cq_store.specs.Stands.{count_of}
use Rattle.cq_chain.proofs.replica.Replica.forget.Given as goal

abbrev pub invariant-loop : goal.invariant-loop
invariant-loop l = record {
  store : l.self-inside.store ≡ l.initial.self-inside.store;
  after : l.self-inside.entries.items ≡ drop l.counter l.initial.self-inside.entries.items;
  fits : deque_len l.self-inside.entries ≤ count_of l.self-inside.store;
}
