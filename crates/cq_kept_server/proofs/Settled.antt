-- What was added is kept, and a base takes the place of all.
use Rattle.std.proofs.Common.{◌≡◌, ◌⊎◌, ⊎_elim, ℕ, List, [], ◌∷◌, ◌++◌, None, refl, sym, ◌∙◌, ap, subst, append-nil}
use Rattle.std.specs.Prelude.{IsTrue}
use Rattle.cq_base.specs.declared.ask.Entry.{Entry}
use Rattle.cq_base.specs.declared.party.Party.{Party}
use Rattle.cq_chain.specs.declared.server.Server as rust_server
use Rattle.cq_chain.specs.Messages.{Message}
use Rattle.cq_chain.specs.Servers as states
use Rattle.cq_chain.specs.Stands as chain
use Rattle.cq_disk.specs.Device.{LeavesOnly}
use Rattle.cq_disk.specs.declared.device.Device.{Ghosts}
use Rattle.cq_disk.proofs.Moments.{weakened}
use Rattle.cq_events.specs.Actions.{behind}
use Rattle.cq_kept_entries.specs.declared.kept.KeptEntries.{KeptEntries}
use Rattle.cq_kept_entries.specs.Kept.{BytesStandFor, HasAdded, StandsFor, added_text, entries_device, entries_half, entries_len}
use Rattle.cq_kept_entries.specs.Pieces.{At, Stage, listing}
use Rattle.cq_kept_server.specs.Keeping.{Grows, GrowsBy, LeavesAtLeast, LeavesFront, StopsAt, moments_on, none_comes}
use Rattle.cq_kept_server.specs.Servers.{Has, HasEntries, State, device_of, half_of, len_of}
use Rattle.cq_kept_server.proofs.Moments.{all_front, kept_front, prefix_more, prefix_self, still_added}
use Rattle.cq_process_laws.specs.Runs as runs
use Rattle.cq_server_copies.specs.declared.saving.SavingProcess.{SavingProcess}
use Rattle.cq_store.specs.Stands as stores

-- the store stands for whatever entries the server has
abbrev pub HoldsEntries : rust_server.Server → stores.StoreKept → Type 0
HoldsEntries core store = (s : states.Server) (outbox : Party → List Message) → chain.StandsFor core s outbox → stores.StandsFor store s.entries

store-has : (process : SavingProcess) (store : stores.StoreKept) (all : List Entry) → HoldsEntries process.process.core store → HasEntries process all → stores.StandsFor store all
store-has process store all holds h =
    subst (λ (l : List Entry). stores.StandsFor store l) h.entries (holds h.server (λ to. behind ((runs.core_of (runs.state_of process.process)).back to) (h.outbox to)) h.stands.0)

-- the entries that were listed
abbrev listed : Stage → List Entry
listed (listing base entries) = entries
listed other = []

module _ {D : Type 0} {g : Ghosts D} where
  -- where no bytes were added, no entries were
  pub none_waits : (kept : KeptEntries D g) (rest : List Entry) → HasAdded kept [] → HasAdded kept rest → rest ≡ []
  none_waits kept rest none some = ap (λ (a : At). listed a.stage) (sym (some None []) ∙ none None [])

  abbrev Honest : State D g → Type 0
  Honest s = IsTrue (g.is_honest (device_of s))

  -- what a commit does
  pub record Commits (a b : KeptEntries D g) : Type 0 where
    pub half : entries_half b ≡ entries_half a
    pub len : entries_len b ≡ entries_len a
    pub stands : IsTrue (g.is_honest (entries_device b)) → (all more : List Entry) → StandsFor a all → HasAdded a more → StandsFor b (all ++ more)
    pub settled : HasAdded b []

  -- and at each moment of it, however it ends
  pub record Committing (a b : KeptEntries D g) : Type 0 where
    pub honest : IsTrue (g.is_honest (entries_device b)) → IsTrue (g.is_honest (entries_device a))
    pub moments : IsTrue (g.is_honest (entries_device b)) → (all more : List Entry) → StandsFor a all → HasAdded a more
        → LeavesOnly g.moment g.left_since (entries_device a) (entries_device b) (λ c. BytesStandFor (entries_half a) (entries_len a) c all ⊎ BytesStandFor (entries_half a) (entries_len a) c (all ++ more))

  pub commit_leaves : (p q : State D g) (first rest : List Entry) → Committing p.kept q.kept → Honest q → Has p first rest → LeavesAtLeast p q first (first ++ rest)
  commit_leaves p q first rest does honest has =
      weakened g.moment g.left_since (device_of p) (device_of q) _ (LeavesFront (half_of p) (len_of p) first (first ++ rest)) (does.moments honest first rest has.kept has.added)
      (λ c either. ⊎_elim (kept_front (half_of p) (len_of p) first rest c) (all_front (half_of p) (len_of p) first rest c) either)

  pub commit_grows : (p q : State D g) → q.process ≡ p.process → Commits p.kept q.kept → Committing p.kept q.kept → GrowsBy p q none_comes
  commit_grows p q same commits does = record {
    half = commits.half;
    len = commits.len;
    honest = does.honest;
    grows = λ honest first rest has. (
      [],
      (
        refl,
        record {
          kept = first ++ rest;
          added = [];
          has = record {
            server = subst (λ (l : List Entry). HasEntries q.process l) (sym (append-nil (first ++ rest))) (subst (λ it. HasEntries it (first ++ rest)) (sym same) has.server);
            kept = commits.stands honest first rest has.kept has.added;
            added = commits.settled;
          };
          all = refl;
          more = prefix_more first rest;
          moments = subst (λ (l : List Entry). LeavesAtLeast p q first l) (sym (append-nil (first ++ rest))) (commit_leaves p q first rest does honest has);
        },
      ),
    );
  }

  pub commit_stops : (p q : State D g) → Committing p.kept q.kept → StopsAt p q
  commit_stops p q does = record { honest = does.honest; leaves = λ honest first rest has. commit_leaves p q first rest does honest has }

  -- what a rewrite does with a store
  pub record Rewrites (store : stores.StoreKept) (a b : KeptEntries D g) : Type 0 where
    pub half : entries_half b ≡ entries_half a
    pub len : entries_len b ≡ entries_len a
    pub stands : IsTrue (g.is_honest (entries_device b)) → (all : List Entry) → StandsFor a all → stores.StandsFor store all → StandsFor b all

  -- and at each moment of it, however it ends
  pub record Rewriting (store : stores.StoreKept) (a b : KeptEntries D g) : Type 0 where
    pub honest : IsTrue (g.is_honest (entries_device b)) → IsTrue (g.is_honest (entries_device a))
    pub added : added_text b ≡ added_text a
    pub moments : IsTrue (g.is_honest (entries_device b)) → (all : List Entry) → StandsFor a all → stores.StandsFor store all
        → LeavesOnly g.moment g.left_since (entries_device a) (entries_device b) (λ c. BytesStandFor (entries_half a) (entries_len a) c all)

  rewrite_leaves : (p q : State D g) (store : stores.StoreKept) (first rest : List Entry) → HasAdded p.kept [] → HoldsEntries p.process.process.core store → Rewriting store p.kept q.kept → Honest q → Has p first rest → LeavesAtLeast p q first (first ++ rest)
  rewrite_leaves p q store first rest settled holds does honest has =
      let none : rest ≡ [] = none_waits p.kept rest settled has.added in
      let all_is : first ++ rest ≡ first = ap (λ (l : List Entry). first ++ l) none ∙ append-nil first in
      let stands : stores.StandsFor store first = subst (λ (l : List Entry). stores.StandsFor store l) all_is (store-has p.process store (first ++ rest) holds has.server) in
      weakened g.moment g.left_since (device_of p) (device_of q) _ (LeavesFront (half_of p) (len_of p) first (first ++ rest)) (does.moments honest first has.kept stands) (kept_front (half_of p) (len_of p) first rest)

  rewrite_grows : (p q : State D g) (store : stores.StoreKept) → q.process ≡ p.process → HasAdded p.kept [] → HoldsEntries p.process.process.core store → Rewrites store p.kept q.kept → Rewriting store p.kept q.kept → GrowsBy p q none_comes
  rewrite_grows p q store same settled holds rewrites does = record {
    half = rewrites.half;
    len = rewrites.len;
    honest = does.honest;
    grows = λ honest first rest has.
        let none : rest ≡ [] = none_waits p.kept rest settled has.added in
        let all_is : first ++ rest ≡ first = ap (λ (l : List Entry). first ++ l) none ∙ append-nil first in
        let stands : stores.StandsFor store first = subst (λ (l : List Entry). stores.StandsFor store l) all_is (store-has p.process store (first ++ rest) holds has.server) in (
          [],
          (
            refl,
            record {
              kept = first;
              added = rest;
              has = record { server = subst (λ it. HasEntries it (first ++ rest)) (sym same) has.server; kept = rewrites.stands honest first has.kept stands; added = still_added p.kept q.kept rest does.added has.added };
              all = sym (append-nil (first ++ rest));
              more = prefix_self first;
              moments = rewrite_leaves p q store first rest settled holds does honest has;
            },
          ),
        );
  }

  -- a fault behind a call that ended well
  stops_behind : (p q r : State D g) → GrowsBy p q none_comes → (Honest r → Honest q) → (Honest r → (first rest : List Entry) → Has q first rest → LeavesAtLeast q r first (first ++ rest)) → StopsAt p r
  stops_behind p q r grown back leaves = record {
    honest = λ honest. grown.honest (back honest);
    leaves = λ honest first rest has.
        let one = (grown.grows (back honest) first rest has) in
        let it : Grows p q first rest [] = subst (λ (l : List Entry). Grows p q first rest l) one.1.0 one.1.1 in
        let all : it.kept ++ it.added ≡ first ++ rest = it.all ∙ append-nil (first ++ rest) in
        subst (λ (l : List Entry). LeavesAtLeast p r first l) all
        (moments_on p q r first it.kept (it.kept ++ it.added) (it.kept ++ it.added) grown.half grown.len it.more (prefix_self (it.kept ++ it.added)) it.moments (leaves honest it.kept it.added it.has));
  }

  -- a rewrite behind a commit
  pub both_grow : (p q r : State D g) (store : stores.StoreKept) → q.process ≡ p.process → r.process ≡ q.process → HoldsEntries q.process.process.core store → Commits p.kept q.kept → Committing p.kept q.kept
      → Rewrites store q.kept r.kept → Rewriting store q.kept r.kept → (GrowsBy p q none_comes) × (GrowsBy q r none_comes)
  both_grow p q r store one two holds commits committing rewrites rewriting =
      (commit_grows p q one commits committing, rewrite_grows q r store two commits.settled holds rewrites rewriting)

  pub rewrite_stops : (p q r : State D g) (store : stores.StoreKept) → q.process ≡ p.process → HoldsEntries q.process.process.core store → Commits p.kept q.kept → Committing p.kept q.kept → Rewriting store q.kept r.kept → StopsAt p r
  rewrite_stops p q r store one holds commits committing rewriting =
      stops_behind p q r (commit_grows p q one commits committing) rewriting.honest
      (λ honest first rest has. rewrite_leaves q r store first rest commits.settled holds rewriting honest has)
