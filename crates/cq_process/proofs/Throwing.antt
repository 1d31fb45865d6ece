-- Messages that are put one after another, and thrown away.
use Rattle.std.proofs.Common.{◌≡◌, ℕ, ◌+◌, ◌∙◌, ap, sym, refl, subst, cond, List, [], ◌∷◌, ◌++◌, length, length-append, map, Bool, true, false, Option, Some, None, arith}
use Rattle.cq_base.specs.declared.party.Party.{Party}
use Rattle.cq_chain.specs.declared.message.Message as rust
use Rattle.cq_chain.specs.declared.server.Server as rust_server
use Rattle.cq_chain.specs.Messages.{Message}
use Rattle.cq_chain.specs.Parties.{same}
use Rattle.cq_chain.specs.Servers.{Server}
use Rattle.cq_chain.specs.Stands as chain
use Rattle.cq_chain.specs.Stands.{IsFirst, drained}
use Rattle.cq_events.specs.Actions.{Action, Put, CoreState, behind, Heads, StandsAs}
use Rattle.cq_events.specs.Acts.{ServerActs}
use Rattle.cq_events.proofs.Parties.{same-refl}
use Rattle.cq_process.specs.Outgoing.{End}
use Rattle.cq_process.specs.Putting.{Passes, StandsWith, Throws, with_back}
use Rattle.cq_process.proofs.Cores.{passes-kept, put-done}

-- the puts of such messages
abbrev pub puts_of : Party → List rust.Message → List Action
puts_of to ms = map (λ x. Put to x) ms

acts-both : (to : Party) (ms ns : List rust.Message) (a b c : CoreState rust_server.Server) → ServerActs a (puts_of to ms) b → ServerActs b (puts_of to ns) c → ServerActs a (puts_of to (ms ++ ns)) c
acts-both to [] [] a b c h k = λ s outbox i. k s outbox (h s outbox i)
acts-both to [] (n ∷ ns) a b c h k = (k.0, ((λ s outbox i. k.1.0 s outbox (h s outbox i)), tt), k.2)
acts-both to (m ∷ ms) ns a b c h k = (h.0, h.1, acts-both to ms ns h.0 b c h.2 k)

-- what is stood for behind them
acts-stand : (to : Party) (ms : List rust.Message) (a b : CoreState rust_server.Server) → ServerActs a (puts_of to ms) b → (s : Server) (outbox : Party → List Message) → StandsAs a s outbox → (box : Party → List Message) × StandsAs b s box
acts-stand to [] a b h s outbox i = (outbox, h s outbox i)
acts-stand to (m ∷ ms) a b h s outbox i = acts-stand to ms h.0 b h.2 s (drained outbox to) (h.1.0 s outbox i).1

back_here : (back : Party → Option rust.Message) (to : Party) (o : Option rust.Message) → with_back back to o to ≡ o
back_here back to o = ap (λ t. cond t o (back to)) (same-refl to)

back_twice : (back : Party → Option rust.Message) (to : Party) (o u : Option rust.Message) (p : Party) → with_back (with_back back to o) to u p ≡ with_back back to u p
back_twice back to o u p = go (same p to) where
  go : (t : Bool) → cond t u (cond t o (back p)) ≡ cond t u (back p)
  go true = refl
  go false = refl

pub throws-none : (core : rust_server.Server) (to : Party) (e : End) → Throws core core to e e
throws-none core to e = record { messages = []; number = omega arith; puts = λ back is. passes-kept core back to e.held is }

pub throws-more : (a b c : rust_server.Server) (to : Party) (x y z : End) → Throws a b to x y → Throws b c to y z → Throws a c to x z
throws-more a b c to x y z h k = record {
  messages = h.messages ++ k.messages;
  number = let more = length-append h.messages k.messages in let one = h.number in let two = k.number in omega arith;
  puts = λ back is. acts-both to h.messages k.messages (record { core = a; back = back }) (record { core = b; back = with_back back to y.held }) (record { core = c; back = with_back back to z.held }) (h.puts back is)
      (subst (λ bk. ServerActs (record { core = b; back = with_back back to y.held }) (puts_of to k.messages) (record { core = c; back = bk })) (λ i p. back_twice back to y.held z.held p i) (k.puts (with_back back to y.held) (back_here back to y.held)));
}

-- the message that is held is put, if one is
pub throws-held : (a b : rust_server.Server) (to : Party) (before after : End) (o : Option rust.Message) → ((back : Party → Option rust.Message) → back to ≡ before.held → Passes a b back to o)
    → ((x : rust.Message) → o ≡ Some x → after.put ≡ before.put + 1) → (o ≡ None → after.put ≡ before.put) → after.held ≡ None → Throws a b to before after
throws-held a b to before after (Some m) passes some none held = record {
  messages = m ∷ [];
  number = some m refl;
  puts = λ back is. subst (λ o. ServerActs (record { core = a; back = back }) (Put to m ∷ []) (record { core = b; back = with_back back to o })) (sym held) (one back is);
} where
  one : (back : Party → Option rust.Message) → back to ≡ before.held → ServerActs (record { core = a; back = back }) (Put to m ∷ []) (record { core = b; back = with_back back to None })
  one back is = (record { core = b; back = with_back back to None }, put-done a b back to m (passes back is), λ s outbox i. i)
throws-held a b to before after None passes some none held = record {
  messages = [];
  number = let same = none refl in omega arith;
  puts = λ back is. subst (λ o. Passes a b back to o) (sym held) (passes back is);
}

-- where none was held and the core's outbox is empty, nothing waits
pub none-waits : (core : rust_server.Server) (back : Party → Option rust.Message) (held : Option rust.Message) (to : Party) (s : Server) (outbox : Party → List Message) → held ≡ None → StandsWith core back held to s outbox
    → ((t : Server) (box : Party → List Message) → chain.StandsFor core t box → box to ≡ []) → outbox to ≡ []
none-waits core back held to s outbox none w empty = subst (λ o. behind o (outbox to) ≡ []) (w.0 ∙ none) (empty s (λ p. behind (back p) (outbox p)) w.1.0)

-- it counts where something waits
pub counts-held : (core : rust_server.Server) (held o : Option rust.Message) (to : Party) (before after : ℕ) → (o ≡ None → held ≡ None) → (o ≡ None → (t : Server) (box : Party → List Message) → chain.StandsFor core t box → box to ≡ [])
    → ((x : rust.Message) → o ≡ Some x → after ≡ before + 1) → (back : Party → Option rust.Message) (s : Server) (outbox : Party → List Message) → StandsWith core back held to s outbox → (outbox to ≡ [] → ⊥) → after ≡ before + 1
counts-held core held (Some m) to before after none empty some back s outbox w waits = some m refl
counts-held core held None to before after none empty some back s outbox w waits = absurd (waits (none-waits core back held to s outbox (none refl) w (empty refl)))

-- a message that is held is one that waits
pub held-waits : (core : rust_server.Server) (back : Party → Option rust.Message) (held : Option rust.Message) (m : rust.Message) (to : Party) (s : Server) (outbox : Party → List Message) → held ≡ Some m → StandsWith core back held to s outbox → outbox to ≡ [] → ⊥
held-waits core back held m to s outbox is w empty = subst (λ box. IsFirst (Some m) box) empty (subst (λ o. Heads o (outbox to)) (w.0 ∙ is) (w.1.1 to))

-- what waits in the core's outbox, where none is held
pub core-waits : (core : rust_server.Server) (back : Party → Option rust.Message) (held : Option rust.Message) (to : Party) (s : Server) (outbox : Party → List Message) (n : ℕ) → held ≡ None → StandsWith core back held to s outbox
    → ((t : Server) (box : Party → List Message) → chain.StandsFor core t box → n ≡ length (box to)) → n ≡ length (outbox to)
core-waits core back held to s outbox n none w count = subst (λ o. n ≡ length (behind o (outbox to))) (w.0 ∙ none) (count s (λ p. behind (back p) (outbox p)) w.1.0)

-- The core stands for something with what is held, and so many were put, as long as it stood for something at first.
abbrev pub Counts : rust_server.Server → rust_server.Server → Party → End → End → ℕ → Type 0
Counts a b to before after count = (back : Party → Option rust.Message) (s : Server) (outbox : Party → List Message) → StandsWith a back before.held to s outbox → count ≡ after.put

pub counts-more : (a b c : rust_server.Server) (to : Party) (x y z : End) (count : ℕ) → Throws a b to x y → Counts a b to x y count
    → ((back : Party → Option rust.Message) (s : Server) (outbox : Party → List Message) → StandsWith b back y.held to s outbox → z.put ≡ y.put + 1) → Counts a c to x z (count + 1)
counts-more a b c to x y z count thrown so_far one back s outbox w =
    let stands = acts-stand to thrown.messages (record { core = a; back = back }) (record { core = b; back = with_back back to y.held }) (thrown.puts back w.0) s outbox w.1 in
    let there : StandsWith b (with_back back to y.held) y.held to s stands.0 = (back_here back to y.held, stands.1) in
    let before = so_far back s outbox w in
    let now = one (with_back back to y.held) s stands.0 there in
    omega arith
