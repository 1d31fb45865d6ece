-- Sessions and the stores by which they can be begun again.
use Rattle.std.proofs.Common.{◌≡◌, ℕ, ap, refl, sym, subst, List, [], Option, Some, None}
use Rattle.std.specs.Prelude.{IfSome}
use Rattle.cq_base.specs.declared.ask.Entry.{Entry}
use Rattle.cq_events.specs.Worlds.{IsAlone, World, first_world}
use Rattle.cq_lines.specs.Progress.{HasRead, Progress, lines_read, with_earlier}
use Rattle.cq_lines.specs.declared.limits.Limits.{Limits}
use Rattle.cq_store.specs.Stands as stores
use Rattle.cq_world.specs.Stands.{StandsFor}
use Rattle.cq_world.specs.declared.sim.Sim.{Sim}
use Rattle.cq_script.specs.Lines.{session_grammar}
use Rattle.cq_script.specs.Output.{text_of}
use Rattle.cq_script.specs.Resumed.{HasRun, IsBaseOf}
use Rattle.cq_script.specs.declared.resumed.ResumedSession.{ResumedSession}
use Rattle.cq_script.specs.declared.script_line.ScriptLine.{ScriptLine}
use Rattle.cq_script.specs.within.Played.{IsPlayed, after_lines, session_limits}

-- ---- readers between lines

abbrev progress-by : Limits → List ScriptLine → ℕ → List ℕ → Progress ScriptLine
progress-by limits values lines partial = record { limits = limits; values = values; lines = lines; partial = partial }

read-by : (limits : Limits) (values : List ScriptLine) (lines : ℕ) (partial : List ℕ) → limits ≡ session_limits → values ≡ [] → partial ≡ [] → progress-by limits values lines partial ≡ lines_read session_limits lines
read-by limits values lines partial a b c = rw a (rw b (rw c refl))

-- all that the reader knows is the number of lines
pub between-lines : (progress : Progress ScriptLine) → progress.limits ≡ session_limits → progress.values ≡ [] → progress.partial ≡ [] → progress ≡ lines_read session_limits progress.lines
between-lines progress = read-by progress.limits progress.values progress.lines progress.partial

-- ---- bases

-- what was run is run by a session whose reader and sim stand where a base leads
pub played-behind : (size : ℕ) (store : stores.StoreKept) (count : ℕ) (bytes : List ℕ) (progress : Progress ScriptLine) (sim : Sim) (base : IsBaseOf size store count bytes)
    → progress ≡ lines_read session_limits count → StandsFor sim (after_lines (first_world size) base.lines) → IsPlayed session_grammar session_limits size bytes progress sim (text_of size base.lines)
played-behind size store count bytes progress sim base is stands = record {
  lines = base.lines;
  none_left = ap (λ (p : Progress ScriptLine). p.values) is;
  read = subst (λ p. HasRead session_grammar session_limits bytes (with_earlier base.lines p)) (sym is) base.read;
  stands = stands;
  text = refl;
}

-- a session between lines whose world is that of a server alone has such a base
pub base-of : (size : ℕ) (store : stores.StoreKept) (bytes : List ℕ) (progress : Progress ScriptLine) (sim : Sim) (written : List ℕ) (played : IsPlayed session_grammar session_limits size bytes progress sim written)
    → progress ≡ lines_read session_limits progress.lines
    → ((entries : List Entry) × stores.StandsFor store entries × IsAlone entries (after_lines (first_world size) played.lines)) → IsBaseOf size store progress.lines bytes
base-of size store bytes progress sim written played is alone = record {
  lines = played.lines;
  read = subst (λ p. HasRead session_grammar session_limits bytes (with_earlier played.lines p)) is played.read;
  entries = alone.0;
  stands = alone.1;
  alone = alone.2;
}

-- ---- the store that is given, if one is

pub base-if : (size : ℕ) (bytes : List ℕ) (session : ResumedSession) (ran : HasRun size bytes session) (o : Option stores.StoreKept) → session.lines ≡ lines_read session_limits session.lines.lines
    → IfSome o (λ store. (entries : List Entry) × stores.StandsFor store entries × IsAlone entries (after_lines (first_world size) ran.played.lines)) → IfSome o (λ store. IsBaseOf size store session.lines.lines bytes)
base-if size bytes session ran None is alone = tt
base-if size bytes session ran (Some store) is alone = base-of size store bytes session.lines session.sim ran.written ran.played is alone

pub again-if : (size : ℕ) (bytes : List ℕ) (session : ResumedSession) (o : Option stores.StoreKept) → session.lines ≡ lines_read session_limits session.lines.lines
    → IfSome o (λ store. (entries : List Entry) (w : World) → stores.StandsFor store entries → IsAlone entries w → StandsFor session.sim w)
    → IfSome o (λ store. IsBaseOf size store session.lines.lines bytes → HasRun size bytes session)
again-if size bytes session None is stands = tt
again-if size bytes session (Some store) is stands = λ base. record {
  written = text_of size base.lines;
  played = played-behind size store session.lines.lines bytes session.lines session.sim base is (stands base.entries (after_lines (first_world size) base.lines) base.stands base.alone);
}
