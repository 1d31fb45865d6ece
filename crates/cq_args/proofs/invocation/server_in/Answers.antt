-- A journal is named or not.
use Rattle.std.proofs.Common.{◌≡◌, ◌∙◌, List, Option, None, Some, refl, sym, ap, codes}
use Rattle.std.specs.Prelude.{IfSome, option_map}
use Rattle.clap.specs.Words.{Row, first_of, found_of, rows_of}
use Rattle.clap.proofs.WalkLemmas.{first_value-rows}
use Rattle.cq_args.specs.declared.invocation.Invocation.{Invocation}
use Rattle.cq_args.specs.declared.invocation.Invocation.TheVariants.{Copy, Dump, Explain, First, Joining, Kept, KeptServer, Live, Loaded, Master, Replay, Session, Verify, Watch}
use Rattle.cq_args.specs.CommandLine.{AsksProcess, AsksServer, IsProcess, name_of, server_name}
use Rattle.cq_args.proofs.Asked.{no_path}
use Rattle.cq_args.proofs.invocation.server_in.Goals as goal

abbrev IsServer : List Row → Invocation → Type 0
IsServer rows it = (name_of it ≡ server_name) × IsProcess it × AsksProcess rows it

unkept : (rows : List Row) (it : Invocation) → first_of (codes "journal") rows ≡ None → AsksServer rows it → IsServer rows it
unkept rows (First id size) none asks = (refl, tt, (asks, none))
unkept rows (Joining id) none asks = (refl, tt, (asks, none))
unkept rows Loaded none asks = (refl, tt, (asks, none))
unkept rows (KeptServer path mebibytes no_create) none asks = absurd asks
unkept rows (Replay size) none asks = absurd asks
unkept rows (Session size) none asks = absurd asks
unkept rows (Kept size journal) none asks = absurd asks
unkept rows (Live size turns) none asks = absurd asks
unkept rows (Verify path) none asks = absurd asks
unkept rows (Copy path to) none asks = absurd asks
unkept rows (Dump path) none asks = absurd asks
unkept rows (Master size) none asks = absurd asks
unkept rows (Explain size is_live) none asks = absurd asks
unkept rows (Watch size) none asks = absurd asks

unkept_if : (rows : List Row) (r : Option Invocation) → first_of (codes "journal") rows ≡ None → IfSome r (AsksServer rows) → IfSome r (IsServer rows)
unkept_if rows None none asks = tt
unkept_if rows (Some it) none asks = unkept rows it none asks

pub kept_server_in-requires : goal.kept_server_in-requires
kept_server_in-requires c = sym (first_value-rows (found_of c.args.options.now) (codes "journal")) ∙ sym c.get_str.ensures ∙ ap (option_map (λ s. s.now)) c.in-Some.is

pub returns-in-None : goal.returns-in-None
returns-in-None c =
    let f = found_of c.args.options.now in
    unkept_if (rows_of f) c.unkept_server_in.result (no_path f c.get_str.result c.get_str.ensures c.in_default.is) c.unkept_server_in.ensures
