-- What a parse makes of `live` and the arguments behind it.
use Rattle.std.proofs.Common.{◌≡◌, ◌∙◌, ◌==◌, ◌&&◌, Bool, true, false, List, [], ◌∷◌, ◌++◌, Some, None, ap, codes, is_some, refl, sym}
use Rattle.std.specs.Prelude.{fold}
use Rattle.std.specs.List.{list_all}
use Rattle.std.specs.Str.{bytes_eq}
use Rattle.std.specs.Str.Parse.{starts_with_minus}
use Rattle.clap.specs.Lexer.{long_of, short_of, without_minus}
use Rattle.clap.specs.Simple.{Shape, built, built_leaf, entered, inherited, marked_built, names_of, on_top, subcommand_of, with_leaf_noted}
use Rattle.clap.specs.Takes.{default_passes, entered_passes, is_valid, level_passes, settle_passes, takes, turn_passes, value_passes, walk_passes}
use Rattle.clap.specs.Walk.{Held, Names, Row, Rule, Text, Walk, after_step, arg_by_id, finished, idle, next, nothing_held, one_of, option, option_word, rows_after, used, walk, walk_from, walked, word_met}
use Rattle.clap.proofs.WalkLemmas.{walk_stopped}
use Rattle.clap.proofs.OnLiterals.{clap_on_literals}
use Rattle.cq_args.proofs.Asked.{program_is_simple}
use Rattle.cq_args.specs.CommandLine.{live_app, name_in, program_app, servers_rule, text_in, turns_rule, turns_text}

-- both tests pass
and_both : {a b : Bool} → a ≡ true → b ≡ true → (a && b) ≡ true
and_both {a} {b} first second = rw first second

-- ---- the program's own arguments

-- the command `live` as a parse enters it
abbrev live_shape : Shape
live_shape = built_leaf (inherited (on_top with_leaf_noted (on_top marked_built program_app)).top live_app.top)

abbrev top : Shape
top = (built program_app).top

abbrev top_names : Names
top_names = names_of (built program_app)

-- the walk over the program's own arguments, once `live` was met and then these
abbrev met_live : List Text → Walk
met_live seen = record { held = nothing_held; waiting = idle; position = 1; is_trailing = false; stopped = Some (codes "live", seen) }

first_arg : walked top.rules top_names (walk_from nothing_held) (codes "live") ≡ met_live []
unfolding clap_on_literals
first_arg = refl

first_passes : turn_passes top top_names (walk_from nothing_held) (codes "live") ≡ true
unfolding clap_on_literals
first_passes = refl

live_walk : (args : List Text) → walk top.rules top_names nothing_held (codes "live" ∷ args) ≡ met_live args
live_walk args = ap (λ w. fold (walked top.rules top_names) w args) first_arg ∙ sym (walk_stopped top.rules top_names (met_live []) (codes "live") [] args)

rest_passes : (seen args : List Text) → walk_passes top top_names (met_live seen) args ≡ true
unfolding walked walk_passes
rest_passes seen [] = refl
rest_passes seen (arg ∷ args) = rest_passes (seen ++ arg ∷ []) args

live_walk_passes : (args : List Text) → walk_passes top top_names (walk_from nothing_held) (codes "live" ∷ args) ≡ true
unfolding walk_passes
live_walk_passes args = and_both first_passes (ap (λ w. walk_passes top top_names w args) first_arg ∙ rest_passes [] args)

-- the arguments behind `live` are found where its own walk takes them
live_found : (args : List Text) → subcommand_of program_app (codes "live" ∷ args) ≡ Some (codes "live", rows_after live_shape.rules [] args)
live_found args = ap (λ (w : Walk). entered (built program_app) w.stopped) (live_walk args)

live_takes : (args : List Text) → level_passes live_shape [] nothing_held args false ≡ true → takes program_app (codes "live" ∷ args) ≡ true
live_takes args passes =
    and_both program_is_simple (and_both
    (ap (λ (w : Walk). entered_passes (built program_app) w.stopped) (live_walk args) ∙ passes)
    (and_both (live_walk_passes args)
    (ap (λ (w : Walk). settle_passes top.rules top.args_override_self w.held
    && (list_all default_passes top.rules && is_valid top (finished top.rules w.held) (is_some (entered (built program_app) w.stopped)))) (live_walk args))))

-- ---- values of options

-- a value of the option: it begins with no hyphen, and the option's parser accepts it
pub record IsValue (a : Rule) (text : Text) : Type 0 where
  pub marks : bytes_eq text (45 ∷ 45 ∷ []) ≡ false
  pub long : long_of text ≡ None
  pub short : short_of text ≡ None
  pub whole : without_minus text ≡ text
  pub passes : value_passes a text ≡ true

pub is_value : (a : Rule) (text : Text) → starts_with_minus text ≡ false → value_passes a text ≡ true → IsValue a text
is_value a [] plain passes = record { marks = refl; long = refl; short = refl; whole = refl; passes = passes }
is_value a (byte ∷ rest) plain passes =
    let first : (byte == 45) ≡ false = plain in
    record { marks = rw first refl; long = rw first refl; short = rw first refl; whole = rw first refl; passes = passes }

-- the walk where an option waits for its value
abbrev waits_for : Text → Held → Walk
waits_for id h = record { held = h; waiting = option id; position = 1; is_trailing = false; stopped = None }

value_met : (c : List Rule) (id text : Text) (h : Held) (a : Rule) → IsValue a text
    → word_met c [] false (option id) 1 text h ≡ ((option_word (arg_by_id c id) id text h).0, next (option_word (arg_by_id c id) id text h).1)
value_met c id text h a v = rw (v.marks, v.long, v.short) refl

-- ---- the walk over the arguments behind `live`

abbrev rules : List Rule
rules = live_shape.rules

-- these arguments take the walk from one place to another, and pass
abbrev Walks : Walk → List Text → Walk → Type 0
Walks from args to = (fold (walked rules []) from args ≡ to) × (walk_passes live_shape [] from args ≡ true)

stays : (w : Walk) → Walks w [] w
unfolding walk_passes
stays w = (refl, refl)

goes : (from to end : Walk) (arg : Text) (rest : List Text) → walked rules [] from arg ≡ to → turn_passes live_shape [] from arg ≡ true
    → Walks to rest end → Walks from (arg ∷ rest) end
unfolding walk_passes
goes from to end arg rest is passes later = (
  ap (λ w. fold (walked rules []) w rest) is ∙ later.0,
  and_both passes (ap (λ w. walk_passes live_shape [] w rest) is ∙ later.1),
)

-- the walk where no option waits for a value
abbrev goes_on : Held → Walk
goes_on h = record { held = h; waiting = idle; position = 1; is_trailing = false; stopped = None }

-- what is held where an option has these values so far, and what stood before it is in the rows
abbrev holds : List Row → Text → List Text → Held
holds rows id values = record { rows = rows; pending = Some (id, values); skip = 0 }

abbrev servers_row : Text → List Row
servers_row text = used (servers_rule (codes "3")) (text ∷ []) []

abbrev turns_row : Text → List Row
turns_row text = used turns_rule (text ∷ []) []

-- the value of an option
servers_value : (rows : List Row) (text : Text) (end : Walk) (rest : List Text) → IsValue (servers_rule (codes "3")) text
    → Walks (goes_on (holds rows (codes "servers") (text ∷ []))) rest end → Walks (waits_for (codes "servers") (holds rows (codes "servers") [])) (text ∷ rest) end
unfolding walked
servers_value rows text end rest v = goes _ _ end text rest
    (ap (λ met. after_step rules text (waits_for (codes "servers") (holds rows (codes "servers") [])) met.0 met.1) (value_met rules (codes "servers") text _ _ v))
    (rw (v.marks, v.long, v.short) refl)

turns_value : (rows : List Row) (text : Text) (end : Walk) (rest : List Text) → IsValue turns_rule text
    → Walks (goes_on (holds rows (codes "turns") (text ∷ []))) rest end → Walks (waits_for (codes "turns") (holds rows (codes "turns") [])) (text ∷ rest) end
unfolding walked
turns_value rows text end rest v = goes _ _ end text rest
    (ap (λ met. after_step rules text (waits_for (codes "turns") (holds rows (codes "turns") [])) met.0 met.1) (value_met rules (codes "turns") text _ _ v))
    (rw (v.marks, v.long, v.short) refl)

-- an option that stands first
first_servers : (end : Walk) (rest : List Text) → Walks (waits_for (codes "servers") (holds [] (codes "servers") [])) rest end
    → Walks (goes_on nothing_held) (codes "--servers" ∷ rest) end
unfolding clap_on_literals
first_servers end rest = goes (goes_on nothing_held) _ end (codes "--servers") rest refl refl

first_turns : (end : Walk) (rest : List Text) → Walks (waits_for (codes "turns") (holds [] (codes "turns") [])) rest end
    → Walks (goes_on nothing_held) (codes "--turns" ∷ rest) end
unfolding clap_on_literals
first_turns end rest = goes (goes_on nothing_held) _ end (codes "--turns") rest refl refl

-- an option that stands behind the other one
then_turns : (text : Text) (end : Walk) (rest : List Text) → IsValue (servers_rule (codes "3")) text
    → Walks (waits_for (codes "turns") (holds (servers_row text) (codes "turns") [])) rest end
    → Walks (goes_on (holds [] (codes "servers") (text ∷ []))) (codes "--turns" ∷ rest) end
unfolding clap_on_literals
then_turns text end rest v = goes (goes_on (holds [] (codes "servers") (text ∷ []))) _ end (codes "--turns") rest refl (rw v.passes refl)

then_servers : (text : Text) (end : Walk) (rest : List Text) → IsValue turns_rule text
    → Walks (waits_for (codes "servers") (holds (turns_row text) (codes "servers") [])) rest end
    → Walks (goes_on (holds [] (codes "turns") (text ∷ []))) (codes "--servers" ∷ rest) end
unfolding clap_on_literals
then_servers text end rest v = goes (goes_on (holds [] (codes "turns") (text ∷ []))) _ end (codes "--servers") rest refl (rw v.passes refl)

-- ---- what is found

-- the arguments behind `live` are taken, and the parse finds these texts of the two options
pub record IsRead (args : List Text) (servers turns : Text) : Type 0 where
  pub taken : takes program_app (codes "live" ∷ args) ≡ true
  pub name : name_in (subcommand_of program_app (codes "live" ∷ args)) ≡ codes "live"
  pub size : text_in (subcommand_of program_app (codes "live" ∷ args)) ≡ Some servers
  pub limit : turns_text (subcommand_of program_app (codes "live" ∷ args)) ≡ Some turns

reads : (args : List Text) (end : Held) (servers turns : Text) → Walks (goes_on nothing_held) args (goes_on end)
    → settle_passes rules live_shape.args_override_self end ≡ true
    → one_of (codes "servers") (finished rules end) ≡ Some servers → one_of (codes "turns") (finished rules end) ≡ Some turns
    → IsRead args servers turns
reads args end servers turns goes settles has_servers has_turns =
    let found : subcommand_of program_app (codes "live" ∷ args) ≡ Some (codes "live", finished rules end) =
    live_found args ∙ ap (λ (w : Walk). Some (codes "live", finished rules w.held)) goes.0 in
    let passes : level_passes live_shape [] nothing_held args false ≡ true =
    and_both goes.1 (ap (λ (w : Walk). settle_passes rules live_shape.args_override_self w.held
    && (list_all default_passes rules && is_valid live_shape (finished rules w.held) false)) goes.0 ∙ and_both settles refl) in
    record {
      taken = live_takes args passes;
      name = ap name_in found;
      size = ap text_in found ∙ has_servers;
      limit = ap turns_text found ∙ has_turns;
    }

pub reads_none : IsRead [] (codes "3") (codes "1000000000")
reads_none = reads [] nothing_held _ _ (stays _) refl refl refl

pub reads_servers : (servers : Text) → IsValue (servers_rule (codes "3")) servers → IsRead (codes "--servers" ∷ servers ∷ []) servers (codes "1000000000")
reads_servers servers v = reads _ (holds [] (codes "servers") (servers ∷ [])) _ _
    (first_servers _ _ (servers_value [] servers _ _ v (stays _))) (rw v.passes refl) (ap Some v.whole) refl

pub reads_turns : (turns : Text) → IsValue turns_rule turns → IsRead (codes "--turns" ∷ turns ∷ []) (codes "3") turns
reads_turns turns v = reads _ (holds [] (codes "turns") (turns ∷ [])) _ _
    (first_turns _ _ (turns_value [] turns _ _ v (stays _))) (rw v.passes refl) refl refl

pub reads_both : (servers turns : Text) → IsValue (servers_rule (codes "3")) servers → IsValue turns_rule turns
    → IsRead (codes "--servers" ∷ servers ∷ codes "--turns" ∷ turns ∷ []) servers turns
reads_both servers turns v w = reads _ (holds (servers_row servers) (codes "turns") (turns ∷ [])) _ _
    (first_servers _ _ (servers_value [] servers _ _ v (then_turns servers _ _ v (turns_value _ turns _ _ w (stays _)))))
    (rw w.passes refl) (ap Some v.whole) refl

pub reads_both_turned : (servers turns : Text) → IsValue (servers_rule (codes "3")) servers → IsValue turns_rule turns
    → IsRead (codes "--turns" ∷ turns ∷ codes "--servers" ∷ servers ∷ []) servers turns
reads_both_turned servers turns v w = reads _ (holds (turns_row turns) (codes "servers") (servers ∷ [])) _ _
    (first_turns _ _ (turns_value [] turns _ _ w (then_servers turns _ _ w (servers_value _ servers _ _ v (stays _)))))
    (rw v.passes refl) (ap Some v.whole) refl
