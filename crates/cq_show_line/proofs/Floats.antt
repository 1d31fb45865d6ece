-- The line has no float, so its text is exact.
use Rattle.std.proofs.Common.{◌≡◌, ℕ, List, [], ◌∷◌, map, Bool, false, Option, None, Some, refl}
use Rattle.serde_json.specs.View.{items_of}
use Rattle.serde_json.specs.Written.{has_float, items_have_float}
use Rattle.cq_base.specs.declared.party.Party.{Party}
use Rattle.cq_base.specs.declared.party.Party.TheVariants.{Master, Clients, Server}
use Rattle.cq_show_line.specs.declared.shown.NextMessage.{NextMessage}
use Rattle.cq_show_line.specs.declared.shown.ShownServer.{ShownServer}
use Rattle.cq_show_line.specs.declared.shown.Way.{Way}
use Rattle.cq_show_line.specs.Lines.{id_data, next_data, number_or_null, party_data, server_data, shown_data, way_data}

items_have_float-ids : (ids : List ℕ) → items_have_float (items_of (map id_data ids)) ≡ false
items_have_float-ids [] = refl
items_have_float-ids (id ∷ ids) = items_have_float-ids ids

items_have_float-servers : (ss : List ShownServer) → items_have_float (items_of (map server_data ss)) ≡ false
items_have_float-servers [] = refl
items_have_float-servers (s ∷ ss) = items_have_float-servers ss

has_float-party : (p : Party) → has_float (party_data p) ≡ false
has_float-party Master = refl
has_float-party Clients = refl
has_float-party (Server id) = refl

has_float-next : (next : Option NextMessage) → has_float (next_data next) ≡ false
has_float-next None = refl
has_float-next (Some m) = refl

has_float-number : (n : Option ℕ) → has_float (number_or_null n) ≡ false
has_float-number None = refl
has_float-number (Some n) = refl

has_float-way : (p : Way) → has_float (way_data p) ≡ false
has_float-way p = rw (has_float-party p.from) (rw (has_float-next p.next) (rw (has_float-party p.to) refl))

items_have_float-ways : (ps : List Way) → items_have_float (items_of (map way_data ps)) ≡ false
items_have_float-ways [] = refl
items_have_float-ways (p ∷ ps) = rw (has_float-way p) (items_have_float-ways ps)

pub has_float_shown_data : (chain : List ℕ) (joiner : Option ℕ) (ready : Bool) (servers : List ShownServer) (ways : List Way) → has_float (shown_data chain joiner ready servers ways) ≡ false
unfolding shown_data
has_float_shown_data chain joiner ready servers ways =
    rw (items_have_float-ids chain) (rw (has_float-number joiner) (rw (items_have_float-servers servers) (rw (items_have_float-ways ways) refl)))
