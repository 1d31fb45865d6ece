-- A struct with no fields, as the proofs of `src/record.rt` make one.
use Rattle.std.proofs.Common.{List, [], ◌∷◌, refl}
use seplogic.Ra.Ura.{Ura}
use mir.Val.{Val, vstruct, vnil}
use types.Logic.{Logic}
use types.Kit.{Goal, Step, step, Item, ‵, ◌$◌, fjoin, fpack, feq_i}
use denote.RattleType.{RattleType, Valss}
use denote.Steps.{nothing}
use denote.Struct.Struct.{Struct, within}

abbrev pub unit_value : Val
unit_value = vstruct vnil

abbrev pub unit_struct : RattleType
unit_struct = Struct (record { name = []; args = []; types = []; fields = [] })

pub unit_made : {M : Type 1} {𝓤 : Ura M} {𝓛 : Logic 𝓤} {K : Type 0} {Γ : List (Item 𝓤)} {G : Goal 𝓤 𝓛.H} → K → Step K 𝓛 (‵ (unit_struct.own_val tt (unit_value ∷ [])) ∷ Γ) G Γ G
unit_made t = step (λ s.
    nothing t $ feq_i t (List Val) (unit_value ∷ []) (unit_value ∷ []) refl $ fjoin t $
    fpack t (Valss []) (within (record { name = []; args = []; types = []; fields = [] }) tt (unit_value ∷ [])) tt $ s)
