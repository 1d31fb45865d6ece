-- Worked examples, computed by the definitions. The bytes were laid out by hand.
use Rattle.std.proofs.Common.{◌≡◌, ◌==◌, [], ◌∷◌, refl}
use Rattle.cq_chain.specs.declared.message.Message.TheVariants.{BeHead, Report}
use Rattle.cq_chain_wire.specs.Layout.{message}
use Rattle.cq_frames.specs.Layout.{party, piece_number, response}
use Rattle.cq_master_process.specs.Putting.{counted_all, sent_to, told_all}
use Rattle.cq_wire.specs.declared.version.TheConstants.{VERSION}
use Rattle.cq_wire.specs.Layout.{number32, number64, text, whole}

-- two messages for server 2 are told under the numbers 1 and 2, and one for server 3, which is gone, isn't told
told-of-three : told_all (λ id. id == 3) (λ _. 0) (sent_to 2 BeHead ∷ sent_to 2 (Report 1) ∷ sent_to 3 BeHead ∷ [])
    ≡ 29 ∷ 0 ∷ 0 ∷ 0 ∷ VERSION ∷ 0 ∷ 2 ∷ 2 ∷ 0 ∷ 0 ∷ 0 ∷ 1 ∷ 0 ∷ 0 ∷ 0 ∷ 0 ∷ 0 ∷ 0 ∷ 0 ∷ 0 ∷ 0 ∷ 0 ∷ 0 ∷ 0 ∷ 0 ∷ 0 ∷ 0 ∷ 2 ∷ 0 ∷ 0 ∷ 0 ∷ VERSION ∷ 3
    ∷ 33 ∷ 0 ∷ 0 ∷ 0 ∷ VERSION ∷ 0 ∷ 2 ∷ 2 ∷ 0 ∷ 0 ∷ 0 ∷ 2 ∷ 0 ∷ 0 ∷ 0 ∷ 0 ∷ 0 ∷ 0 ∷ 0 ∷ 0 ∷ 0 ∷ 0 ∷ 0 ∷ 0 ∷ 0 ∷ 0 ∷ 0 ∷ 6 ∷ 0 ∷ 0 ∷ 0 ∷ VERSION ∷ 4 ∷ 1 ∷ 0 ∷ 0 ∷ 0 ∷ []
unfolding number32 number64 text whole party piece_number response message
told-of-three = refl

-- each counts on the link of its server
counted-of-three : counted_all (λ _. 0) (sent_to 2 BeHead ∷ sent_to 2 (Report 1) ∷ sent_to 3 BeHead ∷ []) 2 ≡ 2
counted-of-three = refl
