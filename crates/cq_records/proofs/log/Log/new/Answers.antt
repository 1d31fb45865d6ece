use Rattle.std.proofs.Common.{◌≡◌, ◌∙◌, List, ℕ, [], ◌++◌, length, refl, sym, ap}
use Rattle.std.specs.Prelude.{replicate}
use Rattle.cq_records.specs.Frames.{frames, joined, all_sound}
use Rattle.cq_records.proofs.Frames.{of_zeros}
use Rattle.cq_records.proofs.log.Log.new.Goals as goal

pub returns : goal.returns
returns g c =
    let n = length (g.D.Device.seen c.args.device) in
    let none : frames (g.D.Device.seen c.args.device) ≡ [] = ap frames c.requires.zeros ∙ of_zeros n in
    record {
      settled = record {
        bytes = record {
          room = n;
          is = c.requires.zeros ∙ ap (λ (fs : List (List ℕ)). joined fs ++ replicate n 0) (sym none);
          ends = sym (ap (λ (fs : List (List ℕ)). length (joined fs)) none);
          sound = ap all_sound none;
        };
        durable = c.requires.durable;
      };
      empty = none;
      device = refl;
    }
