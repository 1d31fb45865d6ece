-- A log on a device: frames, and zeros behind them.
use Rattle.std.specs.Prelude.{ℕ, List}
use Rattle.cq_disk.specs.Device.{Only}
use Rattle.cq_records.specs.declared.log.Log.{Log}
use Rattle.cq_records.specs.Layout.{IsLog}

-- the log's device has frames and then zeros, all of it on the medium, and the log knows where they end
pub record IsSettled {D : Type 0} (seen : D → List ℕ) (may_leave : D → List ℕ → Type 0) (log : Log D) : Type 0 where
  pub bytes : IsLog (seen log.device) log.end
  pub durable : Only (seen log.device) (may_leave log.device)
