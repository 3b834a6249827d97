-- `timing::time_trains` meets its contract: no train has an instant of its own to wait for. Assumes nothing.
use Rattle.std.proofs.Common.{◌∙◌, take}
use Rattle.model.specs.Memory.{sheet_of}
use Rattle.timing.proofs.TimingStepLaws.{since_none}
use Rattle.timing.proofs.time_trains.Goals as goal

pub returns : goal.returns
returns c = c.time_trains_since.ensures ∙ since_none (sheet_of c.args.sheet.columns) (take c.args.sheet.columns.order_count c.args.train)
