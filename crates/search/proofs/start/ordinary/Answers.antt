-- `search::start::ordinary` meets its contract: its columns are the ordinary outset. Assumes nothing.
use Rattle.search.proofs.SettingLaws.{alone_is_ordinary}
use Rattle.search.proofs.start.ordinary.Goals as goal

pub returns : goal.returns
returns c = alone_is_ordinary c.args.sheet.columns c.args.sheet.admitted
