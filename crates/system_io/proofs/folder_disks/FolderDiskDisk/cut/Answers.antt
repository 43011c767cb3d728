use Rattle.outside.specs.Disks.{CutOrNot}
use Rattle.outside.specs.WriteLaws.{cut_not}
use Rattle.outside.specs.SideLaws.{on_self}
use Rattle.system_io.proofs.folder_disks.FolderDiskDisk.cut.Goals as goal

pub returns-in-Ok-clause-crash : goal.returns-in-Ok-clause-crash
returns-in-Ok-clause-crash g c d _ = (d, tt, on_self c.args.side (CutOrNot c.args.len) (cut_not c.args.len) d)

pub returns-in-Err-clause-crash : goal.returns-in-Err-clause-crash
returns-in-Err-clause-crash g c d _ = (d, tt, on_self c.args.side (CutOrNot c.args.len) (cut_not c.args.len) d)
