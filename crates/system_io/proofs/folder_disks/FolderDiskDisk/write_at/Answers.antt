use Rattle.std.proofs.Common.{length}
use Rattle.outside.specs.Disks.{Torn}
use Rattle.outside.specs.WriteLaws.{torn_self}
use Rattle.outside.specs.SideLaws.{on_self}
use Rattle.system_io.proofs.folder_disks.FolderDiskDisk.write_at.Goals as goal

pub returns-in-Ok-clause-crash : goal.returns-in-Ok-clause-crash
returns-in-Ok-clause-crash g c d _ = (d, tt, on_self c.args.side (Torn c.args.at (length c.args.piece.now)) (torn_self c.args.at (length c.args.piece.now)) d)

pub returns-in-Err-clause-crash : goal.returns-in-Err-clause-crash
returns-in-Err-clause-crash g c d _ = (d, tt, on_self c.args.side (Torn c.args.at (length c.args.piece.now)) (torn_self c.args.at (length c.args.piece.now)) d)
