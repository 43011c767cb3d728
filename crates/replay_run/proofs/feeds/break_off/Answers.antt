use Rattle.replay_run.proofs.FeedCalls.{broken_comes, dead_comes, unfed_comes}
use Rattle.replay_run.proofs.feeds.break_off.Goals as goal

pub returns-in-Broken : goal.returns-in-Broken
returns-in-Broken g c = record { made = broken_comes g.D.Disk.crashes g.D.Disk.seen g.D.Disk.images g.D.Disk.moment g.D.Disk.left_since g.D.Disk.faults c.args.core.now c.call.new.core c.args.session c.args.moment c.args.fault c.in-Broken.fault c.call.result c.in-Broken.is c.call.ensures.made }

pub returns-in-Dead : goal.returns-in-Dead
returns-in-Dead g c = record { made = dead_comes g.D.Disk.crashes g.D.Disk.seen g.D.Disk.images g.D.Disk.moment g.D.Disk.left_since g.D.Disk.faults c.args.core.now c.args.session c.args.moment c.args.fault c.text_of.result c.in-Dead.is c.requires.goes c.text_of.ensures.text c.text_of.ensures.memory }

pub returns-in-Memory : goal.returns-in-Memory
returns-in-Memory g c = record { made = unfed_comes g.D.Disk.crashes g.D.Disk.seen g.D.Disk.images g.D.Disk.moment g.D.Disk.left_since g.D.Disk.faults c.args.core.now c.args.session c.args.moment c.args.fault c.in-Memory.is c.requires.goes }
