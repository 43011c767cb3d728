use Rattle.cmd_words.proofs.Heads.{set_head, get_head, del_head, pdel_head, drop_head, fset_head, fget_head, expire_head, persist_head, ttl_head, keys_head, bounds_head, stats_head, flush_head, shrink_head}
use Rattle.cmd_words.proofs.objects.read_object.Goals as goal

pub returns-in-Set : goal.returns-in-Set
returns-in-Set c = c.set_command.ensures (set_head c.requires.0 c.args.reader.now c.requires.1 (rw c.in-Set.is at c.requires.2))

pub returns-in-Get : goal.returns-in-Get
returns-in-Get c = c.get_command.ensures (get_head c.requires.0 c.args.reader.now c.requires.1 (rw c.in-Get.is at c.requires.2))

pub returns-in-Del : goal.returns-in-Del
returns-in-Del c = c.del_command.ensures (del_head c.requires.0 c.args.reader.now c.requires.1 (rw c.in-Del.is at c.requires.2))

pub returns-in-Pdel : goal.returns-in-Pdel
returns-in-Pdel c = c.pdel_command.ensures (pdel_head c.requires.0 c.args.reader.now c.requires.1 (rw c.in-Pdel.is at c.requires.2))

pub returns-in-Drop : goal.returns-in-Drop
returns-in-Drop c = c.drop_command.ensures (drop_head c.requires.0 c.args.reader.now c.requires.1 (rw c.in-Drop.is at c.requires.2))

pub returns-in-Fset : goal.returns-in-Fset
returns-in-Fset c = c.fset_command.ensures (fset_head c.requires.0 c.args.reader.now c.requires.1 (rw c.in-Fset.is at c.requires.2))

pub returns-in-Fget : goal.returns-in-Fget
returns-in-Fget c = c.fget_command.ensures (fget_head c.requires.0 c.args.reader.now c.requires.1 (rw c.in-Fget.is at c.requires.2))

pub returns-in-Expire : goal.returns-in-Expire
returns-in-Expire c = c.expire_command.ensures (expire_head c.requires.0 c.args.reader.now c.requires.1 (rw c.in-Expire.is at c.requires.2))

pub returns-in-Persist : goal.returns-in-Persist
returns-in-Persist c = c.persist_command.ensures (persist_head c.requires.0 c.args.reader.now c.requires.1 (rw c.in-Persist.is at c.requires.2))

pub returns-in-Ttl : goal.returns-in-Ttl
returns-in-Ttl c = c.ttl_command.ensures (ttl_head c.requires.0 c.args.reader.now c.requires.1 (rw c.in-Ttl.is at c.requires.2))

pub returns-in-Keys : goal.returns-in-Keys
returns-in-Keys c = c.keys_command.ensures (keys_head c.requires.0 c.args.reader.now c.requires.1 (rw c.in-Keys.is at c.requires.2))

pub returns-in-Bounds : goal.returns-in-Bounds
returns-in-Bounds c = c.bounds_command.ensures (bounds_head c.requires.0 c.args.reader.now c.requires.1 (rw c.in-Bounds.is at c.requires.2))

pub returns-in-Stats : goal.returns-in-Stats
returns-in-Stats c = c.stats_command.ensures (stats_head c.requires.0 c.args.reader.now c.requires.1 (rw c.in-Stats.is at c.requires.2))

pub returns-in-Flush : goal.returns-in-Flush
returns-in-Flush c = c.flush_command.ensures (flush_head c.requires.0 c.args.reader.now c.requires.1 (rw c.in-Flush.is at c.requires.2))

pub returns-in-Shrink : goal.returns-in-Shrink
returns-in-Shrink c = c.shrink_command.ensures (shrink_head c.requires.0 c.args.reader.now c.requires.1 (rw c.in-Shrink.is at c.requires.2))
