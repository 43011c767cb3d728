use Rattle.cmd_words.proofs.Heads.{setchan_head, delchan_head, pdelchan_head, chans_head}
use Rattle.cmd_words.proofs.channels.read_channel.Goals as goal

pub setchan_command-requires : goal.setchan_command-requires
setchan_command-requires c = setchan_head c.requires.0 c.args.reader.now c.requires.1 (rw c.in-Setchan.is at c.requires.2)

pub returns-in-Delchan : goal.returns-in-Delchan
returns-in-Delchan c = c.delchan_command.ensures (delchan_head c.requires.0 c.args.reader.now c.requires.1 (rw c.in-Delchan.is at c.requires.2))

pub returns-in-Pdelchan : goal.returns-in-Pdelchan
returns-in-Pdelchan c = c.pdelchan_command.ensures (pdelchan_head c.requires.0 c.args.reader.now c.requires.1 (rw c.in-Pdelchan.is at c.requires.2))

pub returns-in-Chans : goal.returns-in-Chans
returns-in-Chans c = c.chans_command.ensures (chans_head c.requires.0 c.args.reader.now c.requires.1 (rw c.in-Chans.is at c.requires.2))
