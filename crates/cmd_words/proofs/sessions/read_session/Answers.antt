use Rattle.cmd_words.proofs.Heads.{subscribe_head, psubscribe_head, ping_head, quit_head}
use Rattle.cmd_words.proofs.sessions.read_session.Goals as goal

pub returns-in-Subscribe : goal.returns-in-Subscribe
returns-in-Subscribe c = c.subscribe_command.ensures (subscribe_head c.requires.0 c.args.reader.now c.requires.1 (rw c.in-Subscribe.is at c.requires.2))

pub returns-in-Psubscribe : goal.returns-in-Psubscribe
returns-in-Psubscribe c = c.psubscribe_command.ensures (psubscribe_head c.requires.0 c.args.reader.now c.requires.1 (rw c.in-Psubscribe.is at c.requires.2))

pub returns-in-Ping : goal.returns-in-Ping
returns-in-Ping c = c.ping_command.ensures (ping_head c.requires.0 c.args.reader.now c.requires.1 (rw c.in-Ping.is at c.requires.2))

pub returns-in-Quit : goal.returns-in-Quit
returns-in-Quit c = c.quit_command.ensures (quit_head c.requires.0 c.args.reader.now c.requires.1 (rw c.in-Quit.is at c.requires.2))
