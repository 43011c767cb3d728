use Rattle.cmd_words.proofs.Heads.{scan_head, within_head, intersects_head, nearby_head}
use Rattle.cmd_words.proofs.searches.read_search.Goals as goal

pub returns-in-Scan : goal.returns-in-Scan
returns-in-Scan c = c.scan_command.ensures (scan_head c.requires.0 c.args.reader.now c.requires.1 (rw c.in-Scan.is at c.requires.2))

pub returns-in-Within : goal.returns-in-Within
returns-in-Within c = c.area_command.ensures (within_head c.requires.0 c.args.reader.now c.requires.1 (rw c.in-Within.is at c.requires.2))

pub returns-in-Intersects : goal.returns-in-Intersects
returns-in-Intersects c = c.area_command-in-Intersects.ensures (intersects_head c.requires.0 c.args.reader.now c.requires.1 (rw c.in-Intersects.is at c.requires.2))

pub returns-in-Nearby : goal.returns-in-Nearby
returns-in-Nearby c = c.nearby_command.ensures (nearby_head c.requires.0 c.args.reader.now c.requires.1 (rw c.in-Nearby.is at c.requires.2))
