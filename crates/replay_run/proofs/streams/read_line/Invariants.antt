use Rattle.std.proofs.Common.{◌≡◌, ◌≤◌, ◌+◌, ◌-◌, length}
use Rattle.replay_run.specs.TextLines.{max_script}
use Rattle.script_text.specs.Lines.{max_line}
use Rattle.replay_run.proofs.Reading.{Reads, Plain}
use Rattle.replay_run.proofs.streams.read_line.Given as goal

abbrev pub invariant-loop-byte : goal.invariant-loop-byte
invariant-loop-byte g l = record {
  reads : Reads (g.S.Source.left l.initial.source) (g.S.Source.left l.source) l.line.items;
  plain : Plain (g.S.Source.left l.initial.source) (g.S.Source.left l.source) l.line.items;
  short : length l.line.items ≤ max_line;
  used : l.used ≡ l.initial.used + length l.line.items;
  most : l.used ≤ max_script;
  later : g.S.Source.faults l.initial.source ≤ g.S.Source.faults l.source;
}

abbrev pub decreases-loop-byte : goal.decreases-loop-byte
decreases-loop-byte g l = max_line + 1 - length l.line.items
