use Rattle.std.proofs.Common.{rules, ap, length}
use Rattle.std.proofs.lemmas.Result.{on_err_weaker}
use Rattle.outside.specs.Memory.{Plain}
use Rattle.outside.specs.Disks.{Torn, CutOrNot}
use Rattle.outside.specs.WriteLaws.{torn_self, cut_not}
use Rattle.outside.specs.SideLaws.{on_self, on_same}
use Rattle.outside.proofs.plain_disks.PlainDiskDisk.TheImpl.Goals as goal

pub write_at-tells : goal.write_at-tells
write_at-tells c = record {
  written = search rules;
  failed = on_err_weaker c.result (λ e. on_same c.args.side (Torn c.args.at (length c.args.piece.now)) (torn_self c.args.at (length c.args.piece.now)) c.args.self.now.sides c.new.self.now.sides (ap (λ (d : Plain). d.sides) e)) c.ensures.err;
  crash = λ d _. (d, tt, on_self c.args.side (Torn c.args.at (length c.args.piece.now)) (torn_self c.args.at (length c.args.piece.now)) d);
  longest = search rules;
  time = search rules;
  ticks = search rules;
  cause = c.ensures.cause;
}

pub cut-tells : goal.cut-tells
cut-tells c = record {
  cut = search rules;
  failed = search rules;
  crash = λ d _. (d, tt, on_self c.args.side (CutOrNot c.args.len) (cut_not c.args.len) d);
  longest = search rules;
  time = search rules;
  ticks = search rules;
  cause = search rules;
}
