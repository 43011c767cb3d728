use Rattle.std.proofs.Common.{◌≡◌, ◌∙◌, ℕ, length, drop, min, sym, ap, IfOk, length-drop, rules}
use Rattle.std.proofs.lemmas.Result.{IfOk-weaker}
use Rattle.outside.specs.declared.disk_calls.Call.TheVariants.{Look, Write, Cut, Sync}
use Rattle.outside.specs.Sides.{side_of}
use Rattle.outside.specs.DiskCalls.{reads_as}
use Rattle.outside.proofs.Reading.{read_bound, read_bytes}
use Rattle.outside.proofs.Elapsing.{passes, lengthens, look_lengthens, write_lengthens, cut_lengthens, begins_anew, write_follows, refused_write, settles}
use Rattle.outside.proofs.memory_disks.MemoryDiskDisk.TheImpl.Goals as goal

pub len-tells : goal.len-tells
len-tells c = record {
  length = search rules;
  sound = search rules;
  same = search rules;
  crash = search rules;
  longest = λ _. lengthens c.result Look look_lengthens c.args.self.now c.new.self.now c.ensures.ok c.ensures.err;
  time = passes c.result Look c.args.self.now c.new.self.now c.ensures.ok c.ensures.err;
  ticks = search rules;
  cause = search rules;
}

pub read-tells : goal.read-tells
read-tells c =
    let side = side_of (reads_as c.args.self.now) c.args.side in
    let bytes = drop c.args.at side in
    let count : IfOk c.result (λ n. n ≡ min (length c.args.into.now) (length bytes)) = IfOk-weaker c.result _ _ (λ n e. e ∙ ap (λ (j : ℕ). min (length c.args.into.now) j) (sym (length-drop c.args.at side))) c.ensures.count in
    record {
      bound = read_bound c.result bytes c.args.into.now c.new.into.now count c.ensures.bytes;
      count = search rules;
      bytes = read_bytes c.result bytes c.args.into.now c.new.into.now count c.ensures.bytes;
      sound = search rules;
      same = search rules;
      crash = search rules;
      longest = λ _. lengthens c.result Look look_lengthens c.args.self.now c.new.self.now c.ensures.ok c.ensures.err;
      time = passes c.result Look c.args.self.now c.new.self.now c.ensures.ok c.ensures.err;
      ticks = search rules;
      cause = search rules;
    }

pub write_at-tells : goal.write_at-tells
write_at-tells c =
    let call = Write c.args.side c.args.at c.args.piece.now in
    record {
      written = search rules;
      failed = refused_write c.result c.args.side c.args.at (length c.args.piece.now) c.args.self.now c.new.self.now c.ensures.err;
      crash = write_follows c.result c.args.side c.args.at c.args.piece.now c.args.self.now c.new.self.now c.ensures.ok c.ensures.err;
      longest = λ _. lengthens c.result call (write_lengthens c.args.side c.args.at c.args.piece.now) c.args.self.now c.new.self.now c.ensures.ok c.ensures.err;
      time = passes c.result call c.args.self.now c.new.self.now c.ensures.ok c.ensures.err;
      ticks = search rules;
      cause = search rules;
    }

pub cut-tells : goal.cut-tells
cut-tells c =
    let call = Cut c.args.side c.args.len in
    record {
      cut = search rules;
      failed = search rules;
      crash = search rules;
      longest = λ _. lengthens c.result call (cut_lengthens c.args.side c.args.len) c.args.self.now c.new.self.now c.ensures.ok c.ensures.err;
      time = passes c.result call c.args.self.now c.new.self.now c.ensures.ok c.ensures.err;
      ticks = search rules;
      cause = search rules;
    }

pub sync-tells : goal.sync-tells
sync-tells c = record {
  durable = λ _. settles c.result c.args.side c.args.self.now c.new.self.now c.ensures.ok;
  same = search rules;
  crash = search rules;
  longest = λ _. begins_anew c.result c.args.side c.args.self.now c.new.self.now c.ensures.ok c.ensures.err;
  time = passes c.result (Sync c.args.side) c.args.self.now c.new.self.now c.ensures.ok c.ensures.err;
  ticks = search rules;
  cause = search rules;
}
