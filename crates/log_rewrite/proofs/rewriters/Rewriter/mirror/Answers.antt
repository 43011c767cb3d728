use Rattle.std.proofs.Common.{◌∙◌, ◌+◌, ◌-◌, List, length, sym, ap, subst, arith}
use Rattle.byte_text.specs.Names.{Bytes}
use Rattle.outside.specs.Disks.{Torn}
use Rattle.log_sides.specs.Texts.{with_batch}
use Rattle.log_sides.specs.Making.{IsShut}
use Rattle.log_sides.specs.Closing.{shut_torn}
use Rattle.log_sides.specs.Crashing.{leads_step, leads_held}
use Rattle.log_rewrite.specs.NewSides.{IsPart, IsNewSide}
use Rattle.log_rewrite.proofs.Parts.{part_grown, place_grown, written_some}
use Rattle.log_rewrite.proofs.Written.{now_write}
use Rattle.log_rewrite.proofs.rewriters.Rewriter.mirror.Goals as goal

pub returns-in-Ok-clause-either : goal.returns-in-Ok-clause-either
returns-in-Ok-clause-either g c held =
    let D = g.D.Disk in
    leads_step D.crashes D.seen D.images D.moment D.left_since c.args.self.now.side IsShut IsShut (Torn c.args.self.now.gate (length c.args.batch.now)) c.args.disk.now c.write_piece.new.disk held
    (λ x y shut torn. shut_torn c.args.self.now.gate (length c.args.batch.now) x y c.args.self.now.behind c.requires shut torn) c.in-Ok.ensures.torn c.in-Ok.ensures.crash c.in-Ok.ensures.moments

pub returns-in-Err-clause-either : goal.returns-in-Err-clause-either
returns-in-Err-clause-either g c held =
    let D = g.D.Disk in
    leads_step D.crashes D.seen D.images D.moment D.left_since c.args.self.now.side IsShut IsShut (Torn c.args.self.now.gate (length c.args.batch.now)) c.args.disk.now c.write_piece.new.disk held
    (λ x y shut torn. shut_torn c.args.self.now.gate (length c.args.batch.now) x y c.args.self.now.behind c.requires shut torn) c.in-Err.ensures.torn c.in-Err.ensures.crash c.in-Err.ensures.moments

pub returns-in-Ok-clause-grown : goal.returns-in-Ok-clause-grown
returns-in-Ok-clause-grown g c batches records is new =
    let D = g.D.Disk in
    let this = c.args.self.now in
    let disk = c.write_piece.new.disk in
    let some = written_some records (λ none. absurd (let long = ap length is in omega (arith, long, none, c.if-batch-eq0.false))) in
    let leads = leads_step D.crashes D.seen D.images D.moment D.left_since this.side IsShut IsShut (Torn this.gate (length c.args.batch.now)) c.args.disk.now disk new.shut
    (λ x y shut torn. shut_torn this.gate (length c.args.batch.now) x y this.behind c.requires shut torn) c.in-Ok.ensures.torn c.in-Ok.ensures.crash c.in-Ok.ensures.moments in
    subst (λ (l : List Bytes). IsNewSide (D.crashes disk) (D.seen disk) (D.images disk) this.side this.generation (this.gate + (length c.args.batch.now - 1)) l) (sym (some.1 batches)) (record {
      numbered = new.numbered;
      place = omega (arith, new.place, place_grown this.generation batches records, ap length (is ∙ some.0), c.if-batch-eq0.false);
      now = now_write (D.seen c.args.disk.now) (D.seen disk) this.side this.gate c.args.batch.now (IsPart this.generation batches) (IsPart this.generation (with_batch batches records)) new.now
          (λ x part. part_grown this.generation batches records this.gate c.args.batch.now x new.place (is ∙ some.0) part) c.in-Ok.ensures.written;
      shut = leads_held D.crashes D.seen D.images D.moment D.left_since this.side IsShut c.args.disk.now disk c.in-Ok.ensures.told leads;
    })
