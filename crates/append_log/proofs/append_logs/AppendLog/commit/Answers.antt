use Rattle.std.proofs.Common.{◌⊎◌, ◌<◌, ◌∙◌, List, length, sym, ap, subst, arith}
use Rattle.byte_text.specs.Names.{Bytes}
use Rattle.log_sides.specs.Texts.{StandsFor, gate_place}
use Rattle.log_sides.specs.States.{SideIsSafe, SideLeads}
use Rattle.log_sides.specs.Torn.{committed_some, gate_place-append}
use Rattle.log_sides.specs.Sealing.{length-sealed}
use Rattle.append_log.proofs.append_logs.AppendLog.commit.Goals as goal

pub append_batch-requires-clause-room : goal.append_batch-requires-clause-room
append_batch-requires-clause-room g c =
    let pending = c.args.self.now.pending in
    let some : 0 < length pending = omega (arith, c.if-len-eq0.false, c.len.ensures) in
    omega (arith, c.args.self.now.fits some, ap length c.bytes.ensures, length-sealed pending)

pub append_batch-requires-clause-sealed : goal.append_batch-requires-clause-sealed
append_batch-requires-clause-sealed g c = omega (arith, ap length c.bytes.ensures, length-sealed c.args.self.now.pending)

pub returns-in-Ok-clause-stands : goal.returns-in-Ok-clause-stands
returns-in-Ok-clause-stands g c batches is =
    let D = g.D.Disk in
    let log = c.args.self.now in
    let disk = c.append_batch.new.disk in
    let some = committed_some batches log.pending (λ none. c.if-len-eq0.false (c.len.ensures ∙ none)) in
    record {
      place = omega (arith, is.place, ap (gate_place log.version log.generation) some, gate_place-append log.version log.generation batches log.pending, c.len-in-Ok.ensures);
      safe = subst (λ (l : List Bytes). SideIsSafe (D.crashes disk) (D.seen disk) (D.images disk) log.side (StandsFor log.version log.generation l)) (sym some)
          (c.in-Ok.ensures.stands log.version log.generation batches log.pending c.bytes.ensures is);
    }

pub returns-in-Ok-clause-either : goal.returns-in-Ok-clause-either
returns-in-Ok-clause-either g c batches is =
    let D = g.D.Disk in
    let log = c.args.self.now in
    let some = committed_some batches log.pending (λ none. c.if-len-eq0.false (c.len.ensures ∙ none)) in
    subst (λ (l : List Bytes). SideLeads D.crashes D.seen D.images D.moment D.left_since log.side (λ (x : Bytes). StandsFor log.version log.generation batches x ⊎ StandsFor log.version log.generation l x) c.args.disk.now c.append_batch.new.disk) (sym some)
    (c.in-Ok.ensures.either log.version log.generation batches log.pending c.bytes.ensures is)

pub returns-in-Err-clause-either : goal.returns-in-Err-clause-either
returns-in-Err-clause-either g c batches is =
    let D = g.D.Disk in
    let log = c.args.self.now in
    let some = committed_some batches log.pending (λ none. c.if-len-eq0.false (c.len.ensures ∙ none)) in
    subst (λ (l : List Bytes). SideLeads D.crashes D.seen D.images D.moment D.left_since log.side (λ (x : Bytes). StandsFor log.version log.generation batches x ⊎ StandsFor log.version log.generation l x) c.args.disk.now c.append_batch.new.disk) (sym some)
    (c.in-Err.ensures.either log.version log.generation batches log.pending c.bytes.ensures is)
