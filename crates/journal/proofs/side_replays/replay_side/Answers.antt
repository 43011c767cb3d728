use Rattle.std.proofs.Common.{◌≡◌, ◌⊎◌, ◌∙◌, ℕ, refl, sym, subst, inl, inr}
use Rattle.outside.specs.declared.sides.Side.{Side}
use Rattle.log_sides.specs.Texts.{newest}
use Rattle.log_sides.specs.States.{SideIsSafe}
use Rattle.append_log.specs.Reading.{IsAtGate, IsGateOf, HasNoGate, HasNoBatch}
use Rattle.append_log.specs.declared.side_readers.Gate.{Gate}
use Rattle.journal.specs.Openings.{Looked}
use Rattle.journal.proofs.Looking.{looked_self, looked_on, some_none, some_more}
use Rattle.journal.proofs.side_replays.replay_side.Goals as goal

pub batches-init : goal.batches-init
batches-init g c =
    let D = g.D.Disk in
    let R = g.R.Replay in
    let reader = c.args.reader in
    record {
      side = refl;
      len = refl;
      looked = looked_self D.crashes D.seen D.images D.moment D.left_since D.faults reader.side c.args.disk.now;
      some = some_none R.took R.fault D.crashes D.seen D.images D.moment D.left_since D.faults reader.side c.args.version reader.len reader.at c.args.disk.now c.begin.new.self
          (c.begin.ensures newest c.requires.first);
    }

pub batches-preserved : goal.batches-preserved
batches-preserved g c =
    let D = g.D.Disk in
    let R = g.R.Replay in
    let start = c.args.reader in
    let now = c.batches in
    let mid = c.next_batch.new.self in
    let disk = c.next_batch.new.disk in
    let last = c.replay_batch.new.reader in
    let before = now.invariant in
    let again : Looked D.crashes D.seen D.images D.moment D.left_since D.faults now.reader.side now.disk disk = record { told = c.next_batch.ensures.told; later = c.next_batch.ensures.cause.later; safe = c.next_batch.ensures.safe; same = c.next_batch.ensures.same } in
    let side_is : mid.side ≡ start.side = c.next_batch.ensures.side ∙ before.side in
    let len_is : mid.len ≡ start.len = c.next_batch.ensures.len ∙ before.len in
    record {
      side = c.replay_batch.ensures.side ∙ side_is;
      len = c.replay_batch.ensures.len ∙ len_is;
      looked = looked_on D.crashes D.seen D.images D.moment D.left_since D.faults start.side mid.side c.args.disk.now disk c.replay_batch.new.disk side_is
          (looked_on D.crashes D.seen D.images D.moment D.left_since D.faults start.side now.reader.side c.args.disk.now now.disk disk before.side before.looked again) c.replay_batch.ensures.looked;
      some = some_more R.took R.fault D.crashes D.seen D.images D.moment D.left_since D.faults start.side mid.side c.args.version start.len mid.len start.at now.reader.at mid.at mid.left last.at c.args.disk.now now.disk disk now.replay c.replay_batch.new.replay side_is len_is before.looked
          (subst (λ (s : Side). Looked D.crashes D.seen D.images D.moment D.left_since D.faults s now.disk disk) before.side again) before.some
          (λ n bytes safe at.
          let here = subst (λ (s : Side). SideIsSafe (D.crashes now.disk) (D.seen now.disk) (D.images now.disk) s (λ x. x ≡ bytes)) (sym before.side) safe in
          let gate = subst (λ (k : ℕ). IsAtGate c.args.version n before.some.batches k now.reader.at bytes) (sym before.len) at in
          (subst (λ (x : Gate). IsGateOf c.args.version n before.some.batches bytes mid.len mid.left mid.at x) c.in-Ok-Open.field-0-is (c.in-Ok-Open.ensures.gate c.args.version n before.some.batches bytes here gate)).1)
          (c.in-Ok.ensures.took c.args.version before.some.batches before.some.taken);
    }

pub returns-in-Ok-Closed-clause-looked : goal.returns-in-Ok-Closed-clause-looked
returns-in-Ok-Closed-clause-looked g c =
    let D = g.D.Disk in
    let now = c.batches in
    looked_on D.crashes D.seen D.images D.moment D.left_since D.faults c.args.reader.side now.reader.side c.args.disk.now now.disk c.next_batch.new.disk now.invariant.side now.invariant.looked
    (record { told = c.next_batch.ensures.told; later = c.next_batch.ensures.cause.later; safe = c.next_batch.ensures.safe; same = c.next_batch.ensures.same })

pub returns-in-Ok-Damaged-clause-looked : goal.returns-in-Ok-Damaged-clause-looked
returns-in-Ok-Damaged-clause-looked g c =
    let D = g.D.Disk in
    let now = c.batches in
    looked_on D.crashes D.seen D.images D.moment D.left_since D.faults c.args.reader.side now.reader.side c.args.disk.now now.disk c.next_batch.new.disk now.invariant.side now.invariant.looked
    (record { told = c.next_batch.ensures.told; later = c.next_batch.ensures.cause.later; safe = c.next_batch.ensures.safe; same = c.next_batch.ensures.same })

pub returns-in-Err-clause-looked : goal.returns-in-Err-clause-looked
returns-in-Err-clause-looked g c =
    let D = g.D.Disk in
    let now = c.batches in
    looked_on D.crashes D.seen D.images D.moment D.left_since D.faults c.args.reader.side now.reader.side c.args.disk.now now.disk c.next_batch.new.disk now.invariant.side now.invariant.looked
    (record { told = c.next_batch.ensures.told; later = c.next_batch.ensures.cause.later; safe = c.next_batch.ensures.safe; same = c.next_batch.ensures.same })

pub returns-in-Err-replay_batch-clause-looked : goal.returns-in-Err-replay_batch-clause-looked
returns-in-Err-replay_batch-clause-looked g c =
    let D = g.D.Disk in
    let now = c.batches in
    let disk = c.next_batch.new.disk in
    looked_on D.crashes D.seen D.images D.moment D.left_since D.faults c.args.reader.side c.next_batch.new.self.side c.args.disk.now disk c.replay_batch.new.disk (c.next_batch.ensures.side ∙ now.invariant.side)
    (looked_on D.crashes D.seen D.images D.moment D.left_since D.faults c.args.reader.side now.reader.side c.args.disk.now now.disk disk now.invariant.side now.invariant.looked
    (record { told = c.next_batch.ensures.told; later = c.next_batch.ensures.cause.later; safe = c.next_batch.ensures.safe; same = c.next_batch.ensures.same }))
    c.replay_batch.ensures.looked

pub returns-in-Ok-Closed-clause-took : goal.returns-in-Ok-Closed-clause-took
returns-in-Ok-Closed-clause-took g c =
    let D = g.D.Disk in
    let now = c.batches in
    let some = now.invariant.some in
    let mid = c.next_batch.new.self in
    let version = c.args.version in
    record {
      batches = some.batches;
      taken = some.taken;
      whole = some.whole;
      read = λ n bytes safe first.
          let here = subst (λ (s : Side). SideIsSafe (D.crashes now.disk) (D.seen now.disk) (D.images now.disk) s (λ x. x ≡ bytes)) (sym now.invariant.side) (now.invariant.looked.safe bytes safe) in
          let gate = subst (λ (k : ℕ). IsAtGate version n some.batches k now.reader.at bytes) (sym now.invariant.len) (some.read n bytes safe first) in
          let closed = subst (λ (x : Gate). IsGateOf version n some.batches bytes mid.len mid.left mid.at x) c.in-Ok-Closed.field-0-is (c.in-Ok-Closed.ensures.gate version n some.batches bytes here gate) in (
            subst (λ (k : ℕ). IsAtGate version n some.batches k c.place.result bytes) (c.next_batch.ensures.len ∙ now.invariant.len)
                (subst (λ (k : ℕ). IsAtGate version n some.batches mid.len k bytes) (sym c.place.ensures) closed.0),
            closed.1,
          );
    }

pub returns-in-Ok-Damaged-clause-broken : goal.returns-in-Ok-Damaged-clause-broken
returns-in-Ok-Damaged-clause-broken g c n bytes safe first place is =
    let D = g.D.Disk in
    let now = c.batches in
    let some = now.invariant.some in
    let mid = c.next_batch.new.self in
    let version = c.args.version in
    let here = subst (λ (s : Side). SideIsSafe (D.crashes now.disk) (D.seen now.disk) (D.images now.disk) s (λ x. x ≡ bytes)) (sym now.invariant.side) (now.invariant.looked.safe bytes safe) in
    let gate = subst (λ (k : ℕ). IsAtGate version n some.batches k now.reader.at bytes) (sym now.invariant.len) (some.read n bytes safe first) in
    let damaged = subst (λ (x : Gate). IsGateOf version n some.batches bytes mid.len mid.left mid.at x) c.in-Ok-Damaged.field-0-is (c.in-Ok-Damaged.ensures.gate version n some.batches bytes here gate) in
    let same : c.in-Ok-Damaged.place ≡ place = cc is in
    record {
      batches = some.batches;
      whole = some.whole;
      cause = inl (subst (λ (k : ℕ). HasNoGate version n some.batches bytes k ⊎ HasNoBatch version n some.batches bytes k) same damaged);
    }

pub returns-in-Err-replay_batch-clause-broken : goal.returns-in-Err-replay_batch-clause-broken
returns-in-Err-replay_batch-clause-broken g c n bytes safe first place is =
    let D = g.D.Disk in
    let now = c.batches in
    let some = now.invariant.some in
    let mid = c.next_batch.new.self in
    let version = c.args.version in
    let disk = c.next_batch.new.disk in
    let here = subst (λ (s : Side). SideIsSafe (D.crashes now.disk) (D.seen now.disk) (D.images now.disk) s (λ x. x ≡ bytes)) (sym now.invariant.side) (now.invariant.looked.safe bytes safe) in
    let gate = subst (λ (k : ℕ). IsAtGate version n some.batches k now.reader.at bytes) (sym now.invariant.len) (some.read n bytes safe first) in
    let opened = subst (λ (x : Gate). IsGateOf version n some.batches bytes mid.len mid.left mid.at x) c.in-Ok-Open.field-0-is (c.in-Ok-Open.ensures.gate version n some.batches bytes here gate) in
    let there = subst (λ (s : Side). SideIsSafe (D.crashes disk) (D.seen disk) (D.images disk) s (λ x. x ≡ bytes)) (sym c.next_batch.ensures.side) (c.next_batch.ensures.safe bytes here) in
    record {
      batches = some.batches;
      whole = some.whole;
      cause = inr (c.in-Err-replay_batch.ensures.broken version some.batches n bytes some.taken there opened.1 place is);
    }
