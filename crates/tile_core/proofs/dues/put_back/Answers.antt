use Rattle.std.proofs.Common.{subst}
use Rattle.keyspace.specs.Entries.{objects_in}
use Rattle.tile_core.specs.Dues.{with_back, HaveRoom}
use Rattle.tile_core.proofs.Taken.{room_here, whole_back, room_back, few_back}
use Rattle.tile_core.proofs.dues.put_back.Goals as goal

pub put-requires-clause-room : goal.put-requires-clause-room
put-requires-clause-room c =
    let entries = c.loop-last.objects in
    room_here entries c.pop.new.self.items c.in-Some.last (subst (HaveRoom entries) c.in-Some.ensures.items c.loop-last.invariant.room)

pub loop-last-preserved-in-Some : goal.loop-last-preserved-in-Some
loop-last-preserved-in-Some c =
    let l = c.loop-last in
    let old = c.args.objects.now in
    let next = c.put.new.self in
    let held = c.pop.new.self.items in
    let all = l.held.items in
    let whole = with_back (objects_in old) c.args.held.items in
    let last = c.in-Some.last in
    record {
      whole = whole_back l.objects next held whole all last c.put.result c.in-Some.ensures.items c.put.ensures.objects l.invariant.whole;
      room = room_back l.objects next held whole all last c.put.result c.in-Some.ensures.items l.invariant.room c.put.ensures.kept;
      few = few_back l.objects next held whole all last c.put.result c.in-Some.ensures.items c.put.ensures.len l.invariant.few;
    }

pub loop-last-preserved : goal.loop-last-preserved
loop-last-preserved c =
    let l = c.loop-last in
    let old = c.args.objects.now in
    let next = c.put.new.self in
    let held = c.pop.new.self.items in
    let all = l.held.items in
    let whole = with_back (objects_in old) c.args.held.items in
    let last = c.in-Some.last in
    record {
      whole = whole_back l.objects next held whole all last c.put.result c.in-Some.ensures.items c.put.ensures.objects l.invariant.whole;
      room = room_back l.objects next held whole all last c.put.result c.in-Some.ensures.items l.invariant.room c.put.ensures.kept;
      few = few_back l.objects next held whole all last c.put.result c.in-Some.ensures.items c.put.ensures.len l.invariant.few;
    }
