use Rattle.std.proofs.Common.{◌≡◌, length, refl, arith, rules}
use Rattle.std.specs.Prelude.{Some, slice_get, vec_len}
use Rattle.std.proofs.lemmas.Option.{slice_get_read}
use Rattle.session_table.specs.Fans.{IsPlaced, ArePlaced}
use Rattle.session_table.specs.FanLaws.{done_start, done_next, done_length, done_all, hall_placed}
use Rattle.session_table.proofs.fans.place_staged.Goals as goal

pub loop-i-init : goal.loop-i-init
loop-i-init c = done_start IsPlaced c.args.sessions.now.items

pub loop-i-preserved : goal.loop-i-preserved
loop-i-preserved c =
    let l = c.loop-i in
    let s = c.index_mut.result.now in
    let was : vec_len c.args.sessions.now ≡ length c.args.sessions.now.items = search rules in
    let long = done_length IsPlaced l.i c.args.sessions.now.items l.sessions.items l.invariant in
    let at : slice_get l.sessions.items l.i ≡ Some s = slice_get_read l.sessions.items (length l.sessions.items) l.i s refl (omega (arith, c.loop-i-test.true, c.len-i-end.ensures, was, long)) c.index_mut.ensures.value in
    done_next IsPlaced l.i c.args.sessions.now.items l.sessions.items s c.place_staged.new.self l.invariant at (record { same = c.place_staged.ensures.same; bare = c.place_staged.ensures.staged; replies = c.place_staged.ensures.replies })

pub returns-clause-placed : goal.returns-clause-placed
returns-clause-placed c =
    let was : vec_len c.args.sessions.now ≡ length c.args.sessions.now.items = search rules in
    done_all IsPlaced c.loop-i.i c.args.sessions.now.items c.loop-i.sessions.items (omega (arith, c.loop-i-test.false, c.len-i-end.ensures, was)) c.loop-i.invariant

pub returns-clause-hall : goal.returns-clause-hall
returns-clause-hall c =
    let was : vec_len c.args.sessions.now ≡ length c.args.sessions.now.items = search rules in
    let placed : ArePlaced c.args.sessions.now.items c.loop-i.sessions.items = done_all IsPlaced c.loop-i.i c.args.sessions.now.items c.loop-i.sessions.items (omega (arith, c.loop-i-test.false, c.len-i-end.ensures, was)) c.loop-i.invariant in
    λ h writes own is staged. hall_placed h writes c.args.sessions.now.items c.loop-i.sessions.items own is placed staged
