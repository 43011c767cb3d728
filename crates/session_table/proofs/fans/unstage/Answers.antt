use Rattle.std.proofs.Common.{◌≡◌, length, refl, arith, rules}
use Rattle.std.specs.Prelude.{Some, slice_get, vec_len}
use Rattle.std.proofs.lemmas.Option.{slice_get_read}
use Rattle.session_table.specs.Sessions.{State}
use Rattle.session_table.specs.Fans.{IsUnstaged}
use Rattle.session_table.specs.FanLaws.{done_start, done_next, done_length, done_all, same_done_to, bare_all}
use Rattle.session_table.proofs.fans.unstage.Goals as goal

pub loop-i-init : goal.loop-i-init
loop-i-init c = done_start IsUnstaged c.args.sessions.now.items

pub loop-i-preserved : goal.loop-i-preserved
loop-i-preserved c =
    let l = c.loop-i in
    let s = c.index_mut.result.now in
    let was : vec_len c.args.sessions.now ≡ length c.args.sessions.now.items = search rules in
    let long = done_length IsUnstaged l.i c.args.sessions.now.items l.sessions.items l.invariant in
    let at : slice_get l.sessions.items l.i ≡ Some s = slice_get_read l.sessions.items (length l.sessions.items) l.i s refl (omega (arith, c.loop-i-test.true, c.len-i-end.ensures, was, long)) c.index_mut.ensures.value in
    done_next IsUnstaged l.i c.args.sessions.now.items l.sessions.items s c.unstage.new.self l.invariant at (record { same = c.unstage.ensures.same; bare = c.unstage.ensures.staged })

pub returns-clause-same : goal.returns-clause-same
returns-clause-same c = same_done_to IsUnstaged (λ (t u : State) (b : IsUnstaged t u). b.same) c.loop-i.i c.args.sessions.now.items c.loop-i.sessions.items c.loop-i.invariant

pub returns-clause-bare : goal.returns-clause-bare
returns-clause-bare c =
    let was : vec_len c.args.sessions.now ≡ length c.args.sessions.now.items = search rules in
    bare_all IsUnstaged (λ (t u : State) (b : IsUnstaged t u). b.bare) c.args.sessions.now.items c.loop-i.sessions.items
    (done_all IsUnstaged c.loop-i.i c.args.sessions.now.items c.loop-i.sessions.items (omega (arith, c.loop-i-test.false, c.len-i-end.ensures, was)) c.loop-i.invariant)
