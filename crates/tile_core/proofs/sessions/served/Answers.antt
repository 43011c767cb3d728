use Rattle.std.proofs.Common.{◌≡◌, sym, ap, ◌∙◌, inr}
use Rattle.ordered_lists.specs.Reading.{got_at}
use Rattle.tile_core.specs.Sessions.{is_full, is_open}
use Rattle.tile_core.proofs.sessions.served.Goals as goal

pub returns-then-not-is_live : goal.returns-then-not-is_live
returns-then-not-is_live c =
    let p = c.in-Some.ensures in
    let is : c.index-sessions-at.result ≡ p.found.session = c.index-sessions-at.is ∙ got_at c.args.sessions.now c.in-Some.at p.found.session c.index-sessions-at.result p.found.here in
    inr (c.in-Some.at, p.found, sym (ap is_open is) ∙ sym c.is_live.ensures ∙ c.if-not-is_live.true)

pub returns-then-is_full : goal.returns-then-is_full
returns-then-is_full c =
    let p = c.in-Some.ensures in
    let is : c.index-sessions-at.result ≡ p.found.session = c.index-sessions-at.is ∙ got_at c.args.sessions.now c.in-Some.at p.found.session c.index-sessions-at.result p.found.here in
    let also : c.index-sessions-at-2.result ≡ p.found.session = c.index-sessions-at-2.is ∙ got_at c.args.sessions.now c.in-Some.at p.found.session c.index-sessions-at-2.result p.found.here in
    (c.in-Some.at, p.found, sym (ap is_open is) ∙ sym c.is_live.ensures ∙ c.if-not-is_live.false, sym (ap is_full also) ∙ sym c.is_full.ensures ∙ c.if-is_full.true)

pub returns : goal.returns
returns c =
    let p = c.in-Some.ensures in
    let is : c.index-sessions-at.result ≡ p.found.session = c.index-sessions-at.is ∙ got_at c.args.sessions.now c.in-Some.at p.found.session c.index-sessions-at.result p.found.here in
    let also : c.index-sessions-at-2.result ≡ p.found.session = c.index-sessions-at-2.is ∙ got_at c.args.sessions.now c.in-Some.at p.found.session c.index-sessions-at-2.result p.found.here in
    (p.found, sym (ap is_open is) ∙ sym c.is_live.ensures ∙ c.if-not-is_live.false, sym (ap is_full also) ∙ sym c.is_full.ensures ∙ c.if-is_full.false, p.within)
