use Rattle.std.proofs.Common.{◌≡◌, ◌-◌, ◌<◌, Bool, ◌++◌, length, take, drop, ap, ◌∙◌, arith}
use Rattle.std.specs.Prelude.{if◌then◌else◌}
use Rattle.std.proofs.lemmas.List.{length-drop, take-take}
use Rattle.world_data.specs.Frames.{frame_bytes}
use Rattle.session_table.proofs.Mails.{bytes_both, bytes_cut, first_less}
use Rattle.session_table.proofs.mailboxes.Mailbox.place_first.Goals as goal

pub invariant_of-self-2 : goal.invariant_of-self-2
invariant_of-self-2 c =
    let k = c.self.inside in
    let xs = k.outbox.staged in
    let fs = k.outbox.frames in
    let some : 0 < k.staged = omega arith in
    let left : c.place_first.new.self.staged ≡ drop 1 xs = c.place_first.ensures.staged ∙ ap (λ (b : Bool). if b then drop 1 xs else xs) c.if-not-place_first.false in
    let now : c.place_first.new.self.frames ≡ fs ++ take 1 xs = c.place_first.ensures.frames ∙ ap (λ (b : Bool). if b then fs ++ take 1 xs else fs) c.if-not-place_first.false in
    let bytes = c.bytes.ensures ∙ ap frame_bytes now ∙ bytes_both fs (take 1 xs) in
    let before = c.bytes-before.ensures in
    let long = ap length left ∙ length-drop 1 xs in
    let within = c.self.invariant.0 in
    let rest : frame_bytes (take (k.staged - 1) c.place_first.new.self.staged) ≡ frame_bytes (drop 1 (take k.staged xs)) =
    ap frame_bytes (ap (take (k.staged - 1)) left ∙ first_less k.staged xs some) in
    let first : frame_bytes (take 1 (take k.staged xs)) ≡ frame_bytes (take 1 xs) = ap frame_bytes (take-take 1 k.staged xs (omega (arith, some))) in
    let both = bytes_cut 1 (take k.staged xs) in
    let was = c.self.invariant.1 in
    (omega (arith, long, within, some), omega (arith, bytes, before, rest, first, both, was))
