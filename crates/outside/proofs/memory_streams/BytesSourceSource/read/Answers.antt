use Rattle.std.proofs.Common.{◌≡◌, ap, arith, take, drop, ◌∙◌, sym, List, ℕ, ◌+◌, ◌-◌, ◌≤◌, length, min, vec_len}
use Rattle.std.proofs.lemmas.List.{drop_all}
use Rattle.outside.specs.Memory.{Given}
use Rattle.outside.proofs.Reading.{got, ended}
use Rattle.outside.proofs.memory_streams.BytesSourceSource.read.Goals as goal

pub returns-clause-bytes : goal.returns-clause-bytes
returns-clause-bytes c =
    let s = c.self.inside in
    let xs = s.bytes.items in
    let n = c.min-count.result in
    let same_len : vec_len s.bytes ≡ length xs = omega (arith, c.deref-2.ensures.len, ap length c.deref-2.ensures.value) in
    let least = c.min-count.ensures in
    let room = c.min.ensures ∙ ap (λ (k : ℕ). min (k - s.at) (length c.args.into.now)) (c.len.ensures ∙ same_len) in
    let copied = c.copy_from_slice.ensures.after ∙ ap (λ (k : List ℕ). take (s.at + n - s.at) (drop s.at k)) c.deref-2.ensures.value in
    let fits : s.at + n ≤ length xs = omega (arith, least, room, c.self.invariant.0) in
    (ap (λ (g : Given). g.left) (sym c.self.view_is) ∙ got xs _ _ s.at n fits copied, λ none some. drop_all _ xs (ended xs _ _ s.at n c.min.result s.piece least room c.self.invariant.1 c.self.invariant.0 fits copied none some))
