use Rattle.std.proofs.Common.{◌+◌, ◌-◌, ◌∙◌, ap, sym, List, ℕ, take, drop, length, replicate, ◌++◌}
use Rattle.outside.proofs.Bytes.{put_over}
use Rattle.outside.proofs.disk_contents.write_into.Goals as goal

pub returns-clause-ok : goal.returns-clause-ok
returns-clause-ok c =
    let at = c.args.at in
    let piece = c.args.piece.now in
    let old = c.args.bytes.now.items in
    let grown = c.in_ok-grow.ensures.ok ∙ ap (λ (end : ℕ). old ++ replicate (end - length old) 0) c.in-Some.ensures.1 in
    let put = c.put.ensures ∙ ap (λ (l : List ℕ). take at l ++ piece ++ drop (at + length piece) l) c.deref_mut.ensures.value in
    put_over at _ piece old _ _ grown put (sym c.deref_mut.ensures.len ∙ ap length c.deref_mut.ensures.value)
