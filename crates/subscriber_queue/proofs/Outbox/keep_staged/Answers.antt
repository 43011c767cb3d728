use Rattle.std.proofs.Common.{◌≡◌, ℕ, ◌+◌, List, take, drop, ap, ◌∙◌}
use Rattle.std.proofs.lemmas.List.{drop-take}
use Rattle.byte_text.specs.Names.{Bytes}
use Rattle.subscriber_queue.specs.Waiting.{Waiting}
use Rattle.subscriber_queue.proofs.Outbox.keep_staged.Goals as goal

pub returns-then-count-all-clause-staged : goal.returns-then-count-all-clause-staged
returns-then-count-all-clause-staged c =
    let k = c.self.inside in
    ap (drop k.waiting) c.keep.ensures ∙ drop-take k.waiting c.args.count k.blocks ∙ ap (λ (w : Waiting). take c.args.count w.staged) c.self.view_is
