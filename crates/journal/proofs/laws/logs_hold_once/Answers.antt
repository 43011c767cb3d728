use Rattle.std.proofs.Common.{◌∙◌, sym, inl, inr}
use Rattle.journal.specs.Growing.{grown_opened}
use Rattle.journal.proofs.laws.logs_hold_once.Goals as goal

pub returns-clause-once : goal.returns-clause-once
returns-clause-once c v w batches others s (inl one) (inl two) =
    let same = c.logs_read_once.ensures.once s one.0 two.0 v w one.1 two.1 batches others one.2 two.2 in (same.1, same.3)
returns-clause-once c v w batches others s (inl one) (inr two) = absurd (c.logs_read_once.ensures.fresh s one.0 v one.1 batches one.2 two.0)
returns-clause-once c v w batches others s (inr one) (inl two) = absurd (c.logs_read_once.ensures.fresh s two.0 w two.1 others two.2 one.0)
returns-clause-once c v w batches others s (inr one) (inr two) = (one.1 ∙ sym two.1, one.2 ∙ sym two.2)

pub returns-clause-grown : goal.returns-clause-grown
returns-clause-grown c v g batches earlier s holds has = grown_opened s v g batches earlier holds has
