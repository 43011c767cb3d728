use Rattle.std.proofs.Common.{sym, ◌∙◌}
use Rattle.serve_run.proofs.Stepping.{only_ask}
use Rattle.serve_run.proofs.feeds.ask_in.Goals as goal

pub returns-in-Words : goal.returns-in-Words
returns-in-Words c = only_ask c.ask_of.result c.args.asked.now c.at.result.now c.in-Words.request
    (sym c.len.ensures ∙ c.if-len-ne1.false) c.at.ensures c.in-Words.is c.ask_of.ensures.made
