use Rattle.std.proofs.Common.{sym, ap}
use Rattle.world_model.specs.Refusals.{broken_reply}
use Rattle.reply_text.proofs.refusals.broken_words.Goals as goal

pub returns-in-TooMany-clause-value : goal.returns-in-TooMany-clause-value
returns-in-TooMany-clause-value c = sym (ap broken_reply c.in-TooMany.is)
