use Rattle.std.proofs.Common.{sym, ap, ◌∙◌}
use Rattle.log_record.specs.Versions.{least_version, text_version}
use Rattle.record_reader.proofs.versions.least_version.Goals as goal

pub returns-in-Put : goal.returns-in-Put
unfolding least_version
returns-in-Put c = c.text_version.ensures ∙ ap text_version c.has_text.ensures ∙ sym (ap least_version c.in-Put.is)

pub returns-in-SetChan : goal.returns-in-SetChan
unfolding least_version
returns-in-SetChan c = c.setting_version.ensures ∙ sym (ap least_version c.in-SetChan.is)

pub returns-in-Del : goal.returns-in-Del
unfolding least_version
returns-in-Del c = sym (ap least_version c.in-Del.is)

pub returns-in-Drop : goal.returns-in-Drop
unfolding least_version
returns-in-Drop c = sym (ap least_version c.in-Drop.is)

pub returns-in-Flush : goal.returns-in-Flush
unfolding least_version
returns-in-Flush c = sym (ap least_version c.in-Flush.is)

pub returns-in-DelChan : goal.returns-in-DelChan
unfolding least_version
returns-in-DelChan c = sym (ap least_version c.in-DelChan.is)
