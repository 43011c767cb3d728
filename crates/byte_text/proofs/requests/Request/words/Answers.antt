use Rattle.std.proofs.Common.{rules, ◌≡◌, ◌∙◌, sym, ap, length}
use Rattle.byte_text.proofs.CutWords.{length-cut}
use Rattle.byte_text.proofs.requests.Request.words.Goals as goal

pub returns-clause-count : goal.returns-clause-count
returns-clause-count c =
    let count : c.len.result ≡ length c.self.inside.ends.items = search rules in
    count ∙ sym (length-cut 0 c.self.inside.ends.items c.self.inside.bytes.items) ∙ ap length c.self.view_is
