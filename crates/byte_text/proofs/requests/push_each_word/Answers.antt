use Rattle.std.proofs.Common.{rules, ◌≡◌, ◌++◌, take, length, flat_map}
use Rattle.byte_text.specs.Lines.{bulk_text}
use Rattle.byte_text.specs.TextLaws.{kept_append, kept_through}
use Rattle.byte_text.specs.ListLaws.{one_more}
use Rattle.byte_text.proofs.requests.push_each_word.Goals as goal

pub loop-at-preserved : goal.loop-at-preserved
loop-at-preserved c =
    let written : c.push_bulk.new.into ≡ c.loop-at.into ++ bulk_text c.word.result.now = search rules in
    let kept : take (length c.loop-at.into) c.push_bulk.new.into ≡ c.loop-at.into = rw written (kept_append c.loop-at.into (bulk_text c.word.result.now)) in
    let front : take (length c.args.into.now) c.push_bulk.new.into ≡ c.args.into.now = kept_through c.args.into.now c.loop-at.into c.push_bulk.new.into c.loop-at.invariant.1 kept in
    (one_more bulk_text c.args.words.now c.loop-at.at c.word.result.now c.loop-at.into c.push_bulk.new.into (c.args.into.now ++ flat_map bulk_text c.args.words.now) c.word.ensures written c.loop-at.invariant.0, front)
