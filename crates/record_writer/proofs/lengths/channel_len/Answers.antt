use Rattle.std.proofs.Common.{◌≡◌, ◌≤◌, ◌+◌, length, subst, sym, ℕ, arith}
use Rattle.world_data.specs.Records.{record_len, record_reader}
use Rattle.world_data.specs.declared.worlds.Change.TheVariants as change
use Rattle.record_writer.specs.LengthLaws.{setchan_count, setchan_sum, delchan_short}
use Rattle.record_writer.proofs.lengths.channel_len.Goals as goal

pub returns-clause-value : goal.returns-clause-value
returns-clause-value c =
    let chan = c.args.channel.now in
    let count : 2 + c.deadline_count.result + c.words.result ≡ length (record_reader (change.SetChan chan)) = omega (arith, setchan_count chan, c.deadline_count.ensures.value, c.words.ensures.count) in
    setchan_sum chan _ _ _ _ _ _ count c.line_len.ensures.value c.bulk_len.ensures.value c.name_len.ensures.value c.deadline_len.ensures.value c.words_len.ensures.value

pub returns-clause-drop : goal.returns-clause-drop
returns-clause-drop c =
    let chan = c.args.channel.now in
    let count : 2 + c.deadline_count.result + c.words.result ≡ length (record_reader (change.SetChan chan)) = omega (arith, setchan_count chan, c.deadline_count.ensures.value, c.words.ensures.count) in
    let sum = setchan_sum chan _ _ _ _ _ _ count c.line_len.ensures.value c.bulk_len.ensures.value c.name_len.ensures.value c.deadline_len.ensures.value c.words_len.ensures.value in
    subst (λ (n : ℕ). record_len (change.DelChan chan.name) ≤ n) (sym sum) (delchan_short chan (omega (arith, c.words.ensures.fits.few)))
