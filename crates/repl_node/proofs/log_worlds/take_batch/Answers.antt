use Rattle.std.proofs.Common.{◌≡◌, ◌<◌, ◌+◌, ◌-◌, ◌^◌, ◌∙◌, ℕ, length, take, drop, [], ap, sym, subst, arith}
use Rattle.std.proofs.lemmas.List.{append-nil}
use Rattle.byte_text.specs.Names.{Bytes}
use Rattle.log_sides.specs.Texts.{newest}
use Rattle.world_recovery.specs.Recorded.{record_fault}
use Rattle.repl_node.specs.LogTexts.{BeginsWith}
use Rattle.repl_node.proofs.Frames.{no_records}
use Rattle.repl_node.proofs.log_worlds.take_batch.Goals as goal

-- what code takes of a batch
abbrev taken : Bytes → ℕ → Bytes
taken text len = take (9 + len - 9) (drop 9 text)

taken_is : (text : Bytes) (len : ℕ) → taken text len ≡ take len (drop 9 text)
taken_is text len = ap (λ (k : ℕ). take k (drop 9 text)) (let e : 9 + len - 9 ≡ len = omega arith in e)

pub returns-in-Err-NoRecord-clause-refused : goal.returns-in-Err-NoRecord-clause-refused
returns-in-Err-NoRecord-clause-refused c = λ batches stands is batch rest whole first.
    let text = c.args.text.now in
    let len = c.in-Some.len in
    let short : length text < 2 ^ 64 = omega arith in
    let refused = c.in-Err-NoRecord.ensures.refused newest batches [] stands c.in-Err-NoRecord.field-0-0 c.in-Err-NoRecord.field-0-is in
    no_records text (taken text len) batch rest len c.in-Err-NoRecord.field-0-0 short c.in-Some.ensures.some (taken_is text len)
    (ap (record_fault newest) (sym (append-nil (taken text len))) ∙ refused.1 []) whole first

pub returns-in-Err-NoRecord-end-clause-refused : goal.returns-in-Err-NoRecord-end-clause-refused
returns-in-Err-NoRecord-end-clause-refused c = λ batches stands is batch rest whole first.
    let text = c.args.text.now in
    let len = c.in-Some.len in
    let short : length text < 2 ^ 64 = omega arith in
    let stood = c.in-Ok.ensures.took newest batches [] stands in
    let refused = c.in-Err-NoRecord-end.ensures.refused newest batches (taken text len) stood c.in-Err-NoRecord-end.field-0-0 c.in-Err-NoRecord-end.field-0-is in
    no_records text (taken text len) batch rest len c.in-Err-NoRecord-end.field-0-0 short c.in-Some.ensures.some (taken_is text len) refused.1 whole first

pub returns-in-Ok-end-clause-took : goal.returns-in-Ok-end-clause-took
returns-in-Ok-end-clause-took c = λ batches stands.
    let text = c.args.text.now in
    let len = c.in-Some.len in
    let first = c.in-Some.ensures.some in
    let stood = c.in-Ok.ensures.took newest batches [] stands in
    record {
      some = omega arith;
      within = first.within;
      batch = taken text len;
      first = subst (λ (b : Bytes). BeginsWith text b (drop (9 + len) text)) (sym (taken_is text len)) first.first;
      whole = c.in-Ok-end.ensures.whole newest batches (taken text len) stood;
      taken = c.in-Ok-end.ensures.took newest batches (taken text len) stood;
    }
