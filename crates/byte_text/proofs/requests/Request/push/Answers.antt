use Rattle.std.proofs.Common.{rules, ◌≡◌, ◌++◌, sym, subst, arith, length, ap}
use Rattle.byte_text.specs.Requests.{FitsRequest}
use Rattle.byte_text.proofs.CutWords.{small_end, pushed}
use Rattle.byte_text.proofs.requests.Request.push.Goals as goal

pub overflow_cast-len : goal.overflow_cast-len
overflow_cast-len c =
    let grown : c.extend_from_slice.new.self.items ≡ c.self.inside.bytes.items ++ c.args.word.now = search rules in
    let small = small_end c.self.inside.ends.items c.self.inside.bytes.items c.args.word.now c.args.self.now c.self.invariant.1 c.self.view_is c.requires.small in
    let lengths : length c.extend_from_slice.new.self.items ≡ length (c.self.inside.bytes.items ++ c.args.word.now) = ap length grown in
    let size : c.len.result ≡ length c.extend_from_slice.new.self.items = search rules in
    record { fits = omega (arith, small, lengths, size) }

pub invariant_of-self-in-Ok : goal.invariant_of-self-in-Ok
invariant_of-self-in-Ok c =
    let p = pushed c.self.inside.ends.items c.push.new.self.items c.self.inside.bytes.items c.extend_from_slice.new.self.items c.args.word.now c.args.self.now c.self.invariant.1 c.self.view_is (search rules) (search rules) in
    (subst FitsRequest (sym p.is) c.requires, p.ascend)

pub returns-in-Ok-clause-ok : goal.returns-in-Ok-clause-ok
returns-in-Ok-clause-ok c =
    (pushed c.self.inside.ends.items c.push.new.self.items c.self.inside.bytes.items c.extend_from_slice.new.self.items c.args.word.now c.args.self.now c.self.invariant.1 c.self.view_is (search rules) (search rules)).is
