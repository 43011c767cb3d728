use Rattle.std.proofs.Common.{◌≡◌, ◌+◌, ◌≤◌, ◌<◌, ℕ, List, [], ◌∷◌, ◌++◌, length, length-append, arith, rules, subst, ap, ◌∙◌, sym}
use Rattle.std.specs.Prelude.{Option, MatchOption}
use Rattle.std.specs.Io.KnownBytes.{Consumes, Keeps, IsAtEnd}
use Rattle.replay_run.specs.TextLines.{max_script}
use Rattle.script_text.specs.Lines.{max_line}
use Rattle.replay_run.specs.declared.streams.LineEnd.TheVariants.{Line}
use Rattle.replay_run.specs.Reads.{OnLine}
use Rattle.replay_run.proofs.Reading.{Reads, Plain, one_line_kept, one_line_more, plain_more, reads_more, reads_line, reads_last, reads_long, reads_past}
use Rattle.replay_run.proofs.streams.read_line.Goals as goal

pub returns-in-Ok-None-2-clause-told : goal.returns-in-Ok-None-2-clause-told
returns-in-Ok-None-2-clause-told g c =
    let i = c.loop-byte.invariant in
    let line = c.loop-byte.line.items in
    let some : 0 < length line = search rules in
    let few : c.args.used.now + length line ≤ max_script = omega arith in
    let at = c.in-Ok-None.ensures.byte in
    let old = g.S.Source.left c.loop-byte.source in
    let new = g.S.Source.left c.read_byte.new.source in
    let took : IsAtEnd new × Keeps old new = subst (λ (o : Option ℕ). MatchOption o (IsAtEnd new × Keeps old new) (λ b. Consumes old new (b ∷ []))) c.in-Ok-None.field-0-is at in
    let is : c.args.used.now + length line ≡ c.loop-byte.used = omega arith in
    subst (λ (n : ℕ). OnLine Line (g.S.Source.left c.args.source.now) new c.args.used.now n line) is (reads_last _ _ _ c.args.used.now line some i.short few i.reads took.0 took.1)

pub returns-then-used-ge-MAX_SCRIPT-clause-told : goal.returns-then-used-ge-MAX_SCRIPT-clause-told
returns-then-used-ge-MAX_SCRIPT-clause-told g c =
    let i = c.loop-byte.invariant in
    let old = g.S.Source.left c.loop-byte.source in
    let new = g.S.Source.left c.read_byte.new.source in
    let took : Consumes old new (c.in-Ok-Some.byte ∷ []) = subst (λ (o : Option ℕ). MatchOption o (IsAtEnd new × Keeps old new) (λ b. Consumes old new (b ∷ []))) c.in-Ok-Some.field-0-is c.in-Ok-Some.ensures.byte in
    let past : max_script ≤ c.args.used.now + length c.loop-byte.line.items = omega arith in
    reads_past _ _ _ c.args.used.now c.loop-byte.used c.loop-byte.line.items c.in-Ok-Some.byte past i.reads took

pub returns-then-byte-eq10-clause-told : goal.returns-then-byte-eq10-clause-told
returns-then-byte-eq10-clause-told g c =
    let i = c.loop-byte.invariant in
    let line = c.loop-byte.line.items in
    let old = g.S.Source.left c.loop-byte.source in
    let new = g.S.Source.left c.read_byte.new.source in
    let took : Consumes old new (c.in-Ok-Some.byte ∷ []) = subst (λ (o : Option ℕ). MatchOption o (IsAtEnd new × Keeps old new) (λ b. Consumes old new (b ∷ []))) c.in-Ok-Some.field-0-is c.in-Ok-Some.ensures.byte in
    let few : c.args.used.now + length line + 1 ≤ max_script = omega arith in
    let is : c.args.used.now + length line + 1 ≡ c.loop-byte.used + 1 = omega arith in
    subst (λ (n : ℕ). OnLine Line (g.S.Source.left c.args.source.now) new c.args.used.now n line) is (reads_line _ _ _ c.args.used.now line c.in-Ok-Some.byte c.if-byte-eq10.true i.short few i.reads took)

pub returns-then-len-ge-MAX_LINE-clause-told : goal.returns-then-len-ge-MAX_LINE-clause-told
returns-then-len-ge-MAX_LINE-clause-told g c =
    let i = c.loop-byte.invariant in
    let old = g.S.Source.left c.loop-byte.source in
    let new = g.S.Source.left c.read_byte.new.source in
    let took : Consumes old new (c.in-Ok-Some.byte ∷ []) = subst (λ (o : Option ℕ). MatchOption o (IsAtEnd new × Keeps old new) (λ b. Consumes old new (b ∷ []))) c.in-Ok-Some.field-0-is c.in-Ok-Some.ensures.byte in
    let long : max_line ≤ length c.loop-byte.line.items = search rules in
    reads_long _ _ _ c.args.used.now (c.loop-byte.used + 1) c.loop-byte.line.items c.in-Ok-Some.byte c.if-byte-eq10.false long i.reads took

pub loop-byte-preserved : goal.loop-byte-preserved
loop-byte-preserved g c =
    let i = c.loop-byte.invariant in
    let line = c.loop-byte.line.items in
    let old = g.S.Source.left c.loop-byte.source in
    let new = g.S.Source.left c.read_byte.new.source in
    let took : Consumes old new (c.in-Ok-Some.byte ∷ []) = subst (λ (o : Option ℕ). MatchOption o (IsAtEnd new × Keeps old new) (λ b. Consumes old new (b ∷ []))) c.in-Ok-Some.field-0-is c.in-Ok-Some.ensures.byte in
    let pushed : c.push.new.self.items ≡ line ++ c.in-Ok-Some.byte ∷ [] = search rules in
    let long : length c.push.new.self.items ≡ length line + 1 = ap length pushed ∙ length-append line (c.in-Ok-Some.byte ∷ []) in
    let below : length line < max_line = search rules in
    record {
      reads = subst (λ (l : List ℕ). Reads (g.S.Source.left c.args.source.now) new l) (sym pushed) (reads_more _ _ _ line c.in-Ok-Some.byte c.if-byte-eq10.false i.reads took);
      plain = subst (λ (l : List ℕ). Plain (g.S.Source.left c.args.source.now) new l) (sym pushed) (plain_more _ _ _ line c.in-Ok-Some.byte c.if-byte-eq10.false i.plain took);
      short = omega arith;
      used = omega arith;
      most = omega arith;
      later = search rules;
    }

-- what was read is at most one line

pub returns-in-Ok-None-2-clause-piece : goal.returns-in-Ok-None-2-clause-piece
returns-in-Ok-None-2-clause-piece g c =
    let old = g.S.Source.left c.loop-byte.source in
    let new = g.S.Source.left c.read_byte.new.source in
    let took : IsAtEnd new × Keeps old new = subst (λ (o : Option ℕ). MatchOption o (IsAtEnd new × Keeps old new) (λ b. Consumes old new (b ∷ []))) c.in-Ok-None.field-0-is c.in-Ok-None.ensures.byte in
    one_line_kept _ _ _ c.loop-byte.line.items c.loop-byte.invariant.plain took.1

pub returns-in-Err-clause-piece : goal.returns-in-Err-clause-piece
returns-in-Err-clause-piece g c = one_line_kept _ _ _ c.loop-byte.line.items c.loop-byte.invariant.plain c.in-Err.ensures.byte

pub returns-then-used-ge-MAX_SCRIPT-clause-piece : goal.returns-then-used-ge-MAX_SCRIPT-clause-piece
returns-then-used-ge-MAX_SCRIPT-clause-piece g c =
    let old = g.S.Source.left c.loop-byte.source in
    let new = g.S.Source.left c.read_byte.new.source in
    let took : Consumes old new (c.in-Ok-Some.byte ∷ []) = subst (λ (o : Option ℕ). MatchOption o (IsAtEnd new × Keeps old new) (λ b. Consumes old new (b ∷ []))) c.in-Ok-Some.field-0-is c.in-Ok-Some.ensures.byte in
    one_line_more _ _ _ c.loop-byte.line.items c.in-Ok-Some.byte c.loop-byte.invariant.plain took

pub returns-then-byte-eq10-clause-piece : goal.returns-then-byte-eq10-clause-piece
returns-then-byte-eq10-clause-piece g c =
    let old = g.S.Source.left c.loop-byte.source in
    let new = g.S.Source.left c.read_byte.new.source in
    let took : Consumes old new (c.in-Ok-Some.byte ∷ []) = subst (λ (o : Option ℕ). MatchOption o (IsAtEnd new × Keeps old new) (λ b. Consumes old new (b ∷ []))) c.in-Ok-Some.field-0-is c.in-Ok-Some.ensures.byte in
    one_line_more _ _ _ c.loop-byte.line.items c.in-Ok-Some.byte c.loop-byte.invariant.plain took

pub returns-then-len-ge-MAX_LINE-clause-piece : goal.returns-then-len-ge-MAX_LINE-clause-piece
returns-then-len-ge-MAX_LINE-clause-piece g c =
    let old = g.S.Source.left c.loop-byte.source in
    let new = g.S.Source.left c.read_byte.new.source in
    let took : Consumes old new (c.in-Ok-Some.byte ∷ []) = subst (λ (o : Option ℕ). MatchOption o (IsAtEnd new × Keeps old new) (λ b. Consumes old new (b ∷ []))) c.in-Ok-Some.field-0-is c.in-Ok-Some.ensures.byte in
    one_line_more _ _ _ c.loop-byte.line.items c.in-Ok-Some.byte c.loop-byte.invariant.plain took

pub returns-then-is_err-clause-piece : goal.returns-then-is_err-clause-piece
returns-then-is_err-clause-piece g c =
    let old = g.S.Source.left c.loop-byte.source in
    let new = g.S.Source.left c.read_byte.new.source in
    let took : Consumes old new (c.in-Ok-Some.byte ∷ []) = subst (λ (o : Option ℕ). MatchOption o (IsAtEnd new × Keeps old new) (λ b. Consumes old new (b ∷ []))) c.in-Ok-Some.field-0-is c.in-Ok-Some.ensures.byte in
    one_line_more _ _ _ c.loop-byte.line.items c.in-Ok-Some.byte c.loop-byte.invariant.plain took
