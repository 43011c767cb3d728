-- What a step of a rewriting writes.
use Rattle.std.proofs.Common.{◌≡◌, ◌∙◌, ℕ, List, [], sym, ap}
use Rattle.std.specs.Prelude.{take}
use Rattle.byte_text.specs.Names.{Bytes}
use Rattle.world_data.specs.declared.worlds.World.{World}
use Rattle.log_sides.specs.Texts.{committed}
use Rattle.log_record.specs.Batches.{records_text}
use Rattle.durable_core.specs.Rewriting.{Item, changes_of}
use Rattle.durable_core.specs.Steps.{IsNextStep}
use Rattle.durable_core.specs.Written.{Sided, sided_next, sided_on}
use Rattle.durable_core.specs.declared.rewritings.Rewriting.{Rewriting}
use Rattle.durable_core.specs.declared.steps.RewriteStep.{RewriteStep}
use Rattle.durable_core.specs.declared.steps.RewriteStep.TheVariants as step

-- what a step writes
abbrev pub sided_by : RewriteStep → Sided → Sided
sided_by step.Rest s = s
sided_by step.Begin s = record { batches = s.batches; copied = [] }
sided_by (step.Copy next) s = record { batches = s.batches; copied = committed s.copied next.piece.records }
sided_by step.Finish s = record { batches = s.copied; copied = [] }

pub next_sided : (r : Rewriting) (gate : ℕ) (w : World) (next : RewriteStep) (s : Sided) → IsNextStep r gate w next → sided_by next s ≡ sided_next r w s
next_sided r gate w step.Rest s is = sym (ap (λ (q : Rewriting). sided_next q w s) is)
next_sided r gate w step.Begin s is = sym (ap (λ (q : Rewriting). sided_next q w s) is)
next_sided r gate w (step.Copy next) s is =
    ap (λ (l : Bytes). record { batches = s.batches; copied = committed s.copied l }) (is.piece.records ∙ ap (λ (l : List Item). records_text (changes_of (take 256 l))) is.some)
    ∙ sym (ap (λ (q : Rewriting). sided_next q w s) is.going ∙ ap (λ (l : List Item). sided_on l s) is.some)
next_sided r gate w step.Finish s is = sym (ap (λ (q : Rewriting). sided_next q w s) is.going ∙ ap (λ (l : List Item). sided_on l s) is.none)
