use Rattle.std.proofs.Common.{◌≡◌, ◌∙◌, sym, ap, ℕ, List, ◌++◌, Vec, Global}
use Rattle.std.specs.Prelude.{Some, map, if◌then◌else◌}
use Rattle.byte_text.specs.Names.{same}
use Rattle.channel_hub.specs.Named.{slot_in}
use Rattle.channel_hub.proofs.Keys.{written}
use Rattle.channel_hub.proofs.slots_by_name.SlotsByName.put.Goals as goal

pub returns : goal.returns
returns c =
    let key = c.extend_from_slice.new.self in
    let fit = rw (sym c.take.ensures.value ∙ c.in-Some.is) at c.self.invariant in
    let spelled : key.items ≡ c.args.name.now = c.in-Ok.ensures.items ∙ ap (λ (l : List ℕ). l ++ c.bytes.result.now) fit.0 ∙ c.bytes.ensures.same in
    let old = c.self.inside.slots in
    let new = c.insert.new.self in
    let done = written (λ (k : Vec ℕ Global). k.items) old new key.items (Some c.args.slot) c.in-Ok-insert.ensures.updates in
    rw (← c.self.view_is) (λ n. done n ∙ ap (λ (name : List ℕ). if same name n then Some c.args.slot else slot_in (map (λ e. (e.0.items, e.1)) old.entries) n) spelled)
