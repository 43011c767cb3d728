use Rattle.std.proofs.Common.{refl}
use Rattle.std.specs.Prelude.{Ok, Err}
use Rattle.std.proofs.lemmas.Result.{err_from_is_err_and}
use Rattle.byte_text.specs.Names.{Bytes}
use Rattle.world_model.specs.Grammar.{Form, ◌>>=◌, done}
use Rattle.world_model.specs.Kinds.{name, glob, meters}
use Rattle.cmd_words.specs.declared.fence_areas.FenceArea.{FenceArea}
use Rattle.cmd_words.specs.declared.fence_areas.FenceArea.TheVariants as area
use Rattle.cmd_words.proofs.Binds.{bind_fails, bind_then, bind_done}
use Rattle.cmd_words.proofs.fence_areas.read_beside.Goals as goal

-- what is due behind the key, and behind the pattern
abbrev behind_pattern : Bytes → Bytes → Form FenceArea
behind_pattern key pattern = meters >>= λ r. done (area.Beside key pattern r)

abbrev behind_key : Bytes → Form FenceArea
behind_key key = glob >>= behind_pattern key

pub returns-in_err-key : goal.returns-in_err-key
returns-in_err-key c =
    let p = err_from_is_err_and c.from_residual.result c.from_residual.ensures.1 in
    rw (p.1, p.2) (bind_fails name behind_key c.args.reader.now c.name.new.self c.name.new.self _ c.in_err-key.ensures)

pub returns-in_err-pattern : goal.returns-in_err-pattern
returns-in_err-pattern c =
    let p = err_from_is_err_and c.from_residual-in_err-pattern.result c.from_residual-in_err-pattern.ensures.1 in
    rw (p.1, p.2) (bind_then name behind_key c.args.reader.now c.name.new.self c.glob.new.self c.in_ok-key.key (Err _) c.in_ok-key.ensures
    (bind_fails glob (behind_pattern c.in_ok-key.key) c.name.new.self c.glob.new.self c.glob.new.self _ c.in_err-pattern.ensures))

pub returns-in_err-meters : goal.returns-in_err-meters
returns-in_err-meters c =
    let p = err_from_is_err_and c.from_residual-in_err-meters.result c.from_residual-in_err-meters.ensures.1 in
    rw (p.1, p.2) (bind_then name behind_key c.args.reader.now c.name.new.self c.meters.new.self c.in_ok-key.key (Err _) c.in_ok-key.ensures
    (bind_then glob (behind_pattern c.in_ok-key.key) c.name.new.self c.glob.new.self c.meters.new.self c.in_ok-pattern.pattern (Err _) c.in_ok-pattern.ensures
    (bind_fails meters (λ r. done (area.Beside c.in_ok-key.key c.in_ok-pattern.pattern r)) c.glob.new.self c.meters.new.self c.meters.new.self _ c.in_err-meters.ensures)))

pub returns : goal.returns
returns c =
    let made = area.Beside c.in_ok-key.key c.in_ok-pattern.pattern c.in_ok-meters.meters in
    bind_then name behind_key c.args.reader.now c.name.new.self c.meters.new.self c.in_ok-key.key (Ok made) c.in_ok-key.ensures
    (bind_then glob (behind_pattern c.in_ok-key.key) c.name.new.self c.glob.new.self c.meters.new.self c.in_ok-pattern.pattern (Ok made) c.in_ok-pattern.ensures
    (bind_done meters (λ r. done (area.Beside c.in_ok-key.key c.in_ok-pattern.pattern r)) c.glob.new.self c.meters.new.self c.in_ok-meters.meters made refl c.in_ok-meters.ensures))
