use Rattle.std.proofs.Common.{◌≡◌, length, refl, sym, subst, arith}
use Rattle.std.specs.Prelude.{Some, Option, slice_get, slice_set}
use Rattle.std.proofs.lemmas.Option.{slice_get_read}
use Rattle.channel_plans.specs.declared.planned.Planned.{Planned}
use Rattle.tile_core.specs.Ready.{CanComplete, IsDone, IsDoneIf}
use Rattle.tile_core.proofs.Finishing.{bare_at}
use Rattle.tile_core.proofs.finish.finish_planned.Goals as goal

pub finish-requires-clause-replies : goal.finish-requires-clause-replies
finish-requires-clause-replies c =
    let xs = c.args.sessions.now.items in
    let s = c.index_mut.result.now in
    let at : slice_get xs c.args.at ≡ Some s = slice_get_read xs (length xs) c.args.at s refl (omega (arith, c.requires.at)) c.index_mut.ensures.value in
    let can : CanComplete c.args.store.now xs c.args.at (Some c.in-Some.planned) = subst (CanComplete c.args.store.now xs c.args.at) c.in-Some.is c.requires.can in
    can.2 s at

pub finish-requires-clause-bare : goal.finish-requires-clause-bare
finish-requires-clause-bare c =
    let xs = c.args.sessions.now.items in
    let s = c.index_mut.result.now in
    let at : slice_get xs c.args.at ≡ Some s = slice_get_read xs (length xs) c.args.at s refl (omega (arith, c.requires.at)) c.index_mut.ensures.value in
    bare_at xs c.args.at s c.requires.bare at

pub returns-in-Some-clause-done : goal.returns-in-Some-clause-done
returns-in-Some-clause-done c =
    let xs = c.args.sessions.now.items in
    let s = c.index_mut.result.now in
    let at : slice_get xs c.args.at ≡ Some s = slice_get_read xs (length xs) c.args.at s refl (omega (arith, c.requires.at)) c.index_mut.ensures.value in
    let done : IsDone c.args.store.now xs c.args.at c.in-Some.planned c.finish.new.store (slice_set xs c.args.at c.finish.new.caller) = record {
      caller = s;
      here = at;
      answered = c.finish.new.caller;
      set = refl;
      reply = c.finish.ensures.caller;
      staged = c.finish.ensures.staged;
      world = c.finish.ensures.world;
      kept = c.finish.ensures.kept;
    } in
    subst (λ (q : Option Planned). IsDoneIf c.args.store.now xs c.args.at q c.finish.new.store (slice_set xs c.args.at c.finish.new.caller)) (sym c.in-Some.is) done
