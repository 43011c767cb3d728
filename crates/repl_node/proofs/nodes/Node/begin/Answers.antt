use Rattle.std.proofs.Common.{◌≡◌, subst, arith}
use Rattle.byte_text.specs.Names.{Bytes}
use Rattle.repl_node.specs.LogWorlds.{HasAll}
use Rattle.repl_node.proofs.Hearing.{begins, shown_first}
use Rattle.repl_node.proofs.Worlds.{world_there}
use Rattle.repl_node.proofs.nodes.Node.begin.Goals as goal

pub invariant_of-self-2 : goal.invariant_of-self-2
invariant_of-self-2 c =
    let has = subst (λ (l : Bytes). HasAll l c.in_ok-world.world) c.bytes.ensures c.in_ok-world.ensures.ok in
    shown_first c.args.self.now c.args.part.now c.args.bytes.now c.in_ok-log.log c.args.reached c.in_ok-world.world c.requires.generation c.requires.from
    c.requires.piece.place_is c.in_ok-log.ensures has

pub returns-clause-heard : goal.returns-clause-heard
returns-clause-heard c =
    let has = subst (λ (l : Bytes). HasAll l c.in_ok-world.world) c.bytes.ensures c.in_ok-world.ensures.ok in
    let end : c.args.reached ≡ c.args.part.now.end = omega (arith, c.if-reached-part.false, c.requires.piece.within) in
    begins c.args.self.now c.args.part.now c.args.bytes.now c.in_ok-log.log c.args.reached c.in_ok-world.world.replay.world c.requires.generation
    c.requires.from c.requires.piece.place_is end c.in_ok-log.ensures (world_there c.in_ok-log.log c.in_ok-world.world has.took has.all)
