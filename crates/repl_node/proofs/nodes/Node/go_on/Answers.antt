use Rattle.std.proofs.Common.{◌≡◌, ◌∙◌, ◌+◌, ◌++◌, ℕ, length, IfSome, arith, refl, ap, sym, subst}
use Rattle.std.proofs.lemmas.Bool.{and_parts, eqb-true}
use Rattle.byte_text.specs.Names.{Bytes}
use Rattle.repl_node.specs.Following.{Followed, IsShown, first_place, place}
use Rattle.repl_node.specs.LogWorlds.{HasAll, HasTaken}
use Rattle.repl_node.proofs.Hearing.{goes_published, goes_whole, last_second, none_second, rests, same_place}
use Rattle.repl_node.proofs.nodes.Node.go_on.Goals as goal
use Rattle.repl_node.proofs.nodes.Node.go_on.Goals.{then-self-part, else-self-part, then-drop, else-drop}

pub returns-then-eq-clause-heard : goal.returns-then-eq-clause-heard
returns-then-eq-clause-heard c =
    let s = c.self.inside in
    let node = c.args.self.now in
    let part = c.args.part.now in
    let both = and_parts _ _ (sym c.if-eq.ensures) in
    let here = same_place s.published part.generation part.end (eqb-true s.published.generation part.generation both.0) (eqb-true s.published.place part.end both.1) in
    rests node part c.args.bytes.now c.requires.generation c.requires.from (sym c.requires.piece.place_is ∙ c.if-reached-part.true)
    (subst (λ (n : Followed). IsShown n.generation n.taken n.published n.world) c.self.view_is c.self.invariant.1)
    (ap (λ (n : Followed). n.published) (sym c.self.view_is) ∙ here)

pub invariant_of-self-then-if-drop : goal.invariant_of-self-then-if-drop
invariant_of-self-then-if-drop c =
    let s = c.self.inside in
    let t = c.if-self-part.self-inside in
    let part = c.args.part.now in
    let bytes = c.args.bytes.now in
    let log = c.push.new.self in
    let pushed : log ≡ s.log ++ bytes = c.in_ok-push.ensures.ok in
    let has : HasAll log c.in-Ok.world = subst (λ (l : Bytes). HasAll l c.in-Ok.world) c.bytes.ensures c.in-Ok.ensures.ok in
    let of_generation : t.generation ≡ s.generation = elim c.if-self-part.branch [
      | then-self-part w ↦ rw w.self-inside-is refl
      | else-self-part w ↦ rw w.self-inside-is refl
    ] in
    let of_log : t.log ≡ log = elim c.if-self-part.branch [
      | then-self-part w ↦ rw w.self-inside-is refl
      | else-self-part w ↦ rw w.self-inside-is refl
    ] in
    let of_shown : t.shown ≡ c.in-Ok.world = elim c.if-self-part.branch [
      | then-self-part w ↦ rw w.self-inside-is c.replace-last.ensures.after
      | else-self-part w ↦ rw w.self-inside-is c.replace-last.ensures.after
    ] in
    let all : HasAll t.log c.in-Ok.world = subst (λ (l : Bytes). HasAll l c.in-Ok.world) (sym of_log) has in
    let same : part.generation ≡ s.generation = subst (λ (n : Followed). part.generation ≡ n.generation) (sym c.self.view_is) c.requires.generation in
    let end : c.args.reached ≡ part.end = omega (arith, c.if-reached-part-2.false, c.requires.piece.within) in
    let from : part.from ≡ first_place s.generation + length s.log = subst (λ (n : Followed). part.from ≡ place n) (sym c.self.view_is) c.requires.from in
    let took : IfSome t.second (HasTaken log) = elim c.if-self-part.branch [
      | then-self-part w ↦ rw w.self-inside-is
          (last_second s.log bytes log s.shown c.replace-last.result pushed c.replace-last.ensures.value (c.self.invariant.2.shown_took (w.if-self-part.true ∙ same)))
      | else-self-part w ↦ rw w.self-inside-is (none_second log c.take-second.new.self c.take-second.ensures.after)
    ] in
    goes_whole t.generation s.log bytes t.log part c.args.reached c.in-Ok.world t.shown t.second (of_log ∙ pushed) (same ∙ sym of_generation)
    (from ∙ ap (λ (g : ℕ). first_place g + length s.log) (sym of_generation)) c.requires.piece.place_is end of_shown all
    (subst (λ (l : Bytes). IfSome t.second (HasTaken l)) (sym of_log) took)

pub invariant_of-self-else-if-drop : goal.invariant_of-self-else-if-drop
invariant_of-self-else-if-drop c =
    let s = c.self.inside in
    let t = c.if-self-part.self-inside in
    let part = c.args.part.now in
    let bytes = c.args.bytes.now in
    let log = c.push.new.self in
    let pushed : log ≡ s.log ++ bytes = c.in_ok-push.ensures.ok in
    let has : HasAll log c.in-Ok.world = subst (λ (l : Bytes). HasAll l c.in-Ok.world) c.bytes.ensures c.in-Ok.ensures.ok in
    let of_generation : t.generation ≡ s.generation = elim c.if-self-part.branch [
      | then-self-part w ↦ rw w.self-inside-is refl
      | else-self-part w ↦ rw w.self-inside-is refl
    ] in
    let of_log : t.log ≡ log = elim c.if-self-part.branch [
      | then-self-part w ↦ rw w.self-inside-is refl
      | else-self-part w ↦ rw w.self-inside-is refl
    ] in
    let of_shown : t.shown ≡ c.in-Ok.world = elim c.if-self-part.branch [
      | then-self-part w ↦ rw w.self-inside-is c.replace-last.ensures.after
      | else-self-part w ↦ rw w.self-inside-is c.replace-last.ensures.after
    ] in
    let all : HasAll t.log c.in-Ok.world = subst (λ (l : Bytes). HasAll l c.in-Ok.world) (sym of_log) has in
    let same : part.generation ≡ s.generation = subst (λ (n : Followed). part.generation ≡ n.generation) (sym c.self.view_is) c.requires.generation in
    let end : c.args.reached ≡ part.end = omega (arith, c.if-reached-part-2.false, c.requires.piece.within) in
    let from : part.from ≡ first_place s.generation + length s.log = subst (λ (n : Followed). part.from ≡ place n) (sym c.self.view_is) c.requires.from in
    let took : IfSome t.second (HasTaken log) = elim c.if-self-part.branch [
      | then-self-part w ↦ rw w.self-inside-is
          (last_second s.log bytes log s.shown c.replace-last.result pushed c.replace-last.ensures.value (c.self.invariant.2.shown_took (w.if-self-part.true ∙ same)))
      | else-self-part w ↦ rw w.self-inside-is (none_second log c.take-second.new.self c.take-second.ensures.after)
    ] in
    goes_whole t.generation s.log bytes t.log part c.args.reached c.in-Ok.world t.shown t.second (of_log ∙ pushed) (same ∙ sym of_generation)
    (from ∙ ap (λ (g : ℕ). first_place g + length s.log) (sym of_generation)) c.requires.piece.place_is end of_shown all
    (subst (λ (l : Bytes). IfSome t.second (HasTaken l)) (sym of_log) took)

pub returns-after-self-part-clause-heard : goal.returns-after-self-part-clause-heard
returns-after-self-part-clause-heard c =
    let s = c.self.inside in
    let t = c.if-self-part.self-inside in
    let part = c.args.part.now in
    let bytes = c.args.bytes.now in
    let log = c.push.new.self in
    let pushed : log ≡ s.log ++ bytes = c.in_ok-push.ensures.ok in
    let has : HasAll log c.in-Ok.world = subst (λ (l : Bytes). HasAll l c.in-Ok.world) c.bytes.ensures c.in-Ok.ensures.ok in
    let of_generation : t.generation ≡ s.generation = elim c.if-self-part.branch [
      | then-self-part w ↦ rw w.self-inside-is refl
      | else-self-part w ↦ rw w.self-inside-is refl
    ] in
    let of_log : t.log ≡ log = elim c.if-self-part.branch [
      | then-self-part w ↦ rw w.self-inside-is refl
      | else-self-part w ↦ rw w.self-inside-is refl
    ] in
    let of_shown : t.shown ≡ c.in-Ok.world = elim c.if-self-part.branch [
      | then-self-part w ↦ rw w.self-inside-is c.replace-last.ensures.after
      | else-self-part w ↦ rw w.self-inside-is c.replace-last.ensures.after
    ] in
    let all : HasAll t.log c.in-Ok.world = subst (λ (l : Bytes). HasAll l c.in-Ok.world) (sym of_log) has in
    let same : part.generation ≡ s.generation = subst (λ (n : Followed). part.generation ≡ n.generation) (sym c.self.view_is) c.requires.generation in
    let end : c.args.reached ≡ part.end = omega (arith, c.if-reached-part-2.false, c.requires.piece.within) in
    let node = c.args.self.now in
    let view_generation : s.generation ≡ node.generation = ap (λ (n : Followed). n.generation) c.self.view_is in
    let view_log : s.log ≡ node.taken = ap (λ (n : Followed). n.taken) c.self.view_is in
    let publishes = goes_published node part bytes t.log t.generation c.in-Ok.world t.shown c.requires.generation c.requires.from
    (sym c.requires.piece.place_is ∙ end) (of_generation ∙ view_generation) (of_log ∙ pushed ∙ ap (λ (l : Bytes). l ++ bytes) view_log) of_shown all in
    elim c.if-drop.branch [
      | then-drop w ↦ rw w.self-is publishes
      | else-drop w ↦ rw w.self-is publishes
    ]
