use Rattle.std.proofs.Common.{◌≡◌, ℕ, ◌+◌, ◌-◌, ◌≤◌, List, [], ◌∷◌, ◌++◌, length, get_or, reverse, vec_len, take, drop, rules, arith, sym, ◌∙◌, ap}
use Rattle.std.proofs.lemmas.List.{take-take, take_more, drop_more, same_from_push, reverse-append}
use Rattle.rtree.proofs.moves.move_tail.Goals as goal

tail_more : {T : Type 0} (init old new : List T) (n m : ℕ) (x : T) → n ≤ length init → n ≡ m + 1 → old ≡ take n init → old ≡ new ++ x ∷ [] → drop m init ≡ x ∷ drop n init
tail_more init old new n m x within more is pushed =
    let e : new ++ x ∷ [] ≡ take m init ++ get_or init m x ∷ [] = sym pushed ∙ (is ∙ (ap (λ k. take k init) more ∙ take_more init m x (omega arith))) in
    let s = (same_from_push new (take m init) x (get_or init m x) e).1 in
    drop_more init m x (omega arith) ∙ (ap (λ y. y ∷ drop (m + 1) init) (sym s) ∙ ap (λ k. x ∷ drop k init) (sym more))

-- the tail backwards, with one item more
backwards_more : {T : Type 0} (init old new : List T) (n m : ℕ) (x : T) → n ≤ length init → n ≡ m + 1 → old ≡ take n init → old ≡ new ++ x ∷ [] → reverse (drop n init) ++ x ∷ [] ≡ reverse (drop m init)
backwards_more init old new n m x within more is pushed =
    sym (reverse-append (x ∷ []) (drop n init)) ∙ ap reverse (sym (tail_more init old new n m x within more is pushed))

pub loop-from-preserved-in-Some : goal.loop-from-preserved-in-Some
loop-from-preserved-in-Some g c =
    let init = c.args.from.now.items in
    let n = vec_len c.loop-from.from in
    let m = vec_len c.pop.new.self in
    let more : n ≡ m + 1 = search rules in
    let less : n - 1 ≡ m = omega arith in
    let inv = c.loop-from.invariant in
    record {
      enough = omega arith;
      kept = c.pop.ensures.rest ∙ (ap (take (n - 1)) inv.kept ∙ (take-take (n - 1) n init (omega arith) ∙ ap (λ k. take k init) less));
      moved = c.push_reserved.ensures.items ∙ (ap (λ xs. xs ++ c.in-Some.item ∷ []) inv.moved ∙ backwards_more init c.loop-from.from.items c.pop.new.self.items n m c.in-Some.item (search rules) more inv.kept c.in-Some.ensures.items);
      whole = search rules;
      from_room = search rules;
      to_room = search rules;
    }
