-- The order in which channels expire.
use Rattle.std.proofs.Common.{◌≡◌, ◌≤◌, ◌∙◌, ℕ, min, Bool, true, false, refl, sym, ap, subst, List, [], ◌∷◌, arith}
use Rattle.std.specs.Prelude.{◌||◌, Option, Some, None, filter, find, is_some}
use Rattle.std.specs.List.{list_all, AllByRecursion}
use Rattle.std.proofs.lemmas.Bool.Decides.{nat_tests}
use Rattle.byte_text.specs.Names.{Bytes, before}
use Rattle.byte_text.specs.ByteOrder.{before_asym, before_trans, before_tie, other_before, same_refl}
use Rattle.ordered_lists.specs.Lists.{insert_by, sorted_by}
use Rattle.ordered_lists.specs.Reading.{both_of, each-filter, filter-passes}
use Rattle.ordered_lists.specs.Sorting.{all-sorted_by, each-sorted_by}
use Rattle.world_data.specs.declared.channels.Channel.{Channel}
use Rattle.world_data.specs.Expiry.{channel_due_before, is_channel_due}
use Rattle.world_data.specs.Worlds.{are_channels, channel_before, is_named}
use Rattle.channel_hub.specs.DueOrder.{expiring}
use Rattle.channel_hub.specs.Dues.{earlier, least_due}
use Rattle.channel_hub.proofs.Inserting.{fails, goes_here, goes_on, passes}

-- the order is one of moments and names

name_down : (x y c : Bytes) → before y x ≡ false → before y c ≡ true → before x c ≡ true
name_down x y c p q = by_order (before x y) refl
  where
    by_order : (b : Bool) → before x y ≡ b → before x c ≡ true
    by_order true e = before_trans x y c e q
    by_order false e = subst (λ (n : Bytes). before n c ≡ true) (before_tie y x p e) q

pub goes_down : (x y c : Channel) → channel_due_before y x ≡ false → channel_due_before y c ≡ true → channel_due_before x c ≡ true
goes_down x y c p q = let names = name_down x.name y.name c.name in grind (arith, nat_tests)

pub due_asym : (x y : Channel) → channel_due_before x y ≡ true → channel_due_before y x ≡ false
due_asym x y p = let names = before_asym x.name y.name in grind (arith, nat_tests)

pub due_apart : (x y : Channel) → before x.name y.name ≡ true → (channel_due_before x y || channel_due_before y x) ≡ true
due_apart x y p = grind (arith, nat_tests)

-- what goes before one that is due, and has a deadline, is due
pub due_down : (now : ℕ) (x y : Channel) → is_some x.deadline ≡ true → channel_due_before y x ≡ false → is_channel_due now y ≡ true → is_channel_due now x ≡ true
due_down now x y some p q = grind (arith, nat_tests)

-- the first that expires has the least deadline

abbrev pub first_deadline : List Channel → Option ℕ
first_deadline [] = None
first_deadline (c ∷ cs) = c.deadline

first_of_two : (c y : Channel) (a b : ℕ) → c.deadline ≡ Some a → y.deadline ≡ Some b → channel_due_before y c ≡ true → b ≤ a
first_of_two c y a b e f before_it = grind (arith, nat_tests)

last_of_two : (c y : Channel) (a b : ℕ) → c.deadline ≡ Some a → y.deadline ≡ Some b → channel_due_before y c ≡ false → a ≤ b
last_of_two c y a b e f behind = grind (arith, nat_tests)

least_insert : (c : Channel) (a : ℕ) (ys : List Channel) → c.deadline ≡ Some a → list_all (λ d. is_some d.deadline) ys ≡ true → earlier (Some a) (first_deadline ys) ≡ first_deadline (insert_by channel_due_before c ys)
least_insert c a [] e all = sym e
least_insert c a (y ∷ ys) e all =
    let p = both_of (is_some y.deadline) (list_all (λ d. is_some d.deadline) ys) all in
    by_deadline y.deadline refl p.0
  where
    by_order : (b : ℕ) → y.deadline ≡ Some b → (o : Bool) → channel_due_before y c ≡ o → earlier (Some a) y.deadline ≡ first_deadline (insert_by channel_due_before c (y ∷ ys))
    by_order b f true o =
        let le = first_of_two c y a b e f o in
        let least : min a b ≡ b = omega (arith, le) in
        ap (earlier (Some a)) f ∙ ap (λ (n : ℕ). Some n) least ∙ sym f ∙ sym (ap first_deadline (goes_on channel_due_before c y ys o))
    by_order b f false o =
        let le = last_of_two c y a b e f o in
        let least : min a b ≡ a = omega (arith, le) in
        ap (earlier (Some a)) f ∙ ap (λ (n : ℕ). Some n) least ∙ sym e ∙ sym (ap first_deadline (goes_here channel_due_before c y ys o))

    by_deadline : (d : Option ℕ) → y.deadline ≡ d → is_some y.deadline ≡ true → earlier (Some a) y.deadline ≡ first_deadline (insert_by channel_due_before c (y ∷ ys))
    by_deadline None f some = let none : is_some y.deadline ≡ false = ap is_some f in absurd (cc)
    by_deadline (Some b) f some = by_order b f (channel_due_before y c) refl

pub least_first : (cs : List Channel) → least_due cs ≡ first_deadline (expiring cs)
least_first [] = refl
least_first (c ∷ cs) = by_deadline c.deadline refl (least_first cs)
  where
    by_deadline : (d : Option ℕ) → c.deadline ≡ d → least_due cs ≡ first_deadline (expiring cs) → earlier c.deadline (least_due cs) ≡ first_deadline (expiring (c ∷ cs))
    by_deadline None e ih =
        let none : is_some c.deadline ≡ false = ap is_some e in
        ap (λ (o : Option ℕ). earlier o (least_due cs)) e ∙ ih ∙ sym (ap (λ (l : List Channel). first_deadline (sorted_by channel_due_before l)) (fails (λ d. is_some d.deadline) c cs none))
    by_deadline (Some a) e ih =
        let has : is_some c.deadline ≡ true = ap is_some e in
        let all = all-sorted_by channel_due_before (λ d. is_some d.deadline) (filter (λ d. is_some d.deadline) cs) (filter-passes (λ d. is_some d.deadline) cs) in
        ap (λ (o : Option ℕ). earlier o (least_due cs)) e ∙ ap (earlier (Some a)) ih ∙ least_insert c a (expiring cs) e all
        ∙ sym (ap (λ (l : List Channel). first_deadline (sorted_by channel_due_before l)) (passes (λ d. is_some d.deadline) c cs has))

-- each that expires is found by its name

abbrev pub IsFound : List Channel → Channel → Type 0
IsFound cs d = find (is_named d.name) cs ≡ Some d

each_found : (cs : List Channel) → are_channels cs ≡ true → AllByRecursion (IsFound cs) cs
each_found [] asc = tt
each_found (c ∷ cs) asc =
    let p = both_of (list_all (channel_before c) cs) (are_channels cs) asc in
    (here (same_refl c.name), behind cs p.0 (each_found cs p.1))
  where
    here : is_named c.name c ≡ true → IsFound (c ∷ cs) c
    here e = rw e refl

    behind : (ds : List Channel) → list_all (channel_before c) ds ≡ true → AllByRecursion (IsFound cs) ds → AllByRecursion (IsFound (c ∷ cs)) ds
    behind [] all each = tt
    behind (d ∷ ds) all each =
        let p = both_of (channel_before c d) (list_all (channel_before c) ds) all in
        (one d (other_before c.name d.name p.0) each.0, behind ds p.1 each.1)
      where
        one : (d : Channel) → is_named d.name c ≡ false → IsFound cs d → IsFound (c ∷ cs) d
        one d e is = rw e is

pub expiring_found : (cs : List Channel) → are_channels cs ≡ true → AllByRecursion (IsFound cs) (expiring cs)
expiring_found cs asc =
    each-sorted_by channel_due_before (IsFound cs) (filter (λ c. is_some c.deadline) cs) (each-filter (IsFound cs) (λ c. is_some c.deadline) cs (each_found cs asc))
