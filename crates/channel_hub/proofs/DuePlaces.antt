-- The channel that expires first, and its place by name.
use Rattle.std.proofs.Common.{◌≡◌, ◌<◌, ◌≤◌, ◌+◌, ◌∙◌, ℕ, zero, suc, Bool, true, false, refl, sym, ap, subst, List, [], ◌∷◌, length, get_or, arith}
use Rattle.std.specs.Prelude.{Option, Some, None, IsSome, find, nat_le, slice_get, slice_index}
use Rattle.std.specs.List.{list_all, AllByRecursion, remove}
use Rattle.std.proofs.lemmas.Bool.Decides.{nat_tests}
use Rattle.byte_text.specs.ListLaws.{item_at}
use Rattle.byte_text.specs.Names.{before}
use Rattle.ordered_lists.specs.Lists.{IsHeld}
use Rattle.world_data.specs.declared.channels.Channel.{Channel}
use Rattle.world_data.specs.Expiry.{is_channel_due}
use Rattle.world_data.specs.Worlds.{is_named}
use Rattle.channel_hub.specs.DueOrder.{dues_of, expiring, has_deadline}
use Rattle.channel_hub.specs.DuePlaces.{place_among, place_in}
use Rattle.channel_hub.specs.Dues.{least_due, left_at}
use Rattle.channel_hub.specs.Hubs.{AreInOrder, channels_in}
use Rattle.channel_hub.proofs.ChannelsByName.{found}
use Rattle.channel_hub.proofs.DueFrom.{all_left, from_least}
use Rattle.channel_hub.proofs.DueSlots.{all_expire, dues_expiring, has_one, some_in}
use Rattle.channel_hub.proofs.Order.{at_place}
use Rattle.channel_hub.proofs.Expiring.{IsFound, expiring_found, first_deadline, least_first}

module _ (f : ℕ → Option Channel) (order dues : List ℕ) (o : AreInOrder f order) (is : dues ≡ dues_of f order) where
  listed : channels_in f dues ≡ expiring (channels_in f order)
  listed = ap (channels_in f) is ∙ dues_expiring f order (channels_in f order) o.stored

  -- where there is a deadline, there is a slot of one that expires
  pub some_due : (d : ℕ) → least_due (channels_in f order) ≡ Some d → 0 < length dues
  some_due d least = by_dues dues refl
    where
      by_dues : (ts : List ℕ) → dues ≡ ts → 0 < length ts
      by_dues [] e =
          let none : least_due (channels_in f order) ≡ None = least_first (channels_in f order) ∙ ap first_deadline (sym listed ∙ ap (channels_in f) e) in
          let clash : Some d ≡ None = sym least ∙ none in
          absurd (cc)
      by_dues (t ∷ ts) e = omega arith

  -- the first has the least deadline
  pub first_least : (slot : ℕ) (c : Channel) → slice_get dues 0 ≡ Some slot → f slot ≡ Some c → least_due (channels_in f order) ≡ c.deadline
  first_least slot c first has = least_first (channels_in f order) ∙ ap first_deadline (sym listed ∙ in_front dues first)
    where
      rest : List ℕ → List Channel
      rest [] = []
      rest (t ∷ ts) = channels_in f ts

      in_front : (ts : List ℕ) → slice_get ts 0 ≡ Some slot → channels_in f ts ≡ c ∷ rest ts
      in_front [] e = absurd (cc)
      in_front (t ∷ ts) e =
          let it : t ≡ slot = cc in
          let here : f t ≡ Some c = ap f it ∙ has in
          rw here refl

  -- each is found by its name
  pub due_found : (at slot : ℕ) (c : Channel) → slice_get dues at ≡ Some slot → f slot ≡ Some c → IsFound (channels_in f order) c
  due_found at slot c is has =
      let all = expiring_found (channels_in f order) o.by_name in
      each_at dues at is (subst (AllByRecursion (IsFound (channels_in f order))) (sym listed) all)
    where
      both_found : (ts : List ℕ) (t : ℕ) (d : Channel) → f t ≡ Some d → AllByRecursion (IsFound (channels_in f order)) (channels_in f (t ∷ ts))
          → IsFound (channels_in f order) d × AllByRecursion (IsFound (channels_in f order)) (channels_in f ts)
      both_found ts t d h each = rw h at each

      skipped : (ts : List ℕ) (t : ℕ) (d : Option Channel) → f t ≡ d → AllByRecursion (IsFound (channels_in f order)) (channels_in f (t ∷ ts))
          → AllByRecursion (IsFound (channels_in f order)) (channels_in f ts)
      skipped ts t None h each = rw h at each
      skipped ts t (Some d) h each = (both_found ts t d h each).1

      each_at : (ts : List ℕ) (n : ℕ) → slice_get ts n ≡ Some slot → AllByRecursion (IsFound (channels_in f order)) (channels_in f ts) → IsFound (channels_in f order) c
      each_at [] n e each = absurd (cc)
      each_at (t ∷ ts) zero e each =
          let it : t ≡ slot = cc in
          (both_found ts t c (ap f it ∙ has) each).0
      each_at (t ∷ ts) (suc n) e each = each_at ts n e (skipped ts t (f t) refl each)

-- the channel that is found by its name stands at the place of the name
pub found_there : (xs : List Channel) (c : Channel) (at : ℕ) → IsFound xs c → IsHeld (λ (d : Channel). before d.name c.name) (λ d. before c.name d.name) xs at → slice_get xs at ≡ Some c
found_there xs c at is held =
    let one = item_at xs at held.within in
    let same : Some one.0 ≡ Some c = sym (found c.name xs at one.0 held one.1) ∙ is in
    one.1 ∙ same

pub is_found : (xs : List Channel) (c : Channel) → IsFound xs c → IsSome (find (is_named c.name) xs)
is_found xs c is = rw is refl

-- the first stands at its place
pub first_there : (f : ℕ → Option Channel) (order dues : List ℕ) (o : AreInOrder f order) (is : dues ≡ dues_of f order) (d : ℕ) → least_due (channels_in f order) ≡ Some d
    → (c : Channel) × (slice_get (channels_in f order) (place_among (channels_in f order) (f (slice_index dues 0))) ≡ Some c) × (c.deadline ≡ Some d)
first_there f order dues o is d least =
    let some = some_due f order dues o is d least in
    let first = at_place dues 0 0 (get_or dues 0 0) some refl in
    let one = some_in (f (get_or dues 0 0)) (has_one f dues 0 (get_or dues 0 0) first (subst (λ (l : List ℕ). list_all (λ s. has_deadline (f s)) l ≡ true) (sym is) (all_expire f order))) in
    let by_name = due_found f order dues o is 0 (get_or dues 0 0) one.0 first one.1 in
    (one.0, place_found (channels_in f order) one.0 by_name (f (get_or dues 0 0)) one.1, sym (first_least f order dues o is (get_or dues 0 0) one.0 first one.1) ∙ least)
  where
    place_found : (xs : List Channel) (c : Channel) → IsFound xs c → (p : Option Channel) → p ≡ Some c → slice_get xs (place_among xs p) ≡ Some c
    place_found xs c by_name p e = ap (λ (q : Option Channel). slice_get xs (place_among xs q)) e ∙ at_named xs by_name
      where
        at_named : (ys : List Channel) → find (is_named c.name) ys ≡ Some c → slice_get ys (place_in ys c) ≡ Some c
        at_named [] e = absurd (cc)
        at_named (y ∷ ys) e = by_test (is_named c.name y) refl (at_named ys)
          where
            next : (n : ℕ) → slice_get (y ∷ ys) (n + 1) ≡ slice_get ys n
            next n = let one : n + 1 ≡ suc n = omega arith in ap (slice_get (y ∷ ys)) one

            by_test : (b : Bool) → is_named c.name y ≡ b → (find (is_named c.name) ys ≡ Some c → slice_get ys (place_in ys c) ≡ Some c) → slice_get (y ∷ ys) (place_in (y ∷ ys) c) ≡ Some c
            by_test true n ih = let it : Some y ≡ Some c = rw n at e in rw n it
            by_test false n ih = let it : find (is_named c.name) ys ≡ Some c = rw n at e in rw n (next (place_in ys c) ∙ ih it)

-- none is due before the least deadline
pub none_yet : (now : ℕ) (xs : List Channel) → ((d : ℕ) → least_due xs ≡ Some d → now < d) → left_at now xs ≡ xs
none_yet now xs later =
    sym (all_left (now + 1) now xs (from_least xs (now + 1) (λ d e. let less = later d e in omega (arith, less))) (omega arith))

pub is_due : (now d : ℕ) (c : Channel) → c.deadline ≡ Some d → d ≤ now → is_channel_due now c ≡ true
is_due now d c e le = rw e (at_most d now le)
  where
    at_most : (a b : ℕ) → a ≤ b → nat_le a b ≡ true
    at_most a b le = grind (arith, nat_tests)

-- one that is due is not left anyway
pub left_removed : (now : ℕ) (xs : List Channel) (at : ℕ) (c : Channel) → slice_get xs at ≡ Some c → is_channel_due now c ≡ true → left_at now (remove xs at) ≡ left_at now xs
left_removed now [] at c is due = absurd (cc)
left_removed now (x ∷ xs) zero c is due =
    let it : x ≡ c = cc in
    let gone : is_channel_due now x ≡ true = ap (is_channel_due now) it ∙ due in
    rw gone refl
left_removed now (x ∷ xs) (suc at) c is due = let ih = left_removed now xs at c is due in grind arith
