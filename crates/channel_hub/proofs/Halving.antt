-- A place that halving finds among slots is one among their channels.
use Rattle.std.proofs.Common.{◌≡◌, ◌≢◌, ◌<◌, ◌≤◌, ◌+◌, ℕ, zero, suc, Bool, true, false, not, refl, sym, ap, ◌∙◌, subst, List, [], ◌∷◌, length, take, drop, arith}
use Rattle.std.specs.Prelude.{Option, Some, None, IfSome, IsSome, find, nat_eq, slice_get}
use Rattle.std.specs.List.{list_all}
use Rattle.std.proofs.lemmas.Bool.Decides.{nat_tests}
use Rattle.byte_text.specs.ByteOrder.{before_trans, behind_others}
use Rattle.byte_text.specs.ListLaws.{drop_next, item_at}
use Rattle.byte_text.specs.Names.{Bytes, before, same}
use Rattle.ordered_lists.specs.Lists.{IsHeld, IsFree}
use Rattle.ordered_lists.specs.NameOrder.{name_ties}
use Rattle.ordered_lists.specs.Reading.{both_of, past_end}
use Rattle.ordered_lists.specs.Slots.{Stores}
use Rattle.run_list.specs.Runs.{is_cut}
use Rattle.world_data.specs.declared.channels.Channel.{Channel}
use Rattle.world_data.specs.Worlds.{are_channels, channel_before, is_named}
use Rattle.channel_hub.specs.Hubs.{stands_before}
use Rattle.channel_hub.proofs.ChannelsByName.{found, lacking}

not_true : (b : Bool) → not b ≡ true → b ≡ false
not_true b e = grind arith

module _ (f : ℕ → Option Channel) (name : Bytes) where
  -- what the slot of a channel is told is what the channel is told
  here_is : (s : ℕ) (c : Channel) → f s ≡ Some c → stands_before name (f s) ≡ before c.name name
  here_is s c is = ap (stands_before name) is

  none_before : (x : Channel) (order : List ℕ) (xs : List Channel) → Stores f order xs → before x.name name ≡ false → list_all (channel_before x) xs ≡ true
      → list_all (λ s. not (stands_before name (f s))) order ≡ true
  none_before x [] xs e fails all = refl
  none_before x (s ∷ order) [] e fails all = absurd (cc)
  none_before x (s ∷ order) (y ∷ xs) e fails all =
      let here : f s ≡ Some y = cc in
      let rest : Stores f order xs = cc in
      let p = both_of (channel_before x y) (list_all (channel_before x) xs) all in
      let fails_too = here_is s y here ∙ later (before y.name name) refl p.0 in
      rw (fails_too, none_before x order xs rest fails p.1) refl
    where
      later : (b : Bool) → before y.name name ≡ b → channel_before x y ≡ true → before y.name name ≡ false
      later false e p = e
      later true e p = let over = before_trans x.name y.name name p e in absurd (cc)

  -- those that stand before a name are in front
  pub name_cut : (order : List ℕ) (xs : List Channel) → Stores f order xs → are_channels xs ≡ true → is_cut (λ s. stands_before name (f s)) order ≡ true
  name_cut [] xs e asc = refl
  name_cut (s ∷ order) [] e asc = absurd (cc)
  name_cut (s ∷ order) (x ∷ xs) e asc =
      let here : f s ≡ Some x = cc in
      let rest : Stores f order xs = cc in
      let p = both_of (list_all (channel_before x) xs) (are_channels xs) asc in
      by_test (before x.name name) refl here (name_cut order xs rest p.1) (λ fails. none_before x order xs rest fails p.0)
    where
      by_test : (b : Bool) → before x.name name ≡ b → f s ≡ Some x → is_cut (λ s. stands_before name (f s)) order ≡ true
          → (before x.name name ≡ false → list_all (λ s. not (stands_before name (f s))) order ≡ true) → is_cut (λ s. stands_before name (f s)) (s ∷ order) ≡ true
      by_test true b here more none = let it = here_is s x here ∙ b in rw it more
      by_test false b here more none = let it = here_is s x here ∙ b in rw it (none b)

  pub front_channels : (order : List ℕ) (xs : List Channel) (at : ℕ) → Stores f order xs → list_all (λ s. stands_before name (f s)) (take at order) ≡ true
      → list_all (λ (c : Channel). before c.name name) (take at xs) ≡ true
  front_channels [] [] zero e front = refl
  front_channels [] [] (suc at) e front = refl
  front_channels [] (x ∷ xs) at e front = absurd (cc)
  front_channels (s ∷ order) [] at e front = absurd (cc)
  front_channels (s ∷ order) (x ∷ xs) zero e front = refl
  front_channels (s ∷ order) (x ∷ xs) (suc at) e front =
      let here : f s ≡ Some x = cc in
      let rest : Stores f order xs = cc in
      let p = both_of (stands_before name (f s)) (list_all (λ s. stands_before name (f s)) (take at order)) front in
      rw (sym (here_is s x here) ∙ p.0, front_channels order xs at rest p.1) refl

  pub behind_channels : (order : List ℕ) (xs : List Channel) (at : ℕ) → Stores f order xs → list_all (λ s. not (stands_before name (f s))) (drop at order) ≡ true
      → list_all (λ (c : Channel). not (before c.name name)) (drop at xs) ≡ true
  behind_channels [] [] zero e behind = refl
  behind_channels [] [] (suc at) e behind = refl
  behind_channels [] (x ∷ xs) at e behind = absurd (cc)
  behind_channels (s ∷ order) [] at e behind = absurd (cc)
  behind_channels (s ∷ order) (x ∷ xs) zero e behind =
      let here : f s ≡ Some x = cc in
      let rest : Stores f order xs = cc in
      let p = both_of (not (stands_before name (f s))) (list_all (λ s. not (stands_before name (f s))) order) behind in
      let fails = sym (here_is s x here) ∙ not_true (stands_before name (f s)) p.0 in
      rw (fails, behind_channels order xs zero rest p.1) refl
  behind_channels (s ∷ order) (x ∷ xs) (suc at) e behind =
      let rest : Stores f order xs = cc in
      behind_channels order xs at rest behind

-- so it is the place of the channel of the name, or the place where that would go
module _ (name : Bytes) (xs : List Channel) (asc : are_channels xs ≡ true) (at : ℕ) (bound : at ≤ length xs)
    (front : list_all (λ (c : Channel). before c.name name) (take at xs) ≡ true) (behind : list_all (λ (c : Channel). not (before c.name name)) (drop at xs) ≡ true) where
  abbrev Held : Type 0
  Held = IsHeld (λ (c : Channel). before c.name name) (λ c. before name c.name) xs at

  abbrev Free : Type 0
  Free = IsFree (λ (c : Channel). before c.name name) (λ c. before name c.name) xs at

  place_is : {P : Type 0} → (Held → (c : Channel) → find (is_named name) xs ≡ Some c → P) → (Free → find (is_named name) xs ≡ None → P) → P
  place_is {P = P} held free = by_end (nat_eq at (length xs)) refl
    where
      no_channel : Free → P
      no_channel at_end = free at_end (lacking name xs at asc at_end)

      not_before : (c : Channel) → slice_get xs at ≡ Some c → before c.name name ≡ false
      not_before c is =
          let all : list_all (λ (d : Channel). not (before d.name name)) (c ∷ drop (at + 1) xs) ≡ true = subst (λ (l : List Channel). list_all (λ (d : Channel). not (before d.name name)) l ≡ true) (drop_next xs at c is) behind in
          not_true (before c.name name) (both_of (not (before c.name name)) (list_all (λ (d : Channel). not (before d.name name)) (drop (at + 1) xs)) all).0

      by_name : (c : Channel) → at < length xs → slice_get xs at ≡ Some c → (b : Bool) → same c.name name ≡ b → P
      by_name c within is true n =
          let it : Held = record {
            front = front;
            within = within;
            tie = subst (λ (o : Option Channel). IfSome o (λ d. (before name d.name ≡ false) × (before d.name name ≡ false))) (sym is) (name_ties (λ (d : Channel). d.name) name c n);
          } in
          held it c (found name xs at c it is)
      by_name c within is false n = no_channel (record {
        front = front;
        within = bound;
        behind = subst (λ (o : Option Channel). IfSome o (λ d. before name d.name ≡ true)) (sym is) (behind_others c.name name (not_before c is) n);
      })

      by_end : (b : Bool) → nat_eq at (length xs) ≡ b → P
      by_end true e =
          let end : at ≡ length xs = grind (arith, nat_tests) in
          no_channel (record {
            front = front;
            within = bound;
            behind = subst (λ (n : ℕ). IfSome (slice_get xs n) (λ d. before name d.name ≡ true)) (sym end) (past_end xs (λ d. before name d.name ≡ true));
          })
      by_end false e =
          let other : at ≢ length xs = grind (arith, nat_tests) in
          let within : at < length xs = omega (arith, bound, other) in
          let one = item_at xs at within in
          by_name one.0 within one.1 (same one.0.name name) refl

  pub place_held : IsSome (find (is_named name) xs) → Held
  place_held some = place_is (λ it c is. it) (λ it none. none_some (find (is_named name) xs) none some)
    where
      none_some : (o : Option Channel) → o ≡ None → IsSome o → Held
      none_some None e some = absurd (cc)
      none_some (Some c) e some = absurd (cc)

  pub place_free : find (is_named name) xs ≡ None → Free
  place_free none = place_is (λ it c is. let both : Some c ≡ None = sym is ∙ none in absurd (cc)) (λ it e. it)
