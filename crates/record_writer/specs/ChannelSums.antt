-- The weight of channels, and what changes of them make of it.
use Rattle.std.proofs.Common.{◌≡◌, ◌+◌, Bool, true, false, not, refl, sym, ap, ◌∙◌, subst, List, [], ◌∷◌, arith}
use Rattle.std.specs.Prelude.{Some, None, sum_by, find, filter, if◌then◌else◌}
use Rattle.std.specs.List.{list_all}
use Rattle.std.proofs.lemmas.List.Sums.{sum_by-cons}
use Rattle.byte_text.specs.Names.{Bytes, before, same}
use Rattle.byte_text.specs.ByteOrder.{before_tie, before_self, before_trans, other_behind, same_refl, same_equal}
use Rattle.ordered_lists.specs.Lists.{put_in}
use Rattle.world_data.specs.Worlds.{are_channels, channel_before, is_named}
use Rattle.world_data.specs.declared.channels.Channel.{Channel}
use Rattle.record_writer.specs.Lengths.{len_of_channel}

-- a channel is the one of its name

named_is : (name : Bytes) (c : Channel) → is_named name c ≡ true → c.name ≡ name
named_is name c e = same_equal c.name name e

others_stay : (name : Bytes) (p : Channel) (qs : List Channel) → p.name ≡ name → list_all (channel_before p) qs ≡ true
    → filter (λ c. not (is_named name c)) qs ≡ qs
others_stay name p [] is all = refl
others_stay name p (q ∷ qs) is all =
    let here : channel_before p q ≡ true = grind arith in
    let rest : list_all (channel_before p) qs ≡ true = grind arith in
    let other : is_named name q ≡ false = subst (λ (n : Bytes). same q.name n ≡ false) is (other_behind q.name p.name here) in
    rw other (ap (λ (zs : List Channel). q ∷ zs) (others_stay name p qs is rest))

none_behind : (x p : Channel) (qs : List Channel) → channel_before x p ≡ true → list_all (channel_before p) qs ≡ true
    → find (is_named x.name) qs ≡ None
none_behind x p [] a all = refl
none_behind x p (q ∷ qs) a all =
    let here : channel_before p q ≡ true = grind arith in
    let rest : list_all (channel_before p) qs ≡ true = grind arith in
    let other : is_named x.name q ≡ false = other_behind q.name x.name (before_trans x.name p.name q.name a here) in
    rw other (none_behind x p qs a rest)

not_before : (x y : Channel) → is_named x.name y ≡ true → channel_before x y ≡ false
not_before x y s = subst (λ (n : Bytes). before x.name n ≡ false) (sym (named_is x.name y s)) (before_self x.name)

not_behind : (x y : Channel) → is_named x.name y ≡ true → channel_before y x ≡ false
not_behind x y s = subst (λ (n : Bytes). before n x.name ≡ false) (sym (named_is x.name y s)) (before_self x.name)

tied : (x y : Channel) → channel_before x y ≡ false → channel_before y x ≡ false → is_named x.name y ≡ true
tied x y p q = subst (λ (n : Bytes). same y.name n ≡ true) (sym (before_tie x.name y.name p q)) (same_refl y.name)

-- the channel of a name is taken out
pub taken_weight : (name : Bytes) (cs : List Channel) (c : Channel) → are_channels cs ≡ true → find (is_named name) cs ≡ Some c
    → sum_by len_of_channel (filter (λ d. not (is_named name d)) cs) + len_of_channel c ≡ sum_by len_of_channel cs
taken_weight name [] c asc e = absurd (cc)
taken_weight name (x ∷ xs) c asc e =
    let behind : list_all (channel_before x) xs ≡ true = grind arith in
    let rest : are_channels xs ≡ true = grind arith in
    by (is_named name x) refl behind (taken_weight name xs c rest) e
  where
    by : (t : Bool) → is_named name x ≡ t → list_all (channel_before x) xs ≡ true
        → (find (is_named name) xs ≡ Some c
        → sum_by len_of_channel (filter (λ d. not (is_named name d)) xs) + len_of_channel c ≡ sum_by len_of_channel xs)
        → (if t then Some x else find (is_named name) xs) ≡ Some c
        → sum_by len_of_channel (if not t then x ∷ filter (λ d. not (is_named name d)) xs else filter (λ d. not (is_named name d)) xs) +
        len_of_channel c ≡ sum_by len_of_channel (x ∷ xs)
    by true a behind ih e =
        let is : x ≡ c = cc in
        let long : len_of_channel x ≡ len_of_channel c = ap len_of_channel is in
        let stay = ap (sum_by len_of_channel) (others_stay name x xs (named_is name x a) behind) in
        omega (arith, long, stay, sum_by-cons len_of_channel x xs)
    by false a behind ih e = let part = ih e
        in omega (arith, part, sum_by-cons len_of_channel x xs, sum_by-cons len_of_channel x (filter (λ d. not (is_named name d)) xs))

-- a channel is put where none stood
pub new_weight : (x : Channel) (cs : List Channel) → find (is_named x.name) cs ≡ None
    → sum_by len_of_channel (put_in channel_before x cs) ≡ sum_by len_of_channel cs + len_of_channel x
new_weight x [] e = sum_by-cons len_of_channel x [] ∙ omega arith
new_weight x (y ∷ ys) e = by (channel_before x y) (channel_before y x) refl refl (new_weight x ys) (is_named x.name y) refl e
  where
    no_some : Some y ≡ None → ⊥
    no_some n = absurd (cc)

    by : (a b : Bool) → channel_before x y ≡ a → channel_before y x ≡ b
        → (find (is_named x.name) ys ≡ None → sum_by len_of_channel (put_in channel_before x ys) ≡ sum_by len_of_channel ys + len_of_channel x)
        → (t : Bool) → is_named x.name y ≡ t → (if t then Some y else find (is_named x.name) ys) ≡ None
        → sum_by len_of_channel (if a then x ∷ y ∷ ys else if b then y ∷ put_in channel_before x ys else x ∷ ys)
        ≡ sum_by len_of_channel (y ∷ ys) + len_of_channel x
    by a b p q ih true s e = absurd (no_some e)
    by true b p q ih false s e = omega (arith, sum_by-cons len_of_channel x (y ∷ ys))
    by false true p q ih false s e = let part = ih e
        in omega (arith, part, sum_by-cons len_of_channel y ys, sum_by-cons len_of_channel y (put_in channel_before x ys))
    by false false p q ih false s e = let t = tied x y p q in absurd (cc)

-- a channel is put in the place of another
pub changed_weight : (x : Channel) (cs : List Channel) (c : Channel) → are_channels cs ≡ true → find (is_named x.name) cs ≡ Some c
    → sum_by len_of_channel (put_in channel_before x cs) + len_of_channel c ≡ sum_by len_of_channel cs + len_of_channel x
changed_weight x [] c asc e = absurd (cc)
changed_weight x (y ∷ ys) c asc e =
    let behind : list_all (channel_before y) ys ≡ true = grind arith in
    let rest : are_channels ys ≡ true = grind arith in
    by (channel_before x y) (channel_before y x) refl refl behind (changed_weight x ys c rest) (is_named x.name y) refl e
  where
    no_none : {A : Type 0} → (u : Channel) → None ≡ Some u → A
    no_none u n = absurd (cc)

    by : (a b : Bool) → channel_before x y ≡ a → channel_before y x ≡ b → list_all (channel_before y) ys ≡ true
        → (find (is_named x.name) ys ≡ Some c
        → sum_by len_of_channel (put_in channel_before x ys) + len_of_channel c ≡ sum_by len_of_channel ys + len_of_channel x) → (t : Bool)
        → is_named x.name y ≡ t
        → (if t then Some y else find (is_named x.name) ys) ≡ Some c
        → sum_by len_of_channel (if a then x ∷ y ∷ ys else if b then y ∷ put_in channel_before x ys else x ∷ ys) + len_of_channel c
        ≡ sum_by len_of_channel (y ∷ ys) + len_of_channel x
    by true b p q behind ih true s e = let t = not_before x y s in absurd (cc)
    by true b p q behind ih false s e = let none = none_behind x y ys p behind in no_none c (sym none ∙ e)
    by false true p q behind ih true s e = let t = not_behind x y s in absurd (cc)
    by false true p q behind ih false s e = let part = ih e
        in omega (arith, part, sum_by-cons len_of_channel y ys, sum_by-cons len_of_channel y (put_in channel_before x ys))
    by false false p q behind ih true s e = let is : y ≡ c = cc in let long : len_of_channel y ≡ len_of_channel c = ap len_of_channel is
        in omega (arith, long, sum_by-cons len_of_channel y ys, sum_by-cons len_of_channel x ys)
    by false false p q behind ih false s e = let t = tied x y p q in absurd (cc)
