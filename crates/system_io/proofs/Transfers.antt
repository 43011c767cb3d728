-- What parts of a read and of a write come to together.
use Rattle.std.proofs.Common.{◌≡◌, ◌+◌, ◌-◌, ◌^◌, ◌<◌, ◌≤◌, ℕ, List, ◌++◌, Option, Some, None, length, take, drop, min, sym, ap, ◌∙◌, arith, subst, IfSome, option_map, length-append, length-take, length-drop, append_assoc, take-append-drop}
use Rattle.std.proofs.lemmas.List.{take_at, drop_at, drop-drop, take-append-le}
use Rattle.std.proofs.Math.Seq.{take-add}
use Rattle.outside.specs.Disks.{write_over}
use Rattle.outside.specs.WriteLaws.{written_front, length-written_front, length-write_over, write_over-within}
use borrow.Rule.Slice.PartMut.{put_mid, post_of}

-- a write after one of its first part is the whole
write_rest : (at n : ℕ) (piece old : List ℕ) → n ≤ length piece → write_over (at + n) (drop n piece) (write_over at (take n piece) old) ≡ write_over at piece old
write_rest at n piece old le =
    let first = take n piece in
    let rest = drop n piece in
    let front = written_front at old in
    let now = write_over at first old in
    let long : length first ≡ n = omega (arith, length-take n piece, le) in
    let reach : length (front ++ first) ≡ at + n = length-append front first ∙ omega (arith, length-written_front at old, long) in
    let behind = drop (at + length first) old in
    let within : at + n ≤ length now = omega (arith, length-write_over at first old, long) in
    let before : take (at + n) now ≡ front ++ first = take_at (front ++ first) behind (at + n) reach in
    let same : at + length first + length rest ≡ at + length piece = omega (arith, long, length-drop n piece, le) in
    let after : drop (at + n + length rest) now ≡ drop (at + length piece) old =
    sym (drop-drop (length rest) (at + n) now)
    ∙ ap (λ (l : List ℕ). drop (length rest) l) (drop_at (front ++ first) behind (at + n) reach)
    ∙ drop-drop (length rest) (at + length first) old
    ∙ ap (λ (j : ℕ). drop j old) same in
    write_over-within (at + n) rest now within
    ∙ ap (λ (l : List ℕ). l ++ rest ++ drop (at + n + length rest) now) before
    ∙ ap (λ (l : List ℕ). front ++ first ++ rest ++ l) after
    ∙ ap (λ (l : List ℕ). l ++ drop (at + length piece) old) (append_assoc front first rest ∙ ap (λ (l : List ℕ). front ++ l) (take-append-drop n piece))

-- the same of what is told: what is left to be written stays the same write
pub write_on : (at n at' : ℕ) (rest rest' : List ℕ) (old now whole : Option (List ℕ)) → n ≤ length rest → at' ≡ at + n → rest' ≡ drop n rest
    → now ≡ option_map (write_over at (take n rest)) old → option_map (write_over at rest) old ≡ whole → option_map (write_over at' rest') now ≡ whole
write_on at n at' rest rest' None now whole le there left wrote same = ap (λ (o : Option (List ℕ)). option_map (write_over at' rest') o) wrote ∙ same
write_on at n at' rest rest' (Some old) now whole le there left wrote same =
    ap (λ (o : Option (List ℕ)). option_map (write_over at' rest') o) wrote
    ∙ ap (λ (j : ℕ). Some (write_over j rest' (write_over at (take n rest) old))) there
    ∙ ap (λ (l : List ℕ). Some (write_over (at + n) l (write_over at (take n rest) old))) left
    ∙ ap Some (write_rest at n rest old le)
    ∙ same

-- and the bytes reach to where it goes on
pub write_reaches : (at n at' : ℕ) (rest : List ℕ) (old now : Option (List ℕ)) → n ≤ length rest → at' ≡ at + n → now ≡ option_map (write_over at (take n rest)) old → IfSome now (λ s. at' ≤ length s)
write_reaches at n at' rest None now le there wrote = subst (λ (o : Option (List ℕ)). IfSome o (λ s. at' ≤ length s)) (sym wrote) tt
write_reaches at n at' rest (Some old) now le there wrote =
    subst (λ (o : Option (List ℕ)). IfSome o (λ s. at' ≤ length s)) (sym wrote) (omega (arith, there, length-write_over at (take n rest) old, length-take n rest, le))

-- so many of the bytes from an offset on stand in front
abbrev pub IsRead : ℕ → ℕ → List ℕ → List ℕ → Type 0
IsRead at got into s = (got ≤ length s - at) × (take got into ≡ take got (drop at s))

parts_read : (at from got n : ℕ) (into part : List ℕ) (told : Option (List ℕ)) → at < 2 ^ 64 → from ≡ min (at + got) (2 ^ 64 - 1) → got ≤ length into → n ≤ length part
    → IfSome told (λ s. length s < 2 ^ 64) → IfSome told (IsRead at got into) → IfSome told (λ s. n ≤ length s - from) → IfSome told (λ s. take n part ≡ take n (drop from s))
    → IfSome told (IsRead at (got + n) (put_mid got (length into - got) into part))
parts_read at from got n into part None range place room fits small before within bytes = tt
parts_read at from got n into part (Some s) range place room fits small before within bytes =
    let whole = put_mid got (length into - got) into part in
    let behind = part ++ post_of got (length into - got) into in
    let reach : at + got ≡ from = omega (arith, range, place, small, before.0) in
    let front : length (take got into) ≡ got = omega (arith, length-take got into, room) in
    let rest : take n (drop got whole) ≡ take n (drop got (drop at s)) =
    ap (λ (l : List ℕ). take n l) (drop_at (take got into) behind got front)
    ∙ take-append-le n part (post_of got (length into - got) into) fits
    ∙ bytes
    ∙ ap (λ (j : ℕ). take n (drop j s)) (sym reach)
    ∙ sym (ap (λ (l : List ℕ). take n l) (drop-drop got at s)) in (
      omega (arith, reach, before.0, within),
      take-add got n whole
          ∙ ap (λ (l : List ℕ). l ++ take n (drop got whole)) (take_at (take got into) behind got front ∙ before.1)
          ∙ ap (λ (l : List ℕ). take got (drop at s) ++ l) rest
          ∙ sym (take-add got n (drop at s)),
    )

-- a read from where the parts before it ended, of bytes that stayed the same
pub read_on : (at from got n : ℕ) (into part : List ℕ) (told now : Option (List ℕ)) → now ≡ told → at < 2 ^ 64 → from ≡ min (at + got) (2 ^ 64 - 1) → got ≤ length into → n ≤ length part
    → IfSome now (λ s. length s < 2 ^ 64) → IfSome told (IsRead at got into) → IfSome now (λ s. n ≤ length s - from) → IfSome now (λ s. take n part ≡ take n (drop from s))
    → IfSome told (IsRead at (got + n) (put_mid got (length into - got) into part))
read_on at from got n into part told now same range place room fits small before within bytes =
    let told_of = λ (f : List ℕ → Type 0) (x : IfSome now f). subst (λ (o : Option (List ℕ)). IfSome o f) same x in
    parts_read at from got n into part told range place room fits (told_of _ small) before (told_of _ within) (told_of _ bytes)
