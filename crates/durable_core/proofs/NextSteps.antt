-- What a step of a rewriting shows.
use Rattle.std.proofs.Common.{◌≡◌, ◌≢◌, ◌∙◌, ℕ, false, List, [], ◌∷◌, length, Result, Ok, Err, OnOk, refl, sym, ap, arith}
use Rattle.std.specs.Prelude.{drop, take}
use Rattle.world_data.specs.declared.worlds.World.{World}
use Rattle.durable_core.specs.Rewriting.{Item, going, goes_behind, is_ending, last_behind, next_rewriting, next_shown, shown_by}
use Rattle.durable_core.specs.Steps.{IsCopyStep, next_generation, next_version}
use Rattle.durable_core.specs.declared.pieces.NextPiece.{NextPiece}
use Rattle.durable_core.specs.declared.rewritings.Rewriting.{Rewriting}
use Rattle.durable_core.specs.declared.rewritings.Rewriting.TheVariants.{Going}

pub on_ok : {T E P : Type 0} (r : Result T E) → P → OnOk r P
on_ok (Ok x) p = p
on_ok (Err e) p = tt

-- some items are left where a piece has some
pub some_left : (items : List Item) (n : ℕ) → n ≡ length (take 256 items) → n ≢ 0 → (first : Item) × (rest : List Item) × (items ≡ first ∷ rest)
some_left [] n is some = absurd (some is)
some_left (item ∷ items) n is some = (item, items, refl)

-- a piece is copied
pub copy_shown : (old new : Rewriting) (gate : ℕ) (w : World) (next : NextPiece) → IsCopyStep old gate w next → new ≡ Going next.last → shown_by new w ≡ next_shown w (shown_by old w)
copy_shown old new gate w next is on =
    ap (λ (r : Rewriting). shown_by r w) on ∙ ap going is.piece.left ∙ ap (λ (l : List Item). going (drop 256 l)) is.some
    ∙ sym (ap (λ (r : Rewriting). next_shown w (shown_by r w)) is.going ∙ ap (λ (l : List Item). next_shown w (going l)) is.some)

pub copy_rewriting : (old new : Rewriting) (gate : ℕ) (w : World) (next : NextPiece) → IsCopyStep old gate w next → new ≡ Going next.last → new ≡ next_rewriting w old
copy_rewriting old new gate w next is on =
    on ∙ ap Going is.piece.last_is ∙ ap (λ (l : List Item). Going (last_behind is.from (take 256 l))) is.some
    ∙ sym (ap (λ (r : Rewriting). next_rewriting w r) is.going ∙ ap (λ (l : List Item). goes_behind is.from l) is.some)

copy_goes_on : (old : Rewriting) (gate : ℕ) (w : World) (next : NextPiece) → IsCopyStep old gate w next → is_ending (shown_by old w) ≡ false
copy_goes_on old gate w next is = ap (λ (r : Rewriting). is_ending (shown_by r w)) is.going ∙ ap (λ (l : List Item). is_ending (going l)) is.some

pub copy_version : (old : Rewriting) (gate : ℕ) (w : World) (next : NextPiece) (n m : ℕ) → IsCopyStep old gate w next → n ≡ m → n ≡ next_version old w m
copy_version old gate w next n m is same = rw (copy_goes_on old gate w next is) same

pub copy_generation : (old : Rewriting) (gate : ℕ) (w : World) (next : NextPiece) (n m : ℕ) → IsCopyStep old gate w next → n ≡ m → n ≡ next_generation old w m
copy_generation old gate w next n m is same = rw (copy_goes_on old gate w next is) (omega (arith, same))
