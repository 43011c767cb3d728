-- A piece by the mark and the text of its line.
use Rattle.std.proofs.Common.{◌≡◌, ◌∙◌, ℕ, ◌<◌, ◌≤◌, ◌^◌, [], ◌∷◌, ◌++◌, true, false, subst, w64, Option, Some, None, IfSome, Bor, length, take, drop, decimal, refl, sym, ap, arith, take-append-drop, length-take}
use Rattle.std.proofs.Common.{◌⊎◌, inl, inr, suc, pos, negsuc, ℤ}
use Rattle.std.specs.Fmt.{signed_decimal}
use Rattle.byte_text.specs.Names.{Bytes}
use Rattle.byte_text.specs.Lines.{IsOneLine, line}
use Rattle.byte_text.specs.LineLaws.{line-append, bulk_text-append}
use Rattle.byte_text.specs.NumberLaws.{AreDigits, AreDigits-decimal}
use Rattle.byte_text.specs.Replies.{inside}
use mir.Val.{SFits as FitsSigned}
use Rattle.byte_text.specs.declared.replies.Piece.{Piece}
use Rattle.byte_text.specs.declared.replies.Piece.TheVariants as piece
use Rattle.byte_text.proofs.LineFronts.{NoReturn-one_line, NoReturn-signed, same_line}
use Rattle.byte_text.specs.LineLaws.{NoReturn, NoReturn-decimal}
use Rattle.ws_front.specs.Pieces.{IsPieceAt, IsPieceOf}

-- bytes of the length that the line tells, and the end behind them, are a bulk string
pub bulk_made : (text behind word end : Bytes) (len : ℕ) (r : Option (Bor Bytes)) → text ≡ decimal len → len < 2 ^ 64 → len ≤ length behind
    → word ≡ take len behind → end ≡ drop len behind → IfSome r (λ rest. end ≡ 13 ∷ 10 ∷ rest.now)
    → IfSome r (λ rest. (p : Piece) × IsPieceOf 36 text behind p rest.now × (inside p ≡ 0))
bulk_made text behind word end len None is small fits front back ends = tt
bulk_made text behind word end len (Some rest) is small fits front back ends =
    let long : length (take len behind) ≡ len = length-take len behind ∙ omega (arith, fits) in (
      piece.Bulk (take len behind),
      (
        refl,
        is ∙ ap decimal (sym long),
        sym (take-append-drop len behind) ∙ ap (λ (t : Bytes). take len behind ++ t) (sym back ∙ ends),
        omega (arith, long, small),
      ),
      refl,
    )

made_line : (mark m : ℕ) (text t behind b : Bytes) → mark ≡ m → text ≡ t → behind ≡ b → mark ∷ (text ++ 13 ∷ 10 ∷ behind) ≡ line m t ++ b
made_line mark m text t behind b p q r = (λ i. p i ∷ (q i ++ 13 ∷ 10 ∷ r i)) ∙ sym (line-append m t b)

-- the text of a line that is a piece's, and what stands behind
pub piece_at : (p : Piece) (mark : ℕ) (text behind rest : Bytes) → IsOneLine text → IsPieceOf mark text behind p rest
    → IsPieceAt (mark ∷ (text ++ 13 ∷ 10 ∷ behind)) p rest
piece_at (piece.Status s) mark text behind rest one is =
    record { text = made_line mark 43 text s behind rest is.0 is.1 is.2; clean = rw (sym is.1) one; in_range = tt }
piece_at (piece.Fault s) mark text behind rest one is =
    record { text = made_line mark 45 text s behind rest is.0 is.1 is.2; clean = rw (sym is.1) one; in_range = tt }
piece_at (piece.Number n) mark text behind rest one is =
    record { text = made_line mark 58 text (signed_decimal n) behind rest is.0 is.1 is.2; clean = tt; in_range = is.3 }
piece_at (piece.Bulk s) mark text behind rest one is =
    record {
      text = made_line mark 36 text (decimal (length s)) behind (s ++ 13 ∷ 10 ∷ rest) is.0 is.1 is.2 ∙ sym (bulk_text-append s rest);
      clean = tt;
      in_range = is.3;
    }
piece_at piece.NoBulk mark text behind rest one is =
    record { text = made_line mark 36 text (45 ∷ 49 ∷ []) behind rest is.0 is.1 is.2; clean = tt; in_range = tt }
piece_at piece.NoList mark text behind rest one is =
    record { text = made_line mark 42 text (45 ∷ 49 ∷ []) behind rest is.0 is.1 is.2; clean = tt; in_range = tt }
piece_at (piece.List n) mark text behind rest one is =
    record { text = made_line mark 42 text (decimal n) behind rest is.0 is.1 is.2; clean = tt; in_range = is.3 }

parts : (mark m : ℕ) (text t behind b : Bytes) → IsOneLine text → NoReturn t → mark ∷ (text ++ 13 ∷ 10 ∷ behind) ≡ line m t ++ b
    → (mark ≡ m) × (text ≡ t) × (behind ≡ b)
parts mark m text t behind b one none e =
    same_line mark m text t behind b (NoReturn-one_line text one) none (line-append mark text behind ∙ e)

minus_one : NoReturn (45 ∷ 49 ∷ [])
minus_one = ((λ e. omega (arith, e)), ((λ e. omega (arith, e)), tt))

-- the other way round
pub piece_of : (p : Piece) (mark : ℕ) (text behind rest : Bytes) → IsOneLine text → IsPieceAt (mark ∷ (text ++ 13 ∷ 10 ∷ behind)) p rest
    → IsPieceOf mark text behind p rest
piece_of (piece.Status s) mark text behind rest one at = parts mark 43 text s behind rest one (NoReturn-one_line s at.clean) at.text
piece_of (piece.Fault s) mark text behind rest one at = parts mark 45 text s behind rest one (NoReturn-one_line s at.clean) at.text
piece_of (piece.Number n) mark text behind rest one at =
    let h = parts mark 58 text (signed_decimal n) behind rest one (NoReturn-signed n at.in_range) at.text in (h.0, h.1, h.2, at.in_range)
piece_of (piece.Bulk s) mark text behind rest one at =
    let h = parts mark 36 text (decimal (length s)) behind (s ++ 13 ∷ 10 ∷ rest) one (NoReturn-decimal (length s) at.in_range) (at.text
    ∙ bulk_text-append s rest) in
    (h.0, h.1, h.2, at.in_range)
piece_of piece.NoBulk mark text behind rest one at = parts mark 36 text (45 ∷ 49 ∷ []) behind rest one minus_one at.text
piece_of piece.NoList mark text behind rest one at = parts mark 42 text (45 ∷ 49 ∷ []) behind rest one minus_one at.text
piece_of (piece.List n) mark text behind rest one at =
    let h = parts mark 42 text (decimal n) behind rest one (NoReturn-decimal n (omega (arith, at.in_range))) at.text in (h.0, h.1, h.2, at.in_range)

-- a simple string or error is its line
pub text_piece : (mark : ℕ) (text behind : Bytes) → (mark ≡ 43) ⊎ (mark ≡ 45) → (p : Piece) × IsPieceOf mark text behind p behind × (inside p ≡ 0)
text_piece mark text behind (inl is) = (piece.Status text, (is, refl, refl), refl)
text_piece mark text behind (inr is) = (piece.Fault text, (is, refl, refl), refl)

digits_line : (ds : Bytes) → AreDigits ds → IsOneLine ds
digits_line [] d = tt
digits_line (b ∷ ds) d = (((λ e. omega (arith, e, d.0)), (λ e. omega (arith, e, d.0))), digits_line ds d.1)

number_line : (n : ℤ) → FitsSigned w64 n → IsOneLine (signed_decimal n)
number_line (pos n) fits = digits_line (decimal n) (AreDigits-decimal n (omega (arith, fits.sfits)))
number_line (negsuc n) fits =
    (((λ e. omega (arith, e)), (λ e. omega (arith, e))), digits_line (decimal (suc n)) (AreDigits-decimal (suc n) (omega (arith, fits.sfits))))

-- a line
abbrev IsLineAt : Bytes → Type 0
IsLineAt bytes = (text : Bytes) × (behind : Bytes) × IsOneLine text × (bytes ≡ text ++ 13 ∷ 10 ∷ behind)

null_line : IsOneLine (45 ∷ 49 ∷ [])
null_line = (((λ e. omega (arith, e)), (λ e. omega (arith, e))), (((λ e. omega (arith, e)), (λ e. omega (arith, e))), tt))

line_at : (mark m : ℕ) (rest text x : Bytes) → IsOneLine text → mark ∷ rest ≡ line m text ++ x → IsLineAt rest
line_at mark m rest text x one e = (text, x, one, cc (e, line-append m text x))

-- behind the mark of a piece stands a line
line_of : (p : Piece) (mark : ℕ) (rest x : Bytes) → IsPieceAt (mark ∷ rest) p x → IsLineAt rest
line_of (piece.Status s) mark rest x at = line_at mark 43 rest s x at.clean at.text
line_of (piece.Fault s) mark rest x at = line_at mark 45 rest s x at.clean at.text
line_of (piece.Number n) mark rest x at = line_at mark 58 rest (signed_decimal n) x (number_line n at.in_range) at.text
line_of (piece.Bulk s) mark rest x at =
    line_at mark 36 rest (decimal (length s)) (s ++ 13 ∷ 10 ∷ x) (digits_line _ (AreDigits-decimal (length s) at.in_range)) (at.text ∙ bulk_text-append s x)
line_of piece.NoBulk mark rest x at = line_at mark 36 rest (45 ∷ 49 ∷ []) x null_line at.text
line_of piece.NoList mark rest x at = line_at mark 42 rest (45 ∷ 49 ∷ []) x null_line at.text
line_of (piece.List n) mark rest x at =
    line_at mark 42 rest (decimal n) x (digits_line _ (AreDigits-decimal n (omega (arith, at.in_range)))) at.text

-- where no line is found, no piece is
pub no_piece : (mark : ℕ) (rest : Bytes) → ((text behind : Bytes) → IsOneLine text → rest ≡ text ++ 13 ∷ 10 ∷ behind → false ≡ true)
    → (p : Piece) (x : Bytes) → IsPieceAt (mark ∷ rest) p x → false ≡ true
no_piece mark rest none p x at = let l = line_of p mark rest x at in none l.0 l.1 l.2 l.3

-- what is found of the line at the front is the piece at the front
pub some_piece : (mark : ℕ) (rest text behind : Bytes) (r : Option (ℕ × Bor Bytes)) → IsOneLine text → rest ≡ text ++ 13 ∷ 10 ∷ behind
    → IfSome r (λ f. (p : Piece) × IsPieceOf mark text behind p f.1.now × (inside p ≡ f.0))
    → IfSome r (λ f. (p : Piece) × IsPieceAt (mark ∷ rest) p f.1.now × (inside p ≡ f.0))
some_piece mark rest text behind None one is found = tt
some_piece mark rest text behind (Some f) one is found =
    (found.0, subst (λ (t : Bytes). IsPieceAt (mark ∷ t) found.0 f.1.now) (sym is) (piece_at found.0 mark text behind f.1.now one found.1), found.2)

pub piece_found : (mark : ℕ) (rest text behind : Bytes) → IsOneLine text → rest ≡ text ++ 13 ∷ 10 ∷ behind
    → (p : Piece) (x : Bytes) → IsPieceAt (mark ∷ rest) p x → IsPieceOf mark text behind p x
piece_found mark rest text behind one is p x at = piece_of p mark text behind x one (subst (λ (t : Bytes). IsPieceAt (mark ∷ t) p x) is at)
