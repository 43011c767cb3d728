-- Lists of bytes: their order, words without regard to case, names.
use Rattle.std.specs.Prelude.{ℕ, Bool, true, false, ◌&&◌, ◌||◌, ◌==◌, nat_eq, nat_lt, nat_le, List, [], ◌∷◌, length, bytes_eq, Option, Some, None}
use Rattle.std.specs.Prelude.{if◌then◌else◌, Result, Err, MatchResult, ◌≡◌}
use Rattle.std.specs.Str.{is_utf8, str_eq_ignore_ascii_case}
use Rattle.byte_text.specs.declared.limits.TheConstants.{MAX_NAME}
use Rattle.byte_text.specs.declared.texts.TextFault.{TextFault}
use Rattle.byte_text.specs.declared.texts.TextFault.TheVariants.{Empty, TooLong, NotUtf8}
use Rattle.byte_text.specs.declared.texts.NameFault.{NameFault}
use Rattle.byte_text.specs.declared.texts.NameFault.TheVariants.{Refused, Memory}

abbrev pub Bytes : Type 0
Bytes = List ℕ

-- the same bytes
abbrev pub same : Bytes → Bytes → Bool
same = bytes_eq

-- byte order: the first bytes that differ decide, and a proper beginning stands before the whole
abbrev pub before : Bytes → Bytes → Bool
before [] [] = false
before [] (b ∷ bs) = true
before (a ∷ as_) [] = false
before (a ∷ as_) (b ∷ bs) = nat_lt a b || (a == b && before as_ bs)

-- a word is this one, in any case of its ASCII letters
abbrev pub is_word : Bytes → Bytes → Bool
is_word = str_eq_ignore_ascii_case

-- the most bytes of a name
abbrev pub max_name : ℕ
max_name = MAX_NAME

-- a name: 1 to 255 bytes of UTF-8
abbrev pub is_name : Bytes → Bool
is_name w = nat_le 1 (length w) && nat_le (length w) max_name && is_utf8 w

-- why the bytes are no name: the first cause that fits
abbrev pub name_fault : Bytes → Option TextFault
name_fault w = if nat_eq (length w) 0 then Some Empty else if nat_lt max_name (length w) then Some TooLong else if is_utf8 w then None else
    Some NotUtf8

-- an answer to bytes with this fault, if any: the fault; and for a name its bytes, or want of memory
abbrev pub IsNameOf : Option TextFault → Bytes → Result Bytes NameFault → Type 0
IsNameOf (Some fault) w answer = answer ≡ Err (Refused fault)
IsNameOf None w answer = MatchResult answer (λ name. name ≡ w) (λ fault. fault ≡ Memory)
