-- Worked examples of the definitions of texts, each proved by computing.
use Rattle.std.specs.Prelude.{◌≡◌, negsuc, true, false, [], ◌∷◌, ◌++◌, codes, Some, None, Ok, Err, replicate}
use Rattle.byte_text.specs.Names.{before, is_word, is_name, name_fault}
use Rattle.byte_text.specs.Numbers.{whole, natural, read_whole, read_natural}
use Rattle.byte_text.specs.JsonText.{quoted}
use Rattle.byte_text.specs.Globs.{glob_meets, is_well_formed}
use Rattle.byte_text.specs.Requests.{request_text}
use Rattle.byte_text.specs.Replies.{frame_text, array, bulk, number}
use Rattle.byte_text.specs.Streams.{request, begun, broken, stream_of, holds, fails}
use Rattle.byte_text.specs.declared.texts.TextFault.TheVariants.{Empty, TooLong as too_long_name, NotUtf8, NotNumber}
use Rattle.byte_text.specs.declared.faults.RespFault.TheVariants.{BadType, BadLength, BadEnd, TooMany, TooLong}

pub record HoldNames : Type 0 where
  pub order : before (codes "v1") (codes "v10") ≡ true
  pub word : is_word (codes "point") (codes "POINT") ≡ true
  pub name : is_name (206 ∷ 169 ∷ []) ≡ true
  pub no_name : is_name (255 ∷ []) ≡ false
  pub empty : name_fault [] ≡ Some Empty
  pub long : name_fault (replicate 256 255) ≡ Some too_long_name
  pub not_utf8 : name_fault (255 ∷ []) ≡ Some NotUtf8
  pub fine : name_fault (replicate 255 97) ≡ None

pub record HoldNumbers : Type 0 where
  pub minus : whole (codes "-12") ≡ Some (negsuc 11)
  pub no_plus : whole (codes "+5") ≡ None
  pub no_zero : whole (codes "007") ≡ None
  pub no_minus_zero : whole (codes "-0") ≡ None
  pub great : natural (codes "18446744073709551615") ≡ Some 18446744073709551615
  pub too_great : read_natural (codes "18446744073709551616") ≡ Err NotNumber
  pub least : read_whole (codes "-9223372036854775808") ≡ Ok (negsuc 9223372036854775807)
  pub below_least : read_whole (codes "-9223372036854775809") ≡ Err NotNumber
  pub over_greatest : read_whole (codes "9223372036854775808") ≡ Err NotNumber
  pub no_digit : read_natural [] ≡ Err NotNumber
  pub no_letter : read_natural (codes "1a") ≡ Err NotNumber

pub record HoldTexts : Type 0 where
  pub escapes : quoted (34 ∷ 1 ∷ 10 ∷ []) ≡ codes "\"\\\"\\u0001\\n\""
  pub last_control : quoted (31 ∷ 127 ∷ []) ≡ codes "\"\\u001f" ++ 127 ∷ 34 ∷ []
  pub request : request_text (codes "PING" ∷ []) ≡ codes "*1\r\n$4\r\nPING\r\n"
  pub frame : frame_text (array (number 2 ∷ bulk (codes "a") ∷ [])) ≡ codes "*2\r\n:2\r\n$1\r\na\r\n"

pub record HoldGlobs : Type 0 where
  pub star : glob_meets (codes "t*k?") (codes "truck1") ≡ true
  pub ranges : glob_meets (codes "[^a-c]*") (codes "beta") ≡ false
  pub escaped : glob_meets (codes "a\\*[]-]") (codes "a*]") ≡ false
  pub dash : glob_meets (codes "[a-]x") (codes "-x") ≡ true
  pub greek : glob_meets (codes "?") (206 ∷ 169 ∷ []) ≡ true
  pub one_byte : glob_meets (codes "??") (206 ∷ 169 ∷ []) ≡ false
  pub no_item : is_well_formed (codes "[]") ≡ false
  pub unpaired : is_well_formed (codes "a\\") ≡ false
  pub no_close : is_well_formed (codes "[a") ≡ false
  pub caret : glob_meets (codes "[a^]") (codes "^") ≡ true
  pub others : glob_meets (codes "[^-a]") (codes "b") ≡ true
  pub no_other : glob_meets (codes "[^-a]") (codes "-") ≡ false
  pub empty_others : is_well_formed (codes "[^]") ≡ false
  pub literal_dash : glob_meets (codes "[a\\-z]") (codes "m") ≡ false
  pub the_dash : glob_meets (codes "[a\\-z]") (codes "-") ≡ true
  pub to_bracket : glob_meets (codes "[a-\\]]") (codes "`") ≡ false
  pub from_literal : glob_meets (codes "[\\a-z]") (codes "m") ≡ true
  pub backwards : glob_meets (codes "[z-a]") (codes "m") ≡ false
  pub nothing : glob_meets (codes "*") [] ≡ true
  pub none_of_none : glob_meets [] (codes "a") ≡ false
  pub long_class : is_well_formed (codes "[abcdefghijklmnopqrstuvwxyz0123456789abcdefghijklmnopqrstuvwxyz0123456789]*x*y*z") ≡ true

pub record HoldStreams : Type 0 where
  pub two : stream_of (codes "*1\r\n$4\r\nPING\r\n*1\r\n$0\r\n\r\n*")
      ≡ record { requests = (codes "PING" ∷ []) ∷ ([] ∷ []) ∷ []; ending = holds (codes "*") }
  pub nothing : request [] ≡ begun
  pub bad_type : request (codes "PING") ≡ broken BadType
  pub bad_word : request (codes "*1\r\n+4") ≡ broken BadType
  pub no_words : request (codes "*0") ≡ broken BadLength
  pub no_length : request (codes "*\r") ≡ broken BadLength
  pub leading_zero : request (codes "*1\r\n$03") ≡ broken BadLength
  pub minus : request (codes "*1\r\n$-1") ≡ broken BadLength
  pub bare_lf : request (codes "*1\n") ≡ broken BadLength
  pub no_lf : request (codes "*1\r$") ≡ broken BadEnd
  pub short_word : request (codes "*1\r\n$4\r\nPINGS") ≡ broken BadEnd
  pub no_word_lf : request (codes "*1\r\n$4\r\nPING\rx") ≡ broken BadEnd
  pub too_many : request (codes "*4097") ≡ broken TooMany
  pub most : request (codes "*4096\r\n") ≡ begun
  pub too_long : request (codes "*1\r\n$1048577") ≡ broken TooLong
  pub longest : request (codes "*1\r\n$1048576\r\n") ≡ begun
  pub fault_behind : stream_of (codes "*1\r\n$4\r\nPING\r\n*1\r\n$03") ≡ record { requests = (codes "PING" ∷ []) ∷ []; ending = fails BadLength }
