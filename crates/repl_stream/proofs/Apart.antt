-- Asks and parts are requests, and no two have one text.
use Rattle.std.proofs.Common.{◌≡◌, ◌∙◌, ◌<◌, ◌≤◌, ◌^◌, ℕ, List, ◌++◌, length, ap, arith}
use Rattle.std.specs.Prelude.{decimal}
use Rattle.std.proofs.lemmas.Fmt.{decimal_injective, length-decimal-le}
use Rattle.byte_text.specs.Names.{Bytes}
use Rattle.byte_text.specs.Requests.{IsRequest, request_text}
use Rattle.byte_text.specs.Streams.{found, request}
use Rattle.repl_stream.specs.Texts.{IsAsk, IsPart, ask_words, part_words}
use Rattle.repl_stream.specs.Laws.{AsksAreRequests, PartsAreRequests, AsksAreApart, PartsAreApart, KindsAreApart}
use Rattle.repl_stream.specs.declared.asks.Ask.{Ask}
use Rattle.repl_stream.specs.declared.parts.Part.{Part}

few_digits : (n : ℕ) → n < 2 ^ 64 → length (decimal n) ≤ 20
few_digits n small = length-decimal-le 20 n (omega arith) (omega (arith, small)) small

ask_fits : (ask : Ask) → IsAsk ask → IsRequest (ask_words ask)
ask_fits ask is =
    let g = few_digits ask.generation is.generation in
    let f = few_digits ask.from is.from in
    record {
      some = omega arith;
      fits = record { few = omega arith; short = (omega arith, (omega (arith, g), (omega (arith, f), tt))); small = omega (arith, g, f) };
    }

part_fits : (part : Part) (bytes : Bytes) → IsPart part bytes → IsRequest (part_words part bytes)
part_fits part bytes is =
    let g = few_digits part.generation is.generation in
    let f = few_digits part.from is.from in
    let e = few_digits part.end is.end in
    let l = is.short in
    record {
      some = omega arith;
      fits = record {
        few = omega arith;
        short = (omega arith, (omega (arith, g), (omega (arith, f), (omega (arith, e), (omega (arith, l), tt)))));
        small = omega (arith, g, f, e, l);
      };
    }

-- a request's text is read as its words
abbrev AreRead : Type 0
AreRead = (words : List Bytes) (behind : Bytes) → IsRequest words → request (request_text words ++ behind) ≡ found words behind

pub asks_are_requests : AreRead → AsksAreRequests
asks_are_requests read ask behind is = (ask_fits ask is, read (ask_words ask) behind (ask_fits ask is))

pub parts_are_requests : AreRead → PartsAreRequests
parts_are_requests read part bytes behind is = (part_fits part bytes is, read (part_words part bytes) behind (part_fits part bytes is))

same_ask : (a b : Ask) → IsAsk a → IsAsk b → ask_words a ≡ ask_words b → a ≡ b
same_ask a b p q e =
    let g : decimal a.generation ≡ decimal b.generation = cc e in
    let f : decimal a.from ≡ decimal b.from = cc e in
    ap (λ (n : ℕ). record a { generation = n }) (decimal_injective a.generation b.generation p.generation q.generation g)
    ∙ ap (λ (n : ℕ). record b { from = n }) (decimal_injective a.from b.from p.from q.from f)

same_part : (a b : Part) (v w : Bytes) → IsPart a v → IsPart b w → part_words a v ≡ part_words b w → (a ≡ b) × (v ≡ w)
same_part a b v w p q e =
    let g : decimal a.generation ≡ decimal b.generation = cc e in
    let f : decimal a.from ≡ decimal b.from = cc e in
    let d : decimal a.end ≡ decimal b.end = cc e in (
      ap (λ (n : ℕ). record a { generation = n }) (decimal_injective a.generation b.generation p.generation q.generation g)
          ∙ ap (λ (n : ℕ). record b { from = n; end = a.end }) (decimal_injective a.from b.from p.from q.from f)
          ∙ ap (λ (n : ℕ). record b { end = n }) (decimal_injective a.end b.end p.end q.end d),
      cc e,
    )

-- no request's text is a proper prefix of another's, and each is the text of one alone
abbrev AreApart : Type 0
AreApart = (a b : List Bytes) (x y : Bytes) → IsRequest a → IsRequest b → request_text a ++ x ≡ request_text b ++ y → (a ≡ b) × (x ≡ y)

pub asks_are_apart : AreApart → AsksAreApart
asks_are_apart apart a b x y p q e =
    let both = apart (ask_words a) (ask_words b) x y (ask_fits a p) (ask_fits b q) e in
    (same_ask a b p q both.0, both.1)

pub parts_are_apart : AreApart → PartsAreApart
parts_are_apart apart a b v w x y p q e =
    let both = apart (part_words a v) (part_words b w) x y (part_fits a v p) (part_fits b w q) e in
    let same = same_part a b v w p q both.0 in
    (same.0, same.1, both.1)

pub kinds_are_apart : AreApart → KindsAreApart
kinds_are_apart apart ask part bytes x y p q e =
    absurd (omega (arith, ap length (apart (ask_words ask) (part_words part bytes) x y (ask_fits ask p) (part_fits part bytes q) e).0))
