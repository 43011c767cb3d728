-- The lengths of records, word by word.
use Rattle.std.proofs.Common.{◌≡◌, ℕ, zero, suc, ◌+◌, ◌*◌, ◌^◌, ◌<◌, ◌≤◌, lit<, refl, ap, subst, ◌∙◌, List, [], ◌∷◌, ◌++◌, length, take}
use Rattle.std.proofs.Common.{length-append, arith}
use Rattle.std.proofs.lemmas.Bool.Decides.{nat_tests}
use Rattle.std.specs.Prelude.{true, nat_le, Option, Some, None, IfSome, codes, decimal, flat_map, slice_get}
use Rattle.std.proofs.lemmas.Fmt.{length-decimal-le, decimal_nonempty}
use Rattle.byte_text.specs.Names.{Bytes}
use Rattle.byte_text.specs.Lines.{line, bulk_text}
use Rattle.world_data.specs.Filters.{Field}
use Rattle.world_data.specs.declared.values.Value.{Value}
use Rattle.world_data.specs.Records.{record_len, record_reader, field_words, deadline_words}
use Rattle.byte_text.specs.Requests.{AreShort, FitsRequest, max_request, max_word, max_words, total}
use Rattle.byte_text.specs.ListLaws.{item_at}
use Rattle.world_data.specs.declared.channels.Channel.{Channel}
use Rattle.world_data.specs.declared.objects.Object.{Object}
use Rattle.world_data.specs.declared.worlds.Change.TheVariants as change
use Rattle.record_writer.specs.Lengths.{HasFewFields}
use Rattle.record_writer.specs.Lengths.{words_len}

words_cons : (w : Bytes) (ws : List Bytes) → words_len (w ∷ ws) ≡ length (bulk_text w) + words_len ws
words_cons w ws = length-append (bulk_text w) (flat_map bulk_text ws)

words_append : (us bs : List Bytes) → words_len (us ++ bs) ≡ words_len us + words_len bs
words_append [] bs = omega arith
words_append (u ∷ us) bs = let ih = words_append us bs in omega (arith, ih, words_cons u (us ++ bs), words_cons u us)

-- a field has three words
field_count : (fs : List Field) → length (flat_map field_words fs) ≡ 3 * length fs
field_count [] = refl
field_count (f ∷ fs) = let ih = field_count fs in omega (arith, ih)

-- the fields in front of a place and the one there
fields_next : (fs : List Field) (i : ℕ) (f : Field) → slice_get fs i ≡ Some f
    → words_len (flat_map field_words (take (suc i) fs)) ≡ words_len (flat_map field_words (take i fs)) + words_len (field_words f)
fields_next [] i f at = absurd (cc)
fields_next (g ∷ fs) zero f at = let is : g ≡ f = cc in words_append (field_words g) [] ∙ ap (λ (h : Field). words_len (field_words h) + 0) is
    ∙ (omega arith)
fields_next (g ∷ fs) (suc i) f at =
    let ih = fields_next fs i f at in
    omega (
      arith,
      ih,
      words_append (field_words g) (flat_map field_words (take (suc i) fs)),
      words_append (field_words g)
          (flat_map field_words (take i fs)),
    )

next_field : (fs : List Field) (i : ℕ) (f : Field) → slice_get fs i ≡ Some f
    → words_len (flat_map field_words (take (i + 1) fs)) ≡ words_len (flat_map field_words (take i fs)) + words_len (field_words f)
next_field fs i f at = let one : i + 1 ≡ suc i = omega arith in ap (λ (n : ℕ). words_len (flat_map field_words (take n fs))) one
    ∙ fields_next fs i f at

bulk_size : (w : Bytes) → length (bulk_text w) ≡ length (line 36 (decimal (length w))) + (length w + 2)
bulk_size w = omega (arith, length-append (line 36 (decimal (length w))) (w ++ 13 ∷ 10 ∷ []), length-append w (13 ∷ 10 ∷ []))

-- each word has a byte at least
words_long : (ws : List Bytes) → length ws ≤ words_len ws
words_long [] = omega arith
words_long (w ∷ ws) = omega (arith, words_long ws, words_cons w ws, bulk_size w)

-- the record of a put
pub put_count : (o : Object) → length (record_reader (change.Put o)) ≡ 5 + 3 * length o.fields + length (deadline_words o.deadline)
put_count o =
    let fields = flat_map field_words o.fields in
    let rest = codes "OBJECT" ∷ o.text ∷ [] in
    omega (arith, field_count o.fields, length-append (fields ++ deadline_words o.deadline) rest, length-append fields (deadline_words o.deadline))

put_record : (o : Object) (count : ℕ) → count ≡ length (record_reader (change.Put o)) → record_len (change.Put o) ≡ length (line 42 (decimal count))
    + (length (bulk_text (codes "SET")) +
    (length (bulk_text o.key) + (length (bulk_text o.id) +
    (words_len (flat_map field_words o.fields) +
    (words_len (deadline_words o.deadline) + (length (bulk_text (codes "OBJECT")) + length (bulk_text o.text)))))))
put_record o count is =
    let fields = flat_map field_words o.fields in
    let rest = codes "OBJECT" ∷ o.text ∷ [] in
    let more = (fields ++ deadline_words o.deadline) ++ rest in
    let head : length (line 42 (decimal count)) ≡ length (line 42 (decimal (length (record_reader (change.Put o))))) =
    ap (λ (n : ℕ). length (line 42 (decimal n))) is in
    let all = length-append (line 42 (decimal (length (record_reader (change.Put o))))) (flat_map bulk_text (record_reader (change.Put o))) in
    omega (
      arith,
      head,
      all,
      words_cons (codes "SET") (o.key ∷ o.id ∷ more),
      words_cons o.key (o.id ∷ more),
      words_cons o.id more,
      words_append
          (fields ++ deadline_words o.deadline) rest,
      words_append fields (deadline_words o.deadline),
      words_cons (codes "OBJECT")
          (o.text ∷ []),
      words_cons o.text [],
    )

pub put_sum : (o : Object) (count head set key id fields deadline object text : ℕ) → count ≡ length (record_reader (change.Put o))
    → head ≡ length (line 42 (decimal count)) → set ≡ length (bulk_text (codes "SET"))
    → key ≡ length (bulk_text o.key) → id ≡ length (bulk_text o.id) → fields ≡ words_len (flat_map field_words o.fields)
    → deadline ≡ words_len (deadline_words o.deadline) → object ≡ length (bulk_text (codes "OBJECT")) → text ≡ length (bulk_text o.text)
    → head + set + (key + id) + (fields + deadline) + (object + text) ≡ record_len (change.Put o)
put_sum o count head set key id fields deadline object text is a b c d e f g h = omega (arith, put_record o count is, a, b, c, d, e, f, g, h)

-- one field more
pub field_step : (fs : List Field) (i sum n : ℕ) (name : Bytes) (value : Value) → i < length fs → IfSome (slice_get fs i) (λ f. name ≡ f.0)
    → IfSome (slice_get fs i) (λ f. value ≡ f.1)
    → sum ≡ words_len (flat_map field_words (take i fs)) → n ≡ words_len (field_words (name, value))
    → sum + n ≡ words_len (flat_map field_words (take (i + 1) fs))
field_step fs i sum n name value lt named valued before now =
    let s = item_at fs i lt in
    let name_is : name ≡ s.0.0 = subst (λ (o : Option Field). IfSome o (λ f. name ≡ f.0)) s.1 named in
    let value_is : value ≡ s.0.1 = subst (λ (o : Option Field). IfSome o (λ f. value ≡ f.1)) s.1 valued in
    let field_is : n ≡ words_len (field_words s.0) = now ∙ ap (λ (m : Bytes). words_len (field_words (m, value))) name_is
    ∙ ap (λ (v : Value). words_len (field_words (s.0.0, v))) value_is in
    omega (arith, before, field_is, next_field fs i s.0 s.1)

-- a deadline has two words at most
two : (d : Option ℕ) → length (deadline_words d) ≤ 2
two None = omega arith
two (Some d) = omega arith

-- the record of a del is no longer than that of the put which it undoes
pub del_short : (o : Object) → HasFewFields o → record_len (change.Del o.key o.id) ≤ record_len (change.Put o)
del_short o few =
    let count = length (record_reader (change.Put o)) in
    let small : count < 2 ^ 64 = omega (arith, put_count o, two o.deadline, few) in
    let all = length-append (line 42 (decimal 3)) (flat_map bulk_text (codes "DEL" ∷ o.key ∷ o.id ∷ [])) in
    let head : length (line 42 (decimal 3)) ≤ length (line 42 (decimal count)) =
    omega (arith, length-append (decimal 3) (13 ∷ 10 ∷ []), length-append (decimal count) (13 ∷ 10 ∷ []), one, decimal_nonempty count small) in
    let del : length (bulk_text (codes "DEL")) ≡ length (line 36 (decimal 3)) + 5 = bulk_size (codes "DEL") in
    let set : length (bulk_text (codes "SET")) ≡ length (line 36 (decimal 3)) + 5 = bulk_size (codes "SET") in
    omega (
      arith,
      put_record o count refl,
      all,
      head,
      del,
      set,
      words_cons (codes "DEL") (o.key ∷ o.id ∷ []),
      words_cons o.key
          (o.id ∷ []),
      words_cons o.id [],
    )
  where
    one : length (decimal 3) ≤ 1
    one = length-decimal-le 1 3 (omega arith) (lit< tt) (lit< tt)

-- the record of a put is shorter where the object has no deadline
pub bare_short : (o : Object) (m : ℕ) → o.deadline ≡ Some m → HasFewFields o
    → record_len (change.Put (record o { deadline = None })) ≤ record_len (change.Put o)
bare_short o m is few =
    let x : Object = record o { deadline = None } in
    let count = length (record_reader (change.Put x)) in
    let more = length (record_reader (change.Put o)) in
    let below : count < 10 ^ 10 = omega (arith, put_count x, few) in
    let head = length-decimal-le 10 count (omega arith) below (omega (arith, below)) in
    let size : length (bulk_text (codes "AT")) ≡ length (line 36 (decimal 2)) + 4 = bulk_size (codes "AT") in
    let words : words_len (deadline_words o.deadline) ≡ words_len (codes "AT" ∷ decimal m ∷ []) =
    ap (λ (d : Option ℕ). words_len (deadline_words d)) is in
    omega (
      arith,
      put_record x count refl,
      put_record o more refl,
      head,
      bulk_size (decimal m),
      words_cons (decimal m) [],
      length-append (decimal 2)
          (13 ∷ 10 ∷ []),
      length-append (decimal (length (decimal m))) (13 ∷ 10 ∷ []),
      length-append (decimal count) (13 ∷ 10 ∷ []),
      length-append
          (decimal more) (13 ∷ 10 ∷ []),
      size,
      words,
      words_cons (codes "AT") (decimal m ∷ []),
    )

-- the record of a channel
pub setchan_count : (c : Channel) → length (record_reader (change.SetChan c)) ≡ 2 + length (deadline_words c.deadline) + length c.words
setchan_count c = omega (arith, length-append (deadline_words c.deadline) c.words)

setchan_record : (c : Channel) (count : ℕ) → count ≡ length (record_reader (change.SetChan c)) → record_len (change.SetChan c) ≡ length (line 42 (decimal count))
    + (length (bulk_text (codes "SETCHAN")) + (length (bulk_text c.name) + (words_len (deadline_words c.deadline) + words_len c.words)))
setchan_record c count is =
    let many = length (record_reader (change.SetChan c)) in
    let more = deadline_words c.deadline ++ c.words in
    let line_is : length (line 42 (decimal count)) ≡ length (line 42 (decimal many)) = ap (λ (n : ℕ). length (line 42 (decimal n))) is in
    omega (
      arith,
      line_is,
      length-append (line 42 (decimal many)) (flat_map bulk_text (record_reader (change.SetChan c))),
      words_cons
          (codes "SETCHAN") (c.name ∷ more),
      words_cons c.name more,
      words_append (deadline_words c.deadline) c.words,
    )

pub setchan_sum : (c : Channel) (count head set name deadline words : ℕ) → count ≡ length (record_reader (change.SetChan c)) → head ≡ length (line 42 (decimal count))
    → set ≡ length (bulk_text (codes "SETCHAN")) → name ≡ length (bulk_text c.name) → deadline ≡ words_len (deadline_words c.deadline)
    → words ≡ words_len c.words → head + set + name + deadline + words ≡ record_len (change.SetChan c)
setchan_sum c count head set name deadline words is a b d e f = omega (arith, setchan_record c count is, a, b, d, e, f)

-- that of the change that takes a channel out is no longer
pub delchan_short : (c : Channel) → length c.words < 2 ^ 32 → record_len (change.DelChan c.name) ≤ record_len (change.SetChan c)
delchan_short c few =
    let count = length (record_reader (change.SetChan c)) in
    let small : count < 2 ^ 64 = omega (arith, setchan_count c, two c.deadline, few) in
    let all = length-append (line 42 (decimal 2)) (flat_map bulk_text (codes "DELCHAN" ∷ c.name ∷ [])) in
    let head : length (line 42 (decimal 2)) ≤ length (line 42 (decimal count)) =
    omega (arith, length-append (decimal 2) (13 ∷ 10 ∷ []), length-append (decimal count) (13 ∷ 10 ∷ []), one, decimal_nonempty count small) in
    let del : length (bulk_text (codes "DELCHAN")) ≡ length (line 36 (decimal 7)) + 9 = bulk_size (codes "DELCHAN") in
    let set : length (bulk_text (codes "SETCHAN")) ≡ length (line 36 (decimal 7)) + 9 = bulk_size (codes "SETCHAN") in
    omega (
      arith,
      all,
      setchan_record c count refl,
      head,
      del,
      set,
      words_cons (codes "DELCHAN") (c.name ∷ []),
      words_cons c.name [],
    )
  where
    one : length (decimal 2) ≤ 1
    one = length-decimal-le 1 2 (omega arith) (lit< tt) (lit< tt)

-- one word more
pub next_word : (words : List Bytes) (i : ℕ) (w : Bytes) → slice_get words i ≡ Some w
    → words_len (take (i + 1) words) ≡ words_len (take i words) + length (bulk_text w)
next_word words i w at = let one : i + 1 ≡ suc i = omega arith in ap (λ (n : ℕ). words_len (take n words)) one ∙ go words i w at
  where
    go : (ws : List Bytes) (i : ℕ) (w : Bytes) → slice_get ws i ≡ Some w → words_len (take (suc i) ws) ≡ words_len (take i ws) + length (bulk_text w)
    go [] i w at = absurd (cc)
    go (v ∷ ws) zero w at = let is : v ≡ w = cc in words_cons v [] ∙ ap (λ (u : Bytes). length (bulk_text u) + 0) is ∙ (omega arith)
    go (v ∷ ws) (suc i) w at = let ih = go ws i w at in omega (arith, ih, words_cons v (take (suc i) ws), words_cons v (take i ws))

-- a word of a request is short
pub word_short : (words : List Bytes) (i : ℕ) (w : Bytes) → AreShort words → slice_get words i ≡ Some w → length w ≤ max_word
word_short [] i w all at = absurd (cc)
word_short (v ∷ words) zero w all at = let is : v ≡ w = cc in subst (λ (u : Bytes). length u ≤ max_word) is all.0
word_short (v ∷ words) (suc i) w all at = word_short words i w all.1 at

-- the bytes of words so far, and of the next one
pub next_bytes : (words : List Bytes) (i : ℕ) (w : Bytes) → slice_get words i ≡ Some w → total (take (i + 1) words) ≡ total (take i words) + length w
next_bytes words i w at = let one : i + 1 ≡ suc i = omega arith in ap (λ (n : ℕ). total (take n words)) one ∙ go words i w at
  where
    go : (ws : List Bytes) (i : ℕ) (w : Bytes) → slice_get ws i ≡ Some w → total (take (suc i) ws) ≡ total (take i ws) + length w
    go [] i w at = absurd (cc)
    go (v ∷ ws) zero w at = let is : v ≡ w = cc in ap (λ (u : Bytes). length u + 0) is ∙ (omega arith)
    go (v ∷ ws) (suc i) w at = let ih = go ws i w at in omega (arith, ih)

pub bytes_within : (words : List Bytes) (i : ℕ) (w : Bytes) → slice_get words i ≡ Some w → total (take i words) + length w ≤ total words
bytes_within [] i w at = absurd (cc)
bytes_within (v ∷ words) zero w at = let is : v ≡ w = cc in let long : length v ≡ length w = ap (λ (u : Bytes). length u) is in omega (arith, long)
bytes_within (v ∷ words) (suc i) w at = let ih = bytes_within words i w at in omega (arith, ih)

-- one word more is within the limits of a request
pub fits_one_more : (words : List Bytes) (w : Bytes) → FitsRequest words → length words < max_words → length w ≤ max_word
    → total words + length w ≤ max_request → FitsRequest (words ++ w ∷ [])
fits_one_more words w fits few short small = record {
  few = omega (arith, few, length-append words (w ∷ []));
  short = all words fits.short;
  small = let sum = sums words in omega (arith, sum, small);
}
  where
    all : (ws : List Bytes) → AreShort ws → AreShort (ws ++ w ∷ [])
    all [] s = (short, tt)
    all (v ∷ ws) s = (s.0, all ws s.1)

    sums : (ws : List Bytes) → total (ws ++ w ∷ []) ≡ total ws + length w
    sums [] = omega arith
    sums (v ∷ ws) = let ih = sums ws in omega (arith, ih)

pub within_limit : (n : ℕ) → nat_le n max_request ≡ true → n ≤ max_request
within_limit n e = grind (arith, nat_tests)
