-- The text of batches is the text of these batches alone.
use Rattle.std.specs.Int.{w64, from_be_bytes}
use Rattle.std.proofs.Common.{◌≡◌, ◌≤◌, ◌<◌, ◌^◌, ◌∙◌, ◌+◌, ℕ, List, [], ◌∷◌, ◌++◌, length, take, drop, refl, sym, ap, arith, length-append, append_assoc}
use Rattle.std.proofs.lemmas.List.{take_at, drop_at, drop-drop, append-nil}
use Rattle.std.proofs.lemmas.Nat.{from_be_bytes-to_be_bytes_8}
use Rattle.byte_text.specs.Names.{Bytes}
use Rattle.log_sides.specs.Texts.{batches_text, framed, front_text, gate_place, header, number_bytes, open_gate}
use Rattle.log_sides.specs.Torn.{length-number_bytes, length-framed}

-- joined batches
pub batches_joined : (bs later : List Bytes) → batches_text (bs ++ later) ≡ batches_text bs ++ batches_text later
batches_joined [] later = refl
batches_joined (b ∷ bs) later =
    ap (λ (l : Bytes). open_gate ∷ l) (ap (λ (l : Bytes). framed b ++ l) (batches_joined bs later) ∙ sym (append_assoc (framed b) (batches_text bs) (batches_text later)))

-- the place of the gate behind batches, and what stands behind the header
pub gate_is : (v g : ℕ) (bs : List Bytes) → gate_place v g bs ≡ 16 + length (batches_text bs)
gate_is v g bs = omega (arith, length-append (header v g) (batches_text bs), length-number_bytes g)

pub behind_header : (v g k : ℕ) (bs : List Bytes) → drop (16 + k) (front_text v g bs) ≡ drop k (batches_text bs)
behind_header v g k bs =
    let head = open_gate ∷ header v g in
    let sixteen : length head ≡ 16 = omega (arith, length-number_bytes g) in
    sym (drop-drop k 16 (front_text v g bs)) ∙ ap (λ (l : Bytes). drop k l) (drop_at head (batches_text bs) 16 sixteen)

number_back : (n : ℕ) → n < 2 ^ 64 → from_be_bytes w64 (number_bytes n) ≡ n
unfolding number_bytes
number_back n fits = from_be_bytes-to_be_bytes_8 n fits

-- the number that is read of a length is the length
pub length_read : (batch rest : Bytes) → length batch < 2 ^ 64 → from_be_bytes w64 (take 8 (framed batch ++ rest)) ≡ length batch
length_read batch rest short =
    let front = append_assoc (number_bytes (length batch)) batch rest in
    ap (λ (l : Bytes). from_be_bytes w64 (take 8 l)) front
    ∙ ap (λ (l : Bytes). from_be_bytes w64 l) (take_at (number_bytes (length batch)) (batch ++ rest) 8 (length-number_bytes (length batch)))
    ∙ number_back (length batch) short

-- of two texts that begin with a batch the batches are the same, and so is what stands behind
pub record Same (b c x y : Bytes) : Type 0 where
  pub batch : b ≡ c
  pub behind : x ≡ y

pub same_batch : (b c x y : Bytes) → length (framed b ++ x) < 2 ^ 64 → framed b ++ x ≡ framed c ++ y → Same b c x y
same_batch b c x y short same =
    let long = ap length same in
    let lb : length b < 2 ^ 64 = omega (arith, short, length-append (framed b) x, length-framed b) in
    let lc : length c < 2 ^ 64 = omega (arith, short, long, length-append (framed c) y, length-framed c) in
    let number : length b ≡ length c = sym (length_read b x lb) ∙ ap (λ (l : Bytes). from_be_bytes w64 (take 8 l)) same ∙ length_read c y lc in
    let size : length (framed b) ≡ length (framed c) = omega (arith, length-framed b, length-framed c, number) in
    let frames : framed b ≡ framed c =
    sym (take_at (framed b) x (length (framed c)) size) ∙ ap (λ (l : Bytes). take (length (framed c)) l) same ∙ take_at (framed c) y (length (framed c)) refl in
    let behind : x ≡ y =
    sym (drop_at (framed b) x (length (framed c)) size) ∙ ap (λ (l : Bytes). drop (length (framed c)) l) same ∙ drop_at (framed c) y (length (framed c)) refl in
    record {
      batch = sym (drop_at (number_bytes (length b)) b 8 (length-number_bytes (length b))) ∙ ap (λ (l : Bytes). drop 8 l) frames ∙ drop_at (number_bytes (length c)) c 8 (length-number_bytes (length c));
      behind = behind;
    }

-- batches whose text begins with that of others begin with them
pub record Left (batches done : List Bytes) (rest : Bytes) : Type 0 where
  pub left : List Bytes
  pub batches_are : batches ≡ done ++ left
  pub rest_is : rest ≡ batches_text left

pub left_of : (batches done : List Bytes) (rest : Bytes) → length (batches_text batches) < 2 ^ 64 → batches_text batches ≡ batches_text done ++ rest → Left batches done rest
left_of batches [] rest short same = record { left = batches; batches_are = refl; rest_is = sym same }
left_of [] (d ∷ done) rest short same = absurd (let long = ap length same in omega (arith, long))
left_of (b ∷ batches) (d ∷ done) rest short same =
    let right = append_assoc (framed d) (batches_text done) rest in
    let tails : framed b ++ batches_text batches ≡ framed d ++ (batches_text done ++ rest) = ap (λ (l : Bytes). drop 1 l) same ∙ right in
    let parts = same_batch b d (batches_text batches) (batches_text done ++ rest) (omega (arith, short)) tails in
    let later = left_of batches done rest (omega (arith, short, length-append (framed b) (batches_text batches))) parts.behind in
    record {
      left = later.left;
      batches_are = ap (λ (l : List Bytes). b ∷ l) later.batches_are ∙ ap (λ (x : Bytes). x ∷ (done ++ later.left)) parts.batch;
      rest_is = later.rest_is;
    }

no_batch : (left : List Bytes) → [] ≡ batches_text left → left ≡ []
no_batch [] e = refl
no_batch (b ∷ left) e = absurd (let long = ap length e in omega (arith, long))

pub texts_once : (bs cs : List Bytes) → length (batches_text bs) < 2 ^ 64 → batches_text bs ≡ batches_text cs → bs ≡ cs
texts_once bs cs short same =
    let all = left_of bs cs [] short (same ∙ sym (append-nil (batches_text cs))) in
    all.batches_are ∙ ap (λ (l : List Bytes). cs ++ l) (no_batch all.left all.rest_is) ∙ append-nil cs

-- of two beginnings of a list of batches the one with the longer text begins with the other one
pub longer : (bs cs x y : List Bytes) → bs ++ x ≡ cs ++ y → length (batches_text bs) ≤ length (batches_text cs) → (more : List Bytes) × (cs ≡ bs ++ more)
longer [] cs x y same less = (cs, refl)
longer (b ∷ bs) [] x y same less = absurd (omega (arith, less))
longer (b ∷ bs) (c ∷ cs) x y same less =
    let heads : b ≡ c = cc same in
    let tails : bs ++ x ≡ cs ++ y = cc same in
    let rest = longer bs cs x y tails
    (omega (arith, less, length-append (framed b) (batches_text bs), length-append (framed c) (batches_text cs), ap (λ (l : Bytes). length (framed l)) heads)) in
    (rest.0, ap (λ (h : Bytes). h ∷ cs) (sym heads) ∙ ap (λ (l : List Bytes). b ∷ l) rest.1)
