-- Words that lie in one buffer.
use Rattle.std.proofs.Common.{◌≡◌, ℕ, zero, suc, ◌+◌, ◌-◌, ◌<◌, ◌≤◌, List, [], ◌∷◌, ◌++◌, length, take, drop, get_or, slice_get, Some, refl, sym, ap, subst, ◌∙◌, arith, length-append, length-take, length-drop, drop_at, append-nil, flat_map, drop_of_length-le}
use Rattle.std.proofs.lemmas.List.{take-append-le, drop-append-le}
use Rattle.byte_text.specs.Names.{Bytes}
use Rattle.byte_text.specs.Lines.{bulk_text}
use Rattle.byte_text.specs.TextLaws.{kept_same}
use Rattle.byte_text.specs.Requests.{cut, start_of, Ascend, total, max_request}

pub length-cut : (start : ℕ) (ends : List ℕ) (bytes : Bytes) → length (cut start ends bytes) ≡ length ends
length-cut start [] bytes = refl
length-cut start (e ∷ ends) bytes = ap suc (length-cut e ends bytes)

pub last_is_last : (start : ℕ) (ends : List ℕ) (last : ℕ) → Ascend start ends last → start ≤ last
last_is_last start [] last h = omega (arith, h)
last_is_last start (e ∷ ends) last h = omega (arith, h.0, last_is_last e ends last h.1)

-- the word behind others
pub cut-push : (start : ℕ) (ends : List ℕ) (bytes word : Bytes) → Ascend start ends (length bytes)
    → cut start (ends ++ length (bytes ++ word) ∷ []) (bytes ++ word) ≡ cut start ends bytes ++ word ∷ []
cut-push start [] bytes word h =
    let size : length (bytes ++ word) - start ≡ length word = omega (arith, h, length-append bytes word) in
    let behind : drop start (bytes ++ word) ≡ word = drop_at bytes word start (sym h) in
    ap (λ n. take n (drop start (bytes ++ word)) ∷ []) size ∙ ap (λ t. take (length word) t ∷ []) behind ∙ ap (λ t. t ∷ []) (kept_same word)
cut-push start (e ∷ ends) bytes word h =
    let inside : e ≤ length bytes = last_is_last e ends (length bytes) h.1 in
    let front : drop start (bytes ++ word) ≡ drop start bytes ++ word = drop-append-le start bytes word (omega (arith, inside, h.0)) in
    let size : e - start ≤ length (drop start bytes) = omega (arith, length-drop start bytes, inside) in
    let one : take (e - start) (drop start (bytes ++ word)) ≡ take (e - start) (drop start bytes) = ap (take (e - start)) front ∙ take-append-le (e - start) (drop start bytes) word size in
    ap (λ t. t ∷ cut e (ends ++ length (bytes ++ word) ∷ []) (bytes ++ word)) one ∙ ap (λ ts. take (e - start) (drop start bytes) ∷ ts) (cut-push e ends bytes word h.1)

pub Ascend-push : (start : ℕ) (ends : List ℕ) (last next : ℕ) → Ascend start ends last → last ≤ next → Ascend start (ends ++ next ∷ []) next
Ascend-push start [] last next h l = (omega (arith, h, l), refl)
Ascend-push start (e ∷ ends) last next h l = (h.0, Ascend-push e ends last next h.1 l)

-- the bytes are those of the words
pub total-cut : (start : ℕ) (ends : List ℕ) (bytes : Bytes) → Ascend start ends (length bytes) → start + total (cut start ends bytes) ≡ length bytes
total-cut start [] bytes h = omega (arith, h)
total-cut start (e ∷ ends) bytes h =
    let inside : e ≤ length bytes = last_is_last e ends (length bytes) h.1 in
    omega (arith, total-cut e ends bytes h.1, length-take (e - start) (drop start bytes), length-drop start bytes, inside, h.0)

-- the word at a place
pub record IsWord (start : ℕ) (ends : List ℕ) (bytes : Bytes) (at : ℕ) : Type 0 where
  pub ordered : start_of start ends at ≤ start_of start ends (at + 1)
  pub inside : start_of start ends (at + 1) ≤ length bytes
  pub is : slice_get (cut start ends bytes) at ≡ Some (take (start_of start ends (at + 1) - start_of start ends at) (drop (start_of start ends at) bytes))

pub word_at : (start : ℕ) (ends : List ℕ) (bytes : Bytes) (at : ℕ) → Ascend start ends (length bytes) → at < length ends → IsWord start ends bytes at
word_at start [] bytes at h l = absurd (omega (arith, l))
word_at start (e ∷ ends) bytes zero h l = record { ordered = h.0; inside = last_is_last e ends (length bytes) h.1; is = refl }
word_at start (e ∷ ends) bytes (suc at) h l =
    let w = word_at e ends bytes at h.1 (omega (arith, l)) in
    let next : suc (at + 1) ≡ suc at + 1 = omega arith in
    record {
      ordered = subst (λ n. start_of e ends at ≤ start_of start (e ∷ ends) n) next w.ordered;
      inside = subst (λ n. start_of start (e ∷ ends) n ≤ length bytes) next w.inside;
      is = subst (λ n. slice_get (cut e ends bytes) at ≡ Some (take (start_of start (e ∷ ends) n - start_of e ends at) (drop (start_of e ends at) bytes))) next w.is;
    }

-- the end of the word before a place
pub end_before : (start : ℕ) (ends : List ℕ) (at d : ℕ) → at < length ends → get_or ends at d ≡ start_of start ends (at + 1)
end_before start [] at d l = absurd (omega (arith, l))
end_before start (e ∷ ends) zero d l = refl
end_before start (e ∷ ends) (suc at) d l =
    let n : suc at + 1 ≡ suc (at + 1) = omega arith in
    end_before e ends at d (omega (arith, l)) ∙ ap (start_of start (e ∷ ends)) (sym n)

-- ---- a word is put last

total-append : (words : List Bytes) (word : Bytes) → total (words ++ word ∷ []) ≡ total words + length word
total-append [] word = omega arith
total-append (w ∷ words) word = omega (arith, total-append words word)

pub small_end : (ends : List ℕ) (bytes word : Bytes) (words : List Bytes) → Ascend 0 ends (length bytes) → cut 0 ends bytes ≡ words → total (words ++ word ∷ []) ≤ max_request → length (bytes ++ word) ≤ max_request
small_end ends bytes word words h is small =
    let same : total words ≡ total (cut 0 ends bytes) = ap total (sym is) in
    omega (arith, small, total-append words word, same, total-cut 0 ends bytes h, length-append bytes word)

pub record Pushed (ends : List ℕ) (bytes : Bytes) (words : List Bytes) : Type 0 where
  pub is : cut 0 ends bytes ≡ words
  pub ascend : Ascend 0 ends (length bytes)

pub pushed : (ends ends' : List ℕ) (bytes bytes' word : Bytes) (words : List Bytes) → Ascend 0 ends (length bytes) → cut 0 ends bytes ≡ words → bytes' ≡ bytes ++ word → ends' ≡ ends ++ length bytes' ∷ []
    → Pushed ends' bytes' (words ++ word ∷ [])
pushed ends ends' bytes bytes' word words h is b e =
    let grown : length bytes ≤ length bytes' = omega (arith, ap length b, length-append bytes word) in
    record {
      is = ap (λ es. cut 0 es bytes') e ∙ ap (λ bs. cut 0 (ends ++ length bs ∷ []) bs) b ∙ cut-push 0 ends bytes word h ∙ ap (λ ws. ws ++ word ∷ []) is;
      ascend = subst (λ es. Ascend 0 es (length bytes')) (sym e) (Ascend-push 0 ends (length bytes) (length bytes') h grown);
    }

pub all_written : (words : List Bytes) (at : ℕ) (into all : Bytes) → length words ≤ at → into ++ flat_map bulk_text (drop at words) ≡ all → into ≡ all
all_written words at into all l so_far = sym (append-nil into) ∙ ap (λ ws. into ++ flat_map bulk_text ws) (sym (drop_of_length-le words l)) ∙ so_far
