-- The words of a put, and their text.
use Rattle.std.proofs.Common.{◌≡◌, ◌∙◌, ℕ, [], ◌∷◌, ◌++◌, length, refl, sym, ap, append_assoc, append-nil, flat_map}
use Rattle.std.specs.Prelude.{codes, decimal}
use Rattle.byte_text.specs.Names.{Bytes}
use Rattle.byte_text.specs.Lines.{line, bulk_text}
use Rattle.world_data.specs.Records.{deadline_words, field_words, record_writer, record_reader}
use Rattle.world_data.specs.declared.objects.Object.{Object}
use Rattle.world_data.specs.declared.worlds.Change.TheVariants as change
use Rattle.record_writer.specs.Texts.{words_text}
use Rattle.record_writer.proofs.Growing.{words-append}

in_order : (into a b c d e f g h : Bytes) → (((((((into ++ a) ++ b) ++ c) ++ d) ++ e) ++ f) ++ g) ++ h ≡ into ++ (a ++ (b ++ (c ++ (d ++ ((e ++ f) ++ (g ++ (h ++ [])))))))
in_order into a b c d e f g h = simp (append_assoc, append-nil) refl

-- what was written part by part
pub put_text : (o : Object) (count : ℕ) (into a b c d e f g h : Bytes) → count ≡ length (record_reader (change.Put o)) → a ≡ into ++ line 42 (decimal count) → b ≡ a ++ bulk_text (codes "SET") → c ≡ b ++ bulk_text o.key → d ≡ c ++ bulk_text o.id
    → e ≡ d ++ words_text (flat_map field_words o.fields) → f ≡ e ++ words_text (deadline_words o.deadline) → g ≡ f ++ bulk_text (codes "OBJECT") → h ≡ g ++ bulk_text o.text → h ≡ into ++ record_writer (change.Put o)
put_text o count into a b c d e f g h is p q r s t u v w =
    let fields = flat_map field_words o.fields in
    let deadline = deadline_words o.deadline in
    let rest = codes "OBJECT" ∷ o.text ∷ [] in
    let split : words_text ((fields ++ deadline) ++ rest) ≡ (words_text fields ++ words_text deadline) ++ (bulk_text (codes "OBJECT") ++ (bulk_text o.text ++ [])) = words-append (fields ++ deadline) rest ∙ ap (λ (l : Bytes). l ++ words_text rest) (words-append fields deadline) in
    let all : h ≡ (((((((into ++ line 42 (decimal count)) ++ bulk_text (codes "SET")) ++ bulk_text o.key) ++ bulk_text o.id) ++ words_text fields) ++ words_text deadline) ++ bulk_text (codes "OBJECT")) ++ bulk_text o.text = cc in
    all ∙ in_order into (line 42 (decimal count)) (bulk_text (codes "SET")) (bulk_text o.key) (bulk_text o.id) (words_text fields) (words_text deadline) (bulk_text (codes "OBJECT")) (bulk_text o.text)
    ∙ ap (λ (l : Bytes). into ++ (line 42 (decimal count) ++ (bulk_text (codes "SET") ++ (bulk_text o.key ++ (bulk_text o.id ++ l))))) (sym split)
    ∙ ap (λ (n : ℕ). into ++ (line 42 (decimal n) ++ words_text (record_reader (change.Put o)))) is
