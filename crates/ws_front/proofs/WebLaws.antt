-- What a link over a conversation shows behind a read and behind a write.
use Rattle.std.proofs.Common.{◌≡◌, ◌∙◌, ℕ, List, [], ◌∷◌, ◌++◌, Option, Some, None, take, drop, Ok, refl, sym, ap, subst, append_assoc, append-nil, take-append-drop}
use Rattle.std.specs.Prelude.{option_map}
use Rattle.std.specs.List.{concat}
use Rattle.std.specs.Io.KnownBytes.{Consumes, Appends}
use Rattle.byte_text.specs.Names.{Bytes}
use Rattle.outside.specs.Links.{LinkState}
use Rattle.ws_front.specs.Talks.{TalkState, Says}
use Rattle.ws_front.specs.declared.talks.Told.{Told}
use Rattle.ws_front.specs.declared.talks.Told.TheVariants as told
use Rattle.ws_front.specs.WebLinks.{WebState, link_of, to_read, to_come}
use Rattle.ws_front.specs.declared.talks.Message.{Message}

-- the first bytes of those that were not read are read
pub given : (u into : Bytes) (n : ℕ) (f : List Message → Bytes) (left : Option (List Message)) → take n into ≡ take n u
    → Consumes (option_map (λ ms. u ++ f ms) left) (option_map (λ ms. drop n u ++ f ms) left) (take n into)
given u into n f None is = tt
given u into n f (Some ms) is =
    ap (λ (t : Bytes). t ++ f ms) (sym (take-append-drop n u)) ∙ append_assoc (take n u) (drop n u) (f ms)
    ∙ ap (λ (t : Bytes). t ++ (drop n u ++ f ms)) (sym is)

concat_last : (ms : List Bytes) (m : Bytes) → concat (ms ++ m ∷ []) ≡ concat ms ++ m
concat_last [] m = append-nil m
concat_last (x ∷ ms) m = ap (λ (t : Bytes). x ++ t) (concat_last ms m) ∙ sym (append_assoc x (concat ms) m)

-- one message more was said
pub said_more : (said : Option (List Bytes)) (m : Bytes) → Appends (option_map concat said) (option_map concat (option_map (λ ms. ms ++ m ∷ []) said)) m
said_more None m = tt
said_more (Some ms) m = concat_last ms m

-- a read that gave bytes, behind what keeps the link as it was
pub read_given : (old mid : WebState) (unread into : Bytes) (n : ℕ) → link_of mid ≡ link_of old → take n into ≡ take n mid.unread → unread ≡ drop n mid.unread
    → Consumes (link_of old).left (link_of (record mid { unread = unread })).left (take n into)
    × (link_of (record mid { unread = unread }) ≡ record (link_of old) { left = (link_of (record mid { unread = unread })).left })
read_given old mid unread into n same is left =
    subst (λ (l : LinkState).
    Consumes l.left (link_of (record mid { unread = unread })).left (take n into)
    × (link_of (record mid { unread = unread }) ≡ record l { left = (link_of (record mid { unread = unread })).left })) same (
      subst (λ (u : Bytes). Consumes (link_of mid).left (link_of (record mid { unread = u })).left (take n into)) (sym left)
          (given mid.unread into n (λ ms. to_read mid.phase (to_come mid.pending ms)) mid.talk.left is),
      refl,
    )

-- a write of one frame
whole : (w : WebState) (talk : TalkState) (frame : Bytes) → talk ≡ record w.talk { said = option_map (λ ms. ms ++ frame ∷ []) w.talk.said }
    → Appends (link_of w).held (link_of (record w { talk = talk })).held frame
    × (link_of (record w { talk = talk }) ≡ record (link_of w) { held = (link_of (record w { talk = talk })).held })
whole w talk frame says =
    subst (λ (t : TalkState).
    Appends (link_of w).held (link_of (record w { talk = t })).held frame
    × (link_of (record w { talk = t }) ≡ record (link_of w) { held = (link_of (record w { talk = t })).held })) (sym says) (
      said_more w.talk.said frame,
      refl,
    )

pub whole_by : (w : WebState) (talk : TalkState) (frame : Bytes) (r : Told) → r ≡ told.Whole → Says w.talk talk frame (Ok r)
    → Appends (link_of w).held (link_of (record w { talk = talk })).held frame
    × (link_of (record w { talk = talk }) ≡ record (link_of w) { held = (link_of (record w { talk = talk })).held })
whole_by w talk frame r is says = whole w talk frame (subst (λ (t : Told). Says w.talk talk frame (Ok t)) is says)
