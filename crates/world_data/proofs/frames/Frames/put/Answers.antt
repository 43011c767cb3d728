use Rattle.std.proofs.Common.{◌≡◌, ℕ, List, [], ◌∷◌, ◌++◌, length, sym, ap, ◌∙◌, arith}
use Rattle.std.proofs.lemmas.List.{length_push}
use Rattle.byte_text.specs.Names.{Bytes}
use Rattle.world_data.specs.Frames.{FrameList, frames_between, text_of, ends_of}
use Rattle.world_data.proofs.FrameEnds.{as_many, ends_for, frames_for, ends_pushed, text_last}
use Rattle.world_data.proofs.frames.Frames.put.Goals as goal

pub push_reserved-requires : goal.push_reserved-requires
push_reserved-requires c =
    let k = c.self.inside in
    let many = as_many 0 k.ends.items k.text in
    let is = ap (λ (f : FrameList). length f.list) c.self.view_is in
    let places = ap (λ (f : FrameList). f.places) c.self.view_is in
    omega (arith, many, is, places)

pub invariant_of-self-2 : goal.invariant_of-self-2
invariant_of-self-2 c =
    let k = c.self.inside in
    let f = c.args.frame.now in
    let list = frames_between 0 k.ends.items k.text in
    let pushed : c.push.new.self ≡ k.text ++ f = c.in_ok-push.ensures.ok in
    let text : c.push.new.self ≡ text_of (list ++ f ∷ []) = pushed ∙ ap (λ (t : Bytes). t ++ f) c.self.invariant.0.text_is ∙ sym (text_last list f) in
    let last : c.len.result ≡ length (text_of list ++ f) = c.len.ensures ∙ ap length (pushed ∙ ap (λ (t : Bytes). t ++ f) c.self.invariant.0.text_is) in
    let ends : c.push_reserved.new.self.items ≡ ends_of 0 (list ++ f ∷ []) =
    c.push_reserved.ensures.items ∙ ap (λ (es : List ℕ). es ++ c.len.result ∷ []) c.self.invariant.0.ends_are
    ∙ ap (λ (n : ℕ). ends_of 0 list ++ n ∷ []) last ∙ sym (ends_pushed list f) in
    let more = ap length c.push_reserved.ensures.items ∙ length_push k.ends.items c.len.result in
    let many = as_many 0 k.ends.items k.text in
    let is = ap (λ (x : FrameList). length x.list) c.self.view_is in
    let places = ap (λ (x : FrameList). x.places) c.self.view_is in
    let capacity = c.push_reserved.ensures.capacity in
    let held = c.self.invariant.2 in
    (ends_for _ _ (list ++ f ∷ []) ends text, omega (arith, more, many, is, places), omega (arith, capacity, held))

pub returns-clause-ok : goal.returns-clause-ok
returns-clause-ok c =
    let k = c.self.inside in
    let f = c.args.frame.now in
    let list = frames_between 0 k.ends.items k.text in
    let pushed : c.push.new.self ≡ k.text ++ f = c.in_ok-push.ensures.ok in
    let text : c.push.new.self ≡ text_of (list ++ f ∷ []) = pushed ∙ ap (λ (t : Bytes). t ++ f) c.self.invariant.0.text_is ∙ sym (text_last list f) in
    let last : c.len.result ≡ length (text_of list ++ f) = c.len.ensures ∙ ap length (pushed ∙ ap (λ (t : Bytes). t ++ f) c.self.invariant.0.text_is) in
    let ends : c.push_reserved.new.self.items ≡ ends_of 0 (list ++ f ∷ []) =
    c.push_reserved.ensures.items ∙ ap (λ (es : List ℕ). es ++ c.len.result ∷ []) c.self.invariant.0.ends_are
    ∙ ap (λ (n : ℕ). ends_of 0 list ++ n ∷ []) last ∙ sym (ends_pushed list f) in
    frames_for _ _ (list ++ f ∷ []) ends text ∙ ap (λ (x : FrameList). x.list ++ f ∷ []) c.self.view_is
