-- The layers of a type, read one after the other.
use Rattle.std.proofs.Common.{◌≡◌, ℕ, zero, suc, ◌+◌, ◌≤◌, List, [], ◌∷◌, ◌++◌, length, take, drop, Option, Some, None, refl, sym, ap, ◌∙◌, arith, append_assoc, length-take, codes}
use Rattle.std.specs.Str.{bytes_eq}
use Rattle.std.proofs.lemmas.List.{drop-drop}
use Rattle.std.proofs.lemmas.Slice.Eq.{bytes_eq-Decides}
use Rattle.rgo_typed.specs.declared.types.Layer.{Layer}
use Rattle.rgo_typed.specs.declared.types.Layer.TheVariants as layer
use Rattle.rgo_code_words.specs.Readers.{NamedType, as_named_type, read_base, read_layer, layer_len, with_layer, by_layer, type_after, read_type}
use Rattle.rgo_code_words.proofs.Options.{not_none, under, by_word}

-- a type inside these layers
abbrev pub with_layers : List Layer → Option NamedType → Option NamedType
with_layers layers None = None
with_layers layers (Some t) = Some (as_named_type (layers ++ t.ty.layers) t.ty.base t.name)

-- what follows n bytes
after_drop : (word : List ℕ) (n : ℕ) → type_after word n ≡ read_type (drop n word)
after_drop [] zero = refl
after_drop [] (suc n) = refl
after_drop (b ∷ word) zero = refl
after_drop (b ∷ word) (suc n) = after_drop word n

pub record Layered (word : List ℕ) (l : Layer) : Type 0 where
  pub within : layer_len l ≤ length word
  pub is : read_type word ≡ with_layer l (read_type (drop (layer_len l) word))

pub layered_is : (word : List ℕ) (l : Layer) → read_layer word ≡ Some l → Layered word l
layered_is [] l e = absurd (not_none l e)
layered_is (b ∷ word) layer.Slice e = record {
  within = long;
  is = ap (λ o. by_layer o (read_base (b ∷ word)) (type_after word 1) (type_after word 4)) e
      ∙ ap (with_layer layer.Slice) (after_drop word 1);
}
  where
    long : 2 ≤ length (b ∷ word)
    long =
        by_word (take 2 (b ∷ word)) (codes "[]") _ _ layer.Slice (2 ≤ length (b ∷ word)) e
        (λ w q. omega (arith, ap length w, length-take 2 (b ∷ word))) (λ q.
        let u = under (bytes_eq (take 5 (b ∷ word)) (codes "chan.")) (Some layer.Chan) layer.Slice q in absurd (apart u.is))
      where
        apart : ◌≡◌ {A = Option Layer} (Some layer.Chan) (Some layer.Slice) → ⊥
        apart r = cc
layered_is (b ∷ word) layer.Chan e = record {
  within = long;
  is = ap (λ o. by_layer o (read_base (b ∷ word)) (type_after word 1) (type_after word 4)) e
      ∙ ap (with_layer layer.Chan) (after_drop word 4);
}
  where
    long : 5 ≤ length (b ∷ word)
    long =
        by_word (take 2 (b ∷ word)) (codes "[]") _ _ layer.Chan (5 ≤ length (b ∷ word)) e
        (λ w q. absurd (apart q)) (λ q.
        let u = under (bytes_eq (take 5 (b ∷ word)) (codes "chan.")) (Some layer.Chan) layer.Chan q in
        omega (arith, ap length ((bytes_eq-Decides (take 5 (b ∷ word)) (codes "chan.")).0 u.holds), length-take 5 (b ∷ word)))
      where
        apart : ◌≡◌ {A = Option Layer} (Some layer.Slice) (Some layer.Chan) → ⊥
        apart r = cc

-- a word without a layer at its front
bare : (word : List ℕ) → read_layer word ≡ None → read_type word ≡ read_base word
bare [] e = refl
bare (b ∷ word) e = ap (λ o. by_layer o (read_base (b ∷ word)) (type_after word 1) (type_after word 4)) e

-- the base is read after all layers, where `rest` is what is left of the word
pub base_ends : (layers : List Layer) (word rest : List ℕ) (at : ℕ) → rest ≡ drop at word → read_layer rest ≡ None
    → with_layers layers (read_type (drop at word)) ≡ read_type word → with_layers layers (read_base rest) ≡ read_type word
base_ends layers word rest at whole e so_far =
    ap (with_layers layers) (sym (bare rest e) ∙ ap read_type whole) ∙ so_far

one_layer : (layers : List Layer) (l : Layer) (o : Option NamedType)
    → with_layers layers (with_layer l o) ≡ with_layers (layers ++ l ∷ []) o
one_layer layers l None = refl
one_layer layers l (Some t) = ap (λ ls. Some (as_named_type ls t.ty.base t.name)) (sym (append_assoc layers (l ∷ []) t.ty.layers))

-- one more layer is read, where `rest` is what is left of the word
pub layer_more : (layers more : List Layer) (word rest : List ℕ) (at n : ℕ) (l : Layer) → rest ≡ drop at word
    → read_layer rest ≡ Some l → n ≡ layer_len l → more ≡ layers ++ l ∷ []
    → with_layers layers (read_type (drop at word)) ≡ read_type word
    → with_layers more (read_type (drop (at + n) word)) ≡ read_type word
layer_more layers more word rest at n l whole e len m so_far =
    let inner = layered_is rest l e in
    let after : drop (layer_len l) rest ≡ drop (at + n) word =
    ap (drop (layer_len l)) whole ∙ drop-drop (layer_len l) at word ∙ ap (λ k. drop (at + k) word) (sym len) in
    ap (λ ls. with_layers ls (read_type (drop (at + n) word))) m
    ∙ ap (λ r. with_layers (layers ++ l ∷ []) (read_type r)) (sym after)
    ∙ sym (one_layer layers l (read_type (drop (layer_len l) rest)))
    ∙ ap (with_layers layers) (sym inner.is) ∙ ap (λ r. with_layers layers (read_type r)) whole ∙ so_far
