-- Types are read back, and nothing else is read.
use Rattle.std.proofs.Common.{◌≡◌, ℕ, zero, suc, ◌&&◌, Bool, true, false, List, [], ◌∷◌, ◌++◌, take, drop, Option, Some, None, if◌then◌else◌, refl, sym, ap, subst, ◌∙◌, codes}
use Rattle.std.specs.List.{flat_map}
use Rattle.std.specs.Str.{bytes_eq}
use Rattle.std.proofs.lemmas.List.{take-append-drop}
use Rattle.std.proofs.lemmas.Slice.Eq.{bytes_eq-Decides}
use Rattle.rgo_typed.specs.declared.types.Base.{Base}
use Rattle.rgo_typed.specs.declared.types.Base.TheVariants as base
use Rattle.rgo_typed.specs.declared.types.Layer.{Layer}
use Rattle.rgo_typed.specs.declared.types.Layer.TheVariants as layer
use Rattle.rgo_code_text.specs.Items.{BaseFits, TypeFits, named_type_word}
use Rattle.rgo_code_words.specs.Readers.{NamedType, as_named_type, read_base, read_layer, with_layer, by_layer, type_after, read_type}
use Rattle.rgo_code_printing.specs.Words.{layer_word, base_word}
use Rattle.rgo_code_words.specs.Worded.{is_name}
use Rattle.rgo_code_words.proofs.Options.{some_same, not_none, by_word}

pub type_back : (layers : List Layer) (b : Base) (name : List ℕ) → BaseFits b name
    → read_type (flat_map layer_word layers ++ base_word (name ∷ []) b) ≡ Some (as_named_type layers b name)
type_back [] base.Int name f = ap (λ n. Some (as_named_type [] base.Int n)) (sym f)
type_back [] base.Bool name f = ap (λ n. Some (as_named_type [] base.Bool n)) (sym f)
type_back [] (base.Pointer n) name f =
    subst (λ m. read_type (base_word (name ∷ []) (base.Pointer m)) ≡ Some (as_named_type [] (base.Pointer m) name)) (sym f.0)
    (ap (λ x. if x then Some (as_named_type [] (base.Pointer 0) name) else None) f.1)
type_back (layer.Slice ∷ layers) b name f = ap (with_layer layer.Slice) (type_back layers b name f)
type_back (layer.Chan ∷ layers) b name f = ap (with_layer layer.Chan) (type_back layers b name f)

-- ---- what is read

abbrev IsType : List ℕ → NamedType → Type 0
IsType word t = (word ≡ named_type_word t) × TypeFits t

base_is : (word : List ℕ) (t : NamedType) → read_base word ≡ Some t → IsType word t
base_is word t e =
    by_word word (codes "int") _ _ t (IsType word t) e
    (λ w q. subst (IsType word) (some_same (as_named_type [] base.Int []) t q) (w, refl)) (λ e.
    by_word word (codes "bool") _ _ t (IsType word t) e
    (λ w q. subst (IsType word) (some_same (as_named_type [] base.Bool []) t q) (w, refl)) (λ e.
    pointer (bytes_eq (take 1 word) (codes "*")) refl (is_name (drop 1 word)) refl e))
  where
    pointer : (a : Bool) → bytes_eq (take 1 word) (codes "*") ≡ a → (b : Bool) → is_name (drop 1 word) ≡ b
        → (if a && b then Some (as_named_type [] (base.Pointer 0) (drop 1 word)) else None) ≡ Some t → IsType word t
    pointer true p true n q =
        subst (IsType word) (some_same (as_named_type [] (base.Pointer 0) (drop 1 word)) t q)
        (sym (take-append-drop 1 word) ∙ ap (λ front. front ++ drop 1 word) ((bytes_eq-Decides (take 1 word) (codes "*")).0 p), (refl, n))
    pointer true p false n q = absurd (not_none t q)
    pointer false p b n q = absurd (not_none t q)

-- what is read after n bytes
record IsTypeAfter (word : List ℕ) (n : ℕ) (t : NamedType) : Type 0 where
  pub is : IsType (drop n word) t

layered : (l : Layer) (o : Option NamedType) (t : NamedType) (front rest : List ℕ) → with_layer l o ≡ Some t
    → front ≡ layer_word l → ((u : NamedType) → o ≡ Some u → IsType rest u) → IsType (front ++ rest) t
layered l None t front rest e f inner = absurd (not_none t e)
layered l (Some u) t front rest e f inner =
    let i = inner u refl in
    subst (IsType (front ++ rest)) (some_same (as_named_type (l ∷ u.ty.layers) u.ty.base u.name) t e)
    (ap (λ x. x ++ rest) f ∙ ap (λ x. layer_word l ++ x) i.0 ∙ assoc l u, i.1)
  where
    assoc : (l : Layer) (u : NamedType) → layer_word l ++ named_type_word u ≡ named_type_word (as_named_type (l ∷ u.ty.layers) u.ty.base u.name)
    assoc layer.Slice u = refl
    assoc layer.Chan u = refl

type_after_is : (word : List ℕ) (n : ℕ) (t : NamedType) → type_after word n ≡ Some t → IsTypeAfter word n t
type_after_is [] n t e = absurd (not_none t e)
type_after_is (b ∷ word) (suc n) t e = record { is = (type_after_is word n t e).is }
type_after_is (b ∷ word) zero t e =
    by (read_layer (b ∷ word)) refl e (λ u q. (type_after_is word 1 u q).is) (λ u q. (type_after_is word 4 u q).is)
  where
    slice : read_layer (b ∷ word) ≡ Some layer.Slice → take 2 (b ∷ word) ≡ codes "[]"
    slice q = by_word (take 2 (b ∷ word)) (codes "[]") _ _ layer.Slice (take 2 (b ∷ word) ≡ codes "[]") q
        (λ w r. w) (λ q. by_word (take 5 (b ∷ word)) (codes "chan.") _ _ layer.Slice (take 2 (b ∷ word) ≡ codes "[]") q
        (λ w r. absurd (chan_slice r)) (λ q. absurd (not_none layer.Slice q)))
      where
        chan_slice : Some layer.Chan ≡ Some layer.Slice → ⊥
        chan_slice r = cc

    chan : read_layer (b ∷ word) ≡ Some layer.Chan → take 5 (b ∷ word) ≡ codes "chan."
    chan q = by_word (take 2 (b ∷ word)) (codes "[]") _ _ layer.Chan (take 5 (b ∷ word) ≡ codes "chan.") q
        (λ w r. absurd (slice_chan r)) (λ q. by_word (take 5 (b ∷ word)) (codes "chan.") _ _ layer.Chan (take 5 (b ∷ word) ≡ codes "chan.") q
        (λ w r. w) (λ q. absurd (not_none layer.Chan q)))
      where
        slice_chan : Some layer.Slice ≡ Some layer.Chan → ⊥
        slice_chan r = cc

    by : (o : Option Layer) → read_layer (b ∷ word) ≡ o
        → by_layer o (read_base (b ∷ word)) (type_after word 1) (type_after word 4) ≡ Some t
        → ((u : NamedType) → type_after word 1 ≡ Some u → IsType (drop 1 word) u)
        → ((u : NamedType) → type_after word 4 ≡ Some u → IsType (drop 4 word) u) → IsTypeAfter (b ∷ word) 0 t
    by None q e one four = record { is = base_is (b ∷ word) t e }
    by (Some layer.Slice) q e one four = record {
      is = subst (λ w. IsType w t) (take-append-drop 2 (b ∷ word))
          (layered layer.Slice (type_after word 1) t (take 2 (b ∷ word)) (drop 1 word) e (slice q) one);
    }
    by (Some layer.Chan) q e one four = record {
      is = subst (λ w. IsType w t) (take-append-drop 5 (b ∷ word))
          (layered layer.Chan (type_after word 4) t (take 5 (b ∷ word)) (drop 4 word) e (chan q) four);
    }

pub type_is : (word : List ℕ) (t : NamedType) → read_type word ≡ Some t → (word ≡ named_type_word t) × TypeFits t
type_is word t e = (type_after_is word 0 t e).is
