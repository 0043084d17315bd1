-- The tests on types decide the equations that the rules state.
use Rattle.std.proofs.Common.{◌≡◌, ℕ, List, [], ◌∷◌, Option, Some, None, slice_get, refl, sym, ap, ◌∙◌, subst}
use Rattle.std.proofs.lemmas.Bool.Decides.{Decides-and, Decides-like}
use Rattle.std.proofs.lemmas.Option.{same_Some, none-some, slice_get-map}
use Rattle.std.proofs.lemmas.Slice.Eq.{slice_eq-Decides}
use Rattle.std.specs.Bool.{Decides}
use Rattle.std.specs.Option.{option_map}
use Rattle.rgo_typed.specs.declared.programs.Struct.{Struct}
use Rattle.rgo_typed.specs.declared.programs.Variable.{Variable}
use Rattle.rgo_typed.specs.declared.types.Base.{Base}
use Rattle.rgo_typed.specs.declared.types.Base.TheVariants as base
use Rattle.rgo_typed.specs.declared.types.Layer.{Layer}
use Rattle.rgo_typed.specs.declared.types.Layer.TheVariants.{Slice, Chan}
use Rattle.rgo_typed.specs.declared.types.Type.{«Type»}
use Rattle.rgo_wellformed.specs.TypeRules.{HasField, int, bool, pointer_to, slice_of, chan_of, is_slice_in, is_slice}
use Rattle.rgo_tac.specs.Code.{Tac}
use Rattle.rgo_code.specs.Exists.{declared_in_code}
use Rattle.rgo_checker.specs.TypeTests.{equal_bases, equal_layers, equal_layer_lists, equal_types, has_no_layers, is_bare_base, is_int_type, is_bool_type, begins_with_chan, is_chan_type, are_around, is_around, pointed_in, pointed, equals_type, is_field_of, is_field_in, is_field, variable_has_type}
use Rattle.rgo_checker.proofs.Deciding.{always, never, decides_same}

same_base_decided : (a b : Base) → Decides (equal_bases a b) (a ≡ b)
same_base_decided base.Int base.Int = always refl
same_base_decided base.Int base.Bool = never (λ e. cc)
same_base_decided base.Int (base.Pointer n) = never (λ e. cc)
same_base_decided base.Bool base.Int = never (λ e. cc)
same_base_decided base.Bool base.Bool = always refl
same_base_decided base.Bool (base.Pointer n) = never (λ e. cc)
same_base_decided (base.Pointer m) base.Int = never (λ e. cc)
same_base_decided (base.Pointer m) base.Bool = never (λ e. cc)
same_base_decided (base.Pointer m) (base.Pointer n) =
    let d = decides_same m n in
    (λ t. ap base.Pointer (d.0 t), λ e. let q : m ≡ n = cc in d.1 q)

same_layer_decided : (a b : Layer) → Decides (equal_layers a b) (a ≡ b)
same_layer_decided Slice Slice = always refl
same_layer_decided Slice Chan = never (λ e. cc)
same_layer_decided Chan Slice = never (λ e. cc)
same_layer_decided Chan Chan = always refl

same_layers_decided : (ls ms : List Layer) → Decides (equal_layer_lists ls ms) (ls ≡ ms)
same_layers_decided ls ms = slice_eq-Decides same_layer_decided ls ms (equal_layer_lists ls ms) refl

-- types are the same if their bases and their layers are
parts : (t u : «Type») → (t.base ≡ u.base) × (t.layers ≡ u.layers) → t ≡ u
parts t u p = λ j. record { layers = p.1 j; base = p.0 j }

of_parts : (t u : «Type») → t ≡ u → (t.base ≡ u.base) × (t.layers ≡ u.layers)
of_parts t u e = (ap (λ x. x.base) e, ap (λ x. x.layers) e)

pub same_type_decided : (t u : «Type») → Decides (equal_types t u) (t ≡ u)
same_type_decided t u =
    Decides-like (equal_types t u) (parts t u) (of_parts t u)
    (Decides-and (equal_bases t.base u.base) (equal_layer_lists t.layers u.layers) (same_base_decided t.base u.base)
    (same_layers_decided t.layers u.layers))

is_bare_decided : (ls : List Layer) → Decides (has_no_layers ls) (ls ≡ [])
is_bare_decided [] = always refl
is_bare_decided (l ∷ ls) = never (λ e. cc)

abbrev plain : Base → «Type»
plain b = record { layers = []; base = b }

pub is_plain_decided : (b : Base) (t : «Type») → Decides (is_bare_base b t) (t ≡ plain b)
is_plain_decided b t =
    Decides-like (is_bare_base b t) (λ p. parts t (plain b) (p.1, p.0)) (λ e. let p = of_parts t (plain b) e in (p.1, p.0))
    (Decides-and (has_no_layers t.layers) (equal_bases t.base b) (is_bare_decided t.layers) (same_base_decided t.base b))

pub is_int_decided : (t : «Type») → Decides (is_int_type t) (t ≡ int)
is_int_decided t = is_plain_decided base.Int t

pub is_bool_decided : (t : «Type») → Decides (is_bool_type t) (t ≡ bool)
is_bool_decided t = is_plain_decided base.Bool t

abbrev type_of : List Layer → Base → «Type»
type_of layers b = record { layers = layers; base = b }

slice_in : (layers : List Layer) (b : Base)
    → Decides (is_slice_in layers) ((u : «Type») × (type_of layers b ≡ slice_of u))
slice_in [] b = never (λ p. let q = ap (λ t. t.layers) p.1 in cc)
slice_in (Slice ∷ layers) b = always (type_of layers b, refl)
slice_in (Chan ∷ layers) b = never (λ p. let q = ap (λ t. t.layers) p.1 in cc)

chan_in : (layers : List Layer) (b : Base) → Decides (begins_with_chan layers) ((u : «Type») × (type_of layers b ≡ chan_of u))
chan_in [] b = never (λ p. let q = ap (λ t. t.layers) p.1 in cc)
chan_in (Slice ∷ layers) b = never (λ p. let q = ap (λ t. t.layers) p.1 in cc)
chan_in (Chan ∷ layers) b = always (type_of layers b, refl)

pub is_slice_decided : (t : «Type») → Decides (is_slice t) ((u : «Type») × (t ≡ slice_of u))
is_slice_decided t = slice_in t.layers t.base

pub is_chan_decided : (t : «Type») → Decides (is_chan_type t) ((u : «Type») × (t ≡ chan_of u))
is_chan_decided t = chan_in t.layers t.base

abbrev around : Layer → «Type» → «Type»
around layer t = record { layers = layer ∷ t.layers; base = t.base }

are_around_decided : (layer : Layer) (outer inner : List Layer)
    → Decides (are_around layer outer inner) (outer ≡ layer ∷ inner)
are_around_decided layer [] inner = never (λ e. cc)
are_around_decided layer (l ∷ ls) inner =
    Decides-like (are_around layer (l ∷ ls) inner) (λ p. cc) (λ e. (cc, cc))
    (Decides-and (equal_layers l layer) (equal_layer_lists ls inner) (same_layer_decided l layer)
    (same_layers_decided ls inner))

pub is_around_decided : (layer : Layer) (outer inner : «Type»)
    → Decides (is_around layer outer inner) (outer ≡ around layer inner)
is_around_decided layer outer inner =
    Decides-like (is_around layer outer inner) (parts outer (around layer inner)) (of_parts outer (around layer inner))
    (Decides-and (equal_bases outer.base inner.base) (are_around layer outer.layers inner.layers)
    (same_base_decided outer.base inner.base) (are_around_decided layer outer.layers inner.layers))

pointed_in_some : (layers : List Layer) (b : Base) (n : ℕ) → pointed_in layers b ≡ Some n
    → type_of layers b ≡ pointer_to n
pointed_in_some [] base.Int n e = cc
pointed_in_some [] base.Bool n e = cc
pointed_in_some [] (base.Pointer m) n e = ap pointer_to (same_Some m n e)
pointed_in_some (l ∷ ls) b n e = cc

pub pointed_some : (t : «Type») (n : ℕ) → pointed t ≡ Some n → t ≡ pointer_to n
pointed_some t n e = pointed_in_some t.layers t.base n e

pub pointed_is : (t : «Type») (n : ℕ) → t ≡ pointer_to n → pointed t ≡ Some n
pointed_is t n e = ap pointed e

pub is_type_decided : (o : Option «Type») (t : «Type») → Decides (equals_type o t) (o ≡ Some t)
is_type_decided None t = never (λ e. none-some t e)
is_type_decided (Some u) t =
    Decides-like (equal_types u t) (λ e. ap Some e) (λ e. same_Some u t e) (same_type_decided u t)

pub is_variable_decided : (code : Tac) (n : ℕ) (t : «Type»)
    → Decides (variable_has_type (slice_get code.variables n) t) (slice_get (declared_in_code code).variables n ≡ Some t)
is_variable_decided code n t =
    Decides-like (variable_has_type (slice_get code.variables n) t)
    (λ e. slice_get-map (λ v. v.ty) code.variables n ∙ e) (λ e. sym (slice_get-map (λ v. v.ty) code.variables n) ∙ e)
    (by (slice_get code.variables n))
  where
    by : (o : Option Variable) → Decides (variable_has_type o t) (option_map (λ v. v.ty) o ≡ Some t)
    by None = never (λ e. none-some t e)
    by (Some v) =
        Decides-like (equal_types v.ty t) (λ e. ap Some e) (λ e. same_Some v.ty t e) (same_type_decided v.ty t)

module _ (code : Tac) (k : ℕ) (t : «Type») where
  abbrev FieldOf : Option (List «Type») → Type 0
  FieldOf o = (fields : List «Type») × (o ≡ Some fields) × (slice_get fields k ≡ Some t)

  of_struct : (o : Option Struct) → Decides (is_field_of o k t) (FieldOf (option_map (λ s. s.fields) o))
  of_struct None = never (λ p. none-some p.0 p.1)
  of_struct (Some s) =
      Decides-like (equals_type (slice_get s.fields k) t) (λ e. (s.fields, refl, e))
      (λ p. ap (λ fields. slice_get fields k) (same_Some s.fields p.0 p.1) ∙ p.2)
      (is_type_decided (slice_get s.fields k) t)

  field_decided : (n : ℕ) → Decides (is_field_of (slice_get code.structs n) k t) (HasField (declared_in_code code) n k t)
  field_decided n =
      let e = slice_get-map (λ s. s.fields) code.structs n in
      Decides-like (is_field_of (slice_get code.structs n) k t) (subst FieldOf (sym e)) (subst FieldOf e)
      (of_struct (slice_get code.structs n))

  pub is_field_decided : (pointer : «Type»)
      → Decides (is_field code pointer k t) ((n : ℕ) × (pointer ≡ pointer_to n) × HasField (declared_in_code code) n k t)
  is_field_decided pointer = by (pointed pointer) refl
    where
      by : (o : Option ℕ) → pointed pointer ≡ o
          → Decides (is_field_in code o k t) ((n : ℕ) × (pointer ≡ pointer_to n) × HasField (declared_in_code code) n k t)
      by None e = never (λ p. none-some p.0 (sym e ∙ pointed_is pointer p.0 p.1))
      by (Some n) e =
          let d = field_decided n in (
            λ h. (n, pointed_some pointer n e, d.0 h),
            λ p. d.1 (subst (λ m. HasField (declared_in_code code) m k t)
                (same_Some p.0 n (sym (pointed_is pointer p.0 p.1) ∙ e)) p.2),
          )
