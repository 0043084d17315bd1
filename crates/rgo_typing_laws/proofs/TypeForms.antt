-- Types by their tests: the rules test types with functions to bool, and well-formed trees have equations of types.
use Rattle.std.proofs.Common.{◌≡◌, true, ◌&&◌, List, [], ◌∷◌, refl, ap, ap₂, sym, true≢false, eqb-true}
use Rattle.rgo_typed.specs.declared.types.Type.{«Type»}
use Rattle.rgo_typed.specs.declared.types.Base.{Base}
use Rattle.rgo_typed.specs.declared.types.Base.TheVariants.{Int, Bool as Boolean, Pointer}
use Rattle.rgo_typed.specs.declared.types.Layer.{Layer}
use Rattle.rgo_typed.specs.declared.types.Layer.TheVariants.{Slice, Chan}
use Rattle.rgo_typing_rules.specs.Types.{slice_of, chan_of, element_type_of, same_layer, same_layers, same_base, same}
use Rattle.rgo_typing_rules.specs.Types.{is_bare, is_int_base, is_bool_base, is_int, is_bool, is_slice, is_chan}
use Rattle.rgo_typing_rules.specs.Types.{is_slice_in, is_chan_in}
use Rattle.rgo_typing_expressions.specs.Scopes.{int, bool}
use Rattle.rgo_typing_laws.proofs.Unbroken.{and_left, and_right}

abbrev pub ty_in : List Layer → Base → «Type»
ty_in layers b = record { layers = layers; base = b }

int_in : (layers : List Layer) (b : Base) → is_bare layers && is_int_base b ≡ true → ty_in layers b ≡ int
int_in [] Int h = refl
int_in [] Boolean h = absurd (true≢false (sym h))
int_in [] (Pointer n) h = absurd (true≢false (sym h))
int_in (layer ∷ layers) b h = absurd (true≢false (sym h))

pub int_is : (t : «Type») → is_int t ≡ true → t ≡ int
int_is t h = int_in t.layers t.base h

bool_in : (layers : List Layer) (b : Base) → is_bare layers && is_bool_base b ≡ true → ty_in layers b ≡ bool
bool_in [] Boolean h = refl
bool_in [] Int h = absurd (true≢false (sym h))
bool_in [] (Pointer n) h = absurd (true≢false (sym h))
bool_in (layer ∷ layers) b h = absurd (true≢false (sym h))

pub bool_is : (t : «Type») → is_bool t ≡ true → t ≡ bool
bool_is t h = bool_in t.layers t.base h

slice_in : (layers : List Layer) (b : Base) → is_slice_in layers ≡ true
    → ty_in layers b ≡ slice_of (element_type_of (ty_in layers b))
slice_in [] b h = absurd (true≢false (sym h))
slice_in (Slice ∷ layers) b h = refl
slice_in (Chan ∷ layers) b h = absurd (true≢false (sym h))

pub slice_is : (t : «Type») → is_slice t ≡ true → t ≡ slice_of (element_type_of t)
slice_is t h = slice_in t.layers t.base h

chan_in : (layers : List Layer) (b : Base) → is_chan_in layers ≡ true
    → ty_in layers b ≡ chan_of (element_type_of (ty_in layers b))
chan_in [] b h = absurd (true≢false (sym h))
chan_in (Chan ∷ layers) b h = refl
chan_in (Slice ∷ layers) b h = absurd (true≢false (sym h))

pub chan_is : (t : «Type») → is_chan t ≡ true → t ≡ chan_of (element_type_of t)
chan_is t h = chan_in t.layers t.base h

base_is : (b c : Base) → same_base b c ≡ true → b ≡ c
base_is Int Int h = refl
base_is Int Boolean h = absurd (true≢false (sym h))
base_is Int (Pointer n) h = absurd (true≢false (sym h))
base_is Boolean Boolean h = refl
base_is Boolean Int h = absurd (true≢false (sym h))
base_is Boolean (Pointer n) h = absurd (true≢false (sym h))
base_is (Pointer m) (Pointer n) h = ap Pointer (eqb-true m n h)
base_is (Pointer m) Int h = absurd (true≢false (sym h))
base_is (Pointer m) Boolean h = absurd (true≢false (sym h))

layer_is : (l m : Layer) → same_layer l m ≡ true → l ≡ m
layer_is Slice Slice h = refl
layer_is Slice Chan h = absurd (true≢false (sym h))
layer_is Chan Chan h = refl
layer_is Chan Slice h = absurd (true≢false (sym h))

layers_are : (l m : List Layer) → same_layers l m ≡ true → l ≡ m
layers_are [] [] h = refl
layers_are [] (b ∷ m) h = absurd (true≢false (sym h))
layers_are (a ∷ l) [] h = absurd (true≢false (sym h))
layers_are (a ∷ l) (b ∷ m) h =
    ap₂ ◌∷◌ (layer_is a b (and_left (same_layer a b) (same_layers l m) h))
    (layers_are l m (and_right (same_layer a b) (same_layers l m) h))

pub same_is : (t u : «Type») → same t u ≡ true → t ≡ u
same_is t u h =
    ap₂ ty_in (layers_are t.layers u.layers (and_right (same_base t.base u.base) (same_layers t.layers u.layers) h))
    (base_is t.base u.base (and_left (same_base t.base u.base) (same_layers t.layers u.layers) h))
