-- Local variables in scope: a name means a variable in scope, and a new variable is not in scope yet. The second holds since numbers are
-- never given again: all numbers in scope are below the count of variables so far, which is the new one's number.
use Rattle.std.proofs.Common.{◌≡◌, ℕ, suc, ◌+◌, ◌<◌, Bool, true, false, ◌||◌, List, [], ◌∷◌, ◌++◌, length, slice_get}
use Rattle.std.proofs.Common.{bytes_eq, codes, if◌then◌else◌, nat_eq, refl, ap, sym, ◌∙◌, subst, true≢false, arith}
use Rattle.std.proofs.Common.{append_assoc, eqb-true, eq-eqb, ne_eqb, length-append}
use Rattle.std.proofs.Common.{Option, Some, None}
use Rattle.std.specs.List.{AllByRecursion}
use Rattle.std.specs.Option.{option_or}
use Rattle.std.proofs.lemmas.Option.{slice_get-get_or}
use Rattle.rgo_typed.specs.declared.types.Type.{«Type»}
use Rattle.rgo_typing_rules.specs.declared.builtins.Builtin.{Builtin}
use Rattle.rgo_typing_rules.specs.Builtins.{predeclared, named}
use Rattle.rgo_typing_rules.specs.declared.meanings.Meaning.{Meaning}
use Rattle.rgo_typing_rules.specs.declared.meanings.Meaning.TheVariants as meaning
use Rattle.rgo_scopes.specs.Blocks.{found, found_in, found_outside}
use Rattle.rgo_typing_expressions.specs.Packages.{Package, Scope, Context}
use Rattle.rgo_typing_expressions.specs.Scopes.{with_local, inside, local_at, variable_type_at, meaning_of, meaning_if}
use Rattle.rgo_typing_expressions.specs.Scopes.{global_meaning_if, builtin_meaning, universe, int, in_scope}
use Rattle.rgo_typing_statements.specs.Statements.{in_block}
use Rattle.rgo_wellformed.specs.TypeRules.{Declared, IsType}
use Rattle.rgo_wellformed.specs.WellFormed.{InScope, is_in_scope}
use Rattle.rgo_typing_laws.proofs.Growth.{Begins, Restores}
use Rattle.rgo_typing_laws.proofs.Lists.{some_is, still_there, at_end, holds_at, holds_push}
use Rattle.rgo_typing_laws.proofs.Values.{IsStruct, IsCallee, Means}

-- ---- numbers in scope

pub is_fresh : (here : InScope) (k : ℕ) → AllByRecursion (λ m. m < k) here → is_in_scope here k ≡ false
is_fresh [] k h = refl
is_fresh (m ∷ here) k h = rw (ne_eqb m k (λ e. absurd (omega (arith, h.0, e)))) (is_fresh here k h.1)

pub is_below : (here : InScope) (k n : ℕ) → AllByRecursion (λ m. m < k) here → is_in_scope here n ≡ true → n < k
is_below [] k n h i = absurd (true≢false (sym i))
is_below (m ∷ here) k n h i = go (is_below here k n h.1) (nat_eq m n) refl i
  where
    go : (is_in_scope here n ≡ true → n < k) → (b : Bool) → nat_eq m n ≡ b → b || is_in_scope here n ≡ true → n < k
    go more true e j = subst (λ x. x < k) (eqb-true m n e) h.0
    go more false e j = more j

weaker : (here : InScope) (k l : ℕ) → k < l → AllByRecursion (λ m. m < k) here → AllByRecursion (λ m. m < l) here
weaker [] k l o h = tt
weaker (m ∷ here) k l o h = (omega (arith, h.0), weaker here k l o h.1)

weaker_le : (here : InScope) (k l : ℕ) → k < suc l → AllByRecursion (λ m. m < k) here → AllByRecursion (λ m. m < l) here
weaker_le [] k l o h = tt
weaker_le (m ∷ here) k l o h = (omega (arith, h.0), weaker_le here k l o h.1)

pub newest : (here : InScope) (n : ℕ) → is_in_scope (n ∷ here) n ≡ true
newest here n = rw (eq-eqb n n refl) refl

pub older : (here : InScope) (m n : ℕ) → is_in_scope here n ≡ true → is_in_scope (m ∷ here) n ≡ true
older here m n h = go (nat_eq m n)
  where
    go : (b : Bool) → b || is_in_scope here n ≡ true
    go true = refl
    go false = h

-- ---- types of local variables

before : {A : Type 0} (l m rest : List A) (n : ℕ) (a : A) → m ≡ l ++ rest → slice_get l n ≡ Some a
    → slice_get m n ≡ Some a
before l m rest n a is h = subst (λ x. slice_get x n ≡ Some a) (sym is) (still_there l rest n a h)

-- ---- scopes

-- Every variable that a name of the scope means is in `here`; those in `here` were declared before; all types exist. `here` may have
-- more than the names mean, since a variable that is shadowed is still in scope.
pub record Scoped (d : Declared) (g : Scope) (here : InScope) : Type 0 where
  pub known : (name : List ℕ) (n : ℕ) → found name g.locals ≡ Some n → is_in_scope here n ≡ true
  pub below : AllByRecursion (λ m. m < length g.types) here
  pub types : AllByRecursion (IsType d) g.types

module _ (d : Declared) where
  pub scoped_inside : (g : Scope) (here : InScope) → Scoped d g here → Scoped d (inside g) here
  scoped_inside g here s = record { known = s.known; below = s.below; types = s.types }

  pub scoped_outside : (g : Scope) (here : InScope) → Scoped d (inside g) here → Scoped d g here
  scoped_outside g here s = record { known = s.known; below = s.below; types = s.types }

  -- the same names, with more variables
  pub scoped_later : (g h : Scope) (here : InScope) → h.locals ≡ g.locals → Begins g.types h.types
      → AllByRecursion (IsType d) h.types → Scoped d g here → Scoped d h here
  scoped_later g h here same grown types s =
      let longer : length h.types ≡ length g.types + length grown.0 =
      ap length grown.1 ∙ length-append g.types grown.0 in
      record {
        known = λ name n f. s.known name n (subst (λ b. found name b ≡ Some n) same f);
        below = weaker_le here (length g.types) (length h.types) (omega arith) s.below;
        types = types;
      }

  pub scoped_more : (g : Scope) (here : InScope) (name : List ℕ) (ty : «Type») → IsType d ty → Scoped d g here
      → Scoped d (with_local name ty g) (length g.types ∷ here)
  scoped_more g here name ty k s =
      let longer : length (g.types ++ ty ∷ []) ≡ length g.types + 1 = length-append g.types (ty ∷ []) in
      record {
        known = λ other n f. go other n (bytes_eq name other) f;
        below = (omega arith, weaker here (length g.types) (length (g.types ++ ty ∷ [])) (omega arith) s.below);
        types = holds_push (IsType d) g.types ty s.types k;
      }
    where
      go : (other : List ℕ) (n : ℕ) (b : Bool)
          → option_or (if b then Some (length g.types) else found_in other g.locals.here)
          (found_outside other g.locals.outer) ≡ Some n
          → is_in_scope (length g.types ∷ here) n ≡ true
      go other n true f =
          subst (λ m. is_in_scope (length g.types ∷ here) m ≡ true) (some_is (length g.types) n f)
          (newest here (length g.types))
      go other n false f = older here (length g.types) n (s.known other n f)

  pub declares : (g : Scope) (here : InScope) (locals : List «Type») (ty : «Type») → Begins (g.types ++ ty ∷ []) locals
      → Scoped d g here
      → (is_in_scope here (length g.types) ≡ false) × (slice_get locals (length g.types) ≡ Some ty)
  declares g here locals ty b s = (
    is_fresh here (length g.types) s.below,
    subst (λ l. slice_get l (length g.types) ≡ Some ty) (sym (b.1 ∙ append_assoc g.types (ty ∷ []) b.0))
        (at_end g.types ty b.0),
  )

-- ---- packages

-- what the package declares under a name exists
abbrev pub IsGlobal : Package → Declared → Meaning → Type 0
IsGlobal p d (meaning.Global n) = (slice_get d.variables n ≡ Some (variable_type_at p n)) × IsType d (variable_type_at p n)
IsGlobal p d (meaning.Struct n) = n < length d.structs
IsGlobal p d (meaning.Function n) = IsCallee p d n
IsGlobal p d _ = ⊥

pub record Sound (p : Package) (d : Declared) : Type 0 where
  pub names : (name : List ℕ) (m : Meaning) → found name p.names ≡ Some m → IsGlobal p d m
  pub structs : (n : ℕ) → n < length d.structs → IsStruct p d n

-- ---- contexts

-- the package declares d, and the variables `here` are in scope
pub record Describes (d : Declared) (c : Context) (here : InScope) : Type 0 where
  pub sound : Sound c.globals d
  pub scoped : Scoped d c.scope here

pub describes_inside : (d : Declared) (c : Context) (here : InScope) → Describes d c here
    → Describes d (in_block c) here
describes_inside d c here s = record { sound = s.sound; scoped = scoped_inside d c.scope here s.scoped }

pub describes_outside : (d : Declared) (c : Context) (here : InScope) → Describes d (in_block c) here
    → Describes d c here
describes_outside d c here s = record { sound = s.sound; scoped = scoped_outside d c.scope here s.scoped }

pub describes_later : (d : Declared) (c h : Context) (here : InScope) → Restores c h
    → AllByRecursion (IsType d) h.scope.types → Describes d c here → Describes d h here
describes_later d c h here later types s = record {
  sound = subst (λ p. Sound p d) (sym later.globals) s.sound;
  scoped = scoped_later d c.scope h.scope here later.locals later.types types s.scoped;
}

pub describes_more : (d : Declared) (c : Context) (here : InScope) (name : List ℕ) (ty : «Type») → IsType d ty
    → Describes d c here → Describes d (in_scope (with_local name ty c.scope) c) (length c.scope.types ∷ here)
describes_more d c here name ty k s =
    record { sound = s.sound; scoped = scoped_more d c.scope here name ty k s.scoped }

-- ---- meanings

module _ (c : Context) (d : Declared) (locals : List «Type») (here : InScope) where
  global_means : (m : Meaning) → IsGlobal c.globals d m → Means c d locals here (Some m)
  global_means (meaning.Global n) h = h
  global_means (meaning.Struct n) h = h
  global_means (meaning.Function n) h = h
  global_means m h = absurd h

  either : (b : Bool) (x y : Option Meaning) → Means c d locals here x → Means c d locals here y
      → Means c d locals here (if b then x else y)
  either true x y h k = h
  either false x y h k = k

  universe_means : (imported : Bool) (name : List ℕ) → Means c d locals here (universe imported name)
  universe_means imported name =
      either (bytes_eq name (codes "int")) _ _ tt (
      either (bytes_eq name (codes "bool")) _ _ tt (
      either (bytes_eq name (codes "true")) _ _ tt (
      either (bytes_eq name (codes "false")) _ _ tt (
      either (bytes_eq name (codes "nil")) _ _ tt (
      either (bytes_eq name (codes "fmt")) _ _ tt (by (named predeclared name)))))))
    where
      by : (o : Option Builtin) → Means c d locals here (builtin_meaning o)
      by None = tt
      by (Some b) = tt

  pub means : Describes d c here → Begins c.scope.types locals → (name : List ℕ)
      → Means c d locals here (meaning_of c name)
  means s b name = of_local (found name c.scope.locals) refl
    where
      of_global : (o : Option Meaning) → found name c.globals.names ≡ o
          → Means c d locals here (global_meaning_if c.globals o name)
      of_global (Some m) e = global_means m (s.sound.names name m e)
      of_global None e = universe_means c.globals.imported name

      of_local : (o : Option ℕ) → found name c.scope.locals ≡ o → Means c d locals here (meaning_if c.globals o name)
      of_local (Some n) e =
          let types = c.scope.types in
          let i : is_in_scope here n ≡ true = s.scoped.known name n e in
          let o : n < length types = is_below here (length types) n s.scoped.below i in (
            i,
            before types locals b.0 n (local_at c.scope n) b.1 (slice_get-get_or types n int o),
            holds_at (IsType d) types n int o s.scoped.types,
          )
      of_local None e = of_global (found name c.globals.names) refl
