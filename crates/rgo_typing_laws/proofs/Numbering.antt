-- The numbers of package names: each is below the count of its kind, and a function is numbered by its position. The numbers come from
-- the first pass over the declarations and the lists from the second (`Signatures`), so that they agree has to be proved.
use Rattle.std.proofs.Common.{◌≡◌, ◌++◌, ◌+◌, ◌<◌, ◌≤◌, ℕ, Bool, true, false, List, [], ◌∷◌, length, slice_get}
use Rattle.std.proofs.Common.{bytes_eq, if◌then◌else◌, append_assoc, length-append}
use Rattle.std.proofs.Common.{Some, is_some, refl, ap, sym, ◌∙◌, subst, arith, ◌⊎◌, inl, inr}
use Rattle.std.specs.Option.{option_or}
use Rattle.std.proofs.lemmas.List.{append-nil}
use Rattle.std.proofs.lemmas.Slice.Eq.{bytes_eq-Decides}
use Rattle.rgo_ast.specs.Tree as tree
use Rattle.rgo_ast.specs.Tree.{Decl, TypeSpec, Binding}
use Rattle.rgo_ast.specs.declared.names.Ident.{Ident}
use Rattle.rgo_typing_rules.specs.declared.meanings.Meaning.{Meaning}
use Rattle.rgo_typing_rules.specs.declared.meanings.Meaning.TheVariants as meaning
use Rattle.rgo_scopes.specs.Blocks.{NestedBlocks, found, found_in, found_outside, declared}
use Rattle.rgo_typing_laws.proofs.Lists.{some_is, none_is, still_there, at_end}
use Rattle.rgo_typing_packages.specs.Numbering.{Numbering, no_numbers, first_meaning, with_struct, with_variable, with_function}
use Rattle.rgo_typing_packages.specs.Numbering.{with_structs, with_variables, with_bindings, with_all_decls}

-- `functions` are the names of the functions so far
abbrev pub IsNumbered : Numbering → List (List ℕ) → List ℕ → Meaning → Type 0
IsNumbered n functions name (meaning.Struct k) = k < n.structs
IsNumbered n functions name (meaning.Global k) = k < n.variables
IsNumbered n functions name (meaning.Function k) = (k < n.functions) × (slice_get functions k ≡ Some name)
IsNumbered n functions name _ = ⊥

pub record AreNumbered (n : Numbering) (functions : List (List ℕ)) : Type 0 where
  pub each : (name : List ℕ) (m : Meaning) → found name n.names ≡ Some m → IsNumbered n functions name m
  pub count : n.functions ≡ length functions

-- the names of functions, in order
abbrev pub names_of : List Decl → List (List ℕ)
names_of [] = []
names_of (tree.Types types at ∷ l) = names_of l
names_of (tree.Vars vars at ∷ l) = names_of l
names_of (tree.Func f ∷ l) = f.name.name ∷ names_of l

pub same_name : (a b : List ℕ) → bytes_eq a b ≡ true → a ≡ b
same_name a b h = (bytes_eq-Decides a b).0 h

-- a name has its old meaning, or the new one
first_or : (name : List ℕ) (m : Meaning) (names : NestedBlocks Meaning) (other : List ℕ) (x : Meaning)
    → found other (first_meaning name m names) ≡ Some x → (found other names ≡ Some x) ⊎ ((other ≡ name) × (x ≡ m))
first_or name m names other x h = go (is_some (found name names)) h
  where
    inner : (b : Bool) → bytes_eq name other ≡ b
        → option_or (if b then Some m else found_in other names.here) (found_outside other names.outer) ≡ Some x
        → (found other names ≡ Some x) ⊎ ((other ≡ name) × (x ≡ m))
    inner true e k = inr (sym (same_name name other e), sym (some_is m x k))
    inner false e k = inl k

    go : (b : Bool) → found other (if b then names else declared name m names) ≡ Some x
        → (found other names ≡ Some x) ⊎ ((other ≡ name) × (x ≡ m))
    go true k = inl k
    go false k = inner (bytes_eq name other) refl k

-- more of each kind
weaker : (n m : Numbering) (f g : List (List ℕ)) (name : List ℕ) (x : Meaning) → n.structs ≤ m.structs
    → n.variables ≤ m.variables
    → n.functions ≤ m.functions → ((k : ℕ) (a : List ℕ) → slice_get f k ≡ Some a → slice_get g k ≡ Some a)
    → IsNumbered n f name x → IsNumbered m g name x
weaker n m f g name (meaning.Struct k) a b c more h = omega (arith, a, h)
weaker n m f g name (meaning.Global k) a b c more h = omega (arith, b, h)
weaker n m f g name (meaning.Function k) a b c more h = (omega (arith, c, h.0), more k name h.1)
weaker n m f g name x a b c more h = absurd h

-- ---- declarations

pub none_numbered : AreNumbered no_numbers []
none_numbered = record { each = λ name m h. absurd (none_is m h); count = refl }

struct_numbered : (n : Numbering) (f : List (List ℕ)) (t : TypeSpec) → AreNumbered n f → AreNumbered (with_struct n t) f
struct_numbered n f t old =
    record {
      each = λ name x h. go name x (first_or t.name.name (meaning.Struct n.structs) n.names name x h);
      count = old.count;
    }
  where
    go : (name : List ℕ) (x : Meaning)
        → (found name n.names ≡ Some x) ⊎ ((name ≡ t.name.name) × (x ≡ meaning.Struct n.structs))
        → IsNumbered (with_struct n t) f name x
    go name x (inl h) =
        weaker n (with_struct n t) f f name x (omega arith) (omega arith) (omega arith) (λ k a e. e) (old.each name x h)
    go name x (inr e) = subst (IsNumbered (with_struct n t) f name) (sym e.1) (omega arith)

variable_numbered : (n : Numbering) (f : List (List ℕ)) (y : Ident) → AreNumbered n f
    → AreNumbered (with_variable n y) f
variable_numbered n f y old =
    record {
      each = λ name x h. go name x (first_or y.name (meaning.Global n.variables) n.names name x h);
      count = old.count;
    }
  where
    go : (name : List ℕ) (x : Meaning)
        → (found name n.names ≡ Some x) ⊎ ((name ≡ y.name) × (x ≡ meaning.Global n.variables))
        → IsNumbered (with_variable n y) f name x
    go name x (inl h) =
        weaker n (with_variable n y) f f name x (omega arith) (omega arith) (omega arith) (λ k a e. e)
        (old.each name x h)
    go name x (inr e) = subst (IsNumbered (with_variable n y) f name) (sym e.1) (omega arith)

function_numbered : (n : Numbering) (f : List (List ℕ)) (y : tree.Function) → AreNumbered n f
    → AreNumbered (with_function n y) (f ++ y.name.name ∷ [])
function_numbered n f y old =
    record {
      each = λ name x h. go name x (first_or y.name.name (meaning.Function n.functions) n.names name x h);
      count = ap (λ k. k + 1) old.count ∙ sym (length-append f (y.name.name ∷ []));
    }
  where
    go : (name : List ℕ) (x : Meaning)
        → (found name n.names ≡ Some x) ⊎ ((name ≡ y.name.name) × (x ≡ meaning.Function n.functions))
        → IsNumbered (with_function n y) (f ++ y.name.name ∷ []) name x
    go name x (inl h) =
        weaker n (with_function n y) f (f ++ y.name.name ∷ []) name x (omega arith) (omega arith) (omega arith)
        (λ k a e. still_there f (y.name.name ∷ []) k a e) (old.each name x h)
    go name x (inr e) =
        let here : slice_get (f ++ y.name.name ∷ []) n.functions ≡ Some y.name.name =
        subst (λ k. slice_get (f ++ y.name.name ∷ []) k ≡ Some y.name.name) (sym old.count) (at_end f y.name.name []) in
        subst (IsNumbered (with_function n y) (f ++ y.name.name ∷ []) name) (sym e.1)
        (omega arith, subst (λ a. slice_get (f ++ y.name.name ∷ []) n.functions ≡ Some a) (sym e.0) here)

structs_numbered : (n : Numbering) (f : List (List ℕ)) (l : List TypeSpec) → AreNumbered n f
    → AreNumbered (with_structs n l) f
structs_numbered n f [] old = old
structs_numbered n f (t ∷ l) old = structs_numbered (with_struct n t) f l (struct_numbered n f t old)

variables_numbered : (n : Numbering) (f : List (List ℕ)) (l : List Ident) → AreNumbered n f
    → AreNumbered (with_variables n l) f
variables_numbered n f [] old = old
variables_numbered n f (x ∷ l) old = variables_numbered (with_variable n x) f l (variable_numbered n f x old)

bindings_numbered : (n : Numbering) (f : List (List ℕ)) (l : List Binding) → AreNumbered n f
    → AreNumbered (with_bindings n l) f
bindings_numbered n f [] old = old
bindings_numbered n f (b ∷ l) old =
    bindings_numbered (with_variables n b.names) f l (variables_numbered n f b.names old)

pub all_numbered : (n : Numbering) (f : List (List ℕ)) (l : List Decl) → AreNumbered n f
    → AreNumbered (with_all_decls n l) (f ++ names_of l)
all_numbered n f [] old = subst (AreNumbered n) (sym (append-nil f)) old
all_numbered n f (tree.Types types at ∷ l) old =
    all_numbered (with_structs n types) f l (structs_numbered n f types old)
all_numbered n f (tree.Vars vars at ∷ l) old = all_numbered (with_bindings n vars) f l (bindings_numbered n f vars old)
all_numbered n f (tree.Func y ∷ l) old =
    subst (AreNumbered (with_all_decls (with_function n y) l)) (append_assoc f (y.name.name ∷ []) (names_of l))
    (all_numbered (with_function n y) (f ++ y.name.name ∷ []) l (function_numbered n f y old))
