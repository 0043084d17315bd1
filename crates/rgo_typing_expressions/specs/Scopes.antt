-- What a name means at a point of a program, and what a type means that is written there.
use Rattle.std.specs.Prelude.{ℕ, Bool, true, false, List, [], ◌∷◌, length, get_or, ◌++◌, Option, Some, None, if◌then◌else◌}
use Rattle.std.specs.Prelude.{bytes_eq, codes}
use Rattle.rgo_ast.specs.Tree as tree
use Rattle.rgo_typed.specs.declared.types.Type.{«Type»}
use Rattle.rgo_typed.specs.declared.types.Base.{Base}
use Rattle.rgo_typed.specs.declared.types.Base.TheVariants.{Int, Bool as Boolean, Pointer}
use Rattle.rgo_typing_rules.specs.Types.{spelled}
use Rattle.rgo_typing_rules.specs.declared.meanings.Meaning.{Meaning}
use Rattle.rgo_typing_rules.specs.declared.meanings.Meaning.TheVariants as meaning
use Rattle.rgo_typing_rules.specs.Meanings.{Signature}
use Rattle.rgo_typing_rules.specs.declared.builtins.Builtin.{Builtin}
use Rattle.rgo_typing_rules.specs.Builtins.{predeclared, named}
use Rattle.rgo_scopes.specs.Blocks.{found, declared, entered, block_left, no_names}
use Rattle.rgo_typing_expressions.specs.Packages.{Fields, Package, Scope, Context}
pub use Rattle.rgo_typing_operations.specs.Types.{int, bool}

-- the scope outside of functions, and before the first field or parameter of a list
abbrev pub no_locals : Scope
no_locals = record { locals = no_names; types = [] }

-- a struct without fields: the default of `fields_at`
abbrev pub no_fields : Fields
no_fields = record { numbers = no_names; types = [] }

-- a function without parameters and result: the default of `signature_at`
abbrev pub no_signature : Signature
no_signature = record { params = []; result_type = None }

-- Each number that a name means is below the length of its list. The defaults make these functions total and are never returned.
abbrev pub fields_at : Package → ℕ → Fields
fields_at p n = get_or p.structs n no_fields

-- the type of package variable n
abbrev pub variable_type_at : Package → ℕ → «Type»
variable_type_at p n = get_or p.variables n int

-- the parameters and the result of function n
abbrev pub signature_at : Package → ℕ → Signature
signature_at p n = get_or p.functions n no_signature

-- the type of local variable n, where n counts all variables of the function, also those of blocks that were left
abbrev pub local_at : Scope → ℕ → «Type»
local_at g n = get_or g.types n int

-- a builtin as the meaning of its name, if the name is one's
abbrev pub builtin_meaning : Option Builtin → Option Meaning
builtin_meaning None = None
builtin_meaning (Some b) = Some (meaning.Builtin b)

-- the words that each program has: `int bool true false nil`, `fmt` and the predeclared builtins
abbrev pub universe : Bool → List ℕ → Option Meaning
universe imported name =
    if bytes_eq name (codes "int") then Some (meaning.Basic Int) else
    (if bytes_eq name (codes "bool") then Some (meaning.Basic Boolean) else
    (if bytes_eq name (codes "true") then Some (meaning.Truth true) else
    (if bytes_eq name (codes "false") then Some (meaning.Truth false) else
    (if bytes_eq name (codes "nil") then Some meaning.Nil else
    (if bytes_eq name (codes "fmt") then Some (meaning.Package imported) else builtin_meaning (named predeclared name))))))

-- `global_meaning` by cases: whether the package declares the name
abbrev pub global_meaning_if : Package → Option Meaning → List ℕ → Option Meaning
global_meaning_if p (Some m) name = Some m
global_meaning_if p None name = universe p.imported name

-- the meaning of a name that is not a local variable: what the package declares, else what each program has
abbrev pub global_meaning : Package → List ℕ → Option Meaning
global_meaning p name = global_meaning_if p (found name p.names) name

-- `meaning_of` by cases: whether the name is a local variable's, which hides what the package declares
abbrev pub meaning_if : Package → Option ℕ → List ℕ → Option Meaning
meaning_if p (Some n) name = Some (meaning.Local n)
meaning_if p None name = global_meaning p name

-- what a name means: a local variable, else what it means in the package
abbrev pub meaning_of : Context → List ℕ → Option Meaning
meaning_of c name = meaning_if c.globals (found name c.scope.locals) name

-- a new local variable of this type
abbrev pub with_local : List ℕ → «Type» → Scope → Scope
with_local name ty g = record { locals = declared name (length g.types) g.locals; types = g.types ++ ty ∷ [] }

-- into a block, and out of one: its names go, but its numbers are not given again, so that a number is one variable of the function
abbrev pub inside : Scope → Scope
inside g = record { locals = entered g.locals; types = g.types }

-- back to the scope around the innermost block
abbrev pub outside : Scope → Scope
outside g = record { locals = block_left g.locals; types = g.types }

-- the same context with this scope
abbrev pub in_scope : Scope → Context → Context
in_scope g c = record { globals = c.globals; scope = g }

-- the base of a type, from what its name means
abbrev pub basic_base : Option Meaning → Base
basic_base (Some (meaning.Basic b)) = b
basic_base _ = Int

-- the same of the name after `*`: a pointer to its struct; Int where it is not a struct's, in a program that is refused
abbrev pub pointer_base : Option Meaning → Base
pointer_base (Some (meaning.Struct n)) = Pointer n
pointer_base _ = Int

-- the base of a type as it is written, inside all its slices and channels
abbrev pub base_of : Context → tree.TypeExpr → Base
base_of c (tree.Named x) = basic_base (meaning_of c x.name)
base_of c (tree.Pointer x at) = pointer_base (meaning_of c x.name)
base_of c (tree.Slice ty at) = base_of c ty
base_of c (tree.Chan ty at) = base_of c ty

-- the type that is written so
abbrev pub resolved : Context → tree.TypeExpr → «Type»
resolved c ty = spelled ty (base_of c ty)
