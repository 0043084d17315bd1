-- The imports of a program: whether `fmt` is among them, and their checked nodes.
use Rattle.std.specs.Prelude.{ℕ, Bool, ◌||◌, List, [], ◌∷◌, ◌++◌, bytes_eq, codes}
use Rattle.rgo_ast.specs.Tree.{Import}
use Rattle.rgo_ast.specs.declared.names.ImportPath.{ImportPath}
use Rattle.rgo_typing_rules.specs.Nodes as node
use Rattle.rgo_typing_rules.specs.Sites.{Site}

-- `fmt` is the only path that can be imported
abbrev pub is_fmt : List ℕ → Bool
is_fmt path = bytes_eq path (codes "fmt")

-- `fmt` was imported before, or is one of these paths
abbrev pub imports_fmt : Bool → List ImportPath → Bool
imports_fmt before [] = before
imports_fmt before (i ∷ l) = imports_fmt (before || is_fmt i.path) l

-- of imports that are declared together; `before` says that `fmt` was imported
abbrev pub path_sites : Bool → List ImportPath → List Site
path_sites before [] = []
path_sites before (i ∷ l) = (i.at, node.Import before i.path) ∷ path_sites (before || is_fmt i.path) l

-- of all imports, declaration after declaration
abbrev pub import_sites : Bool → List Import → List Site
import_sites before [] = []
import_sites before (i ∷ l) = path_sites before i.paths ++ import_sites (imports_fmt before i.paths) l

-- `fmt` was imported before, or one of these declarations imports it
abbrev pub all_import_fmt : Bool → List Import → Bool
all_import_fmt before [] = before
all_import_fmt before (i ∷ l) = all_import_fmt (imports_fmt before i.paths) l
