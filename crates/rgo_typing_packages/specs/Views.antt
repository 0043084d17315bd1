-- The views: the plain data that contracts see in place of what the code keeps while it checks a package.
use Rattle.std.specs.Prelude.{◌≡◌, map, Option, Some, None}
use Rattle.rgo_ast.specs.Tree as tree
use Rattle.rgo_ast.specs.Tree.{Program}
use Rattle.rgo_ast.specs.Views.{type_expr_of}
use Rattle.rgo_ast.specs.declared.types.TypeExpr.{TypeExpr}
use Rattle.rgo_typing_rules.specs.Views.{type_of_kind, signature_of_kinds}
use Rattle.rgo_typing_packages.specs.Numbering.{Numbering}
use Rattle.rgo_typing_packages.specs.Packages.{package_of, signatures_in}
use Rattle.rgo_typing_packages.specs.Signatures.{Signatures}
use Rattle.rgo_typing_packages.specs.declared.packages.Declared.{Declared}
use Rattle.rgo_typing_packages.specs.declared.numbering.Numbering.{Numbering as CodeNumbering}
use Rattle.rgo_typing_packages.specs.declared.signatures.Signatures.{Signatures as CodeSignatures}

abbrev pub numbering_of : CodeNumbering → Numbering
numbering_of n = record {
  names = n.names;
  structs = n.structs;
  variables = n.variables;
  functions = n.functions;
}

abbrev pub signatures_of : CodeSignatures → Signatures
signatures_of s = record {
  seen = s.seen;
  structs = s.structs.items;
  variables = map type_of_kind s.variables.items;
  functions = map signature_of_kinds s.functions.items;
  typed_structs = s.typed_structs.items;
  typed_variables = s.typed_variables.items;
}

-- a type that may be left out
abbrev pub optional_type_expr_of : Option TypeExpr → Option tree.TypeExpr
optional_type_expr_of None = None
optional_type_expr_of (Some ty) = Some (type_expr_of ty)

-- the result of the declarations outside of functions
abbrev pub DeclaresPackage : Declared → Program → Type 0
DeclaresPackage d program =
    (d.package ≡ package_of program)
    × (d.structs.items ≡ (signatures_in program).typed_structs)
    × (d.variables.items ≡ (signatures_in program).typed_variables)
