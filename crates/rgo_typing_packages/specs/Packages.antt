-- A whole package: its names, what they mean, and the checked nodes of all that is outside of function bodies. Types are resolved with
-- the meanings of names alone, before fields and signatures are known, so that declarations may refer to later ones.
use Rattle.std.specs.Prelude.{false, List, [], ◌++◌}
use Rattle.rgo_ast.specs.Tree.{Program}
use Rattle.rgo_typing_rules.specs.Sites.{Site}
use Rattle.rgo_typing_expressions.specs.Packages.{Package, Context}
use Rattle.rgo_typing_expressions.specs.Scopes.{no_locals}
use Rattle.rgo_typing_packages.specs.Imports.{all_import_fmt, import_sites}
use Rattle.rgo_typing_packages.specs.Numbering.{with_all_decls, no_numbers}
use Rattle.rgo_typing_packages.specs.Signatures.{Signatures, no_signatures, with_decls, decls_sites}

-- where no local variable is in scope
abbrev pub outside_functions : Package → Context
outside_functions p = record { globals = p; scope = no_locals }

-- names of the package by their meanings alone
abbrev pub named_package : Program → Package
named_package program = record {
  imported = all_import_fmt false program.imports;
  names = (with_all_decls no_numbers program.decls).names;
  structs = [];
  variables = [];
  functions = [];
}

-- all structs, variables and signatures of the program, each at its number
abbrev pub signatures_in : Program → Signatures
signatures_in program = with_decls (outside_functions (named_package program)) no_signatures program.decls

-- names, with all that they mean
abbrev pub whole_package : Package → Signatures → Package
whole_package p s = record {
  imported = p.imported;
  names = p.names;
  structs = s.structs;
  variables = s.variables;
  functions = s.functions;
}

-- the package of a program: all names outside of functions, and what they mean
abbrev pub package_of : Program → Package
package_of program = whole_package (named_package program) (signatures_in program)

-- the checked nodes in the order of checking: those of imports, and of types, package variables and signatures
abbrev pub package_sites : Program → List Site
package_sites program =
    import_sites false program.imports
    ++ decls_sites (outside_functions (named_package program)) no_signatures program.decls
